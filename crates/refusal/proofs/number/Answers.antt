-- Each arm of the match is the definition's clause: told which refusal it is, both compute to the same number.
use Rattle.refusal.proofs.Laws.{is_numbered}
use Rattle.refusal.proofs.number.Goals as goal

pub returns-in-Job : goal.returns-in-Job
returns-in-Job c = is_numbered c.in-Job.is

pub returns-in-Kind : goal.returns-in-Kind
returns-in-Kind c = is_numbered c.in-Kind.is

pub returns-in-Box : goal.returns-in-Box
returns-in-Box c = is_numbered c.in-Box.is

pub returns-in-State : goal.returns-in-State
returns-in-State c = is_numbered c.in-State.is

pub returns-in-Coord : goal.returns-in-Coord
returns-in-Coord c = is_numbered c.in-Coord.is

pub returns-in-Empty : goal.returns-in-Empty
returns-in-Empty c = is_numbered c.in-Empty.is

pub returns-in-Room : goal.returns-in-Room
returns-in-Room c = is_numbered c.in-Room.is

pub returns-in-Command : goal.returns-in-Command
returns-in-Command c = is_numbered c.in-Command.is

pub returns-in-Step : goal.returns-in-Step
returns-in-Step c = is_numbered c.in-Step.is

pub returns-in-Text : goal.returns-in-Text
returns-in-Text c = is_numbered c.in-Text.is

pub returns-in-Turn : goal.returns-in-Turn
returns-in-Turn c = is_numbered c.in-Turn.is

pub returns-in-Extent : goal.returns-in-Extent
returns-in-Extent c = is_numbered c.in-Extent.is

pub returns-in-Name : goal.returns-in-Name
returns-in-Name c = is_numbered c.in-Name.is

pub returns-in-Wire : goal.returns-in-Wire
returns-in-Wire c = is_numbered c.in-Wire.is

pub returns-in-Count : goal.returns-in-Count
returns-in-Count c = is_numbered c.in-Count.is

pub returns-in-NoParams : goal.returns-in-NoParams
returns-in-NoParams c = is_numbered c.in-NoParams.is

pub returns-in-CutParams : goal.returns-in-CutParams
returns-in-CutParams c = is_numbered c.in-CutParams.is

pub returns-in-Utf8 : goal.returns-in-Utf8
returns-in-Utf8 c = is_numbered c.in-Utf8.is

pub returns-in-Again : goal.returns-in-Again
returns-in-Again c = is_numbered c.in-Again.is

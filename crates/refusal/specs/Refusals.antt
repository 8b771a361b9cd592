-- Document 01, "Refusals by number", and document 02's rows as far as they are in: each refusal's number. "9 CUT becomes 17 NOPARAMS and 18 CUTPARAMS", so
-- no refusal has 9.
use Rattle.std.specs.Prelude.{ℕ}
use Rattle.refusal.specs.declared.Refusal.{Refusal}
use Rattle.refusal.specs.declared.Refusal.TheVariants.{Job, Kind, Box, State, Coord, Empty, Room, Command, Step}
use Rattle.refusal.specs.declared.Refusal.TheVariants.{Text, Turn, Extent, Name, Wire, Count, NoParams, CutParams, Utf8, Again}

abbrev pub number_of : Refusal → ℕ
number_of Job = 1
number_of Kind = 2
number_of Box = 3
number_of State = 4
number_of Coord = 5
number_of Empty = 6
number_of Room = 7
number_of Command = 8
number_of Step = 10
number_of Text = 11
number_of Turn = 12
number_of Extent = 13
number_of Name = 14
number_of Wire = 15
number_of Count = 16
number_of NoParams = 17
number_of CutParams = 18
number_of Utf8 = 22
number_of Again = 23

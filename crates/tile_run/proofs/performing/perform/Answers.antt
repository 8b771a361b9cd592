-- Each operation has its own call, whose promise is the definition's case.
use Rattle.tile_run.proofs.Working.{create_op, open_op, id_op, tag_op, close_op, abandon_op, add_op}
use Rattle.tile_run.proofs.performing.perform.Goals as goal

pub returns-in-Create : goal.returns-in-Create
returns-in-Create c =
    create_op _ _ c.args.op c.args.w _ _ _ c.keep.ensures _ _ _ _ _ c.in-Create.is c.text-text.ensures c.create.ensures

pub returns-in-Open : goal.returns-in-Open
returns-in-Open c =
    open_op _ _ c.args.op c.args.w _ _ _ c.keep-in-Open.ensures _ _ _ _ c.in-Open.is c.words-run.ensures c.before.before.before.before.«open».ensures

pub returns-in-SetId : goal.returns-in-SetId
returns-in-SetId c =
    id_op _ _ c.args.op c.args.w _ _ _ c.keep-in-SetId.ensures _ _ c.in-SetId.is c.set_id.ensures

pub returns-in-Tag : goal.returns-in-Tag
returns-in-Tag c =
    tag_op _ _ c.args.op c.args.w _ _ _ c.keep-in-Tag.ensures _ _ _ _ c.in-Tag.is c.text-text-in-Tag.ensures c.tag.ensures

pub returns-in-Close : goal.returns-in-Close
returns-in-Close c =
    close_op _ _ c.args.op c.args.w _ _ _ c.keep-in-Close.ensures _ c.in-Close.is c.close.ensures

pub returns-in-Abandon : goal.returns-in-Abandon
returns-in-Abandon c =
    abandon_op _ _ c.args.op c.args.w _ _ _ c.keep-in-Abandon.ensures _ c.in-Abandon.is c.abandon.ensures

pub returns-in-Add : goal.returns-in-Add
returns-in-Add c =
    add_op _ _ c.args.op c.args.w _ _ _ c.in-Add.is c.add.ensures

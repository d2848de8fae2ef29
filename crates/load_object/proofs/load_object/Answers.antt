-- `load_object::load_object` meets its contract: a refusal clears all that is lent.
use Rattle.std.proofs.Common.{sym}
use Rattle.load_object.specs.Core.{refused-done}
use Rattle.load_object.proofs.load_object.Goals as goal

pub returns-then-is_err : goal.returns-then-is_err
returns-then-is_err c =
    let t = c.try_load-loaded.auto in
    let k = c.clear.ensures in
    refused-done c.args.object.records _ _ _ _ _ _ _ _ _ c.try_load-loaded.result _ _ _ _ _ (sym c.if-is_err.ensures.value) c.try_load-loaded.ensures
    (rw t.sections at k.0) (rw t.programs at k.1) (rw t.maps at k.2) (rw t.relocations at k.3) (rw t.bytes at k.4)

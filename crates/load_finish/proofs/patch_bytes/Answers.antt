-- `load_finish::patch_bytes` meets its contract.
use Rattle.std.specs.Prelude.{◌≡◌, length}
use Rattle.std.proofs.Common.{◌∙◌, arith}
use Rattle.load_finish.specs.Finished.{untouched}
use Rattle.load_finish.proofs.patch_bytes.Goals as goal

pub returns-else-not-is_empty : goal.returns-else-not-is_empty
returns-else-not-is_empty c =
    let e : length c.args.list.entries.now ≡ 0 = grind arith in
    c.requires.2 ∙ untouched _ _ _ _ e

-- `load_finish::finish_bytes` meets its contract.
use Rattle.std.proofs.Common.{arith}
use Rattle.std.proofs.lemmas.Grind.{common_steps}
use Rattle.records.specs.View.{gap_of}
use Rattle.records.specs.Of.{of}
use Rattle.object.specs.View.{object_in}
use Rattle.patch_checks.specs.Lists.{patches_in}
use Rattle.load_finish.specs.Finished.{in-order, own-there, all_finished, functions-encoded}
use Rattle.load_finish.proofs.finish_bytes.Goals as goal

pub slice_bounds-patch_bytes-count : goal.slice_bounds-patch_bytes-count
slice_bounds-patch_bytes-count c = (in-order c.requires.2 c.requires.4).own

pub slice_bounds-patch_bytes-start : goal.slice_bounds-patch_bytes-start
slice_bounds-patch_bytes-start c = (in-order c.requires.2 c.requires.4).own

pub patch_bytes-requires : goal.patch_bytes-requires
patch_bytes-requires c = (c.requires.3, c.requires.1, own-there c.requires.2 c.requires.4)

pub slice_bounds-sanitize_code-count : goal.slice_bounds-sanitize_code-count
slice_bounds-sanitize_code-count c = (in-order c.requires.2 c.requires.4).code

pub slice_bounds-sanitize_code-start : goal.slice_bounds-sanitize_code-start
slice_bounds-sanitize_code-start c = (in-order c.requires.2 c.requires.4).code

pub slice_bounds-sanitize_code-end : goal.slice_bounds-sanitize_code-end
slice_bounds-sanitize_code-end c = let i = in-order c.requires.2 c.requires.4 in grind (arith, common_steps)

pub returns : goal.returns
returns c =
    let a = c.args in
    let enc = functions-encoded a.object.readable c.requires.0 (c.bytes_fit.ensures (gap_of a.object.records.view)) in
    all_finished c.requires.2 c.requires.4 (of object_in a.object.records) (patches_in c.args.list) c.args.rewrite c.patch_bytes.ensures enc c.sanitize_code.ensures

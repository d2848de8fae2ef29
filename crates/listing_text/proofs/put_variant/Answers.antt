-- `listing_text::put_variant` meets its contract: what lies between two starts of the table is the name.
use Rattle.text.specs.Pushed.{same_text}
use Rattle.listing_text.specs.Variants.{start-before, end-inside, name-found}
use Rattle.listing_text.proofs.put_variant.Goals as goal

pub slice_bounds-push-count : goal.slice_bounds-push-count
slice_bounds-push-count g c = start-before c.variant-i.result c.variant-i.ensures.1

pub slice_bounds-push-start : goal.slice_bounds-push-start
slice_bounds-push-start g c = start-before c.variant-i.result c.variant-i.ensures.1

pub slice_bounds-push-end : goal.slice_bounds-push-end
slice_bounds-push-end g c = end-inside c.variant-i.result c.variant-i.ensures.1

pub returns : goal.returns
returns g c =
    same_text g.row.N c.args.text.now (rw c.variant-i.ensures.0 (name-found c.args.number)) c.push.ensures

-- `text::Text::push_number` meets its contract: the fewest digits that hold the number are its decimal.
use Rattle.std.proofs.Common.{◌≡◌, ◌∙◌, arith, take}
use Rattle.model.specs.Listing.{decimal}
use Rattle.text.specs.Decimals.{decimal-is}
use Rattle.text.specs.Pushed.{same_text}
use Rattle.text.proofs.Text.push_number.Goals as goal

pub returns : goal.returns
returns g c =
    let a = c.args in
    let d = c.decimal-k in
    let e : take d.result d.new.out ≡ decimal a.n = d.ensures.digits ∙ decimal-is d.result a.n (omega arith) d.ensures.len in
    same_text g.row.N a.self.now e c.push.ensures

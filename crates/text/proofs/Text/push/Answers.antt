-- `text::Text::push` meets its contract: as many bytes as there is room for are copied behind the text.
use Rattle.std.proofs.Common.{◌≡◌, ◌∙◌, ◌+◌, arith, ap, length, take}
use Rattle.std.proofs.lemmas.Slice.{take-put_mid}
use Rattle.text.specs.Pushed.{copied, copied-length}
use Rattle.text.proofs.Text.push.Goals as goal

pub returns : goal.returns
returns g c =
    let t = c.self.inside in
    let n = c.min-n.result in
    let ys = c.copy_from_slice.new.self in
    let long : length t.bytes ≡ g.row.N = c.self.told in
    let is : ys ≡ take n c.args.s.now = c.copy_from_slice.ensures.after in
    rw (← c.self.view_is) (
    take-put_mid t.len _ t.bytes ys (t.len + n) (copied-length g.row.N t.len n t.bytes c.args.s.now ys long c.self.invariant c.min-n.ensures is) (omega (arith, long, c.self.invariant))
    ∙ copied g.row.N t.len n t.bytes c.args.s.now ys long c.self.invariant c.min-n.ensures is)

-- `until` meets its contract: the first `/` is where std finds it.
use Rattle.std.proofs.Common.{rules, tests, ◌≡◌, ◌∙◌, sym, eqb, position}
use Rattle.std.proofs.lemmas.Iterator.{YieldsList-from_slice}
use Rattle.std.proofs.lemmas.Iterator.Search.{position_from_yields_List}
use Rattle.program_section.proofs.Slices.{until_is}
use Rattle.program_section.proofs.until.Goals as goal

pub returns : goal.returns
returns c =
    let s = c.args.s.now in
    let e : c.position.result ≡ position (λ b. eqb b 47) s =
    position_from_yields_List (λ b. eqb b 47) _ _ c.position.result c.position.ensures.ran (YieldsList-from_slice s cc) (λ x b q k. search (rules, tests))
    in
    c.unwrap_or.ensures ∙ rw e (sym (until_is s))

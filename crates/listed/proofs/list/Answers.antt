-- `listed::list` meets its contract: what the load left is read back as its text, and the buffer has room for it.
use Rattle.model.specs.declared.Summary.{Summary}
use Rattle.model.specs.declared.Refusal.{Refusal}
use Rattle.std.specs.Prelude.{Result}
use Rattle.std.proofs.Common.{rules, ◌≡◌, false, List, [], ℕ, ◌+◌, ◌*◌, ◌<◌, ◌≤◌, length, ap, sym, ◌∙◌, arith}
use Rattle.model.specs.Bytes.{AllBytes}
use Rattle.model.specs.FunctionNumbers.{flat_room}
use Rattle.model.specs.Lent.{Outcome}
use Rattle.model.specs.declared.Room.{Room}
use Rattle.model.specs.Listing.{refusal_text, text_of}
use Rattle.encoding.specs.Code.{all-bytes}
use Rattle.guarantees.specs.WordsOfDemand3.{Input, input_bytes, outcome_on}
use Rattle.listing_laws.specs.Bound.{refusal-most}
use Rattle.listing_laws.specs.Numbers.{flat-answer, flat-tables}
use Rattle.listing_laws.specs.Text.{answer-fits, answer-text, text-most, long-text, short-text}
use Rattle.text.specs.Pushed.{same_text, whole-text}
use Rattle.listed.proofs.list.Goals as goal

pub returns-then-MOST-d : goal.returns-then-MOST-d
returns-then-MOST-d g c =
    let d : List ℕ = c.args.d.now in
    let law = g.met.L.Listed in
    let long : g.L.Listed.MOST < length (input_bytes (g.L.Listed.input d)) = rw (law.bytes d) (omega (arith, c.MOST.ensures, c.if-MOST-d.true)) in
    let e : refusal_text c.without_place.result ≡ g.L.Listed.text _ d = ap refusal_text (c.without_place.ensures ∙ rw c.TOO_LONG.ensures) ∙ sym (law.is _ d ∙ long-text _ _ (g.L.Listed.input d) _ long) in
    let h = rw e at (refusal-most c.without_place.result) in
    whole-text g.row.N (omega (arith, c.requires.0, h)) (same_text g.row.N [] e (rw c.requires.2 at c.push_refusal.ensures))

pub push_answer-requires : goal.push_answer-requires
push_answer-requires g c =
    let a = c.args in
    let x : Input = g.L.Listed.input a.d.now in
    let room : Room = flat_room a.sections.now a.programs.now a.functions.now a.maps.now a.relocations.now a.bytes.now in
    let o : Outcome = outcome_on x [] [] false room in
    let r : Result Summary Refusal = c.load-answer.result in
    let n : ℕ = length a.functions.now in
    let e = c.load-answer.ensures in
    (search rules, (c.requires.1, answer-fits x [] [] false room _ _ _ _ (flat-tables n o r _ _ _ _ _ _ e) r (flat-answer n o r _ _ _ _ _ _ e)))

pub returns : goal.returns
returns g c =
    let a = c.args in
    let d : List ℕ = a.d.now in
    let law = g.met.L.Listed in
    let x : Input = g.L.Listed.input d in
    let room : Room = flat_room a.sections.now a.programs.now a.functions.now a.maps.now a.relocations.now a.bytes.now in
    let o : Outcome = outcome_on x [] [] false room in
    let r : Result Summary Refusal = c.load-answer.result in
    let n : ℕ = length a.functions.now in
    let w = c.load-answer.ensures in
    let e : r ≡ o.reply = flat-answer n o r _ _ _ _ _ _ w in
    let short : length (input_bytes x) ≤ g.L.Listed.MOST = rw (law.bytes d) (omega (arith, c.MOST.ensures, c.if-MOST-d.false)) in
    let s : g.L.Listed.text room d ≡ text_of o = law.is room d ∙ short-text _ _ x room short in
    let small : AllBytes (input_bytes x) = rw (law.bytes d) (all-bytes d (λ k. (c.type_inv.d k).fits)) in
    let m : length (g.L.Listed.text room d) ≤ room.bytes + 10 * room.programs + 73 * room.functions + 3 * room.maps + 71 = rw s (text-most x [] [] false room small r e) in
    let t = answer-text x [] [] false room _ _ _ _ (flat-tables n o r _ _ _ _ _ _ w) r e ∙ sym s in
    whole-text g.row.N (omega (arith, c.requires.0, m)) (same_text g.row.N [] t (rw c.requires.2 at c.push_answer.ensures))

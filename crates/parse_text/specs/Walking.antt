-- What holds between two steps of the walk of a text section, and what it answers at each way out.
use Rattle.std.specs.Prelude.{◌≡◌, refl, Bool, true, false, List, [], ◌++◌, ℕ, suc, ◌+◌, ◌-◌, ◌<◌, ◌≤◌, eqb, ltb, length, take, drop, set, None, Option, Some}
use Rattle.std.proofs.Common.{sym, ap, ◌∙◌, append_assoc, append-nil, arith, add-one, ltb-false, length-set, take-append-drop, length-take-le, take-suc-set, drop-set-lt, drop-drop}
use Rattle.std.proofs.lemmas.Bool.{eqb-false}
use Rattle.lists.specs.Tab.{tab}
use Rattle.lists.specs.Tests.{not_some}
use Rattle.object_view.specs.declared.View.{View}
use Rattle.model.specs.declared.SectionRecord.{SectionRecord}
use Rattle.model.specs.declared.SymbolRecord.{SymbolRecord}
use Rattle.model.specs.declared.Refusal.{Refusal}
use Rattle.model.specs.Bytes.{or_else}
use Rattle.model.specs.Instruction.{invalid_program_code}
use Rattle.model.specs.Refusals.{refuse}
use Rattle.catalogue_laws.specs.ByNumber.{text_order, text_members}
use Rattle.catalogue_laws.specs.Shared.{Climbs, sorted-climbs}
use Rattle.records.specs.View.{symbol_at}
use Rattle.object.specs.View.{section_from, section_in, symbol_in}
use Rattle.parse_text.specs.Group.{address_in, text_group, text_in}
use Rattle.parse_text.specs.Ahead.{Ahead, ahead-start}
use Rattle.parse_text.specs.Parsed.{invalid_symbol, unknown_symbol, parsed_text, walk_from, kept_from, number_from, walk-at-end, walk-at-none, walk-at-refused, walk-at-met, Walked}

-- a symbol that is not refused has bytes, and they end inside the data
pub valid-size : (s : SectionRecord) (y : SymbolRecord) (o : ℕ) → invalid_symbol s y o ≡ None → (0 < y.size) × (o + y.size ≤ s.bytes.length)
unfolding invalid_symbol
valid-size s y o e = go (eqb y.size 0) (ltb s.bytes.length (o + y.size)) refl refl e
  where
    go : (a b : Bool) → eqb y.size 0 ≡ a → ltb s.bytes.length (o + y.size) ≡ b
        → or_else (refuse a 13 s.index y.index 0) (or_else (refuse b 14 s.index y.index 0) (refuse (invalid_program_code y.size) 15 s.index y.index 0)) ≡ None
        → (0 < y.size) × (o + y.size ≤ s.bytes.length)
    go true b p q f = not_some _ f
    go false true p q f = not_some _ f
    go false false p q f = let n : y.size ≡ 0 → ⊥ = eqb-false _ _ p in (omega arith, ltb-false _ _ q)

module _ (d t : List ℕ) (v : View) (s : SectionRecord) (out₀ : List ℕ) where
  -- at offset o of the data; the search has some of the group before it, and n numbers are kept
  pub record Walking (o : ℕ) (rest : List ℕ) (n : ℕ) (out : List ℕ) : Type 0 where
    pub steps : ℕ
    pub inside : o ≤ s.bytes.length
    pub enough : s.bytes.length ≤ steps + o
    pub room : n + length rest ≤ length out₀
    pub long : length out ≡ length out₀
    pub ahead : Ahead (address_in d t v) (text_in d t v (section_from d t v s)) (s.address + o) (text_group d t v rest)
    pub refusal : walk_from d t v s s.bytes.length 0 ≡ walk_from d t v s steps o
    pub numbers : kept_from d t v s s.bytes.length 0 ≡ take n out ++ kept_from d t v s steps o
    pub behind : drop n out ≡ drop n out₀

  text-climbs : Climbs (address_in d t v) 0 (text_in d t v (section_from d t v s))
  unfolding text_order
  text-climbs =
      sorted-climbs (address_in d t v)
      (text_members v.order (tab (section_in d t v) v.sections) (symbol_in d t v) v.symbols (section_from d t v s))

  pub walking_start : (group : List ℕ) → length group ≤ length out₀ → text_group d t v group ≡ text_in d t v (section_from d t v s) → Walking 0 group 0 out₀
  walking_start group l e =
      record {
        steps = s.bytes.length;
        inside = omega arith;
        enough = omega arith;
        room = omega arith;
        long = refl;
        ahead = rw e (ahead-start (address_in d t v) (text_in d t v (section_from d t v s)) (s.address + 0) text-climbs);
        refusal = refl;
        numbers = refl;
        behind = refl;
      }

  -- ---- the ways out

  module _ (o : ℕ) (rest : List ℕ) (n : ℕ) (out : List ℕ) (g : Walking o rest n out) where
    abbrev kept : List ℕ
    kept = kept_from d t v s s.bytes.length 0

    done : (q : Option Refusal) → walk_from d t v s g.steps o ≡ q → kept_from d t v s g.steps o ≡ [] → Walked d t v s out₀ (parsed_text q n) out
    done q e f =
        let front : kept ≡ take n out = g.numbers ∙ rw (f, append-nil) in
        let reach : length kept ≡ n = ap length front ∙ length-take-le n out (let i = g.long in let r = g.room in omega arith) in
        record {
          answer = rw (reach, g.refusal, e);
          numbers = sym (take-append-drop n out) ∙ rw (← front, g.behind, reach);
        }

    pub walked_end : s.bytes.length ≤ o → Walked d t v s out₀ (parsed_text None n) out
    walked_end l = let m = walk-at-end d t v s g.steps o l in done None m.0 m.1

    module _ (l : o < s.bytes.length) where
      more : 0 < g.steps
      more = let m = g.enough in omega arith

      -- 12
      pub walked-unknown : number_from d t v s o ≡ None → Walked d t v s out₀ (parsed_text (Some (unknown_symbol s)) n) out
      walked-unknown q = let m = walk-at-none d t v s g.steps o l more q in done (Some (unknown_symbol s)) m.0 m.1

      -- 13 to 15
      pub walked-invalid : (j : ℕ) (r : Refusal) → number_from d t v s o ≡ Some j → invalid_symbol s (symbol_at d t v j) o ≡ Some r
          → Walked d t v s out₀ (parsed_text (Some r) n) out
      walked-invalid j r q e = let m = walk-at-refused d t v s g.steps o l more j r q e in done (Some r) m.0 m.1

      -- the symbol met is kept
      pub walking-next : (j : ℕ) (left : List ℕ) → number_from d t v s o ≡ Some j → invalid_symbol s (symbol_at d t v j) o ≡ None → length left < length rest
          → Ahead (address_in d t v) (text_in d t v (section_from d t v s)) (s.address + (o + (symbol_at d t v j).size)) (text_group d t v left)
          → Walking (o + (symbol_at d t v j).size) left (n + 1) (set out n j)
      walking-next j left q e a c =
          let m = walk-at-met d t v s g.steps o l more j q e in
          let z = valid-size s (symbol_at d t v j) o e in
          let positive : 0 < (symbol_at d t v j).size = z.0 in
          let enough : s.bytes.length ≤ g.steps + o = g.enough in
          let room : n + length rest ≤ length out₀ = g.room in
          let long : length out ≡ length out₀ = g.long in
          let below : n < length out = omega arith in
          record {
            steps = g.steps - 1;
            inside = z.1;
            enough = omega arith;
            room = omega arith;
            long = length-set out n j ∙ long;
            ahead = c;
            refusal = g.refusal ∙ m.0;
            numbers = g.numbers ∙ rw (m.1, add-one, take-suc-set out n j below, append_assoc);
            behind =
                rw (add-one, drop-set-lt (suc n) out n j (omega arith))
                (rw (← add-one, ← drop-drop 1 n out, g.behind, drop-drop));
          }

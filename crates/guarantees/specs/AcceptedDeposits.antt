-- What holds of a deposit that passes numbers 1 to 3: its object is `Stated`, and its symbols' indexes are at least 1.
use Rattle.std.specs.Prelude.{◌≡◌, true, ◌&&◌, not, List, [], ◌∷◌, ◌++◌, map, ℕ, zero, suc, ◌*◌, ◌<◌, ◌/◌, ltb, length, take, drop, None}
use Rattle.std.proofs.Common.{ap, inl, inr, arith, ltb-true}
use Rattle.std.proofs.lemmas.Bool.{not-false}
use Rattle.model.specs.declared.Head.{Head}
use Rattle.model.specs.declared.SectionRecord.{SectionRecord}
use Rattle.model.specs.declared.SymbolRecord.{SymbolRecord}
use Rattle.model.specs.Bytes.{or_else, ◌∈◌}
use Rattle.model.specs.Object.{Symbol}
use Rattle.model.specs.Refusals.{no_section, no_symbol}
use Rattle.model.specs.Deposit.{frame_ok, stream_in, stream_of, head_of, Stream, parts_from, parts_of, all, all_zero, head_ok, length_ok, section_ok, symbol_ok, relocation_ok, rising_from, records_ok, stream_rules, stream_ok, section_of, symbol_of, stated_by, object_of, has_btf, of_deposit, deposit_refusal}
use Rattle.guarantees.specs.OptionsAndLists.{or_else-none, refuse-none, both_true, map-∈}
use Rattle.encoding.specs.Code.{all_drop, all_take}
use Rattle.guarantees.specs.AcceptedObjects.{Rising, Stated}
use Rattle.model.specs.Bytes.{AllBytes}

-- ---- what number 2 makes sure of

pub all_join : (a b : List ℕ) → AllBytes a → AllBytes b → AllBytes (a ++ b)
all_join [] b h k = k
all_join (x ∷ a) b h k = (h.0, all_join a b h.1 k)

stream-bytes : (n : ℕ) (d : List ℕ) → AllBytes d → AllBytes (stream_in n d)
unfolding stream_in
stream-bytes zero d h = tt
stream-bytes (suc n) d h = all_join (take 508 d) (stream_in n (drop 512 d)) (all_take 508 d h) (stream-bytes n (drop 512 d) (all_drop 512 d h))

parts-bytes : (h : Head) (s : List ℕ) → AllBytes s → AllBytes (parts_from h s).bytes
unfolding parts_from
parts-bytes h s a =
    let s₁ = drop 32 s in
    let s₂ = drop (48 * h.sections) s₁ in
    let s₃ = drop (40 * h.symbols) s₂ in
    let s₄ = drop (16 * h.relocations) s₃ in
    all_take h.bytes (drop h.names s₄)
    (all_drop h.names s₄ (all_drop (16 * h.relocations) s₃ (all_drop (40 * h.symbols) s₂ (all_drop (48 * h.sections) s₁ (all_drop 32 s a)))))

rising-stated : (p : Stream) (n : ℕ) (rs : List SectionRecord) → rising_from n (map (λ r. r.index.0) rs) ≡ true → Rising n (map (section_of p) rs)
unfolding rising_from section_of
rising-stated p n [] e = tt
rising-stated p n (r ∷ rs) e =
    let (a, b) = both_true (ltb n r.index.0) (rising_from r.index.0 (map (λ x. x.index.0) rs)) e in (ltb-true _ _ a, rising-stated p r.index.0 rs b)

-- 'Section and symbol indexes are at least 1'
above-stated : (p : Stream) (n : ℕ) (rs : List SymbolRecord) (y : Symbol) → rising_from n (map (λ r. r.index.0) rs) ≡ true → y ∈ map (symbol_of p) rs → n < y.index.0
unfolding rising_from symbol_of
above-stated p n [] y e m = absurd m
above-stated p n (r ∷ rs) y e (inl q) =
    let k : n < r.index.0 = ltb-true _ _ (both_true (ltb n r.index.0) (rising_from r.index.0 (map (λ x. x.index.0) rs)) e).0 in
    let i : y.index.0 ≡ r.index.0 = ap (λ x. x.index.0) q in
    omega arith
above-stated p n (r ∷ rs) y e (inr m) =
    let (a, b) = both_true (ltb n r.index.0) (rising_from r.index.0 (map (λ x. x.index.0) rs)) e in
    let k : n < r.index.0 = ltb-true _ _ a in
    let l : r.index.0 < y.index.0 = above-stated p r.index.0 rs y b m in
    omega arith

section-bytes : (p : Stream) (r : SectionRecord) → AllBytes p.bytes → AllBytes (section_of p r).bytes
unfolding section_of
section-bytes p r h = all_take r.bytes.length _ (all_drop r.bytes.at _ h)

-- the rules that are read below
pub record Ruled (p : Stream) : Type 0 where
  pub sections : rising_from 0 (map (λ r. r.index.0) p.sections) ≡ true
  pub symbols : rising_from 0 (map (λ r. r.index.0) p.symbols) ≡ true

ruled : (p : Stream) → records_ok p ≡ true → Ruled p
unfolding records_ok
ruled p e =
    let ss = rising_from 0 (map (λ r. r.index.0) p.sections) in
    let ys = rising_from 0 (map (λ r. r.index.0) p.symbols) in
    let tail = all (symbol_ok p) p.symbols && all relocation_ok p.relocations in
    let (a, b) = both_true (all_zero p.rest) (ss && (all (section_ok p) p.sections && (ys && tail))) e in
    let (c, d) = both_true ss (all (section_ok p) p.sections && (ys && tail)) b in
    let (f, g) = both_true (all (section_ok p) p.sections) (ys && tail) d in
    record { sections = c; symbols = (both_true ys tail g).0 }

pub deposit-ruled : (d : List ℕ) → stream_ok d ≡ true → Ruled (parts_of (stream_of d))
unfolding stream_ok stream_rules
deposit-ruled d e =
    let s = stream_of d in
    ruled (parts_of s) (both_true (length_ok (head_of s) s) (records_ok (parts_of s)) (both_true (head_ok (head_of s)) (length_ok (head_of s) s && records_ok (parts_of s)) e).1).1

-- a deposit of bytes that passes number 2 states an object whose section indexes rise from 1 and whose data are bytes
pub deposit-stated : (d : List ℕ) → AllBytes d → stream_ok d ≡ true → Stated (object_of d)
unfolding object_of stated_by stream_of parts_of
deposit-stated d h e =
    let p = parts_of (stream_of d) in
    record {
      rising = rising-stated p 0 p.sections (deposit-ruled d e).sections;
      bytes = λ s m.
          let (r, n, q) = map-∈ (section_of p) s p.sections m in
          rw q (section-bytes p r (parts-bytes (head_of (stream_of d)) (stream_of d) (stream-bytes (length d / 512) d h)));
    }

pub symbols-from-1 : (d : List ℕ) (y : Symbol) → stream_ok d ≡ true → y ∈ (object_of d).symbols → 0 < y.index.0
unfolding object_of stated_by
symbols-from-1 d y e m = let p = parts_of (stream_of d) in above-stated p 0 p.symbols y (deposit-ruled d e).symbols m

-- ---- what 1 to 3 don't refuse

pub deposit-passed : (d : List ℕ) → deposit_refusal d ≡ None → stream_ok d ≡ true
unfolding deposit_refusal
deposit-passed d e =
    let two = of_deposit 2 (not (stream_ok d)) in
    let three = of_deposit 3 (has_btf (object_of d)) in
    let (a, b) = or_else-none (of_deposit 1 (not (frame_ok d))) (or_else two three) e in
    not-false _ (refuse-none _ 2 no_section no_symbol 0 (or_else-none two three b).0)

-- 'Why a deposit goes back', numbers 1 to 3: what opening a deposit answers, and the same by places.
use Rattle.object_view.specs.declared.View.{View}
use Rattle.object_view.specs.Refused.{without_place}
use Rattle.deposit_rules.specs.declared.RecordFault.{RecordFault}
use Rattle.std.specs.Prelude.{⊤, ◌≡◌, refl, Bool, true, false, cond, ◌&&◌, not, List, ℕ, ◌+◌, ◌*◌, ◌/◌, ◌%◌, ◌≤◌, eqb, leb, ltb, length, Err, Ok, Result}
use Rattle.std.proofs.Common.{ap, ◌∙◌, arith, leb-true, eqb-true}
use Rattle.std.proofs.Math.Bool.{and_assoc, and-eq-true_iff}
use Rattle.std.proofs.lemmas.Bool.{eqb-false, not-true}
use Rattle.model.specs.declared.Head.{Head}
use Rattle.model.specs.declared.Refusal.{Refusal}
use Rattle.model.specs.Bytes.{maybe, or_else}
use Rattle.model.specs.Deposit.{most_bytes, checks_ok, frame_ok, stream_of, head_of, parts_from, parts_of, end_of, head_ok, length_ok, records_ok, stream_rules, stream_ok, object_of, has_btf, of_deposit, deposit_refusal}
use Rattle.stream.specs.Framed.{length-stream}
use Rattle.records.specs.Records.{head_at}
use Rattle.records.specs.View.{deposit_view}
use Rattle.deposit_rules.specs.Parts.{head-stream}
use Rattle.deposit_rules.specs.Rules.{sections_ok, symbols_ok, relocations_ok, rest_ok, records_ok_at, some_btf, records-ok, btf-is}

-- the view of a deposit that passes, or why it goes back
unfoldable pub opened_of : List ℕ → Result View Refusal
opened_of d = maybe (deposit_refusal d) (Ok (deposit_view (head_of (stream_of d)))) (λ r. Err r)

-- ---- by places

-- as long as the blocks' stream
abbrev pub stream_length : List ℕ → ℕ
stream_length d = length d / 512 * 508

unfoldable pub stream_ok_at : List ℕ → Head → Bool
stream_ok_at d h = head_ok h && (leb (end_of h) (stream_length d) && (ltb (stream_length d) (end_of h + 508) && records_ok_at d h))

unfoldable pub checked_stream : List ℕ → Head → Result ⊤ RecordFault
checked_stream d h = cond (stream_ok_at d h) (cond (some_btf d h) (Err RecordFault.Btf) (Ok tt)) (Err RecordFault.Broken)

-- ---- they are the model's

both : (a b : Bool) → (a && b) ≡ true → (a ≡ true) × (b ≡ true)
both a b e = (and-eq-true_iff a b).0 e

-- what number 1 leaves
pub record Framed (d : List ℕ) : Type 0 where
  pub some : 512 ≤ length d
  pub most : length d ≤ 16777216
  pub whole : length d % 512 ≡ 0

pub framed : (d : List ℕ) → frame_ok d ≡ true → Framed d
unfolding frame_ok
framed d e =
    let s = both (not (eqb (length d) 0)) (leb (length d) most_bytes && (eqb (length d % 512) 0 && checks_ok (length d / 512) 1 d)) e in
    let t = both (leb (length d) most_bytes) (eqb (length d % 512) 0 && checks_ok (length d / 512) 1 d) s.1 in
    let u = both (eqb (length d % 512) 0) (checks_ok (length d / 512) 1 d) t.1 in
    let w : length d % 512 ≡ 0 = eqb-true _ _ u.0 in
    let z : length d ≡ 0 → ⊥ = eqb-false (length d) 0 (not-true (eqb (length d) 0) s.0) in
    record { some = omega arith; most = leb-true _ _ t.0; whole = w }

module _ (d : List ℕ) (f : Framed d) where
  -- number 2
  pub stream-ok : stream_ok d ≡ stream_ok_at d (head_at d)
  unfolding stream_ok stream_rules parts_of stream_ok_at length_ok
  stream-ok =
      rw (head-stream d f.whole f.some, length-stream d f.whole)
      (ap (λ (b : Bool). head_ok h && b) (and_assoc (leb (end_of h) (stream_length d)) (ltb (stream_length d) (end_of h + 508)) (records_ok (parts_from h (stream_of d))) ∙ go (leb (end_of h) (stream_length d)) refl))
    where
      h : Head
      h = head_at d

      go : (b : Bool) → leb (end_of h) (stream_length d) ≡ b
          → (b && (ltb (stream_length d) (end_of h + 508) && records_ok (parts_from h (stream_of d)))) ≡ (b && (ltb (stream_length d) (end_of h + 508) && records_ok_at d h))
      go true t = ap (λ (r : Bool). ltb (stream_length d) (end_of h + 508) && r) (records-ok d f.whole h (leb-true _ _ t))
      go false t = refl

  -- number 3
  pub btf : stream_ok_at d (head_at d) ≡ true → has_btf (object_of d) ≡ some_btf d (head_at d)
  unfolding stream_ok_at records_ok_at object_of parts_of
  btf e =
      let h : Head = head_at d in
      let s = both (head_ok h) (leb (end_of h) (stream_length d) && (ltb (stream_length d) (end_of h + 508) && records_ok_at d h)) e in
      let t = both (leb (end_of h) (stream_length d)) (ltb (stream_length d) (end_of h + 508) && records_ok_at d h) s.1 in
      let u = both (ltb (stream_length d) (end_of h + 508)) (records_ok_at d h) t.1 in
      let v = both (rest_ok d h) (symbols_ok d h && (relocations_ok d h && sections_ok d h)) u.1 in
      let w = both (symbols_ok d h) (relocations_ok d h && sections_ok d h) v.1 in
      let x = both (relocations_ok d h) (sections_ok d h) w.1 in
      rw (head-stream d f.whole f.some) (btf-is d f.whole h (leb-true _ _ t.0) x.1)

-- ---- what opening answers

-- the answer of a deposit whose blocks pass, by what its stream says
abbrev pub opened_by : Result ⊤ RecordFault → Head → Result View Refusal
opened_by (Err RecordFault.Broken) h = Err (without_place 2)
opened_by (Err RecordFault.Btf) h = Err (without_place 3)
opened_by (Ok tt) h = Ok (deposit_view h)

pub opened-1 : (d : List ℕ) → frame_ok d ≡ false → opened_of d ≡ Err (without_place 1)
unfolding opened_of deposit_refusal
opened-1 d e = rw e

pub opened-checked : (d : List ℕ) → frame_ok d ≡ true → opened_of d ≡ opened_by (checked_stream d (head_at d)) (head_at d)
unfolding opened_of deposit_refusal checked_stream
opened-checked d e = rw (e, stream-ok d f, head-stream d f.whole f.some) (go (stream_ok_at d h) refl)
  where
    f : Framed d
    f = framed d e

    h : Head
    h = head_at d

    last : (t : Bool) → maybe (of_deposit 3 t) (Ok (deposit_view h)) (λ r. Err r) ≡ opened_by (cond t (Err RecordFault.Btf) (Ok tt)) h
    last true = refl
    last false = refl

    go : (b : Bool) → stream_ok_at d h ≡ b
        → maybe (or_else (of_deposit 2 (not b)) (of_deposit 3 (has_btf (object_of d)))) (Ok (deposit_view h)) (λ r. Err r)
        ≡ opened_by (cond b (cond (some_btf d h) (Err RecordFault.Btf) (Ok tt)) (Err RecordFault.Broken)) h
    go true p = rw (btf d f p) (last (some_btf d h))
    go false p = refl

-- the stream of one that passes ends inside its blocks
pub fine_end : (d : List ℕ) (h : Head) → checked_stream d h ≡ (Ok tt) → end_of h ≤ stream_length d
unfolding checked_stream stream_ok_at
fine_end d h e = go (stream_ok_at d h) refl e
  where
    go : (b : Bool) → stream_ok_at d h ≡ b → cond {A = Result ⊤ RecordFault} b (cond (some_btf d h) (Err RecordFault.Btf) (Ok tt)) (Err RecordFault.Broken) ≡ Ok tt → end_of h ≤ stream_length d
    go true p q =
        let s = both (head_ok h) (leb (end_of h) (stream_length d) && (ltb (stream_length d) (end_of h + 508) && records_ok_at d h)) p in
        let t = both (leb (end_of h) (stream_length d)) (ltb (stream_length d) (end_of h + 508) && records_ok_at d h) s.1 in
        leb-true _ _ t.0
    go false p q = let z : ◌≡◌ {A = ℕ} 0 1 = cc in absurd (omega arith)

-- The parts of a file by their places: headers, symbols and relocation entries by number, and names where they lie.
use Rattle.std.specs.Prelude.{◌≡◌, true, length, get_or, take}
use Rattle.std.proofs.Math.Path.{refl, ap}
use Rattle.std.proofs.Common.{sym, ◌∙◌, not-suc-le-zero, le_of_suc-le-suc, add-zero, length-take, drop-drop, take-take}
use mathlib.Core.List.{List, [], ◌∷◌}
use Prim.Native.Nat.{ℕ, zero, suc, ◌+◌, ◌-◌, ◌*◌, ◌<◌, ◌≤◌, min}
use Rattle.std.proofs.Math.Nat.{mul-zero, mul-suc, sub-zero, zero-sub, suc-sub-suc}
use native.Mathlib.Omega.{arith}
use Rattle.std.proofs.Math.Dec.{eqb-suc-zero}
use Rattle.std.proofs.Math.ListN.{drop}
use Rattle.std.proofs.Math.Seq.{slice, take-nil}
use Rattle.lists.specs.Tab.{tab, is-tab}
use Rattle.lists.specs.Tests.{true-not-false}
use Rattle.model.specs.declared.Endianness.{Endianness}
use Rattle.model.specs.Bytes.{part, records}
use Rattle.model.specs.LicenceVersion.{has_zero}
use Rattle.model.specs.Elf.{numbered_records, Header, File, entry_size, entry_count, strings_of, up_to_zero, file_reloc, table_relocs, file_symbol, file_symbols}

module _ {A : Type 0} (g : ℕ → List ℕ → A) (w : ℕ) where
  length-numbered : (i n : ℕ) (s : List ℕ) → length (numbered_records g w i n s) ≡ n
  unfolding numbered_records
  length-numbered i zero s = refl
  length-numbered i (suc n) s = ap suc (length-numbered (suc i) n (drop w s))

  get_d_numbered : (i n : ℕ) (s : List ℕ) (k : ℕ) (x : A) → k < n → get_or (numbered_records g w i n s) k x ≡ g (i + k) (part s (w * k) w)
  unfolding numbered_records
  get_d_numbered i zero s k x h = absurd (not-suc-le-zero h)
  get_d_numbered i (suc n) s zero x h = rw (mul-zero, add-zero)
  get_d_numbered i (suc n) s (suc k) x h =
      let e : w + w * k ≡ w * suc k = omega (arith, mul-suc w k) in
      let j : suc i + k ≡ i + suc k = omega arith in
      get_d_numbered (suc i) n (drop w s) k x (le_of_suc-le-suc h)
      ∙ ap (λ (m : ℕ). g m (take w (drop (w * k) (drop w s)))) j
      ∙ ap (λ (t : List ℕ). g (i + suc k) (take w t)) (drop-drop (w * k) w s ∙ ap (λ (m : ℕ). drop m s) e)

  -- n numbered records, by place
  pub numbered-tab : (f : List ℕ) (at i n : ℕ) → numbered_records g w i n (drop at f) ≡ tab (λ k. g (i + k) (part f (at + w * k) w)) n
  numbered-tab f at i n =
      is-tab (numbered_records g w i n (drop at f)) (λ k. g (i + k) (part f (at + w * k) w)) n (g 0 []) (length-numbered i n (drop at f))
      (λ k l. get_d_numbered i n (drop at f) k (g 0 []) l ∙ ap (λ (t : List ℕ). g (i + k) (take w t)) (drop-drop (w * k) at f))

module _ {A : Type 0} (g : List ℕ → A) (w : ℕ) where
  length-records : (n : ℕ) (s : List ℕ) → length (records g w n s) ≡ n
  unfolding records
  length-records zero s = refl
  length-records (suc n) s = ap suc (length-records n (drop w s))

  get_or-records : (n : ℕ) (s : List ℕ) (i : ℕ) (x : A) → i < n → get_or (records g w n s) i x ≡ g (part s (w * i) w)
  unfolding records
  get_or-records zero s i x h = absurd (not-suc-le-zero h)
  get_or-records (suc n) s zero x h = rw mul-zero
  get_or-records (suc n) s (suc i) x h =
      let e : w + w * i ≡ w * suc i = omega (arith, mul-suc w i) in
      get_or-records n (drop w s) i x (le_of_suc-le-suc h) ∙ ap (λ (t : List ℕ). g (take w t)) (drop-drop (w * i) w s ∙ ap (λ (k : ℕ). drop k s) e)

  pub records-tab : (f : List ℕ) (at n : ℕ) → records g w n (drop at f) ≡ tab (λ i. g (part f (at + w * i) w)) n
  records-tab f at n =
      is-tab (records g w n (drop at f)) (λ i. g (part f (at + w * i) w)) n (g []) (length-records n (drop at f))
      (λ i l. get_or-records n (drop at f) i (g []) l ∙ ap (λ (t : List ℕ). g (take w t)) (drop-drop (w * i) at f))

-- the symbols of a table
pub symbols-tab : (f : List ℕ) (p : File) (t : Header)
    → file_symbols f p t ≡ tab (λ k. file_symbol p.order (strings_of f p t.link) (1 + k) (part f (t.offset + 24 + 24 * k) 24)) (entry_count t - 1)
unfolding file_symbols
symbols-tab f p t = numbered-tab (file_symbol p.order (strings_of f p t.link)) 24 f (t.offset + 24) 1 (entry_count t - 1)

-- the entries of a relocation table
pub relocs-tab : (f : List ℕ) (o : Endianness) (t : Header)
    → table_relocs f o t ≡ tab (λ k. file_reloc o (part f (t.offset + entry_size t * k) (entry_size t))) (entry_count t)
unfolding table_relocs
relocs-tab f o t = records-tab (file_reloc o) (entry_size t) f t.offset (entry_count t)

-- a name and its zero lie inside its string table
name-inside : (s : List ℕ) → has_zero s ≡ true → length (up_to_zero s) < length s
unfolding has_zero up_to_zero
name-inside [] e = true-not-false (sym e)
name-inside (zero ∷ s) e = omega arith
name-inside (suc b ∷ s) e = let h : length (up_to_zero s) < length s = name-inside s (rw (eqb-suc-zero b) at e) in omega arith

-- a name is the first bytes of its string table from its offset on
name-is : (s : List ℕ) → up_to_zero s ≡ take (length (up_to_zero s)) s
unfolding up_to_zero
name-is [] = refl
name-is (zero ∷ s) = refl
name-is (suc b ∷ s) = ap {B = List ℕ} (λ r. suc b ∷ r) (name-is s)

drop-take : (k n : ℕ) (l : List ℕ) → drop k (take n l) ≡ take (n - k) (drop k l)
drop-take zero n l = ap (λ (m : ℕ). take m l) (sym (sub-zero n))
drop-take (suc k) zero l = ap (λ (m : ℕ). take m (drop (suc k) l)) (sym (zero-sub (suc k)))
drop-take (suc k) (suc n) [] = sym (take-nil (suc n - suc k))
drop-take (suc k) (suc n) (x ∷ l) = drop-take k n l ∙ ap (λ (m : ℕ). take m (drop k l)) (sym (suc-sub-suc n k))

-- a string table from at up to e, from offset k on
pub table-from : (f : List ℕ) (at e k : ℕ) → drop k (part f at (e - at)) ≡ slice (at + k) e f
table-from f at e k = ap (drop k) (sym (drop-take at e f)) ∙ drop-drop k at (take e f)

-- the same part, counted from the file's front
pub part-part : (f : List ℕ) (at n k w : ℕ) → k + w ≤ n → part (part f at n) k w ≡ part f (at + k) w
part-part f at n k w h =
    ap (λ (t : List ℕ). take w t) (drop-take k n (drop at f) ∙ ap (λ (t : List ℕ). take (n - k) t) (drop-drop k at f))
    ∙ take-take w (n - k) (drop (at + k) f) (omega arith)

-- a name where it lies in the file: in a string table of size bytes at a place, from offset k on
pub name-place : (f : List ℕ) (at size k : ℕ) → has_zero (drop k (part f at size)) ≡ true
    → (up_to_zero (drop k (part f at size)) ≡ part f (at + k) (length (up_to_zero (drop k (part f at size)))))
    × (k + length (up_to_zero (drop k (part f at size))) < size)
name-place f at size k e =
    let s : List ℕ = drop k (part f at size) in
    let c : s ≡ take (size - k) (drop (at + k) f) = drop-take k size (drop at f) ∙ ap (λ (t : List ℕ). take (size - k) t) (drop-drop k at f) in
    let h : length (up_to_zero s) < length s = name-inside s e in
    let m : length s ≡ min (size - k) (length (drop (at + k) f)) = ap length c ∙ length-take (size - k) (drop (at + k) f) in
    (name-is s ∙ ap (λ (t : List ℕ). take (length (up_to_zero s)) t) c ∙ take-take (length (up_to_zero s)) (size - k) (drop (at + k) f) (omega arith), omega arith)

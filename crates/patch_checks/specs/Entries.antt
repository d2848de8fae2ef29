-- The entries of a patch list by number, and the patches that they stand for.
use Rattle.std.specs.Prelude.{◌≡◌, Bool, true, false, cond, ◌&&◌, leb, ltb, length, take}
use Rattle.std.proofs.Math.Path.{refl, ap}
use Rattle.std.proofs.Common.{◌∙◌, ⊎_elim, not-suc-le-zero, le_of_suc-le-suc, le_trans, eq-or-lt_of_le, length-take, length-drop, drop-drop, get_or-take, get_or-drop}
use mathlib.Core.List.{List}
use Prim.Native.Nat.{ℕ, zero, suc, ◌+◌, ◌-◌, ◌*◌, ◌/◌, ◌<◌, ◌≤◌, min}
use native.Mathlib.Omega.{arith}
use borrow.Author.Tests.{leb-true, leb-false, le-leb, lt-leb, ltb-true, ltb-false}
use Rattle.std.proofs.Math.ListN.{get_or, drop}
use Rattle.lists.specs.Part.{length_part}
use Rattle.lists.specs.Tab.{tab, is-tab}
use Rattle.lists.specs.Tests.{both_true}
use Rattle.object_view.specs.declared.View.{View}
use Rattle.patch_symbols.specs.Search.{Searchable, by_name}
use Rattle.model.specs.declared.Range.{Range}
use Rattle.model.specs.Bytes.{part, records, inside}
use Rattle.model.specs.Object.{Patch}
use Rattle.model.specs.PatchList.{patch_from, patches_of}
use Rattle.patch_checks.specs.declared.Entry.{Entry}

-- how many entries a list of numbers has: the last may be short
abbrev pub entry_count : List ℕ → ℕ
entry_count entries = (length entries + 4) / 5

abbrev range : ℕ → ℕ → Range
range at n = record { at = at; length = n }

-- entry e, counted from 0; numbers that are not lent are 0
unfoldable pub patch_entry_at : List ℕ → ℕ → Entry
patch_entry_at es e =
    record {
      whole = leb (5 * e + 5) (length es);
      name = range (get_or es (5 * e) 0) (get_or es (5 * e + 1) 0);
      bytes = range (get_or es (5 * e + 2) 0) (get_or es (5 * e + 3) 0);
      mark = get_or es (5 * e + 4) 0;
    }

-- the longer of a name so far and one of n bytes, unless it is longer than any name of a symbol
unfoldable pub longer : ℕ → ℕ → ℕ
longer bytes n = cond (ltb 65535 n) bytes (cond (ltb bytes n) n bytes)

-- how many bytes the longest name of the first e entries has that a symbol may bear
unfoldable pub longest : List ℕ → ℕ → ℕ
longest es zero = 0
longest es (suc e) = longer (longest es e) (patch_entry_at es e).name.length

longer-both : (bytes n : ℕ) → (bytes ≤ longer bytes n) × (n ≤ 65535 → n ≤ longer bytes n)
unfolding longer
longer-both bytes n = go (ltb 65535 n) (ltb bytes n) refl refl
  where
    go : (a b : Bool) → ltb 65535 n ≡ a → ltb bytes n ≡ b → (bytes ≤ cond a bytes (cond b n bytes)) × (n ≤ 65535 → n ≤ cond a bytes (cond b n bytes))
    go true b p q = let l : 65535 < n = ltb-true _ _ p in (omega arith, λ h. let no : ⊥ = omega arith in absurd no)
    go false true p q = let l : bytes < n = ltb-true _ _ q in (omega arith, λ h. omega arith)
    go false false p q = let l : n ≤ bytes = ltb-false _ _ q in (omega arith, λ h. omega arith)

longest-most : (es : List ℕ) (k e : ℕ) → e < k → (patch_entry_at es e).name.length ≤ 65535 → (patch_entry_at es e).name.length ≤ longest es k
unfolding longest
longest-most es zero e h s = absurd (not-suc-le-zero h)
longest-most es (suc k) e h s =
    let both = longer-both (longest es k) (patch_entry_at es k).name.length in
    ⊎_elim (λ q. rw q (both.1 (rw q at s))) (λ l. le_trans (longest-most es k e l s) both.0) (eq-or-lt_of_le (le_of_suc-le-suc h))

-- all symbols, sorted so that the name of each entry is found
abbrev pub NamesFound : List ℕ → List ℕ → View → List ℕ → List ℕ → Type 0
NamesFound d t v es order = (e : ℕ) → e < entry_count es → Searchable d t v order (patch_entry_at es e).name.length

-- the longest name says how many bytes are enough
pub all_named : (d t : List ℕ) (v : View) (es order : List ℕ) → order ≡ by_name d t v (longest es (entry_count es)) → NamesFound d t v es order
all_named d t v es order is e l = record { bytes = longest es (entry_count es); enough = longest-most es (entry_count es) e l; is = is }

-- what an entry stands for
unfoldable pub patch_by : List ℕ → Entry → Patch
patch_by lent x =
    record {
      inside = x.whole && (inside x.name.at x.name.length (length lent) && inside x.bytes.at x.bytes.length (length lent));
      name = part lent x.name.at x.name.length;
      bytes = part lent x.bytes.at x.bytes.length;
      mark = x.mark;
    }

abbrev pub patch_at : List ℕ → List ℕ → ℕ → Patch
patch_at entries lent e = patch_by lent (patch_entry_at entries e)

module _ {A : Type 0} (f : List ℕ → A) (w : ℕ) where
  length-records : (n : ℕ) (s : List ℕ) → length (records f w n s) ≡ n
  unfolding records
  length-records zero s = refl
  length-records (suc n) s = ap suc (length-records n (drop w s))

module _ (f : List ℕ → Patch) where
  get_or-records : (n : ℕ) (s : List ℕ) (i : ℕ) (x : Patch) → i < n → get_or (records f 5 n s) i x ≡ f (part s (5 * i) 5)
  unfolding records
  get_or-records zero s i x h = absurd (not-suc-le-zero h)
  get_or-records (suc n) s zero x h = refl
  get_or-records (suc n) s (suc i) x h =
      let e : 5 + 5 * i ≡ 5 * suc i = omega arith in
      get_or-records n (drop 5 s) i x (le_of_suc-le-suc h) ∙ ap (λ (t : List ℕ). f (take 5 t)) (drop-drop (5 * i) 5 s ∙ ap (λ (k : ℕ). drop k s) e)

module _ (entries lent : List ℕ) where
  number : (e k : ℕ) → k < 5 → get_or (part entries (5 * e) 5) k 0 ≡ get_or entries (5 * e + k) 0
  number e k h = get_or-take 5 (drop (5 * e) entries) k 0 h ∙ get_or-drop (5 * e) entries k 0

  whole : (e : ℕ) → leb 5 (length (part entries (5 * e) 5)) ≡ leb (5 * e + 5) (length entries)
  whole e = go (leb (5 * e + 5) (length entries)) refl
    where
      l : length (part entries (5 * e) 5) ≡ min 5 (length entries - 5 * e)
      l = length-take 5 (drop (5 * e) entries) ∙ ap (min 5) (length-drop (5 * e) entries)

      go : (b : Bool) → leb (5 * e + 5) (length entries) ≡ b → leb 5 (length (part entries (5 * e) 5)) ≡ b
      go true q = let m : 5 * e + 5 ≤ length entries = leb-true _ _ q in le-leb 5 (length (part entries (5 * e) 5)) (omega (arith, l))
      go false q = let m : length entries < 5 * e + 5 = leb-false _ _ q in lt-leb 5 (length (part entries (5 * e) 5)) (omega (arith, l))

  patch-is : (e : ℕ) → patch_from lent (part entries (5 * e) 5) ≡ patch_at entries lent e
  unfolding patch_from patch_by patch_entry_at
  patch-is e =
      let n₀ : get_or (part entries (5 * e) 5) 0 0 ≡ get_or entries (5 * e) 0 = number e 0 (omega arith) ∙ ap (λ k. get_or entries k 0) (omega arith) in
      rw (whole e, n₀, number e 1 (omega arith), number e 2 (omega arith), number e 3 (omega arith), number e 4 (omega arith))

  pub patches-are : patches_of entries lent ≡ tab (patch_at entries lent) (entry_count entries)
  unfolding patches_of
  patches-are =
      is-tab (records (patch_from lent) 5 (entry_count entries) entries) (patch_at entries lent) (entry_count entries) (patch_at entries lent 0)
      (length-records (patch_from lent) 5 (entry_count entries) entries)
      (λ i l. get_or-records (patch_from lent) (entry_count entries) entries i (patch_at entries lent 0) l ∙ patch-is i)

-- where the ranges of an entry lie inside what is lent
module _ (lent : List ℕ) (x : Entry) where
  pub lent-ranges : (patch_by lent x).inside ≡ true
      → (x.name.at + x.name.length ≤ length lent) × (x.bytes.at + x.bytes.length ≤ length lent)
  unfolding patch_by
  lent-ranges e =
      let (p, q) = both_true x.whole _ e in
      let (a, b) = both_true (leb (x.name.at + x.name.length) (length lent)) (leb (x.bytes.at + x.bytes.length) (length lent)) q in
      (leb-true _ _ a, leb-true _ _ b)

  pub bytes-length : (patch_by lent x).inside ≡ true → length (patch_by lent x).bytes ≡ x.bytes.length
  unfolding patch_by
  bytes-length e = length_part lent x.bytes.at x.bytes.length (lent-ranges e).1

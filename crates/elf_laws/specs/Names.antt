-- 26 on a name by one length: how far its table goes on in letters, the bytes from 1 to 127.
use Rattle.std.specs.Prelude.{◌≡◌, refl, Bool, true, false, cond, ◌&&◌, List, [], ◌∷◌, ℕ, zero, suc, eqb, leb, length, get_or}
use Rattle.std.proofs.Common.{sym, ap, ◌∙◌}
use Rattle.std.proofs.Math.Bool.{and-false, and_comm, and_assoc}
use Rattle.std.proofs.Math.Dec.{leb-zero, leb-suc-suc, eqb-suc-zero}
use Rattle.lists.specs.Tests.{true-not-false}
use Rattle.model.specs.LicenceVersion.{has_zero}
use Rattle.model.specs.Deposit.{all}
use Rattle.model.specs.Elf.{up_to_zero}
use Rattle.model.specs.ElfRefusals.{string_ok}

-- how many at the front pass the test
unfoldable pub run : (ℕ → Bool) → List ℕ → ℕ
run ok [] = 0
run ok (b ∷ bs) = cond (ok b) (suc (run ok bs)) 0

abbrev low : ℕ → Bool
low b = leb b 127

abbrev pub letter : ℕ → Bool
letter b = leb 1 b && leb b 127

letter-by-low : (b : ℕ) → letter (suc b) ≡ low (suc b)
letter-by-low b = rw (leb-suc-suc 0 b, leb-zero b)

-- a zero comes after the letters: inside the table, since what stands past its end counts as 1
zero-next : (s : List ℕ) → (has_zero s && all low (up_to_zero s)) ≡ eqb (get_or s (run letter s) 1) 0
unfolding has_zero up_to_zero run all
zero-next [] = refl
zero-next (zero ∷ s) = refl
zero-next (suc b ∷ s) = rw (eqb-suc-zero b, letter-by-low b) (go (low (suc b)) (zero-next s))
  where
    go : (c : Bool) → (has_zero s && all low (up_to_zero s)) ≡ eqb (get_or s (run letter s) 1) 0
        → (has_zero s && (c && all low (up_to_zero s))) ≡ eqb (get_or (suc b ∷ s) (cond c (suc (run letter s)) 0) 1) 0
    go true h = h
    go false h = and-false (has_zero s) ∙ sym (eqb-suc-zero b)

-- the length of a name that a zero ends
pub letters-length : (s : List ℕ) → eqb (get_or s (run letter s) 1) 0 ≡ true → length (up_to_zero s) ≡ run letter s
unfolding up_to_zero run
letters-length [] e = refl
letters-length (zero ∷ s) e = refl
letters-length (suc b ∷ s) e = rw (letter-by-low b) (go (low (suc b)) (letters-length s) (rw (letter-by-low b) at e))
  where
    go : (c : Bool) → (eqb (get_or s (run letter s) 1) 0 ≡ true → length (up_to_zero s) ≡ run letter s)
        → eqb (get_or (suc b ∷ s) (cond c (suc (run letter s)) 0) 1) 0 ≡ true → suc (length (up_to_zero s)) ≡ cond c (suc (run letter s)) 0
    go true r h = ap suc (r h)
    go false r h = true-not-false (sym h ∙ eqb-suc-zero b)

-- 26 on a name that begins there
pub string-by-letters : (s : List ℕ) → string_ok s ≡ (eqb (get_or s (run letter s) 1) 0 && leb (run letter s) 65535)
unfolding string_ok
string-by-letters s =
    ap (λ (c : Bool). has_zero s && c) (and_comm (leb (length (up_to_zero s)) 65535) (all low (up_to_zero s)))
    ∙ sym (and_assoc (has_zero s) (all low (up_to_zero s)) (leb (length (up_to_zero s)) 65535))
    ∙ rw (zero-next s) (go (eqb (get_or s (run letter s) 1) 0) (letters-length s))
  where
    go : (c : Bool) → (c ≡ true → length (up_to_zero s) ≡ run letter s) → (c && leb (length (up_to_zero s)) 65535) ≡ (c && leb (run letter s) 65535)
    go true h = ap (λ (n : ℕ). leb n 65535) (h refl)
    go false h = refl

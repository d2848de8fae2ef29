-- Bytes compared as slices: what `==` answers is the model's `same`.
use Rattle.std.specs.Prelude.{◌≡◌, refl, List, [], ◌∷◌, ℕ, eqb, ◌&&◌}
use Rattle.std.specs.Str.{bytes_eq}
use Rattle.std.proofs.Common.{sym, ap₂}
use Rattle.std.proofs.lemmas.Bool.Decides.{same_from_decides, Decides-eqb}
use Rattle.model.specs.Bytes.{same}

eqb-swap : (x y : ℕ) → eqb x y ≡ eqb y x
eqb-swap x y =
    same_from_decides (eqb x y) (eqb y x) (Decides-eqb x y) (λ h. sym ((Decides-eqb y x).0 h), λ e. (Decides-eqb y x).1 (sym e))

-- `s == w`
pub same-eq : (w s : List ℕ) → bytes_eq s w ≡ same w s
unfolding same
same-eq [] [] = refl
same-eq [] (y ∷ ys) = refl
same-eq (x ∷ xs) [] = refl
same-eq (x ∷ xs) (y ∷ ys) = ap₂ ◌&&◌ (eqb-swap y x) (same-eq xs ys)

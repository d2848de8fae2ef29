-- The first section of a name, by its number; those of the two names that are looked for.
use Rattle.std.proofs.Math.Path.{◌≡◌, refl, ap}
use Rattle.std.proofs.Common.{sym, ◌∙◌, add-one}
use Rattle.std.specs.Prelude.{Bool, List, [], ◌∷◌, None, Option, Some}
use Rattle.std.specs.Option.{option_or}
use Rattle.std.specs.Bool.{then_some}
use Rattle.std.proofs.Math.Bool.{true, false, cond}
use Prim.Native.Nat.{ℕ, zero, suc, ◌+◌, ◌<◌}
use native.Mathlib.Omega.{arith}
use Rattle.lists.specs.Tab.{tab}
use Rattle.object_view.specs.declared.View.{View}
use Rattle.model.specs.Bytes.{ascii, same, first_in, find, or_else}
use Rattle.catalogue_laws.specs.Numbers.{up_to, first_in-append}
use Rattle.object.specs.View.{section_in}
use Rattle.parse_first.specs.declared.Named.{Named}

found-or : (o : Option ℕ) (b : Bool) (i : ℕ) → or_else o (cond b (Some i) None) ≡ option_or o (then_some b i)
found-or (Some k) b i = refl
found-or None true i = refl
found-or None false i = refl

-- ---- the first number below n that passes

module _ (p : ℕ → Bool) where
  abbrev pub first_with_name : ℕ → Option ℕ
  first_with_name n = find p (up_to n)

  pub first-zero : first_with_name 0 ≡ None
  unfolding find first_in tab
  first-zero = refl

  pub first_next : (i : ℕ) → first_with_name (i + 1) ≡ or_else (first_with_name i) (cond (p i) (Some i) None)
  unfolding find first_in tab
  first_next i = ap first_with_name (add-one i) ∙ first_in-append (λ x. cond (p x) (Some x) None) (up_to i) (i ∷ []) ∙ ap (or_else (first_with_name i)) (alone (cond (p i) (Some i) None))
    where
      alone : (o : Option ℕ) → or_else o None ≡ o
      alone None = refl
      alone (Some j) = refl

  pub first_below : (n i : ℕ) → first_with_name n ≡ Some i → i < n
  unfolding find first_in tab
  first_below zero i e = let z : ◌≡◌ {A = ℕ} 0 1 = cc in absurd (omega arith)
  first_below (suc n) i e =
      go (first_with_name n) (p n) (first_below n i) (sym (first_in-append (λ x. cond (p x) (Some x) None) (up_to n) (n ∷ [])) ∙ e)
    where
      go : (o : Option ℕ) (b : Bool) → (o ≡ Some i → i < n) → or_else o (or_else (cond b (Some n) None) None) ≡ Some i → i < suc n
      go (Some j) b f g = omega (arith, f g)
      go None true f g = let q : Some n ≡ Some i = g in let r : n ≡ i = cc in omega arith
      go None false f g = let z : ◌≡◌ {A = ℕ} 0 1 = cc in absurd (omega arith)

-- ---- sections by name

module _ (d t : List ℕ) (v : View) (word : List ℕ) where
  -- whether section i is named exactly so
  abbrev pub named_at : ℕ → Bool
  named_at i = same word (section_in d t v i).name

  -- the first section of that name
  unfoldable pub number_named : Option ℕ
  number_named = first_with_name named_at v.sections

-- ---- the two names

module _ (d t : List ℕ) (v : View) where
  -- among the first n sections
  abbrev pub named_below : ℕ → Named
  named_below n =
      record {
        license = first_with_name (named_at d t v (ascii "license")) n;
        version = first_with_name (named_at d t v (ascii "version")) n;
      }

  abbrev pub named_in : Named
  named_in = record { license = number_named d t v (ascii "license"); version = number_named d t v (ascii "version") }

  -- what was found before section i, and with it
  abbrev pub with_section : ℕ → Named → Named
  with_section i f =
      record {
        license = option_or f.license (then_some (named_at d t v (ascii "license") i) i);
        version = option_or f.version (then_some (named_at d t v (ascii "version") i) i);
      }

  pub named_none : named_below 0 ≡ record { license = None; version = None }
  named_none = rw (first-zero (named_at d t v (ascii "license")), first-zero (named_at d t v (ascii "version")))

  pub named-next : (i : ℕ) → named_below (i + 1) ≡ with_section i (named_below i)
  named-next i = rw (
    first_next (named_at d t v (ascii "license")) i,
    first_next (named_at d t v (ascii "version")) i,
    found-or (first_with_name (named_at d t v (ascii "license")) i) (named_at d t v (ascii "license") i) i,
    found-or (first_with_name (named_at d t v (ascii "version")) i) (named_at d t v (ascii "version") i) i,
  )

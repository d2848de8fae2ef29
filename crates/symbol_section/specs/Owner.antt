-- The number of the section that has an index, and of the one that a symbol lies in: `owner` and `home` of a deposit's records.
use Rattle.std.specs.Prelude.{◌≡◌, Bool, true, false, ◌&&◌, List, ℕ, ◌<◌, ◌≤◌, ltb, None, Option, Some}
use Rattle.std.proofs.Math.Path.{refl}
use Rattle.std.specs.Bool.{then_some}
use Rattle.std.proofs.Common.{sym, ⊎_elim, le_refl, eq-or-lt_of_le, lt_trans, arith}
use borrow.Author.Tests.{eqb-true, eq-eqb, ne_eqb, ltb-true, ltb-false, lt-ltb}
use Rattle.std.proofs.Math.Dec.{eqb}
use Rattle.lists.specs.Tests.{true-not-false, both_true}
use Rattle.object_view.specs.declared.View.{View}
use Rattle.model.specs.declared.SymbolRecord.{SymbolRecord}
use Rattle.model.specs.Bytes.{maybe}
use Rattle.model.specs.Deposit.{unless_none}
use Rattle.records.specs.View.{section_at, symbol_at}
use Rattle.records.specs.Readable.{SectionsRise}
use Rattle.catalogue_laws.specs.SectionsPrograms.{owner, owner-is, none-up, home}
use Rattle.object.specs.View.{section_from, symbol_from, section_in, symbol_in, rising}

module _ (d t : List ℕ) (v : View) where
  -- r records have indexes below k, and no other
  pub record FirstNotBelow (k r : ℕ) : Type 0 where
    pub within : r ≤ v.sections
    pub below : (i : ℕ) → i < r → (section_at d t v i).index.0 < k
    pub above : (i : ℕ) → r ≤ i → i < v.sections → k ≤ (section_at d t v i).index.0

  -- section record i has index k
  abbrev pub has_index : ℕ → ℕ → Bool
  has_index k i = ltb i v.sections && eqb (section_at d t v i).index.0 k

  -- the number of the section that has index k
  abbrev pub owner_in : ℕ → Option ℕ
  owner_in k = owner v.order (section_in d t v) v.sections (symbol_in d t v) v.symbols k

  -- the section that a symbol lies in, by its record; 0 where there is none
  abbrev pub home_of : SymbolRecord → ℕ
  home_of y = maybe (unless_none y.section.0 y.section) 0 (λ k. maybe (owner_in k.0) 0 (λ i. i))

  abbrev pub home_in : ℕ → ℕ
  home_in j = home v.order (section_in d t v) v.sections (symbol_in d t v) v.symbols j

  pub home-by-record : (j : ℕ) → home_in j ≡ home_of (symbol_at d t v j)
  unfolding symbol_from
  home-by-record j = refl

  owned : SectionsRise d t v → (i : ℕ) → i < v.sections → owner_in (section_at d t v i).index.0 ≡ Some i
  unfolding section_from
  owned rise i l = owner-is v.order (section_in d t v) v.sections (symbol_in d t v) v.symbols (rising d t v rise) i l

  nobody : (k : ℕ) → ((i : ℕ) → i < v.sections → (section_at d t v i).index.0 ≡ k → ⊥) → owner_in k ≡ None
  unfolding owner section_from
  nobody k n =
      none-up v.order (section_in d t v) v.sections (symbol_in d t v) v.symbols (λ i. eqb (section_at d t v i).index.0 k) v.sections
      (λ i l. ne_eqb (section_at d t v i).index.0 k (n i l))

  module _ (rise : SectionsRise d t v) (k r : ℕ) where
    found_at : r < v.sections → (section_at d t v r).index.0 ≡ k → owner_in k ≡ Some r
    found_at l e = rw (← e, owned rise r l)

    pub found : has_index k r ≡ true → Some r ≡ owner_in k
    found h =
        let (l, e) = both_true (ltb r v.sections) (eqb (section_at d t v r).index.0 k) h in
        sym (found_at (ltb-true r v.sections l) (eqb-true (section_at d t v r).index.0 k e))

    not_found : FirstNotBelow k r → has_index k r ≡ false → owner_in k ≡ None
    not_found f h = rw (nobody k none_has)
      where
        n : r < v.sections → (section_at d t v r).index.0 ≡ k → ⊥
        n l e = true-not-false (rw (lt-ltb r v.sections l, eq-eqb (section_at d t v r).index.0 k e) at h)

        none_has : (i : ℕ) → i < v.sections → (section_at d t v i).index.0 ≡ k → ⊥
        none_has i l e = go (ltb i r) refl
          where
            go : (b : Bool) → ltb i r ≡ b → ⊥
            go true t = omega (arith, f.below i (ltb-true i r t))
            go false t =
                ⊎_elim (λ q. n (rw q l) (rw q e)) (λ q. omega (arith, rise r i q l, f.above r (le_refl r) (lt_trans q l))) (eq-or-lt_of_le (ltb-false i r t))

    pub found_first : FirstNotBelow k r → then_some (has_index k r) r ≡ owner_in k
    found_first f = go (has_index k r) refl
      where
        go : (b : Bool) → has_index k r ≡ b → then_some b r ≡ owner_in k
        go true h = found h
        go false h = sym (not_found f h)

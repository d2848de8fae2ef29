-- No name is longer than 65,535 bytes.
use Rattle.std.specs.Prelude.{◌≡◌, refl, Bool, true, false, List, [], ℕ, zero, suc, ◌<◌, ◌≤◌, length}
use Rattle.std.proofs.Common.{ap, ◌∙◌, arith}
use Rattle.object_view.specs.declared.View.{View}
use Rattle.lists.specs.Tab.{tab}
use Rattle.model.specs.Bytes.{keep}
use Rattle.stream.specs.Stream.{length-bytes}
use Rattle.records.specs.Readable.{Readable}
use Rattle.orders.specs.Keys.{same-is}
use Rattle.catalogue_laws.specs.Numbers.{up_to, keep_append}
use Rattle.object.specs.View.{symbol_from, symbol_in}
use Rattle.patch_symbols.specs.declared.Bearer.{Bearer}
use Rattle.patch_symbols.specs.Bearers.{bearer_of, bears, bearers_in}

keep-none : (p : ℕ → Bool) (n : ℕ) → ((j : ℕ) → j < n → p j ≡ false) → keep p (up_to n) ≡ []
unfolding keep tab
keep-none p zero h = refl
keep-none p (suc n) h = keep_append p (up_to n) _ ∙ rw (keep-none p n (λ j l. h j (omega arith)), h n (omega arith))

module _ (d t : List ℕ) (v : View) (r : Readable d t v) where
  name-short : (j : ℕ) → j < v.symbols → length (symbol_in d t v j).name ≤ 65535
  unfolding symbol_from
  name-short j l = rw length-bytes (r.symbol-name j l).short

  module _ (word : List ℕ) (long : 65535 < length word) where
    not-borne : (j : ℕ) → j < v.symbols → bears d t v word j ≡ false
    not-borne j l = go (bears d t v word j) refl
      where
        go : (b : Bool) → bears d t v word j ≡ b → bears d t v word j ≡ false
        go true e = let no : ⊥ = omega (arith, ap length (same-is word (symbol_in d t v j).name e), name-short j l) in absurd no
        go false e = e

    pub too_long : bearer_of (bearers_in d t v word) ≡ Bearer.Nothing
    unfolding bearers_in
    too_long = rw (keep-none (bears d t v word) v.symbols not-borne)

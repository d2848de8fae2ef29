-- The defined text among symbol numbers.
use Rattle.std.specs.Prelude.{◌≡◌, refl, true, false, List, [], ◌∷◌, ℕ}
use Rattle.lists.specs.Tab.{tab}
use Rattle.object_view.specs.declared.View.{View}
use Rattle.model.specs.Bytes.{keep}
use Rattle.model.specs.Object.{Section}
use Rattle.orders.specs.Sort.{sorted}
use Rattle.catalogue_laws.specs.ByNumber.{is_defined_text, members, text_members, text_order}
use Rattle.object.specs.View.{symbol_in, section_in}

module _ (d t : List ℕ) (v : View) where
  abbrev pub address_in : ℕ → ℕ
  address_in j = (symbol_in d t v j).address

  -- the defined text among symbol numbers
  unfoldable pub text_group : List ℕ → List ℕ
  text_group group = keep (λ j. is_defined_text (symbol_in d t v j)) group

  -- a section's defined text in order of address
  abbrev pub text_in : Section → List ℕ
  text_in s = text_order v.order (tab (section_in d t v) v.sections) (symbol_in d t v) v.symbols s

  pub group-end : text_group [] ≡ []
  unfolding text_group keep
  group-end = refl

  -- the group of no symbols is a section's text in an object that has none
  pub no_text : (s : Section) → v.symbols ≡ 0 → text_group [] ≡ text_in s
  unfolding text_order text_members members keep sorted tab text_group
  no_text s e = rw e

  module _ (j : ℕ) (group : List ℕ) where
    pub group-text : is_defined_text (symbol_in d t v j) ≡ true → text_group (j ∷ group) ≡ j ∷ text_group group
    unfolding text_group keep
    group-text e = rw e

    pub group-other : is_defined_text (symbol_in d t v j) ≡ false → text_group (j ∷ group) ≡ text_group group
    unfolding text_group keep
    group-other e = rw e

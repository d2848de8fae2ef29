-- One step of the search for a text address, by the record of the number that is next.
use Rattle.std.specs.Prelude.{◌≡◌, Bool, true, false, List, [], ◌∷◌, ℕ, ◌<◌, None, Some}
use Rattle.std.proofs.Common.{sym, ◌∙◌}
use Rattle.std.proofs.Math.Path.{ap}
use Rattle.object_view.specs.declared.View.{View}
use Rattle.model.specs.declared.SectionRecord.{SectionRecord}
use Rattle.model.specs.declared.SymbolRecord.{SymbolRecord}
use Rattle.catalogue_laws.specs.Shared.{first_at}
use Rattle.records.specs.View.{symbol_at}
use Rattle.object.specs.View.{section_from, symbol_from, defined_record, text-by-record}
use Rattle.parse_text.specs.Group.{address_in, text_group, text_in, group-end, group-text, group-other}
use Rattle.parse_text.specs.Ahead.{Ahead, ahead-below, ahead-met, ahead_past, ahead-lost, ahead_none}

module _ (d t : List ℕ) (v : View) (s : SectionRecord) (a : ℕ) where
  abbrev all : List ℕ
  all = text_in d t v (section_from d t v s)

  -- the search has these numbers before it
  abbrev pub SearchStands : List ℕ → Type 0
  SearchStands rest = Ahead (address_in d t v) all a (text_group d t v rest)

  pub search-end : SearchStands [] → first_at (address_in d t v) a all ≡ None
  search-end g = ahead_none (address_in d t v) all a (rw (group-end d t v) at g)

  module _ (j : ℕ) (rest : List ℕ) (y : SymbolRecord) (e : y ≡ symbol_at d t v j) (g : SearchStands (j ∷ rest)) where
    here : address_in d t v j ≡ y.address
    unfolding symbol_from
    here = ap (λ r. r.address) (sym e)

    kind : (b : Bool) → defined_record y ≡ b → defined_record (symbol_at d t v j) ≡ b
    kind b f = ap defined_record (sym e) ∙ f

    pub search-other : defined_record y ≡ false → SearchStands rest
    search-other f = rw (group-other d t v j rest (text-by-record d t v (symbol_at d t v j) ∙ kind false f)) at g

    module _ (f : defined_record y ≡ true) where
      stands : Ahead (address_in d t v) all a (j ∷ text_group d t v rest)
      stands = rw (group-text d t v j rest (text-by-record d t v (symbol_at d t v j) ∙ kind true f)) at g

      pub search-below : y.address < a → SearchStands rest
      search-below l = ahead-below (address_in d t v) all a j (text_group d t v rest) (rw here l) stands

      pub search-met : y.address ≡ a → first_at (address_in d t v) a all ≡ Some j
      search-met l = ahead-met (address_in d t v) all a j (text_group d t v rest) (here ∙ l) stands

      pub search-past : (b : ℕ) → y.address ≡ a → a < b → Ahead (address_in d t v) all b (text_group d t v rest)
      search-past b l m = ahead_past (address_in d t v) all a b j (text_group d t v rest) (here ∙ l) m stands

      pub search-lost : a < y.address → first_at (address_in d t v) a all ≡ None
      search-lost l = ahead-lost (address_in d t v) all a j (text_group d t v rest) (rw here l) stands

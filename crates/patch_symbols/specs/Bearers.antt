-- The numbers of the symbols that bear a name.
use Rattle.std.specs.Prelude.{◌≡◌, Bool, List, [], ◌∷◌, map, ℕ}
use Rattle.std.proofs.Math.Path.{ap}
use Rattle.std.proofs.Common.{◌∙◌}
use Rattle.object_view.specs.declared.View.{View}
use Rattle.model.specs.Bytes.{same, keep}
use Rattle.model.specs.Object.{Symbol}
use Rattle.model.specs.Refusals.{bearers}
use Rattle.catalogue_laws.specs.Numbers.{up_to, keep-map, tab-is-map}
use Rattle.object.specs.View.{symbol_in, object_in}
use Rattle.patch_symbols.specs.declared.Bearer.{Bearer}

abbrev pub bearer_of : List ℕ → Bearer
bearer_of [] = Bearer.Nothing
bearer_of (j ∷ []) = Bearer.One j
bearer_of (j ∷ k ∷ js) = Bearer.Several

module _ (d t : List ℕ) (v : View) (name : List ℕ) where
  abbrev pub bears : ℕ → Bool
  bears j = same name (symbol_in d t v j).name

  unfoldable pub bearers_in : List ℕ
  bearers_in = keep bears (up_to v.symbols)

  abbrev borne : Symbol → Bool
  borne y = same name y.name

  pub bearers-by : bearers (object_in d t v) name ≡ map (symbol_in d t v) bearers_in
  unfolding bearers object_in bearers_in
  bearers-by = ap (keep borne) (tab-is-map (symbol_in d t v) v.symbols) ∙ keep-map borne (symbol_in d t v) (up_to v.symbols)

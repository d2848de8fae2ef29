-- The programs among the first symbols of a group.
use Rattle.std.specs.Prelude.{◌≡◌, refl, List, [], ◌∷◌, ◌++◌, ℕ, ◌+◌, ◌<◌, length, get_or, take}
use Rattle.std.proofs.Common.{◌∙◌, ap}
use Rattle.std.proofs.lemmas.List.{take_more}
use Rattle.object_view.specs.declared.View.{View}
use Rattle.model.specs.Bytes.{keep, push}
use Rattle.model.specs.Symbols.{is_program}
use Rattle.catalogue_laws.specs.Numbers.{keep_append}
use Rattle.records.specs.View.{symbol_at}
use Rattle.object.specs.Group.{programs_among}
use Rattle.object.specs.View.{symbol_in, named_text, program-by-record}

module _ (d t : List ℕ) (v : View) where
  pub programs_none : programs_among d t v [] ≡ []
  unfolding keep
  programs_none = refl

  pub programs_more : (js : List ℕ) (i : ℕ) → i < length js
      → programs_among d t v (take (i + 1) js)
      ≡ programs_among d t v (take i js) ++ push (named_text (symbol_at d t v (get_or js i 0))) (get_or js i 0) []
  unfolding keep
  programs_more js i h =
      rw (take_more js i 0 h)
      (keep_append (λ j. is_program (symbol_in d t v j)) (take i js) (get_or js i 0 ∷ [])
      ∙ ap (λ b. programs_among d t v (take i js) ++ push b (get_or js i 0) []) (program-by-record d t v (symbol_at d t v (get_or js i 0))))

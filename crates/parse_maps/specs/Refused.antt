-- What refuses a `maps` section, by its symbols: 9, then its symbols.
use Rattle.std.specs.Prelude.{◌≡◌, Bool, true, false, cond, List, map, ℕ, eqb, length, Option, Some}
use Rattle.std.proofs.Math.Path.{refl}
use Rattle.model.specs.declared.Refusal.{Refusal}
use Rattle.model.specs.declared.SectionRecord.{SectionRecord}
use Rattle.model.specs.Bytes.{first_in, or_else}
use Rattle.model.specs.Refusals.{no_symbol, of_section, map_symbol_refusal, maps_refusal}
use Rattle.object_view.specs.declared.View.{View}
use Rattle.object.specs.Group.{members_in, symbols-in, empty-by-length}
use Rattle.object.specs.View.{section_from, symbol_in, object_in}

module _ (d t : List ℕ) (v : View) (s : SectionRecord) where
  abbrev named : ℕ → Option Refusal
  named n = Some (record { number = n; section = s.index; symbol = no_symbol; entry = 0 })

  pub refused_by_group : maps_refusal (object_in d t v) (section_from d t v s)
      ≡ cond (eqb (length (members_in d t v s)) 0) (named 9) (first_in (map_symbol_refusal (section_from d t v s)) (map (symbol_in d t v) (members_in d t v s)))
  unfolding maps_refusal section_from
  refused_by_group =
      rw (symbols-in d t v s, empty-by-length d t v (members_in d t v s))
      (go (eqb (length (members_in d t v s)) 0) (first_in (map_symbol_refusal (section_from d t v s)) (map (symbol_in d t v) (members_in d t v s))))
    where
      go : (b : Bool) (q : Option Refusal) → or_else (of_section 9 (section_from d t v s) b) q ≡ cond b (named 9) q
      go true q = refl
      go false q = refl

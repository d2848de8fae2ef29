-- The lemmas on numbers 10 and 16 of a map's symbol (`specs/Fault.antt`).
use Rattle.std.specs.Prelude.{◌≡◌, Bool, true, false, cond, List, map, ℕ, None, Some}
use Rattle.std.proofs.Math.Path.{refl}
use Rattle.object_view.specs.declared.View.{View}
use Rattle.model.specs.declared.SectionRecord.{SectionRecord}
use Rattle.model.specs.declared.SymbolRecord.{SymbolRecord}
use Rattle.model.specs.Bytes.{first_in, part, or_else}
use Rattle.model.specs.Contents.{words_of, invalid_map_definition, record_of}
use Rattle.model.specs.Refusals.{refuse, map_symbol_refusal}
use Rattle.catalogue_laws.specs.Numbers.{first_in-map}
use Rattle.records.specs.View.{data_in}
use Rattle.object.specs.Checked.{checked_of, checked_step, checked_end}
use Rattle.object.specs.Group.{past_data, past-by-record, fault_of}
use Rattle.object.specs.View.{section_from, symbol_from, symbol_in}
use Rattle.parse_maps.specs.Fault.{map_fault, map_refusal_by, map_refusal_at}

module _ (d t : List ℕ) (v : View) (s : SectionRecord) where
  pub refused-by : (y : SymbolRecord) → map_refusal_by d t v s y ≡ fault_of (map_fault d v s y) s.index y.index
  unfolding map_symbol_refusal record_of section_from symbol_from map_fault
  refused-by y =
      rw (past-by-record d t v s y.address y.size)
      (go (past_data s.bytes.length y.address y.size) (invalid_map_definition y.size (words_of (part (data_in d v s.bytes) y.address y.size))))
    where
      go : (a b : Bool) → or_else (refuse a 10 s.index y.index 0) (refuse b 16 s.index y.index 0) ≡ fault_of (cond a (Some 10) (cond b (Some 16) None)) s.index y.index
      go true b = refl
      go false true = refl
      go false false = refl

  pub first-refused : (js : List ℕ) → first_in (map_symbol_refusal (section_from d t v s)) (map (symbol_in d t v) js) ≡ first_in (map_refusal_at d t v s) js
  first-refused js = first_in-map (map_symbol_refusal (section_from d t v s)) (symbol_in d t v) js

-- the loop over a group's symbols
pub ruleset symbols = (checked_step, checked_end, refused-by, first-refused)

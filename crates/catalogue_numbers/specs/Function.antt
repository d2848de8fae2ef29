-- The function of a symbol's number, by the records: what its section's data has from where its code begins on.
use Rattle.std.specs.Prelude.{◌≡◌, Bool, List, ℕ, ◌-◌}
use Rattle.std.proofs.Math.Path.{refl}
use Rattle.std.proofs.Math.Bool.{true, false, cond}
use Rattle.lists.specs.Tab.{tab}
use Rattle.model.specs.declared.EbpfSectionKind.{EbpfSectionKind as Kind}
use Rattle.model.specs.declared.SectionRecord.{SectionRecord}
use Rattle.model.specs.Contents.{function_at as function_of, program_function}
use Rattle.model.specs.SectionKind.{is_kind, kind_of}
use Rattle.object_view.specs.declared.View.{View}
use Rattle.records.specs.View.{section_at, symbol_at}
use Rattle.catalogue_laws.specs.Walk.{text_function_of}
use Rattle.object.specs.Offset.{record_offset, code_offset}
use Rattle.object.specs.View.{section_from, symbol_from, section_in, symbol_in}
use Rattle.catalogue_numbers.specs.Numbers.{home_at, function_by_number}

module _ (d t : List ℕ) (v : View) (j : ℕ) where
  -- the record of its section
  abbrev pub section_of_function : SectionRecord
  section_of_function = section_at d t v (home_at d t v j)

  abbrev pub start_of : ℕ
  start_of = code_offset d t v section_of_function (symbol_at d t v j)

  pub function-is : function_by_number d t v j ≡ function_of (section_from d t v section_of_function) (symbol_at d t v j).address start_of (symbol_in d t v j)
  unfolding code_offset program_function text_function_of section_from symbol_from
  function-is = go (is_kind Kind.Program (kind_of (section_in d t v (home_at d t v j))))
    where
      go : (b : Bool)
          → cond b (program_function (section_in d t v (home_at d t v j)) (symbol_in d t v j))
          (text_function_of v.order (tab (section_in d t v) v.sections) (symbol_in d t v) v.symbols (section_in d t v (home_at d t v j)) j)
          ≡ function_of (section_from d t v section_of_function) (symbol_at d t v j).address
          (cond b (record_offset section_of_function (symbol_at d t v j)) ((symbol_at d t v j).address - section_of_function.address)) (symbol_in d t v j)
      go true = refl
      go false = refl

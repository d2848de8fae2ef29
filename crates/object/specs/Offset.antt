-- Where a function's code begins in the data of its section, by the records.
use Rattle.std.specs.Prelude.{◌≡◌, cond, List, ℕ, ◌-◌}
use Rattle.std.proofs.Math.Path.{refl}
use Rattle.model.specs.declared.EbpfSectionKind.{EbpfSectionKind as Kind}
use Rattle.model.specs.declared.SectionRecord.{SectionRecord}
use Rattle.model.specs.declared.SymbolRecord.{SymbolRecord}
use Rattle.model.specs.Contents.{program_offset}
use Rattle.model.specs.SectionKind.{is_kind, kind_of}
use Rattle.object_view.specs.declared.View.{View}
use Rattle.object.specs.View.{section_from, symbol_from}

-- a program's
abbrev pub record_offset : SectionRecord → SymbolRecord → ℕ
record_offset s y = y.address

module _ (d t : List ℕ) (v : View) (s : SectionRecord) (y : SymbolRecord) where
  pub offset-by-record : program_offset (section_from d t v s) (symbol_from d t v y) ≡ record_offset s y
  unfolding section_from symbol_from
  offset-by-record = refl

  -- text's is at its address past that of the section
  unfoldable pub code_offset : ℕ
  code_offset = cond (is_kind Kind.Program (kind_of (section_from d t v s))) (record_offset s y) (y.address - s.address)

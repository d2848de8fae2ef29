-- The definitions of model on files, unfolded as far as rows need them, and short names for what rows say.
use Rattle.std.specs.Prelude.{Bool, false, List, [], ◌∷◌, ℕ, take, None, Option, Some}
use Rattle.model.specs.declared.Endianness.{Endianness}
use Rattle.model.specs.declared.SectionIndex.{SectionIndex}
use Rattle.model.specs.declared.SymbolIndex.{SymbolIndex}
use Rattle.model.specs.declared.SymbolKind.{SymbolKind}
use Rattle.model.specs.declared.Room.{Room}
use Rattle.model.specs.Object.{Reloc, Section, Symbol, Object, Patch}
use Rattle.model.specs.Patching.{Verdict, refused, accepted}
use Rattle.model.specs.Lent.{Outcome}
use Rattle.model.specs.Elf.{file_order, numbered_records, header_of, file_sections, file_of, file_data, strings_of, up_to_zero, file_reloc, table_relocs, file_relocs, file_section, file_symbol, file_symbols, stated_in, elf_object_of}
use Rattle.model.specs.ElfRefusals.{field_bytes, field_is, kind_ok, header_ok, links_strings, string_ok, section_names_ok, symbol_table_ok, reloc_table_ok, entries_of, limits_ok, rules_ok, elf_refusal, load_elf, load_elf_of, file_listing_of}
use Rattle.worked.specs.Run.{loaded, called, listed}
use Rattle.elf_worked.specs.Write.{lsb, msb, written_headers, elf_file, small_file, Change, changed}

-- ---- what is computed

-- a load of a file, with patches and rewriting
unfoldable pub loaded_file : List ℕ → List Patch → Bool → Verdict
unfolding loaded file_order field_bytes field_is numbered_records header_of file_sections file_of kind_ok file_data strings_of up_to_zero file_reloc table_relocs file_relocs file_section file_symbol file_symbols stated_in elf_object_of header_ok links_strings string_ok section_names_ok symbol_table_ok reloc_table_ok entries_of limits_ok rules_ok elf_refusal load_elf written_headers elf_file changed
loaded_file f ps on = load_elf f ps on

-- the object that a file states
unfoldable pub object_stated : List ℕ → Object
unfolding loaded_file
object_stated f = elf_object_of f

-- the whole call
unfoldable pub called_file : List ℕ → List ℕ → List ℕ → Bool → Room → Outcome
unfolding loaded_file called load_elf_of
called_file f es bs on room = load_elf_of f es bs on room

-- the text that is listed
unfoldable pub listed_file : ℕ → Room → List ℕ → List ℕ
unfolding called_file listed file_listing_of
listed_file most room f = file_listing_of most room f

-- ---- what rows say

-- in the two byte orders
abbrev pub in_both : {A : Type 0} → (Endianness → A) → List A
in_both f = f lsb ∷ f msb ∷ []

abbrev pub twice : {A : Type 0} → A → List A
twice x = x ∷ x ∷ []

-- the number that is said, 0 where the file is accepted
abbrev pub number_said : Verdict → ℕ
number_said (refused r) = r.number
number_said (accepted c) = 0

abbrev pub file_says : List ℕ → ℕ
file_says f = number_said (loaded_file f [] false)

-- of the small file with changes, and of its first n bytes
abbrev pub small_says : List Change → List ℕ
small_says cs = in_both (λ o. file_says (changed o cs (small_file o)))

abbrev pub cut_says : ℕ → List Change → List ℕ
cut_says n cs = in_both (λ o. file_says (take n (changed o cs (small_file o))))

-- what it states
abbrev pub small_states : List Change → List Object
small_states cs = in_both (λ o. object_stated (changed o cs (small_file o)))

abbrev some_section : Option ℕ → Option SectionIndex
some_section None = None
some_section (Some n) = Some (record { 0 = n })

abbrev some_symbol : Option ℕ → Option SymbolIndex
some_symbol None = None
some_symbol (Some n) = Some (record { 0 = n })

-- offset, symbol, size
abbrev pub stated_reloc : ℕ → Option ℕ → ℕ → Reloc
stated_reloc p y z = record { offset = p; symbol = some_symbol y; size = z }

-- index, text mark, name, address, size, data, relocations
abbrev pub stated_section : ℕ → Bool → List ℕ → ℕ → ℕ → List ℕ → List Reloc → Section
stated_section i t n a z d rs = record { index = record { 0 = i }; text = t; name = n; address = a; size = z; bytes = d; relocs = rs }

-- index, section, name, address, size, kind, definition
abbrev pub stated_symbol : ℕ → Option ℕ → List ℕ → ℕ → ℕ → SymbolKind → Bool → Symbol
stated_symbol i s n a z k d =
    record { index = record { 0 = i }; section = some_section s; name = n; address = a; size = z; kind = k; definition = d }

-- The definitions of model, unfolded as far as rows need them, and short names for what rows say.
use Rattle.std.specs.Prelude.{Bool, List, [], ◌∷◌, ◌++◌, ℕ, ℤ, None, Some}
use Prim.Native.String.{String}
use Rattle.model.specs.declared.Endianness.{Endianness}
use Rattle.model.specs.declared.EbpfSectionKind.{EbpfSectionKind as Kind}
use Rattle.model.specs.declared.ProgramSection.{ProgramSection}
use Rattle.model.specs.declared.BpfInsn.{BpfInsn}
use Rattle.model.specs.declared.BpfMapDef.{BpfMapDef}
use Rattle.model.specs.declared.Function.{Function as FunctionRow}
use Rattle.model.specs.Bytes.{ascii, keep, each, first_in, find, same, starts_with, before, little, little_bytes, records}
use Rattle.model.specs.Object.{Patch}
use Rattle.model.specs.SectionKind.{from_name, or_program, kind_of}
use Rattle.model.specs.ProgramName.{readings, cut, fits, program_of, from_str}
use Rattle.model.specs.LicenceVersion.{has_zero, parse_license, number, version_in, parse_version}
use Rattle.model.specs.Instruction.{signed, unsigned, instruction_of, eight, instructions, invalid_program_code, stated, stated_for, rewrite}
use Rattle.model.specs.Table.{put, table_of}
use Rattle.model.specs.Catalogue.{SectionEntry, Program, Function, Map, Relocation, Catalogue}
use Rattle.model.specs.Symbols.{symbols_of, is_program, program_symbols, defined_text, text_symbol_at, stops, walk_of, first_named}
use Rattle.model.specs.Contents.{licence_of, version_of, section_entries, program_at, programs_of, function_at, program_function, text_function, functions_of, words_of, invalid_map_definition, record_of, legacy_map, data_words, data_map, maps_of, relocation_of, relocations_of, catalogue_of}
use Rattle.model.specs.Refusals.{untargeted, reloc_refusal, licence_refusal, version_refusal, passes, program_symbol_refusal, program_refusal, map_symbol_refusal, maps_refusal, shared_refusal, stop_refusal, text_refusal, kind_refusal, section_refusal, object_refusal, bearers, place_refusal, bearer_refusal, entry_refusal, patch_refusal, refusal_of}
use Rattle.model.specs.Patching.{patch_map, with_maps, patch_maps, patched, rewrite_function, rewritten, Verdict, refused, accepted, finish, load}
use Rattle.model.specs.Deposit.{weigh, check_ok, checks_ok, frame_ok, stream_in, stream_of, head_of, section_record, symbol_record, relocation_record, parts_from, parts_of, end_of, all, all_zero, head_ok, length_ok, name_ok, section_ok, symbol_ok, relocation_ok, rising_from, records_ok, stream_rules, stream_ok, reloc_of, section_of, symbol_kind, symbol_of, byte_order, stated_by, object_of, has_btf, deposit_refusal, load_deposit}
use Rattle.model.specs.PatchList.{patch_from, patches_of}
use Rattle.model.specs.ProgramNumbers.{variant_of}
use Rattle.model.specs.Lent.{placed, section_row, program_row, function_row, map_row, relocation_row, bytes_of, sections_at, programs_at, functions_at, code_start, maps_at, own_start, summary_of, image_of, fits_in, filled_to, zeroed, Outcome, load_of}
use Rattle.model.specs.declared.Room.{Room}
use Rattle.model.specs.ReadBack.{program_from, kind_from, section_read_back, program_read, function_read, map_read, relocation_read, read_back}
use Rattle.model.specs.Listing.{digits, line, variant_name, program_line, function_line, map_line, catalogue_text, refusal_text, text_of, listing_of}
use Rattle.worked.specs.Write.{section_bytes, symbol_bytes, sum, blocks_from, blocks, deposit}

-- ---- what is computed

-- a load of a deposit, with patches and rewriting
unfoldable pub loaded : List ℕ → List Patch → Bool → Verdict
unfolding keep each first_in find same starts_with before little little_bytes records from_name or_program kind_of readings cut fits program_of from_str has_zero parse_license number version_in parse_version signed unsigned instruction_of eight instructions invalid_program_code stated stated_for rewrite put table_of symbols_of is_program program_symbols defined_text text_symbol_at stops walk_of first_named licence_of version_of section_entries program_at programs_of function_at program_function text_function functions_of words_of invalid_map_definition record_of legacy_map data_words data_map maps_of relocation_of relocations_of catalogue_of untargeted reloc_refusal licence_refusal version_refusal passes program_symbol_refusal program_refusal map_symbol_refusal maps_refusal shared_refusal stop_refusal text_refusal kind_refusal section_refusal object_refusal bearers place_refusal bearer_refusal entry_refusal patch_refusal refusal_of patch_map with_maps patch_maps patched rewrite_function rewritten finish load weigh check_ok checks_ok frame_ok stream_in stream_of head_of section_record symbol_record relocation_record parts_from parts_of end_of all all_zero head_ok length_ok name_ok section_ok symbol_ok relocation_ok rising_from records_ok stream_rules stream_ok reloc_of section_of symbol_kind symbol_of byte_order stated_by object_of has_btf deposit_refusal load_deposit section_bytes symbol_bytes sum blocks_from blocks deposit
loaded d ps on = load_deposit d ps on

-- the whole call
unfoldable pub called : List ℕ → List ℕ → List ℕ → Bool → Room → Outcome
unfolding loaded patch_from patches_of variant_of placed section_row program_row function_row map_row relocation_row bytes_of sections_at programs_at functions_at code_start maps_at own_start summary_of image_of fits_in filled_to zeroed load_of
called d es bs on room = load_of d es bs on room

-- the text that is listed
unfoldable pub listed : Room → List ℕ → List ℕ
unfolding called program_from kind_from section_read_back program_read function_read map_read relocation_read read_back digits line variant_name program_line function_line map_line catalogue_text refusal_text text_of listing_of
listed room d = listing_of room d

abbrev pub no_catalogue : Catalogue
no_catalogue =
    record { order = Endianness.Little; licence = []; version = None; sections = []; programs = []; functions = []; maps = []; relocations = [] }

abbrev pub catalogue_in : Verdict → Catalogue
catalogue_in (refused r) = no_catalogue
catalogue_in (accepted c) = c

-- ---- what rows say

abbrev pub no : ℕ → ℕ → ℕ → ℕ → Verdict
no n s y e = refused (record { number = n; section = record { 0 = s }; symbol = record { 0 = y }; entry = e })

abbrev pub lines : List String → List ℕ
lines [] = []
lines (s ∷ ss) = ascii s ++ (10 ∷ lines ss)

abbrev pub patch : String → List ℕ → ℕ → Patch
patch n d m = record { inside = Bool.true; name = ascii n; bytes = d; mark = m }

abbrev pub insn : ℕ → ℕ → ℤ → ℤ → BpfInsn
insn c r o i = record { code = c; regs = r; off = o; imm = i }

abbrev pub entry : String → ℕ → ℕ → SectionEntry
entry n i z = record { name = ascii n; index = record { 0 = i }; size = z }

abbrev pub program : String → ProgramSection → ℕ → ℕ → Program
program n v s a = record { name = ascii n; variant = v; section = record { 0 = s }; address = a }

abbrev pub function : ℕ → ℕ → ℕ → String → List BpfInsn → Function
function s a o n c = record { section = record { 0 = s }; address = a; offset = o; name = ascii n; code = c }

-- the seven words: type, key, value, entries, flags, id, pinning
abbrev pub words : ℕ → ℕ → ℕ → ℕ → ℕ → ℕ → ℕ → BpfMapDef
words a b c d e f g = record { words = a ∷ b ∷ c ∷ d ∷ e ∷ f ∷ g ∷ [] }

abbrev pub data_map_of : String → ℕ → Kind → BpfMapDef → List ℕ → Map
data_map_of n s k w d = record { name = ascii n; section = record { 0 = s }; kind = k; symbol = None; def = w; own = d }

abbrev pub legacy_map_of : String → ℕ → ℕ → BpfMapDef → Map
legacy_map_of n s y w = record { name = ascii n; section = record { 0 = s }; kind = Kind.Maps; symbol = Some (record { 0 = y }); def = w; own = [] }

abbrev pub relocation : ℕ → ℕ → ℕ → ℕ → Relocation
relocation s o z y = record { section = record { 0 = s }; offset = o; size = z; symbol = record { 0 = y } }

abbrev pub room : ℕ → ℕ → ℕ → ℕ → ℕ → ℕ → Room
room s p f m r b = record { sections = s; programs = p; functions = f; maps = m; relocations = r; bytes = b }

-- a row of the function table: section, address, offset, the name's place and length, the code's place and length
abbrev pub row_of_numbers : ℕ → ℕ → ℕ → ℕ → ℕ → ℕ → ℕ → FunctionRow
row_of_numbers s a o n l c k =
    record { section = record { 0 = s }; address = a; offset = o; name = record { at = n; length = l }; code = record { at = c; length = k } }

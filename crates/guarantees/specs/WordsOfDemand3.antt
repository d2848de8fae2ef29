-- The words of demand 3: what is read (`Input`), its provisos (`Fair`), what it says of sections (`FirstHalf`), and what a patch list and rewriting come to
-- (`after`).
use Rattle.std.specs.Prelude.{◌≡◌, ◌⊎◌, Bool, cond, ◌&&◌, List, [], ◌∷◌, map, ℕ, suc, ◌+◌, ◌-◌, ◌<◌, ◌≤◌, eqb, ltb, leb, ℤ, pos, length, get_or, None, Option, Some}
use Rattle.lists.specs.Tab.{tab}
use Rattle.model.specs.declared.SectionIndex.{SectionIndex}
use Rattle.model.specs.declared.EbpfSectionKind.{EbpfSectionKind as Kind}
use Rattle.model.specs.declared.BpfInsn.{BpfInsn}
use Rattle.model.specs.declared.Room.{Room}
use Rattle.model.specs.Bytes.{keep, each, or_else, maybe, part, ◌∈◌}
use Rattle.model.specs.Object.{Section, Symbol, Object, Patch}
use Rattle.model.specs.SectionKind.{kind_of}
use Rattle.model.specs.Instruction.{stated_for}
use Rattle.model.specs.Catalogue.{Function, Map, Catalogue}
use Rattle.model.specs.Symbols.{lies_in, symbols_of, program_symbols, defined_text}
use Rattle.model.specs.Contents.{function_at, program_function}
use Rattle.model.specs.Refusals.{bearers}
use Rattle.model.specs.Patching.{Verdict}
use Rattle.model.specs.Deposit.{object_of, load_deposit}
use Rattle.model.specs.Lent.{function_code, Outcome, load_of}
use Rattle.model.specs.Elf.{elf_object_of}
use Rattle.model.specs.ElfRefusals.{load_elf, load_elf_of}

-- ---- what is read

-- 'deposits' of document 01, and 'the object file itself' of paper 1, by their bytes
pub data Input : Type 0 where
  deposit : List ℕ → Input
  file : List ℕ → Input

abbrev pub input_bytes : Input → List ℕ
input_bytes (Input.deposit d) = d
input_bytes (Input.file f) = f

-- the object that it states
abbrev pub object_read : Input → Object
object_read (Input.deposit d) = object_of d
object_read (Input.file f) = elf_object_of f

-- its load, with a patch list, and rewriting on or off
abbrev pub verdict_on : Input → List Patch → Bool → Verdict
verdict_on (Input.deposit d) ps on = load_deposit d ps on
verdict_on (Input.file f) ps on = load_elf f ps on

-- its call, with a lent patch list (entries over bytes), rewriting on or off, and the room that is lent
abbrev pub outcome_on : Input → List ℕ → List ℕ → Bool → Room → Outcome
outcome_on (Input.deposit d) entries bytes on room = load_of d entries bytes on room
outcome_on (Input.file f) entries bytes on room = load_elf_of f entries bytes on room

-- ---- the first half

-- 'with no section name used twice in either and no symbol of a `maps` section bearing a section's name'
pub record Fair (o : Object) : Type 0 where
  -- two sections of one name are one section
  pub names : (s t : Section) → s ∈ o.sections → t ∈ o.sections → s.name ≡ t.name → s.index ≡ t.index
  pub maps : (s t : Section) (y : Symbol) → s ∈ o.sections → kind_of s ≡ Kind.Maps → y ∈ symbols_of o s → t ∈ o.sections → y.name ≡ t.name → ⊥

-- 'every text, `.data` and `.rodata` section': 'text, `maps`, `.data` and `.rodata` sections go by the prefixes above'
abbrev pub Whole : Kind → Type 0
Whole k = (k ≡ Kind.Text) ⊎ ((k ≡ Kind.Data) ⊎ (k ≡ Kind.Rodata))

-- 'stands in both under one name and index with the same bytes': section s of one object, in the object o. 'a section's bytes are its data'
pub record Stands (o : Object) (s : Section) : Type 0 where
  pub section : Section
  pub among : section ∈ o.sections
  pub name : section.name ≡ s.name
  pub index : section.index ≡ s.index
  pub kind : kind_of section ≡ kind_of s
  pub bytes : section.bytes ≡ s.bytes

-- 'its listed functions': those of a section's index, as they stand in the catalogue
abbrev pub functions_in : SectionIndex → Catalogue → List Function
functions_in i c = keep (λ f. eqb i.0 f.section.0) c.functions

-- 'in order of address': from an address on, each above the one before
abbrev pub Rise : ℕ → List Function → Type 0
Rise low [] = Unit {0}
Rise low (f ∷ fs) = (low ≤ f.address) × Rise (suc f.address) fs

-- 'without gap or overlap': from an offset on, each offset is where the one before ends
abbrev pub Follow : ℕ → List Function → Type 0
Follow at [] = Unit {0}
Follow at (f ∷ fs) = (f.offset ≡ at) × Follow (at + length (function_code f)) fs

-- 'Of its section's data a listed function covers as many bytes as its symbol's size, from where its bytes begin (in text, its offset)': text section s of o,
-- and its listed function f
pub record Covers (o : Object) (s : Section) (f : Function) : Type 0 where
  -- the symbol of f
  pub symbol : Symbol
  pub of : symbol ∈ defined_text o s
  pub at : symbol.address ≡ s.address + f.offset
  pub listed : f ≡ function_at s symbol.address f.offset symbol
  pub covered : length (function_code f) ≡ symbol.size
  pub bytes : function_code f ≡ part s.bytes f.offset symbol.size

-- 'text being exactly its listed functions joined in order of address without gap or overlap': text section s of o
pub record Joined (o : Object) (s : Section) (fs : List Function) : Type 0 where
  pub bytes : each function_code fs ≡ s.bytes
  pub addresses : Rise s.address fs
  pub offsets : Follow 0 fs
  pub functions : (f : Function) → f ∈ fs → Covers o s f

-- 'program sections agree on each byte a listed function covers': program section s of a, and its listed function f. The section stands in b too.
-- 'Of its section's data a listed function covers as many bytes as its symbol's size, from where its bytes begin'
pub record Agree (a b : Object) (s : Section) (f : Function) : Type 0 where
  pub section : Section
  pub among : section ∈ b.sections
  pub name : section.name ≡ s.name
  pub index : section.index ≡ s.index
  pub kind : kind_of section ≡ Kind.Program
  -- the symbol of f
  pub symbol : Symbol
  pub of : symbol ∈ program_symbols a s
  pub listed : f ≡ program_function s symbol
  pub size : length (function_code f) ≡ symbol.size
  -- the bytes that it covers lie in both, and are the same
  pub fits : (f.offset + symbol.size ≤ length s.bytes) × (f.offset + symbol.size ≤ length section.bytes)
  pub bytes : (j : ℕ) → j < symbol.size → get_or section.bytes (f.offset + j) 0 ≡ get_or s.bytes (f.offset + j) 0

-- what is said of a's sections beside b's, where both have the catalogue c
pub record FirstHalf (a b : Object) (c : Catalogue) : Type 0 where
  pub whole : (s : Section) → s ∈ a.sections → Whole (kind_of s) → Stands b s
  pub texts : (s : Section) → s ∈ a.sections → kind_of s ≡ Kind.Text → Joined a s (functions_in s.index c)
  pub programs : (s : Section) (f : Function) → s ∈ a.sections → kind_of s ≡ Kind.Program → f ∈ functions_in s.index c → Agree a b s f

-- ---- the second half

-- 'An accepted entry whose name is found reaches its symbol's bytes in the map of the symbol's section, from the symbol's address on, gives them its
-- data in order': what an entry gives the byte i of the map of section s, if it reaches it; d is its data, and its name is borne by the symbols of the list
unfoldable pub given_by : List Symbol → List ℕ → SectionIndex → ℕ → Option ℕ
given_by [] d s i = None
given_by (y ∷ ys) d s i =
    cond (lies_in s y.section && (leb y.address i && ltb i (y.address + y.size))) (Some (get_or d (i - y.address) 0)) None

abbrev pub given : Object → Patch → SectionIndex → ℕ → Option ℕ
given o p s i = given_by (bearers o p.name) p.bytes s i

-- 'each map byte an entry reaches is what the last such entry gives it'
unfoldable pub last_given : Object → List Patch → SectionIndex → ℕ → Option ℕ
last_given o [] s i = None
last_given o (p ∷ ps) s i = or_else (last_given o ps s i) (given o p s i)

-- 'After the list a map byte is what the last entry that reaches it gives, else as it was.'
abbrev pub byte_after : Object → List Patch → Map → ℕ → ℕ
byte_after o ps m i = maybe (last_given o ps m.section i) (get_or m.own i 0) (λ b. b)

unfoldable pub map_after : Object → List Patch → Map → Map
map_after o ps m =
    record {
      name = m.name;
      section = m.section;
      kind = m.kind;
      symbol = m.symbol;
      def = m.def;
      own = tab (byte_after o ps m) (length m.own);
    }

-- 'opcode 0x85 with register byte 0 turns immediates 112 and 113 into 4, 114 and 115 into 45': the instruction i is named, and its immediate becomes z
abbrev pub Becomes : ℤ → ℤ → Type 0
Becomes a z =
    ((a ≡ pos 112) × (z ≡ pos 4)) ⊎ (((a ≡ pos 113) × (z ≡ pos 4)) ⊎ (((a ≡ pos 114) × (z ≡ pos 45)) ⊎ ((a ≡ pos 115) × (z ≡ pos 45))))

abbrev pub NamedWith : BpfInsn → ℤ → Type 0
NamedWith i z = (i.code ≡ 0x85) × ((i.regs ≡ 0) × Becomes i.imm z)

-- 'with rewriting on exactly the immediates document 01 names become the numbers it states'
unfoldable pub instruction_after : Bool → BpfInsn → BpfInsn
instruction_after on i = record { code = i.code; regs = i.regs; off = i.off; imm = cond on (stated_for i) i.imm }

unfoldable pub function_after : Bool → Function → Function
function_after on f =
    record { section = f.section; address = f.address; offset = f.offset; name = f.name; code = map (instruction_after on) f.code }

-- 'has the catalogue it has without either, except ..'. 'All the rest of the catalogue is as without either.'
unfoldable pub after : Object → List Patch → Bool → Catalogue → Catalogue
after o ps on c =
    record {
      order = c.order;
      licence = c.licence;
      version = c.version;
      sections = c.sections;
      programs = c.programs;
      functions = map (function_after on) c.functions;
      maps = map (map_after o ps) c.maps;
      relocations = c.relocations;
    }

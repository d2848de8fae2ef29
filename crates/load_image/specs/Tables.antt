-- The rows of the lent tables, by the numbers of the tables in hand.
use Rattle.std.specs.Prelude.{◌≡◌, refl, ℕ, suc, ◌+◌, ◌*◌, length, None}
use Rattle.std.proofs.Math.Path.{sym, ap}
use Rattle.std.proofs.Common.{◌∙◌}
use mathlib.Core.List.{List, [], ◌∷◌, map}
use Rattle.std.proofs.lemmas.List.{length-map}
use Rattle.object_view.specs.declared.View.{View}
use Rattle.model.specs.Catalogue.{SectionEntry, Program, Map, Relocation, Catalogue}
use Rattle.model.specs.Lent.{placed, joined, nothing, section_name, section_row, program_name, program_row, function_name, function_code, function_row, map_name, map_own, map_row, relocation_row, sections_at, programs_at, functions_at, code_start, maps_at, own_start, image_of}
use Rattle.model.specs.Refusals.{object_refusal}
use Rattle.lists.specs.Tab.{rows}
use Rattle.catalogue_laws.specs.Placed.{length-joined}
use Rattle.object.specs.View.{object_in}
use Rattle.catalogue_numbers.specs.Numbers.{section_numbers, program_numbers, function_numbers, map_numbers, section_entry_at, program_by_number, function_by_number, map_at, relocations_from, sections-by, programs-by, functions-by, maps-by, relocations-by}
use Rattle.accepted_numbers.specs.Numbers.{named, targeted}
use Rattle.records.specs.Readable.{Readable}
use Rattle.bytes_layout.specs.Parts.{catalogue}

-- ---- how many numbers a table has

section-long : (a b : ℕ) (x : SectionEntry) → length (section_row a b x) ≡ 4
unfolding section_row
section-long a b x = refl

program-long : (a b : ℕ) (x : Program) → length (program_row a b x) ≡ 7
unfolding program_row
program-long a b x = refl

map-long : (a b : ℕ) (x : Map) → length (map_row a b x) ≡ 27
unfolding map_row
map-long a b x = refl

relocation-long : (a b : ℕ) (x : Relocation) → length (relocation_row a b x) ≡ 4
unfolding relocation_row
relocation-long a b x = refl

length-placed : {A B : Type 0} (p q : A → List ℕ) (row : ℕ → ℕ → A → B) (a b : ℕ) (xs : List A) → length (placed p q row a b xs) ≡ length xs
unfolding placed
length-placed p q row a b [] = refl
length-placed p q row a b (x ∷ xs) = ap suc (length-placed p q row (a + length (p x)) (b + length (q x)) xs)

module _ (c : Catalogue) where
  pub long-sections : length (image_of c).sections ≡ length c.sections * 4
  unfolding image_of
  long-sections = length-joined section_name nothing section_row 4 section-long (sections_at c) 0 c.sections

  pub long-programs : length (image_of c).programs ≡ length c.programs * 7
  unfolding image_of
  long-programs = length-joined program_name nothing program_row 7 program-long (programs_at c) 0 c.programs

  pub long-functions : length (image_of c).functions ≡ length c.functions
  unfolding image_of
  long-functions = length-placed function_name function_code function_row (functions_at c) (code_start c) c.functions

  pub long-maps : length (image_of c).maps ≡ length c.maps * 27
  unfolding image_of
  long-maps = length-joined map_name map_own map_row 27 map-long (maps_at c) (own_start c) c.maps

  pub long-relocations : length (image_of c).relocations ≡ length c.relocations * 4
  unfolding image_of
  long-relocations = length-joined nothing nothing relocation_row 4 relocation-long 0 0 c.relocations

-- ---- what the numbers in hand stand for

module _ {d t : List ℕ} {v : View} (r : Readable d t v) (ok : object_refusal (object_in d t v) ≡ None) where
  pub relocations-are : rows (relocations_from d t v) v.sections ≡ (catalogue d t v).relocations
  relocations-are = sym (relocations-by d t v r (targeted d t v ok))

  pub rows-of-relocations : joined (placed nothing nothing relocation_row 0 0 (rows (relocations_from d t v) v.sections)) ≡ (image_of (catalogue d t v)).relocations
  unfolding image_of
  rows-of-relocations = ap (λ (xs : List Relocation). joined (placed nothing nothing relocation_row 0 0 xs)) relocations-are

-- ---- by the numbers of one table in hand: what they stand for, how many they are, and their rows

module _ (d t : List ℕ) (v : View) {s : List ℕ} (e : s ≡ section_numbers d t v) where
  sections-are : map (section_entry_at d t v) s ≡ (catalogue d t v).sections
  sections-are = ap (map (section_entry_at d t v)) e ∙ sym (sections-by d t v)

  pub count-sections : length (catalogue d t v).sections ≡ length s
  count-sections = ap length (sym sections-are) ∙ length-map s (section_entry_at d t v)

  pub rows-of-sections : (a : ℕ) → a ≡ sections_at (catalogue d t v) → joined (placed section_name nothing section_row a 0 (map (section_entry_at d t v) s)) ≡ (image_of (catalogue d t v)).sections
  unfolding image_of
  rows-of-sections a g = λ i. joined (placed section_name nothing section_row (g i) 0 (sections-are i))

module _ {d t : List ℕ} {v : View} (r : Readable d t v) where
  module _ (ok : object_refusal (object_in d t v) ≡ None) {p : List ℕ} (e : p ≡ program_numbers d t v) where
    programs-are : map (program_by_number d t v) p ≡ (catalogue d t v).programs
    programs-are = ap (map (program_by_number d t v)) e ∙ sym (programs-by d t v r (named d t v ok))

    pub count-programs : length (catalogue d t v).programs ≡ length p
    count-programs = ap length (sym programs-are) ∙ length-map p (program_by_number d t v)

    pub rows-of-programs : (a : ℕ) → a ≡ programs_at (catalogue d t v) → joined (placed program_name nothing program_row a 0 (map (program_by_number d t v) p)) ≡ (image_of (catalogue d t v)).programs
    unfolding image_of
    rows-of-programs a g = λ i. joined (placed program_name nothing program_row (g i) 0 (programs-are i))

  module _ {f : List ℕ} (e : f ≡ function_numbers d t v) where
    pub functions-are : map (function_by_number d t v) f ≡ (catalogue d t v).functions
    functions-are = ap (map (function_by_number d t v)) e ∙ sym (functions-by d t v r)

    pub count-functions : length (catalogue d t v).functions ≡ length f
    count-functions = ap length (sym functions-are) ∙ length-map f (function_by_number d t v)

  module _ {m : List ℕ} (e : m ≡ map_numbers d t v) where
    pub maps-are : map (map_at d t v) m ≡ (catalogue d t v).maps
    maps-are = ap (map (map_at d t v)) e ∙ sym (maps-by d t v r)

    pub count-maps : length (catalogue d t v).maps ≡ length m
    count-maps = ap length (sym maps-are) ∙ length-map m (map_at d t v)

    pub rows-of-maps : (a b : ℕ) → a ≡ maps_at (catalogue d t v) → b ≡ own_start (catalogue d t v) → joined (placed map_name map_own map_row a b (map (map_at d t v) m)) ≡ (image_of (catalogue d t v)).maps
    unfolding image_of
    rows-of-maps a b g h = λ i. joined (placed map_name map_own map_row (g i) (h i) (maps-are i))

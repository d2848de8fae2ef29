-- Patching and rewriting change bytes of maps and of code alone: each row, each count and each place is as without them.
use Rattle.std.specs.Prelude.{◌≡◌, Bool, true, false, cond, ◌&&◌, ℕ, ◌+◌, ◌*◌}
use Rattle.std.proofs.Math.Path.{refl, ap}
use Rattle.std.proofs.Common.{sym, ◌∙◌, arith, length-append}
use mathlib.Core.List.{List, [], ◌∷◌, ◌++◌, map}
use Rattle.std.proofs.Math.Dec.{leb}
use Rattle.std.proofs.Math.ListN.{length}
use Rattle.std.proofs.lemmas.List.{length-map}
use Rattle.std.proofs.lemmas.List.Edits.{sets}
use Rattle.std.proofs.Math.Seq.{length-sets}
use Rattle.model.specs.declared.BpfInsn.{BpfInsn}
use Rattle.model.specs.Bytes.{each}
use Rattle.model.specs.Object.{Symbol, Object, Patch}
use Rattle.model.specs.Instruction.{eight, rewrite}
use Rattle.model.specs.Catalogue.{Function, Map, Catalogue}
use Rattle.model.specs.Symbols.{lies_in}
use Rattle.model.specs.Refusals.{bearers}
use Rattle.model.specs.Lent.{placed, joined, nothing, section_row, program_row, relocation_row, section_name, program_name, function_name, function_code, function_row, map_name, map_own, map_row, bytes_of, sections_at, programs_at, functions_at, code_start, maps_at, own_start, summary_of, image_of, fits_in}
use Rattle.model.specs.declared.Room.{Room}
use Rattle.insn.specs.Sanitized.{length-each-eight}
use Rattle.model.specs.Patching.{patch_map, with_maps, patch_maps, patched, rewrite_function, rewritten, finish}

-- ---- rows of what is mapped

module _ {A B : Type 0} (p q : A → List ℕ) (row : ℕ → ℕ → A → B) (f : A → A) (first : (x : A) → length (p (f x)) ≡ length (p x)) (second : (x : A) → length (q (f x)) ≡ length (q x))
    (same : (a b : ℕ) (x : A) → row a b (f x) ≡ row a b x) where
  placed-map : (a b : ℕ) (xs : List A) → placed p q row a b (map f xs) ≡ placed p q row a b xs
  unfolding placed
  placed-map a b [] = refl
  placed-map a b (x ∷ xs) = λ k. same a b x k ∷ (ap (λ n. placed p q row n (b + length (q (f x))) (map f xs)) (ap (λ n. a + n) (first x)) ∙ ap (λ n. placed p q row (a + length (p x)) n (map f xs)) (ap (λ n. b + n) (second x)) ∙ placed-map (a + length (p x)) (b + length (q x)) xs) k

each_same : {A : Type 0} (g : A → List ℕ) (f : A → A) → ((x : A) → g (f x) ≡ g x) → (xs : List A) → each g (map f xs) ≡ each g xs
unfolding each
each_same g f h [] = refl
each_same g f h (x ∷ xs) = λ k. h x k ++ each_same g f h xs k

each_long : {A : Type 0} (g : A → List ℕ) (f : A → A) → ((x : A) → length (g (f x)) ≡ length (g x)) → (xs : List A) → length (each g (map f xs)) ≡ length (each g xs)
unfolding each
each_long g f h [] = refl
each_long g f h (x ∷ xs) =
    length-append (g (f x)) (each g (map f xs)) ∙ (λ k. h x k + each_long g f h xs k) ∙ sym (length-append (g x) (each g xs))

-- ---- the bytes end behind the maps' own

bytes-end : (c : Catalogue) → length (bytes_of c) ≡ own_start c + length (each map_own c.maps)
unfolding bytes_of own_start maps_at code_start functions_at programs_at sections_at
bytes-end c = rw (length-append, length-append, length-append, length-append, length-append, length-append) (omega arith)

image-bytes : (c : Catalogue) → length (bytes_of c) ≡ length (image_of c).bytes
unfolding image_of
image-bytes c = refl

-- ---- one map patched, one function rewritten

own-length : (y : Symbol) (d : List ℕ) (m : Map) → length (map_own (patch_map y d m)) ≡ length (map_own m)
unfolding patch_map
own-length y d m = go (lies_in m.section y.section)
  where
    go : (b : Bool) → length (cond b (sets m.own y.address d) m.own) ≡ length m.own
    go true = length-sets m.own y.address d
    go false = refl

row-patched : (y : Symbol) (d : List ℕ) (a b : ℕ) (m : Map) → map_row a b (patch_map y d m) ≡ map_row a b m
unfolding map_row patch_map
row-patched y d a b m = rw (own-length y d m)

name-patched : (y : Symbol) (d : List ℕ) (m : Map) → map_name (patch_map y d m) ≡ map_name m
unfolding patch_map
name-patched y d m = refl

code-length : (f : Function) → length (function_code (rewrite_function f)) ≡ length (function_code f)
unfolding rewrite_function
code-length f = go f.code
  where
    go : (is : List BpfInsn) → length (each eight (map rewrite is)) ≡ length (each eight is)
    go is = length-each-eight (map rewrite is) ∙ ap (λ n. n * 8) (length-map is rewrite) ∙ sym (length-each-eight is)

row-rewritten : (a b : ℕ) (f : Function) → function_row a b (rewrite_function f) ≡ function_row a b f
unfolding function_row rewrite_function
row-rewritten a b f = rw (code-length f)

name-rewritten : (f : Function) → function_name (rewrite_function f) ≡ function_name f
unfolding rewrite_function
name-rewritten f = refl

-- ---- catalogues that are lent alike, but for bytes of code and of maps

pub record Alike (c e : Catalogue) : Type 0 where
  pub order : e.order ≡ c.order
  pub licence : e.licence ≡ c.licence
  pub version : e.version ≡ c.version
  pub sections : e.sections ≡ c.sections
  pub programs : e.programs ≡ c.programs
  pub relocations : e.relocations ≡ c.relocations
  pub functions : length e.functions ≡ length c.functions
  pub function-rows : (a b : ℕ) → placed function_name function_code function_row a b e.functions ≡ placed function_name function_code function_row a b c.functions
  pub function-names : each function_name e.functions ≡ each function_name c.functions
  pub code-bytes : length (each function_code e.functions) ≡ length (each function_code c.functions)
  pub maps : length e.maps ≡ length c.maps
  pub map_rows : (a b : ℕ) → placed map_name map_own map_row a b e.maps ≡ placed map_name map_own map_row a b c.maps
  pub map-names : each map_name e.maps ≡ each map_name c.maps
  pub own-bytes : length (each map_own e.maps) ≡ length (each map_own c.maps)

alike-itself : (c : Catalogue) → Alike c c
alike-itself c =
    record {
      order = refl;
      licence = refl;
      version = refl;
      sections = refl;
      programs = refl;
      relocations = refl;
      functions = refl;
      function-rows = λ a b. refl;
      function-names = refl;
      code-bytes = refl;
      maps = refl;
      map_rows = λ a b. refl;
      map-names = refl;
      own-bytes = refl;
    }

alike-on : (c e g : Catalogue) → Alike c e → Alike e g → Alike c g
alike-on c e g p q =
    record {
      order = q.order ∙ p.order;
      licence = q.licence ∙ p.licence;
      version = q.version ∙ p.version;
      sections = q.sections ∙ p.sections;
      programs = q.programs ∙ p.programs;
      relocations = q.relocations ∙ p.relocations;
      functions = q.functions ∙ p.functions;
      function-rows = λ a b. q.function-rows a b ∙ p.function-rows a b;
      function-names = q.function-names ∙ p.function-names;
      code-bytes = q.code-bytes ∙ p.code-bytes;
      maps = q.maps ∙ p.maps;
      map_rows = λ a b. q.map_rows a b ∙ p.map_rows a b;
      map-names = q.map-names ∙ p.map-names;
      own-bytes = q.own-bytes ∙ p.own-bytes;
    }

alike-entry : (ys : List Symbol) (d : List ℕ) (c : Catalogue) → Alike c (with_maps c (patch_maps ys d c.maps))
unfolding with_maps patch_maps
alike-entry [] d c = alike-itself c
alike-entry (y ∷ ys) d c =
    record {
      order = refl;
      licence = refl;
      version = refl;
      sections = refl;
      programs = refl;
      relocations = refl;
      functions = refl;
      function-rows = λ a b. refl;
      function-names = refl;
      code-bytes = refl;
      maps = length-map c.maps (patch_map y d);
      map_rows = λ a b. placed-map map_name map_own map_row (patch_map y d) (λ m. ap length (name-patched y d m)) (own-length y d) (row-patched y d) a b c.maps;
      map-names = each_same map_name (patch_map y d) (name-patched y d) c.maps;
      own-bytes = each_long map_own (patch_map y d) (own-length y d) c.maps;
    }

alike-patched : (o : Object) (ps : List Patch) (c : Catalogue) → Alike c (patched o ps c)
unfolding patched
alike-patched o [] c = alike-itself c
alike-patched o (p ∷ ps) c =
    alike-on c (with_maps c (patch_maps (bearers o p.name) p.bytes c.maps)) (patched o (p ∷ ps) c) (alike-entry (bearers o p.name) p.bytes c)
    (alike-patched o ps (with_maps c (patch_maps (bearers o p.name) p.bytes c.maps)))

alike-rewritten : (c : Catalogue) → Alike c (rewritten c)
unfolding rewritten
alike-rewritten c =
    record {
      order = refl;
      licence = refl;
      version = refl;
      sections = refl;
      programs = refl;
      relocations = refl;
      functions = length-map c.functions rewrite_function;
      function-rows = λ a b. placed-map function_name function_code function_row rewrite_function (λ f. ap length (name-rewritten f)) code-length row-rewritten a b c.functions;
      function-names = each_same function_name rewrite_function name-rewritten c.functions;
      code-bytes = each_long function_code rewrite_function code-length c.functions;
      maps = refl;
      map_rows = λ a b. refl;
      map-names = refl;
      own-bytes = refl;
    }

pub alike-finish : (o : Object) (ps : List Patch) (on : Bool) (c : Catalogue) → Alike c (finish o ps on c)
unfolding finish
alike-finish o ps true c = alike-on c (patched o ps c) (rewritten (patched o ps c)) (alike-patched o ps c) (alike-rewritten (patched o ps c))
alike-finish o ps false c = alike-patched o ps c

-- ---- as lent

module _ (c e : Catalogue) (a : Alike c e) where
  pub sections-at : sections_at e ≡ sections_at c
  unfolding sections_at
  sections-at = ap length a.licence

  pub programs-at : programs_at e ≡ programs_at c
  unfolding programs_at
  programs-at = λ k. sections-at k + length (each section_name (a.sections k))

  pub functions-at : functions_at e ≡ functions_at c
  unfolding functions_at
  functions-at = λ k. programs-at k + length (each program_name (a.programs k))

  pub code_at : code_start e ≡ code_start c
  unfolding code_start
  code_at = λ k. functions-at k + length (a.function-names k)

  pub maps-at : maps_at e ≡ maps_at c
  unfolding maps_at
  maps-at = λ k. code_at k + a.code-bytes k

  pub own_at : own_start e ≡ own_start c
  unfolding own_start
  own_at = λ k. maps-at k + length (a.map-names k)

  pub bytes-long : length (bytes_of e) ≡ length (bytes_of c)
  bytes-long = bytes-end e ∙ (λ k. own_at k + a.own-bytes k) ∙ sym (bytes-end c)

  pub summary-alike : summary_of e ≡ summary_of c
  unfolding summary_of
  summary-alike = λ k.
      record {
        order = a.order k;
        version = a.version k;
        license = length (a.licence k);
        sections = length (a.sections k);
        programs = length (a.programs k);
        functions = a.functions k;
        maps = a.maps k;
        relocations = length (a.relocations k);
        bytes = bytes-long k;
      }

  -- the image of the one, but for the bytes of the other
  pub image-alike : image_of e
      ≡ record {
        sections = (image_of c).sections;
        programs = (image_of c).programs;
        functions = (image_of c).functions;
        maps = (image_of c).maps;
        relocations = (image_of c).relocations;
        bytes = bytes_of e;
      }
  unfolding image_of
  image-alike = λ k.
      record {
        sections = joined (placed section_name nothing section_row (sections-at k) 0 (a.sections k));
        programs = joined (placed program_name nothing program_row (programs-at k) 0 (a.programs k));
        functions = (ap (λ n. placed function_name function_code function_row n (code_start e) e.functions) functions-at ∙ ap (λ n. placed function_name function_code function_row (functions_at c) n e.functions) code_at ∙ a.function-rows (functions_at c) (code_start c)) k;
        maps = joined ((ap (λ n. placed map_name map_own map_row n (own_start e) e.maps) maps-at ∙ ap (λ n. placed map_name map_own map_row (maps_at c) n e.maps) own_at ∙ a.map_rows (maps_at c) (own_start c)) k);
        relocations = joined (placed nothing nothing relocation_row 0 0 (a.relocations k));
        bytes = bytes_of e;
      }

  pub fits-alike : (r : Room) → fits_in r (image_of e) ≡ fits_in r (image_of c)
  unfolding fits_in
  fits-alike r =
      ap (fits_in r) image-alike
      ∙ ap (λ n. leb (length (image_of c).sections) r.sections && (leb (length (image_of c).programs) r.programs && (leb (length (image_of c).functions) r.functions && (leb (length (image_of c).maps) r.maps && (leb (length (image_of c).relocations) r.relocations && leb n r.bytes))))) (bytes-long ∙ bytes-image)
    where
      bytes-image : length (bytes_of c) ≡ length (image_of c).bytes
      bytes-image = image-bytes c

-- The pass over all sections: the first refusal, and the numbers that those passed list for each table.
use Rattle.std.specs.Prelude.{◌≡◌, List, ◌++◌, ℕ, ◌+◌, ◌-◌, ◌<◌, ◌≤◌, length, take, drop, Err, None, Ok, Option, Result, Some}
use Rattle.std.proofs.Math.Path.{refl, ap}
use Rattle.std.proofs.Common.{sym, ◌∙◌, arith, length-append}
use Rattle.lists.specs.Tab.{tab, tab-none, rows}
use Rattle.object_view.specs.declared.View.{View}
use Rattle.model.specs.declared.EbpfSectionKind.{EbpfSectionKind as Kind}
use Rattle.model.specs.declared.Extent.{Extent}
use Rattle.model.specs.declared.Refusal.{Refusal}
use Rattle.model.specs.Bytes.{first_in, or_else}
use Rattle.model.specs.Contents.{version_of}
use Rattle.model.specs.Object.{Object}
use Rattle.model.specs.Refusals.{section_refusal, object_refusal}
use Rattle.model.specs.SectionKind.{kind_of}
use Rattle.orders.specs.Sort.{sorted}
use Rattle.catalogue_laws.specs.Numbers.{up_to, first_in-on, first_in-at}
use Rattle.catalogue_laws.specs.SortedGroups.{by_section}
use Rattle.records.specs.View.{section_at}
use Rattle.records.specs.Readable.{Readable}
use Rattle.object.specs.View.{section_in, symbol_in, object_in}
use Rattle.catalogue_numbers.specs.Numbers.{sections_from, programs_from, functions_from, maps_from, section_candidates, program_candidates, function_candidates, map_candidates}
use Rattle.parse_first.specs.LicenceVersion.{licence_refused, version_refused, license_at}
use Rattle.parse_text.specs.Parsed.{parsed_text}
use Rattle.parse_sections.specs.declared.Counts.{Counts}
use Rattle.parse_sections.specs.Grouped.{GroupOf, Reached, reached-start, reached-next, all-symbols, member-below}
use Rattle.parse_sections.specs.Answers.{Answers, functions_by, functions-by}
use Rattle.parse_sections.specs.Lists.{few-sections, few-programs, few-maps, sections-by, programs-by, maps-by, RoomFor, Lists}
use Rattle.parse_sections.specs.Candidates.{Candidates, candidates-none, candidates-inside, candidates-past, candidates-next, candidates-own, laid_behind, part_length}

module _ (d t : List ℕ) (v : View) where
  abbrev o : Object
  o = object_in d t v

  -- the first refusal of a section
  abbrev pub sections_refused : Option Refusal
  sections_refused = first_in (section_refusal o) (tab (section_in d t v) v.sections)

  refused-in-turn : object_refusal o ≡ or_else (licence_refused d t v) (or_else (version_refused d t v) sections_refused)
  unfolding object_refusal object_in
  refused-in-turn = refl

  pub refused-licence : (x : Refusal) → licence_refused d t v ≡ Some x → object_refusal o ≡ Some x
  refused-licence x e = refused-in-turn ∙ ap (λ a. or_else a (or_else (version_refused d t v) sections_refused)) e

  module _ (e : licence_refused d t v ≡ None) where
    pub refused-version : (x : Refusal) → version_refused d t v ≡ Some x → object_refusal o ≡ Some x
    refused-version x f = refused-in-turn ∙ (λ k. or_else (e k) (or_else (f k) sections_refused))

    pub refused-sections : version_refused d t v ≡ None → object_refusal o ≡ sections_refused
    refused-sections f = refused-in-turn ∙ (λ k. or_else (e k) (or_else (f k) sections_refused))

  -- ---- what the pass answers

  -- nothing refuses the object, the first n of each list are what its sections list, and n has its licence and its version
  pub record AllListed (q : Option Refusal) (n : Counts) (sections programs functions maps : List ℕ) : Type 0 where
    pub fine : q ≡ None
    pub few-sections : n.sections ≤ v.sections
    pub few-programs : n.programs ≤ v.symbols
    pub few-functions : n.functions ≤ v.symbols
    pub few-maps : n.maps ≤ v.sections + v.symbols
    pub of-sections : Candidates (section_candidates d t v) n.sections sections
    pub of-programs : Candidates (program_candidates d t v) n.programs programs
    pub of-functions : Candidates (function_candidates d t v) n.functions functions
    pub of-maps : Candidates (map_candidates d t v) n.maps maps
    pub of-license : n.license ≡ license_at d t v
    pub of-version : n.version ≡ version_of o

  abbrev pub ListedOrRefused : Option Refusal → Result Counts Refusal → List ℕ → List ℕ → List ℕ → List ℕ → Type 0
  ListedOrRefused q (Err x) sections programs functions maps = q ≡ Some x
  ListedOrRefused q (Ok n) sections programs functions maps = AllListed q n sections programs functions maps

  -- ---- the loop

  -- i sections are passed: none is refused, their symbols end at `from`, the first n of each list are what they list, and n has the licence and the version
  pub record Going (order sections programs functions maps : List ℕ) (i from : ℕ) (n : Counts) : Type 0 where
    pub reached : Reached d t v order i from
    pub fine : first_in (section_refusal o) (tab (section_in d t v) i) ≡ None
    pub few-sections : n.sections ≤ i
    pub few-programs : n.programs ≤ n.functions
    pub few-functions : n.functions ≤ from
    pub few-maps : n.maps ≤ i + from
    pub of-sections : Candidates (rows (sections_from d t v) i) n.sections sections
    pub of-programs : Candidates (rows (programs_from d t v) i) n.programs programs
    pub of-functions : Candidates (rows (functions_from d t v) i) n.functions functions
    pub of-maps : Candidates (rows (maps_from d t v) i) n.maps maps
    pub of-license : n.license ≡ license_at d t v
    pub of-version : n.version ≡ version_of o

  -- section i is passed too, and its functions are those from w to m of a list
  pub record SectionAhead (order functions : List ℕ) (i hi w m : ℕ) : Type 0 where
    pub reached : Reached d t v order (i + 1) hi
    pub fine : first_in (section_refusal o) (tab (section_in d t v) (i + 1)) ≡ None
    pub grown : w ≤ m
    pub few : m ≤ hi
    pub own : take (m - w) (drop w functions) ≡ functions_from d t v i
    pub held : Candidates (rows (functions_from d t v) (i + 1)) m functions

  module _ (order sections programs functions maps : List ℕ) where
    pub going_start : (l : Option Extent) (k : Option ℕ) → l ≡ license_at d t v → k ≡ version_of o
        → Going order sections programs functions maps 0 0 (record { sections = 0; programs = 0; functions = 0; maps = 0; license = l; version = k })
    unfolding first_in
    going_start l k e f =
        record {
          reached = reached-start d t v order;
          fine = rw tab-none;
          few-sections = omega arith;
          few-programs = omega arith;
          few-functions = omega arith;
          few-maps = omega arith;
          of-sections = candidates-none (sections_from d t v) sections;
          of-programs = candidates-none (programs_from d t v) programs;
          of-functions = candidates-none (functions_from d t v) functions;
          of-maps = candidates-none (maps_from d t v) maps;
          of-license = e;
          of-version = f;
        }

    module _ (i from : ℕ) (n : Counts) (g : Going order sections programs functions maps i from n) (e : order ≡ sorted (by_section (symbol_in d t v)) (up_to v.symbols)) where
      y : length order ≡ v.symbols
      y = all-symbols d t v order e

      pub going_end : i ≡ v.sections → AllListed sections_refused n sections programs functions maps
      unfolding section_candidates program_candidates function_candidates map_candidates
      going_end q =
          record {
            fine = ap (λ k. first_in (section_refusal o) (tab (section_in d t v) k)) (sym q) ∙ g.fine;
            few-sections = omega (arith, g.few-sections);
            few-programs = omega (arith, g.few-programs, g.few-functions, g.reached.within, y);
            few-functions = omega (arith, g.few-functions, g.reached.within, y);
            few-maps = omega (arith, g.few-maps, g.reached.within, y);
            of-sections = rw (ap (rows (sections_from d t v)) q) at g.of-sections;
            of-programs = rw (ap (rows (programs_from d t v)) q) at g.of-programs;
            of-functions = rw (ap (rows (functions_from d t v)) q) at g.of-functions;
            of-maps = rw (ap (rows (maps_from d t v)) q) at g.of-maps;
            of-license = g.of-license;
            of-version = g.of-version;
          }

      -- what lies past the programs and the maps that are listed may change
      pub going-past : (lo k : ℕ) (ps ms : List ℕ) → from ≤ lo → i + from ≤ k → Going order sections (take lo programs ++ ps) functions (take k maps ++ ms) i from n
      going-past lo k ps ms h j =
          record {
            reached = g.reached;
            fine = g.fine;
            few-sections = g.few-sections;
            few-programs = g.few-programs;
            few-functions = g.few-functions;
            few-maps = g.few-maps;
            of-sections = g.of-sections;
            of-programs = candidates-past g.of-programs lo ps (omega (arith, g.few-programs, g.few-functions));
            of-functions = g.of-functions;
            of-maps = candidates-past g.of-maps k ms (omega (arith, g.few-maps));
            of-license = g.of-license;
            of-version = g.of-version;
          }

      module _ (l : i < v.sections) (readable : Readable d t v) (lo hi : ℕ) (b : GroupOf d t v (section_at d t v i) order from lo hi) where
        -- its functions were laid behind those of the sections before it, up to hi
        module _ (r : Result ℕ Refusal) (out : List ℕ)
            (a : Answers (section_refusal o (section_in d t v i)) (functions_by d t v (section_at d t v i)) (take (hi - n.functions) (drop n.functions functions)) r out) where
          pub going-refused : (x : Refusal) → r ≡ Err x → sections_refused ≡ Some x
          going-refused x f = first_in-at (section_refusal o) (section_in d t v) i v.sections x l g.fine (go (section_refusal o (section_in d t v i)) (sym f ∙ a.answer))
            where
              go : (q : Option Refusal) → Err x ≡ parsed_text q (length (functions_by d t v (section_at d t v i))) → q ≡ Some x
              go None z = let no : ◌≡◌ {A = ℕ} 0 1 = cc in absurd (omega arith)
              go (Some w) z = cc

          fine-here : (m : ℕ) → r ≡ Ok m → (section_refusal o (section_in d t v i) ≡ None) × (m ≡ length (functions_by d t v (section_at d t v i)))
          fine-here m f = go (section_refusal o (section_in d t v i)) (sym f ∙ a.answer)
            where
              go : (q : Option Refusal) → Ok m ≡ parsed_text q (length (functions_by d t v (section_at d t v i))) → (q ≡ None) × (m ≡ length (functions_by d t v (section_at d t v i)))
              go None z = (refl, cc)
              go (Some w) z = let no : ◌≡◌ {A = ℕ} 0 1 = cc in absurd (omega arith)

          pub going-ahead : (m : ℕ) → hi ≤ length functions → length out ≡ length (take (hi - n.functions) (drop n.functions functions)) → r ≡ Ok m
              → SectionAhead order (take n.functions functions ++ (out ++ drop (hi - n.functions) (drop n.functions functions))) i hi n.functions (n.functions + m)
          going-ahead m room len f =
              let q = fine-here m f in
              let F = functions_from d t v in
              let listed = a.listed q.0 in
              let all : length out ≡ hi - n.functions = len ∙ part_length n.functions hi (hi - n.functions) functions (omega (arith, g.few-functions, b.after, b.upward)) room in
              let h = candidates-next F i g.of-functions (functions_by d t v (section_at d t v i)) _ (n.functions + m) (functions-by d t v i)
              (laid_behind n.functions (hi - n.functions) m _ functions out q.1 (rw q.1 listed) len) in
              record {
                reached = reached-next d t v order i from lo hi readable.sections-rise b;
                fine = first_in-on (section_refusal o) (section_in d t v) i g.fine q.0;
                grown = omega arith;
                few = omega (arith, q.1, all, ap length listed, length-append (functions_by d t v (section_at d t v i)) (drop (length (functions_by d t v (section_at d t v i))) (take (hi - n.functions) (drop n.functions functions))), g.few-functions, b.after, b.upward);
                own = candidates-own F i g.of-functions _ (n.functions + m) h;
                held = h;
              }

        -- what else it lists
        module _ (fs : List ℕ) (m : ℕ) (a : SectionAhead order fs i hi n.functions m) where
          abbrev group : List ℕ
          group = take (hi - lo) (drop lo order)

          abbrev own : List ℕ
          own = take (m - n.functions) (drop n.functions fs)

          group-long : length group ≡ hi - lo
          group-long = part_length lo hi (hi - lo) order (omega (arith, b.upward)) b.within

          own-long : length own ≡ m - n.functions
          own-long = part_length n.functions m (m - n.functions) fs (omega (arith, a.grown)) (candidates-inside a.held)

          pub going-room : v.sections ≤ length sections → v.symbols ≤ length programs → v.sections + v.symbols ≤ length maps
              → RoomFor v.sections group sections programs own maps n
          going-room p q s =
              record {
                small = λ k h. omega (arith, member-below d t v (section_at d t v i) group k b.group h, readable.few-sections, readable.few-symbols);
                for-section = omega (arith, g.few-sections);
                for-programs = omega (arith, g.few-programs, own-long, a.grown, a.few, b.within, y);
                for-functions = omega (arith, own-long, a.grown, a.few, b.within, y, readable.few-symbols);
                for-maps = omega (arith, g.few-maps, group-long, b.after, b.upward, b.within, y);
              }

          pub going_next : (k : Kind) (r : Counts) (s p u : List ℕ) → k ≡ kind_of (section_in d t v i)
              → Lists v.sections k i group own n r sections programs maps s p u → Going order s p fs u (i + 1) hi r
          going_next k r s p u e x =
              let f : r.functions ≡ m = omega (arith, x.of-functions, own-long, a.grown) in
              record {
                reached = a.reached;
                fine = a.fine;
                few-sections = omega (arith, x.of-sections.count, few-sections k i, g.few-sections);
                few-programs = omega (arith, x.of-programs.count, few-programs k own, own-long, g.few-programs, a.grown);
                few-functions = omega (arith, a.few);
                few-maps = omega (arith, x.of-maps.count, few-maps v.sections k i group, group-long, g.few-maps, b.after, b.upward);
                of-sections = candidates-next (sections_from d t v) i g.of-sections _ s r.sections (sections-by d t v i ∙ rw (← e)) x.of-sections;
                of-programs = candidates-next (programs_from d t v) i g.of-programs _ p r.programs (programs-by d t v i ∙ rw (← e, ← a.own)) x.of-programs;
                of-functions = rw f a.held;
                of-maps = candidates-next (maps_from d t v) i g.of-maps _ u r.maps (maps-by d t v i ∙ rw (← e, ← b.group)) x.of-maps;
                of-license = x.of-license ∙ g.of-license;
                of-version = x.of-version ∙ g.of-version;
              }

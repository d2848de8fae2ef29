-- The section list and the program table as tables of numbers: those that sections list one after the other, and what a number stands for.
use Rattle.std.specs.Prelude.{◌≡◌, Bool, None, Option, Some}
use Rattle.std.proofs.Math.Path.{refl, sym, ap}
use Rattle.std.proofs.Common.{◌∙◌, not-suc-le-zero, le_of_suc-le-suc, eq-or-lt_of_le, arith}
use Rattle.std.proofs.Math.Bool.{true, false, cond}
use mathlib.Core.List.{List, [], ◌∷◌, ◌++◌, map}
use Prim.Native.Nat.{ℕ, zero, suc, ◌<◌}
use Rattle.std.proofs.Math.Logic.{⊎_elim}
use borrow.Author.Tests.{eqb-true, eq-eqb, ne_eqb}
use Rattle.std.proofs.Math.Dec.{eqb}
use Rattle.lists.specs.Tab.{tab, rows}
use Rattle.lists.specs.Tests.{true-not-false}
use Rattle.model.specs.declared.SectionIndex.{SectionIndex}
use Rattle.model.specs.declared.Endianness.{Endianness}
use Rattle.model.specs.declared.EbpfSectionKind.{EbpfSectionKind as Kind}
use Rattle.model.specs.declared.ProgramSection.{ProgramSection}
use Rattle.model.specs.Bytes.{push, keep, first_in, find, or_else, maybe, is_some}
use Rattle.model.specs.Object.{Section, Symbol, Object}
use Rattle.model.specs.SectionKind.{is_kind, kind_of}
use Rattle.model.specs.ProgramName.{program_of}
use Rattle.model.specs.Table.{table_of}
use Rattle.model.specs.Catalogue.{SectionEntry, Program, section_key, program_key}
use Rattle.model.specs.Symbols.{lies_in, program_symbols}
use Rattle.model.specs.Contents.{section_entries, program_at, programs_of, catalogue_of}
use Rattle.catalogue_laws.specs.Numbers.{up_to, each-tab, map-append}
use Rattle.catalogue_laws.specs.Tables.{table-map}
use Rattle.catalogue_laws.specs.ByNumber.{object_by, members, program_members, programs-by}

-- ---- rows of rows

module _ {A B : Type 0} where
  pub rows-map : (g : A → B) (f : ℕ → List A) (n : ℕ) → rows (λ i. map g (f i)) n ≡ map g (rows f n)
  unfolding rows
  rows-map g f zero = refl
  rows-map g f (suc n) = ap (λ l. l ++ map g (f n)) (rows-map g f n) ∙ sym (map-append g (rows f n) (f n))

pub rows_ext : {A : Type 0} (f g : ℕ → List A) (n : ℕ) → ((i : ℕ) → i < n → f i ≡ g i) → rows f n ≡ rows g n
unfolding rows
rows_ext f g zero h = refl
rows_ext f g (suc n) h = λ k. rows_ext f g n (λ i l. h i (omega arith)) k ++ h n (omega arith) k

-- each number of a list has it
abbrev pub All : (ℕ → Type 0) → List ℕ → Type 0
All P [] = Unit {0}
All P (x ∷ l) = P x × All P l

pub map_on : {A : Type 0} (P : ℕ → Type 0) (f g : ℕ → A) (l : List ℕ) → All P l → ((x : ℕ) → P x → f x ≡ g x) → map f l ≡ map g l
map_on P f g [] a h = refl
map_on P f g (x ∷ l) a h = λ k. h x a.0 k ∷ map_on P f g l a.1 h k

pub all_keep : (P : ℕ → Type 0) (p : ℕ → Bool) (l : List ℕ) → ((x : ℕ) → p x ≡ true → P x) → All P (keep p l)
unfolding keep
all_keep P p [] h = tt
all_keep P p (x ∷ l) h = go (p x) refl (all_keep P p l h)
  where
    go : (b : Bool) → p x ≡ b → All P (keep p l) → All P (push b x (keep p l))
    go true e r = (h x e, r)
    go false e r = r

pub all-kept : (P : ℕ → Type 0) (p : ℕ → Bool) (l : List ℕ) → All P l → All P (keep p l)
unfolding keep
all-kept P p [] a = tt
all-kept P p (x ∷ l) a = go (p x) (all-kept P p l a.1)
  where
    go : (b : Bool) → All P (keep p l) → All P (push b x (keep p l))
    go true r = (a.0, r)
    go false r = r

-- ---- an object by number, whose section indexes rise

module _ (e : Endianness) (sec : ℕ → Section) (S : ℕ) (at : ℕ → Symbol) (Y : ℕ) where
  abbrev pub whole : Object
  whole = object_by e (tab sec S) at Y

  abbrev pub IndexesRising : Type 0
  IndexesRising = (i j : ℕ) → i < j → j < S → (sec i).index.0 < (sec j).index.0

  -- the number of the section that has an index
  unfoldable pub owner : ℕ → Option ℕ
  owner k = find (λ i. eqb (sec i).index.0 k) (up_to S)

  pub find-append : (p : ℕ → Bool) (a b : List ℕ) → find p (a ++ b) ≡ or_else (find p a) (find p b)
  unfolding find first_in
  find-append p [] b = refl
  find-append p (x ∷ a) b = go (p x) (find-append p a b)
    where
      go : (t : Bool) → first_in (λ y. cond (p y) (Some y) None) (a ++ b) ≡ or_else (first_in (λ y. cond (p y) (Some y) None) a) (first_in (λ y. cond (p y) (Some y) None) b)
          → or_else (cond t (Some x) None) (first_in (λ y. cond (p y) (Some y) None) (a ++ b))
          ≡ or_else (or_else (cond t (Some x) None) (first_in (λ y. cond (p y) (Some y) None) a)) (first_in (λ y. cond (p y) (Some y) None) b)
      go true h = refl
      go false h = h

  pub none-up : (p : ℕ → Bool) (n : ℕ) → ((i : ℕ) → i < n → p i ≡ false) → find p (up_to n) ≡ None
  unfolding tab find first_in
  none-up p zero h = refl
  none-up p (suc n) h = find-append p (up_to n) (n ∷ []) ∙ rw (none-up p n (λ i l. h i (omega arith)), h n (omega arith))

  found_up : (p : ℕ → Bool) (n i : ℕ) → i < n → p i ≡ true → ((k : ℕ) → k < i → p k ≡ false) → find p (up_to n) ≡ Some i
  unfolding tab find first_in
  found_up p zero i l q h = absurd (not-suc-le-zero l)
  found_up p (suc n) i l q h =
      ⊎_elim
      (λ r. let u : find p (up_to n) ≡ None = none-up p n (λ k m. h k (omega arith)) in let v : p n ≡ true = rw (← r) q in find-append p (up_to n) (n ∷ []) ∙ rw (u, v) (ap Some (sym r)))
      (λ r. find-append p (up_to n) (n ∷ []) ∙ rw (found_up p n i r q h))
      (eq-or-lt_of_le (le_of_suc-le-suc l))

  pub owner-is : IndexesRising → (i : ℕ) → i < S → owner (sec i).index.0 ≡ Some i
  unfolding owner
  owner-is rise i l =
      found_up (λ k. eqb (sec k).index.0 (sec i).index.0) S i l (eq-eqb (sec i).index.0 (sec i).index.0 refl)
      (λ k m. let q : (sec k).index.0 < (sec i).index.0 = rise k i m l in ne_eqb (sec k).index.0 (sec i).index.0 (omega arith))

  -- the section that a symbol lies in, by number; 0 where there is none
  abbrev pub home : ℕ → ℕ
  home j = maybe (at j).section 0 (λ k. maybe (owner k.0) 0 (λ i. i))

  pub home-is : IndexesRising → (i j : ℕ) → i < S → lies_in (sec i).index (at j).section ≡ true → home j ≡ i
  home-is rise i j l h = go (at j).section h
    where
      go : (o : Option SectionIndex) → lies_in (sec i).index o ≡ true → maybe o 0 (λ k. maybe (owner k.0) 0 (λ m. m)) ≡ i
      go None q = true-not-false (sym q)
      go (Some k) q = let r : (sec i).index.0 ≡ k.0 = eqb-true _ _ q in rw (← r, owner-is rise i l)

  pub members-home : IndexesRising → (i : ℕ) → i < S → All (λ j. home j ≡ i) (members e (tab sec S) at Y (sec i))
  unfolding members
  members-home rise i l = all_keep (λ j. home j ≡ i) (λ j. lies_in (sec i).index (at j).section) (up_to Y) (λ j h. home-is rise i j l h)

  pub programs-home : IndexesRising → (i : ℕ) → i < S → All (λ j. home j ≡ i) (program_members e (tab sec S) at Y (sec i))
  unfolding program_members
  programs-home rise i l = all-kept (λ j. home j ≡ i) _ (members e (tab sec S) at Y (sec i)) (members-home rise i l)

  -- ---- sections

  unfoldable pub sections_in : ℕ → List ℕ
  sections_in i = cond (is_kind Kind.BtfExt (kind_of (sec i))) [] (i ∷ [])

  abbrev pub entry_in : ℕ → SectionEntry
  entry_in i = record { name = (sec i).name; index = (sec i).index; size = (sec i).size }

  pub sections-are : (catalogue_of whole).sections ≡ map entry_in (table_of (λ i. (sec i).name) (rows sections_in S))
  unfolding catalogue_of section_entries sections_in
  sections-are =
      ap (table_of section_key) (each-tab section_entries sec S ∙ rows_ext _ _ S (λ i l. go (is_kind Kind.BtfExt (kind_of (sec i))) i) ∙ rows-map entry_in sections_in S)
      ∙ table-map section_key entry_in (rows sections_in S)
    where
      go : (b : Bool) (i : ℕ) → cond b [] (entry_in i ∷ []) ≡ map entry_in (cond b [] (i ∷ []))
      go true i = refl
      go false i = refl

  -- ---- programs

  unfoldable pub programs_in : ℕ → List ℕ
  programs_in i = cond (is_kind Kind.Program (kind_of (sec i))) (program_members e (tab sec S) at Y (sec i)) []

  -- what a section's name says; the default is never met where nothing is refused
  abbrev pub variant_in : ℕ → ProgramSection
  variant_in i = maybe (program_of (sec i).name) ProgramSection.KProbe (λ v. v)

  abbrev pub program_in : ℕ → Program
  program_in j = program_at (variant_in (home j)) (sec (home j)) (at j)

  -- no section is refused with 8
  abbrev pub Named : Type 0
  Named = (i : ℕ) → i < S → is_kind Kind.Program (kind_of (sec i)) ≡ true → is_some (program_of (sec i).name) ≡ true

  pub programs-are : IndexesRising → Named → (catalogue_of whole).programs ≡ map program_in (table_of (λ j. (at j).name) (rows programs_in S))
  unfolding catalogue_of programs_of programs_in program_at
  programs-are rise named =
      ap (table_of program_key) (each-tab (programs_of whole) sec S ∙ rows_ext _ _ S one ∙ rows-map program_in programs_in S)
      ∙ table-map program_key program_in (rows programs_in S)
    where
      listed : (i : ℕ) (o : Option ProgramSection) → i < S → program_of (sec i).name ≡ o → is_some o ≡ true
          → maybe o [] (λ v. map (program_at v (sec i)) (program_symbols whole (sec i))) ≡ map program_in (program_members e (tab sec S) at Y (sec i))
      listed i None l q h = true-not-false (sym h)
      listed i (Some v) l q h =
          ap (map (program_at v (sec i))) (programs-by e (tab sec S) at Y (sec i)) ∙ map-map-at (program_members e (tab sec S) at Y (sec i))
          ∙ map_on (λ j. home j ≡ i) (λ j. program_at v (sec i) (at j)) program_in (program_members e (tab sec S) at Y (sec i)) (programs-home rise i l)
          (λ j r. rw (r, q))
        where
          map-map-at : (l : List ℕ) → map (program_at v (sec i)) (map at l) ≡ map (λ j. program_at v (sec i) (at j)) l
          map-map-at [] = refl
          map-map-at (j ∷ l) = ap (λ m. program_at v (sec i) (at j) ∷ m) (map-map-at l)

      one : (i : ℕ) → i < S → programs_of whole (sec i) ≡ map program_in (programs_in i)
      one i l = go (is_kind Kind.Program (kind_of (sec i))) refl
        where
          go : (b : Bool) → is_kind Kind.Program (kind_of (sec i)) ≡ b
              → cond b (maybe (program_of (sec i).name) [] (λ v. map (program_at v (sec i)) (program_symbols whole (sec i)))) []
              ≡ map program_in (cond b (program_members e (tab sec S) at Y (sec i)) [])
          go true q = listed i (program_of (sec i).name) l refl (named i l q)
          go false q = refl

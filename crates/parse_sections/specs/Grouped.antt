-- The group of one section's symbols, and its defined text in order of address.
use Rattle.std.specs.Prelude.{◌≡◌, Bool, cond, List, [], ◌∷◌, ℕ, ◌+◌, ◌-◌, ◌<◌, ◌≤◌, get_or, take, drop, None, Some}
use Rattle.std.proofs.Math.Path.{refl, sym, ap}
use Rattle.std.proofs.Common.{◌∙◌, arith, take_all, length-drop}
use Rattle.std.proofs.Math.Bool.{true, false}
use borrow.Author.Tests.{eqb-false, ne_eqb, eqb-true}
use Rattle.std.proofs.Math.Dec.{eqb}
use Rattle.std.proofs.Math.ListN.{length}
use Rattle.std.specs.List.{prefix_len}
use Rattle.std.proofs.lemmas.List.Sums.{prefix_len-le-length}
use Rattle.lists.specs.Tab.{tab, length-tab}
use Rattle.object_view.specs.declared.View.{View}
use Rattle.object_view.specs.NoIndex.{no_index, is_none}
use Rattle.model.specs.declared.SectionIndex.{SectionIndex}
use Rattle.model.specs.declared.SectionRecord.{SectionRecord}
use Rattle.model.specs.Bytes.{keep}
use Rattle.model.specs.Deposit.{unless_none}
use Rattle.model.specs.Object.{Section}
use Rattle.model.specs.Symbols.{lies_in}
use Rattle.orders.specs.Sort.{by_key, key-order, sorted, length-sorted}
use Rattle.records.specs.View.{section_at, symbol_at}
use Rattle.records.specs.Readable.{SectionsRise}
use Rattle.catalogue_laws.specs.ByNumber.{raw_section, is_defined_text, members, text_members, text_order}
use Rattle.catalogue_laws.specs.Numbers.{up_to, keep-ext}
use Rattle.catalogue_laws.specs.Groups.{all-below, all-at}
use Rattle.catalogue_laws.specs.SectionsPrograms.{All, all-kept}
use Rattle.catalogue_laws.specs.Sorted.{keep-of-sorted}
use Rattle.catalogue_laws.specs.SortedGroups.{by_section, by_place, members-raw, members-group, text-group}
use Rattle.object.specs.View.{section_from, symbol_from, section_in, symbol_in}
use Rattle.object.specs.Group.{members_in}
use Rattle.record_keys.specs.declared.By.{By}
use Rattle.record_keys.specs.Keys.{key_of}
use Rattle.symbol_groups.specs.Cut.{lies_below, lies_at, raw-is}
use Rattle.symbol_groups.specs.Group.{place-keys, section-climbs, none-passed, the-group, all-passed}
use Rattle.parse_text.specs.Group.{text_group, text_in}

-- the rest of a list, lent
pub rest_is : {A : Type 0} (from : ℕ) (l : List A) → take (length l - from) (drop from l) ≡ drop from l
rest_is from l = take_all (length l - from) (drop from l) (rw length-drop (omega arith))

none_kept : (l : List ℕ) → keep (λ j. false) l ≡ []
unfolding keep
none_kept [] = refl
none_kept (j ∷ l) = none_kept l

module _ (d t : List ℕ) (v : View) where
  abbrev key : ℕ → ℕ
  key j = (symbol_at d t v j).section.0

  -- the first n of the symbols lie in sections below k
  abbrev pub SymbolsPassed : List ℕ → ℕ → ℕ → Type 0
  SymbolsPassed order n k = All (λ j. (symbol_at d t v j).section.0 < k) (take n order)

  -- where a section's symbols stand, from a place on
  pub record GroupOf (s : SectionRecord) (order : List ℕ) (from lo hi : ℕ) : Type 0 where
    pub after : from ≤ lo
    pub upward : lo ≤ hi
    pub within : hi ≤ length order
    pub group : take (hi - lo) (drop lo order) ≡ members_in d t v s
    pub passed : (k : ℕ) → s.index.0 < k → SymbolsPassed order hi k

  -- i sections are passed, and their symbols end at `from`
  pub record Reached (order : List ℕ) (i from : ℕ) : Type 0 where
    pub within : from ≤ length order
    pub passed : i < v.sections → SymbolsPassed order from (section_at d t v i).index.0

  pub reached-start : (order : List ℕ) → Reached order 0 0
  reached-start order = record { within = omega arith; passed = λ l. tt }

  pub reached-next : (order : List ℕ) (i from lo hi : ℕ) → SectionsRise d t v → GroupOf (section_at d t v i) order from lo hi → Reached order (i + 1) hi
  reached-next order i from lo hi rise g =
      record { within = g.within; passed = λ l. g.passed (section_at d t v (i + 1)).index.0 (rise i (i + 1) (omega arith) l) }

  pub all-symbols : (order : List ℕ) → order ≡ sorted (by_section (symbol_in d t v)) (up_to v.symbols) → length order ≡ v.symbols
  all-symbols order e = ap length e ∙ rw (length-sorted, length-tab)

  -- no symbol lies in a section of the index that stands for none
  no-members : (s : SectionRecord) → is_none s.index.0 ≡ true → members_in d t v s ≡ []
  unfolding members section_from symbol_from
  no-members s e = keep-ext _ (λ j. false) (up_to v.symbols) (λ j. out (symbol_at d t v j).section) ∙ none_kept (up_to v.symbols)
    where
      go : (i : SectionIndex) (b : Bool) → is_none i.0 ≡ b → lies_in s.index (cond b None (Some i)) ≡ false
      go i true q = refl
      go i false q = ne_eqb s.index.0 i.0 (λ r. eqb-false i.0 no_index q (sym r ∙ eqb-true s.index.0 no_index e))

      out : (i : SectionIndex) → lies_in s.index (unless_none i.0 i) ≡ false
      out i = go i (is_none i.0) refl

  module _ (s : SectionRecord) (order : List ℕ) (from lo : ℕ) (e : order ≡ sorted (by_section (symbol_in d t v)) (up_to v.symbols))
      (p : SymbolsPassed order from s.index.0) (w : from ≤ length order) (a : lo ≡ from + prefix_len (lies_below d t v s.index.0) (drop from order)) where
    inside : lo ≤ length order
    inside = omega (arith, prefix_len-le-length (lies_below d t v s.index.0) (drop from order), length-drop from order)

    pub group-none : is_none s.index.0 ≡ true → GroupOf s order from lo lo
    group-none q =
        let z : lo - lo ≡ 0 = omega arith in
        record {
          after = omega arith;
          upward = omega arith;
          within = inside;
          group = rw z (sym (no-members s q));
          passed = λ k l. rw a (none-passed key s.index.0 order from p k (omega arith));
        }

    pub group-some : (hi : ℕ) → is_none s.index.0 ≡ false → hi ≡ lo + prefix_len (lies_at d t v s.index.0) (drop lo order) → GroupOf s order from lo hi
    unfolding section_from
    group-some hi q b =
        let g : keep (λ j. eqb s.index.0 (key j)) order ≡ take (prefix_len (lies_at d t v s.index.0) (drop lo order)) (drop lo order) =
        the-group key s.index.0 order from p lo a (section-climbs d t v order e) in
        let r : keep (λ j. eqb s.index.0 (key j)) order ≡ keep (λ j. eqb s.index.0 (raw_section (symbol_in d t v j))) order =
        keep-ext _ _ order (λ j. ap (eqb s.index.0) (sym (raw-is d t v (symbol_at d t v j)))) in
        let m : keep (λ j. eqb s.index.0 (raw_section (symbol_in d t v j))) order ≡ members_in d t v s =
        rw e (members-group v.order (tab (section_in d t v) v.sections) (symbol_in d t v) v.symbols (section_from d t v s) (eqb-false s.index.0 no_index q)) in
        let n : hi - lo ≡ prefix_len (lies_at d t v s.index.0) (drop lo order) = omega arith in
        record {
          after = omega arith;
          upward = omega arith;
          within = omega (arith, inside, prefix_len-le-length (lies_at d t v s.index.0) (drop lo order), length-drop lo order);
          group = rw n (sym g ∙ r ∙ m);
          passed = λ k l. rw b (all-passed key s.index.0 order from p lo a k l);
        }

  -- a number of a group is a symbol's
  pub member-below : (s : SectionRecord) (group : List ℕ) (k : ℕ) → group ≡ members_in d t v s → k < length group → get_or group k 0 < v.symbols
  unfolding members
  member-below s group k e =
      all-at (λ j. j < v.symbols) group k
      (rw e (all-kept (λ j. j < v.symbols) (λ j. lies_in (section_from d t v s).index (symbol_in d t v j).section) (up_to v.symbols) (all-below v.symbols)))

  -- ---- a section's defined text in order of address

  module _ (s : SectionRecord) where
    abbrev sec : Section
    sec = section_from d t v s

    text-none : members_in d t v s ≡ [] → [] ≡ text_in d t v sec
    unfolding text_order text_members keep sorted
    text-none e = rw e

    index_is : sec.index.0 ≡ s.index.0
    unfolding section_from
    index_is = refl

    text-some : (sec.index.0 ≡ no_index → ⊥) → keep (λ j. is_defined_text (symbol_in d t v j)) (sorted (by_place (symbol_in d t v)) (members_in d t v s)) ≡ text_in d t v sec
    text-some q =
        let E = v.order in
        let ss = tab (section_in d t v) v.sections in
        let at = symbol_in d t v in
        let o = key-order (λ j. raw_section (at j) ∷ (at j).address ∷ []) in
        ap (λ l. keep (λ j. is_defined_text (at j)) (sorted (by_place at) l)) (sym (members-raw E ss at v.symbols sec q))
        ∙ ap (keep (λ j. is_defined_text (at j))) (sym (keep-of-sorted (by_place at) o (λ j. eqb sec.index.0 (raw_section (at j))) (up_to v.symbols)))
        ∙ text-group E ss at v.symbols sec q

    text-any : (b : Bool) → is_none s.index.0 ≡ b → keep (λ j. is_defined_text (symbol_in d t v j)) (sorted (by_place (symbol_in d t v)) (members_in d t v s)) ≡ text_in d t v sec
    unfolding keep sorted
    text-any true q = let e = no-members s q in ap (λ l. keep (λ j. is_defined_text (symbol_in d t v j)) (sorted (by_place (symbol_in d t v)) l)) e ∙ text-none e
    text-any false q = text-some (λ r. eqb-false s.index.0 no_index q (sym index_is ∙ r))

    -- a copy of the group, sorted by address
    pub text-ready : (group y : List ℕ) → group ≡ members_in d t v s → y ≡ sorted (by_key (key_of By.SymbolAddress d t v)) group → text_group d t v y ≡ text_in d t v sec
    unfolding text_group
    text-ready group y g q =
        ap (keep (λ j. is_defined_text (symbol_in d t v j))) (q ∙ (λ k. sorted (by_key (place-keys d t v k)) (g k)))
        ∙ text-any (is_none s.index.0) refl

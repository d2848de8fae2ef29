-- What the index's parts come to, one after the other.
use Rattle.std.specs.Prelude.{◌≡◌, refl, true, false, List, ◌++◌, ℕ, ⊤, Result, MatchResult, Err, Ok}
use Rattle.std.proofs.Common.{sym, ap, ◌∙◌}
use Rattle.std.proofs.Math.Bool.{and-false}
use Rattle.model.specs.declared.Refusal.{Refusal}
use Rattle.model.specs.Elf.{file_of, elf_object_of}
use Rattle.model.specs.Deposit.{has_btf}
use Rattle.model.specs.ElfRefusals.{section_names_ok}
use Rattle.object_view.specs.declared.View.{View}
use Rattle.object.specs.View.{object_in}
use Rattle.elf_layout.specs.declared.Layout.{Layout}
use Rattle.elf_layout.specs.Layout.{elf_view, layout_of, file_refusal, checked_file}
use Rattle.elf_object.specs.Inside.{tables-ruled}
use Rattle.elf_object.specs.Indexed.{Indexed}
use Rattle.elf_object.proofs.Object.{readable-elf, object-elf}
use Rattle.elf_names.specs.Lengths.{strings_ok, string_lengths}
use Rattle.elf.specs.Names.{symbols_ok, names_ok}
use Rattle.elf.specs.Asked.{section-names, section-lengths, symbol-names, symbol-lengths}
use Rattle.elf.specs.Index.{section_part, symbol_part, relocation_part, indexed}
use Rattle.elf.specs.Opened.{opened_file, FileOpened, Passes, refused-then, opened-names, names-rules, opened-btf, opened_view}

-- the names are fine, and the index holds what it should; or one breaks a rule
abbrev pub IndexTold : List ℕ → List ℕ → Result ⊤ Refusal → Type 0
IndexTold f t r = MatchResult r (λ _. (names_ok f ≡ true) × Indexed f t) (λ x. (x ≡ file_refusal 26) × (names_ok f ≡ false))

view_of : (f : List ℕ) → (layout_of f).view ≡ elf_view f
unfolding layout_of
view_of f = refl

refused_as : (f t : List ℕ) (r : Refusal) → Err r ≡ opened_file f → FileOpened f t (Err r)
refused_as f t r q =
    record {
      is = q;
      readable = λ v e. cc;
      object = λ v e. cc;
    }

-- what was checked was refused then
pub opens-refused : (f t : List ℕ) (r : Refusal) → Err r ≡ checked_file f → FileOpened f t (Err r)
opens-refused f t r e = refused_as f t r (refused-then f r e)

module _ (f : List ℕ) (l : Layout) (p : Passes f l) (t : List ℕ) where
  pub opens-broken : names_ok f ≡ false → FileOpened f t (Err (file_refusal 26))
  opens-broken e = refused_as f t (file_refusal 26) (opened-names f l p e)

  layout-view : l.view ≡ elf_view f
  layout-view = rw p.layout (view_of f)

  object : names_ok f ≡ true → Indexed f t → elf_object_of f ≡ object_in f t l.view
  object e w = object-elf f t (names-rules f l p e) w ∙ rw layout-view

  pub opens-btf : names_ok f ≡ true → Indexed f t → has_btf (object_in f t l.view) ≡ true → FileOpened f t (Err (file_refusal 3))
  opens-btf e w d = refused_as f t (file_refusal 3) (opened-btf f l p (names-rules f l p e) (rw (object e w) d))

  view-same : (v u : View) → ◌≡◌ {A = Result View Refusal} (Ok v) (Ok u) → v ≡ u
  view-same v u e = cc

  pub opens-view : names_ok f ≡ true → Indexed f t → has_btf (object_in f t l.view) ≡ false → FileOpened f t (Ok l.view)
  opens-view e w d =
      record {
        is = ap Ok layout-view ∙ opened_view f l p (names-rules f l p e) (rw (object e w) d);
        readable = λ v q. rw (← view-same l.view v q, layout-view) (readable-elf f t (names-rules f l p e) w);
        object = λ v q. rw (← view-same l.view v q) (object e w);
      }

-- ---- the parts of the index, one after the other

module _ (f : List ℕ) (l : Layout) (p : Passes f l) (n : ℕ) (count : n ≡ l.view.sections) where
  pub sections-broken : strings_ok l.view.order f l.view.at.sections 64 l.view.strings.sections l.ends.sections n ≡ false → names_ok f ≡ false
  sections-broken e = rw (sym (section-names f l p n count) ∙ e)

  module _ (m : ℕ) (symbols : m ≡ l.view.symbols) where
    pub symbols-broken : strings_ok l.view.order f l.view.at.symbols 24 l.view.strings.symbols l.ends.symbols m ≡ false → names_ok f ≡ false
    symbols-broken e = rw (sym (symbol-names f l p m symbols) ∙ e) (and-false (section_names_ok f (file_of f)))

    pub index-told : (A B C rest : List ℕ)
        → (strings_ok l.view.order f l.view.at.sections 64 l.view.strings.sections l.ends.sections n ≡ true)
        × (A ≡ string_lengths l.view.order f l.view.at.sections 64 l.view.strings.sections l.ends.sections n)
        → (strings_ok l.view.order f l.view.at.symbols 24 l.view.strings.symbols l.ends.symbols m ≡ true)
        × (B ≡ string_lengths l.view.order f l.view.at.symbols 24 l.view.strings.symbols l.ends.symbols m)
        → C ≡ relocation_part f → (names_ok f ≡ true) × Indexed f (A ++ (B ++ (C ++ rest)))
    index-told A B C rest a b c =
        let s : section_names_ok f (file_of f) ≡ true = sym (section-names f l p n count) ∙ a.0 in
        let y : symbols_ok f (file_of f) ≡ true = sym (symbol-names f l p m symbols) ∙ b.0 in
        let A-is : A ≡ section_part f = a.1 ∙ section-lengths f l p n count in
        let B-is : B ≡ symbol_part f = b.1 ∙ symbol-lengths f l p m symbols in
        (rw (s, y), indexed f (tables-ruled f (file_of f) p.tables) _ rest (rw (A-is, B-is, c)))

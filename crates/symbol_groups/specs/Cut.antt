-- Where a walk over sorted symbol numbers stops: before the first that is not below a section's number, and behind the last that has it.
use Rattle.std.specs.Prelude.{◌≡◌, refl, Bool, true, false, cond, List, ℕ, eqb, ltb, None, Some}
use Rattle.std.proofs.Common.{sym, eqb-true}
use Rattle.object_view.specs.declared.View.{View}
use Rattle.object_view.specs.NoIndex.{no_index, is_none}
use Rattle.model.specs.declared.SectionIndex.{SectionIndex}
use Rattle.model.specs.declared.SymbolRecord.{SymbolRecord}
use Rattle.model.specs.Bytes.{maybe}
use Rattle.records.specs.View.{symbol_at}
use Rattle.catalogue_laws.specs.ByNumber.{raw_section}
use Rattle.object.specs.View.{symbol_from}

-- the number of a symbol's section as its record has it
pub raw-is : (d t : List ℕ) (v : View) (r : SymbolRecord) → raw_section (symbol_from d t v r) ≡ r.section.0
unfolding symbol_from
raw-is d t v r = go (is_none r.section.0) refl
  where
    go : (b : Bool) → is_none r.section.0 ≡ b → maybe (cond b None (Some r.section)) no_index (λ (k : SectionIndex). k.0) ≡ r.section.0
    go true e = sym (eqb-true r.section.0 no_index e)
    go false e = refl

module _ (d t : List ℕ) (v : View) where
  abbrev pub raw : ℕ → ℕ
  raw j = (symbol_at d t v j).section.0

  -- whether a symbol lies in a section below k, and whether in section k
  abbrev pub lies_below : ℕ → ℕ → Bool
  lies_below k j = ltb (raw j) k

  abbrev pub lies_at : ℕ → ℕ → Bool
  lies_at k j = eqb (raw j) k

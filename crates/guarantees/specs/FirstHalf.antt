-- Demand 3, first half, on objects: what the catalogue lists of a section stands in the other object's section too. proofs/FirstHalf.antt shows it.
use Rattle.std.specs.Prelude.{◌≡◌, true, false, []}
use Rattle.std.proofs.Math.Path.{sym, ap}
use Rattle.std.proofs.Common.{◌∙◌}
use borrow.Author.Tests.{eqb-true}
use Rattle.model.specs.declared.EbpfSectionKind.{EbpfSectionKind as Kind}
use Rattle.model.specs.Object.{Object}
use Rattle.model.specs.SectionKind.{kind_number, is_kind}
use Rattle.model.specs.Catalogue.{Catalogue}
use Rattle.model.specs.Patching.{accepted, load}
use Rattle.model.specs.ReadBack.{kind_from}
use Rattle.guarantees.specs.WordsOfDemand3.{Fair, FirstHalf}
use Rattle.guarantees.specs.ReadBackImage.{kind-back}
use Rattle.guarantees.specs.AcceptedObjects.{Stated}

-- ---- kinds

pub kind-is : (k m : Kind) → is_kind k m ≡ true → m ≡ k
kind-is k m e = sym (kind-back m) ∙ ap kind_from (sym (eqb-true (kind_number k) (kind_number m) e)) ∙ kind-back k

-- two objects that are accepted without patches or rewriting, with the same catalogue c
abbrev pub FirstHalfOfObjects : Type 0
FirstHalfOfObjects =
    (a b : Object) (c : Catalogue) → Stated a → Stated b → load a [] false ≡ accepted c → load b [] false ≡ accepted c
    → Fair a → Fair b → FirstHalf a b c × FirstHalf b a c

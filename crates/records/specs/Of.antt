-- What is said of bytes, an index and a view, said of records.
use Rattle.std.specs.Prelude.{List, ℕ}
use Rattle.object_view.specs.declared.View.{View}
use Rattle.records.specs.declared.opened.Records.{Records}

abbrev pub of {ℓ} : {A : Type ℓ} → (List ℕ → List ℕ → View → A) → Records → A
of f r = f r.bytes.now r.index.now r.view

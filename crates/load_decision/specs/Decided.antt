-- What is decided, and what an accepted object leaves in hand.
use Rattle.model.specs.declared.Refusal.{Refusal}
use Rattle.std.specs.Prelude.{◌≡◌, true, false, List, ◌++◌, ℕ, ◌*◌, ◌≤◌, length, drop, Err, None, Ok, Result}
use Rattle.std.proofs.Common.{sym, ap, ◌∙◌}
use Rattle.object_view.specs.declared.View.{View}
use Rattle.lists.specs.Tab.{rows}
use Rattle.model.specs.Lent.{placed, joined, nothing, relocation_row, image_of, fits_in, too_small}
use Rattle.model.specs.Refusals.{object_refusal}
use Rattle.object.specs.View.{object_in}
use Rattle.records.specs.Readable.{Readable}
use Rattle.load_image.specs.Tables.{relocations-are, rows-of-relocations}
use Rattle.catalogue_numbers.specs.Numbers.{relocations_from}
use Rattle.bytes_layout.specs.Held.{At}
use Rattle.bytes_layout.specs.Parts.{catalogue}
use Rattle.model.specs.declared.Room.{Room}
use Rattle.load_decision.specs.declared.Plan.{Plan}
use Rattle.load_decision.specs.Room.{spacious}

module _ (d t : List ℕ) (v : View) where
  -- all of the catalogue fits: its relocations, and where the parts of its bytes lie
  pub record Planned (room : Room) (plan : Plan) : Type 0 where
    pub fit : fits_in room (image_of (catalogue d t v)) ≡ true
    pub count : plan.relocations ≡ length (catalogue d t v).relocations
    pub at : At (catalogue d t v) plan.places

  abbrev pub Fitted : Room → Result Plan Refusal → Type 0
  Fitted room (Err q) = (q ≡ too_small) × (fits_in room (image_of (catalogue d t v)) ≡ false)
  Fitted room (Ok plan) = Planned room plan

  -- the rows of the relocations lie at the front of their table, if all of it fits
  abbrev pub Relocated : Result Plan Refusal → List ℕ → List ℕ → Type 0
  Relocated r out₀ out = (plan : Plan) → r ≡ Ok plan → out ≡ (image_of (catalogue d t v)).relocations ++ drop (plan.relocations * 4) out₀

module _ {d t : List ℕ} {v : View} (r : Readable d t v) (ok : object_refusal (object_in d t v) ≡ None) where
  pub relocated : (room : Room) (out₀ out : List ℕ) (n : ℕ) (x : Result Plan Refusal) → Fitted d t v room x → room.relocations ≡ length out₀
      → n ≡ length (rows (relocations_from d t v) v.sections)
      → (n * 4 ≤ length out₀ → out ≡ joined (placed nothing nothing relocation_row 0 0 (rows (relocations_from d t v) v.sections)) ++ drop (n * 4) out₀)
      → Relocated d t v x out₀ out
  relocated room out₀ out n x g e q rows-laid plan k =
      let a = rw k at g in
      let u : n ≡ length (catalogue d t v).relocations = q ∙ ap length (relocations-are r ok) in
      let i : length (catalogue d t v).relocations * 4 ≤ room.relocations = (spacious (catalogue d t v) room a.fit).relocations in
      let w : n * 4 ≤ length out₀ = rw (u, ← e) i in
      let y : n ≡ plan.relocations = u ∙ sym a.count in
      rows-laid w ∙ (λ j. rows-of-relocations r ok j ++ drop (y j * 4) out₀)

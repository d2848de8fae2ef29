-- What a load leaves in the lent tables and bytes, but for the function table.
use Rattle.std.specs.Prelude.{◌≡◌, List, ◌++◌, ℕ, ◌*◌, ◌≤◌, length, drop}
use Rattle.std.proofs.Math.Path.{refl, sym}
use Rattle.std.proofs.Common.{◌∙◌}
use Rattle.object_view.specs.declared.View.{View}
use Rattle.model.specs.declared.Summary.{Summary}
use Rattle.model.specs.Contents.{catalogue_of, version_of}
use Rattle.model.specs.Lent.{bytes_of, sections_at, image_of, summary_of}
use Rattle.object.specs.View.{object_in}
use Rattle.records.specs.Of.{of}
use Rattle.bytes_layout.specs.declared.accepted.Accepted.{Accepted}
use Rattle.bytes_layout.specs.Held.{At}
use Rattle.bytes_layout.specs.Parts.{catalogue}
use Rattle.parse_sections.specs.declared.Counts.{Counts}
use Rattle.load_decision.specs.declared.Plan.{Plan}
use Rattle.load_decision.specs.Decided.{Planned}
use Rattle.model.specs.declared.Room.{Room}
use Rattle.load_image.specs.Tables.{count-sections, count-programs, count-functions, count-maps}

-- what filling needs: all of the catalogue fits, and its relocations' rows are stored
pub record Fillable (d t : List ℕ) (v : View) (plan : Plan) (sections programs maps relocations bytes : List ℕ) : Type 0 where
  pub at : At (catalogue d t v) plan.places
  pub count : plan.relocations ≡ length (catalogue d t v).relocations
  pub room-sections : length (catalogue d t v).sections * 4 ≤ length sections
  pub room-programs : length (catalogue d t v).programs * 7 ≤ length programs
  pub room-maps : length (catalogue d t v).maps * 27 ≤ length maps
  pub room-relocations : plan.relocations * 4 ≤ length relocations
  pub room-bytes : length (bytes_of (catalogue d t v)) ≤ length bytes
  pub stored : relocations ≡ (image_of (catalogue d t v)).relocations ++ drop (plan.relocations * 4) relocations

-- the summary by the counts and the plan
unfoldable pub summary_by : View → Counts → Plan → Summary
summary_by v n plan =
    record {
      order = v.order;
      version = n.version;
      license = plan.places.sections;
      sections = n.sections;
      programs = n.programs;
      functions = n.functions;
      maps = n.maps;
      relocations = plan.relocations;
      bytes = plan.places.end;
    }

module _ (a : Accepted) (room : Room) (plan : Plan) (g : of Planned a.object.records room plan) where
  -- the counts of the tables in hand
  abbrev pub counts_in : Counts
  counts_in =
      record {
        sections = length a.sections.now;
        programs = length a.programs.now;
        functions = length a.functions.now;
        maps = length a.maps.now;
        license = a.license;
        version = a.version;
      }

  order_is : (of catalogue a.object.records).order ≡ a.object.records.view.order
  unfolding catalogue_of object_in
  order_is = refl

  version-is : (of catalogue a.object.records).version ≡ version_of (of object_in a.object.records)
  unfolding catalogue_of
  version-is = refl

  pub summary-is : summary_by a.object.records.view counts_in plan ≡ summary_of (of catalogue a.object.records)
  unfolding summary_of sections_at summary_by
  summary-is =
      let r = a.object.readable in
      let x₄ = sym (count-sections _ _ _ a.held.sections) in
      let x₅ = sym (count-programs r a.accepted a.held.programs) in
      let x₆ = sym (count-functions r a.held.functions) in
      let x₇ = sym (count-maps r a.held.maps) in
      λ j.
      record {
        order = sym order_is j;
        version = (a.held.version ∙ sym version-is) j;
        license = g.at.sections j;
        sections = x₄ j;
        programs = x₅ j;
        functions = x₆ j;
        maps = x₇ j;
        relocations = g.count j;
        bytes = g.at.end j;
      }

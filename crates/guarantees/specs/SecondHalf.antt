-- What an accepted verdict and an accepted patch list mean. The second half of demand 3 is proofs/SecondHalf.antt.
use Rattle.std.specs.Prelude.{◌≡◌, List, None}
use Rattle.model.specs.Object.{Object, Patch}
use Rattle.model.specs.Catalogue.{Catalogue}
use Rattle.model.specs.Contents.{catalogue_of}
use Rattle.model.specs.Refusals.{object_refusal, patch_refusal, refusal_of}
use Rattle.model.specs.Patching.{accepted}
use Rattle.guarantees.specs.OptionsAndLists.{or_else-none}

pub accepted-is : {c d : Catalogue} → accepted c ≡ accepted d → c ≡ d
accepted-is e = cc

pub none-parts : (o : Object) (ps : List Patch) → refusal_of o ps ≡ None → (object_refusal o ≡ None) × (patch_refusal o (catalogue_of o).maps 1 ps ≡ None)
unfolding refusal_of
none-parts o ps e = or_else-none (object_refusal o) (patch_refusal o (catalogue_of o).maps 1 ps) e

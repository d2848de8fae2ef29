-- The patches of a list as it is lent.
use Rattle.std.specs.Prelude.{List}
use Rattle.model.specs.Object.{Patch}
use Rattle.model.specs.PatchList.{patches_of}
use Rattle.patch_checks.specs.declared.PatchList.{PatchList}

abbrev pub patches_in : PatchList → List Patch
patches_in l = patches_of l.entries.now l.bytes.now

-- A file that was checked and opened, for the load of what was opened.
use Rattle.elf_layout.specs.declared.Layout.{Layout}
use Rattle.std.specs.Prelude.{◌≡◌, Bool, List, ℕ, ◌≤◌, Err, None, Ok, Option, Result, Some}
use Rattle.model.specs.declared.Refusal.{Refusal}
use Rattle.model.specs.declared.Room.{Room}
use Rattle.model.specs.Bytes.{maybe}
use Rattle.model.specs.Elf.{elf_object_of}
use Rattle.model.specs.ElfRefusals.{elf_refusal, load_elf, load_elf_of}
use Rattle.model.specs.Lent.{outcome_in}
use Rattle.model.specs.PatchList.{patches_of}
use Rattle.model.specs.Patching.{refused, load}
use Rattle.records.specs.Of.{of}
use Rattle.records.specs.declared.opened.Object.{Object}
use Rattle.object.specs.View.{object_in}
use Rattle.elf_layout.specs.Layout.{checked_file, elf_view}
use Rattle.elf.specs.Opened.{index_length, opened_file, checked-most}
use Rattle.load_core.specs.Opened.{verdict_in}

-- what checking the file answered
abbrev pub Checks : List ℕ → Result Layout Refusal → Type 0
Checks f c = c ≡ checked_file f

pub index_most : (f : List ℕ) (c : Result Layout Refusal) → Checks f c → index_length c ≤ 143360
index_most f c e = checked-most f c e

-- 25, 26 or 3 as its refusal, else its object
abbrev pub FileObject : List ℕ → Result Object Refusal → Type 0
FileObject f (Err q) = opened_file f ≡ Err q
FileObject f (Ok o) = (opened_file f ≡ Ok o.records.view) × (elf_object_of f ≡ of object_in o.records)

pub file_outcome : (f : List ℕ) (o : Result Object Refusal) → FileObject f o → (entries patches : List ℕ) (on : Bool) (room : Room)
    → outcome_in room (verdict_in o (patches_of entries patches) on) ≡ load_elf_of f entries patches on room
unfolding load_elf_of load_elf opened_file
file_outcome f (Err q) w entries patches on room = go (elf_refusal f) w
  where
    go : (r : Option Refusal) → maybe r (Ok (elf_view f)) (λ r. Err r) ≡ Err q
        → outcome_in room (refused q) ≡ outcome_in room (maybe r (load (elf_object_of f) (patches_of entries patches) on) (λ r. refused r))
    go None e = cc
    go (Some r) e = cc
file_outcome f (Ok o) w entries patches on room = go (elf_refusal f) w.0
  where
    go : (r : Option Refusal) → maybe r (Ok (elf_view f)) (λ r. Err r) ≡ Ok o.records.view
        → outcome_in room (load (of object_in o.records) (patches_of entries patches) on) ≡ outcome_in room (maybe r (load (elf_object_of f) (patches_of entries patches) on) (λ r. refused r))
    go None e = rw w.1
    go (Some r) e = cc

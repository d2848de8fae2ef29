-- DEMAND 3, to be read beside its text. Its words are defined in WordsOfDemand3.antt, in its order; all else that a statement names is model's.
-- The contracts of `demand_3` and `demand_3_lent` in src/lib.rt name each statement; proofs/Demand3.antt shows it, as `demand-3-first`, `demand-3-second` and so on.
use Rattle.std.specs.Prelude.{◌≡◌, Bool, true, false, List, [], ◌∷◌, ◌++◌, ℕ, ◌<◌, ℤ, length, get_or, None, Ok, Some}
use Rattle.model.specs.declared.SectionIndex.{SectionIndex}
use Rattle.model.specs.declared.BpfInsn.{BpfInsn}
use Rattle.model.specs.declared.Summary.{Summary}
use Rattle.model.specs.Bytes.{◌∈◌}
use Rattle.model.specs.Object.{Object, Patch}
use Rattle.model.specs.Catalogue.{Map, Catalogue}
use Rattle.model.specs.Contents.{catalogue_of}
use Rattle.model.specs.Refusals.{bearers, patch_refusal}
use Rattle.model.specs.Patching.{accepted, finish}
use Rattle.model.specs.PatchList.{patches_of}
use Rattle.model.specs.declared.Room.{Room}
use Rattle.model.specs.ReadBack.{read_back}
use Rattle.model.specs.Bytes.{AllBytes}
use Rattle.guarantees.specs.WordsOfDemand3.{Input, input_bytes, object_read, verdict_on, outcome_on, Fair, FirstHalf, given, last_given, byte_after, map_after, NamedWith, instruction_after, after}

-- THE FIRST HALF
abbrev pub Demand3First : Type 0
Demand3First =
    (a b : Input) (c : Catalogue)
    -- 'If two deposits', two files, or a deposit and a file, of bytes,
    → AllBytes (input_bytes a) → AllBytes (input_bytes b)
    -- 'are accepted without patches or rewriting and have equal catalogues,'
    → verdict_on a [] false ≡ accepted c → verdict_on b [] false ≡ accepted c
    -- 'with no section name used twice in either and no symbol of a `maps` section bearing a section's name,'
    → Fair (object_read a) → Fair (object_read b)
    -- 'then every text, `.data` and `.rodata` section stands in both under one name and index with the same bytes' (`whole`), 'text being exactly its
    -- listed functions joined in order of address without gap or overlap' (`texts`), each covering as many bytes as its symbol's size, 'and program
    -- sections agree on each byte a listed function covers' (`programs`): a's sections beside b's, and b's beside a's
    → FirstHalf (object_read a) (object_read b) c × FirstHalf (object_read b) (object_read a) c

-- THE SECOND HALF. 'This is one claim about the whole list, not one for each entry.'
abbrev pub Demand3Second : Type 0
Demand3Second =
    (x : Input)
    -- 'And for every patch list, entries passed over included, with rewriting on or off:'
    (ps : List Patch) (on : Bool) (c : Catalogue)
    -- 'a deposit accepted so', or a file,
    → verdict_on x ps on ≡ accepted c
    -- 'has the catalogue it has without either,'
    → (verdict_on x [] false ≡ accepted (catalogue_of (object_read x)))
    -- 'except that each map byte an entry reaches is what the last such entry gives it' (`map_after`), 'and that with rewriting on exactly the immediates
    -- document 01 names become the numbers it states' (`instruction_after`)
    × (c ≡ after (object_read x) ps on (catalogue_of (object_read x)))

-- What `after` says of a map: as many bytes as before, and each 'what the last entry that reaches it gives, else as it was'.
abbrev pub MapBytes : Type 0
MapBytes =
    (o : Object) (ps : List Patch) (m : Map)
    → (length (map_after o ps m).own ≡ length m.own) × ((i : ℕ) → i < length m.own → get_or (map_after o ps m).own i 0 ≡ byte_after o ps m i)

-- p is the last entry that reaches byte i of the map of section s
abbrev pub LastEntry : Type 0
LastEntry =
    (o : Object) (qs : List Patch) (p : Patch) (rs : List Patch) (s : SectionIndex) (i b : ℕ) → given o p s i ≡ Some b
    → ((r : Patch) → r ∈ rs → given o r s i ≡ None) → last_given o (qs ++ p ∷ rs) s i ≡ Some b

-- no entry reaches it
abbrev pub NoEntry : Type 0
NoEntry =
    (o : Object) (ps : List Patch) (s : SectionIndex) (i : ℕ) → ((p : Patch) → p ∈ ps → given o p s i ≡ None) → last_given o ps s i ≡ None

-- 'entries passed over included': they reach nothing
abbrev pub EntryPassedOver : Type 0
EntryPassedOver =
    (o : Object) (p : Patch) (s : SectionIndex) (i : ℕ) → bearers o p.name ≡ [] → given o p s i ≡ None

-- And of an instruction, with rewriting on: 'exactly the immediates document 01 names become the numbers it states'.
abbrev pub Immediates : Type 0
Immediates =
    (i : BpfInsn)
    → ((z : ℤ) → NamedWith i z → (instruction_after true i).imm ≡ z) × (((z : ℤ) → NamedWith i z → ⊥) → (instruction_after true i).imm ≡ i.imm)

-- 'A later call that patches or rewrites a catalogue it takes is held to the same where it accepts, starting from that catalogue.'
abbrev pub LaterCall : Type 0
LaterCall =
    (o : Object) (ps : List Patch) (on : Bool) (c : Catalogue) → patch_refusal o c.maps 1 ps ≡ None → finish o ps on c ≡ after o ps on c

-- ---- the same of the call, with what it lends: the catalogue is read back from the answer and the lent tables

-- two calls without patches or rewriting that give one answer and leave the same in what they were lent
abbrev pub FirstLent : Type 0
FirstLent =
    (a b : Input) (bytes bytes₂ : List ℕ) (room room₂ : Room) (h : Summary) → AllBytes (input_bytes a) → AllBytes (input_bytes b)
    → (outcome_on a [] bytes false room).reply ≡ Ok h → (outcome_on b [] bytes₂ false room₂).reply ≡ Ok h
    → (outcome_on a [] bytes false room).lent ≡ (outcome_on b [] bytes₂ false room₂).lent
    → Fair (object_read a) → Fair (object_read b)
    → FirstHalf (object_read a) (object_read b) (read_back h (outcome_on a [] bytes false room).lent)
    × FirstHalf (object_read b) (object_read a) (read_back h (outcome_on a [] bytes false room).lent)

-- a call that accepts what it reads with a lent patch list
abbrev pub SecondLent : Type 0
SecondLent =
    (x : Input) (entries bytes : List ℕ) (on : Bool) (room : Room) (h : Summary) → AllBytes (input_bytes x)
    → (outcome_on x entries bytes on room).reply ≡ Ok h
    → (verdict_on x [] false ≡ accepted (catalogue_of (object_read x)))
    × (read_back h (outcome_on x entries bytes on room).lent ≡ after (object_read x) (patches_of entries bytes) on (catalogue_of (object_read x)))

-- and beside one that accepts it without patches or rewriting
abbrev pub SecondBoth : Type 0
SecondBoth =
    (x : Input) (entries bytes bytes₂ : List ℕ) (on : Bool) (room room₂ : Room) (h k : Summary) → AllBytes (input_bytes x)
    → (outcome_on x entries bytes on room).reply ≡ Ok h → (outcome_on x [] bytes₂ false room₂).reply ≡ Ok k
    → read_back h (outcome_on x entries bytes on room).lent
    ≡ after (object_read x) (patches_of entries bytes) on (read_back k (outcome_on x [] bytes₂ false room₂).lent)

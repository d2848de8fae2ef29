-- `patch_data::patch_entry` meets its contract: an accepted entry is passed over, or acts on the one symbol that bears its name.
use mathlib.Core.Path.{◌≡◌, sym, ap, ◌∙◌}
use Rattle.std.specs.Prelude.{None}
use Prim.Native.Nat.{ℕ, ◌+◌, ◌≤◌}
use mathlib.Core.List.{List}
use lib.ListN.{length}
use Rattle.lists.specs.Part.{length_part}
use Rattle.model.specs.Bytes.{part}
use Rattle.model.specs.Refusals.{entry_refusal}
use Rattle.records.specs.Of.{of}
use Rattle.object.specs.View.{object_in}
use Rattle.catalogue_numbers.specs.Numbers.{map_numbers}
use Rattle.patch_symbols.specs.Bearers.{bearer_of, bearers_in}
use Rattle.patch_checks.specs.declared.Entry.{Entry}
use Rattle.patch_checks.specs.Entries.{patch_by, patch_at, lent-ranges}
use Rattle.patch_checks.specs.Checks.{maps_of_numbers, rest-none}
use Rattle.patch_data.specs.Acts.{inside-ok, after-passed, after-reached, after_one}
use Rattle.patch_data.specs.Ready.{alone}
use Rattle.patch_data.proofs.patch_entry.Goals as goal
use Rattle.patch_data.proofs.patch_entry.Goals.{After-bearer_of, After-entry_at-x, After-part-source}

accepted : (s : After-entry_at-x)
    → (let a = s.args in
    let r = a.object.records in
    entry_refusal (of object_in r) (of maps_of_numbers r (of map_numbers r)) (a.e + 1) (patch_at a.list.entries.now a.list.bytes.now a.e) ≡ None)
accepted s =
    let a = s.args in
    let r = a.object.records in
    (rest-none (of object_in r) (of maps_of_numbers r (of map_numbers r)) a.list.entries.now a.list.bytes.now a.e s.requires.1 s.requires.2).0

ranges : (c : After-entry_at-x)
    → (let x = c.entry_at-x.result in
    let lent = c.args.list.bytes.now in
    (x.name.at + x.name.length ≤ length lent) × (x.bytes.at + x.bytes.length ≤ length lent))
ranges c =
    let a = c.args in
    let r = a.object.records in
    let lent = a.list.bytes.now in
    lent-ranges lent c.entry_at-x.result
    (ap (λ (x : Entry). (patch_by lent x).inside) c.entry_at-x.ensures
    ∙ inside-ok r.bytes.now r.index.now r.view (of maps_of_numbers r (of map_numbers r)) (a.e + 1) (patch_at a.list.entries.now lent a.e) (accepted c))

pub part-requires : goal.part-requires
part-requires c = (ranges (goal.at.part-requires c).After-entry_at-x).0

pub bearer_of-requires : goal.bearer_of-requires
bearer_of-requires c =
    let a = c.args in
    let x = c.entry_at-x.result.name in
    let n : length (part a.list.bytes.now x.at x.length) ≡ x.length = length_part a.list.bytes.now x.at x.length (ranges (goal.at.bearer_of-requires c).After-entry_at-x).0 in
    rw (c.part.ensures, n, c.entry_at-x.ensures) (c.requires.0.named a.e c.requires.1)

bearer : (c : After-bearer_of)
    → (let a = c.args in c.bearer_of.result ≡ bearer_of (of bearers_in a.object.records (patch_at a.list.entries.now a.list.bytes.now a.e).name))
unfolding patch_by
bearer c =
    let a = c.args in
    let name = λ (x : Entry). part a.list.bytes.now x.name.at x.name.length in
    c.bearer_of.ensures ∙ ap (λ (n : List ℕ). bearer_of (of bearers_in a.object.records n)) (c.part.ensures ∙ ap name c.entry_at-x.ensures)

pub part-source-requires : goal.part-source-requires
part-source-requires c = (ranges (goal.at.part-source-requires c).After-entry_at-x).1

given : (c : After-part-source)
    → (let a = c.args in c.part-source.result.now ≡ (patch_at a.list.entries.now a.list.bytes.now a.e).bytes)
unfolding patch_by
given c = c.part-source.ensures ∙ ap (λ (x : Entry). (patch_by c.args.list.bytes.now x).bytes) c.entry_at-x.ensures

pub patch_symbol-requires : goal.patch_symbol-requires
patch_symbol-requires c =
    let a = c.args in
    let r = a.object.records in
    let s = goal.at.patch_symbol-requires c in
    let ready = c.requires.0 in
    after-reached r.bytes.now r.index.now r.view a.list.entries.now a.list.bytes.now (of map_numbers r) a.e a.by.now ready.sited a.own a.rows.now ready.placed (accepted s.After-entry_at-x)
    _ (sym c.in-One.is ∙ bearer s.After-bearer_of) c.symbol-y.result a.bytes.now _ c.symbol-y.ensures c.requires.3 (given s.After-part-source)

pub returns-in-One : goal.returns-in-One
returns-in-One c =
    let a = c.args in
    let r = a.object.records in
    let s = goal.at.returns-in-One c in
    let ready = c.requires.0 in
    c.patch_symbol.ensures
    ∙ after_one r.bytes.now r.index.now r.view a.list.entries.now a.list.bytes.now (of map_numbers r) a.e a.by.now ready.sited a.own a.rows.now ready.placed (accepted s.After-entry_at-x)
    _ (sym c.in-One.is ∙ bearer s.After-bearer_of) c.symbol-y.result a.bytes.now _ c.symbol-y.ensures c.requires.3 (given s.After-part-source)
    (alone r.bytes.now r.index.now r.view a.object.readable)

pub returns-in_default : goal.returns-in_default
returns-in_default c =
    let a = c.args in
    let r = a.object.records in
    let s = goal.at.returns-in_default c in
    c.requires.3
    ∙ after-passed r.bytes.now r.index.now r.view a.list.entries.now a.list.bytes.now (of map_numbers r) a.e (accepted s.After-entry_at-x)
    c.bearer_of.result (bearer s.After-bearer_of) c.in_default.not-One

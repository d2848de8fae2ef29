-- `parse_text::walk` meets its contract: between two steps it is at an offset with the search ahead of the next address (`Walking`), and the inner loop keeps the
-- search ahead of the address looked for.
use Rattle.std.specs.Prelude.{Err, None, Option, Result, Some}
use mathlib.Core.Path.{◌≡◌, sym, ap, ◌∙◌}
use mathlib.Core.Bool.{true}
use mathlib.Core.List.{[], ◌∷◌}
use Prim.Native.Nat.{ℕ, ◌+◌, ◌<◌, ◌≤◌}
use native.Mathlib.Omega.{arith}
use lib.ListN.{length}
use Rattle.std.proofs.lemmas.List.{nil_from_length}
use Rattle.std.proofs.lemmas.Result.{err_from_is_err_and}
use Rattle.model.specs.declared.Refusal.{Refusal}
use Rattle.catalogue_laws.specs.Shared.{first_at}
use Rattle.object.specs.View.{defined_record, section_from}
use Rattle.records.specs.Of.{of}
use Rattle.parse_text.specs.Group.{address_in, text_in}
use Rattle.parse_text.specs.Search.{SearchStands, search-end, search-other, search-below, search-met, search-past, search-lost}
use Rattle.parse_text.specs.Parsed.{invalid_symbol, unknown_symbol, number_from, number_passed, number-found, checked-fine, checked_refused, Walked}
use Rattle.parse_text.specs.Walking.{valid-size, walking_start, walked_end, walked-unknown, walked-invalid, walking-next}
use Rattle.parse_text.proofs.walk.Goals as goal
use Rattle.parse_text.proofs.walk.Goals.{In-loop-offset, In-Some, In-Some-split_first, In_ok-invalid_symbol, Then-is_defined_text, Then-y-address}

pub loop-offset-init : goal.loop-offset-init
loop-offset-init c =
    let a = c.args in
    walking_start a.records.bytes.now a.records.index.now a.records.view a.s a.out.now a.group.now c.requires.room c.requires.text

-- data are left, and the next address is one
left : (i : In-loop-offset) → i.loop-offset.offset < i.args.s.bytes.length
left i = omega arith

-- 12, where no number is found
unknown : (i : In-loop-offset) (r : Result ℕ Refusal)
    → (let a = i.args in
    r ≡ Err (unknown_symbol a.s) → of number_from a.records a.s i.loop-offset.offset ≡ None → of Walked a.records a.s a.out.now r i.loop-offset.out)
unknown i r e q =
    let a = i.args in
    let l = i.loop-offset in
    rw e (walked-unknown a.records.bytes.now a.records.index.now a.records.view a.s a.out.now l.offset l.rest.now l.n l.out l.invariant (left i) q)

pub returns-in_default : goal.returns-in_default
returns-in_default c =
    let a = c.args in
    unknown (goal.at.returns-in_default c).In-loop-offset c.unknown_symbol.result c.unknown_symbol.ensures
    (number_passed a.records.bytes.now a.records.index.now a.records.view a.s c.loop-offset.offset (omega (arith, c.in_default.ensures)))

-- the number at the offset is what is found at the address
number : (c : In-Some) (q : Option ℕ)
    → (let a = c.args in
    first_at (of address_in a.records) c.in-Some.address (of text_in a.records (of section_from a.records a.s)) ≡ q → of number_from a.records a.s c.loop-offset.offset ≡ q)
number c q f =
    let a = c.args in
    let e = c.in-Some.ensures in
    number-found a.records.bytes.now a.records.index.now a.records.view a.s c.loop-offset.offset q (omega arith) (rw e.1 at f)

pub returns-in_default-split_first : goal.returns-in_default-split_first
returns-in_default-split_first c =
    let a = c.args in
    let e : c.loop-j.rest.now ≡ [] = nil_from_length c.loop-j.rest.now c.in_default-split_first.ensures.cases in
    unknown (goal.at.returns-in_default-split_first c).In-loop-offset c.unknown_symbol-in_default-split_first.result c.unknown_symbol-in_default-split_first.ensures
    (number (goal.at.returns-in_default-split_first c).In-Some None
    (search-end a.records.bytes.now a.records.index.now a.records.view a.s c.in-Some.address (rw e at c.loop-j.invariant.1)))

-- the search stands at the number that was split off
stands : (c : In-Some-split_first)
    → (let a = c.args in of SearchStands a.records a.s c.in-Some.address (c.in-Some-split_first.j.now ∷ c.in-Some-split_first.behind.now))
stands c = rw c.in-Some-split_first.ensures.cases.0 at c.loop-j.invariant.1

-- its record is defined text
text : (c : Then-is_defined_text) → defined_record c.symbol-y.result ≡ true
text c = sym c.is_defined_text.ensures ∙ c.if-is_defined_text.true

pub returns-then-y-address-2 : goal.returns-then-y-address-2
returns-then-y-address-2 c =
    let a = c.args in
    let at = goal.at.returns-then-y-address-2 c in
    unknown at.In-loop-offset c.unknown_symbol-then-y-address-2.result c.unknown_symbol-then-y-address-2.ensures
    (number at.In-Some None
    (search-lost a.records.bytes.now a.records.index.now a.records.view a.s c.in-Some.address c.in-Some-split_first.j.now c.in-Some-split_first.behind.now
    c.symbol-y.result c.symbol-y.ensures (stands at.In-Some-split_first) (text at.Then-is_defined_text) c.if-y-address-2.true))

pub loop-j-preserved-else-y-address-2 : goal.loop-j-preserved-else-y-address-2
loop-j-preserved-else-y-address-2 c =
    let a = c.args in
    let at = goal.at.loop-j-preserved-else-y-address-2 c in
    let below : c.symbol-y.result.address < c.in-Some.address = let n = c.if-y-address.false in let u = c.if-y-address-2.false in omega arith in (
      omega (arith, c.in-Some-split_first.ensures.cases.1),
      search-below a.records.bytes.now a.records.index.now a.records.view a.s c.in-Some.address c.in-Some-split_first.j.now c.in-Some-split_first.behind.now
          c.symbol-y.result c.symbol-y.ensures (stands at.In-Some-split_first) (text at.Then-is_defined_text) below,
    )

pub loop-j-preserved : goal.loop-j-preserved
loop-j-preserved c =
    let a = c.args in (
      omega (arith, c.in-Some-split_first.ensures.cases.1),
      search-other a.records.bytes.now a.records.index.now a.records.view a.s c.in-Some.address c.in-Some-split_first.j.now c.in-Some-split_first.behind.now
          c.symbol-y.result c.symbol-y.ensures (stands (goal.at.loop-j-preserved c).In-Some-split_first) (sym c.is_defined_text.ensures ∙ c.if-is_defined_text.false),
    )

found : (c : Then-y-address) → of number_from c.args.records c.args.s c.loop-offset.offset ≡ Some c.in-Some-split_first.j.now
found c =
    let a = c.args in
    let e = c.in-Some.ensures in
    number-found a.records.bytes.now a.records.index.now a.records.view a.s c.loop-offset.offset (Some c.in-Some-split_first.j.now) (omega arith)
    (rw e.1 at
    (search-met a.records.bytes.now a.records.index.now a.records.view a.s c.in-Some.address c.in-Some-split_first.j.now c.in-Some-split_first.behind.now
    c.symbol-y.result c.symbol-y.ensures (rw c.in-Some-split_first.ensures.cases.0 at c.loop-j.invariant.1) (sym c.is_defined_text.ensures ∙ c.if-is_defined_text.true) c.if-y-address.true))

pub returns-in_err-invalid_symbol : goal.returns-in_err-invalid_symbol
returns-in_err-invalid_symbol c =
    let a = c.args in
    let l = c.loop-offset in
    let at = goal.at.returns-in_err-invalid_symbol c in
    let p = err_from_is_err_and c.from_residual.result c.from_residual.ensures.1 in
    rw (p.1, p.2)
    (walked-invalid a.records.bytes.now a.records.index.now a.records.view a.s a.out.now l.offset l.rest.now l.n l.out l.invariant
    (left at.In-loop-offset) c.in-Some-split_first.j.now _ (found at.Then-y-address)
    (ap (λ y. invalid_symbol a.s y l.offset) (sym c.symbol-y-in-loop-offset.ensures) ∙ checked_refused _ _ (sym c.invalid_symbol.ensures ∙ c.in_err-invalid_symbol.was)))

-- the symbol met is not refused
fine : (c : In_ok-invalid_symbol) → (invalid_symbol c.args.s c.symbol-y-in-loop-offset.result c.loop-offset.offset ≡ None)
fine c = checked-fine _ (sym c.invalid_symbol.ensures ∙ c.in_ok-invalid_symbol.was)

sizes : (c : In_ok-invalid_symbol)
    → ((0 < c.symbol-y-in-loop-offset.result.size) × (c.loop-offset.offset + c.symbol-y-in-loop-offset.result.size ≤ c.args.s.bytes.length))
sizes c = valid-size c.args.s c.symbol-y-in-loop-offset.result c.loop-offset.offset (fine c)

pub overflow_add-offset : goal.overflow_add-offset
overflow_add-offset c = let z = sizes (goal.at.overflow_add-offset c).In_ok-invalid_symbol in omega arith

pub loop-offset-smaller : goal.loop-offset-smaller
loop-offset-smaller c = let z = sizes (goal.at.loop-offset-smaller c).In_ok-invalid_symbol in omega arith

pub loop-offset-preserved : goal.loop-offset-preserved
loop-offset-preserved c =
    let a = c.args in
    let l = c.loop-offset in
    let at = goal.at.loop-offset-preserved c in
    let y = c.symbol-y-in-loop-offset in
    let positive : 0 < y.result.size = (sizes at.In_ok-invalid_symbol).0 in
    let shorter : length c.in-Some-split_first.behind.now < length l.rest.now = omega (arith, c.in-Some-split_first.ensures.cases.1, c.loop-j.invariant.0) in
    let past : c.in-Some.address < a.s.address + (l.offset + y.result.size) = omega (arith, c.in-Some.ensures) in
    rw y.ensures
    (walking-next a.records.bytes.now a.records.index.now a.records.view a.s a.out.now l.offset l.rest.now l.n l.out l.invariant
    (left at.In-loop-offset) c.in-Some-split_first.j.now c.in-Some-split_first.behind.now (found at.Then-y-address) (rw (← y.ensures) (fine at.In_ok-invalid_symbol)) shorter
    (rw (← y.ensures) (search-past a.records.bytes.now a.records.index.now a.records.view a.s c.in-Some.address c.in-Some-split_first.j.now c.in-Some-split_first.behind.now
    c.symbol-y.result c.symbol-y.ensures (stands at.In-Some-split_first) (text at.Then-is_defined_text) (a.s.address + (l.offset + y.result.size)) c.if-y-address.true past)))

pub returns : goal.returns
returns c =
    let a = c.args in
    let l = c.loop-offset in
    walked_end a.records.bytes.now a.records.index.now a.records.view a.s a.out.now l.offset l.rest.now l.n l.out l.invariant (omega arith)

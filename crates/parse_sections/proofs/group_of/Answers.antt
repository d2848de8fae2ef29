-- `parse_sections::group_of` meets its contract: a section whose index stands for none has no symbols.
use Rattle.parse_sections.specs.Grouped.{group-none, group-some, rest_is}
use Rattle.symbol_groups.specs.Cut.{lies_below, lies_at}
use Rattle.records.specs.Of.{of}
use Rattle.std.specs.List.{prefix_len}
use lib.ListN.{drop}
use Prim.Native.Nat.{◌+◌}
use mathlib.Core.Path.{◌≡◌, sym, ap, ◌∙◌}
use Rattle.parse_sections.proofs.group_of.Goals as goal
use Rattle.parse_sections.proofs.group_of.Goals.{After-group_start}

-- where the group starts
start : (c : After-group_start) → c.group_start.result ≡ prefix_len (of lies_below c.args.records c.args.s.index.0) (drop c.args.from c.args.symbols.now)
start c = c.group_start.ensures.count ∙ ap (prefix_len (of lies_below c.args.records c.args.s.index.0)) (rest_is c.args.from c.args.symbols.now)

pub returns-then-is_no_section : goal.returns-then-is_no_section
returns-then-is_no_section c =
    let a = c.args in
    group-none a.records.bytes.now a.records.index.now a.records.view a.s a.symbols.now a.from _ c.requires.1 c.requires.2 c.requires.0
    (ap (λ n. a.from + n) (start (goal.at.returns-then-is_no_section c).After-group_start)) (sym c.is_no_section.ensures ∙ c.if-is_no_section.true)

pub returns : goal.returns
returns c =
    let a = c.args in
    let lo = a.from + c.group_start.result in
    group-some a.records.bytes.now a.records.index.now a.records.view a.s a.symbols.now a.from lo c.requires.1 c.requires.2 c.requires.0
    (ap (λ n. a.from + n) (start (goal.at.returns c).After-group_start)) _ (sym c.is_no_section.ensures ∙ c.if-is_no_section.false)
    (ap (λ n. lo + n) (c.group_end.ensures.count ∙ ap (prefix_len (of lies_at a.records a.s.index.0)) (rest_is lo a.symbols.now)))

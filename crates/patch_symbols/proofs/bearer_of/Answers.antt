-- `patch_symbols::bearer_of` meets its contract: those that bear the name stand together from the lower bound on.
use mathlib.Core.Path.{sym, ◌∙◌}
use native.Mathlib.Omega.{arith}
use Rattle.patch_symbols.specs.Long.{too_long}
use Rattle.patch_symbols.specs.Search.{nobody-bears, one-bears, several-bear}
use Rattle.patch_symbols.proofs.bearer_of.Goals as goal

pub returns-then-word-gt65535 : goal.returns-then-word-gt65535
returns-then-word-gt65535 c =
    let a = c.args in
    let r = a.object.records in
    sym (too_long r.bytes.now r.index.now r.view a.object.readable a.word.now (omega arith))

pub returns-then-not-bears_at : goal.returns-then-not-bears_at
returns-then-not-bears_at c =
    let a = c.args in
    let r = a.object.records in
    let b = c.lower_bound-at in
    nobody-bears r.bytes.now r.index.now r.view a.word.now a.symbols.now c.requires (omega arith) b.result b.ensures (sym c.bears_at.ensures ∙ c.if-not-bears_at.true)

pub returns-then-bears_at : goal.returns-then-bears_at
returns-then-bears_at c =
    let a = c.args in
    let r = a.object.records in
    let b = c.lower_bound-at in
    several-bear r.bytes.now r.index.now r.view a.word.now a.symbols.now c.requires (omega arith) b.result b.ensures
    (sym c.bears_at.ensures ∙ c.if-not-bears_at.false) (sym c.bears_at-2.ensures ∙ c.if-bears_at.true)

pub returns : goal.returns
returns c =
    let a = c.args in
    let r = a.object.records in
    one-bears r.bytes.now r.index.now r.view a.word.now a.symbols.now c.requires (omega arith) c.lower_bound-at.result c.lower_bound-at.ensures
    (sym c.bears_at.ensures ∙ c.if-not-bears_at.false) (sym c.bears_at-2.ensures ∙ c.if-bears_at.false)

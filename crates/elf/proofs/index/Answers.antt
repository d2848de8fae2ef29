-- `elf::index` meets its contract: its parts, one after the other.
use Rattle.std.proofs.lemmas.Result.{err_from_is_err_and}
use Rattle.elf.specs.Asked.{sections-ask, symbols-ask}
use Rattle.elf.specs.Told.{sections-broken, symbols-broken, index-told}
use Rattle.elf.proofs.index.Goals as goal

pub index_names-requires : goal.index_names-requires
index_names-requires c =
    let a = c.args in
    sections-ask a.d.now a.l c.requires.0 _ c.split_at_mut-section_names.ensures.front_len

pub returns-in_err-index_names : goal.returns-in_err-index_names
returns-in_err-index_names c =
    let a = c.args in
    let p = err_from_is_err_and c.from_residual.result c.from_residual.ensures.1 in
    let e = c.in_err-index_names.ensures in
    rw (p.1, p.2) (e.0, sections-broken a.d.now a.l c.requires.0 _ c.split_at_mut-section_names.ensures.front_len e.1)

pub index_names-requires-2 : goal.index_names-requires-2
index_names-requires-2 c =
    let a = c.args in
    symbols-ask a.d.now a.l c.requires.0 _ c.split_at_mut-symbol_names.ensures.front_len

pub returns-in_err-index_names-2 : goal.returns-in_err-index_names-2
returns-in_err-index_names-2 c =
    let a = c.args in
    let r = c.from_residual-in_err-index_names-2 in
    let p = err_from_is_err_and r.result r.ensures.1 in
    let e = c.in_err-index_names-2.ensures in
    rw (p.1, p.2)
    (e.0, symbols-broken a.d.now a.l c.requires.0 _ c.split_at_mut-section_names.ensures.front_len _ c.split_at_mut-symbol_names.ensures.front_len e.1)

pub returns : goal.returns
returns c =
    let a = c.args in
    index-told a.d.now a.l c.requires.0 _ c.split_at_mut-section_names.ensures.front_len _ c.split_at_mut-symbol_names.ensures.front_len _ _ _ _
    c.in_ok-index_names.ensures c.in_ok-index_names-2.ensures c.index_relocations.ensures

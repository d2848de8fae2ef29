-- `bytes_code::put_code` meets its contract: the code is what lies in the data of its section.
use Rattle.std.proofs.Common.{◌≡◌, length, take, arith, sym, ◌∙◌, length-take-le}
use Rattle.records.specs.View.{gap_of}
use Rattle.bytes_code.specs.Code.{CodeFound, found}
use Rattle.bytes_code.proofs.put_code.Goals as goal
use Rattle.bytes_code.proofs.put_code.Goals.{After-code_offset}

-- the code in hand
code_of : (c : After-code_offset) →
    let r = c.args.object.records in
    let m = c.member_at-m.result in
    CodeFound r.bytes.now r.index.now r.view c.args.j m.section c.code_offset.result m.symbol
code_of c =
    let r = c.args.object.records in
    let m = c.member_at-m in
    let small = c.bytes_fit.ensures (gap_of r.view) in
    found r.bytes.now r.index.now r.view c.args.j c.requires.0 c.args.object.readable small m.result.symbol m.result.section c.code_offset.result m.ensures.0 m.ensures.1
    c.code_offset.ensures

room : (c : After-code_offset) →
    let n = c.member_at-m.result.symbol.size in length (take n c.args.out.now) ≡ n
room c =
    length-take-le c.member_at-m.result.symbol.size c.args.out.now (omega (arith, code_of c, c.requires.1))

pub overflow_add-start : goal.overflow_add-start
overflow_add-start c = omega (arith, code_of (goal.at.overflow_add-start c).After-code_offset)

pub span-requires : goal.span-requires
span-requires c = omega (arith, code_of (goal.at.span-requires c).After-code_offset)

pub slice_bounds-copy_span-end : goal.slice_bounds-copy_span-end
slice_bounds-copy_span-end c =
    omega (arith, code_of (goal.at.slice_bounds-copy_span-end c).After-code_offset, c.requires.1)

pub slice_bounds-copy_span-end-2 : goal.slice_bounds-copy_span-end-2
slice_bounds-copy_span-end-2 c = sym (room (goal.at.slice_bounds-copy_span-end-2 c).After-code_offset)

pub copy_span-requires : goal.copy_span-requires
copy_span-requires c =
    let f = code_of (goal.at.copy_span-requires c).After-code_offset in
    let s = c.span.ensures in (
      rw (s.stream, s.at, s.len, c.data-data.ensures.lent, c.data-data.ensures.gap, c.data-data.ensures.at) f.placed,
      room (goal.at.copy_span-requires c).After-code_offset ∙ sym s.len,
    )

pub returns : goal.returns
returns c =
    let f = code_of (goal.at.returns c).After-code_offset in
    let s = c.span.ensures in
    (sym f.long, rw (c.copy_span.ensures, s.stream, s.at, s.len, c.data-data.ensures.lent, c.data-data.ensures.gap, c.data-data.ensures.at, f.code))

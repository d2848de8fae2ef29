-- `bytes_layout::put` meets its contract: each part lies behind the one before.
use Rattle.std.proofs.Common.{arith}
use Rattle.bytes_layout.specs.Laid.{laid-room, laid-more, laid-all}
use Rattle.bytes_layout.specs.Held.{sections-listed, programs-listed, functions-listed, code-listed, maps-listed, own-listed, bytes-length, bytes-are, bytes-laid}
use Rattle.bytes_layout.proofs.put.Goals as goal

pub put_license-at-requires : goal.put_license-at-requires
put_license-at-requires c =
    let a = c.args.accepted in
    (a.held.license, omega (arith, bytes-length a.object.readable a.accepted a.held, c.requires))

pub put_part-at-requires : goal.put_part-at-requires
put_part-at-requires c =
    let a = c.args.accepted in
    let l₀ = bytes-laid a.object.readable a.accepted a.held c.args.out.now c.put_license-at.ensures.0 c.requires c.put_license-at.ensures.1 in
    (sections-listed a.object.readable a.accepted a.held, laid-room _ _ l₀)

pub put_part-at-requires-2 : goal.put_part-at-requires-2
put_part-at-requires-2 c =
    let a = c.args.accepted in
    let l₀ = bytes-laid a.object.readable a.accepted a.held c.args.out.now c.put_license-at.ensures.0 c.requires c.put_license-at.ensures.1 in
    let l₁ = laid-more _ _ l₀ c.put_part-at.ensures.0 c.put_part-at.ensures.1 in
    (programs-listed a.object.readable a.accepted a.held, laid-room _ _ l₁)

pub put_part-at-requires-3 : goal.put_part-at-requires-3
put_part-at-requires-3 c =
    let a = c.args.accepted in
    let l₀ = bytes-laid a.object.readable a.accepted a.held c.args.out.now c.put_license-at.ensures.0 c.requires c.put_license-at.ensures.1 in
    let l₁ = laid-more _ _ l₀ c.put_part-at.ensures.0 c.put_part-at.ensures.1 in
    let l₂ = laid-more _ _ l₁ c.put_part-at-2.ensures.0 c.put_part-at-2.ensures.1 in
    (functions-listed a.object.readable a.accepted a.held, laid-room _ _ l₂)

pub put_part-at-requires-4 : goal.put_part-at-requires-4
put_part-at-requires-4 c =
    let a = c.args.accepted in
    let l₀ = bytes-laid a.object.readable a.accepted a.held c.args.out.now c.put_license-at.ensures.0 c.requires c.put_license-at.ensures.1 in
    let l₁ = laid-more _ _ l₀ c.put_part-at.ensures.0 c.put_part-at.ensures.1 in
    let l₂ = laid-more _ _ l₁ c.put_part-at-2.ensures.0 c.put_part-at-2.ensures.1 in
    let l₃ = laid-more _ _ l₂ c.put_part-at-3.ensures.0 c.put_part-at-3.ensures.1 in
    (code-listed a.object.readable a.accepted a.held, laid-room _ _ l₃)

pub put_part-at-requires-5 : goal.put_part-at-requires-5
put_part-at-requires-5 c =
    let a = c.args.accepted in
    let l₀ = bytes-laid a.object.readable a.accepted a.held c.args.out.now c.put_license-at.ensures.0 c.requires c.put_license-at.ensures.1 in
    let l₁ = laid-more _ _ l₀ c.put_part-at.ensures.0 c.put_part-at.ensures.1 in
    let l₂ = laid-more _ _ l₁ c.put_part-at-2.ensures.0 c.put_part-at-2.ensures.1 in
    let l₃ = laid-more _ _ l₂ c.put_part-at-3.ensures.0 c.put_part-at-3.ensures.1 in
    let l₄ = laid-more _ _ l₃ c.put_part-at-4.ensures.0 c.put_part-at-4.ensures.1 in
    (maps-listed a.object.readable a.accepted a.held, laid-room _ _ l₄)

pub put_part-requires : goal.put_part-requires
put_part-requires c =
    let a = c.args.accepted in
    let l₀ = bytes-laid a.object.readable a.accepted a.held c.args.out.now c.put_license-at.ensures.0 c.requires c.put_license-at.ensures.1 in
    let l₁ = laid-more _ _ l₀ c.put_part-at.ensures.0 c.put_part-at.ensures.1 in
    let l₂ = laid-more _ _ l₁ c.put_part-at-2.ensures.0 c.put_part-at-2.ensures.1 in
    let l₃ = laid-more _ _ l₂ c.put_part-at-3.ensures.0 c.put_part-at-3.ensures.1 in
    let l₄ = laid-more _ _ l₃ c.put_part-at-4.ensures.0 c.put_part-at-4.ensures.1 in
    let l₅ = laid-more _ _ l₄ c.put_part-at-5.ensures.0 c.put_part-at-5.ensures.1 in
    (own-listed a.object.readable a.accepted a.held, laid-room _ _ l₅)

pub returns : goal.returns
returns c =
    let a = c.args.accepted in
    let l₀ = bytes-laid a.object.readable a.accepted a.held c.args.out.now c.put_license-at.ensures.0 c.requires c.put_license-at.ensures.1 in
    let l₁ = laid-more _ _ l₀ c.put_part-at.ensures.0 c.put_part-at.ensures.1 in
    let l₂ = laid-more _ _ l₁ c.put_part-at-2.ensures.0 c.put_part-at-2.ensures.1 in
    let l₃ = laid-more _ _ l₂ c.put_part-at-3.ensures.0 c.put_part-at-3.ensures.1 in
    let l₄ = laid-more _ _ l₃ c.put_part-at-4.ensures.0 c.put_part-at-4.ensures.1 in
    let l₅ = laid-more _ _ l₄ c.put_part-at-5.ensures.0 c.put_part-at-5.ensures.1 in
    let l₆ = laid-more _ _ l₅ c.put_part.ensures.0 c.put_part.ensures.1 in
    laid-all l₆ _ (bytes-are a.object.readable a.accepted a.held)

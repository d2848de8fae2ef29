-- The object of a deposit that is opened is the one that its view's records stand for.
use Rattle.std.specs.Prelude.{◌≡◌, List, ℕ, Ok}
use Rattle.std.proofs.Common.{◌∙◌}
use Rattle.model.specs.declared.Head.{Head}
use Rattle.model.specs.Deposit.{object_of}
use Rattle.object_view.specs.declared.View.{View}
use Rattle.records.specs.Records.{head_at, deposit_section, deposit_symbol, deposit_relocation}
use Rattle.records.specs.View.{deposit_view, section_at, symbol_at, relocation_at}
use Rattle.deposit.specs.Open.{opened_of}
use Rattle.deposit.specs.Accepted
use Rattle.deposit.specs.Accepted.{AcceptedStream, accepted}
use Rattle.object.specs.View.{reloc_in, section_from, symbol_from, object_in}

pub accepted-object : (d t : List ℕ) (h : Head) → AcceptedStream d h → object_of d ≡ object_in d t (deposit_view h)
unfolding object_in section_from symbol_from reloc_in deposit_view section_at symbol_at relocation_at deposit_section deposit_symbol deposit_relocation Accepted.stream_section Accepted.stream_symbol Accepted.relocs_in
accepted-object d t h a = λ k. record { order = a.object-order k; sections = a.object-sections k; symbols = a.object-symbols k }

pub opened-object : (d t : List ℕ) (v : View) → opened_of d ≡ Ok v → object_of d ≡ object_in d t v
opened-object d t v e = let a = accepted d v e in accepted-object d t (head_at d) a.1 ∙ rw a.0

-- The view of a deposit that is opened is Readable.
use Rattle.std.specs.Prelude.{◌≡◌, List, ℕ, ◌+◌, ◌*◌, ◌/◌, ◌≤◌, length, Ok}
use Rattle.std.proofs.Common.{arith}
use Rattle.model.specs.declared.Head.{Head}
use Rattle.model.specs.Deposit.{end_of}
use Rattle.records.specs.Records.{head_at, deposit_section, deposit_symbol}
use Rattle.object_view.specs.declared.View.{View}
use Rattle.records.specs.View.{deposit_view, section_at, symbol_at}
use Rattle.records.specs.Readable.{Readable}
use Rattle.deposit.specs.Open.{opened_of}
use Rattle.deposit.specs.Accepted.{AcceptedStream, accepted, name-placed, data-placed}

pub readable-accepted : (d t : List ℕ) (h : Head) → AcceptedStream d h → Readable d t (deposit_view h)
unfolding end_of deposit_view section_at symbol_at deposit_section deposit_symbol
readable-accepted d t h a =
    let inside : 32 + 48 * h.sections + 40 * h.symbols + 16 * h.relocations + h.names + h.bytes ≤ length d / 512 * 508 = a.inside in
    record {
      short = a.frame.most;
      few-sections = a.few-sections;
      few-symbols = a.few-symbols;
      few-relocations = a.few-relocations;
      sections-rise = a.sections-rise;
      symbols-rise = a.symbols-rise;
      section-name = λ i l. record { short = (a.section-rules i l).name.short; placed = name-placed d h a (deposit_section d i).name (a.section-rules i l).name };
      symbol-name = λ i l. record { short = (a.symbol-rules i l).name.short; placed = name-placed d h a (deposit_symbol d h i).name (a.symbol-rules i l).name };
      section-size = λ i l. (a.section-rules i l).size;
      section-data = λ i l. record {
        short = omega (arith, inside, a.frame.most, (a.section-rules i l).bytes);
        placed = data-placed d h a (deposit_section d i).bytes (a.section-rules i l).bytes;
      };
      relocations-inside = λ i l. (a.section-rules i l).relocations;
    }

-- what `open` answers, with any index
pub readable : (d t : List ℕ) (v : View) → opened_of d ≡ Ok v → Readable d t v
readable d t v e = let a = accepted d v e in rw a.0 (readable-accepted d t (head_at d) a.1)

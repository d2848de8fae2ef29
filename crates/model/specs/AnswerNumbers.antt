-- The answer of a load as the numbers of one struct, and what a call from C or Rust leaves behind.
use Rattle.std.specs.Prelude.{ℕ, Err, None, Ok, Option, Result, Some}
use Rattle.model.specs.declared.Endianness.{Endianness}
use Rattle.model.specs.declared.LoadAnswer.{LoadAnswer}
use Rattle.model.specs.declared.Refusal.{Refusal}
use Rattle.model.specs.declared.Summary.{Summary}
use Rattle.model.specs.Lent.{Lent, Outcome}
use Rattle.model.specs.Refusals.{no_section, no_symbol}

-- S102: the byte order and the version as numbers
abbrev pub order_number : Endianness → ℕ
order_number Endianness.Little = 0
order_number Endianness.Big = 1

abbrev pub stated_bit : Option ℕ → ℕ
stated_bit None = 0
stated_bit (Some n) = 1

abbrev pub stated_version : Option ℕ → ℕ
stated_version None = 0
stated_version (Some n) = n

-- S102: 'number' is 0: the deposit is accepted
abbrev pub accepted_answer : Summary → LoadAnswer
accepted_answer s = record {
  number = 0;
  section = no_section;
  symbol = no_symbol;
  order = order_number s.order;
  entry = 0;
  versioned = stated_bit s.version;
  version = stated_version s.version;
  license = s.license;
  sections = s.sections;
  programs = s.programs;
  functions = s.functions;
  maps = s.maps;
  relocations = s.relocations;
  bytes = s.bytes;
}

-- S102: the refusal's number and places, and zeros
abbrev pub refused_answer : Refusal → LoadAnswer
refused_answer r = record {
  number = r.number;
  section = r.section;
  symbol = r.symbol;
  order = 0;
  entry = r.entry;
  versioned = 0;
  version = 0;
  license = 0;
  sections = 0;
  programs = 0;
  functions = 0;
  maps = 0;
  relocations = 0;
  bytes = 0;
}

abbrev pub answer_of : Result Summary Refusal → LoadAnswer
answer_of (Ok s) = accepted_answer s
answer_of (Err r) = refused_answer r

-- S100: what such a call leaves behind: its answer as numbers, and what is lent
pub record Call : Type 0 where
  pub answer : LoadAnswer
  pub lent : Lent

abbrev pub call : LoadAnswer → Lent → Call
call a l = record { answer = a; lent = l }

-- S100: that of a load's outcome
abbrev pub call_of : Outcome → Call
call_of o = call (answer_of o.reply) o.lent

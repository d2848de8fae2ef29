-- `from_str` meets its contract: what is found gives the program.
use Rattle.std.proofs.Common.{Ok, sym, ap, ◌∙◌}
use Rattle.model.specs.ProgramName.{from_str}
use Rattle.program_section.specs.Found.{parsed_in}
use Rattle.program_section.proofs.from_str.Goals as goal

pub returns-in-Some : goal.returns-in-Some
unfolding from_str
returns-in-Some c = ap Ok c.program.ensures ∙ ap parsed_in (sym c.in-Some.is) ∙ c.find_name.ensures.gives

pub returns-in-None : goal.returns-in-None
unfolding from_str
returns-in-None c = ap parsed_in (sym c.in-None.is) ∙ c.find_name.ensures.gives

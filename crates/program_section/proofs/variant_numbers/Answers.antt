-- `variant_numbers` meets its contract: what is found shows the numbers of its program.
use Rattle.std.proofs.Common.{◌∙◌}
use Rattle.model.specs.ProgramName.{program_of}
use Rattle.stream.specs.Spans.{bytes_of}
use Rattle.program_section.specs.Found.{variant-by}
use Rattle.program_section.proofs.variant_numbers.Goals as goal

pub returns : goal.returns
returns c = c.unwrap_or.ensures ∙ variant-by c.find_name.result (program_of (bytes_of c.args.name)) c.find_name.ensures.shows

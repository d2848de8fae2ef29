-- `bytes_layout::part_length` meets its contract: by the part.
use Rattle.bytes_layout.specs.declared.Part.{Part}
use Rattle.bytes_layout.specs.Bounds.{part-told}
use Rattle.bytes_layout.proofs.part_length.Goals as goal

pub returns-in-Name : goal.returns-in-Name
returns-in-Name c = part-told c.args.object.readable _ (Part.Name c.in-Name.which) c.args.j _ c.in-Name.is c.requires c.name_length.ensures.0

pub returns-in-Code : goal.returns-in-Code
returns-in-Code c = part-told c.args.object.readable _ Part.Code c.args.j _ c.in-Code.is c.requires c.code_length.ensures.0

pub returns-in-Own : goal.returns-in-Own
returns-in-Own c = part-told c.args.object.readable _ Part.Own c.args.j _ c.in-Own.is c.requires c.own_length.ensures.0

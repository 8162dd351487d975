use Rattle.std.proofs.Common.{◌∙◌, ap, sym}
use Rattle.dom_base.specs.Names.{is_net_name}
use Rattle.dom_base.proofs.Names.{net_name_by_test}
use Rattle.dom_base.proofs.name.NetName.new.Goals as goal

pub returns-else-is_net_name : goal.returns-else-is_net_name
returns-else-is_net_name c =
    net_name_by_test c.args.bytes.items (ap is_net_name (sym c.as_slice.ensures) ∙ sym c.is_net_name.ensures ∙ c.if-is_net_name.false)

use Rattle.std.proofs.Common.{◌∙◌, sym}
use Rattle.dom_base.proofs.Names.{net_name_by_bytes}
use Rattle.dom_base.proofs.name.is_net_name.Goals as goal

pub returns-then-not-is_empty : goal.returns-then-not-is_empty
returns-then-not-is_empty c = c.are_net_bytes.ensures ∙ net_name_by_bytes c.args.word.now (sym c.is_empty.ensures ∙ c.if-not-is_empty.true)

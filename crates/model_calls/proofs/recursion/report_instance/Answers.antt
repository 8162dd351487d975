use Rattle.std.proofs.Common.{length, refl, ap, ◌∙◌}
use Rattle.blif_ast.specs.InstanceData.{InstanceData}
use Rattle.dom_base.proofs.Options.{if_ok-weaker}
use Rattle.model_calls.proofs.FirstFaults.{item_at}
use Rattle.model_calls.proofs.recursion.report_instance.Goals as goal

pub returns : goal.returns
returns c = if_ok-weaker c.new.result (λ r h. (
  c.index-instances-at.result,
  item_at c.args.instances.now (length c.args.instances.now) c.args.at c.index-instances-at.result refl c.requires.within c.index-instances-at.is,
  h.0 ∙ ap (λ (i : InstanceData). i.line) c.instance.view_is,
  h.1 ∙ ap (λ (i : InstanceData). i.unit) c.instance.view_is,
)) c.new.ensures

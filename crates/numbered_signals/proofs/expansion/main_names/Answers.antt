use Rattle.std.proofs.Common.{◌∙◌}
use Rattle.numbered_file.specs.Numbered.{named}
use Rattle.dom_base.proofs.Options.{if_ok-weaker}
use Rattle.numbered_signals.proofs.NamePlaces.{named_names}
use Rattle.numbered_signals.proofs.expansion.main_names.Goals as goal

pub returns : goal.returns
returns c = if_ok-weaker c.names_at.result
    (λ all is. is ∙ (λ i. named (c.names.ensures i) (c.names-2.ensures i)) ∙ named_names c.args.file.now c.args.names.now c.requires.names 0 c.requires.some) c.names_at.ensures

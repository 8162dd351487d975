use Rattle.std.proofs.Common.{map, ap, sym, ◌∙◌, subst}
use Rattle.std.specs.List.{AllByRecursion}
use Rattle.numbered_file.specs.Places.{of_inputs}
use Rattle.dom_base.proofs.Options.{if_ok-weaker}
use Rattle.numbered_signals.specs.ScopeRoots.{HasRoot, local_root}
use Rattle.numbered_signals.proofs.MainPorts.{inputs_rooted, inputs_same}
use Rattle.numbered_signals.proofs.expansion.number_inputs.Goals as goal

pub roots_of-requires : goal.roots_of-requires
roots_of-requires c = record {
  there = subst (AllByRecursion (HasRoot c.args.roots.now 0)) (sym (c.of_inputs.ensures ∙ ap (of_inputs c.args.file.now 0) c.inputs.ensures))
      (inputs_rooted c.args.file.now c.args.names.now c.requires.names c.requires.some c.args.roots.now c.requires.there);
}

pub returns : goal.returns
returns c = if_ok-weaker c.roots_of.result
    (λ all is. is ∙ ap (map (local_root c.args.roots.now 0)) (c.of_inputs.ensures ∙ ap (of_inputs c.args.file.now 0) c.inputs.ensures)
    ∙ inputs_same c.args.file.now c.args.names.now c.requires.names c.requires.some c.args.roots.now c.requires.there) c.roots_of.ensures

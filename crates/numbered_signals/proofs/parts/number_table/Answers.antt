use Rattle.std.proofs.Common.{map, take, None, ap, ◌∙◌}
use Rattle.std.specs.Prelude.{slice_index_or}
use Rattle.numbered_signals.specs.ScopeRoots.{local_root}
use Rattle.numbered_signals.proofs.PartsByRoots.{front_roots, last_root}
use Rattle.numbered_signals.proofs.parts.number_table.Goals as goal

pub returns : goal.returns
returns c = λ on i. record {
  model = c.args.part.model;
  card = c.args.part.card;
  reads = (c.in_ok-reads_of.ensures ∙ ap (λ k. map (local_root c.args.roots.now c.args.part.scope) (take k c.args.words.now)) c.saturating_sub-inputs.ensures
      ∙ front_roots (local_root c.args.roots.now c.args.part.scope) c.args.words.now) i;
  drives = (c.root_at.ensures ∙ ap (λ k. slice_index_or (map (local_root c.args.roots.now c.args.part.scope) c.args.words.now) k 0) c.saturating_sub-inputs.ensures
      ∙ last_root (local_root c.args.roots.now c.args.part.scope) c.args.words.now) i;
  control = None;
}

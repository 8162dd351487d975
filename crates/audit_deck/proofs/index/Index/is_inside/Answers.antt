use Rattle.std.proofs.Common.{ap, arith, ◌∙◌}
use Rattle.std.proofs.lemmas.Option.{slice_get_within}
use Rattle.dom_base.specs.declared.kind.Kind.TheVariants.{N as nch}
use Rattle.deck.specs.declared.device.Device.{Device}
use Rattle.audit_deck.specs.Indexes.{HasKind}
use Rattle.audit_deck.proofs.Found.{one_device}
use Rattle.audit_deck.proofs.Scans.{all_have}
use Rattle.audit_deck.proofs.index.Index.is_inside.Goals as goal

pub returns-clause-yes : goal.returns-clause-yes
returns-clause-yes c = λ e. record {
  reached = λ p d at ends.
      let ds = c.args.self.now.devices in
      let l = c.ending-place-items.result.now in
      let y = c.ending-place-items.ensures.are.full p (d, at, ends) in
      let k : HasKind ds nch p = all_have (HasKind ds nch) l c.loop-place.place-index c.loop-place-test.false c.loop-place.invariant y.0 p y.1 in
      ap (λ (x : Device). x.kind) (one_device ds p d k.0 at k.1) ∙ k.2;
  gates_none = λ p d at g.
      let y = c.gating.ensures.are.full p (d, at, g) in
      let z = slice_get_within c.gating.result.now y.0 p y.1 in
      omega (arith, z, c.if-gating-ne0.false);
  no_port = c.is_inner.ensures.yes c.if-not-is_inner.false;
}

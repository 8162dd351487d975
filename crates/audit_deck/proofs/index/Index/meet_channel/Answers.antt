use Rattle.std.proofs.Common.{subst, sym, ◌≡◌}
use Rattle.dom_base.specs.declared.kind.Kind.TheVariants.{N as nch}
use Rattle.audit_deck.specs.Indexes.{HasKind}
use Rattle.audit_deck.proofs.Meets.{meets_added, meets_same}
use Rattle.link_reduce.proofs.Options.{on_ok}
use Rattle.audit_deck.proofs.index.Index.meet_channel.Goals as goal

pub returns-clause-met : goal.returns-clause-met
returns-clause-met c =
    let has = c.has_kind.ensures.yes c.if-not-has_kind.false in
    on_ok c.add.result
    (λ adds. meets_same (λ p. p ≡ c.args.place) (λ p. (p ≡ c.args.place) × HasKind c.args.self.now.devices nch p) c.args.met.now.nets c.add.new.self.nets
    (λ p e. (e, subst (HasKind c.args.self.now.devices nch) (sym e) has)) (λ p h. h.0)
    (meets_added c.args.met.now.nets c.add.new.self.nets c.args.place adds))
    c.add.ensures.added

use Rattle.std.specs.Prelude.{◌⊎◌}
use Rattle.std.proofs.Common.{arith, inl, inr, subst, sym, ◌≡◌}
use Rattle.dom_base.proofs.Decided.{lt_or_ge}
use Rattle.deck_audit.specs.Audits.{Breaks}
use Rattle.deck_audit.specs.Rules.{IsLoose, IsSinkNet, KeepsUse}
use Rattle.audit_deck.proofs.LaterBreaks.{sort_low, use_low}
use Rattle.audit_deck.proofs.index.Index.first_use.Goals as goal

pub loop-net-preserved : goal.loop-net-preserved
loop-net-preserved c =
    let ds = c.args.self.now.devices in
    let nets = c.args.self.now.nets in
    record {
      none = λ m lt b. elim (lt_or_ge m c.loop-net.net) [
        | inl y ↦ c.loop-net.invariant.none m y b
        | inr y ↦
            let e : m ≡ c.loop-net.net = omega (arith, y, lt) in
            c.breaks_use.ensures.no c.if-breaks_use.false (subst (Breaks ds c.args.roles nets 5) e b)
      ];
      keeps = λ m lt h. elim (lt_or_ge m c.loop-net.net) [
        | inl y ↦ c.loop-net.invariant.keeps m y h
        | inr y ↦
            let e : m ≡ c.loop-net.net = omega (arith, y, lt) in
            subst (KeepsUse ds c.args.roles) (sym e)
            (c.breaks_use.ensures.keeps c.if-breaks_use.false (subst (λ n. IsLoose ds c.args.roles nets n ⊎ IsSinkNet ds c.args.roles n) e h))
      ];
    }

pub returns-clause-none : goal.returns-clause-none
returns-clause-none c = λ n b.
    let low = use_low c.args.self.now.devices c.args.roles c.args.self.now.nets c.requires.in_range c.requires.outputs n b in
    c.loop-net.invariant.none n (omega (arith, low, c.loop-net-test.false, c.requires.count)) b

pub returns-clause-keeps : goal.returns-clause-keeps
returns-clause-keeps c = λ n h.
    let low = sort_low c.args.self.now.devices c.args.roles c.args.self.now.nets c.requires.in_range c.requires.outputs n h in
    c.loop-net.invariant.keeps n (omega (arith, low, c.loop-net-test.false, c.requires.count)) h

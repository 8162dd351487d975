use Rattle.std.proofs.Common.{ap, arith, length, set, subst, true, ◌≡◌}
use Rattle.audit_deck.specs.Marks.{AddsMarks}
use Rattle.audit_deck.proofs.MarkedNets.{adds_one}
use Rattle.audit_deck.proofs.net_marks.NetMarks.mark.Goals as goal

pub returns : goal.returns
returns c =
    subst (λ l. AddsMarks (λ n. n ≡ c.args.net) l (set c.self.inside.0.items c.args.net true)) c.self.view_is
    (adds_one c.self.inside.0.items c.args.net (omega (arith, c.requires, ap length c.self.view_is)))

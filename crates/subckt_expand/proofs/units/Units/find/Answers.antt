use Rattle.std.proofs.Common.{◌≡◌, ◌∙◌, inl, inr, false, ap, sym, subst, length, nat_eq}
use Rattle.std.specs.List.{list_any}
use Rattle.std.specs.Cmp.Lexicographic.{pointwise}
use Rattle.std.proofs.lemmas.Bool.{true≢false}
use Rattle.deck.specs.Nets.{net_number}
use Rattle.deck.proofs.NetNumbers.{number_cases}
use Rattle.subckt_expand.specs.Units.{names_of}
use Rattle.subckt_expand.proofs.MoreClosed.{length-names}
use Rattle.subckt_expand.proofs.units.Units.find.Goals as goal

pub returns-in_err-number : goal.returns-in_err-number
returns-in_err-number c =
    let keys = c.self.invariant.1 ∙ ap names_of c.self.view_is in
    let none : list_any (pointwise nat_eq c.args.name.now) c.self.inside.names.keys ≡ false = sym c.in_err-number.ensures.found in
    let last : net_number c.self.inside.names.keys c.args.name.now ≡ length c.self.inside.names.keys =
    elim (number_cases (pointwise nat_eq c.args.name.now) c.self.inside.names.keys) [
      | inl h ↦ absurd (true≢false (sym h.0 ∙ none))
      | inr h ↦ h.1
    ] in
    rw c.from_residual.ensures (subst (λ l. net_number l c.args.name.now ≡ length l) keys last ∙ length-names c.args.self.now)

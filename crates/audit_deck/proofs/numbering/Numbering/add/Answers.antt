use Rattle.std.proofs.Common.{ap, arith, length, rules, set, subst, sym, ◌<◌, ◌≡◌}
use Rattle.audit_deck.specs.Numberings.{IsMet, IsNumbering, NumberingData}
use Rattle.audit_deck.proofs.Numberings.{met_more}
use Rattle.audit_deck.proofs.Scans.{none_of}
use Rattle.audit_deck.proofs.numbering.Numbering.add.Goals as goal

pub invariant_of-self-2 : goal.invariant_of-self-2
invariant_of-self-2 c =
    let numbers = c.self.inside.numbers.items in
    let nets = c.self.inside.nets.items in
    let long : c.len-number.result ≡ length nets = search rules in
    let nets_are = ap (λ (v : NumberingData). v.nets) c.self.view_is in
    let room = ap (λ (v : NumberingData). v.room) c.self.view_is in
    let lt : c.args.net < length numbers = omega (arith, c.requires, room) in
    subst (λ k. IsNumbering (set numbers c.args.net k) c.push.new.self.items) (sym long)
    (subst (IsNumbering (set numbers c.args.net (length nets))) (sym c.in_ok-push.ensures.items)
    (met_more numbers nets c.args.net c.self.invariant lt
    (λ m. none_of c.number.result (IsMet c.args.self.now.nets c.args.net → ⊥) (sym c.if-is_some.ensures) c.number.ensures.none
    (subst (λ l. IsMet l c.args.net) nets_are m))))

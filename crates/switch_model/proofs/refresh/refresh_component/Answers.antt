use Rattle.std.proofs.Common.{arith, ◌≡◌, ◌≢◌, ◌<◌, sym, subst, length, List, [], ◌∷◌, ℕ}
use Rattle.std.specs.Prelude.{◌↔◌, Contains}
use Rattle.std.proofs.lemmas.List.Elements.{All-contains}
use Rattle.dom_base.specs.declared.tri.Tri.{Tri}
use Rattle.dom_base.proofs.Lists.{Contains-first}
use Rattle.switch_model.specs.Components.{IsClosedPart}
use Rattle.switch_model.specs.LinksData.{is_first}
use Rattle.switch_model.specs.Targets.{IsPending, IsTarget}
use Rattle.deck.specs.Switches.{value_of}
use Rattle.switch_model.proofs.PlainClasses.{one_net}
use Rattle.switch_model.proofs.refresh.refresh_component.Goals as goal

-- the list is that of one net
module _ (nets : List ℕ) (net : ℕ) (is : nets ≡ net ∷ []) where
  there : Contains nets net
  there = subst (λ (l : List ℕ). Contains l net) (sym is) (Contains-first net [])

  only : (n : ℕ) → Contains nets n → n ≡ net
  only n c = one_net (net ∷ []) (omega arith) n net (subst (λ (l : List ℕ). Contains l n) is c) (Contains-first net [])

  outside : (n : ℕ) → (Contains nets n → ⊥) → n ≢ net
  outside n out e = out (subst (Contains nets) (sym e) there)

pub refresh_single-requires-clause-net : goal.refresh_single-requires-clause-net
refresh_single-requires-clause-net g c =
    All-contains (λ (n : ℕ). n < length c.args.values.now) c.args.nets.now c.in-Some.net c.requires.nets (there c.args.nets.now c.in-Some.net c.in-Some.ensures)

pub refresh_single-requires-clause-closed : goal.refresh_single-requires-clause-closed
refresh_single-requires-clause-closed g c =
    subst (λ (l : List ℕ). IsClosedPart c.args.wires.now (is_first c.args.sources) l c.args.places.now) c.in-Some.ensures c.requires.closed

pub returns-in-Some-clause-here : goal.returns-in-Some-clause-here
returns-in-Some-clause-here g c = λ n member.
    subst (λ (k : ℕ). Contains c.refresh_single.new.pending.listed k ↔ ((v : Tri) × IsPending c.args.wires.now (is_first c.args.sources) c.args.values.now k v))
    (sym (only c.args.nets.now c.in-Some.net c.in-Some.ensures n member)) c.refresh_single.ensures.here

pub returns-in-Some-clause-others : goal.returns-in-Some-clause-others
returns-in-Some-clause-others g c = λ n out. c.refresh_single.ensures.others n (outside c.args.nets.now c.in-Some.net c.in-Some.ensures n out)

pub returns-in-Some-clause-targets : goal.returns-in-Some-clause-targets
returns-in-Some-clause-targets g c = λ n member.
    subst (λ (k : ℕ). IsTarget c.args.wires.now (is_first c.args.sources) c.args.values.now k (value_of c.refresh_single.new.pending.targets k))
    (sym (only c.args.nets.now c.in-Some.net c.in-Some.ensures n member)) c.refresh_single.ensures.target

pub returns-in-Some-clause-kept : goal.returns-in-Some-clause-kept
returns-in-Some-clause-kept g c = λ n out. c.refresh_single.ensures.kept n (outside c.args.nets.now c.in-Some.net c.in-Some.ensures n out)

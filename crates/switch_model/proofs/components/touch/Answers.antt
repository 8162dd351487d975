use Rattle.std.proofs.Common.{◌≡◌, sym, subst, List, ℕ}
use Rattle.std.specs.Prelude.{◌⊎◌, ◌↔◌, Contains}
use Rattle.switch_model.specs.ComponentLists.{AreRisingTo, list_at}
use Rattle.switch_model.proofs.ComponentLists.{added, rising-added}
use Rattle.switch_model.proofs.components.touch.Goals as goal

pub returns-clause-rising : goal.returns-clause-rising
returns-clause-rising c =
    let lists = c.args.touched.now in
    let last = c.is_last.ensures.no c.if-is_last.false in
    subst (AreRisingTo c.args.number) (sym c.in_ok-add.ensures) (rising-added c.args.number lists c.args.net c.requires.within c.requires.rising last)

pub returns-clause-touched : goal.returns-clause-touched
returns-clause-touched c =
    let lists = c.args.touched.now in
    subst (λ (l : List (List ℕ)). (x k : ℕ) → Contains (list_at l x) k ↔ (Contains (list_at lists x) k ⊎ ((k ≡ c.args.number) × (x ≡ c.args.net)))) (sym c.in_ok-add.ensures)
    (added lists c.args.net c.args.number c.requires.within)

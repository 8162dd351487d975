use Rattle.std.proofs.Common.{ap, ◌∙◌, sym, subst, List, ℕ}
use Rattle.std.specs.Prelude.{◌↔◌, Contains}
use Rattle.std.proofs.lemmas.List.{get_or-set_other}
use Rattle.dom_base.specs.declared.tri.Tri.{Tri}
use Rattle.dom_base.specs.declared.tri.Tri.TheVariants.{Unknown, Zero}
use Rattle.deck.specs.Switches.{value_of}
use Rattle.switch_model.proofs.Searches.{read_same}
use Rattle.switch_model.proofs.refresh.keep.Goals as goal

pub returns-clause-here : goal.returns-clause-here
returns-clause-here c =
    let read = read_same c.args.values.now c.args.net Zero c.requires.net in (
      λ h e. (c.differ.ensures.0 (c.set.ensures.here.0 h)) (e ∙ sym read),
      λ ne. c.set.ensures.here.1 (c.differ.ensures.1 (λ e. ne (e ∙ read))),
    )

pub returns-clause-others : goal.returns-clause-others
returns-clause-others c = λ m ne. subst (λ (l : List ℕ). Contains c.set.new.self.listed m ↔ Contains l m) c.set_target.ensures.listed (c.set.ensures.others m ne)

pub returns-clause-target : goal.returns-clause-target
returns-clause-target c = ap (λ (l : List Tri). value_of l c.args.net) c.set.ensures.targets ∙ c.set_target.ensures.here

pub returns-clause-kept : goal.returns-clause-kept
returns-clause-kept c = λ m ne.
    ap (λ (l : List Tri). value_of l m) (c.set.ensures.targets ∙ c.set_target.ensures.targets) ∙ get_or-set_other c.args.pending.now.targets c.args.net m c.args.target Unknown ne

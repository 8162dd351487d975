use Rattle.std.proofs.Common.{rules, ◌≡◌, [], length, ap, sym, ◌∙◌, subst, arith, append-nil}
use Rattle.dom_base.proofs.Lists.{length-none}
use Rattle.blif_ast.specs.BlifFileData.{BlifFileData}
use Rattle.model_calls.specs.Plans.{IsPlanned}
use Rattle.part_numbers.specs.Expansions.{ExpansionData, HasExpansion, AreFramesRanked, MakesExpansion, entered, stepped, pushed_frame, work}
use Rattle.part_numbers.proofs.ExpansionSteps.{first_under_way, has_all, makes_first, still_makes}
use Rattle.part_numbers.proofs.ExpansionWork.{less_work, still_under_way}
use Rattle.part_numbers.proofs.walk.expand.Goals as goal

pub frames-init : goal.frames-init
frames-init c =
    let first : c.enter.new.self ≡ entered (record { scopes = []; parts = []; frames = [] }) 0 0 0 c.args.depth =
    c.in_ok-enter.ensures
    ∙ ap (λ s. entered (record { scopes = s; parts = c.in_ok-parts.parts.items; frames = c.new-2.result.items }) 0 0 0 c.args.depth) c.new.ensures.items
    ∙ ap (λ s. entered (record { scopes = []; parts = s; frames = c.new-2.result.items }) 0 0 0 c.args.depth) c.in_ok-parts.ensures.items
    ∙ ap (λ s. entered (record { scopes = []; parts = []; frames = s }) 0 0 0 c.args.depth) c.new-2.ensures.items in
    subst (λ e. AreFramesRanked c.args.plans.now e × ((f : BlifFileData) → IsPlanned f c.args.plans.now → MakesExpansion f c.args.depth e)) (sym first)
    (first_under_way c.args.plans.now c.args.depth c.requires.ready, λ f planned. makes_first c.args.plans.now f c.args.depth planned)

pub frames-preserved : goal.frames-preserved
frames-preserved c =
    let popped : ExpansionData = record { scopes = c.made-in-frames.inside.scopes.items; parts = c.made-in-frames.inside.parts.items; frames = c.pop.new.self.items } in
    let same : pushed_frame popped c.in-Some.frame ≡ c.frames.made =
    ap (λ s. record { scopes = c.made-in-frames.inside.scopes.items; parts = c.made-in-frames.inside.parts.items; frames = s }) (sym c.in-Some.ensures.items) ∙ c.made-in-frames.view_is in
    let under : AreFramesRanked c.args.plans.now (pushed_frame popped c.in-Some.frame) = subst (AreFramesRanked c.args.plans.now) (sym same) c.frames.invariant.0 in (
      subst (AreFramesRanked c.args.plans.now) (sym c.in_ok-step.ensures) (still_under_way c.args.plans.now popped c.in-Some.frame under),
      λ f planned. subst (MakesExpansion f c.args.depth) (sym c.in_ok-step.ensures)
          (still_makes c.args.plans.now f c.args.depth planned popped c.in-Some.frame under (subst (MakesExpansion f c.args.depth) (sym same) (c.frames.invariant.1 f planned))),
    )

pub frames-smaller : goal.frames-smaller
frames-smaller c =
    let popped : ExpansionData = record { scopes = c.made-in-frames.inside.scopes.items; parts = c.made-in-frames.inside.parts.items; frames = c.pop.new.self.items } in
    let same : pushed_frame popped c.in-Some.frame ≡ c.frames.made =
    ap (λ s. record { scopes = c.made-in-frames.inside.scopes.items; parts = c.made-in-frames.inside.parts.items; frames = s }) (sym c.in-Some.ensures.items) ∙ c.made-in-frames.view_is in
    let under : AreFramesRanked c.args.plans.now (pushed_frame popped c.in-Some.frame) = subst (AreFramesRanked c.args.plans.now) (sym same) c.frames.invariant.0 in
    let less = less_work c.args.plans.now popped c.in-Some.frame under in
    let after : work c.args.plans.now c.step.new.self ≡ work c.args.plans.now (stepped c.args.plans.now popped c.in-Some.frame) = ap (work c.args.plans.now) c.in_ok-step.ensures in
    let before : work c.args.plans.now (pushed_frame popped c.in-Some.frame) ≡ work c.args.plans.now c.frames.made = ap (work c.args.plans.now) same in
    omega (arith, less, after, before)

pub returns : goal.returns
returns c =
    let empty : length c.made-in-frames.inside.frames.items ≡ 0 = search (rules, c.in_default.ensures.cases) in
    let ended = ap (λ (e : ExpansionData). e.frames) (sym c.made-in-frames.view_is) ∙ length-none c.made-in-frames.inside.frames.items empty in
    let all : HasExpansion c.args.plans.now c.args.depth c.frames.made =
    λ f planned. has_all c.args.plans.now f c.args.depth planned c.frames.made (c.frames.invariant.1 f planned) ended in
    let popped : record { scopes = c.made-in-frames.inside.scopes.items; parts = c.made-in-frames.inside.parts.items; frames = c.pop.new.self.items } ≡ c.frames.made =
    ap (λ s. record { scopes = c.made-in-frames.inside.scopes.items; parts = c.made-in-frames.inside.parts.items; frames = s }) (sym (append-nil c.pop.new.self.items) ∙ sym c.in_default.ensures.items) ∙ c.made-in-frames.view_is in
    subst (HasExpansion c.args.plans.now c.args.depth) (sym popped) all

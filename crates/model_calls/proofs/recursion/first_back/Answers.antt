use Rattle.std.proofs.Common.{◌≡◌, ◌<◌, inl, inr, length, [], Some, ap, sym, ◌∙◌, subst, arith}
use Rattle.std.specs.Prelude.{slice_get}
use Rattle.std.proofs.lemmas.Bool.{cases_eq}
use Rattle.std.proofs.lemmas.List.Elements.{All-contains}
use Rattle.std.proofs.lemmas.Option.{slice_get-get_or, slice_get_within}
use Rattle.dom_base.proofs.Lists.{Contains-slice_get}
use Rattle.graph_order.proofs.Lists.{none_past}
use Rattle.graph_order.specs.Orders.{successors}
use Rattle.model_calls.specs.Recursions.{IsBack}
use Rattle.model_calls.proofs.Recursions.{back_by_numbers}
use Rattle.model_calls.proofs.recursion.first_back.Goals as goal

pub instances-preserved : goal.instances-preserved
instances-preserved c = λ k unit l at back. elim (cases_eq k c.instances.index) [
  | inl is ↦ (
      let same : unit ≡ c.in-Some.unit =
      (let e : Some unit ≡ Some c.in-Some.unit = sym at ∙ ap (slice_get (successors c.args.nodes.now c.args.model)) is
      ∙ sym c.in-Some.ensures.unit in cc) in
      let next = Contains-slice_get (successors c.args.nodes.now c.args.model) c.instances.index c.in-Some.unit
      (sym c.in-Some.ensures.unit) in
      let low = All-contains (λ node. node < length c.args.nodes.now) (successors c.args.nodes.now c.args.model) c.in-Some.unit
      (c.requires.graph c.args.model [] c.requires.within) next in
      let numbers = back_by_numbers c.args.nodes.now c.args.numbers.now c.requires.components c.args.model c.in-Some.unit _ _ next
      (slice_get-get_or c.args.numbers.now c.args.model 0 (omega (arith, c.requires.within, c.requires.components.count)))
      (slice_get-get_or c.args.numbers.now c.in-Some.unit 0 (omega (arith, low, c.requires.components.count))) in
      c.if-numbers-unit.false (numbers.1 (subst (IsBack c.args.nodes.now c.args.model) same back))
      )
  | inr apart ↦ c.instances.invariant k unit (omega (arith, l, apart)) at back
]

pub returns : goal.returns
returns c = λ k unit at back.
    c.instances.invariant k unit
    (omega (
      arith,
      slice_get_within (successors c.args.nodes.now c.args.model) k unit at,
      none_past
          (successors c.args.nodes.now c.args.model) c.instances.index (sym c.in_default.ensures.unit),
    )) at back

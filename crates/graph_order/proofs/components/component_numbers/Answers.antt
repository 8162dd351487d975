use Rattle.std.proofs.Common.{◌≡◌, ◌+◌, length, [], ◌∷◌, ◌++◌, Some, ap, sym, ◌∙◌, subst, arith}
use Rattle.std.specs.Prelude.{slice_get}
use Rattle.std.proofs.lemmas.Option.{slice_get-get_or}
use Rattle.graph_order.specs.declared.components.Place.TheVariants.{New}
use Rattle.graph_order.specs.ComponentSearches.{ComponentData, HasMetBelow}
use Rattle.graph_order.proofs.ComponentEnds.{AreNames, all_components, next_name, no_names, none_other}
use Rattle.graph_order.proofs.components.component_numbers.Goals as goal

pub loop-place-init : goal.loop-place-init
loop-place-init c =
    let none : c.in_ok-numbers.numbers.items ≡ [] = c.in_ok-numbers.ensures.items in
    subst (AreNames c.deref-place-items.result.now 0) (sym none) (no_names c.deref-place-items.result.now)

pub unreachable-requires : goal.unreachable-requires
unreachable-requires c =
    let all : c.loop-k.k ≡ length c.args.nodes.now = omega (arith, c.loop-k-test.false, c.loop-k.auto.k-end) in
    let same = c.deref-place-items.ensures.value ∙ ap (λ (s : ComponentData). s.places) c.search-2.view_is in
    none_other c.args.nodes.now c.loop-k.search
    (subst (λ n. HasMetBelow c.args.nodes.now n c.loop-k.search) all c.loop-k.invariant) c.loop-place.place-index _
    (ap (λ l. slice_get l c.loop-place.place-index) (sym same)
    ∙ slice_get-get_or c.deref-place-items.result.now c.loop-place.place-index New c.loop-place-test.true)
    c.in_default.not-Within

pub loop-place-preserved : goal.loop-place-preserved
loop-place-preserved c =
    let pushed : c.push.new.self.items ≡ c.loop-place.numbers.items ++ c.in-Within.first ∷ [] = c.in_ok-push.ensures.items in
    subst (AreNames c.deref-place-items.result.now (c.loop-place.place-index + 1)) (sym pushed)
    (next_name c.deref-place-items.result.now c.loop-place.place-index c.loop-place.numbers.items c.in-Within.first c.loop-place.invariant
    (slice_get-get_or c.deref-place-items.result.now c.loop-place.place-index New c.loop-place-test.true ∙ ap Some c.in-Within.is))

pub returns : goal.returns
returns c =
    let all : c.loop-k.k ≡ length c.args.nodes.now = omega (arith, c.loop-k-test.false, c.loop-k.auto.k-end) in
    let same = c.deref-place-items.ensures.value ∙ ap (λ (s : ComponentData). s.places) c.search-2.view_is in
    let end : c.loop-place.place-index ≡ length c.deref-place-items.result.now = omega
    (arith, c.loop-place-test.false, c.loop-place.auto.place-index-end) in
    all_components c.args.nodes.now c.loop-k.search
    (subst (λ n. HasMetBelow c.args.nodes.now n c.loop-k.search) all c.loop-k.invariant) c.loop-place.numbers.items
    (subst (λ l. AreNames l (length l) c.loop-place.numbers.items) same
    (subst (λ n. AreNames c.deref-place-items.result.now n c.loop-place.numbers.items) end c.loop-place.invariant))

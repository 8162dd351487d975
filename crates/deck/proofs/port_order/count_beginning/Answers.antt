use Rattle.std.proofs.Common.{◌≡◌, ◌<◌, [], length, nat_eq, true, sym, ap, ◌∙◌, subst, arith}
use Rattle.std.specs.List.{starts_with}
use Rattle.std.proofs.lemmas.List.{get_or_read}
use Rattle.std.proofs.lemmas.List.Elements.{All-more}
use Rattle.deck.proofs.port_order.count_beginning.Goals as goal

pub loop-index-preserved : goal.loop-index-preserved
loop-index-preserved c =
    let lt : c.loop-index.index < length c.args.names.now = omega arith in
    let read = get_or_read c.args.names.now c.loop-index.index c.index-names-index.result lt c.index-names-index.is [] in
    let passes : starts_with nat_eq c.index-names-index.result c.args.front.now ≡ true =
    ap (λ name. starts_with nat_eq name c.args.front.now) (sym c.as_bytes.ensures.bytes) ∙ sym c.starts_with.ensures.value ∙ c.if-not-starts_with.false in
    All-more (λ name. starts_with nat_eq name c.args.front.now ≡ true) c.args.names.now c.loop-index.index [] lt c.loop-index.invariant
    (subst (λ name. starts_with nat_eq name c.args.front.now ≡ true) read passes)

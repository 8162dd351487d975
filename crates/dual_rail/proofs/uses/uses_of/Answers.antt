-- Uses after those of the pairs, and all uses.
use Rattle.std.proofs.Common.{◌≡◌, sym, ap, ◌∙◌, length, get_or, arith, rules}
use Rattle.dual_rail.proofs.Marks.{written_over}
use Rattle.dual_rail.proofs.UsesOf.{all_uses, zeros_at}
use Rattle.dual_rail.proofs.uses.uses_of.Goals as goal

pub use_ends-requires-clause-room : goal.use_ends-requires-clause-room
use_ends-requires-clause-room c =
    let len : c.in_ok-uses.uses.len ≡ length c.in_ok-uses.uses.items = search rules in
    let first = written_over c.in_ok-uses.uses.len c.use_pairs.new.uses c.in_ok-uses.uses.items (len ∙ sym (c.use_pairs.auto.uses ∙ ap length c.as_mut_slice.ensures.value)) in
    let mid = c.as_mut_slice-2.ensures.value ∙ first in
    λ p.
    let here : get_or c.as_mut_slice-2.result.now p 0 ≡ get_or c.use_pairs.new.uses p 0 = ap (λ xs. get_or xs p 0) mid in
    let none : get_or c.as_mut_slice.result.now p 0 ≡ 0 =
    ap (λ xs. get_or xs p 0) (c.as_mut_slice.ensures.value ∙ c.in_ok-uses.ensures.items_if_clones_equal (λ y e. e)) ∙ zeros_at _ p in
    omega (arith, here, none, c.use_pairs.ensures.few p, c.requires.fits)

pub returns : goal.returns
returns c =
    let len : c.in_ok-uses.uses.len ≡ length c.in_ok-uses.uses.items = search rules in
    let first = written_over c.in_ok-uses.uses.len c.use_pairs.new.uses c.in_ok-uses.uses.items (len ∙ sym (c.use_pairs.auto.uses ∙ ap length c.as_mut_slice.ensures.value)) in
    let mid = c.as_mut_slice-2.ensures.value ∙ first in
    let second = written_over c.in_ok-uses.uses.len c.use_ends.new.uses _
    (len ∙ sym (c.use_ends.auto.uses ∙ ap length mid ∙ c.use_pairs.auto.uses ∙ ap length c.as_mut_slice.ensures.value)) in
    second
    ∙ all_uses (length c.args.pairs.now) c.as_mut_slice.result.now c.use_pairs.new.uses c.as_mut_slice-2.result.now c.use_ends.new.uses c.args.pairs.now c.args.ends.now
    (c.as_mut_slice.ensures.value ∙ c.in_ok-uses.ensures.items_if_clones_equal (λ y e. e)) mid c.use_pairs.auto.uses c.use_ends.auto.uses
    (λ p lt. c.use_pairs.ensures.counts p lt) (λ p lt. c.use_ends.ensures p lt)

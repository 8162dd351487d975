use Rattle.std.proofs.Common.{◌≡◌, ℕ, false, true, nat_eq, subst, take, arith, sym, ◌∙◌}
use Rattle.std.specs.Cmp.Lexicographic.{pointwise, same_text}
use Rattle.dom_base.proofs.Bools.{false_from_not}
use Rattle.std.proofs.lemmas.Bool.{not-false}
use Rattle.trace_tool.proofs.FirstDifferences.{differ_end, differ_here, same_more, told_apart}
use Rattle.trace_tool.proofs.port_names.first_difference.Goals as goal

pub returns-then-ne : goal.returns-then-ne
returns-then-ne c =
    let test : pointwise nat_eq c.index-wanted-index.result c.index-found-index.result ≡ false =
    (λ i. pointwise nat_eq (sym c.as_bytes.ensures i) (sym c.as_bytes-in-loop-index.ensures.bytes i)) ∙ false_from_not _ (sym c.ne.ensures ∙ c.if-ne.true) in
    record {
      first = differ_here c.args.wanted.now c.args.found.now c.loop-index.index c.index-wanted-index.result c.index-found-index.result c.loop-index.invariant
          (omega (arith, c.loop-index-test.true, c.min-both.ensures)) (omega (arith, c.loop-index-test.true, c.min-both.ensures)) c.index-wanted-index.is c.index-found-index.is
          (told_apart c.index-wanted-index.result c.index-found-index.result test);
      within = omega (arith, c.loop-index-test.true, c.min-both.ensures);
    }

pub loop-index-preserved : goal.loop-index-preserved
loop-index-preserved c =
    let test : pointwise nat_eq c.index-wanted-index.result c.index-found-index.result ≡ true =
    (λ i. pointwise nat_eq (sym c.as_bytes.ensures i) (sym c.as_bytes-in-loop-index.ensures.bytes i)) ∙ not-false _ (sym c.ne.ensures ∙ c.if-ne.false) in
    same_more c.args.wanted.now c.args.found.now c.loop-index.index c.index-wanted-index.result c.index-found-index.result c.loop-index.invariant
    (omega (arith, c.loop-index-test.true, c.min-both.ensures)) (omega (arith, c.loop-index-test.true, c.min-both.ensures)) c.index-wanted-index.is c.index-found-index.is
    (same_text c.index-wanted-index.result c.index-found-index.result (sym test))

pub returns-else-wanted-found-clause-first : goal.returns-else-wanted-found-clause-first
returns-else-wanted-found-clause-first c =
    let end : c.loop-index.index ≡ c.min-both.result = omega (arith, c.loop-index-test.false, c.loop-index.auto.index-end) in
    differ_end c.args.wanted.now c.args.found.now c.min-both.result (subst (λ (m : ℕ). take m c.args.wanted.now ≡ take m c.args.found.now) end c.loop-index.invariant) c.min-both.ensures
    c.if-wanted-found.false

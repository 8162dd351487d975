use Rattle.std.proofs.Common.{arith, ap, ◌∙◌, ◌≡◌, ◌+◌, ◌-◌, ◌++◌, reverse, sym, List, ℕ}
use Rattle.std.proofs.lemmas.List.{append-nil}
use Rattle.switch_model.specs.Chains.{chain, entry_at}
use Rattle.switch_model.proofs.Chains.{chain-back}
use Rattle.switch_model.proofs.lists.put_back.Goals as goal

pub back-preserved : goal.back-preserved
back-preserved c =
    let i = c.back.invariant in
    let entries = c.args.entries.now in
    let k = c.back.left - 1 in
    let before = (entry_at entries k).before in
    let last : k + 1 ≡ c.back.left = omega (arith, c.back-test.true) in
    record {
      within = omega (arith, c.requires.backward k, i.within, last);
      so_far = ap (λ (l : List ℕ). l ++ reverse (chain entries before before)) c.in_ok-push.ensures.items
          ∙ chain-back entries c.requires.backward k c.back.numbers.items
          ∙ ap (λ n. c.back.numbers.items ++ reverse (chain entries n n)) last ∙ i.so_far;
    }

pub returns : goal.returns
returns c =
    let none : c.back.left ≡ 0 = omega (arith, c.back-test.false) in
    sym (append-nil c.back.numbers.items) ∙ ap (λ n. c.back.numbers.items ++ reverse (chain c.args.entries.now n n)) (sym none) ∙ c.back.invariant.so_far

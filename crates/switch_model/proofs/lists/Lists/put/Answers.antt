use Rattle.std.proofs.Common.{arith, ap, ◌∙◌, ◌≡◌, ◌<◌, ◌++◌, sym, length, get_or, reverse, List, ℕ}
use Rattle.std.proofs.lemmas.List.{get_or_read, reverse-reverse}
use Rattle.switch_model.specs.Chains.{chain}
use Rattle.switch_model.specs.ComponentLists.{list_at}
use Rattle.switch_model.specs.declared.lists.Entry.{Entry}
use Rattle.switch_model.proofs.Chains.{below-ends, chains-at}
use Rattle.switch_model.proofs.lists.Lists.put.Goals as goal

pub returns : goal.returns
returns c =
    let w = c.self.inside in
    let entries = w.entries.items in
    let ends = w.ends.items in
    let end = c.index.result.now in
    let told = chain c.as_slice.result.now end end in
    let lt : c.args.list < length ends = below-ends entries ends c.args.list (omega (arith, c.requires, ap (λ (l : List (List ℕ)). length l) c.self.view_is)) in
    let read : end ≡ get_or ends c.args.list 0 = get_or_read ends c.args.list end lt c.index.ensures 0 in
    c.reverse.ensures.items
    ∙ ap reverse (c.in_ok-put_back.ensures ∙ ap (λ (l : List ℕ). l ++ reverse told) c.clear.ensures.items)
    ∙ reverse-reverse told ∙ ap (λ (l : List Entry). chain l end end) c.as_slice.ensures.value ∙ ap (λ n. chain entries n n) read
    ∙ sym (chains-at entries ends c.args.list lt) ∙ ap (λ (ls : List (List ℕ)). list_at ls c.args.list) c.self.view_is

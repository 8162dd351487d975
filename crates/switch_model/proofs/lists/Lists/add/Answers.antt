use Rattle.std.proofs.Common.{arith, ap, ◌∙◌, ◌≡◌, ◌<◌, ◌≤◌, ◌+◌, ◌++◌, ◌∷◌, [], set, length, get_or, List, ℕ}
use Rattle.std.proofs.lemmas.List.{get_or_read}
use Rattle.switch_model.specs.Chains.{chains}
use Rattle.switch_model.specs.ComponentLists.{with_number}
use Rattle.switch_model.specs.declared.lists.Entry.{Entry}
use Rattle.switch_model.proofs.Chains.{below-ends, chains-add}
use Rattle.switch_model.proofs.lists.Lists.add.Goals as goal

pub returns : goal.returns
returns c =
    let w = c.self.inside in
    let i = c.self.invariant in
    let entries = w.entries.items in
    let ends = w.ends.items in
    let list = c.args.list in
    let before = c.index-before.result.now in
    let entry : Entry = record { number = c.args.number; before = before } in
    let lt : list < length ends = below-ends entries ends list (omega (arith, c.requires, ap (λ (l : List (List ℕ)). length l) c.self.view_is)) in
    let read : before ≡ get_or ends list 0 = get_or_read ends list before lt c.index-before.ensures 0 in
    let within : before ≤ length entries = omega (arith, read, i.within list 0 lt) in
    let end : c.in_ok-end.end ≡ length entries + 1 = omega (arith, c.in_ok-end.ensures, c.len.ensures, w.entries.ok.0) in
    ap (λ (l : List Entry). chains l (set ends list c.in_ok-end.end)) c.in_ok-push.ensures.items
    ∙ ap (λ (n : ℕ). chains (entries ++ entry ∷ []) (set ends list n)) end
    ∙ chains-add entries i.backward c.args.number before within ends list lt i.within read
    ∙ ap (λ (ls : List (List ℕ)). with_number ls list c.args.number) c.self.view_is

use Rattle.std.proofs.Common.{arith, ap, ◌∙◌, ◌≡◌, ◌≢◌, ◌<◌, ◌+◌, ◌-◌, ◌++◌, ◌∷◌, [], sym, subst, length, get_or, List, ℕ}
use Rattle.std.specs.Prelude.{Contains}
use Rattle.std.proofs.lemmas.List.{get_or_read}
use Rattle.switch_model.specs.Chains.{chain, entry_at}
use Rattle.switch_model.specs.ComponentLists.{list_at}
use Rattle.switch_model.specs.declared.lists.Entry.{Entry}
use Rattle.switch_model.proofs.Chains.{below-ends, chain-last, chains-at, last-other, last-there}
use Rattle.switch_model.proofs.lists.Lists.is_last.Goals as goal

pub returns-clause-yes : goal.returns-clause-yes
returns-clause-yes c = λ e.
    let w = c.self.inside in
    let entries = w.entries.items in
    let ends = w.ends.items in
    let end = c.index.result.now in
    let k = end - 1 in
    let before = (entry_at entries k).before in
    let lt : c.args.list < length ends = below-ends entries ends c.args.list (omega (arith, c.requires, ap (λ (l : List (List ℕ)). length l) c.self.view_is)) in
    let read : end ≡ get_or ends c.args.list 0 = get_or_read ends c.args.list end lt c.index.ensures 0 in
    let last : end ≡ k + 1 = omega (arith, c.if-end-eq0.false) in
    let within : k < length entries = omega (arith, last, read, c.self.invariant.within c.args.list 0 lt) in
    let entry : c.index-entry.result.now ≡ entry_at entries k = get_or_read entries k c.index-entry.result.now within c.index-entry.ensures (record { number = 0; before = 0 }) in
    let whole : list_at c.args.self.now c.args.list ≡ chain entries before before ++ c.index-entry.result.now.number ∷ [] =
    ap (λ (ls : List (List ℕ)). list_at ls c.args.list) (sym c.self.view_is) ∙ chains-at entries ends c.args.list lt
    ∙ ap (λ n. chain entries n n) (sym read ∙ last) ∙ chain-last entries c.self.invariant.backward k
    ∙ ap (λ (d : Entry). chain entries before before ++ d.number ∷ []) (sym entry) in
    subst (λ (l : List ℕ). Contains l c.args.number) (sym whole) (last-there (chain entries before before) c.index-entry.result.now.number c.args.number e)

pub returns-clause-no : goal.returns-clause-no
returns-clause-no c = λ e.
    let w = c.self.inside in
    let entries = w.entries.items in
    let ends = w.ends.items in
    let end = c.index.result.now in
    let k = end - 1 in
    let before = (entry_at entries k).before in
    let lt : c.args.list < length ends = below-ends entries ends c.args.list (omega (arith, c.requires, ap (λ (l : List (List ℕ)). length l) c.self.view_is)) in
    let read : end ≡ get_or ends c.args.list 0 = get_or_read ends c.args.list end lt c.index.ensures 0 in
    let last : end ≡ k + 1 = omega (arith, c.if-end-eq0.false) in
    let within : k < length entries = omega (arith, last, read, c.self.invariant.within c.args.list 0 lt) in
    let entry : c.index-entry.result.now ≡ entry_at entries k = get_or_read entries k c.index-entry.result.now within c.index-entry.ensures (record { number = 0; before = 0 }) in
    let whole : list_at c.args.self.now c.args.list ≡ chain entries before before ++ c.index-entry.result.now.number ∷ [] =
    ap (λ (ls : List (List ℕ)). list_at ls c.args.list) (sym c.self.view_is) ∙ chains-at entries ends c.args.list lt
    ∙ ap (λ n. chain entries n n) (sym read ∙ last) ∙ chain-last entries c.self.invariant.backward k
    ∙ ap (λ (d : Entry). chain entries before before ++ d.number ∷ []) (sym entry) in
    subst (λ (l : List ℕ). (j : ℕ) → j + 1 ≡ length l → get_or l j 0 ≢ c.args.number) (sym whole)
    (last-other (chain entries before before) c.index-entry.result.now.number c.args.number e)

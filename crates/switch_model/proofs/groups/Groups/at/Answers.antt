use Rattle.std.proofs.Common.{arith, ap, ◌∙◌, ◌+◌, ◌<◌, sym, length, get_or, List, ℕ}
use Rattle.std.specs.List.{slice_range}
use Rattle.std.proofs.lemmas.List.{get_or_read}
use Rattle.switch_model.specs.ComponentLists.{list_at}
use Rattle.switch_model.proofs.Pieces.{pieces-at, pieces-length, rises-at}
use Rattle.switch_model.proofs.groups.Groups.at.Goals as goal

pub index-requires : goal.index-requires
index-requires c =
    let w = c.self.inside in
    omega (
      arith,
      c.requires,
      w.starts.ok.0,
      pieces-length w.starts.items w.numbers.items (length w.numbers.items) c.self.invariant,
      ap (λ (l : List (List ℕ)). length l) c.self.view_is,
    )

pub index-requires-2 : goal.index-requires-2
index-requires-2 c =
    let w = c.self.inside in
    omega (
      arith,
      c.requires,
      w.starts.ok.0,
      pieces-length w.starts.items w.numbers.items (length w.numbers.items) c.self.invariant,
      ap (λ (l : List (List ℕ)). length l) c.self.view_is,
    )

pub piece-requires-clause-start : goal.piece-requires-clause-start
piece-requires-clause-start c =
    let w = c.self.inside in
    let starts = w.starts.items in
    let lt : c.args.group + 1 < length starts =
    omega (arith, c.requires, pieces-length starts w.numbers.items (length w.numbers.items) c.self.invariant, ap (λ (l : List (List ℕ)). length l) c.self.view_is) in
    let from = get_or_read starts c.args.group c.index.result.now (omega (arith, lt)) c.index.ensures 0 in
    let to = get_or_read starts (c.args.group + 1) c.index-2.result.now lt c.index-2.ensures 0 in
    omega (arith, from, to, (rises-at starts (length w.numbers.items) c.args.group c.self.invariant lt).0)

pub piece-requires-clause-end : goal.piece-requires-clause-end
piece-requires-clause-end c =
    let w = c.self.inside in
    let starts = w.starts.items in
    let lt : c.args.group + 1 < length starts =
    omega (arith, c.requires, pieces-length starts w.numbers.items (length w.numbers.items) c.self.invariant, ap (λ (l : List (List ℕ)). length l) c.self.view_is) in
    let to = get_or_read starts (c.args.group + 1) c.index-2.result.now lt c.index-2.ensures 0 in
    omega (arith, to, (rises-at starts (length w.numbers.items) c.args.group c.self.invariant lt).1, ap (λ (l : List ℕ). length l) c.as_slice.ensures.value)

pub returns : goal.returns
returns c =
    let w = c.self.inside in
    let starts = w.starts.items in
    let numbers = w.numbers.items in
    let lt : c.args.group + 1 < length starts =
    omega (arith, c.requires, pieces-length starts numbers (length numbers) c.self.invariant, ap (λ (l : List (List ℕ)). length l) c.self.view_is) in
    let from = get_or_read starts c.args.group c.index.result.now (omega (arith, lt)) c.index.ensures 0 in
    let to = get_or_read starts (c.args.group + 1) c.index-2.result.now lt c.index-2.ensures 0 in
    c.piece.ensures ∙ ap (λ (l : List ℕ). slice_range l c.index.result.now c.index-2.result.now) c.as_slice.ensures.value
    ∙ ap (λ (n : ℕ). slice_range numbers n c.index-2.result.now) from ∙ ap (slice_range numbers (get_or starts c.args.group 0)) to
    ∙ sym (pieces-at starts numbers c.args.group lt) ∙ ap (λ (l : List (List ℕ)). list_at l c.args.group) c.self.view_is

use Rattle.std.proofs.Common.{ℕ, ◌≡◌, List, length, map, subst, arith, rules, vec_len}
use Rattle.std.specs.Prelude.{All}
use Rattle.std.proofs.lemmas.List.{length-map, take_all}
use Rattle.net_flatten.specs.NetworkNames.{IsNoLongerTaking, MarksTaken}
use Rattle.net_flatten.proofs.NetworkNames.{has_mark, none_added, none_marked, nothing_taken, width_marked}
use Rattle.net_flatten.proofs.network_names.taken_widths.Goals.{in-Some, in_default}
use Rattle.net_flatten.proofs.network_names.taken_widths.Goals as goal

pub returns-then-is_empty : goal.returns-then-is_empty
returns-then-is_empty c =
    let names : List (List ℕ) = map (λ k. k.now) c.args.names.now in
    let none : length c.in_ok-marks.marks.items ≡ 0 = search (rules, arith) in
    let count : c.longest_taking.result ≡ length c.in_ok-marks.marks.items = search rules in
    nothing_taken names c.in_ok-marks.marks.items none (subst (λ most. All (IsNoLongerTaking most) names) count c.longest_taking.ensures)

pub loop-index-init : goal.loop-index-init
loop-index-init c =
    let names : List (List ℕ) = map (λ k. k.now) c.args.names.now in
    none_marked names c.in_ok-marks.marks.items c.longest_taking.result (c.in_ok-marks.ensures.items_if_clones_equal (λ y same. same)) c.longest_taking.ensures

pub index_mut-requires : goal.index_mut-requires
index_mut-requires c =
    let names : List (List ℕ) = map (λ k. k.now) c.args.names.now in
    let long : length c.loop-index.marks.items ≡ vec_len c.loop-index.marks = search rules in
    let within = has_mark names c.loop-index.index c.name_at.result.now c.loop-index.marks.items c.in-Some.width c.name_at.ensures
    (c.in-Some.ensures {u = tt}) c.loop-index.invariant in
    omega (arith, within, long)

pub loop-index-preserved : goal.loop-index-preserved
loop-index-preserved c =
    let names : List (List ℕ) = map (λ k. k.now) c.args.names.now in
    let count = c.loop-index.index in
    let name = c.name_at.result.now in
    elim c.match-taken_width.branch [
      | in-Some w ↦ rw w.marks-is (width_marked names count name c.loop-index.marks.items w.in-Some.width c.name_at.ensures
          (w.in-Some.ensures {u = tt}) c.loop-index.invariant)
      | in_default w ↦ rw w.marks-is (none_added names count name c.loop-index.marks.items c.name_at.ensures
          (w.in_default.ensures {u = tt}) c.loop-index.invariant)
    ]

pub returns : goal.returns
returns c =
    let names : List (List ℕ) = map (λ k. k.now) c.args.names.now in
    let count = length-map c.args.names.now (λ k. k.now) in
    let all = take_all c.loop-index.index names (omega (arith, count, c.loop-index-test.false)) in
    subst (λ names. MarksTaken names c.loop-index.marks.items) all c.loop-index.invariant.marked

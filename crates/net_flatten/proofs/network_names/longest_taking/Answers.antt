use Rattle.std.proofs.Common.{ℕ, ◌≤◌, List, length, map, subst, arith, rules}
use Rattle.std.specs.Prelude.{All}
use Rattle.std.proofs.lemmas.List.{length-map, take_all}
use Rattle.net_flatten.specs.NetworkNames.{IsNoLongerTaking}
use Rattle.net_flatten.proofs.NetworkNames.{longer_taking, nothing_taking}
use Rattle.net_flatten.proofs.network_names.longest_taking.Goals.{in-Some, in_default}
use Rattle.net_flatten.proofs.network_names.longest_taking.Goals as goal

pub loop-index-preserved : goal.loop-index-preserved
loop-index-preserved c =
    let names : List (List ℕ) = map (λ k. k.now) c.args.names.now in
    let count = c.loop-index.index in
    let name = c.name_at-name.result.now in
    elim c.match-taken_width.branch [
      | in-Some w ↦
          let longer : c.loop-index.longest ≤ w.max-longest.result = search (rules, arith) in
          let named : length name ≤ w.max-longest.result = search (rules, arith) in
          rw w.longest-is (longer_taking names count name c.loop-index.longest w.max-longest.result c.name_at-name.ensures longer named c.loop-index.invariant)
      | in_default w ↦ rw w.longest-is (nothing_taking names count name c.loop-index.longest c.name_at-name.ensures
          (w.in_default.ensures {u = tt}) c.loop-index.invariant)
    ]

pub returns : goal.returns
returns c =
    let names : List (List ℕ) = map (λ k. k.now) c.args.names.now in
    let count = length-map c.args.names.now (λ k. k.now) in
    subst (All (IsNoLongerTaking c.loop-index.longest)) (take_all c.loop-index.index names (omega (arith, count, c.loop-index-test.false))) c.loop-index.invariant

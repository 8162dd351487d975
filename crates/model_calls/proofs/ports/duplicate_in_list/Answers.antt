use Rattle.std.proofs.Common.{◌≤◌, ◌<◌, inl, inr, ℕ, List, length, true, refl, sym, subst, arith}
use Rattle.std.specs.List.{count_by}
use Rattle.std.proofs.lemmas.List.Sums.{count_by-le-length}
use Rattle.blif_ast.specs.Cards.{same}
use Rattle.network.proofs.Lists.{get_of_map}
use Rattle.dom_base.proofs.Options.{if_ok-weaker}
use Rattle.model_calls.proofs.FirstFaults.{item_at}
use Rattle.model_calls.proofs.Scans.{next_scan, no_scan, scan_faults}
use Rattle.model_calls.specs.ModelFaults.{IsDuplicatePort, IsTwiceIn, Port, ports_in}
use Rattle.model_calls.specs.FirstFaults.{NoneHolds}
use Rattle.model_calls.specs.Scans.{IsWrong}
use Rattle.model_calls.proofs.ports.duplicate_in_list.Goals as goal

-- a list of one name has none twice
short_list : (line : ℕ) (names : List (List ℕ)) → length names < 2 → NoneHolds IsDuplicatePort (ports_in line names)
short_list line names short k e there twice =
    let p = get_of_map (λ name. record { line = line; list = names; name = name }) names k e there in
    let t : 1 < count_by (same p.0) names = subst (λ (q : Port). 1 < count_by (same q.name) q.list) (sym p.2) twice in
    omega (arith, t, short, count_by-le-length (same p.0) names)

pub returns-then-names-lt2 : goal.returns-then-names-lt2
returns-then-names-lt2 c = short_list c.args.line c.args.names.now (omega (arith, c.if-names-lt2.true))

pub loop-name-init : goal.loop-name-init
loop-name-init c = no_scan (λ x. Unit {0}) c.args.names.now c.in_ok-scan.scan c.in_ok-scan.ensures.names c.in_ok-scan.ensures.least

pub loop-name-preserved : goal.loop-name-preserved
loop-name-preserved c = next_scan (λ x. Unit {0}) c.args.names.now c.loop-name.name-index c.loop-name.scan c.look.new.self c.name-item.result c.loop-name.invariant (item_at c.args.names.now (length c.args.names.now) c.loop-name.name-index c.name-item.result refl (omega (arith, c.loop-name-test.true, c.loop-name.auto.name-index-end)) c.name-item.is) true (λ t. tt, λ t. refl) c.in_ok-look.ensures

is_twice : (all : List (List ℕ)) (x : List ℕ) → IsWrong (λ x. Unit {0}) all x → IsTwiceIn all x
is_twice all x (inl bad) = absurd (bad tt)
is_twice all x (inr twice) = twice

pub returns : goal.returns
returns c =
    let whole : length c.args.names.now ≤ c.loop-name.name-index = omega (arith, c.loop-name-test.false, c.loop-name.auto.name-index-end) in
    if_ok-weaker c.report.result
    (scan_faults (λ (p : Port). IsTwiceIn p.list p.name) (λ p. p.line) (λ p. p.name) (λ name. record { line = c.args.line; list = c.args.names.now; name = name }) (λ x. Unit {0}) c.args.names.now
    (is_twice c.args.names.now) (λ x twice. inr twice) c.args.line (λ x. refl) (λ x. refl)
    c.loop-name.scan c.loop-name.name-index whole c.loop-name.invariant) c.report.ensures

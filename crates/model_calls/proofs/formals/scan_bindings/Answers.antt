use Rattle.std.proofs.Common.{◌≤◌, length, refl, subst, arith}
use Rattle.std.specs.Prelude.{Contains}
use Rattle.std.proofs.lemmas.List.{length-map, take_all}
use Rattle.blif_ast.specs.declared.instance.Binding.{Binding}
use Rattle.network.proofs.Lists.{get_map}
use Rattle.model_calls.proofs.FirstFaults.{item_at}
use Rattle.model_calls.proofs.Scans.{next_scan, no_scan}
use Rattle.model_calls.specs.Formals.{bound_formals, names_of_ports}
use Rattle.model_calls.specs.Scans.{IsScan}
use Rattle.model_calls.proofs.formals.scan_bindings.Goals as goal

pub loop-binding-init : goal.loop-binding-init
loop-binding-init c = no_scan (Contains (names_of_ports c.args.unit.now)) (bound_formals c.args.bindings.now) c.args.scan.now c.requires.names c.requires.least

pub loop-binding-preserved : goal.loop-binding-preserved
loop-binding-preserved c =
    let there = item_at c.args.bindings.now (length c.args.bindings.now) c.loop-binding.binding-index c.binding-item.result refl (omega (arith, c.loop-binding-test.true, c.loop-binding.auto.binding-index-end)) c.binding-item.is in
    next_scan (Contains (names_of_ports c.args.unit.now)) (bound_formals c.args.bindings.now) c.loop-binding.binding-index c.loop-binding.scan c.look.new.self c.binding-item.result.formal c.loop-binding.invariant
    (get_map (λ (b : Binding). b.formal) c.args.bindings.now c.loop-binding.binding-index c.binding-item.result there) c.is_port.result c.is_port.ensures c.in_ok-look.ensures

pub returns : goal.returns
returns c =
    let whole : length (bound_formals c.args.bindings.now) ≤ c.loop-binding.binding-index =
    omega (arith, c.loop-binding-test.false, c.loop-binding.auto.binding-index-end, length-map c.args.bindings.now (λ (b : Binding). b.formal)) in
    subst (λ l. IsScan (Contains (names_of_ports c.args.unit.now)) (bound_formals c.args.bindings.now) l c.loop-binding.scan) (take_all c.loop-binding.binding-index (bound_formals c.args.bindings.now) whole) c.loop-binding.invariant

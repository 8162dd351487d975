use Rattle.std.proofs.Common.{◌≡◌, ℕ, ◌+◌, List, drop, ap, sym, subst, ◌∙◌, arith}
use Rattle.deck.specs.Roles.{ports_of}
use Rattle.trace_tool.specs.Verdicts.{DifferFirstAt, network_ports, pins_and_outputs}
use Rattle.trace_tool.proofs.PortCounts.{ports_count}
use Rattle.trace_tool.proofs.port_names.different_port.Goals as goal

pub ports_from-requires : goal.ports_from-requires
ports_from-requires c = omega (arith, ports_count c.args.circuit.now c.args.roles c.requires, c.first_pin-first.ensures)

pub overflow_cast-result : goal.overflow_cast-result
overflow_cast-result c = omega (arith, c.ports_from.ensures.few, c.in-Some.ensures.within)

pub overflow_add-result : goal.overflow_add-result
overflow_add-result c = omega (arith, c.ports_from.ensures.few, c.in-Some.ensures.within)

pub returns-in-Some : goal.returns-in-Some
returns-in-Some c =
    let wanted : c.deref.result.now ≡ network_ports c.args.network.now = c.deref.ensures.value ∙ c.in_ok-wanted.ensures in
    let found : c.ports_from.result.now ≡ pins_and_outputs c.args.circuit.now c.args.roles =
    c.ports_from.ensures.ports ∙ ap (λ (n : ℕ). drop n (ports_of c.args.circuit.now)) c.first_pin-first.ensures in (
      c.in-Some.index,
      subst (λ (l : List (List ℕ)). DifferFirstAt (network_ports c.args.network.now) l c.in-Some.index) found
          (subst (λ (l : List (List ℕ)). DifferFirstAt l c.ports_from.result.now c.in-Some.index) wanted c.in-Some.ensures.first),
      ap (λ (n : ℕ). n + c.in-Some.index) c.first_pin-first.ensures,
    )

pub returns : goal.returns
returns c =
    let wanted : c.deref.result.now ≡ network_ports c.args.network.now = c.deref.ensures.value ∙ c.in_ok-wanted.ensures in
    let found : c.ports_from.result.now ≡ pins_and_outputs c.args.circuit.now c.args.roles =
    c.ports_from.ensures.ports ∙ ap (λ (n : ℕ). drop n (ports_of c.args.circuit.now)) c.first_pin-first.ensures in
    sym found ∙ c.in-None.ensures.first ∙ wanted

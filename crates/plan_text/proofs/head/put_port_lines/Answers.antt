use Rattle.std.proofs.Common.{rules, ◌++◌, ◌<◌, List, ℕ, length, ap, ◌∙◌, append_assoc, drop}
use Rattle.std.proofs.lemmas.List.{take_rest}
use Rattle.spice_text.specs.Text.{plus_lines}
use Rattle.spice_text.proofs.Lines.{plus_lines-step}
use Rattle.plan_text.proofs.head.put_port_lines.Goals as goal

pub groups-preserved : goal.groups-preserved
groups-preserved c =
    let some : 0 < length c.groups.rest.now = search rules in
    let count = c.min-group.ensures in
    let append = c.in_ok-put_port_line.ensures {u = tt} in
    let step = plus_lines-step c.groups.rest.now c.min-group.result some count in
    simp take_rest (ap (λ (t : List ℕ). t ++ plus_lines (drop c.min-group.result c.groups.rest.now)) append
    ∙ append_assoc c.groups.text _ _ ∙ ap (λ (t : List ℕ). c.groups.text ++ t) step ∙ c.groups.invariant)

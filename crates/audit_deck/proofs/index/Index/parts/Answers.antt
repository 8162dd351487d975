use Rattle.std.proofs.Common.{subst, sym, ◌+◌}
use Rattle.dom_base.specs.declared.kind.Kind.TheVariants.{N as nch, P as pch}
use Rattle.port_runs.specs.Periods.{vdd_port, vss_port}
use Rattle.audit_deck.specs.Latches.{IsBranchAt, IsOnlyBranch}
use Rattle.audit_deck.proofs.PartsAlone.{has_master_down, has_master_up, has_output_down, has_output_up, has_reset, latch_small, master_small, same_data, same_input}
use Rattle.audit_deck.proofs.index.Index.parts.Goals as goal
use Rattle.audit_deck.proofs.index.Index.parts.Goals.{then-output_down-middle-via-else-output_down-middle+then-not-is_small-2, then-output_down-middle-via-then-output_down-middle}

pub returns-then-not-is_small-clause-none : goal.returns-then-not-is_small-clause-none
returns-then-not-is_small-clause-none c = λ l k o.
    c.is_small.ensures c.if-not-is_small.true (latch_small c.args.self.now.devices c.args.roles c.args.net l k o)

pub returns-in_default-output_up-clause-none : goal.returns-in_default-output_up-clause-none
returns-in_default-output_up-clause-none c = λ l k o.
    let ds = c.args.self.now.devices in
    let z = has_output_up ds c.args.roles c.args.net l k o in
    c.in_default-output_up.ensures.none z.0
    (subst (λ s. IsOnlyBranch ds c.args.roles c.args.net pch (s + 1) vdd_port z.0) (sym c.slave_pair-slave.ensures) z.1)

pub returns-in_default-output_down-clause-none : goal.returns-in_default-output_down-clause-none
returns-in_default-output_down-clause-none c = λ l k o.
    let ds = c.args.self.now.devices in
    let z = has_output_down ds c.args.roles c.args.net l k o in
    c.in_default-output_down.ensures.none z.0
    (subst (λ s. IsOnlyBranch ds c.args.roles c.args.net nch s vss_port z.0) (sym c.slave_pair-slave.ensures) z.1)

pub returns-then-output_down-middle-clause-none : goal.returns-then-output_down-middle-clause-none
returns-then-output_down-middle-clause-none c = λ l k o.
    let ds = c.args.self.now.devices in
    let up = c.in_Some-output_up.output_up in
    let down = c.in_Some-output_down.output_down in
    let is = subst (λ s. IsBranchAt ds c.args.roles c.args.net pch (s + 1) vdd_port up) c.slave_pair-slave.ensures c.in_Some-output_up.ensures.some in
    let low = subst (λ s. IsBranchAt ds c.args.roles c.args.net nch s vss_port down) c.slave_pair-slave.ensures c.in_Some-output_down.ensures.some in
    elim c.then-output_down-middle.branch [
      | then-output_down-middle-via-then-output_down-middle w ↦ w.if-output_down-middle.true (same_input ds c.args.roles c.args.net l k o up is down low)
      | then-output_down-middle-via-else-output_down-middle+then-not-is_small-2 w ↦
          w.is_small-else-output_down-middle.ensures w.if-not-is_small-2.true (master_small ds c.args.roles c.args.net l k o up is)
    ]

pub returns-in_default-master_up-clause-none : goal.returns-in_default-master_up-clause-none
returns-in_default-master_up-clause-none c = λ l k o.
    let ds = c.args.self.now.devices in
    let up = c.in_Some-output_up.output_up in
    let is = subst (λ s. IsBranchAt ds c.args.roles c.args.net pch (s + 1) vdd_port up) c.slave_pair-slave.ensures c.in_Some-output_up.ensures.some in
    let z = has_master_up ds c.args.roles c.args.net l k o up is in
    c.in_default-master_up.ensures.none z.0
    (subst (λ m. IsOnlyBranch ds c.args.roles up.input pch (m + 1) vdd_port z.0) (sym c.master_pair-master.ensures) z.1)

pub returns-in_default-master_down-clause-none : goal.returns-in_default-master_down-clause-none
returns-in_default-master_down-clause-none c = λ l k o.
    let ds = c.args.self.now.devices in
    let up = c.in_Some-output_up.output_up in
    let is = subst (λ s. IsBranchAt ds c.args.roles c.args.net pch (s + 1) vdd_port up) c.slave_pair-slave.ensures c.in_Some-output_up.ensures.some in
    let z = has_master_down ds c.args.roles c.args.net l k o up is in
    c.in_default-master_down.ensures.none z.0
    (subst (λ m. IsOnlyBranch ds c.args.roles up.input nch m vss_port z.0) (sym c.master_pair-master.ensures) z.1)

pub returns-then-master_down-master_up-clause-none : goal.returns-then-master_down-master_up-clause-none
returns-then-master_down-master_up-clause-none c = λ l k o.
    let ds = c.args.self.now.devices in
    let up = c.in_Some-output_up.output_up in
    let is = subst (λ s. IsBranchAt ds c.args.roles c.args.net pch (s + 1) vdd_port up) c.slave_pair-slave.ensures c.in_Some-output_up.ensures.some in
    let high = c.in_Some-master_up.master_up in
    let low = c.in_Some-master_down.master_down in
    c.if-master_down-master_up.true
    (same_data ds c.args.roles c.args.net l k o up is high low
    (subst (λ m. IsBranchAt ds c.args.roles up.input pch (m + 1) vdd_port high) c.master_pair-master.ensures c.in_Some-master_up.ensures.some)
    (subst (λ m. IsBranchAt ds c.args.roles up.input nch m vss_port low) c.master_pair-master.ensures c.in_Some-master_down.ensures.some))

pub returns-in_default-clause-none : goal.returns-in_default-clause-none
returns-in_default-clause-none c = λ l k o.
    let z = has_reset c.args.self.now.devices c.args.roles c.args.net l k o in c.in_default.ensures.none z.0 z.1

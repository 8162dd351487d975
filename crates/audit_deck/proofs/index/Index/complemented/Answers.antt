use Rattle.std.specs.Prelude.{◌⊎◌}
use Rattle.std.proofs.Common.{arith, inl, inr}
use Rattle.audit_deck.proofs.FirstComplements.{input_low, same_input}
use Rattle.audit_deck.proofs.MarkedNets.{mark_no, mark_yes}
use Rattle.deck_audit.specs.Words.{IsLatchData, IsLatchOutput, IsPin}
use Rattle.std.proofs.Common.{subst}
use Rattle.audit_deck.proofs.index.Index.complemented.Goals as goal

pub returns-in_default-clause-none : goal.returns-in_default-clause-none
returns-in_default-clause-none c = λ input may. c.in_default.ensures.none input may.inverts

pub returns-then-is_out_port-clause-none : goal.returns-then-is_out_port-clause-none
returns-then-is_out_port-clause-none c = λ input may. may.no_out (c.is_out_port.ensures.yes c.if-is_out_port.true)

pub has-requires : goal.has-requires
has-requires c = let z = c.requires.inputs.count in omega (arith, z, c.requires.within)

pub returns-then-has-clause-none : goal.returns-then-has-clause-none
returns-then-has-clause-none c = λ input may.
    may.no_data (mark_yes (IsLatchData c.args.self.now.devices c.args.roles) c.args.self.now.nets c.args.latch_data.now c.requires.inputs c.args.net c.has.result
    c.has.ensures c.if-has.true)

pub returns-then-is_pin-clause-some : goal.returns-then-is_pin-clause-some
returns-then-is_pin-clause-some c = record {
  inverts = c.in-Some.ensures.some.inverts;
  no_out = c.is_out_port.ensures.no c.if-is_out_port.false;
  no_data = mark_no (IsLatchData c.args.self.now.devices c.args.roles) c.args.self.now.nets c.args.latch_data.now c.requires.inputs c.args.net c.has.result
      c.has.ensures c.if-has.false;
  of_signal = inl (c.is_pin.ensures.yes c.if-is_pin.true);
}

pub returns-then-not-has-clause-none : goal.returns-then-not-has-clause-none
returns-then-not-has-clause-none c = λ input may.
    let ds = c.args.self.now.devices in
    let roles = c.args.roles in
    let i = c.in-Some.inverter.input in
    let same = same_input ds c.args.net input i may.inverts c.in-Some.ensures.some.inverts in
    elim (subst (λ x. IsPin roles x ⊎ IsLatchOutput ds roles x) same may.of_signal) [
      | inl pin ↦ c.is_pin.ensures.no c.if-is_pin.false pin
      | inr latch ↦
          mark_no (IsLatchOutput ds roles) c.args.self.now.nets c.args.latch_outputs.now c.requires.outputs i c.has-2.result c.has-2.ensures c.if-not-has.true
          latch
    ]

pub has-requires-2 : goal.has-requires-2
has-requires-2 c =
    let low =
    input_low c.args.self.now.devices c.args.roles c.args.self.now.nets c.requires.in_range c.args.net c.in-Some.inverter.input c.in-Some.ensures.some.inverts in
    let z = c.requires.outputs.count in omega (arith, z, low)

pub returns-clause-some : goal.returns-clause-some
returns-clause-some c = record {
  inverts = c.in-Some.ensures.some.inverts;
  no_out = c.is_out_port.ensures.no c.if-is_out_port.false;
  no_data = mark_no (IsLatchData c.args.self.now.devices c.args.roles) c.args.self.now.nets c.args.latch_data.now c.requires.inputs c.args.net c.has.result
      c.has.ensures c.if-has.false;
  of_signal = inr (mark_yes (IsLatchOutput c.args.self.now.devices c.args.roles) c.args.self.now.nets c.args.latch_outputs.now c.requires.outputs
      c.in-Some.inverter.input c.has-2.result c.has-2.ensures c.if-not-has.false);
}

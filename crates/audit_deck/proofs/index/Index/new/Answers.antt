use Rattle.std.specs.Prelude.{Some, slice_get}
use Rattle.std.proofs.Common.{arith, get_or, length, subst, sym, ◌<◌, ◌≡◌}
use Rattle.std.proofs.lemmas.Option.{slice_get-get_or}
use Rattle.dom_base.specs.declared.kind.Kind.TheVariants.{N as nch}
use Rattle.dom_base.proofs.Lists.{All-at}
use Rattle.deck.specs.Nets.{IsInRange}
use Rattle.deck.specs.declared.device.Device.{Device}
use Rattle.audit_deck.specs.Indexes.{AddsWhere, AreListed, EndingAt, GatedBy}
use Rattle.audit_deck.proofs.Listings.{adds_one, are_indexed, ends_more, gates_more, listed_none}
use Rattle.audit_deck.proofs.index.Index.new.Goals as goal

abbrev no_device : Device
no_device = record { kind = nch; drain = 0; gate = 0; source = 0 }

pub loop-place-init : goal.loop-place-init
loop-place-init c = record {
  ends = subst (AreListed (EndingAt c.args.devices.now) c.args.nets 0) (sym c.in_ok-ending.ensures) (listed_none (EndingAt c.args.devices.now) c.args.nets);
  gates = subst (AreListed (GatedBy c.args.devices.now) c.args.nets 0) (sym c.in_ok-gating.ensures) (listed_none (GatedBy c.args.devices.now) c.args.nets);
}

pub loop-place-preserved : goal.loop-place-preserved
loop-place-preserved c =
    let ds = c.args.devices.now in
    let p = c.loop-place.place in
    let d : Device = get_or ds p no_device in
    let there : slice_get ds p ≡ Some d = slice_get-get_or ds p no_device c.loop-place-test.true in
    let in_range = c.requires.in_range p no_device c.loop-place-test.true in
    let gate : d.gate < length c.loop-place.gating = omega (arith, in_range.gate, c.loop-place.invariant.gates.count) in
    record {
      ends = ends_more ds c.args.nets p d there c.loop-place.ending c.add_ends.new.lists c.loop-place.invariant.ends c.in_ok-add_ends.ensures;
      gates = gates_more ds c.args.nets p d there c.loop-place.gating c.add.new.self c.loop-place.invariant.gates
          (subst (AddsWhere (λ n. d.gate ≡ n) p c.loop-place.gating) (sym c.in_ok-add.ensures) (adds_one c.loop-place.gating d.gate p gate));
    }

pub invariant_of-result : goal.invariant_of-result
invariant_of-result c =
    are_indexed c.args.devices.now c.args.nets c.loop-place.place c.loop-place.ending c.loop-place.gating c.loop-place.invariant.ends c.loop-place.invariant.gates
    (omega (arith, c.loop-place-test.false, c.loop-place.auto.place-end)) (λ p d at. All-at (IsInRange c.args.nets) c.args.devices.now p d c.requires.in_range at)

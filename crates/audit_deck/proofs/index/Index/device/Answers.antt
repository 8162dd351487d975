use Rattle.std.proofs.Common.{subst}
use Rattle.std.proofs.Common.{ap, arith, get_or, length, ◌<◌}
use Rattle.std.proofs.lemmas.Option.{slice_get-get_or}
use Rattle.dom_base.specs.declared.kind.Kind.TheVariants.{N as nch}
use Rattle.deck.specs.Nets.{IsInRange}
use Rattle.deck.specs.declared.device.Device.{Device}
use Rattle.audit_deck.specs.Indexes.{IndexData}
use Rattle.audit_deck.proofs.index.Index.device.Goals as goal

abbrev no_device : Device
no_device = record { kind = nch; drain = 0; gate = 0; source = 0 }

pub returns-clause-in_range : goal.returns-clause-in_range
returns-clause-in_range c =
    let ds = c.self.inside.devices.now in
    let devices = ap (λ (v : IndexData). v.devices) c.self.view_is in
    let nets = ap (λ (v : IndexData). v.nets) c.self.view_is in
    let lt : c.args.place < length ds = omega (arith, c.requires, ap length devices) in
    subst (λ n. IsInRange n (get_or ds c.args.place no_device)) nets
    (c.self.invariant.in_range c.args.place (get_or ds c.args.place no_device) (slice_get-get_or ds c.args.place no_device lt))

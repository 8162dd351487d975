-- An open subcircuit stays whole with more nets, one device or one call more.
use Rattle.std.proofs.Common.{◌≡◌, ◌≤◌, ℕ, ◌+◌, ◌==◌, max, Bool, true, false, List, [], ◌∷◌, ◌++◌, length, refl, subst, arith, append-nil, length-append}
use Rattle.dom_base.specs.declared.kind.Kind.{Kind}
use Rattle.dom_base.proofs.Lists.{AllByRecursion-append}
use Rattle.deck.specs.Limits.{most_devices}
use Rattle.deck.specs.Nets.{with_net, with_nets}
use Rattle.deck.specs.Numbers.{with_all}
use Rattle.subckt_expand.specs.declared.part.Part.TheVariants.{Own, Called as Calling}
use Rattle.subckt_expand.specs.Definitions.{CallData, DefinitionData, IsCallOf, IsDefinition, local_device, with_call, with_device}
use Rattle.subckt_expand.specs.StandsFor.{IsOpen}
use Rattle.subckt_expand.specs.Units.{IsCallBelow}
use Rattle.subckt_expand.proofs.DefinitionGrowth.{device_there, grown, net_longer, part_added}

nets_more : (d : DefinitionData) (nets : List (List ℕ)) → IsDefinition d → length d.nets ≤ length nets → IsDefinition (record d { nets = nets })
nets_more d nets is le =
    subst (λ calls. IsDefinition (record d { nets = nets; calls = calls })) (append-nil d.calls) (grown d.ports d.nets nets d.calls [] d.parts d.name d.devices d.depth d.devices d.depth le is tt)

-- nets that are added in turn
pub all_longer : (nets names : List (List ℕ)) → length nets ≤ length (with_all nets names)
all_longer nets [] = omega arith
all_longer nets (n ∷ names) = omega (arith, net_longer nets n, all_longer (with_net nets n) names)

pub open-nets : (all : List DefinitionData) (d : DefinitionData) (names : List (List ℕ)) → IsOpen all d → IsOpen all (record d { nets = with_all d.nets names })
open-nets all d names is = record { whole = nets_more d (with_all d.nets names) is.whole (all_longer d.nets names); calls = is.calls; few_ports = is.few_ports; few_devices = is.few_devices }

pub open-device : (all : List DefinitionData) (d : DefinitionData) (kind : Kind) (a b c : List ℕ) → IsOpen all d → d.devices + 1 ≤ most_devices → IsOpen all (with_device d kind a b c)
open-device all d kind a b c is room =
    let nets = with_nets d.nets a b c in
    let n1 = net_longer d.nets a in
    let n2 = net_longer (with_net d.nets a) b in
    let n3 = net_longer (with_net (with_net d.nets a) b) c in
    let le : length d.nets ≤ length nets = omega (arith, n1, n2, n3) in
    record {
      whole = part_added d.ports nets d.calls d.parts d.name d.devices d.depth (d.devices + 1) d.depth (Own (local_device d.nets kind a b c)) (nets_more d nets is.whole le) (device_there d.nets kind a b c);
      calls = is.calls;
      few_ports = is.few_ports;
      few_devices = room;
    }

pub open-call : (all : List DefinitionData) (d : DefinitionData) (call : CallData) (devices depth : ℕ) → IsOpen all d → IsCallOf (length d.nets) call → IsCallBelow all (length all) call
    → d.devices + devices ≤ most_devices → IsOpen all (with_call d call devices depth)
open-call all d call devices depth is good below room = by (devices == 0) refl
  where
    by : (t : Bool) → (devices == 0) ≡ t → IsOpen all (with_call d call devices depth)
    by true e = rw e (record {
      whole = record { few_ports = is.whole.few_ports; parts_are = is.whole.parts_are; calls_are = is.whole.calls_are };
      calls = is.calls;
      few_ports = is.few_ports;
      few_devices = is.few_devices;
    })
    by false e =
        let more = grown d.ports d.nets d.nets d.calls (call ∷ []) d.parts d.name d.devices d.depth d.devices d.depth (omega arith) is.whole (good, tt) in
        rw e (record {
          whole = part_added d.ports d.nets (d.calls ++ call ∷ []) d.parts d.name d.devices d.depth (d.devices + devices) (max d.depth (depth + 1)) (Calling (length d.calls)) more (omega (arith, length-append d.calls (call ∷ [])));
          calls = AllByRecursion-append (IsCallBelow all (length all)) d.calls (call ∷ []) is.calls (below, tt);
          few_ports = is.few_ports;
          few_devices = room;
        })

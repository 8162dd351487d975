-- A subcircuit stays whole with one net, one device or one call more.
use Rattle.std.proofs.Common.{◌≡◌, ◌<◌, ◌≤◌, ℕ, List, [], ◌∷◌, ◌++◌, length, ap, arith, length-append}
use Rattle.std.specs.List.{AllByRecursion}
use Rattle.dom_base.specs.declared.kind.Kind.{Kind}
use Rattle.dom_base.proofs.Lists.{AllByRecursion-append, AllByRecursion-weaker}
use Rattle.deck.specs.Nets.{net_number, with_net, with_nets}
use Rattle.deck.proofs.NetNumbers.{number_fits}
use Rattle.subckt_expand.specs.declared.part.Part.{Part}
use Rattle.subckt_expand.specs.declared.part.Part.TheVariants.{Own, Called as Calling}
use Rattle.subckt_expand.specs.Definitions.{CallData, IsCallOf, IsDefinition, IsLocal, IsPartOf, local_device}

part-more : (nets calls nets' calls' : ℕ) → nets ≤ nets' → calls ≤ calls' → (p : Part) → IsPartOf nets calls p → IsPartOf nets' calls' p
part-more nets calls nets' calls' le le' (Own device) is = record { drain = omega (arith, is.drain, le); gate = omega (arith, is.gate, le); source = omega (arith, is.source, le) }
part-more nets calls nets' calls' le le' (Calling index) is = omega (arith, is, le')

call-more : (nets nets' : ℕ) → nets ≤ nets' → (call : CallData) → IsCallOf nets call → IsCallOf nets' call
call-more nets nets' le call is = AllByRecursion-weaker (λ (net : ℕ). net < nets) (λ (net : ℕ). net < nets') (λ net low. omega (arith, low, le)) call.nets is

-- more nets and more calls
pub grown : (ports : ℕ) (nets nets' : List (List ℕ)) (calls more : List CallData) (parts : List Part) (name : List ℕ) (devices depth devices' depth' : ℕ) → length nets ≤ length nets'
    → IsDefinition (record { name = name; ports = ports; nets = nets; calls = calls; parts = parts; devices = devices; depth = depth })
    → AllByRecursion (IsCallOf (length nets')) more
    → IsDefinition (record { name = name; ports = ports; nets = nets'; calls = calls ++ more; parts = parts; devices = devices'; depth = depth' })
grown ports nets nets' calls more parts name devices depth devices' depth' le is good = record {
  few_ports = omega (arith, is.few_ports, le);
  parts_are = AllByRecursion-weaker (IsPartOf (length nets) (length calls)) (IsPartOf (length nets') (length (calls ++ more)))
      (part-more (length nets) (length calls) (length nets') (length (calls ++ more)) le (omega (arith, length-append calls more))) parts is.parts_are;
  calls_are = AllByRecursion-append (IsCallOf (length nets')) calls more
      (AllByRecursion-weaker (IsCallOf (length nets)) (IsCallOf (length nets')) (call-more (length nets) (length nets') le) calls is.calls_are) good;
}

-- one net more
pub net_longer : (nets : List (List ℕ)) (name : List ℕ) → length nets ≤ length (with_net nets name)
net_longer nets name = let fits = number_fits nets name in omega (arith, fits.length_then)

-- the nets of a device that is added are there
pub device_there : (nets : List (List ℕ)) (kind : Kind) (a b c : List ℕ) → IsLocal (length (with_nets nets a b c)) (local_device nets kind a b c)
device_there nets kind a b c =
    let n1 = with_net nets a in
    let n2 = with_net n1 b in
    let fits1 = number_fits nets a in
    let fits2 = number_fits n1 b in
    let fits3 = number_fits n2 c in
    record {
      drain = omega (arith, fits1.length_then, fits2.length_then, fits3.length_then);
      gate = omega (arith, fits2.length_then, fits3.length_then);
      source = omega (arith, fits3.length_then);
    }

-- one part more
pub part_added : (ports : ℕ) (nets : List (List ℕ)) (calls : List CallData) (parts : List Part) (name : List ℕ) (devices depth devices' depth' : ℕ) (p : Part)
    → IsDefinition (record { name = name; ports = ports; nets = nets; calls = calls; parts = parts; devices = devices; depth = depth })
    → IsPartOf (length nets) (length calls) p
    → IsDefinition (record { name = name; ports = ports; nets = nets; calls = calls; parts = parts ++ p ∷ []; devices = devices'; depth = depth' })
part_added ports nets calls parts name devices depth devices' depth' p is there = record {
  few_ports = is.few_ports;
  parts_are = AllByRecursion-append (IsPartOf (length nets) (length calls)) parts (p ∷ []) is.parts_are (there, tt);
  calls_are = is.calls_are;
}

-- three numbers of nets that are there
pub record IsThere (nets : List (List ℕ)) (x y z : ℕ) : Type 0 where
  pub first : x < length nets
  pub second : y < length nets
  pub third : z < length nets

-- three nets that are added in turn are there
pub three_there : (n0 n1 n2 n3 : List (List ℕ)) (a b c : List ℕ) (x y z : ℕ) → n1 ≡ with_net n0 a → n2 ≡ with_net n1 b → n3 ≡ with_net n2 c
    → x ≡ net_number n0 a → y ≡ net_number n1 b → z ≡ net_number n2 c → IsThere n3 x y z
three_there n0 n1 n2 n3 a b c x y z e1 e2 e3 fx fy fz =
    let fits1 = number_fits n0 a in
    let fits2 = number_fits n1 b in
    let fits3 = number_fits n2 c in
    let l1 = ap length e1 in
    let l2 = ap length e2 in
    let l3 = ap length e3 in
    record {
      first = omega (arith, fits1.length_then, fits2.length_then, fits3.length_then, l1, l2, l3, fx);
      second = omega (arith, fits2.length_then, fits3.length_then, l2, l3, fy);
      third = omega (arith, fits3.length_then, l3, fz);
    }

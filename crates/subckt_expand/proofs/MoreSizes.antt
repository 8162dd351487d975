-- A subcircuit by numbers goes on to stand for one by names: with one net, one device or one call more.
use Rattle.std.proofs.Common.{◌≡◌, ℕ, ◌+◌, ◌==◌, max, not, Bool, true, false, List, [], ◌∷◌, ◌++◌, filter, length, take, Some, refl, sym, ap, ◌∙◌, arith, append-nil}
use Rattle.std.proofs.lemmas.Bool.{eqb-true}
use Rattle.std.proofs.lemmas.List.Elements.{filter-append}
use Rattle.dom_base.specs.declared.kind.Kind.{Kind}
use Rattle.deck.specs.NamedDevices.{NamedDevice}
use Rattle.deck.specs.Nets.{net_name, with_net}
use Rattle.deck.specs.Subckts.{Single, Size, Subckt, SubcktPart, depth_over, devices_in, part_count, part_depth, size, size_named, sizes}
use Rattle.subckt_expand.specs.declared.part.Part.TheVariants.{Called as Calling}
use Rattle.subckt_expand.specs.Definitions.{CallData, DefinitionData, IsDefinition, named_call, with_call, with_device}
use Rattle.subckt_expand.specs.Live.{is_live, live}
use Rattle.subckt_expand.specs.StandsFor.{StandsFor}
use Rattle.subckt_expand.specs.Units.{names_of}
use Rattle.deck.proofs.Counts.{depth_push, sum_push}
use Rattle.subckt_expand.proofs.MoreParts.{subckt-with_call, subckt-with_device, subckt-with_net}

-- a subcircuit with one part more
abbrev pub with_part : Subckt → SubcktPart → Subckt
with_part s p = record { name = s.name; ports = s.ports; parts = s.parts ++ p ∷ [] }

size_more : (above : List Size) (s : Subckt) (p : SubcktPart)
    → size above (with_part s p) ≡ record { name = s.name; ports = length s.ports; devices = (size above s).devices + part_count above p; depth = max (size above s).depth (part_depth above p) }
size_more above s p =
    let devices = sum_push (part_count above) 0 s.parts p in
    let depth = depth_push (part_depth above) 0 s.parts p in
    λ i. record { name = s.name; ports = length s.ports; devices = devices i; depth = depth i }

live_more : (above : List Size) (s : Subckt) (p : SubcktPart) → live above (with_part s p) ≡ record { name = s.name; ports = s.ports; parts = filter (is_live above) s.parts ++ filter (is_live above) (p ∷ []) }
live_more above s p = let parts = filter-append (is_live above) s.parts (p ∷ []) in λ i. record { name = s.name; ports = s.ports; parts = parts i }

pub stands-net : (all : List DefinitionData) (ss : List Subckt) (d : DefinitionData) (s : Subckt) (name : List ℕ) → IsDefinition d → StandsFor all ss d s
    → StandsFor all ss (record d { nets = with_net d.nets name }) s
stands-net all ss d s name is stands = record { live_is = subckt-with_net (names_of all) d name is ∙ stands.live_is; size_is = stands.size_is }

pub stands-device : (all : List DefinitionData) (ss : List Subckt) (d : DefinitionData) (s : Subckt) (kind : Kind) (a b c : List ℕ) → IsDefinition d → StandsFor all ss d s
    → StandsFor all ss (with_device d kind a b c) (with_part s (Single (record { kind = kind; drain = a; gate = b; source = c })))
stands-device all ss d s kind a b c is stands =
    let device : NamedDevice (List ℕ) = record { kind = kind; drain = a; gate = b; source = c } in
    let old = stands.live_is in
    let none : max d.depth 0 ≡ d.depth = omega arith in
    let old_size = stands.size_is in
    record {
      live_is = subckt-with_device (names_of all) d kind a b c is
          ∙ (λ i. record { name = (old i).name; ports = (old i).ports; parts = (old i).parts ++ Single device ∷ [] }) ∙ sym (live_more (sizes ss) s (Single device));
      size_is = (λ i. record { name = d.name; ports = d.ports; devices = d.devices + 1; depth = sym none i })
          ∙ (λ i. record { name = (old_size i).name; ports = (old_size i).ports; devices = (old_size i).devices + 1; depth = max (old_size i).depth 0 }) ∙ sym (size_more (sizes ss) s (Single device));
    }

-- a call of a subcircuit of this size
pub stands-call : (all : List DefinitionData) (ss : List Subckt) (d : DefinitionData) (s : Subckt) (call : CallData) (z : Size) → IsDefinition d → StandsFor all ss d s
    → size_named (net_name (names_of all) call.unit) (sizes ss) ≡ Some z
    → StandsFor all ss (with_call d call z.devices z.depth) (with_part s (named_call (names_of all) d.nets call))
stands-call all ss d s call z is stands found = by (z.devices == 0) refl
  where
    part : SubcktPart
    part = named_call (names_of all) d.nets call

    count : part_count (sizes ss) part ≡ z.devices
    count = ap devices_in found

    deep : part_depth (sizes ss) part ≡ 1 + z.depth
    deep = ap depth_over found

    depth : max d.depth (z.depth + 1) ≡ max d.depth (1 + z.depth)
    depth = omega arith

    size_then : record { name = d.name; ports = d.ports; devices = d.devices + z.devices; depth = max d.depth (z.depth + 1) } ≡ size (sizes ss) (with_part s part)
    size_then =
        let old = stands.size_is in
        (λ i. record { name = d.name; ports = d.ports; devices = d.devices + sym count i; depth = (depth ∙ ap (max d.depth) (sym deep)) i })
        ∙ (λ i. record { name = (old i).name; ports = (old i).ports; devices = (old i).devices + part_count (sizes ss) part; depth = max (old i).depth (part_depth (sizes ss) part) })
        ∙ sym (size_more (sizes ss) s part)

    by : (b : Bool) → (z.devices == 0) ≡ b → StandsFor all ss (with_call d call z.devices z.depth) (with_part s part)
    by true e =
        let dead : is_live (sizes ss) part ≡ false = ap (λ n. not (n == 0)) count ∙ ap not e in
        let gone : filter (is_live (sizes ss)) (part ∷ []) ≡ [] = rw dead refl in
        let none : d.devices ≡ d.devices + z.devices = (let zero_is : z.devices ≡ 0 = eqb-true z.devices 0 e in omega (arith, zero_is)) in
        let same : live (sizes ss) (with_part s part) ≡ live (sizes ss) s =
        live_more (sizes ss) s part ∙ (λ i. record { name = s.name; ports = s.ports; parts = (ap (λ l. filter (is_live (sizes ss)) s.parts ++ l) gone ∙ append-nil (filter (is_live (sizes ss)) s.parts)) i }) in
        rw e (record {
          live_is = stands.live_is ∙ sym same;
          size_is = (λ i. record { name = d.name; ports = d.ports; devices = none i; depth = max d.depth (z.depth + 1) }) ∙ size_then;
        })
    by false e =
        let alive : is_live (sizes ss) part ≡ true = ap (λ n. not (n == 0)) count ∙ ap not e in
        let kept : filter (is_live (sizes ss)) (part ∷ []) ≡ part ∷ [] = rw alive refl in
        let more : DefinitionData = record d { calls = d.calls ++ call ∷ []; parts = d.parts ++ Calling (length d.calls) ∷ []; devices = d.devices + z.devices; depth = max d.depth (z.depth + 1) } in
        let parts = subckt-with_call (names_of all) d more call is refl refl in
        let old = stands.live_is in
        let same : live (sizes ss) (with_part s part) ≡ record { name = s.name; ports = s.ports; parts = filter (is_live (sizes ss)) s.parts ++ part ∷ [] } =
        live_more (sizes ss) s part ∙ ap (λ l. record { name = s.name; ports = s.ports; parts = filter (is_live (sizes ss)) s.parts ++ l }) kept in
        rw e (record {
          live_is = (λ i. record { name = d.name; ports = take d.ports d.nets; parts = parts i })
              ∙ (λ i. record { name = (old i).name; ports = (old i).ports; parts = (old i).parts ++ part ∷ [] }) ∙ sym same;
          size_is = size_then;
        })

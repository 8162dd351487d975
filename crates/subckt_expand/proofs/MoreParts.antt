-- A subcircuit by numbers, by names: one net, one device or one call more.
use Rattle.std.proofs.Common.{◌≡◌, ◌<◌, ◌≤◌, ℕ, zero, suc, List, [], ◌∷◌, ◌++◌, length, map, take, slice_index_or, refl, sym, ap, ap₂, ◌∙◌, arith, append-nil}
use Rattle.std.specs.List.{AllByRecursion}
use Rattle.std.proofs.lemmas.List.{map-append}
use Rattle.std.proofs.lemmas.Option.{get_or_from_slice_get}
use Rattle.dom_base.specs.declared.kind.Kind.{Kind}
use Rattle.dom_base.proofs.Lists.{slice_index_or-push}
use Rattle.deck.specs.Nets.{net_name, net_number, with_net, with_nets}
use Rattle.deck.specs.Subckts.{Single, Called}
use Rattle.deck.proofs.NetNumbers.{Longer, Longer-trans, net_number-kept, with_net-grows}
use Rattle.subckt_expand.specs.declared.part.Part.{Part}
use Rattle.subckt_expand.specs.declared.part.Part.TheVariants.{Own, Called as Calling}
use Rattle.subckt_expand.specs.Definitions.{CallData, DefinitionData, IsCallOf, IsDefinition, IsPartOf, local_device, named_call, named_local, named_part, no_call, subckt_of, with_device}
use Rattle.subckt_expand.proofs.MoreClosed.{all_index}
use Rattle.subckt_expand.proofs.Places.{index_or-append}

-- names of nets that stand there, in longer nets
names-longer : (nets more : List (List ℕ)) (xs : List ℕ) → AllByRecursion (λ net. net < length nets) xs → map (net_name (nets ++ more)) xs ≡ map (net_name nets) xs
names-longer nets more [] h = refl
names-longer nets more (x ∷ xs) h = ap₂ (λ a b. a ∷ b) (index_or-append nets more x [] h.0) (names-longer nets more xs h.1)

-- a part with more nets and more calls
part-longer : (names : List (List ℕ)) (d e : DefinitionData) (more : List (List ℕ)) (calls : List CallData) (p : Part) → e.nets ≡ d.nets ++ more → e.calls ≡ d.calls ++ calls
    → AllByRecursion (IsCallOf (length d.nets)) d.calls → IsPartOf (length d.nets) (length d.calls) p → named_part names e p ≡ named_part names d p
part-longer names d e more calls (Own device) nets_are calls_are good there =
    let drain : net_name e.nets device.drain ≡ net_name d.nets device.drain = ap (λ l. net_name l device.drain) nets_are ∙ index_or-append d.nets more device.drain [] there.drain in
    let gate : net_name e.nets device.gate ≡ net_name d.nets device.gate = ap (λ l. net_name l device.gate) nets_are ∙ index_or-append d.nets more device.gate [] there.gate in
    let source : net_name e.nets device.source ≡ net_name d.nets device.source = ap (λ l. net_name l device.source) nets_are ∙ index_or-append d.nets more device.source [] there.source in
    λ i. Single (record { kind = device.kind; drain = drain i; gate = gate i; source = source i })
part-longer names d e more calls (Calling index) nets_are calls_are good there =
    let call = slice_index_or d.calls index no_call in
    let same : slice_index_or e.calls index no_call ≡ call = ap (λ l. slice_index_or l index no_call) calls_are ∙ index_or-append d.calls calls index no_call there in
    let nets : map (net_name e.nets) call.nets ≡ map (net_name d.nets) call.nets =
    ap (λ l. map (net_name l) call.nets) nets_are ∙ names-longer d.nets more call.nets (all_index (IsCallOf (length d.nets)) d.calls index no_call good there) in
    ap (named_call names e.nets) same ∙ (λ i. Called (record { name = call.name; nets = nets i; unit = net_name names call.unit }))

parts-longer : (names : List (List ℕ)) (d e : DefinitionData) (more : List (List ℕ)) (calls : List CallData) (ps : List Part) → e.nets ≡ d.nets ++ more → e.calls ≡ d.calls ++ calls
    → AllByRecursion (IsCallOf (length d.nets)) d.calls → AllByRecursion (IsPartOf (length d.nets) (length d.calls)) ps → map (named_part names e) ps ≡ map (named_part names d) ps
parts-longer names d e more calls [] nets_are calls_are good there = refl
parts-longer names d e more calls (p ∷ ps) nets_are calls_are good there =
    ap₂ (λ a b. a ∷ b) (part-longer names d e more calls p nets_are calls_are good there.0) (parts-longer names d e more calls ps nets_are calls_are good there.1)

take-longer : (nets more : List (List ℕ)) (n : ℕ) → n ≤ length nets → take n (nets ++ more) ≡ take n nets
take-longer [] more zero le = refl
take-longer [] more (suc n) le = absurd (omega arith)
take-longer (x ∷ xs) more zero le = refl
take-longer (x ∷ xs) more (suc n) le = ap (λ l. x ∷ l) (take-longer xs more n (omega arith))

-- the ports with more nets
ports-longer : (d e : DefinitionData) (more : List (List ℕ)) → IsDefinition d → e.ports ≡ d.ports → e.nets ≡ d.nets ++ more → take e.ports e.nets ≡ take d.ports d.nets
ports-longer d e more is ports_are nets_are = ap₂ take ports_are nets_are ∙ take-longer d.nets more d.ports is.few_ports

-- one net more changes no name
pub subckt-with_net : (names : List (List ℕ)) (d : DefinitionData) (name : List ℕ) → IsDefinition d → subckt_of names (record d { nets = with_net d.nets name }) ≡ subckt_of names d
subckt-with_net names d name is =
    let grown = with_net-grows d.nets name in
    let e : DefinitionData = record d { nets = with_net d.nets name } in
    let ports = ports-longer d e grown.0 is refl grown.1 in
    let parts = parts-longer names d e grown.0 [] d.parts grown.1 (sym (append-nil d.calls)) is.calls_are is.parts_are in
    λ i. record { name = d.name; ports = ports i; parts = parts i }

nets-grow : (nets : List (List ℕ)) (a b c : List ℕ) → Longer nets (with_nets nets a b c)
nets-grow nets a b c =
    Longer-trans nets (with_net (with_net nets a) b) (with_nets nets a b c) (Longer-trans nets (with_net nets a) (with_net (with_net nets a) b) (with_net-grows nets a) (with_net-grows (with_net nets a) b))
    (with_net-grows (with_net (with_net nets a) b) c)

-- a net that was numbered has its name in longer nets
pub name-kept : (old new : List (List ℕ)) (name : List ℕ) → Longer (with_net old name) new → net_name new (net_number old name) ≡ name
name-kept old new name longer =
    let kept = net_number-kept old new name longer in
    ap (net_name new) kept.0 ∙ get_or_from_slice_get new (net_number new name) name [] kept.1

-- a device by its numbers is that device
local-named : (nets : List (List ℕ)) (kind : Kind) (a b c : List ℕ) → named_local (with_nets nets a b c) (local_device nets kind a b c) ≡ record { kind = kind; drain = a; gate = b; source = c }
local-named nets kind a b c =
    let n1 = with_net nets a in
    let n2 = with_net n1 b in
    let n3 = with_net n2 c in
    let drain = name-kept nets n3 a (Longer-trans n1 n2 n3 (with_net-grows n1 b) (with_net-grows n2 c)) in
    let gate = name-kept n1 n3 b (with_net-grows n2 c) in
    let source = name-kept n2 n3 c ([], sym (append-nil n3)) in
    λ i. record { kind = kind; drain = drain i; gate = gate i; source = source i }

-- one device more
pub subckt-with_device : (names : List (List ℕ)) (d : DefinitionData) (kind : Kind) (a b c : List ℕ) → IsDefinition d
    → subckt_of names (with_device d kind a b c) ≡ record { name = d.name; ports = take d.ports d.nets; parts = map (named_part names d) d.parts ++ Single (record { kind = kind; drain = a; gate = b; source = c }) ∷ [] }
subckt-with_device names d kind a b c is =
    let grown = nets-grow d.nets a b c in
    let e = with_device d kind a b c in
    let ports = ports-longer d e grown.0 is refl grown.1 in
    let first = parts-longer names d e grown.0 [] d.parts grown.1 (sym (append-nil d.calls)) is.calls_are is.parts_are in
    let parts = map-append (named_part names e) d.parts (Own (local_device d.nets kind a b c) ∷ [])
    ∙ ap₂ (λ l x. l ++ Single x ∷ []) first (local-named d.nets kind a b c) in
    λ i. record { name = d.name; ports = ports i; parts = parts i }

-- one call more
pub subckt-with_call : (names : List (List ℕ)) (d e : DefinitionData) (call : CallData) → IsDefinition d → e.nets ≡ d.nets → e.calls ≡ d.calls ++ call ∷ []
    → map (named_part names e) (d.parts ++ Calling (length d.calls) ∷ []) ≡ map (named_part names d) d.parts ++ named_call names d.nets call ∷ []
subckt-with_call names d e call is nets_are calls_are =
    let first = parts-longer names d e [] (call ∷ []) d.parts (nets_are ∙ sym (append-nil d.nets)) calls_are is.calls_are is.parts_are in
    let last : slice_index_or e.calls (length d.calls) no_call ≡ call = ap (λ l. slice_index_or l (length d.calls) no_call) calls_are ∙ slice_index_or-push d.calls call no_call in
    map-append (named_part names e) d.parts (Calling (length d.calls) ∷ [])
    ∙ ap₂ (λ l x. l ++ x ∷ []) first (ap₂ (λ nets x. named_call names nets x) nets_are last)

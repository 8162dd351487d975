-- The devices of a call are those of the called subcircuit, by the names that its nets have in the end.
use Rattle.std.proofs.Common.{◌≡◌, ◌<◌, ◌≤◌, ℕ, suc, ◌+◌, List, [], ◌∷◌, ◌++◌, length, map, find, slice_index_or, refl, sym, ap, ◌∙◌, arith, nat_eq}
use Rattle.std.specs.List.{IsDistinct}
use Rattle.std.specs.Cmp.Lexicographic.{pointwise}
use Rattle.deck.specs.NamedDevices.{NamedDevice, map_device}
use Rattle.deck.specs.Nets.{net_name}
use Rattle.deck.specs.Subckts.{Expansion, call_devices, expansions, passed_net}
use Rattle.subckt_expand.specs.declared.part.Part.TheVariants.{Called as Calling}
use Rattle.subckt_expand.specs.Definitions.{CallData, DefinitionData, named_part, no_call, port_names}
use Rattle.subckt_expand.specs.Units.{definition_at, expansion_at, names_of, subckts_before}
use Rattle.subckt_expand.specs.Frames.{call_at, definition_of, name_at, outer_name, unit_of}
use Rattle.subckt_expand.proofs.FoundCalls.{found_call}
use Rattle.subckt_expand.proofs.LevelNames.{call_at-push, name_at-more, unit_of-more}
use Rattle.subckt_expand.proofs.PartsMade.{devices_of_part}

-- devices renamed twice
pub map_twice : (f g : List ℕ → List ℕ) (ds : List (NamedDevice (List ℕ))) → map (map_device f) (map (map_device g) ds) ≡ map (map_device (λ name. f (g name))) ds
map_twice f g [] = refl
map_twice f g (d ∷ ds) = ap (λ l. map_device f (map_device g d) ∷ l) (map_twice f g ds)

-- the name of a net at the level of one call more
name_at-push : (all : List DefinitionData) (main : ℕ) (calls : List CallData) (call : CallData) (own : List ℕ)
    → name_at all main (calls ++ call ∷ []) (length calls + 1) own
    ≡ name_at all main calls (length calls) (outer_name (definition_of all main calls (length calls)) call (definition_at all call.unit) own)
name_at-push all main calls call own =
    let more = calls ++ call ∷ [] in
    let next : length calls + 1 ≡ suc (length calls) = omega arith in
    let caller : definition_of all main more (length calls) ≡ definition_of all main calls (length calls) = ap (definition_at all) (unit_of-more main calls (call ∷ []) (length calls) (omega arith)) in
    let last = call_at-push calls call in
    let outer : outer_name (definition_of all main more (length calls)) (call_at more (length calls)) (definition_at all (call_at more (length calls)).unit) own
    ≡ outer_name (definition_of all main calls (length calls)) call (definition_at all call.unit) own =
    (λ i. outer_name (caller i) (last i) (definition_at all (last i).unit) own) in
    ap (λ n. name_at all main more n own) next
    ∙ ap (name_at all main more (length calls)) outer
    ∙ name_at-more all main calls (call ∷ []) (length calls) _ (omega arith)

pub call-made : (all : List DefinitionData) (main : ℕ) (calls : List CallData) (unit index : ℕ) (call : CallData)
    → IsDistinct (pointwise nat_eq) (names_of all) → unit ≡ unit_of main calls (length calls) → slice_index_or (definition_at all unit).calls index no_call ≡ call
    → call.unit < unit → unit ≤ length all
    → devices_of_part (name_at all main calls (length calls)) (expansions (subckts_before all unit)) (named_part (names_of all) (definition_at all unit)) (Calling index)
    ≡ map (map_device (name_at all main (calls ++ call ∷ []) (length calls + 1))) (expansion_at all call.unit).devices
call-made all main calls unit index call apart here at below le =
    let g = name_at all main calls (length calls) in
    let es = expansions (subckts_before all unit) in
    let caller = definition_at all unit in
    let devices = (expansion_at all call.unit).devices in
    let passed : List ℕ → List ℕ = passed_net call.name (port_names (definition_at all call.unit)) (map (net_name caller.nets) call.nets) in
    let found = found_call all unit call.unit apart below le in
    let renamed : (own : List ℕ) → g (passed own) ≡ name_at all main (calls ++ call ∷ []) (length calls + 1) own =
    (λ own. ap (λ n. g (outer_name (definition_at all n) call (definition_at all call.unit) own)) here ∙ sym (name_at-push all main calls call own)) in
    ap (λ (c : CallData). map (map_device g) (call_devices (record { name = c.name; nets = map (net_name caller.nets) c.nets; unit = net_name (names_of all) c.unit })
    (find (λ (e : Expansion). pointwise nat_eq (net_name (names_of all) c.unit) e.name) es))) at
    ∙ ap (λ o. map (map_device g) (call_devices (record { name = call.name; nets = map (net_name caller.nets) call.nets; unit = net_name (names_of all) call.unit }) o)) found
    ∙ map_twice g passed devices
    ∙ ap (λ (f : List ℕ → List ℕ). map (map_device f) devices) (λ i own. renamed own i)

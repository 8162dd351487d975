-- Names of nets level by level: deeper calls change nothing at the levels before them.
use Rattle.std.proofs.Common.{◌≡◌, ◌<◌, ◌≤◌, ℕ, zero, suc, ◌-◌, List, [], ◌∷◌, ◌++◌, length, slice_index_or, refl, sym, ap, ◌∙◌, arith}
use Rattle.subckt_expand.specs.Definitions.{CallData, DefinitionData, no_call}
use Rattle.subckt_expand.specs.Units.{definition_at}
use Rattle.subckt_expand.specs.Frames.{call_at, definition_of, name_at, outer_name, unit_of}
use Rattle.std.proofs.Common.{map}
use Rattle.std.proofs.lemmas.List.{length-map}
use Rattle.dom_base.proofs.Lists.{slice_index_or-push}
use Rattle.deck.specs.Nets.{net_name, net_number}
use Rattle.subckt_expand.proofs.PassedNames.{passed_inner, passed_port}
use Rattle.subckt_expand.proofs.Places.{index_or-append, index_or-map}

pub call_at-more : (calls more : List CallData) (level : ℕ) → level < length calls → call_at (calls ++ more) level ≡ call_at calls level
call_at-more calls more level lt = index_or-append calls more level no_call lt

pub unit_of-more : (main : ℕ) (calls more : List CallData) (level : ℕ) → level ≤ length calls → unit_of main (calls ++ more) level ≡ unit_of main calls level
unit_of-more main calls more zero le = refl
unit_of-more main calls more (suc level) le = ap (λ (c : CallData). c.unit) (call_at-more calls more level (omega arith))

pub name_at-more : (all : List DefinitionData) (main : ℕ) (calls more : List CallData) (level : ℕ) (own : List ℕ) → level ≤ length calls
    → name_at all main (calls ++ more) level own ≡ name_at all main calls level own
name_at-more all main calls more zero own le = refl
name_at-more all main calls more (suc level) own le =
    let caller : definition_of all main (calls ++ more) level ≡ definition_of all main calls level = ap (definition_at all) (unit_of-more main calls more level (omega arith)) in
    let call = call_at-more calls more level (omega arith) in
    let called : definition_of all main (calls ++ more) (suc level) ≡ definition_of all main calls (suc level) = ap (definition_at all) (unit_of-more main calls more (suc level) le) in
    let outer : outer_name (definition_of all main (calls ++ more) level) (call_at (calls ++ more) level) (definition_of all main (calls ++ more) (suc level)) own
    ≡ outer_name (definition_of all main calls level) (call_at calls level) (definition_of all main calls (suc level)) own =
    (λ i. outer_name (caller i) (call i) (called i) own) in
    ap (name_at all main (calls ++ more) level) outer ∙ name_at-more all main calls more level _ (omega arith)

-- the last of some calls
pub call_at-push : (calls : List CallData) (call : CallData) → call_at (calls ++ call ∷ []) (length calls) ≡ call
call_at-push calls call = slice_index_or-push calls call no_call

-- one level outwards
pub unit_of-before : (main : ℕ) (calls : List CallData) (level : ℕ) → 0 < level → unit_of main calls level ≡ (call_at calls (level - 1)).unit
unit_of-before main calls zero lt = absurd (omega arith)
unit_of-before main calls (suc level) lt = let back : suc level - 1 ≡ level = omega arith in sym (ap (λ n. (call_at calls n).unit) back)

pub name_at-before : (all : List DefinitionData) (main : ℕ) (calls : List CallData) (level : ℕ) (own : List ℕ) → 0 < level
    → name_at all main calls level own
    ≡ name_at all main calls (level - 1) (outer_name (definition_of all main calls (level - 1)) (call_at calls (level - 1)) (definition_at all (call_at calls (level - 1)).unit) own)
name_at-before all main calls zero own lt = absurd (omega arith)
name_at-before all main calls (suc level) own lt =
    let back : suc level - 1 ≡ level = omega arith in
    sym (ap (λ n. name_at all main calls n (outer_name (definition_of all main calls n) (call_at calls n) (definition_at all (call_at calls n).unit) own)) back)

-- a port has the name of the net that is passed
pub outer_port : (caller : DefinitionData) (call : CallData) (called : DefinitionData) (own : List ℕ) (port : ℕ) → port ≡ net_number called.nets own → port < called.ports
    → called.ports ≤ length called.nets → length call.nets ≡ called.ports
    → outer_name caller call called own ≡ net_name caller.nets (slice_index_or call.nets port 0)
outer_port caller call called own port is low few same =
    passed_port call.name called.nets called.ports (map (net_name caller.nets) call.nets) own
    (omega (arith, same, length-map call.nets (net_name caller.nets))) (omega (arith, is, low)) (omega (arith, is, low, few))
    ∙ ap (net_name (map (net_name caller.nets) call.nets)) (sym is)
    ∙ index_or-map (net_name caller.nets) call.nets port 0 [] (omega (arith, same, low))

-- any other net has the name of an inner net
pub outer_inner : (caller : DefinitionData) (call : CallData) (called : DefinitionData) (own : List ℕ) → called.ports ≤ net_number called.nets own
    → outer_name caller call called own ≡ call.name ++ 46 ∷ own
outer_inner caller call called own high = passed_inner call.name called.nets called.ports (map (net_name caller.nets) call.nets) own high

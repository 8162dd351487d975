-- A net at a level, outwards.
use Rattle.std.proofs.Common.{◌≡◌, ◌<◌, ◌≤◌, ℕ, ◌-◌, false, ◌⊎◌, inl, inr, Option, Some, None, List, ◌∷◌, ◌++◌, [], length, map, slice_index_or, sym, ap, ◌∙◌, subst, arith, Bor}
use Rattle.std.proofs.lemmas.List.{append_assoc, get_or_read, length-map}
use Rattle.deck.specs.Nets.{net_number}
use Rattle.deck.proofs.KnownNumbers.{known_number}
use Rattle.subckt_expand.specs.Definitions.{CallData, DefinitionData, has_dotted, no_call, port_names}
use Rattle.subckt_expand.specs.Units.{UnitData, definition_at, definitions}
use Rattle.subckt_expand.specs.declared.part.LevelName.{LevelName}
use Rattle.subckt_expand.specs.declared.part.Outer.TheVariants.{Net, Name}
use Rattle.subckt_expand.specs.Frames.{ExpandingData, IsExpanding, IsOuter, IsPortAt, IsWayOut, call_at, definition_of, end_name, name_at, no_way, unit_of}
use Rattle.subckt_expand.proofs.DottedNames.{dot_inside, dotted_high}
use Rattle.subckt_expand.proofs.Kept.{slot_read, unit_there}
use Rattle.subckt_expand.proofs.LevelNames.{call_at-push, name_at-before, name_at-more, outer_inner, outer_port, unit_of-before}
use Rattle.subckt_expand.proofs.MoreClosed.{all_index}
use Rattle.subckt_expand.proofs.Places.{index_or-map}

module _ (e : ExpandingData) (is : IsExpanding e) (level : ℕ) (inside : 0 < level) (le : level ≤ length e.calls) where
  abbrev all : List DefinitionData
  all = definitions e.units

  abbrev call : CallData
  call = call_at e.calls (level - 1)

  abbrev called : DefinitionData
  called = definition_at all call.unit

  lower : level - 1 < length e.calls
  lower = omega (arith, inside, le)

  -- the call is of a closed subcircuit
  pub called_there : call.unit < length e.units
  called_there =
      let count : length all ≡ length e.units = length-map e.units (λ (u : UnitData). u.definition) in
      omega (arith, (is.entered (level - 1) lower).below.below, count)

  pub ports_passed : length call.nets ≡ called.ports
  ports_passed = (is.entered (level - 1) lower).below.passed

  -- a port is the net that is passed
  pub passed_out : (own : List ℕ) (port : ℕ) → port ≡ net_number called.nets own → port < called.ports
      → name_at all e.main e.calls level own ≡ end_name e (level - 1) (slice_index_or call.nets port 0)
  passed_out own port port_is low =
      let closed = is.units.closed.each call.unit ((is.entered (level - 1) lower).below.below) in
      name_at-before all e.main e.calls level own inside
      ∙ ap (name_at all e.main e.calls (level - 1))
      (outer_port (definition_of all e.main e.calls (level - 1)) call called own port port_is low (closed.whole).few_ports ports_passed)

  pub passed_there : (port : ℕ) → port < called.ports → slice_index_or call.nets port 0 < length (definition_of all e.main e.calls (level - 1)).nets
  passed_there port low =
      all_index (λ (net : ℕ). net < length (definition_of all e.main e.calls (level - 1)).nets) call.nets port 0 (is.entered (level - 1) lower).nets (omega (arith, low, ports_passed))

  -- any other net is an inner net of the call
  pub inner_out : (own : List ℕ) → called.ports ≤ net_number called.nets own
      → name_at all e.main e.calls level own ≡ name_at all e.main e.calls (level - 1) (call.name ++ 46 ∷ own)
  inner_out own high =
      name_at-before all e.main e.calls level own inside
      ∙ ap (name_at all e.main e.calls (level - 1)) (outer_inner (definition_of all e.main e.calls (level - 1)) call called own high)

  -- the subcircuit of the level
  pub called_at : definition_of all e.main e.calls level ≡ called
  called_at = ap (definition_at all) (unit_of-before e.main e.calls level inside)

  -- what a port is outwards, where the call was read
  pub outer_net : (call' : CallData) (own : List ℕ) (port net : ℕ) → call' ≡ call
      → port ≡ net_number (definition_of all e.main e.calls level).nets own → port < (definition_of all e.main e.calls level).ports
      → net ≡ slice_index_or call'.nets port net → IsOuter e level own (Net net)
  outer_net call' own port net call_is port_is low net_is =
      let low_port : port < called.ports = subst (λ (d : DefinitionData). port < d.ports) called_at low in
      let number : port ≡ net_number called.nets own = port_is ∙ ap (λ (d : DefinitionData). net_number d.nets own) called_at in
      let size = ap (λ (c : CallData). length c.nets) call_is in
      let passed : net ≡ slice_index_or call.nets port 0 =
      get_or_read call'.nets port net (omega (arith, low_port, ports_passed, size)) net_is 0 ∙ ap (λ (c : CallData). slice_index_or c.nets port 0) call_is in
      (subst (λ n. n < length (definition_of all e.main e.calls (level - 1)).nets) (sym passed) (passed_there port low_port), passed_out own port number low_port ∙ ap (end_name e (level - 1)) (sym passed))

  -- the way of the call of the level
  pub way_there : IsWayOut all e.main e.calls (level - 1) (slice_index_or e.ways (level - 1) no_way)
  way_there = is.ways_are (level - 1) lower

  -- what any other net is outwards, where the way of the call was read
  pub outer_named : (way : LevelName) (own name : List ℕ) → way ≡ slice_index_or e.ways (level - 1) way
      → (definition_of all e.main e.calls level).ports ≤ net_number (definition_of all e.main e.calls level).nets own
      → name ≡ way.name ++ 46 ∷ own → IsOuter e level own (Name (record { level = way.level; name = name }))
  outer_named way own name way_is high name_is =
      let here : way ≡ slice_index_or e.ways (level - 1) no_way = get_or_read e.ways (level - 1) way (omega (arith, lower, is.led)) way_is no_way in
      let leads = subst (IsWayOut all e.main e.calls (level - 1)) (sym here) way_there in (
        omega (arith, leads.outer, inside),
        inner_out own (subst (λ (d : DefinitionData). d.ports ≤ net_number d.nets own) called_at high)
            ∙ leads.same own ∙ ap (name_at all e.main e.calls way.level) (sym name_is),
      )

  -- a name with a `.` is no port where no port has one
  pub inner_high : (call' own : List ℕ) → has_dotted (port_names (definition_of all e.main e.calls level)) ≡ false → called.ports ≤ net_number called.nets (call' ++ 46 ∷ own)
  inner_high call' own none =
      let closed = is.units.closed.each call.unit ((is.entered (level - 1) lower).below.below) in
      dotted_high called.nets called.ports (call' ++ 46 ∷ own) (closed.whole).few_ports (sym (ap (λ (d : DefinitionData). has_dotted (port_names d)) called_at) ∙ none) (dot_inside call' own)

  -- the call of the level, as it is read
  pub call_read : (refs : List (Bor CallData)) (ref : Bor CallData) → map (λ (r : Bor CallData). r.now) refs ≡ e.calls → ref ≡ slice_index_or refs (level - 1) ref → ref.now ≡ call
  call_read refs ref same is_item =
      let value : Bor CallData → CallData = λ r. r.now in
      let low : level - 1 < length refs = omega (arith, lower, ap length same, length-map refs value) in
      ap value is_item ∙ sym (index_or-map value refs (level - 1) ref no_call low) ∙ ap (λ l. call_at l (level - 1)) same

-- a net of a level by its number: it is the port of this number, or an inner net
pub own_port : (e : ExpandingData) → IsExpanding e → (level : ℕ) → level ≤ length e.calls → (nets : List (List ℕ)) (net : ℕ) (own : List ℕ) (port : Option ℕ)
    → nets ≡ (definition_of (definitions e.units) e.main e.calls level).nets → own ≡ slice_index_or nets net own → net < length (definition_of (definitions e.units) e.main e.calls level).nets
    → ((port ≡ Some net) × (net < (definition_of (definitions e.units) e.main e.calls level).ports)) ⊎ ((port ≡ None) × ((definition_of (definitions e.units) e.main e.calls level).ports ≤ net))
    → IsPortAt e level own port
own_port e is level le nets net own port same own_is low cases = elim cases [
  | inl h ↦ subst (IsPortAt e level own) (sym h.0) (sym number, h.1)
  | inr h ↦ subst (IsPortAt e level own) (sym h.0) (omega (arith, h.1, number))
]
  where
    here : DefinitionData
    here = definition_of (definitions e.units) e.main e.calls level

    count : length (definitions e.units) ≡ length e.units
    count = length-map e.units (λ (u : UnitData). u.definition)

    number : net_number here.nets own ≡ net
    number =
        let closed = is.units.closed.each (unit_of e.main e.calls level) (omega (arith, unit_there e is level le, count)) in
        known_number here.nets own net closed.apart (slot_read nets here.nets net own same low own_is)

-- the way of a call that is entered goes on that of the call before, where no port has a `.`
pub way_joined : (e : ExpandingData) → IsExpanding e → (entered : CallData) (way : LevelName) (level : ℕ) (name : List ℕ) → 0 < length e.calls
    → way ≡ slice_index_or e.ways (length e.calls - 1) way
    → has_dotted (port_names (definition_of (definitions e.units) e.main e.calls (length e.calls))) ≡ false
    → level ≡ way.level → name ≡ way.name ++ 46 ∷ entered.name
    → IsWayOut (definitions e.units) e.main (e.calls ++ entered ∷ []) (length e.calls) (record { level = level; name = name })
way_joined e is entered way level name inside way_is none level_is name_is = record {
  outer = omega (arith, leads.outer, level_is);
  same = λ own. (
      ap (λ (c : CallData). name_at all (e.main) more last (c.name ++ 46 ∷ own)) (call_at-push e.calls entered)
      ∙ name_at-more all e.main e.calls (entered ∷ []) last (entered.name ++ 46 ∷ own) (omega arith)
      ∙ inner_out e is last inside (omega arith) (entered.name ++ 46 ∷ own) (inner_high e is last inside (omega arith) entered.name own none)
      ∙ leads.same (entered.name ++ 46 ∷ own)
      ∙ ap (name_at all e.main e.calls way.level) (sym (ap (λ l. l ++ 46 ∷ own) name_is ∙ append_assoc way.name (46 ∷ entered.name) (46 ∷ own)))
      ∙ sym (name_at-more all e.main e.calls (entered ∷ []) way.level (name ++ 46 ∷ own) (omega (arith, leads.outer)))
      ∙ ap (λ n. name_at all e.main more n (name ++ 46 ∷ own)) (sym level_is));
}
  where
    all : List DefinitionData
    all = definitions e.units

    last : ℕ
    last = length e.calls

    more : List CallData
    more = e.calls ++ entered ∷ []

    here : way ≡ slice_index_or e.ways (last - 1) no_way
    here = get_or_read e.ways (last - 1) way (omega (arith, inside, is.led)) way_is no_way

    leads : IsWayOut all e.main e.calls (last - 1) way
    leads = subst (IsWayOut all e.main e.calls (last - 1)) (sym here) (way_there e is last inside (omega arith))

-- Numbers that are kept by slots are those of their nets.
use Rattle.std.proofs.Common.{◌≡◌, ◌<◌, ◌≤◌, ℕ, zero, suc, ◌+◌, false, List, [], ◌∷◌, ◌++◌, length, Some, None, Option, IfSome, Result, Ok, Err, OnOk, OnErr, set, slice_get, slice_index_or, ◌⊎◌, inl, inr, refl, sym, ap, ◌∙◌, subst, arith, nat_eq, length-append}
use Rattle.std.specs.List.{IsDistinct}
use Rattle.std.specs.Cmp.Lexicographic.{pointwise}
use Rattle.std.proofs.lemmas.List.{get_or_read, length-map, length-set}
use Rattle.std.proofs.lemmas.Option.{get_or_from_slice_get, slice_get-get_or}
use Rattle.deck.specs.declared.device.Device.{Device}
use Rattle.deck.specs.Nets.{net_name, with_net}
use Rattle.deck.proofs.KnownNumbers.{known_net, known_number}
use Rattle.deck.proofs.NetNumbers.{IsDistinct-with_net, with_net-grows}
use Rattle.dom_base.proofs.Lists.{slice_get-append, slice_index_or-push}
use Rattle.dom_base.proofs.Decided.{lt_or_ge}
use Rattle.subckt_expand.specs.Definitions.{CallData, DefinitionData, IsCallOf, has_dotted, no_definition, port_names}
use Rattle.subckt_expand.specs.Units.{AreUnits, HasSlots, IsCallBelow, IsDotted, UnitData, definition_at, definitions, no_unit, unit_at}
use Rattle.subckt_expand.specs.declared.part.LevelName.{LevelName}
use Rattle.subckt_expand.specs.Frames.{ExpandingData, IsEmpty, IsEntered, IsExpanding, IsNumberOf, IsWayOut, call_at, definition_of, end_name, name_at, no_way, slot_name, unit_of}
use Rattle.subckt_expand.proofs.LevelNames.{call_at-more, name_at-more, unit_of-more}
use Rattle.subckt_expand.proofs.MoreClosed.{all_index}
use Rattle.subckt_expand.proofs.Places.{index_or-append, index_or-map}
use Rattle.subckt_expand.proofs.Ways.{way_fewer, way_more}

-- the subcircuit at a level is one of those that were closed
pub unit_there : (e : ExpandingData) → IsExpanding e → (level : ℕ) → level ≤ length e.calls → unit_of e.main e.calls level < length e.units
unit_there e is zero le = is.main
unit_there e is (suc level) le =
    let count : length (definitions e.units) ≡ length e.units = length-map e.units (λ (u : UnitData). u.definition) in
    omega (arith, (is.entered level (omega arith)).below.below, count)

-- its definition and its slots
pub definition_there : (e : ExpandingData) → IsExpanding e → (level : ℕ) → level ≤ length e.calls
    → definition_of (definitions e.units) e.main e.calls level ≡ (unit_at e.units (unit_of e.main e.calls level)).definition
definition_there e is level le =
    index_or-map (λ (u : UnitData). u.definition) e.units (unit_of e.main e.calls level) no_unit no_definition (unit_there e is level le)

pub slots_there : (e : ExpandingData) → IsExpanding e → (level : ℕ) → level ≤ length e.calls → HasSlots (unit_at e.units (unit_of e.main e.calls level))
slots_there e is level le = all_index HasSlots e.units (unit_of e.main e.calls level) no_unit is.units.slots (unit_there e is level le)

-- the subcircuit at a level, where it was read
pub unit_read : (e : ExpandingData) → IsExpanding e → (level : ℕ) → level ≤ length e.calls → (units : List UnitData) (place : ℕ) (read : UnitData) → units ≡ e.units
    → place ≡ unit_of e.main e.calls level → read ≡ slice_index_or units place read → read ≡ unit_at e.units (unit_of e.main e.calls level)
unit_read e is level le units place read same place_is is_item =
    let count = ap length same in
    get_or_read units place read (omega (arith, unit_there e is level le, place_is, count)) is_item no_unit ∙ (λ i. unit_at (same i) (place_is i))

pub definition_here : (e : ExpandingData) → IsExpanding e → (level : ℕ) → level ≤ length e.calls → (read : UnitData) → read ≡ unit_at e.units (unit_of e.main e.calls level)
    → read.definition ≡ definition_of (definitions e.units) e.main e.calls level
definition_here e is level le read here = ap (λ (u : UnitData). u.definition) here ∙ sym (definition_there e is level le)

-- where none of its ports has a `.`
pub undotted : (e : ExpandingData) → IsExpanding e → (level : ℕ) → level ≤ length e.calls → (read : UnitData) → read ≡ unit_at e.units (unit_of e.main e.calls level)
    → read.dotted ≡ false → has_dotted (port_names (definition_of (definitions e.units) e.main e.calls level)) ≡ false
undotted e is level le read here none =
    let known = all_index IsDotted e.units (unit_of e.main e.calls level) no_unit is.units.dots (unit_there e is level le) in
    ap (λ (d : DefinitionData). has_dotted (port_names d)) (definition_there e is level le) ∙ sym known ∙ ap (λ (u : UnitData). u.dotted) (sym here) ∙ none

-- a net has the slot that it is given
pub slot_is : (e : ExpandingData) → IsExpanding e → (level net : ℕ) (o : Option ℕ) → level ≤ length e.calls
    → slice_get (unit_at e.units (unit_of e.main e.calls level)).slots.of_net net ≡ Some o → IfSome o (λ slot. slot_name e level slot ≡ end_name e level net)
slot_is e is level net None le at = tt
slot_is e is level net (Some slot) le at = ap (end_name e level) (get_or_from_slice_get _ slot net 0 ((slots_there e is level le).0.back net slot at))

-- what was read at a place of a list stands there
pub slot_read : {X : Type 0} (items of_net : List X) (net : ℕ) (read : X) → items ≡ of_net → net < length of_net → read ≡ slice_index_or items net read → slice_get of_net net ≡ Some read
slot_read items of_net net read same lt is_item =
    let size = ap length same in
    sym (ap (λ l. slice_get l net) same) ∙ slice_get-get_or items net read (omega (arith, lt, size)) ∙ ap Some (sym is_item)

-- a net that stands at a number has it, and is not added again
pub number_there : (nets : List (List ℕ)) (name : List ℕ) (number : ℕ) → IsDistinct (pointwise nat_eq) nets → slice_get nets number ≡ Some name → IsNumberOf nets name number
number_there nets name number apart at = record { number_is = sym (known_number nets name number apart at); nets_are = known_net nets name number apart at }

-- what is kept for a slot is its number
pub kept_is : (e : ExpandingData) → IsExpanding e → (level slot : ℕ) (o : Option ℕ) → level ≤ length e.calls
    → IfSome o (λ number. slice_get (slice_index_or e.numbers level []) slot ≡ Some (Some number)) → IfSome o (λ number. IsNumberOf e.nets (slot_name e level slot) number)
kept_is e is level slot None le at = tt
kept_is e is level slot (Some number) le at = number_there e.nets (slot_name e level slot) number is.apart (is.kept level slot number le at)

-- other devices
pub more_devices : (e : ExpandingData) (devices : List Device) → IsExpanding e → IsExpanding (record e { devices = devices })
more_devices e devices is = record { units = is.units; main = is.main; rows = is.rows; entered = is.entered; led = is.led; ways_are = is.ways_are; apart = is.apart; kept = is.kept }

-- more nets
pub more_nets : (e : ExpandingData) (name : List ℕ) → IsExpanding e → IsExpanding (record e { nets = with_net e.nets name })
more_nets e name is = record {
  units = is.units;
  main = is.main;
  rows = is.rows;
  entered = is.entered;
  led = is.led;
  ways_are = is.ways_are;
  apart = IsDistinct-with_net e.nets name is.apart;
  kept = λ level slot number le at.
      let grown = with_net-grows e.nets name in
      subst (λ l. slice_get l number ≡ Some (slot_name e level slot)) (sym grown.1) (slice_get-append e.nets grown.0 number (slot_name e level slot) (is.kept level slot number le at));
}

-- a net that was numbered, or no memory was left for it
pub numbered : {X E : Type 0} (e : ExpandingData) (name : List ℕ) (nets : List (List ℕ)) (r : Result X E) → OnOk r (nets ≡ with_net e.nets name) → OnErr r (nets ≡ e.nets)
    → IsExpanding e → IsExpanding (record e { nets = nets })
numbered e name nets (Ok x) ok err is = subst (λ l. IsExpanding (record e { nets = l })) (sym ok) (more_nets e name is)
numbered e name nets (Err x) ok err is = subst (λ l. IsExpanding (record e { nets = l })) (sym err) is

-- an item of a list in which one was set
pub set_cases : {X : Type 0} (xs : List X) (i j : ℕ) (y z : X) → slice_get (set xs i y) j ≡ Some z → ((j ≡ i) × (z ≡ y)) ⊎ (slice_get xs j ≡ Some z)
set_cases [] i j y z at = inr at
set_cases (x ∷ xs) zero zero y z at = inl (refl, (let same : y ≡ z = cc in sym same))
set_cases (x ∷ xs) zero (suc j) y z at = inr at
set_cases (x ∷ xs) (suc i) zero y z at = inr at
set_cases (x ∷ xs) (suc i) (suc j) y z at = elim (set_cases xs i j y z at) [ inl h ↦ inl (ap suc h.0, h.1) | inr h ↦ inr h ]

index_cases : {X : Type 0} (xs : List X) (i j : ℕ) (y d : X) → ((j ≡ i) × (slice_index_or (set xs i y) j d ≡ y)) ⊎ (slice_index_or (set xs i y) j d ≡ slice_index_or xs j d)
index_cases [] i j y d = inr refl
index_cases (x ∷ xs) zero zero y d = inl (refl, refl)
index_cases (x ∷ xs) zero (suc j) y d = inr refl
index_cases (x ∷ xs) (suc i) zero y d = inr refl
index_cases (x ∷ xs) (suc i) (suc j) y d = elim (index_cases xs i j y d) [ inl h ↦ inl (ap suc h.0, h.1) | inr h ↦ inr h ]

-- one number more is kept
pub keep_is : (e : ExpandingData) (level slot number : ℕ) → IsExpanding e → slice_get e.nets number ≡ Some (slot_name e level slot)
    → IsExpanding (record e { numbers = set e.numbers level (set (slice_index_or e.numbers level []) slot (Some number)) })
keep_is e level slot number is new = record {
  units = is.units;
  main = is.main;
  rows = length-set e.numbers level row ∙ is.rows;
  entered = is.entered;
  led = is.led;
  ways_are = is.ways_are;
  apart = is.apart;
  kept = λ other place kept le at. by other place kept le at (index_cases e.numbers level other row []);
}
  where
    row : List (Option ℕ)
    row = set (slice_index_or e.numbers level []) slot (Some number)

    at_row : (place kept : ℕ) → level ≤ length e.calls → slice_get row place ≡ Some (Some kept) → slice_get e.nets kept ≡ Some (slot_name e level place)
    at_row place kept le at = elim (set_cases (slice_index_or e.numbers level []) slot place (Some number) (Some kept) at) [
      | inl h ↦ (let same : kept ≡ number = cc in
          ap (slice_get e.nets) same ∙ new ∙ ap (λ s. Some (slot_name e level s)) (sym h.0))
      | inr h ↦ is.kept level place kept le h
    ]

    by : (other place kept : ℕ) → other ≤ length e.calls → slice_get (slice_index_or (set e.numbers level row) other []) place ≡ Some (Some kept)
        → ((other ≡ level) × (slice_index_or (set e.numbers level row) other [] ≡ row)) ⊎ (slice_index_or (set e.numbers level row) other [] ≡ slice_index_or e.numbers other [])
        → slice_get e.nets kept ≡ Some (slot_name e other place)
    by other place kept le at (inl h) =
        subst (λ n. slice_get e.nets kept ≡ Some (slot_name e n place)) (sym h.0)
        (at_row place kept (subst (λ n. n ≤ length e.calls) h.0 le) (sym (ap (λ l. slice_get l place) h.1) ∙ at))
    by other place kept le at (inr h) = is.kept other place kept le (sym (ap (λ l. slice_get l place) h) ∙ at)

-- at first no number is kept
pub start_is : (units : List UnitData) (main : ℕ) (row : List (Option ℕ)) (nets : List (List ℕ)) → AreUnits units → main < length units → IsEmpty row → IsDistinct (pointwise nat_eq) nets
    → IsExpanding (record { units = units; main = main; calls = []; ways = []; numbers = row ∷ []; nets = nets; devices = [] })
start_is units main row nets are lt empty apart = record {
  units = are;
  main = lt;
  rows = refl;
  entered = λ level below. absurd (omega (arith, below));
  led = refl;
  ways_are = λ level below. absurd (omega (arith, below));
  apart = apart;
  kept = λ level slot number le at. (
      let first : level ≡ 0 = omega (arith, le) in
      absurd (empty slot number (subst (λ n. slice_get (slice_index_or (row ∷ []) n []) slot ≡ Some (Some number)) first at)));
}

-- a call more is entered: at its level nothing is kept yet
pub enter_is : (e : ExpandingData) (call : CallData) (way : LevelName) (fresh : List (Option ℕ)) → IsExpanding e
    → IsEntered (definitions e.units) e.main (e.calls ++ call ∷ []) (length e.calls)
    → IsWayOut (definitions e.units) e.main (e.calls ++ call ∷ []) (length e.calls) way → IsEmpty fresh
    → IsExpanding (record e { calls = e.calls ++ call ∷ []; ways = e.ways ++ way ∷ []; numbers = e.numbers ++ fresh ∷ [] })
enter_is e call way fresh is enters leads none = record {
  units = is.units;
  main = is.main;
  rows = omega (arith, is.rows, long, length-append e.numbers (fresh ∷ []));
  entered = λ level lt. entered_by level lt (lt_or_ge level (length e.calls));
  led = omega (arith, is.led, long, length-append e.ways (way ∷ []));
  ways_are = λ level lt. way_by level lt (lt_or_ge level (length e.calls));
  apart = is.apart;
  kept = λ level slot number le at. kept_by level slot number le at (lt_or_ge level (length e.calls + 1));
}
  where
    numbers : List (List (Option ℕ))
    numbers = e.numbers ++ fresh ∷ []

    same : (level : ℕ) → level ≤ length e.calls → slice_index_or numbers level [] ≡ slice_index_or e.numbers level []
    same level le = index_or-append e.numbers (fresh ∷ []) level [] (omega (arith, le, is.rows))

    last_row : slice_index_or numbers (length e.calls + 1) [] ≡ fresh
    last_row = ap (λ n. slice_index_or numbers n []) (sym is.rows) ∙ slice_index_or-push e.numbers fresh []

    more : List CallData
    more = e.calls ++ call ∷ []

    long : length more ≡ length e.calls + 1
    long = length-append e.calls (call ∷ [])

    there : (level : ℕ) → level ≤ length e.calls → definition_of (definitions e.units) e.main more level ≡ definition_of (definitions e.units) e.main e.calls level
    there level le = ap (definition_at (definitions e.units)) (unit_of-more e.main e.calls (call ∷ []) level le)

    entered_by : (level : ℕ) → level < length more → (level < length e.calls) ⊎ (length e.calls ≤ level) → IsEntered (definitions e.units) e.main more level
    entered_by level lt (inl before) =
        let old = is.entered level before in
        let at = call_at-more e.calls (call ∷ []) level before in
        record {
          below = subst (IsCallBelow (definitions e.units) (length (definitions e.units))) (sym at) old.below;
          nets = subst (λ (d : DefinitionData). IsCallOf (length d.nets) (call_at more level)) (sym (there level (omega (arith, before))))
              (subst (IsCallOf (length (definition_of (definitions e.units) e.main e.calls level).nets)) (sym at) old.nets);
        }
    entered_by level lt (inr behind) =
        let last : level ≡ length e.calls = omega (arith, lt, behind, long) in
        subst (IsEntered (definitions e.units) e.main more) (sym last) enters

    way_by : (level : ℕ) → level < length more → (level < length e.calls) ⊎ (length e.calls ≤ level) → IsWayOut (definitions e.units) e.main more level (slice_index_or (e.ways ++ way ∷ []) level no_way)
    way_by level lt (inl before) =
        subst (IsWayOut (definitions e.units) e.main more level) (sym (index_or-append e.ways (way ∷ []) level no_way (omega (arith, before, is.led))))
        (way_more (definitions e.units) e.main e.calls (call ∷ []) level (slice_index_or e.ways level no_way) before (is.ways_are level before))
    way_by level lt (inr behind) =
        let last : level ≡ length e.calls = omega (arith, lt, behind, long) in
        let at : slice_index_or (e.ways ++ way ∷ []) (length e.calls) no_way ≡ way = ap (λ n. slice_index_or (e.ways ++ way ∷ []) n no_way) (sym is.led) ∙ slice_index_or-push e.ways way no_way in
        subst (λ n. IsWayOut (definitions e.units) e.main more n (slice_index_or (e.ways ++ way ∷ []) n no_way)) (sym last)
        (subst (IsWayOut (definitions e.units) e.main more (length e.calls)) (sym at) leads)

    name_same : (level slot : ℕ) → level ≤ length e.calls → slot_name (record e { calls = more; ways = e.ways ++ way ∷ []; numbers = numbers }) level slot ≡ slot_name e level slot
    name_same level slot le =
        let unit = unit_of-more e.main e.calls (call ∷ []) level le in
        name_at-more (definitions e.units) e.main e.calls (call ∷ []) level _ le
        ∙ ap (λ n. name_at (definitions e.units) e.main e.calls level (net_name (definition_at (definitions e.units) n).nets (slice_index_or (unit_at e.units n).slots.nets slot 0))) unit

    kept_by : (level slot number : ℕ) → level ≤ length more → slice_get (slice_index_or numbers level []) slot ≡ Some (Some number)
        → (level < length e.calls + 1) ⊎ (length e.calls + 1 ≤ level) → slice_get e.nets number ≡ Some (slot_name (record e { calls = more; ways = e.ways ++ way ∷ []; numbers = numbers }) level slot)
    kept_by level slot number le at (inl before) =
        let low : level ≤ length e.calls = omega (arith, before) in
        is.kept level slot number low (sym (ap (λ l. slice_get l slot) (same level low)) ∙ at) ∙ ap Some (sym (name_same level slot low))
    kept_by level slot number le at (inr behind) =
        let last : level ≡ length e.calls + 1 = omega (arith, le, behind, long) in
        absurd (none slot number (sym (ap (λ n. slice_get (slice_index_or numbers n []) slot) last ∙ ap (λ l. slice_get l slot) last_row) ∙ at))

-- one call fewer
pub leave_is : (e : ExpandingData) (init more : List CallData) (ways left : List LevelName) (rows gone : List (List (Option ℕ)))
    → e.calls ≡ init ++ more → e.ways ≡ ways ++ left → e.numbers ≡ rows ++ gone
    → length more ≡ 1 → length left ≡ 1 → length gone ≡ 1 → IsExpanding e → IsExpanding (record e { calls = init; ways = ways; numbers = rows })
leave_is e init more ways left rows gone split led parted one one_way one_row is = record {
  units = is.units;
  main = is.main;
  rows = count;
  entered = λ level lt. (
      let old = subst (λ l. IsEntered (definitions e.units) e.main l level) split (is.entered level (omega (arith, lt, long))) in
      let at = call_at-more init more level lt in
      record {
        below = subst (IsCallBelow (definitions e.units) (length (definitions e.units))) at old.below;
        nets = subst (λ n. IsCallOf (length (definition_at (definitions e.units) n).nets) (call_at init level)) (unit_of-more e.main init more level (omega (arith, lt)))
            (subst (IsCallOf (length (definition_of (definitions e.units) e.main (init ++ more) level).nets)) at old.nets);
      });
  led = count_ways;
  ways_are = λ level lt. way_fewer (definitions e.units) e.main init more level (slice_index_or ways level no_way) lt
      (subst (IsWayOut (definitions e.units) e.main (init ++ more) level) (ap (λ l. slice_index_or l level no_way) led ∙ index_or-append ways left level no_way (omega (arith, lt, count_ways)))
      (subst (λ l. IsWayOut (definitions e.units) e.main l level (slice_index_or e.ways level no_way)) split (is.ways_are level (omega (arith, lt, long)))));
  apart = is.apart;
  kept = λ level slot number le at. (
      is.kept level slot number (omega (arith, le, long)) (ap (λ l. slice_get l slot) (same level le) ∙ at)
      ∙ ap (λ l. Some (name_at (definitions e.units) e.main l level
      (net_name (definition_of (definitions e.units) e.main l level).nets (slice_index_or (unit_at e.units (unit_of e.main l level)).slots.nets slot 0)))) split
      ∙ ap Some (name_at-more (definitions e.units) e.main init more level _ le)
      ∙ ap (λ n. Some (name_at (definitions e.units) e.main init level (net_name (definition_at (definitions e.units) n).nets (slice_index_or (unit_at e.units n).slots.nets slot 0))))
      (unit_of-more e.main init more level le));
}
  where
    long : length e.calls ≡ length init + length more
    long = ap length split ∙ length-append init more

    count_ways : length ways ≡ length init
    count_ways = let ways_long = ap length led ∙ length-append ways left in omega (arith, ways_long, long, one, one_way, is.led)

    count : length rows ≡ length init + 1
    count = let rows_long = ap length parted ∙ length-append rows gone in omega (arith, rows_long, long, one, one_row, is.rows)

    same : (level : ℕ) → level ≤ length init → slice_index_or e.numbers level [] ≡ slice_index_or rows level []
    same level le = ap (λ l. slice_index_or l level []) parted ∙ index_or-append rows gone level [] (omega (arith, le, count))

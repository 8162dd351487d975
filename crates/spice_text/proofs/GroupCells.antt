-- The cells of groups by the numbers of nets are those by the names of nets.
use Rattle.std.proofs.Common.{◌≡◌, ℕ, ◌<◌, ◌≤◌, ◌+◌, ◌-◌, ◌||◌, Bool, true, false, if◌then◌else◌, nat_eq, List, [], ◌∷◌, ◌++◌, map, length}
use Rattle.std.proofs.Common.{take, drop, codes, refl, ap, ap₂, sym, ◌∙◌, arith, append_assoc, append-nil, All}
use Rattle.std.specs.List.{AllByRecursion, IsDistinct, flat_map, enumerate_from, list_any, position_or_len}
use Rattle.std.specs.Cmp.Lexicographic.{pointwise, bytes_decides}
use Rattle.std.specs.Fmt.{decimal}
use Rattle.std.proofs.lemmas.Bool.Decides.{Decides-eqb}
use Rattle.std.proofs.lemmas.List.{take_all}
use Rattle.std.proofs.lemmas.List.Elements.{All-from_recursion, recursion_from_All}
use Rattle.dom_base.proofs.Bools.{same_truth}
use Rattle.dom_base.proofs.Lists.{AllByRecursion-append, AllByRecursion-take, AllByRecursion-drop, map-push}
use Rattle.deck.specs.declared.device.Device.{Device}
use Rattle.deck.specs.CircuitData.{CircuitData}
use Rattle.deck.specs.DeckText.{bare_circuit}
use Rattle.deck.specs.NamedDevices.{named_device, with_devices}
use Rattle.deck.specs.Nets.{IsInRange, net_name, net_number, with_net, with_nets}
use Rattle.deck.specs.Pushes.{added_device, pushed}
use Rattle.deck.proofs.NetNumbers.{net_number-take}
use Rattle.spice_text.specs.Text.{deck_line}
use Rattle.spice_text.specs.Cells.{supplies, groups_from, group_cell, group_shape, same_cell_shape, cell_name, call_line}
use Rattle.spice_text.specs.GroupNets.{with_number, place_of, with_ends, placed_device, nets_after, placed_devices, supply_numbers}
use Rattle.spice_text.specs.GroupNets.{group_nets, placed_group, placed_number, placed_call, placed_calls}

with_number_low : (bound n : ℕ) (nets : List ℕ) → n < bound → AllByRecursion (λ m. m < bound) nets
    → AllByRecursion (λ m. m < bound) (with_number nets n)
with_number_low bound n nets p low = by (list_any (nat_eq n) nets)
  where
    by : (b : Bool) → AllByRecursion (λ m. m < bound) (if b then nets else nets ++ n ∷ [])
    by true = low
    by false = AllByRecursion-append (λ m. m < bound) nets (n ∷ []) low (p, tt)

with_ends_low : (bound : ℕ) (nets : List ℕ) (d : Device) → AllByRecursion (λ m. m < bound) nets → IsInRange bound d
    → AllByRecursion (λ m. m < bound) (with_ends nets d)
with_ends_low bound nets d low is =
    with_number_low bound d.source _ is.source (with_number_low bound d.gate _ is.gate (with_number_low bound d.drain nets is.drain low))

nets_after_low : (bound : ℕ) (nets : List ℕ) (group : List Device) → AllByRecursion (λ m. m < bound) nets
    → AllByRecursion (IsInRange bound) group → AllByRecursion (λ m. m < bound) (nets_after nets group)
nets_after_low bound nets [] low is = low
nets_after_low bound nets (d ∷ ds) low is = nets_after_low bound (with_ends nets d) ds (with_ends_low bound nets d low is.0) is.1

-- the nets of a group of devices in range are in range
pub group_nets_low : (bound : ℕ) (group : List Device) → 2 ≤ bound → All (IsInRange bound) group → All (λ m. m < bound) (group_nets group)
group_nets_low bound group two is =
    All-from_recursion (λ m. m < bound) (group_nets group)
    (nets_after_low bound supply_numbers group (omega (arith, two), (omega (arith, two), tt))
    (recursion_from_All (IsInRange bound) group is))

supplies_same : (all : List (List ℕ)) → take 2 all ≡ supplies → (map (net_name all) supply_numbers ≡ supplies) × (2 ≤ length all)
supplies_same [] e = absurd (let count : 0 ≡ 2 = ap length e in omega arith)
supplies_same (x ∷ []) e = absurd (let count : 1 ≡ 2 = ap length e in omega arith)
supplies_same (x ∷ y ∷ more) e = (e, omega arith)

-- a circuit that begins with the supplies has two nets
pub two_nets : (all : List (List ℕ)) → take 2 all ≡ supplies → 2 ≤ length all
two_nets all begins = (supplies_same all begins).1

module _ (names : List (List ℕ)) (apart : IsDistinct (pointwise nat_eq) names) where
  abbrev IsLow : ℕ → Type 0
  IsLow n = n < length names

  own_number : (n : ℕ) → IsLow n → net_number names (net_name names n) ≡ n
  own_number n low =
      ap (λ l. net_number l (net_name names n)) (sym (take_all (length names) names (omega arith)))
      ∙ net_number-take names apart (length names) n (omega arith) low

  names_same : (a b : ℕ) → IsLow a → IsLow b → pointwise nat_eq (net_name names a) (net_name names b) ≡ nat_eq a b
  names_same a b p q =
      same_truth (pointwise nat_eq (net_name names a) (net_name names b)) (nat_eq a b)
      (λ h. (Decides-eqb a b).1 (sym (own_number a p) ∙ ap (net_number names) ((bytes_decides (net_name names a) (net_name names b)).0 h)
      ∙ own_number b q))
      (λ h. (bytes_decides (net_name names a) (net_name names b)).1 (ap (net_name names) ((Decides-eqb a b).0 h)))

  any_same : (n : ℕ) (nets : List ℕ) → IsLow n → AllByRecursion IsLow nets
      → list_any (pointwise nat_eq (net_name names n)) (map (net_name names) nets) ≡ list_any (nat_eq n) nets
  any_same n [] p low = refl
  any_same n (m ∷ ms) p low = ap₂ (λ a b. a || b) (names_same n m p low.0) (any_same n ms p low.1)

  place_same : (n : ℕ) (nets : List ℕ) → IsLow n → AllByRecursion IsLow nets → net_number (map (net_name names) nets) (net_name names n)
      ≡ place_of nets n
  place_same n [] p low = refl
  place_same n (m ∷ ms) p low = rw (names_same n m p low.0, place_same n ms p low.1) refl

  with_number_same : (n : ℕ) (nets : List ℕ) → IsLow n → AllByRecursion IsLow nets → with_net (map (net_name names) nets) (net_name names n)
      ≡ map (net_name names) (with_number nets n)
  with_number_same n nets p low = rw (any_same n nets p low) (by (list_any (nat_eq n) nets))
    where
      by : (b : Bool) → (if b then map (net_name names) nets else map (net_name names) nets ++ net_name names n ∷ [])
          ≡ map (net_name names) (if b then nets else nets ++ n ∷ [])
      by true = refl
      by false = sym (map-push (net_name names) nets n)

  ends_same : (nets : List ℕ) (d : Device) → AllByRecursion IsLow nets → IsInRange (length names) d
      → with_nets (map (net_name names) nets) (net_name names d.drain) (net_name names d.gate) (net_name names d.source)
      ≡ map (net_name names) (with_ends nets d)
  ends_same nets d low is =
      let a = with_number nets d.drain in
      let a_low = with_number_low (length names) d.drain nets is.drain low in
      let b = with_number a d.gate in
      let b_low = with_number_low (length names) d.gate a is.gate a_low in
      ap (λ l. with_net (with_net l (net_name names d.gate)) (net_name names d.source)) (with_number_same d.drain nets is.drain low)
      ∙ ap (λ l. with_net l (net_name names d.source)) (with_number_same d.gate a is.gate a_low)
      ∙ with_number_same d.source b is.source b_low

  added_same : (nets : List ℕ) (d : Device) → AllByRecursion IsLow nets → IsInRange (length names) d
      → added_device (map (net_name names) nets) d.kind (net_name names d.drain) (net_name names d.gate) (net_name names d.source)
      ≡ placed_device nets d
  added_same nets d low is =
      let a = with_number nets d.drain in
      let a_low = with_number_low (length names) d.drain nets is.drain low in
      let b = with_number a d.gate in
      let b_low = with_number_low (length names) d.gate a is.gate a_low in
      let a_same = with_number_same d.drain nets is.drain low in
      let drain = place_same d.drain nets is.drain low in
      let gate = ap (λ l. net_number l (net_name names d.gate)) a_same ∙ place_same d.gate a is.gate a_low in
      let source = ap (λ l. net_number (with_net l (net_name names d.gate)) (net_name names d.source)) a_same
      ∙ ap (λ l. net_number l (net_name names d.source)) (with_number_same d.gate a is.gate a_low)
      ∙ place_same d.source b is.source b_low in
      λ i. record { kind = d.kind; drain = drain i; gate = gate i; source = source i }

  cell_same : (c : CircuitData) (nets : List ℕ) (group : List Device) → AllByRecursion IsLow nets
      → AllByRecursion (IsInRange (length names)) group → c.nets ≡ map (net_name names) nets
      → ((with_devices c (map (named_device names) group)).nets ≡ map (net_name names) (nets_after nets group))
      × ((with_devices c (map (named_device names) group)).devices ≡ c.devices ++ placed_devices nets group)
  cell_same c nets [] low is e = (e, sym (append-nil c.devices))
  cell_same c nets (d ∷ ds) low is e =
      let f = net_name names in
      let rest = cell_same (pushed c d.kind (f d.drain) (f d.gate) (f d.source)) (with_ends nets d) ds
      (with_ends_low (length names) nets d low is.0) is.1
      (ap (λ l. with_nets l (f d.drain) (f d.gate) (f d.source)) e ∙ ends_same nets d low is.0) in
      let added = ap (λ l. added_device l d.kind (f d.drain) (f d.gate) (f d.source)) e ∙ added_same nets d low is.0 in (
        rest.0,
        rest.1 ∙ append_assoc c.devices (added_device c.nets d.kind (f d.drain) (f d.gate) (f d.source) ∷ [])
            (placed_devices (with_ends nets d) ds)
            ∙ ap (λ x. c.devices ++ x ∷ placed_devices (with_ends nets d) ds) added,
      )

  module _ (begins : take 2 names ≡ supplies) where
    -- the cell of a group
    pub group_same : (group : List Device) → AllByRecursion (IsInRange (length names)) group
        → ((group_cell names group).nets ≡ map (net_name names) (group_nets group)) × (group_shape names group ≡ placed_group group)
    group_same group is =
        let two = supplies_same names begins in
        cell_same (bare_circuit [] [] supplies) supply_numbers group (omega (arith, two.1), (omega (arith, two.1), tt)) is (sym two.0)

    -- the shapes of groups
    pub shapes_same : (groups : List (List Device)) → AllByRecursion (AllByRecursion (IsInRange (length names))) groups
        → map (group_shape names) groups ≡ map placed_group groups
    shapes_same [] is = refl
    shapes_same (group ∷ groups) is = ap₂ (λ s l. s ∷ l) (group_same group is.0).1 (shapes_same groups is.1)

    -- the calls of groups
    pub calls_same : (shapes : List (List Device)) (k : ℕ) (groups : List (List Device))
        → AllByRecursion (AllByRecursion (IsInRange (length names))) groups
        → placed_calls names shapes k groups ≡ flat_map (call_line names shapes) (enumerate_from k groups)
    calls_same shapes k [] is = refl
    calls_same shapes k (group ∷ groups) is =
        let same = group_same group is.0 in
        let line : placed_call names k (placed_number shapes group) group ≡ call_line names shapes (k, group) =
        ap₂ (λ l s. deck_line (codes "x" ++ decimal k) (l ++ cell_name (position_or_len (same_cell_shape s) shapes) ∷ [])) (sym same.0)
        (sym same.1) in
        ap₂ (λ a b. a ++ b) line (calls_same shapes (k + 1) groups is.1)

-- the groups of devices in range
pub groups_in_range : (bound start : ℕ) (places : List ℕ) (devices : List Device) → AllByRecursion (IsInRange bound) devices
    → AllByRecursion (AllByRecursion (IsInRange bound)) (groups_from start places devices)
groups_in_range bound start [] devices is = tt
groups_in_range bound start (place ∷ places) devices is = (
  AllByRecursion-take (IsInRange bound) (place - start) devices is,
  groups_in_range bound place places (drop (place - start) devices) (AllByRecursion-drop (IsInRange bound) (place - start) devices is),
)

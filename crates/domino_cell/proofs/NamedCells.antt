-- The nets of a tree and of a domino cell by the devices that end at them, and the numbers of nets given by name.
use Rattle.std.proofs.Common.{◌≡◌, ℕ, ◌+◌, ◌<◌, ◌≤◌, true, false, List, [], ◌∷◌, ◌++◌, map, refl, ap, subst, inl, inr, arith, nat_eq, Some, slice_get}
use Rattle.std.specs.Prelude.{◌⊎◌, Contains, codes}
use Rattle.std.specs.List.{starts_with, AllByRecursion}
use Rattle.std.proofs.lemmas.Bool.{cases_lt, lt-ltb, le-ltb}
use Rattle.std.proofs.lemmas.Option.{get_or_from_slice_get}
use Rattle.dom_base.specs.declared.kind.Kind.{Kind}
use Rattle.dom_base.specs.declared.kind.Kind.TheVariants.{N as nch}
use Rattle.deck.specs.declared.device.Device.{Device}
use Rattle.deck.specs.CircuitData.{CircuitData}
use Rattle.deck.specs.Nets.{net_number}
use Rattle.deck.specs.Sources.{is_source}
use Rattle.deck.specs.NamedDevices.{NamedDevice, device_of, map_device}
use Rattle.domino_cell.specs.NamedCell.{IsNumberedCell}
use Rattle.domino_cell.specs.Cell.{CellNets, cell, inverter}
use Rattle.sp_network.specs.Tree.{Tree, Leaf, Series, Parallel, inner_count}
use Rattle.domino_cell.specs.Spelling.{spell}
use Rattle.dom_base.proofs.Lists.{AllByRecursion-left, AllByRecursion-right, AllByRecursion-weaker, Contains-first, Contains-later}
use Rattle.deck.specs.NumberedDevices.{HasNumber, IsNumberedDevice, numbered_device}

-- the devices of a tree end at its bottom
spell-bottom : {Net : Type 0} (P : Net → Type 0) (kind : Kind) (inner : ℕ → Net) (t : Tree Net) (top bottom : Net) (k : ℕ)
    → AllByRecursion (λ c. P c.source) (spell kind inner t top bottom k) → P bottom
spell-bottom P kind inner (Leaf gate) top bottom k h = h.0
spell-bottom P kind inner (Series l r) top bottom k h =
    spell-bottom P kind inner r (inner k) bottom (k + 1 + inner_count l)
    (AllByRecursion-right (λ c. P c.source) (spell kind inner l top (inner k) (k + 1)) (spell kind inner r (inner k) bottom (k + 1 + inner_count l)) h)
spell-bottom P kind inner (Parallel l r) top bottom k h =
    spell-bottom P kind inner l top bottom k
    (AllByRecursion-left (λ c. P c.source) (spell kind inner l top bottom k) (spell kind inner r top bottom (k + inner_count l)) h)

-- they begin at its top
pub spell-top : {Net : Type 0} (P : Net → Type 0) (kind : Kind) (inner : ℕ → Net) (t : Tree Net) (top bottom : Net) (k : ℕ)
    → AllByRecursion (λ c. P c.drain) (spell kind inner t top bottom k) → P top
spell-top P kind inner (Leaf gate) top bottom k h = h.0
spell-top P kind inner (Series l r) top bottom k h =
    spell-top P kind inner l top (inner k) (k + 1)
    (AllByRecursion-left (λ c. P c.drain) (spell kind inner l top (inner k) (k + 1)) (spell kind inner r (inner k) bottom (k + 1 + inner_count l)) h)
spell-top P kind inner (Parallel l r) top bottom k h =
    spell-top P kind inner l top bottom k
    (AllByRecursion-left (λ c. P c.drain) (spell kind inner l top bottom k) (spell kind inner r top bottom (k + inner_count l)) h)

in_parallel : (k j m n : ℕ) → k ≤ j → j < k + (m + n) → ((k ≤ j) × (j < k + m)) ⊎ ((k + m ≤ j) × (j < k + m + n))
in_parallel k j m n low high = elim (cases_lt j (k + m)) [ inl lt ↦ inl (low, lt) | inr le ↦ inr (le, omega arith) ]

in_series : (k j m n : ℕ) → k ≤ j → j < k + (1 + (m + n)) → (k ≡ j) ⊎ (((k + 1 ≤ j) × (j < k + 1 + m)) ⊎ ((k + 1 + m ≤ j) × (j < k + 1 + m + n)))
in_series k j m n low high = elim (cases_lt k j) [ inl lt ↦ inr (in_parallel (k + 1) j m n (omega arith) (omega arith)) | inr le ↦ inl (omega arith) ]

-- and at each of its inner nets
pub spell-inner : {Net : Type 0} (P : Net → Type 0) (kind : Kind) (inner : ℕ → Net) (t : Tree Net) (top bottom : Net) (k j : ℕ)
    → AllByRecursion (λ c. P c.source) (spell kind inner t top bottom k) → k ≤ j → j < k + inner_count t → P (inner j)
spell-inner P kind inner (Leaf gate) top bottom k j h low high = absurd (omega arith)
spell-inner P kind inner (Series l r) top bottom k j h low high =
    let Q = λ (c : NamedDevice _). P c.source in
    let a = spell kind inner l top (inner k) (k + 1) in
    let b = spell kind inner r (inner k) bottom (k + 1 + inner_count l) in
    let front = AllByRecursion-left Q a b h in
    let back = AllByRecursion-right Q a b h in
    elim (in_series k j (inner_count l) (inner_count r) low high) [
      | inl e ↦ subst (λ m. P (inner m)) e (spell-bottom P kind inner l top (inner k) (k + 1) front)
      | inr (inl p) ↦ spell-inner P kind inner l top (inner k) (k + 1) j front p.0 p.1
      | inr (inr p) ↦ spell-inner P kind inner r (inner k) bottom (k + 1 + inner_count l) j back p.0 p.1
    ]
spell-inner P kind inner (Parallel l r) top bottom k j h low high =
    let Q = λ (c : NamedDevice _). P c.source in
    let a = spell kind inner l top bottom k in
    let b = spell kind inner r top bottom (k + inner_count l) in
    elim (in_parallel k j (inner_count l) (inner_count r) low high) [
      | inl p ↦ spell-inner P kind inner l top bottom k j (AllByRecursion-left Q a b h) p.0 p.1
      | inr p ↦ spell-inner P kind inner r top bottom (k + inner_count l) j (AllByRecursion-right Q a b h) p.0 p.1
    ]

pub IsNumberedCell-from_cards : (all : List (List ℕ)) (nets : CellNets (List ℕ)) (tree : Tree (List ℕ)) (out : List ℕ)
    → AllByRecursion (IsNumberedDevice all) (cell nets tree ++ inverter nets.vdd nets.vss nets.dynamic out) → IsNumberedCell all nets tree out
IsNumberedCell-from_cards all nets tree out stand =
    let spelled = spell nch nets.inner tree nets.dynamic nets.foot 0 in
    let foot : NamedDevice (List ℕ) = record { kind = nch; drain = nets.foot; gate = nets.clock; source = nets.vss } in
    let inv = inverter nets.vdd nets.vss nets.dynamic nets.output in
    let last = inverter nets.vdd nets.vss nets.dynamic out in
    let of_cell = AllByRecursion-left (IsNumberedDevice all) (cell nets tree) last stand in
    let of_last = AllByRecursion-right (IsNumberedDevice all) (cell nets tree) last stand in
    let of_stage = AllByRecursion-left (IsNumberedDevice all) (spelled ++ foot ∷ []) inv of_cell.1.1 in
    let of_tree = AllByRecursion-left (IsNumberedDevice all) spelled (foot ∷ []) of_stage in
    let of_foot = AllByRecursion-right (IsNumberedDevice all) spelled (foot ∷ []) of_stage in
    record {
      vdd = stand.0.2;
      vss = of_foot.0.2;
      clock = stand.0.1;
      dynamic = stand.0.0;
      output = stand.1.0.1;
      foot = of_foot.0.0;
      inner = λ j lt.
          spell-inner (HasNumber all) nch nets.inner tree nets.dynamic nets.foot 0 j
          (AllByRecursion-weaker (IsNumberedDevice all) (λ c. HasNumber all c.source) (λ c h. h.2) spelled of_tree) (omega arith) (omega arith);
      out_is = of_last.0.0;
    }

-- a port whose name does not begin with `o_` is a source
pub is_source-port : (e : CircuitData) (n : ℕ) (name : List ℕ) → n < e.ports → slice_get e.nets n ≡ Some name → starts_with nat_eq name (codes "o_") ≡ false → is_source e n ≡ true
is_source-port e n name lt at begins_not = rw (lt-ltb n e.ports lt, get_or_from_slice_get e.nets n name [] at, begins_not) refl

-- a net behind the ports is none
pub is_source-inside : (e : CircuitData) (n : ℕ) → e.ports ≤ n → is_source e n ≡ false
is_source-inside e n le = rw (le-ltb n e.ports le) refl

pub map_numbered_device : (all : List (List ℕ)) (cards : List (NamedDevice (List ℕ))) → map (numbered_device all) cards ≡ map device_of (map (map_device (net_number all)) cards)
map_numbered_device all [] = refl
map_numbered_device all (card ∷ cards) = ap (λ ds. numbered_device all card ∷ ds) (map_numbered_device all cards)

pub each_there : (xs : List (NamedDevice ℕ)) (ys : List Device) → AllByRecursion (λ c. Contains (map device_of xs ++ ys) (device_of c)) xs
each_there [] ys = tt
each_there (x ∷ xs) ys = (
  Contains-first (device_of x) (map device_of xs ++ ys),
  AllByRecursion-weaker (λ c. Contains (map device_of xs ++ ys) (device_of c)) (λ c. Contains (device_of x ∷ map device_of xs ++ ys) (device_of c))
      (λ c h. Contains-later (device_of x) (map device_of xs ++ ys) (device_of c) h) xs (each_there xs ys),
)

-- The names of the ports of a cell, and how many there are.
use Rattle.std.proofs.Common.{◌≡◌, ℕ, suc, ◌<◌, ◌≤◌, ◌+◌, ◌-◌, ◌^◌, true, List, ◌∷◌, ◌++◌, [], codes, length, max, take, refl, ap, ap₂, sym, ◌∙◌}
use Rattle.std.proofs.Common.{arith, zero-add}
use Rattle.std.specs.Fmt.{decimal}
use Rattle.std.specs.Ordering.{nat_cmp, ord_max}
use Rattle.std.proofs.lemmas.List.Elements.{All-append}
use Rattle.std.proofs.lemmas.List.FromFn.{length-map-range_with_len, map-range_with_len_more, take-map-range_with_len}
use Rattle.deck.specs.declared.device.Device.{Device}
use Rattle.deck.specs.Nets.{ends, numbers_used}
use Rattle.deck.proofs.DeviceNumbers.{numbers_used-ge}
use Rattle.dom_base.specs.Names.{IsNetByte, IsNetName, is_net_name}
use Rattle.dom_base.proofs.Decimals.{decimal_is_net}
use Rattle.dom_base.proofs.Names.{IsNetName-from_test}
use Rattle.spice_text.specs.Cells.{cell_port, cell_ports}
use Rattle.spice_text.specs.GroupNets.{ArePorts, first_ports}

-- a front and a number
pub numbered_name : (b : ℕ) (front : List ℕ) (n : ℕ) → is_net_name (b ∷ front) ≡ true → n < 2 ^ 64 → IsNetName ((b ∷ front) ++ decimal n)
numbered_name b front n plain few = record {
  some = λ e. cc;
  good = All-append IsNetByte (b ∷ front) (decimal n) (IsNetName-from_test (b ∷ front) plain).good (decimal_is_net n few);
}

pub port_is_net_name : (n : ℕ) → n < 2 ^ 64 → IsNetName (codes "p" ++ decimal n)
port_is_net_name n few = numbered_name 112 [] n refl few

-- the greater of two numbers, as it is counted
pub greater_is_max : (a b : ℕ) → ord_max nat_cmp a b ≡ max a b
greater_is_max a b = grind arith

-- ports that are the first ones, whatever their number
pub ports_are : (ports : List (List ℕ)) (others : ℕ) → ports ≡ first_ports others → ArePorts ports
ports_are ports others are =
    let count : others ≡ length ports - 2 = omega (arith, ap length are, length-map-range_with_len cell_port 0 others) in
    are ∙ ap first_ports count

-- one more
pub ports_more : (ports more : List (List ℕ)) (others : ℕ) → ports ≡ first_ports others → more ≡ ports ++ cell_port others ∷ []
    → more ≡ first_ports (others + 1)
ports_more ports more others are pushed =
    pushed ∙ ap (λ l. l ++ cell_port others ∷ []) are
    ∙ ap (λ (l : List (List ℕ)). codes "vdd" ∷ codes "vss" ∷ l) (sym (map-range_with_len_more cell_port 0 others others (zero-add others)))

-- the first ones of them are those of a shape
pub ports_of_shape : (ports : List (List ℕ)) (shape : List Device) (count : ℕ) → ArePorts ports → count ≡ numbers_used 2 (ends shape)
    → count ≤ length ports → take count ports ≡ cell_ports shape
ports_of_shape ports shape count are used enough =
    let others : ℕ = length ports - 2 in
    let own : ℕ = numbers_used 2 (ends shape) - 2 in
    let low : 2 ≤ numbers_used 2 (ends shape) = numbers_used-ge 2 (ends shape) in
    let split : count ≡ suc (suc own) = omega (arith, used, low) in
    let few : own ≤ others = omega (arith, used, enough) in
    ap₂ take split are ∙ ap (λ (l : List (List ℕ)). codes "vdd" ∷ codes "vss" ∷ l) (take-map-range_with_len cell_port 0 others own few)

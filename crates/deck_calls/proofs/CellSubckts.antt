-- The subcircuits of shapes: their expansions and sizes, and how one is found by its number.
use Rattle.std.proofs.Common.{◌≡◌, ℕ, ◌<◌, ◌≢◌, ◌^◌, Bool, true, false, nat_eq, ◌||◌, List, [], ◌∷◌, map, length, find, sum_by, Some, codes, refl, ap, sym, ◌∙◌, arith}
use Rattle.std.specs.List.{AllByRecursion, list_any}
use Rattle.std.specs.Cmp.Lexicographic.{pointwise}
use Rattle.std.proofs.lemmas.Bool.Decides.{Decides-eqb}
use Rattle.std.proofs.lemmas.List.{length-map}
use Rattle.deck.specs.declared.device.Device.{Device}
use Rattle.deck.specs.NamedDevices.{NamedDevice, named_device}
use Rattle.deck.specs.Subckts.{Single, Subckt, Expansion, Size, expansion, expansions, part_count, size, sizes}
use Rattle.spice_text.specs.Cells.{cell_name, cell_ports}
use Rattle.deck.proofs.FlatDecks.{singles_count, singles_depth, singles_expand}
use Rattle.deck.proofs.NetNumbers.{same_name}
use Rattle.deck_calls.proofs.CellNames.{numbers_apart}

-- the devices of a cell by the names of its ports
abbrev pub cell_devices : List Device → List (NamedDevice (List ℕ))
cell_devices shape = map (named_device (cell_ports shape)) shape

-- the subcircuit of a shape, by its number
abbrev pub cell_subckt : ℕ × List Device → Subckt
cell_subckt p = record { name = cell_name p.0; ports = cell_ports p.1; parts = map Single (cell_devices p.1) }

abbrev pub cell_expansion : ℕ × List Device → Expansion
cell_expansion p = record { name = cell_name p.0; ports = cell_ports p.1; devices = cell_devices p.1 }

abbrev pub cell_size : ℕ × List Device → Size
cell_size p = record { name = cell_name p.0; ports = length (cell_ports p.1); devices = length p.1; depth = 0 }

pub cells_expand : (ps : List (ℕ × List Device)) → expansions (map cell_subckt ps) ≡ map cell_expansion ps
cells_expand [] = refl
cells_expand (p ∷ ps) =
    let first = singles_expand (expansions (map cell_subckt ps)) (cell_devices p.1) in
    let rest = cells_expand ps in
    let head : expansion (expansions (map cell_subckt ps)) (cell_subckt p) ≡ cell_expansion p = λ i. record { name = cell_name p.0; ports = cell_ports p.1; devices = first i } in
    cc

pub cell_is_sized : (above : List Size) (p : ℕ × List Device) → size above (cell_subckt p) ≡ cell_size p
cell_is_sized above p =
    let count : sum_by (part_count above) (map Single (cell_devices p.1)) ≡ length p.1 = singles_count above 0 (cell_devices p.1) ∙ omega (arith, length-map p.1 (named_device (cell_ports p.1))) in
    let deep = singles_depth above (cell_devices p.1) in
    λ i. record { name = cell_name p.0; ports = length (cell_ports p.1); devices = count i; depth = deep i }

pub cells_sized : (ps : List (ℕ × List Device)) → sizes (map cell_subckt ps) ≡ map cell_size ps
cells_sized [] = refl
cells_sized (p ∷ ps) =
    let head = cell_is_sized (sizes (map cell_subckt ps)) p in
    let rest = cells_sized ps in
    cc

-- a shape by its number, among numbered shapes
pub record IsNumberedBy (n : ℕ) (shape : List Device) (ps : List (ℕ × List Device)) : Type 0 where
  pub few : AllByRecursion (λ (p : ℕ × List Device). p.0 < 2 ^ 64) ps
  pub one : AllByRecursion (λ (p : ℕ × List Device). p.0 ≡ n → p.1 ≡ shape) ps
  pub some : list_any (λ (p : ℕ × List Device). nat_eq p.0 n) ps ≡ true

-- what stands for a shape is found by the name of its number
pub found_by_name : {T : Type 0} (name_of : T → List ℕ) (f : ℕ × List Device → T) → ((p : ℕ × List Device) → name_of (f p) ≡ cell_name p.0)
    → (n : ℕ) (shape : List Device) (ps : List (ℕ × List Device)) → n < 2 ^ 64
    → AllByRecursion (λ (p : ℕ × List Device). p.0 < 2 ^ 64) ps → AllByRecursion (λ (p : ℕ × List Device). p.0 ≡ n → p.1 ≡ shape) ps
    → list_any (λ (p : ℕ × List Device). nat_eq p.0 n) ps ≡ true
    → find (λ t. pointwise nat_eq (cell_name n) (name_of t)) (map f ps) ≡ Some (f (n, shape))
found_by_name name_of f named n shape [] low few one some = absurd (let never : false ≡ true = some in cc)
found_by_name {T} name_of f named n shape (p ∷ ps) low few one some = by (nat_eq p.0 n) refl (λ s. found_by_name name_of f named n shape ps low few.1 one.1 s)
  where
    by : (b : Bool) → nat_eq p.0 n ≡ b → (list_any (λ (p : ℕ × List Device). nat_eq p.0 n) ps ≡ true → find (λ t. pointwise nat_eq (cell_name n) (name_of t)) (map f ps) ≡ Some (f (n, shape)))
        → find (λ t. pointwise nat_eq (cell_name n) (name_of t)) (map f (p ∷ ps)) ≡ Some (f (n, shape))
    by true e behind =
        let number : p.0 ≡ n = (Decides-eqb p.0 n).0 e in
        let here : pointwise nat_eq (cell_name n) (name_of (f p)) ≡ true = ap (λ name. pointwise nat_eq (cell_name n) name) (named p ∙ ap cell_name number) ∙ same_name (cell_name n) in
        let this : p.1 ≡ shape = one.0 number in
        let whole : f p ≡ f (n, shape) = λ i. f (number i, this i) in
        rw here (ap Some whole)
    by false e behind =
        let other : p.0 ≢ n = λ same. (let yes = (Decides-eqb p.0 n).1 same in let never : false ≡ true = sym e ∙ yes in cc) in
        let apart : pointwise nat_eq (cell_name n) (name_of (f p)) ≡ false = ap (λ name. pointwise nat_eq (cell_name n) name) (named p) ∙ numbers_apart (codes "cell-") n p.0 low few.0 (λ same. other (sym same)) in
        let rest : list_any (λ (p : ℕ × List Device). nat_eq p.0 n) ps ≡ true = sym (ap (λ b. b || list_any (λ (p : ℕ × List Device). nat_eq p.0 n) ps) e) ∙ some in
        rw apart (behind rest)

-- The devices that are counted by subcircuits are those of their expansions.
use Rattle.std.proofs.Common.{◌≡◌, ℕ, ◌+◌, max, Bool, true, false, nat_eq, List, [], ◌∷◌, ◌++◌, map, length, find, fold, sum_by, refl, ap, sym, ◌∙◌, arith, length-append}
use Rattle.std.specs.List.{flat_map}
use Rattle.std.specs.Cmp.Lexicographic.{pointwise}
use Rattle.std.proofs.lemmas.List.{length-map}
use Rattle.deck.specs.NamedDevices.{map_device}
use Rattle.deck.specs.Subckts.{Call, SubcktPart, Single, Called, Subckt, Expansion, Size, passed_net, call_devices, part_devices, expansion, expansions, size_named, devices_in, part_count, size, sizes}

-- a subcircuit as it is expanded and as it is counted
pub record IsCounted (e : Expansion) (s : Size) : Type 0 where
  pub name : e.name ≡ s.name
  pub devices : length e.devices ≡ s.devices

-- the same of each of several
pub AreCounted : List Expansion → List Size → Type 0
AreCounted [] [] = Unit {0}
AreCounted [] (s ∷ ss) = ⊥
AreCounted (e ∷ es) [] = ⊥
AreCounted (e ∷ es) (s ∷ ss) = IsCounted e s × AreCounted es ss

found_counted : (call : Call) (es : List Expansion) (ss : List Size) → AreCounted es ss
    → length (call_devices call (find (λ e. pointwise nat_eq call.unit e.name) es)) ≡ devices_in (size_named call.unit ss)
unfolding AreCounted
found_counted call [] [] h = refl
found_counted call [] (s ∷ ss) h = absurd h
found_counted call (e ∷ es) [] h = absurd h
found_counted call (e ∷ es) (s ∷ ss) h = by (pointwise nat_eq call.unit e.name) refl (found_counted call es ss h.1)
  where
    by : (b : Bool) → pointwise nat_eq call.unit e.name ≡ b
        → length (call_devices call (find (λ e. pointwise nat_eq call.unit e.name) es)) ≡ devices_in (size_named call.unit ss)
        → length (call_devices call (find (λ e. pointwise nat_eq call.unit e.name) (e ∷ es))) ≡ devices_in (size_named call.unit (s ∷ ss))
    by true same rest =
        let other : pointwise nat_eq call.unit s.name ≡ true = sym (ap (pointwise nat_eq call.unit) h.0.name) ∙ same in
        rw (same, other) (length-map e.devices (map_device (passed_net call.name e.ports call.nets)) ∙ h.0.devices)
    by false same rest =
        let other : pointwise nat_eq call.unit s.name ≡ false = sym (ap (pointwise nat_eq call.unit) h.0.name) ∙ same in
        rw (same, other) rest

pub part_counted : (es : List Expansion) (ss : List Size) (p : SubcktPart) → AreCounted es ss → length (part_devices es p) ≡ part_count ss p
part_counted es ss (Single d) h = refl
part_counted es ss (Called call) h = found_counted call es ss h

-- counts that are added up, from any number on
pub sum_from : (f : SubcktPart → ℕ) (n : ℕ) (ps : List SubcktPart) → fold (λ a p. a + f p) n ps ≡ n + sum_by f ps
sum_from f n [] = omega arith
sum_from f n (p ∷ ps) = omega (arith, sum_from f (n + f p) ps, sum_from f (0 + f p) ps)

parts_counted : (es : List Expansion) (ss : List Size) (ps : List SubcktPart) → AreCounted es ss → length (flat_map (part_devices es) ps) ≡ sum_by (part_count ss) ps
parts_counted es ss [] h = refl
parts_counted es ss (p ∷ ps) h =
    let one = part_counted es ss p h in
    let rest = parts_counted es ss ps h in
    length-append (part_devices es p) (flat_map (part_devices es) ps)
    ∙ omega (arith, one, rest, sum_from (part_count ss) (0 + part_count ss p) ps)

pub all_counted : (all : List Subckt) → AreCounted (expansions all) (sizes all)
unfolding AreCounted
all_counted [] = tt
all_counted (s ∷ above) =
    let rest = all_counted above in
    (record { name = refl; devices = parts_counted (expansions above) (sizes above) s.parts rest }, rest)

counts_same : (es : List Expansion) (ss : List Size) → AreCounted es ss → map (λ (e : Expansion). length e.devices) es ≡ map (λ (s : Size). s.devices) ss
unfolding AreCounted
counts_same [] [] h = refl
counts_same [] (s ∷ ss) h = absurd h
counts_same (e ∷ es) [] h = absurd h
counts_same (e ∷ es) (s ∷ ss) h = let first = h.0.devices in let rest = counts_same es ss h.1 in cc

pub sizes_count : (all : List Subckt) → map (λ (e : Expansion). length e.devices) (expansions all) ≡ map (λ (s : Size). s.devices) (sizes all)
sizes_count all = counts_same (expansions all) (sizes all) (all_counted all)

-- a subcircuit stands for as many devices as are counted
pub size_counts : (above : List Subckt) (s : Subckt) → length (expansion (expansions above) s).devices ≡ (size (sizes above) s).devices
size_counts above s = parts_counted (expansions above) (sizes above) s.parts (all_counted above)

-- one part more: the sum of some numbers, and the greatest
pub sum_push : (f : SubcktPart → ℕ) (n : ℕ) (ps : List SubcktPart) (q : SubcktPart) → fold (λ a p. a + f p) n (ps ++ q ∷ []) ≡ fold (λ a p. a + f p) n ps + f q
sum_push f n [] q = refl
sum_push f n (p ∷ ps) q = sum_push f (n + f p) ps q

pub depth_push : (f : SubcktPart → ℕ) (n : ℕ) (ps : List SubcktPart) (q : SubcktPart) → fold max n (map f (ps ++ q ∷ [])) ≡ max (fold max n (map f ps)) (f q)
depth_push f n [] q = refl
depth_push f n (p ∷ ps) q = depth_push f (max n (f p)) ps q

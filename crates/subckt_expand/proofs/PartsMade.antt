-- The devices that the first parts of a subcircuit stand for, and those of one part more.
use Rattle.std.proofs.Common.{◌≡◌, ◌<◌, ◌≤◌, ℕ, zero, suc, ◌+◌, ◌*◌, List, [], ◌∷◌, ◌++◌, length, map, take, slice_index_or, ap, ◌∙◌, arith, append-nil, length-append}
use Rattle.std.specs.List.{flat_map}
use Rattle.std.proofs.lemmas.List.{map-append, take_more, length-map}
use Rattle.std.proofs.lemmas.List.Concat.{flat_map-append}
use Rattle.deck.proofs.CircuitGrowth.{with_devices-append}
use Rattle.deck.specs.CircuitData.{CircuitData}
use Rattle.deck.specs.NamedDevices.{NamedDevice, map_device, with_devices}
use Rattle.deck.specs.Nets.{with_net}
use Rattle.deck.specs.Pushes.{pushed}
use Rattle.deck.specs.Subckts.{Expansion, SubcktPart, part_devices}
use Rattle.deck.proofs.NetNumbers.{number_fits}
use Rattle.subckt_expand.specs.declared.part.Part.{Part}

-- the devices of some parts, by the names that their nets have in the end
abbrev pub devices_of : (List ℕ → List ℕ) → List Expansion → (Part → SubcktPart) → List Part → List (NamedDevice (List ℕ))
devices_of g es f ps = map (map_device g) (flat_map (part_devices es) (map f ps))

-- the devices of one part
abbrev pub devices_of_part : (List ℕ → List ℕ) → List Expansion → (Part → SubcktPart) → Part → List (NamedDevice (List ℕ))
devices_of_part g es f p = map (map_device g) (part_devices es (f p))

devices_of-append : (g : List ℕ → List ℕ) (es : List Expansion) (f : Part → SubcktPart) (ps qs : List Part) → devices_of g es f (ps ++ qs) ≡ devices_of g es f ps ++ devices_of g es f qs
devices_of-append g es f ps qs =
    ap (λ l. map (map_device g) (flat_map (part_devices es) l)) (map-append f ps qs)
    ∙ ap (map (map_device g)) (flat_map-append (part_devices es) (map f ps) (map f qs))
    ∙ map-append (map_device g) (flat_map (part_devices es) (map f ps)) (flat_map (part_devices es) (map f qs))

-- one part more
pub devices_of-more : (g : List ℕ → List ℕ) (es : List Expansion) (f : Part → SubcktPart) (ps : List Part) (i : ℕ) (d : Part) → i < length ps
    → devices_of g es f (take (i + 1) ps) ≡ devices_of g es f (take i ps) ++ devices_of_part g es f (slice_index_or ps i d)
devices_of-more g es f ps i d lt =
    ap (devices_of g es f) (take_more ps i d lt) ∙ devices_of-append g es f (take i ps) (slice_index_or ps i d ∷ [])
    ∙ ap (λ l. devices_of g es f (take i ps) ++ map (map_device g) l) (append-nil (part_devices es (f (slice_index_or ps i d))))

-- and the devices that are made then
pub made-more : (c : CircuitData) (g : List ℕ → List ℕ) (es : List Expansion) (f : Part → SubcktPart) (ps : List Part) (i : ℕ) (d : Part) → i < length ps
    → with_devices c (devices_of g es f (take (i + 1) ps)) ≡ with_devices (with_devices c (devices_of g es f (take i ps))) (devices_of_part g es f (slice_index_or ps i d))
made-more c g es f ps i d lt = ap (with_devices c) (devices_of-more g es f ps i d lt) ∙ with_devices-append c (devices_of g es f (take i ps)) (devices_of_part g es f (slice_index_or ps i d))

-- each device adds at most three nets
net-few : (nets : List (List ℕ)) (name : List ℕ) → length (with_net nets name) ≤ length nets + 1
net-few nets name = let fits = number_fits nets name in omega (arith, fits.within, fits.length_then)

pub nets-few : (c : CircuitData) (ds : List (NamedDevice (List ℕ))) → length (with_devices c ds).nets ≤ length c.nets + 3 * length ds
nets-few c [] = omega arith
nets-few c (d ∷ ds) =
    let rest = nets-few (pushed c d.kind d.drain d.gate d.source) ds in
    let a = net-few c.nets d.drain in
    let b = net-few (with_net c.nets d.drain) d.gate in
    let e = net-few (with_net (with_net c.nets d.drain) d.gate) d.source in
    omega (arith, rest, a, b, e)

-- the devices of the first parts and of the next one are among those of all
pub room-left : (g : List ℕ → List ℕ) (es : List Expansion) (f : Part → SubcktPart) (ps : List Part) (i : ℕ) (d : Part) → i < length ps
    → length (devices_of g es f (take i ps)) + length (part_devices es (f (slice_index_or ps i d))) ≤ length (flat_map (part_devices es) (map f ps))
room-left g es f [] i d lt = absurd (omega arith)
room-left g es f (p ∷ ps) zero d lt = omega (arith, length-append (part_devices es (f p)) (flat_map (part_devices es) (map f ps)))
room-left g es f (p ∷ ps) (suc i) d lt =
    let rest = room-left g es f ps i d (omega arith) in
    let first : List (NamedDevice (List ℕ)) = part_devices es (f p) in
    let front : List (NamedDevice (List ℕ)) = flat_map (part_devices es) (map f (take i ps)) in
    omega (arith, rest, length-append first (flat_map (part_devices es) (map f ps)), length-append first front, length-map (first ++ front) (map_device g), length-map front (map_device g))

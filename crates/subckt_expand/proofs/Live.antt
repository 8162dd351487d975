-- Subcircuits stand for the same devices without the calls of those that stand for none.
use Rattle.std.proofs.Common.{◌≡◌, Bool, true, false, ◌==◌, List, [], ◌∷◌, ◌++◌, filter, refl, sym, ap, ◌∙◌}
use Rattle.std.proofs.lemmas.Bool.{eqb-true}
use Rattle.std.specs.List.{flat_map}
use Rattle.dom_base.proofs.Lists.{length-none}
use Rattle.deck.specs.Subckts.{Subckt, SubcktPart, Expansion, Size, expansion, expansions, part_count, part_devices, sizes}
use Rattle.subckt_expand.specs.Live.{is_live, live, lives}
use Rattle.deck.proofs.Counts.{AreCounted, all_counted, part_counted}

-- the devices of the parts that stand for some
live-parts : (es : List Expansion) (ss : List Size) (ps : List SubcktPart) → AreCounted es ss → flat_map (part_devices es) (filter (is_live ss) ps) ≡ flat_map (part_devices es) ps
live-parts es ss [] h = refl
live-parts es ss (p ∷ ps) h = by (part_count ss p == 0) refl (live-parts es ss ps h)
  where
    by : (t : Bool) → (part_count ss p == 0) ≡ t → flat_map (part_devices es) (filter (is_live ss) ps) ≡ flat_map (part_devices es) ps → flat_map (part_devices es) (filter (is_live ss) (p ∷ ps)) ≡ flat_map (part_devices es) (p ∷ ps)
    by true e rest =
        let none : part_devices es p ≡ [] = length-none (part_devices es p) (part_counted es ss p h ∙ eqb-true (part_count ss p) 0 e) in
        rw e (rest ∙ ap (λ l. l ++ flat_map (part_devices es) ps) (sym none))
    by false e rest = rw e (ap (λ l. part_devices es p ++ l) rest)

pub expansions-lives : (ss : List Subckt) → expansions (lives ss) ≡ expansions ss
expansions-lives [] = refl
expansions-lives (s ∷ above) =
    let rest = expansions-lives above in
    let parts = live-parts (expansions above) (sizes above) s.parts (all_counted above) in
    let first : expansion (expansions (lives above)) (live (sizes above) s) ≡ expansion (expansions above) s =
    ap (λ es. expansion es (live (sizes above) s)) rest ∙ (λ i. record { name = s.name; ports = s.ports; devices = parts i }) in
    λ i. first i ∷ rest i

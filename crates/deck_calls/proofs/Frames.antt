-- Each step of an expansion with a stack of calls leaves what it should.
use Rattle.std.proofs.Common.{◌≡◌, ℕ, Bool, true, false, nat_eq, if◌then◌else◌, List, [], ◌∷◌, ◌++◌, map, find, Some, refl, ap, ◌∙◌, append_assoc, append-nil}
use Rattle.std.specs.Prelude.{flat_map}
use Rattle.std.specs.Cmp.Lexicographic.{pointwise}
use Rattle.std.proofs.lemmas.List.{map-append}
use Rattle.dom_base.proofs.Lists.{length-none}
use Rattle.deck.specs.NamedDevices.{NamedDevice, map_device}
use Rattle.deck.specs.Subckts.{SubcktPart, Single, Called, Subckt, passed_net, call_devices, part_devices, expansion, expansions, sizes}
use Rattle.deck_calls.specs.Frames.{ExpansionFrame, name_in, left_in, found_above, ExpansionSteps}
use Rattle.subckt_expand.proofs.CallsMade.{map_twice}
use Rattle.deck.proofs.Counts.{all_counted, part_counted}

-- devices renamed by nothing
map_same : (ds : List (NamedDevice (List ℕ))) → map (map_device (λ name. name)) ds ≡ ds
map_same [] = refl
map_same (d ∷ ds) = ap (λ l. d ∷ l) (map_same ds)

-- the subcircuit that is found is the one whose expansion is
found_expansion : (name : List ℕ) (all : List Subckt) (s : Subckt) (above : List Subckt) → found_above name all ≡ Some (s, above)
    → find (λ e. pointwise nat_eq name e.name) (expansions all) ≡ Some (expansion (expansions above) s)
found_expansion name [] s above h = absurd (cc)
found_expansion name (t ∷ all) s above h = by (pointwise nat_eq name t.name) refl h (λ g. found_expansion name all s above g)
  where
    by : (b : Bool) → pointwise nat_eq name t.name ≡ b → (if b then Some (t, all) else found_above name all) ≡ Some (s, above)
        → (found_above name all ≡ Some (s, above) → find (λ e. pointwise nat_eq name e.name) (expansions all) ≡ Some (expansion (expansions above) s))
        → find (λ e. pointwise nat_eq name e.name) (expansions (t ∷ all)) ≡ Some (expansion (expansions above) s)
    by true e g more = let both : (t, all) ≡ (s, above) = cc in rw e (ap (λ (p : Subckt × List Subckt). Some (expansion (expansions p.1) p.0)) both)
    by false e g more = rw e (more g)

next_part : (f : ExpansionFrame) (frames : List ExpansionFrame) (p : SubcktPart) (parts : List SubcktPart) → f.parts ≡ p ∷ parts
    → left_in (f ∷ frames) ≡ map (map_device (name_in (f ∷ frames))) (part_devices (expansions f.above) p) ++ left_in (record f { parts = parts } ∷ frames)
next_part f frames p parts e =
    let here = part_devices (expansions f.above) p in
    let more = flat_map (part_devices (expansions f.above)) parts in
    ap (λ l. map (map_device (name_in (f ∷ frames))) (flat_map (part_devices (expansions f.above)) l) ++ left_in frames) e
    ∙ ap (λ l. l ++ left_in frames) (map-append (map_device (name_in (f ∷ frames))) here more)
    ∙ append_assoc (map (map_device (name_in (f ∷ frames))) here) (map (map_device (name_in (f ∷ frames))) more) (left_in frames)

pub expansion_steps : ExpansionSteps
expansion_steps = record {
  start = λ above s. append-nil (map (map_device (λ name. name)) (flat_map (part_devices (expansions above)) s.parts)) ∙ map_same (flat_map (part_devices (expansions above)) s.parts);
  done = λ f frames e. ap (λ l. map (map_device (name_in (f ∷ frames))) (flat_map (part_devices (expansions f.above)) l) ++ left_in frames) e;
  device = λ f frames d parts e. next_part f frames (Single d) parts e;
  call = λ f frames c parts s above e found. (
      next_part f frames (Called c) parts e
      ∙ ap (λ o. map (map_device (name_in (f ∷ frames))) (call_devices c o) ++ left_in (record f { parts = parts } ∷ frames)) (found_expansion c.unit f.above s above found)
      ∙ ap (λ l. l ++ left_in (record f { parts = parts } ∷ frames)) (map_twice (name_in (f ∷ frames)) (passed_net c.name s.ports c.nets) (flat_map (part_devices (expansions above)) s.parts)));
  empty = λ f frames c parts e none. (
      next_part f frames (Called c) parts e
      ∙ ap (λ l. map (map_device (name_in (f ∷ frames))) l ++ left_in (record f { parts = parts } ∷ frames))
      (length-none (part_devices (expansions f.above) (Called c)) (part_counted (expansions f.above) (sizes f.above) (Called c) (all_counted f.above) ∙ none)));
}

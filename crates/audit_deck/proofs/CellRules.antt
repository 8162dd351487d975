-- Where the places of all cells are known, rules 1 to 3 hold.
use Rattle.std.proofs.Common.{List, subst, ℕ}
use Rattle.deck.specs.declared.device.Device.{Device}
use Rattle.deck.specs.declared.role.Roles.{Roles}
use Rattle.sp_network.specs.Tree.{Tree}
use Rattle.sp_reduction.specs.Networks.{Link}
use Rattle.deck_audit.specs.Rules.{HasFront, HasOutput, HasTree}
use Rattle.deck_audit.specs.Words.{IsDynamic}
use Rattle.found_decks.specs.FoundDecks.{AreBlocks, AreCellPlaces, AreFound, FoundParts}
use Rattle.found_decks.proofs.PlacesAll.{block_of}
use Rattle.audit_deck.proofs.Breaks.{one_front}

module _ (ds : List Device) (roles : Roles) (nets : ℕ) (f : FoundParts) (found : AreFound ds roles f) (blocks : List (List ℕ)) (are : AreBlocks (AreCellPlaces ds roles) f.tops blocks) where
  places_of : (x : ℕ) → IsDynamic ds roles x → (block : List ℕ) × AreCellPlaces ds roles x block
  places_of x d =
      let k = found.tops_full x d in
      let b = block_of (AreCellPlaces ds roles) f.tops blocks are k.0 x k.1 in
      (b.0, b.2)

  pub front_kept : (x : ℕ) → IsDynamic ds roles x → (clock : ℕ) × (output : ℕ) × HasFront ds roles x clock output
  front_kept x d = let z = (places_of x d).1 in (z.0, z.1, z.4.front)

  pub output_kept : (x clock output : ℕ) → IsDynamic ds roles x → HasFront ds roles x clock output → HasOutput ds roles x output
  output_kept x clock output d g =
      let z = (places_of x d).1 in
      let same = one_front ds roles nets x z.0 z.1 clock output z.4.front g in
      subst (HasOutput ds roles x) same.1 (z.4.no_port, z.4.inverter)

  pub tree_kept : (x clock output : ℕ) → IsDynamic ds roles x → HasFront ds roles x clock output → (bottom : ℕ) × (tree : Tree Link) × HasTree ds roles x clock bottom tree
  tree_kept x clock output d g =
      let z = (places_of x d).1 in
      let same = one_front ds roles nets x z.0 z.1 clock output z.4.front g in
      (z.2, z.3, subst (λ m. HasTree ds roles x m z.2 z.3) same.0 z.4.has_tree)

-- The cells of a deck with keepers: their cards at places, their fronts and their outputs.
use Rattle.std.specs.Prelude.{Some, slice_get, ◌⊎◌}
use Rattle.std.proofs.Common.{List, [], append_assoc, arith, inl, inr, length, refl, subst, suc, sym, zero, ℕ, ◌++◌, ◌+◌, ◌∙◌, ◌∷◌, ◌≡◌}
use Rattle.std.proofs.lemmas.Option.{same_Some}
use Rattle.dom_base.proofs.Lists.{AllByRecursion-contains, Contains-slice_get, slice_get-append, slice_get-behind}
use Rattle.dom_base.specs.declared.kind.Kind.TheVariants.{Keep, P as pch}
use Rattle.deck.specs.NamedDevices.{NamedDevice}
use Rattle.deck.specs.declared.device.Device.{Device}
use Rattle.sp_network.specs.Tree.{inner_count}
use Rattle.domino_cell.specs.Stage.{Inside, Top}
use Rattle.switch_model.specs.Laws.{EndsAt}
use Rattle.circuit_law.specs.Exchanged.{exchange}
use Rattle.port_runs.specs.Periods.{IsClockPort, vdd_port, vss_port}
use Rattle.domino_law.proofs.Statics.{left_is}
use Rattle.domino_law.specs.LooseDeck.{IsNet}
use Rattle.domino_law.specs.Nets.{At, Clock, Dynamic, Net, Output, left_side}
use Rattle.domino_law.specs.Shape.{DominoCell, IsCellAt, left_stage}
use Rattle.deck_audit.specs.Rules.{HasFront, HasOutput}
use Rattle.deck_audit.specs.Words.{StandsAt}
use Rattle.deck_audit.proofs.Offsets.{Offset}
use Rattle.deck_audit.proofs.OwnBlocks.{OfCell, cell_block, cell_offset, cell_no_latch, down_card, foot_card, keeper_card, keeper_cards, one_cell_of, precharge_card, supply_no_cell, tree_list, up_card}
use Rattle.deck_audit.proofs.OwnCards.{OwnDeck, Placed, as_device, at_one, carded, dev_of, devices, ends_as, inner_net, kind_as, place_of, vdd_is, vss_is}
use Rattle.deck_audit.proofs.OwnFacts.{CellNet, Joined, TreeCard, ends_of_card, facts, tree_info}
use Rattle.deck_audit.proofs.RuleFacts.{not_keep_n, not_keep_p, not_p_n, twin_kind}
use Rattle.sp_reduction.proofs.Lists.{in_append}

-- how many cards its tree has
abbrev pub tree_size : ℕ → DominoCell → ℕ
tree_size k cell = length (tree_list k cell)

module _ (w : OwnDeck) where
  -- a device that ends at a net of a cell is one of its block
  pub record InBlock (k : ℕ) (cell : DominoCell) (offset : ℕ) (a : Net) (p : ℕ) (d : Device) : Type 0 where
    pub position : ℕ
    pub card : NamedDevice Net
    pub listed : slice_get w.order (offset + position) ≡ Some p
    pub at : slice_get (cell_block k cell) position ≡ Some card
    pub twin : (d ≡ dev_of w.net card) ⊎ (d ≡ exchange (dev_of w.net card))
    pub ends : (card.drain ≡ a) ⊎ (card.source ≡ a)

  abbrev pub cell_place : (k : ℕ) (cell : DominoCell) → IsCellAt w.shape k cell → Offset (λ x. OfCell k x.drain) (keeper_cards w.shape) (cell_block k cell)
  cell_place k cell i = cell_offset w.shape k cell i

  pub find_cell : (k : ℕ) (cell : DominoCell) (i : IsCellAt w.shape k cell) (a : Net) → IsNet w.shape a → OfCell k a → (p : ℕ) (d : Device) → StandsAt (devices w) p d → EndsAt d (w.net a)
      → InBlock k cell (cell_place k cell i).offset a p d
  find_cell k cell i a n f p d at t =
      let h = carded w p d at in
      let e = ends_of_card w p d h a n t in
      let q = (cell_place k cell i).from h.index h.card h.at (of_cell h.card (facts w h.index h.card h.at).joined e) in
      record { position = q.0; card = h.card; listed = subst (λ j. slice_get w.order j ≡ Some p) q.1 h.listed; at = q.2; twin = h.twin; ends = e }
    where
      of_cell : (x : NamedDevice Net) → Joined w x → (x.drain ≡ a) ⊎ (x.source ≡ a) → OfCell k x.drain
      of_cell x g (inl z) = rw z f
      of_cell x (inl g) (inr z) = absurd (supply_no_cell k x.source g (rw z f))
      of_cell x (inr (inl g)) (inr z) = subst (λ j. OfCell j x.drain) (one_cell_of g.0 k x.source g.2 (rw z f)) g.1
      of_cell x (inr (inr g)) (inr z) = absurd (cell_no_latch k g.0 x.source (rw z f) g.2)

  -- what stands at a position of a block
  pub data Role (k : ℕ) (cell : DominoCell) (position : ℕ) (x : NamedDevice Net) : Type 0 where
    is_precharge : position ≡ 0 → x ≡ precharge_card k cell → Role k cell position x
    is_keeper : position ≡ 1 → x ≡ keeper_card k → Role k cell position x
    is_tree : (j : ℕ) → position ≡ suc (suc j) → slice_get (tree_list k cell) j ≡ Some x → Role k cell position x
    is_foot : position ≡ suc (suc (tree_size k cell + 0)) → x ≡ foot_card k cell → Role k cell position x
    is_up : position ≡ suc (suc (tree_size k cell + 1)) → x ≡ up_card k → Role k cell position x
    is_down : position ≡ suc (suc (tree_size k cell + 2)) → x ≡ down_card k → Role k cell position x

  pub role : (k : ℕ) (cell : DominoCell) (position : ℕ) (x : NamedDevice Net) → slice_get (cell_block k cell) position ≡ Some x → Role k cell position x
  role k cell zero x e = is_precharge refl (sym (same_Some _ _ e))
  role k cell (suc zero) x e = is_keeper refl (sym (same_Some _ _ e))
  role k cell (suc (suc i)) x e =
      elim (in_append (tree_list k cell ++ foot_card k cell ∷ []) (up_card k ∷ down_card k ∷ []) i x e) [
        | inl z ↦ elim (in_append (tree_list k cell) (foot_card k cell ∷ []) i x z.1) [
          | inl y ↦ is_tree i (omega arith) y.1
          | inr y ↦ foot y.0 y.1 y.2
        ]
        | inr z ↦ output z.0 z.1 z.2
      ]
    where
      longer : (xs : List (NamedDevice Net)) (y : NamedDevice Net) → length (xs ++ y ∷ []) ≡ length xs + 1
      longer [] y = omega arith
      longer (z ∷ xs) y = omega (arith, longer xs y)

      foot : (j : ℕ) → i ≡ tree_size k cell + j → slice_get (foot_card k cell ∷ []) j ≡ Some x → Role k cell (suc (suc i)) x
      foot zero a b = is_foot (omega (arith, a)) (sym (same_Some _ _ b))
      foot (suc j) a b = absurd (cc)

      output : (j : ℕ) → i ≡ length (tree_list k cell ++ foot_card k cell ∷ []) + j → slice_get (up_card k ∷ down_card k ∷ []) j ≡ Some x → Role k cell (suc (suc i)) x
      output zero a b = is_up (omega (arith, a, longer (tree_list k cell) (foot_card k cell))) (sym (same_Some _ _ b))
      output (suc zero) a b = is_down (omega (arith, a, longer (tree_list k cell) (foot_card k cell))) (sym (same_Some _ _ b))
      output (suc (suc j)) a b = absurd (cc)

  -- and back
  behind_tree : (k : ℕ) (cell : DominoCell) (j : ℕ) (x : NamedDevice Net) → slice_get (foot_card k cell ∷ up_card k ∷ down_card k ∷ []) j ≡ Some x → slice_get (cell_block k cell) (suc (suc (tree_size k cell + j))) ≡ Some x
  behind_tree k cell j x e =
      subst (λ ys. slice_get (precharge_card k cell ∷ keeper_card k ∷ ys) (suc (suc (tree_size k cell + j))) ≡ Some x) (sym (append_assoc (tree_list k cell) (foot_card k cell ∷ []) (up_card k ∷ down_card k ∷ [])))
      (slice_get-behind (tree_list k cell) (foot_card k cell ∷ up_card k ∷ down_card k ∷ []) j ∙ e)

  pub in_tree : (k : ℕ) (cell : DominoCell) (j : ℕ) (x : NamedDevice Net) → slice_get (tree_list k cell) j ≡ Some x → slice_get (cell_block k cell) (suc (suc j)) ≡ Some x
  in_tree k cell j x e = slice_get-append (tree_list k cell ++ foot_card k cell ∷ []) (up_card k ∷ down_card k ∷ []) j x (slice_get-append (tree_list k cell) (foot_card k cell ∷ []) j x e)

  module _ (k : ℕ) (cell : DominoCell) (i : IsCellAt w.shape k cell) where
    abbrev pub off : ℕ
    off = (cell_place k cell i).offset

    abbrev pub top : ℕ
    top = w.net (At (Dynamic (left_side k)) Top)

    pub precharge_at : Placed (devices w) w.order (off + 0) (dev_of w.net (precharge_card k cell))
    precharge_at = place_of w (off + 0) (precharge_card k cell) ((cell_place k cell i).to 0 (precharge_card k cell) refl)

    pub keeper_at : Placed (devices w) w.order (off + 1) (dev_of w.net (keeper_card k))
    keeper_at = place_of w (off + 1) (keeper_card k) ((cell_place k cell i).to 1 (keeper_card k) refl)

    pub foot_at : Placed (devices w) w.order (off + (suc (suc (tree_size k cell + 0)))) (dev_of w.net (foot_card k cell))
    foot_at = place_of w _ (foot_card k cell) ((cell_place k cell i).to (suc (suc (tree_size k cell + 0))) (foot_card k cell) (behind_tree k cell 0 (foot_card k cell) refl))

    pub up_at : Placed (devices w) w.order (off + (suc (suc (tree_size k cell + 1)))) (dev_of w.net (up_card k))
    up_at = place_of w _ (up_card k) ((cell_place k cell i).to (suc (suc (tree_size k cell + 1))) (up_card k) (behind_tree k cell 1 (up_card k) refl))

    pub down_at : Placed (devices w) w.order (off + (suc (suc (tree_size k cell + 2)))) (dev_of w.net (down_card k))
    down_at = place_of w _ (down_card k) ((cell_place k cell i).to (suc (suc (tree_size k cell + 2))) (down_card k) (behind_tree k cell 2 (down_card k) refl))

    pub tree_kind : (j : ℕ) (x : NamedDevice Net) → slice_get (tree_list k cell) j ≡ Some x → TreeCard w k cell x
    tree_kind j x e = AllByRecursion-contains (TreeCard w k cell) (tree_list k cell) x (tree_info w k cell i) (Contains-slice_get (tree_list k cell) j x e)

    clock_is : IsClockPort w.roles (w.net (Clock cell.clock))
    clock_is =
        let lt = (((w.deck).spelled).shape).clocks_are (left_side k) (left_stage cell) (left_is w.shape k cell i) in
        let e = ((w.deck).ports).numbers (Clock cell.clock) lt in
        (omega (arith, e), omega (arith, e, lt, ((w.deck).ports).clocks_are))

    pub front : HasFront (devices w) w.roles top (w.net (Clock cell.clock)) (w.net (At (Output k) Top))
    front = record {
      no_port = inner_net w (Dynamic (left_side k)) Top (left_stage cell, left_is w.shape k cell i) (λ m e. cc);
      clock_is = clock_is;
      precharge = precharge_at.place;
      keeper = keeper_at.place;
      precharge_device = precharge_at.device;
      keeper_device = keeper_at.device;
      precharge_there = precharge_at.there;
      precharge_is = as_device w.net precharge_at.device (precharge_card k cell) top vdd_port precharge_at.twin refl (vdd_is w);
      keeper_there = keeper_at.there;
      keeper_is = as_device w.net keeper_at.device (keeper_card k) top vdd_port keeper_at.twin refl (vdd_is w);
      one_precharge = λ p d at t kd. let b = find_cell k cell i (At (Dynamic (left_side k)) Top) (left_stage cell, left_is w.shape k cell i) refl p d at t in pre p d kd b (role k cell b.position b.card b.at);
      one_keeper = λ p d at t kd. let b = find_cell k cell i (At (Dynamic (left_side k)) Top) (left_stage cell, left_is w.shape k cell i) refl p d at t in keep p d kd b (role k cell b.position b.card b.at);
    }
      where
        pre : (p : ℕ) (d : Device) → d.kind ≡ pch → (b : InBlock k cell off (At (Dynamic (left_side k)) Top) p d) → Role k cell b.position b.card → p ≡ precharge_at.place
        pre p d kd b (is_precharge e z) = at_one w off p 0 b.position precharge_at.place b.listed e precharge_at.listed
        pre p d kd b (is_keeper e z) = absurd (not_keep_p (sym kd ∙ kind_as w.net d b.card (keeper_card k) b.twin z))
        pre p d kd b (is_tree j e z) = absurd (not_p_n (sym kd ∙ twin_kind d (dev_of w.net b.card) b.twin ∙ (tree_kind j b.card z).0))
        pre p d kd b (is_foot e z) = absurd (not_p_n (sym kd ∙ kind_as w.net d b.card (foot_card k cell) b.twin z))
        pre p d kd b (is_up e z) = absurd (elim (ends_as b.card (up_card k) (At (Dynamic (left_side k)) Top) z b.ends) [ inl y ↦ cc | inr y ↦ cc ])
        pre p d kd b (is_down e z) = absurd (not_p_n (sym kd ∙ kind_as w.net d b.card (down_card k) b.twin z))

        keep : (p : ℕ) (d : Device) → d.kind ≡ Keep → (b : InBlock k cell off (At (Dynamic (left_side k)) Top) p d) → Role k cell b.position b.card → p ≡ keeper_at.place
        keep p d kd b (is_precharge e z) = absurd (not_keep_p (sym (kind_as w.net d b.card (precharge_card k cell) b.twin z) ∙ kd))
        keep p d kd b (is_keeper e z) = at_one w off p 1 b.position keeper_at.place b.listed e keeper_at.listed
        keep p d kd b (is_tree j e z) = absurd (not_keep_n (sym (tree_kind j b.card z).0 ∙ sym (twin_kind d (dev_of w.net b.card) b.twin) ∙ kd))
        keep p d kd b (is_foot e z) = absurd (not_keep_n (sym (kind_as w.net d b.card (foot_card k cell) b.twin z) ∙ kd))
        keep p d kd b (is_up e z) = absurd (not_keep_p (sym (kind_as w.net d b.card (up_card k) b.twin z) ∙ kd))
        keep p d kd b (is_down e z) = absurd (not_keep_n (sym (kind_as w.net d b.card (down_card k) b.twin z) ∙ kd))

    pub output : HasOutput (devices w) w.roles top (w.net (At (Output k) Top))
    output = (
      inner_net w (Output k) Top (cell, i) (λ m e. cc),
      record {
        up = up_at.place;
        down = down_at.place;
        pull_up = up_at.device;
        pull_down = down_at.device;
        up_there = up_at.there;
        up_is = as_device w.net up_at.device (up_card k) (w.net (At (Output k) Top)) vdd_port up_at.twin refl (vdd_is w);
        down_there = down_at.there;
        down_is = as_device w.net down_at.device (down_card k) (w.net (At (Output k) Top)) vss_port down_at.twin refl (vss_is w);
        only = λ p d at t. let b = find_cell k cell i (At (Output k) Top) (cell, i) refl p d at t in ends p d b (role k cell b.position b.card b.at);
      },
    )
      where
        in_cell : (n : ℕ) (a : Net) → CellNet k n a → a ≡ At (Output k) Top → ⊥
        in_cell n a (inl z) e = let y : At (Dynamic (left_side k)) Top ≡ At (Output k) Top = sym z ∙ e in cc
        in_cell n a (inr z) e = let y : At (Dynamic (left_side k)) (Inside 0 z.0) ≡ At (Output k) Top = sym z.2 ∙ e in cc

        ends : (p : ℕ) (d : Device) → (b : InBlock k cell off (At (Output k) Top) p d) → Role k cell b.position b.card → (p ≡ up_at.place) ⊎ (p ≡ down_at.place)
        ends p d b (is_precharge e z) = absurd (elim (ends_as b.card (precharge_card k cell) (At (Output k) Top) z b.ends) [ inl y ↦ cc | inr y ↦ cc ])
        ends p d b (is_keeper e z) = absurd (elim (ends_as b.card (keeper_card k) (At (Output k) Top) z b.ends) [ inl y ↦ cc | inr y ↦ cc ])
        ends p d b (is_tree j e z) =
            absurd (elim b.ends [ inl y ↦ in_cell (inner_count cell.tree) (b.card).drain (tree_kind j b.card z).1 y | inr y ↦ in_cell (inner_count cell.tree) (b.card).source (tree_kind j b.card z).2 y ])
        ends p d b (is_foot e z) = absurd (elim (ends_as b.card (foot_card k cell) (At (Output k) Top) z b.ends) [ inl y ↦ cc | inr y ↦ cc ])
        ends p d b (is_up e z) = inl (at_one w off p (suc (suc (tree_size k cell + 1))) b.position up_at.place b.listed e up_at.listed)
        ends p d b (is_down e z) = inr (at_one w off p (suc (suc (tree_size k cell + 2))) b.position down_at.place b.listed e down_at.listed)

-- The two dynamic stages and the static gate of a compound cell that are appended to a circuit: each stage stands in it, and nothing drives
-- the nets of the gate before it is there.
use Rattle.std.proofs.Common.{◌≡◌, ℕ, ◌≤◌, ◌^◌, List, [], ◌∷◌, ◌++◌, codes, ◌∙◌, inl, inr, arith, subst, sym}
use Rattle.std.specs.Prelude.{◌≢◌}
use Rattle.std.specs.Fmt.{decimal}
use Rattle.std.specs.List.{AllByRecursion}
use Rattle.dom_base.proofs.Lists.{AllByRecursion-append, AllByRecursion-weaker}
use Rattle.deck.specs.CircuitData.{CircuitData}
use Rattle.deck.specs.NamedDevices.{NamedDevice, with_devices}
use Rattle.deck.specs.Nets.{IsCircuit, net_name}
use Rattle.sp_network.specs.Tree.{Leaf, Series, Tree, inner_count}
use Rattle.sp_network.proofs.TreeImages.{inner_count-map_tree}
use Rattle.domino_cell.specs.Cell.{CellNets, IsStageNet}
use Rattle.domino_cell.specs.NamedTrees.{inner_net, named_tree}
use Rattle.domino_cell.specs.PushedNames.{HasRoomForCell, HasRoomForGate, lower_front, numbered_cell, static_gate}
use Rattle.domino_cell.specs.PushedPaths.{HoldsStage, JoinsWhereOne, MayJoinWhereNotZero}
use Rattle.domino_cell.specs.StyledCells.{styled_stage}
use Rattle.domino_cell.specs.declared.style.Style.TheVariants.{Precharge as WithPrecharge}
use Rattle.domino_cell.proofs.AppendedNets.{port_below}
use Rattle.domino_cell.proofs.CellNetNames.{first_apart}
use Rattle.domino_cell.proofs.PushedCells.{AreStageNames-letters, AreStageNames-numbered, HoldsStage-pushed, IsAwayCard, JoinsWhereOne-stage, MayJoinWhereNotZero-stage}
use Rattle.domino_cell.proofs.StyledCells.{styled_stage-ends}
use Rattle.compound_plan.specs.Plans.{Compound}
use Rattle.compound_cell.specs.CompoundCells.{named_cell, right_cell}
use Rattle.compound_cell.specs.PushedCells.{EachStage, HasRoomForTrees, output_name}
use Rattle.compound_cell.proofs.UndrivenNets.{stays_undriven}

-- cards whose ends are away from a stage
away : (nets : CellNets (List ℕ)) (tree : Tree (List ℕ)) (ds : List (NamedDevice (List ℕ)))
    → AllByRecursion (λ d. ((name : List ℕ) → IsStageNet nets tree name → d.drain ≢ name) × ((name : List ℕ) → IsStageNet nets tree name → d.source ≢ name)) ds
    → AllByRecursion (IsAwayCard nets tree) ds
away nets tree ds =
    AllByRecursion-weaker
    (λ d. ((name : List ℕ) → IsStageNet nets tree name → d.drain ≢ name) × ((name : List ℕ) → IsStageNet nets tree name → d.source ≢ name)) (IsAwayCard nets tree)
    (λ d h name is. (h.0 name is, h.1 name is)) ds

module _ (clock k : ℕ) (l r : Tree (List ℕ)) where
  abbrev pub left_stage : List (NamedDevice (List ℕ))
  left_stage = styled_stage WithPrecharge (numbered_cell clock k) l

  abbrev pub right_stage : List (NamedDevice (List ℕ))
  right_stage = styled_stage WithPrecharge (right_cell clock k) r

  abbrev pub pair_gate : List (NamedDevice (List ℕ))
  pair_gate = static_gate (output_name k) (Series (Leaf (codes "d" ++ decimal k)) (Leaf (codes "e" ++ decimal k)))

  -- what holds of each end of the static gate's devices
  gate_ends : (P : List ℕ → Type 0) → P (output_name k) → P (inner_net (lower_front (output_name k)) 0) → P (codes "vdd") → P (codes "vss")
      → AllByRecursion (λ d. P d.drain × P d.source) pair_gate
  gate_ends P out inner vdd vss = ((out, vdd), ((out, vdd), ((out, inner), ((inner, vss), tt))))

  -- of each end of a side's
  left_ends : (P : List ℕ → Type 0) → ((xs : List ℕ) → P (100 ∷ xs)) → ((xs : List ℕ) → P (102 ∷ xs)) → ((xs : List ℕ) → P (116 ∷ xs)) → ((xs : List ℕ) → P (118 ∷ xs))
      → AllByRecursion (λ d. P d.drain × P d.source) left_stage
  left_ends P d f t v =
      styled_stage-ends P WithPrecharge (numbered_cell clock k) l (d (decimal k)) (f (decimal k)) (λ j. t ((decimal k ++ codes "_") ++ decimal j)) (v (100 ∷ 100 ∷ [])) (v (115 ∷ 115 ∷ []))

  right_ends : (P : List ℕ → Type 0) → ((xs : List ℕ) → P (101 ∷ xs)) → ((xs : List ℕ) → P (103 ∷ xs)) → ((xs : List ℕ) → P (117 ∷ xs)) → ((xs : List ℕ) → P (118 ∷ xs))
      → AllByRecursion (λ d. P d.drain × P d.source) right_stage
  right_ends P e g u v =
      styled_stage-ends P WithPrecharge (right_cell clock k) r (e (decimal k)) (g (decimal k)) (λ j. u ((decimal k ++ codes "_") ++ decimal j)) (v (100 ∷ 100 ∷ [])) (v (115 ∷ 115 ∷ []))

  -- a name that begins with another letter than the nets of a side
  AwayLeft : List ℕ → Type 0
  AwayLeft n = (name : List ℕ) → IsStageNet (numbered_cell clock k) l name → n ≢ name

  AwayRight : List ℕ → Type 0
  AwayRight n = (name : List ℕ) → IsStageNet (right_cell clock k) r name → n ≢ name

  away_left : (x : ℕ) (xs : List ℕ) → x ≢ 100 → x ≢ 102 → x ≢ 116 → AwayLeft (x ∷ xs)
  unfolding AwayLeft
  away_left x xs d f t name (inl e) z = first_apart x 100 xs (decimal k) d (z ∙ e)
  away_left x xs d f t name (inr (inl e)) z = first_apart x 102 xs (decimal k) f (z ∙ e)
  away_left x xs d f t name (inr (inr (j, lt, e))) z = first_apart x 116 xs ((decimal k ++ codes "_") ++ decimal j) t (z ∙ e)

  away_right : (x : ℕ) (xs : List ℕ) → x ≢ 101 → x ≢ 103 → x ≢ 117 → AwayRight (x ∷ xs)
  unfolding AwayRight
  away_right x xs d f t name (inl e) z = first_apart x 101 xs (decimal k) d (z ∙ e)
  away_right x xs d f t name (inr (inl e)) z = first_apart x 103 xs (decimal k) f (z ∙ e)
  away_right x xs d f t name (inr (inr (j, lt, e))) z = first_apart x 117 xs ((decimal k ++ codes "_") ++ decimal j) t (z ∙ e)

  lefts : (x : ℕ) → x ≢ 100 → x ≢ 102 → x ≢ 116 → (xs : List ℕ) → AwayLeft (x ∷ xs)
  lefts x d f t xs = away_left x xs d f t

  rights : (x : ℕ) → x ≢ 101 → x ≢ 103 → x ≢ 117 → (xs : List ℕ) → AwayRight (x ∷ xs)
  rights x d f t xs = away_right x xs d f t

  right_from_left : AllByRecursion (IsAwayCard (numbered_cell clock k) l) right_stage
  unfolding AwayLeft
  right_from_left =
      away (numbered_cell clock k) l right_stage
      (right_ends AwayLeft (lefts 101 (λ z. omega arith) (λ z. omega arith) (λ z. omega arith)) (lefts 103 (λ z. omega arith) (λ z. omega arith) (λ z. omega arith))
      (lefts 117 (λ z. omega arith) (λ z. omega arith) (λ z. omega arith)) (lefts 118 (λ z. omega arith) (λ z. omega arith) (λ z. omega arith)))

  gate_from_left : AllByRecursion (IsAwayCard (numbered_cell clock k) l) pair_gate
  unfolding AwayLeft
  gate_from_left =
      let out = lefts 122 (λ z. omega arith) (λ z. omega arith) (λ z. omega arith) in
      let supply = lefts 118 (λ z. omega arith) (λ z. omega arith) (λ z. omega arith) in
      away (numbered_cell clock k) l pair_gate
      (gate_ends AwayLeft (out (decimal k)) (out ((decimal k ++ codes "_n") ++ decimal 0)) (supply (100 ∷ 100 ∷ [])) (supply (115 ∷ 115 ∷ [])))

  left_from_right : AllByRecursion (IsAwayCard (right_cell clock k) r) left_stage
  unfolding AwayRight
  left_from_right =
      away (right_cell clock k) r left_stage
      (left_ends AwayRight (rights 100 (λ z. omega arith) (λ z. omega arith) (λ z. omega arith)) (rights 102 (λ z. omega arith) (λ z. omega arith) (λ z. omega arith))
      (rights 116 (λ z. omega arith) (λ z. omega arith) (λ z. omega arith)) (rights 118 (λ z. omega arith) (λ z. omega arith) (λ z. omega arith)))

  gate_from_right : AllByRecursion (IsAwayCard (right_cell clock k) r) pair_gate
  unfolding AwayRight
  gate_from_right =
      let out = rights 122 (λ z. omega arith) (λ z. omega arith) (λ z. omega arith) in
      let supply = rights 118 (λ z. omega arith) (λ z. omega arith) (λ z. omega arith) in
      away (right_cell clock k) r pair_gate
      (gate_ends AwayRight (out (decimal k)) (out ((decimal k ++ codes "_n") ++ decimal 0)) (supply (100 ∷ 100 ∷ [])) (supply (115 ∷ 115 ∷ [])))

  module _ (c : CircuitData) (circuit : IsCircuit c.ports c.nets c.devices) (left : HasRoomForCell c (numbered_cell clock k)) (right : HasRoomForCell c (right_cell clock k)) where
    -- each stage stands in the circuit
    pub holds_left : inner_count l ≤ 2 ^ 24 → HoldsStage WithPrecharge (with_devices c (left_stage ++ (right_stage ++ pair_gate))) (numbered_cell clock k) l
    holds_left few =
        HoldsStage-pushed WithPrecharge c [] (right_stage ++ pair_gate) (numbered_cell clock k) l circuit left (AreStageNames-numbered clock k l few) tt
        (AllByRecursion-append (IsAwayCard (numbered_cell clock k) l) right_stage pair_gate right_from_left gate_from_left)

    pub holds_right : inner_count r ≤ 2 ^ 24 → HoldsStage WithPrecharge (with_devices c (left_stage ++ (right_stage ++ pair_gate))) (right_cell clock k) r
    holds_right few =
        HoldsStage-pushed WithPrecharge c left_stage pair_gate (right_cell clock k) r circuit right
        (AreStageNames-letters (codes "ck" ++ decimal clock) (output_name k) 101 103 117 (decimal k) (decimal k ++ codes "_") r (λ z. omega arith) (λ z. omega arith) (λ z. omega arith) few)
        left_from_right gate_from_right

    -- no device of a stage ends at a net that begins with `z`
    ends_apart : (xs : List ℕ) → AllByRecursion (λ d. (d.drain ≢ 122 ∷ xs) × (d.source ≢ 122 ∷ xs)) (left_stage ++ right_stage)
    ends_apart xs =
        let P = λ (n : List ℕ). n ≢ 122 ∷ xs in
        let other : (x : ℕ) → x ≢ 122 → (ys : List ℕ) → P (x ∷ ys) = λ x differs ys. first_apart x 122 ys xs differs in
        AllByRecursion-append (λ d. (d.drain ≢ 122 ∷ xs) × (d.source ≢ 122 ∷ xs)) left_stage right_stage
        (left_ends P (other 100 (λ z. omega arith)) (other 102 (λ z. omega arith)) (other 116 (λ z. omega arith)) (other 118 (λ z. omega arith)))
        (right_ends P (other 101 (λ z. omega arith)) (other 103 (λ z. omega arith)) (other 117 (λ z. omega arith)) (other 118 (λ z. omega arith)))

    -- behind both stages there is room for the static gate
    pub gate_room : HasRoomForGate c (output_name k) → HasRoomForGate (with_devices c (left_stage ++ right_stage)) (output_name k)
    gate_room room =
        let cards = left_stage ++ right_stage in
        record {
          vdd = port_below c cards circuit (codes "vdd") room.vdd;
          vss = port_below c cards circuit (codes "vss") room.vss;
          output = stays_undriven c cards circuit (output_name k) room.output (ends_apart (decimal k));
          upper = λ j. stays_undriven c cards circuit (122 ∷ ((decimal k ++ codes "_p") ++ decimal j)) (room.upper j) (ends_apart ((decimal k ++ codes "_p") ++ decimal j));
          lower = λ j. stays_undriven c cards circuit (122 ∷ ((decimal k ++ codes "_n") ++ decimal j)) (room.lower j) (ends_apart ((decimal k ++ codes "_n") ++ decimal j));
        }

-- both stages stand in a circuit to which the devices of a compound cell were appended
pub pair_stages : (clock k : ℕ) (gates : List (List ℕ)) (l r : Tree ℕ) (old new : CircuitData) → IsCircuit old.ports old.nets old.devices
    → HasRoomForTrees old clock k (Compound l r) → inner_count l ≤ 2 ^ 24 → inner_count r ≤ 2 ^ 24
    → new ≡ with_devices old (named_cell (net_name gates) clock k (Compound l r))
    → EachStage (λ nets tree. HoldsStage WithPrecharge new nets tree) (net_name gates) clock k (Compound l r)
pair_stages clock k gates l r old new circuit room few_left few_right is =
    let left = named_tree gates l in
    let right = named_tree gates r in (
      subst (λ (c : CircuitData). HoldsStage WithPrecharge c (numbered_cell clock k) left) (sym is)
          (holds_left clock k left right old circuit room.0 room.1 (omega (arith, few_left, inner_count-map_tree (net_name gates) l))),
      subst (λ (c : CircuitData). HoldsStage WithPrecharge c (right_cell clock k) right) (sym is)
          (holds_right clock k left right old circuit room.0 room.1 (omega (arith, few_right, inner_count-map_tree (net_name gates) r))),
    )

-- so each tree joins the ends of its stage where it conducts
pub pair_definite : (clock k : ℕ) (gates : List (List ℕ)) (l r : Tree ℕ) (old new : CircuitData) → IsCircuit old.ports old.nets old.devices
    → HasRoomForTrees old clock k (Compound l r) → inner_count l ≤ 2 ^ 24 → inner_count r ≤ 2 ^ 24
    → new ≡ with_devices old (named_cell (net_name gates) clock k (Compound l r))
    → EachStage (λ nets tree. JoinsWhereOne new nets.dynamic nets.foot tree) (net_name gates) clock k (Compound l r)
pair_definite clock k gates l r old new circuit room few_left few_right is =
    let s = pair_stages clock k gates l r old new circuit room few_left few_right is in (
      JoinsWhereOne-stage WithPrecharge new (numbered_cell clock k) (named_tree gates l) s.0,
      JoinsWhereOne-stage WithPrecharge new (right_cell clock k) (named_tree gates r) s.1,
    )

pub pair_possible : (clock k : ℕ) (gates : List (List ℕ)) (l r : Tree ℕ) (old new : CircuitData) → IsCircuit old.ports old.nets old.devices
    → HasRoomForTrees old clock k (Compound l r) → inner_count l ≤ 2 ^ 24 → inner_count r ≤ 2 ^ 24
    → new ≡ with_devices old (named_cell (net_name gates) clock k (Compound l r))
    → EachStage (λ nets tree. MayJoinWhereNotZero new nets.dynamic nets.foot tree) (net_name gates) clock k (Compound l r)
pair_possible clock k gates l r old new circuit room few_left few_right is =
    let s = pair_stages clock k gates l r old new circuit room few_left few_right is in (
      MayJoinWhereNotZero-stage WithPrecharge new (numbered_cell clock k) (named_tree gates l) s.0,
      MayJoinWhereNotZero-stage WithPrecharge new (right_cell clock k) (named_tree gates r) s.1,
    )

-- The deck of an Or of two inputs, of one compound cell, is a planned deck of its network.
use Rattle.std.specs.Prelude.{All, codes, nat_lt, slice_index_or}
use Rattle.std.proofs.Common.{◌≡◌, List, Some, [], ap, arith, false, length, refl, slice_get, subst, suc, sym, true, zero, ltb-true, ℕ, ◌+◌, ◌<◌, ◌∙◌, ◌∷◌, map}
use Rattle.std.specs.List.{IsDistinct, list_all}
use Rattle.std.proofs.lemmas.List.Elements.{All-cons, All-nil}
use Rattle.std.proofs.lemmas.Option.{same_Some}
use Rattle.dom_base.proofs.Lists.{All-from_test}
use Rattle.blif_read.proofs.PrintReadsBackNames.{name-test}
use Rattle.blif_ast.specs.Good.{IsGoodName}
use Rattle.network.specs.NetworkData.{NetTableData}
use Rattle.network.specs.Networks.{IsNetTable, IsNetwork}
use Rattle.gate_decompose.specs.GateNodes.{AreGatesOf, AreOperands, Input, Made, Operand, folded}
use Rattle.gate_decompose.specs.Terms.{table_term}
use Rattle.dual_rail.specs.declared.forest.Arm.TheVariants.{Literal}
use Rattle.compound_plan.specs.PlanTrees.{is_kept, literal, IsFree}
use Rattle.compound_plan.specs.Plans.{AreWithin, Compound, IsPlan, compound_costs}
use Rattle.clock_phase.specs.Levels.{AreLevels, cells_read, greatest}
use Rattle.compound_cell.specs.CompoundCells.{whole_tree}
use Rattle.compound_law.specs.Laws.{AreByteNames}
use Rattle.deck_law.proofs.OneGates.{forest, gates, is_forest}
use Rattle.compound_law.specs.WorkedDeck.{OrDeckIsPlanned, or_cells, or_network}
use Rattle.sp_network.specs.Tree.{Leaf, Parallel, Tree}
use Rattle.blif_ast.specs.declared.letter.Letter.{Letter}
use Rattle.blif_ast.specs.declared.letter.Letter.TheVariants.{Any, One}
use Rattle.network.specs.declared.network.NetLatch.{NetLatch}

-- what is said of the table is said of each
one_table : (P : ℕ → NetTableData → Type 0) → ((t : NetTableData) → slice_get or_network.tables 0 ≡ Some t → P 0 t) → (k : ℕ) (t : NetTableData) → slice_get or_network.tables k ≡ Some t → P k t
one_table P h zero t e = h t e
one_table P h (suc k) t e = absurd (cc)

is_network : IsNetwork or_network
unfolding IsDistinct
is_network = record {
  name = name-test (codes "or2") refl;
  names = All-cons IsGoodName (codes "a") (codes "b" ∷ codes "f" ∷ []) (name-test (codes "a") refl)
      (All-cons IsGoodName (codes "b") (codes "f" ∷ []) (name-test (codes "b") refl) (All-cons IsGoodName (codes "f") [] (name-test (codes "f") refl) (All-nil IsGoodName)));
  apart = ((refl, (refl, tt)), ((refl, tt), (tt, tt)));
  count = refl;
  tables = one_table (λ k t. IsNetTable (2 + k) t) (λ t e. subst (IsNetTable 2) (same_Some _ t e) (record {
    inputs = All-cons (λ signal. signal < 2) 0 (1 ∷ []) (omega arith) (All-cons (λ signal. signal < 2) 1 [] (omega arith) (All-nil (λ signal. signal < 2)));
    few_inputs = omega arith;
    rows = All-cons (λ (row : List Letter). length row ≡ 2) (One ∷ Any ∷ []) ((Any ∷ One ∷ []) ∷ []) refl
        (All-cons (λ (row : List Letter). length row ≡ 2) (Any ∷ One ∷ []) [] refl (All-nil (λ (row : List Letter). length row ≡ 2)));
    on = λ none. refl;
  }));
  latches = All-nil (λ (l : NetLatch). l.input < 3);
  outputs = All-cons (λ signal. signal < 3) 2 [] (omega arith) (All-nil (λ signal. signal < 3));
  outputs_apart = (tt, tt);
  few_signals = omega arith;
  few_letters = omega arith;
  few_sinks = omega arith;
}

operand : ℕ → Operand
operand zero = Input 0
operand (suc zero) = Input 1
operand (suc (suc n)) = Made (record { table = 0; way = [] })

are_operands : AreOperands or_network operand
unfolding operand
are_operands = record {
  leaves = leaves;
  tables = one_table (λ k t. operand (2 + k) ≡ folded operand k [] (table_term t)) (λ t e. subst (λ x. operand 2 ≡ folded operand 0 [] (table_term x)) (same_Some _ t e) refl);
}
  where
    leaves : (n : ℕ) → n < 2 → operand n ≡ Input n
    leaves zero lt = refl
    leaves (suc zero) lt = refl
    leaves (suc (suc n)) lt = absurd (omega arith)

pub are_gates : AreGatesOf or_network (gates true)
unfolding gates operand
are_gates = record { of = operand; are_operands = are_operands; leaves_are = refl; nodes_are = refl; sinks_are = refl }

pub is_plan : IsPlan compound_costs (forest true) 1 1 (false ∷ []) (true ∷ []) or_cells
unfolding forest
is_plan = record {
  one_each = refl;
  mark_each = refl;
  free = free;
  marked = marked;
  cells_are = ((refl, (Literal (record { leaf = 0; plus = true }), Literal (record { leaf = 1; plus = true }), refl, literal, literal)), tt);
  within = All-cons (AreWithin 1 1) (Compound (Leaf 0) (Leaf 2)) [] ((omega arith, omega arith), (omega arith, omega arith)) (All-nil (AreWithin 1 1));
}
  where
    free : (place : ℕ) → is_kept (false ∷ []) place ≡ true → IsFree (forest true) place
    free zero e = absurd (cc)
    free (suc n) e = absurd (cc)

    marked : (place : ℕ) → is_kept (true ∷ []) place ≡ true → (is_kept (false ∷ []) place ≡ false) × (compound_costs.splits ≡ true)
    marked zero e = (refl, refl)
    marked (suc n) e = absurd (cc)

pub levels_are : AreLevels 2 (map whole_tree or_cells) (1 ∷ [])
levels_are = record { one_each = refl; levels_are = by }
  where
    by : (k : ℕ) (tree : Tree ℕ) (level : ℕ) → slice_get (Parallel (Leaf 0) (Leaf 2) ∷ []) k ≡ Some tree → slice_get (1 ∷ []) k ≡ Some level
        → level ≡ 1 + greatest (map (λ cell. slice_index_or (1 ∷ []) cell 0) (cells_read 2 tree))
    by zero tree level e f =
        sym (same_Some 1 level f) ∙ ap (λ t. 1 + greatest (map (λ cell. slice_index_or (1 ∷ []) cell 0) (cells_read 2 t))) (same_Some (Parallel (Leaf 0) (Leaf 2)) tree e)
    by (suc k) tree level e f = absurd (cc)

byte_names : AreByteNames or_network.names
byte_names =
    All-from_test (λ name. All (λ b. b < 256) name) (list_all (λ b. nat_lt b 256)) (λ name e. All-from_test (λ b. b < 256) (λ b. nat_lt b 256) (λ b f. ltb-true b 256 f) name e)
    or_network.names refl

pub or_deck_is_planned : OrDeckIsPlanned
unfolding gates forest
or_deck_is_planned = (
  is_network,
  byte_names,
  record {
    gates = gates true;
    signs = true ∷ [];
    forest = forest true;
    kept = false ∷ [];
    split = true ∷ [];
    cells = or_cells;
    levels = 1 ∷ [];
    are_gates = are_gates;
    is_forest = is_forest true;
    is_plan = is_plan;
    levels_are = levels_are;
    circuit_is = refl;
  },
)

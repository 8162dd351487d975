-- What the signals of a network come to, table by table, is what they come to all at once.
use Rattle.std.proofs.Common.{◌≡◌, refl, sym, ap, ap₂, subst, ◌∙◌, ℕ, zero, suc, ◌+◌, ◌<◌, false, List, [], ◌∷◌, ◌++◌, length, map, get_or, Some, slice_get, arith, length-append, add-zero, zero-add}
use Rattle.std.specs.List.{range_with_len}
use Rattle.std.proofs.lemmas.List.{length-map, get_or_append_left}
use Rattle.std.proofs.lemmas.List.FromFn.{get_or-map-range_with_len, length-range_with_len}
use Rattle.std.proofs.Math.Seq.{get_or-append_seam}
use Rattle.gate_decompose.specs.GateNodes.{AreOperands, Fixed, Input, Left, Operand, Right, Turn, folded, folded_and, folded_not, folded_or}
use Rattle.gate_decompose.specs.NetworkOrder.{IsOrderedNetwork}
use Rattle.gate_decompose.specs.Sinks.{leaf_count}
use Rattle.gate_decompose.specs.Terms.{And, Constant, Not, Or, Signal, Term, table_term}
use Rattle.gate_decompose.proofs.TermShapes.{SignalsBelow, table_signals}
use Rattle.network.specs.NetworkData.{NetTableData, NetworkData}

-- what a signal comes to, in a list of so many
abbrev pub operand_in : List Operand → ℕ → Operand
operand_in known signal = get_or known signal (Fixed false)

-- the operands of more tables, from this number on
abbrev pub with_tables : List Operand → ℕ → List NetTableData → List Operand
with_tables known k [] = known
with_tables known k (t ∷ ts) = with_tables (known ++ (folded (operand_in known) k [] (table_term t) ∷ [])) (k + 1) ts

abbrev pub operands_of : NetworkData → ℕ → Operand
operands_of network = operand_in (with_tables (map Input (range_with_len 0 (leaf_count network))) 0 network.tables)

-- a term comes to the same where its signals do
pub folded_same : (of of' : ℕ → Operand) (m table : ℕ) (way : List Turn) (t : Term) → SignalsBelow m t → ((s : ℕ) → s < m → of s ≡ of' s) → folded of table way t ≡ folded of' table way t
folded_same of of' m table way (Constant b) below same = refl
folded_same of of' m table way (Signal s) below same = same s below
folded_same of of' m table way (Not t) below same = ap (folded_not (record { table = table; way = way })) (folded_same of of' m table (Left ∷ way) t below same)
folded_same of of' m table way (And l r) below same =
    ap₂ (folded_and (record { table = table; way = way })) (folded_same of of' m table (Left ∷ way) l below.0 same) (folded_same of of' m table (Right ∷ way) r below.1 same)
folded_same of of' m table way (Or l r) below same =
    ap₂ (folded_or (record { table = table; way = way })) (folded_same of of' m table (Left ∷ way) l below.0 same) (folded_same of of' m table (Right ∷ way) r below.1 same)

-- what is known stays
known_stays : (known : List Operand) (k : ℕ) (ts : List NetTableData) (s : ℕ) → s < length known → operand_in (with_tables known k ts) s ≡ operand_in known s
known_stays known k [] s lt = refl
known_stays known k (t ∷ ts) s lt =
    let one : List Operand = folded (operand_in known) k [] (table_term t) ∷ [] in
    let count = length-append known one in
    known_stays (known ++ one) (k + 1) ts s (omega (arith, lt, count)) ∙ get_or_append_left known one (Fixed false) s lt

-- each table's output comes to what its term comes to
table_comes : (known : List Operand) (k : ℕ) (ts : List NetTableData) → ((i : ℕ) (t : NetTableData) → slice_get ts i ≡ Some t → SignalsBelow (length known + i) (table_term t))
    → (i : ℕ) (t : NetTableData) → slice_get ts i ≡ Some t → operand_in (with_tables known k ts) (length known + i) ≡ folded (operand_in (with_tables known k ts)) (k + i) [] (table_term t)
table_comes known k [] below i t e = absurd (cc)
table_comes known k (u ∷ ts) below zero t e =
    let same : u ≡ t = cc in
    let one : List Operand = folded (operand_in known) k [] (table_term u) ∷ [] in
    let count = length-append known one in
    let signals : SignalsBelow (length known) (table_term t) = subst (λ n. SignalsBelow n (table_term t)) (add-zero (length known)) (below 0 t e) in
    ap (operand_in (with_tables (known ++ one) (k + 1) ts)) (add-zero (length known))
    ∙ known_stays (known ++ one) (k + 1) ts (length known) (omega (arith, count))
    ∙ get_or-append_seam known (folded (operand_in known) k [] (table_term u)) [] (Fixed false)
    ∙ ap (λ x. folded (operand_in known) k [] (table_term x)) same
    ∙ folded_same (operand_in known) (operand_in (with_tables known k (u ∷ ts))) (length known) k [] (table_term t) signals (λ s lt. sym (known_stays known k (u ∷ ts) s lt))
    ∙ ap (λ n. folded (operand_in (with_tables known k (u ∷ ts))) n [] (table_term t)) (sym (add-zero k))
table_comes known k (u ∷ ts) below (suc i) t e =
    let one : List Operand = folded (operand_in known) k [] (table_term u) ∷ [] in
    let count : length (known ++ one) ≡ length known + 1 = length-append known one in
    let whole : ℕ → Operand = operand_in (with_tables (known ++ one) (k + 1) ts) in
    let here : length known + suc i ≡ length (known ++ one) + i = omega (arith, count) in
    let number : k + 1 + i ≡ k + suc i = omega arith in
    ap whole here
    ∙ table_comes (known ++ one) (k + 1) ts (λ j x f. subst (λ n. SignalsBelow n (table_term x)) (shift _ _ count j) (below (suc j) x f)) i t e
    ∙ ap (λ n. folded whole n [] (table_term t)) number
  where
    shift : (m n : ℕ) → m ≡ n + 1 → (j : ℕ) → n + suc j ≡ m + j
    shift m n e j = omega arith

pub are_operands : (network : NetworkData) → IsOrderedNetwork network → AreOperands network (operands_of network)
are_operands network order = record {
  leaves = λ leaf lt. known_stays inputs 0 network.tables leaf (omega (arith, lt, count)) ∙ get_or-map-range_with_len Input 0 (leaf_count network) leaf leaf (Fixed false) lt (zero-add leaf);
  tables = λ k t e.
      ap (operands_of network) (ap (λ n. n + k) (sym count))
      ∙ table_comes inputs 0 network.tables (λ i u f. subst (λ n. SignalsBelow n (table_term u)) (ap (λ n. n + i) (sym count)) (table_signals (leaf_count network + i) u (order.reads i u f))) k t e
      ∙ ap (λ n. folded (operands_of network) n [] (table_term t)) (zero-add k);
}
  where
    inputs : List Operand
    inputs = map Input (range_with_len 0 (leaf_count network))

    count : length (map Input (range_with_len 0 (leaf_count network))) ≡ leaf_count network
    count = length-map (range_with_len 0 (leaf_count network)) Input ∙ length-range_with_len 0 (leaf_count network)

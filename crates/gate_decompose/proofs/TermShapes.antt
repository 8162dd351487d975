-- The shape of the terms of tables: an Or joins rows, and no row has an Or; and what signals they read.
use Rattle.std.proofs.Common.{inl, inr, subst, ℕ, ◌<◌, Bool, true, false, cond, List, [], ◌∷◌, map, All}
use Rattle.std.proofs.lemmas.List.Elements.{All-head, All-tail}
use Rattle.blif_ast.specs.declared.letter.Letter.{Letter}
use Rattle.blif_ast.specs.declared.letter.Letter.TheVariants.{Zero, One, Any}
use Rattle.network.specs.NetworkData.{NetTableData}
use Rattle.gate_decompose.specs.Terms.{Term, Constant, Signal, Not, And, Or, items, row_term, rows_term, table_term}
use Rattle.gate_decompose.specs.Items.{Among}
use Rattle.gate_decompose.proofs.Among.{among_mapped}
use Rattle.gate_decompose.proofs.TermValues.{balanced_keeps}

-- a term without Or, and one in which Or joins such terms
abbrev pub NoOr : Term → Type 0
NoOr (Or l r) = ⊥
NoOr (And l r) = NoOr l × NoOr r
NoOr (Not t) = NoOr t
NoOr (Signal s) = Unit {0}
NoOr (Constant b) = Unit {0}

abbrev pub AreRows : Term → Type 0
AreRows (Or l r) = AreRows l × AreRows r
AreRows (And l r) = NoOr l × NoOr r
AreRows (Not t) = NoOr t
AreRows (Signal s) = Unit {0}
AreRows (Constant b) = Unit {0}

row_is_rows : (t : Term) → NoOr t → AreRows t
row_is_rows (Or l r) h = absurd h
row_is_rows (And l r) h = h
row_is_rows (Not t) h = h
row_is_rows (Signal s) h = tt
row_is_rows (Constant b) h = tt

-- each signal of a term is below a bound
abbrev pub SignalsBelow : ℕ → Term → Type 0
SignalsBelow m (Constant b) = Unit {0}
SignalsBelow m (Signal s) = s < m
SignalsBelow m (Not t) = SignalsBelow m t
SignalsBelow m (And l r) = SignalsBelow m l × SignalsBelow m r
SignalsBelow m (Or l r) = SignalsBelow m l × SignalsBelow m r

item_is : (m : ℕ) (inputs : List ℕ) (row : List Letter) → All (λ s. s < m) inputs → (x : Term) → Among x (items inputs row) → NoOr x × SignalsBelow m x
item_is m [] row h x at = absurd at
item_is m (s ∷ inputs) [] h x at = absurd at
item_is m (s ∷ inputs) (One ∷ row) h x (inl e) = rw (← e) (tt, All-head (λ n. n < m) s inputs h)
item_is m (s ∷ inputs) (One ∷ row) h x (inr at) = item_is m inputs row (All-tail (λ n. n < m) s inputs h) x at
item_is m (s ∷ inputs) (Zero ∷ row) h x (inl e) = rw (← e) (tt, All-head (λ n. n < m) s inputs h)
item_is m (s ∷ inputs) (Zero ∷ row) h x (inr at) = item_is m inputs row (All-tail (λ n. n < m) s inputs h) x at
item_is m (s ∷ inputs) (Any ∷ row) h x at = item_is m inputs row (All-tail (λ n. n < m) s inputs h) x at

pub row_is : (m : ℕ) (inputs : List ℕ) (row : List Letter) → All (λ s. s < m) inputs → NoOr (row_term inputs row) × SignalsBelow m (row_term inputs row)
row_is m inputs row h =
    balanced_keeps (λ t. NoOr t × SignalsBelow m t) And (Constant true) (items inputs row) (tt, tt) (λ a b x y. ((x.0, y.0), (x.1, y.1))) (λ x at. item_is m inputs row h x at)

pub rows_are : (m : ℕ) (t : NetTableData) → All (λ s. s < m) t.inputs → AreRows (rows_term t) × SignalsBelow m (rows_term t)
rows_are m t h =
    balanced_keeps (λ x. AreRows x × SignalsBelow m x) Or (Constant false) (map (row_term t.inputs) t.rows) (tt, tt) (λ a b x y. ((x.0, y.0), (x.1, y.1)))
    (λ x at. let r = among_mapped (row_term t.inputs) x t.rows at in let is = row_is m t.inputs r.0 h in subst (λ u. AreRows u × SignalsBelow m u) r.2 (row_is_rows (row_term t.inputs r.0) is.0, is.1))

pub table_signals : (m : ℕ) (t : NetTableData) → All (λ s. s < m) t.inputs → SignalsBelow m (table_term t)
table_signals m t h = by t.on (rows_are m t h).1
  where
    by : (on : Bool) → SignalsBelow m (rows_term t) → SignalsBelow m (cond on (rows_term t) (Not (rows_term t)))
    by true x = x
    by false x = x

-- No two nodes of a network have one name.
use Rattle.std.proofs.lemmas.Option.{same_Some}
use Rattle.std.proofs.Common.{◌≡◌, ◌⊎◌, inl, inr, refl, sym, ap, subst, ◌∙◌, ℕ, zero, suc, ◌+◌, ◌≤◌, Bool, true, false, not, cond, ◌||◌, List, [], ◌∷◌, ◌++◌, length, map, flat_map, Some, slice_get, eqb-true, eq-eqb, ap₂, ◌==◌, arith}
use Rattle.std.specs.Cmp.Lexicographic.{pointwise}
use Rattle.std.specs.List.{enumerate_from, position_or_len}
use Rattle.gate_decompose.specs.GateNodes.{AndOf, Joint, Left, NamedNode, NodeName, NotOf, Operand, OrOf, Right, Turn, above_nodes, and_nodes, folded, inside_nodes, is_fixed, network_nodes, not_nodes, or_nodes, row_nodes, rows_nodes, same_name, same_turn, standing, table_nodes}
use Rattle.network.specs.NetworkData.{NetTableData}
use Rattle.gate_decompose.specs.NodeNames.{NamesAreApart}
use Rattle.gate_decompose.specs.Terms.{And, Constant, Not, Or, Signal, Term, rows_term}
use Rattle.gate_decompose.specs.Items.{Among, Rises}
use Rattle.gate_decompose.proofs.Among.{among_either}
use Rattle.gate_decompose.proofs.Rising.{rises_append}
use Rattle.dom_base.proofs.Bools.{and_both}

same_turn-is : (a b : Turn) → same_turn a b ≡ true → a ≡ b
same_turn-is Left Left e = refl
same_turn-is Left Right e = absurd (cc)
same_turn-is Right Left e = absurd (cc)
same_turn-is Right Right e = refl

same_turn-self : (a : Turn) → same_turn a a ≡ true
same_turn-self Left = refl
same_turn-self Right = refl

same_way-is : (a b : List Turn) → pointwise same_turn a b ≡ true → a ≡ b
same_way-is [] [] e = refl
same_way-is [] (y ∷ b) e = absurd (cc)
same_way-is (x ∷ a) [] e = absurd (cc)
same_way-is (x ∷ a) (y ∷ b) e = let p = and_both (same_turn x y) (pointwise same_turn a b) e in ap₂ (λ u us. u ∷ us) (same_turn-is x y p.0) (same_way-is a b p.1)

same_way-self : (a : List Turn) → pointwise same_turn a a ≡ true
same_way-self [] = refl
same_way-self (x ∷ a) = rw (same_turn-self x) (same_way-self a)

pub same_name-is : (a b : NodeName) → same_name a b ≡ true → a ≡ b
same_name-is a b e =
    let p = and_both (a.table == b.table) (pointwise same_turn a.way b.way) e in
    λ i. record { table = eqb-true a.table b.table p.0 i; way = same_way-is a.way b.way p.1 i }

pub same_name-self : (a : NodeName) → same_name a a ≡ true
same_name-self a = rw (eq-eqb a.table a.table refl, same_way-self a.way) refl

-- the node of an operator that stands
pub among_standing : (b : Bool) (name : NodeName) (joint : Joint) (x : NamedNode) → Among x (standing b name joint) → (b ≡ false) × (record { name = name; joint = joint } ≡ x)
among_standing true name joint x at = absurd at
among_standing false name joint x (inl e) = (refl, e)
among_standing false name joint x (inr at) = absurd at

-- a way that goes on from another
Under : List Turn → List Turn → Type 0
Under w [] = [] ≡ w
Under w (t ∷ v) = (t ∷ v ≡ w) ⊎ Under w v

under_self : (w : List Turn) → Under w w
unfolding Under
under_self [] = refl
under_self (t ∷ w) = inl refl

under_length : (w v : List Turn) → Under w v → length w ≤ length v
unfolding Under
under_length w [] u = let same : 0 ≡ length w = ap (length {A = Turn}) u in omega arith
under_length w (t ∷ v) (inl e) = let same : suc (length v) ≡ length w = ap (length {A = Turn}) e in omega arith
under_length w (t ∷ v) (inr u) = let more = under_length w v u in omega arith

-- what goes on from one turn further goes on from here, and is another way
under_turn : (t : Turn) (w v : List Turn) → Under (t ∷ w) v → Under w v
unfolding Under
under_turn t w [] u = absurd (cc)
under_turn t w (s ∷ v) (inl e) = let same : v ≡ w = cc in inr (subst (λ x. Under w x) (sym same) (under_self w))
under_turn t w (s ∷ v) (inr u) = inr (under_turn t w v u)

under_other : (t : Turn) (w v : List Turn) → Under (t ∷ w) v → v ≡ w → ⊥
under_other t w v u e = let long = under_length (t ∷ w) v u in let same : length v ≡ length w = ap (length {A = Turn}) e in omega arith

left≢right : Left ≡ Right → ⊥
left≢right e = cc

-- the two turns part
parted : (w v : List Turn) → Under (Left ∷ w) v → Under (Right ∷ w) v → ⊥
unfolding Under
parted w [] a b = cc
parted w (t ∷ v) (inl a) (inl b) = let x : t ≡ Left = cc in let y : t ≡ Right = cc in left≢right (sym x ∙ y)
parted w (t ∷ v) (inl a) (inr b) = let same : v ≡ w = cc in under_other Right w v b same
parted w (t ∷ v) (inr a) (inl b) = let same : v ≡ w = cc in under_other Left w v a same
parted w (t ∷ v) (inr a) (inr b) = parted w v a b

-- nodes of different names
abbrev OtherName : NamedNode → NamedNode → Type 0
OtherName x y = x.name ≡ y.name → ⊥

module _ (of : ℕ → Operand) (k : ℕ) where
  -- the node stands in this table, at a way that goes on from here
  abbrev IsUnder : List Turn → NamedNode → Type 0
  IsUnder way x = (x.name.table ≡ k) × Under way x.name.way

  own : (way : List Turn) (b : Bool) (joint : Joint) (x : NamedNode) → Among x (standing b (record { table = k; way = way }) joint) → (x.name.table ≡ k) × (x.name.way ≡ way)
  own way b joint x at =
      let s = among_standing b (record { table = k; way = way }) joint x at in
      (ap (λ (y : NamedNode). y.name.table) (sym s.1), ap (λ (y : NamedNode). y.name.way) (sym s.1))

  own_under : (way : List Turn) (b : Bool) (joint : Joint) (x : NamedNode) → Among x (standing b (record { table = k; way = way }) joint) → IsUnder way x
  own_under way b joint x at = let o = own way b joint x at in (o.0, subst (Under way) (sym o.1) (under_self way))

  further : (t : Turn) (way : List Turn) (x : NamedNode) → IsUnder (t ∷ way) x → IsUnder way x
  further t way x u = (u.0, under_turn t way x.name.way u.1)

  row_under : (way : List Turn) (t : Term) (x : NamedNode) → Among x (row_nodes of k way t) → IsUnder way x
  row_under way (Constant b) x at = absurd at
  row_under way (Signal s) x at = absurd at
  row_under way (Or l r) x at = absurd at
  row_under way (Not t) x at =
      elim (among_either x (row_nodes of k (Left ∷ way) t) (not_nodes of k way t) at) [
        | inl y ↦ further Left way x (row_under (Left ∷ way) t x y)
        | inr y ↦ own_under way (is_fixed (folded of k (Left ∷ way) t)) (NotOf (folded of k (Left ∷ way) t)) x y
      ]
  row_under way (And l r) x at =
      elim (among_either x (row_nodes of k (Left ∷ way) l ++ row_nodes of k (Right ∷ way) r) (and_nodes of k way l r) at) [
        | inr y ↦ own_under way (is_fixed (folded of k (Left ∷ way) l) || is_fixed (folded of k (Right ∷ way) r)) (AndOf (folded of k (Left ∷ way) l) (folded of k (Right ∷ way) r)) x y
        | inl y ↦ elim (among_either x (row_nodes of k (Left ∷ way) l) (row_nodes of k (Right ∷ way) r) y) [
          | inl z ↦ further Left way x (row_under (Left ∷ way) l x z)
          | inr z ↦ further Right way x (row_under (Right ∷ way) r x z)
        ]
      ]

  inside_under : (way : List Turn) (t : Term) (x : NamedNode) → Among x (inside_nodes of k way t) → IsUnder way x
  inside_under way (Constant b) x at = row_under way (Constant b) x at
  inside_under way (Signal s) x at = row_under way (Signal s) x at
  inside_under way (Not t) x at = row_under way (Not t) x at
  inside_under way (And l r) x at = row_under way (And l r) x at
  inside_under way (Or l r) x at =
      elim (among_either x (inside_nodes of k (Left ∷ way) l) (inside_nodes of k (Right ∷ way) r) at) [
        | inl z ↦ further Left way x (inside_under (Left ∷ way) l x z)
        | inr z ↦ further Right way x (inside_under (Right ∷ way) r x z)
      ]

  above_under : (way : List Turn) (t : Term) (x : NamedNode) → Among x (above_nodes of k way t) → IsUnder way x
  above_under way (Constant b) x at = absurd at
  above_under way (Signal s) x at = absurd at
  above_under way (Not t) x at = absurd at
  above_under way (And l r) x at = absurd at
  above_under way (Or l r) x at =
      elim (among_either x (above_nodes of k (Left ∷ way) l ++ above_nodes of k (Right ∷ way) r) (or_nodes of k way l r) at) [
        | inr y ↦ own_under way (is_fixed (folded of k (Left ∷ way) l) || is_fixed (folded of k (Right ∷ way) r)) (OrOf (folded of k (Left ∷ way) l) (folded of k (Right ∷ way) r)) x y
        | inl y ↦ elim (among_either x (above_nodes of k (Left ∷ way) l) (above_nodes of k (Right ∷ way) r) y) [
          | inl z ↦ further Left way x (above_under (Left ∷ way) l x z)
          | inr z ↦ further Right way x (above_under (Right ∷ way) r x z)
        ]
      ]

  -- a node of the left part and one of the right part differ, and both differ from the operator's own
  sides : (way : List Turn) (x y : NamedNode) → IsUnder (Left ∷ way) x → IsUnder (Right ∷ way) y → OtherName x y
  sides way x y a b e = parted way y.name.way (subst (Under (Left ∷ way)) (ap (λ (n : NodeName). n.way) e) a.1) b.1

  above_own : (t : Turn) (way : List Turn) (x y : NamedNode) → IsUnder (t ∷ way) x → (y.name.table ≡ k) × (y.name.way ≡ way) → OtherName x y
  above_own t way x y a b e = under_other t way x.name.way a.1 (ap (λ (n : NodeName). n.way) e ∙ b.1)

  own_apart : (b : Bool) (name : NodeName) (joint : Joint) → Rises OtherName (standing b name joint)
  own_apart true name joint = tt
  own_apart false name joint = ((λ y at. absurd at), tt)

  row_apart : (way : List Turn) (t : Term) → Rises OtherName (row_nodes of k way t)
  row_apart way (Constant b) = tt
  row_apart way (Signal s) = tt
  row_apart way (Or l r) = tt
  row_apart way (Not t) =
      rises_append OtherName (row_nodes of k (Left ∷ way) t) (not_nodes of k way t) (row_apart (Left ∷ way) t) (own_apart (is_fixed (folded of k (Left ∷ way) t)) _ _)
      (λ x y a b. above_own Left way x y (row_under (Left ∷ way) t x a) (own way _ _ y b))
  row_apart way (And l r) =
      rises_append OtherName (row_nodes of k (Left ∷ way) l ++ row_nodes of k (Right ∷ way) r) (and_nodes of k way l r)
      (rises_append OtherName (row_nodes of k (Left ∷ way) l) (row_nodes of k (Right ∷ way) r) (row_apart (Left ∷ way) l) (row_apart (Right ∷ way) r)
      (λ x y a b. sides way x y (row_under (Left ∷ way) l x a) (row_under (Right ∷ way) r y b)))
      (own_apart (is_fixed (folded of k (Left ∷ way) l) || is_fixed (folded of k (Right ∷ way) r)) _ _)
      (λ x y a b. elim (among_either x (row_nodes of k (Left ∷ way) l) (row_nodes of k (Right ∷ way) r) a) [
        | inl z ↦ above_own Left way x y (row_under (Left ∷ way) l x z) (own way _ _ y b)
        | inr z ↦ above_own Right way x y (row_under (Right ∷ way) r x z) (own way _ _ y b)
      ])

  inside_apart : (way : List Turn) (t : Term) → Rises OtherName (inside_nodes of k way t)
  inside_apart way (Constant b) = tt
  inside_apart way (Signal s) = tt
  inside_apart way (Not t) = row_apart way (Not t)
  inside_apart way (And l r) = row_apart way (And l r)
  inside_apart way (Or l r) =
      rises_append OtherName (inside_nodes of k (Left ∷ way) l) (inside_nodes of k (Right ∷ way) r) (inside_apart (Left ∷ way) l) (inside_apart (Right ∷ way) r)
      (λ x y a b. sides way x y (inside_under (Left ∷ way) l x a) (inside_under (Right ∷ way) r y b))

  above_apart : (way : List Turn) (t : Term) → Rises OtherName (above_nodes of k way t)
  above_apart way (Constant b) = tt
  above_apart way (Signal s) = tt
  above_apart way (Not t) = tt
  above_apart way (And l r) = tt
  above_apart way (Or l r) =
      rises_append OtherName (above_nodes of k (Left ∷ way) l ++ above_nodes of k (Right ∷ way) r) (or_nodes of k way l r)
      (rises_append OtherName (above_nodes of k (Left ∷ way) l) (above_nodes of k (Right ∷ way) r) (above_apart (Left ∷ way) l) (above_apart (Right ∷ way) r)
      (λ x y a b. sides way x y (above_under (Left ∷ way) l x a) (above_under (Right ∷ way) r y b)))
      (own_apart (is_fixed (folded of k (Left ∷ way) l) || is_fixed (folded of k (Right ∷ way) r)) _ _)
      (λ x y a b. elim (among_either x (above_nodes of k (Left ∷ way) l) (above_nodes of k (Right ∷ way) r) a) [
        | inl z ↦ above_own Left way x y (above_under (Left ∷ way) l x z) (own way _ _ y b)
        | inr z ↦ above_own Right way x y (above_under (Right ∷ way) r x z) (own way _ _ y b)
      ])

  -- nodes inside the rows differ from those above them
  rows_differ : (way : List Turn) (t : Term) (x y : NamedNode) → Among x (inside_nodes of k way t) → Among y (above_nodes of k way t) → OtherName x y
  rows_differ way (Constant b) x y a b' e = absurd b'
  rows_differ way (Signal s) x y a b e = absurd b
  rows_differ way (Not t) x y a b e = absurd b
  rows_differ way (And l r) x y a b e = absurd b
  rows_differ way (Or l r) x y a b e =
      elim (among_either x (inside_nodes of k (Left ∷ way) l) (inside_nodes of k (Right ∷ way) r) a) [
        | inl xl ↦ elim (among_either y (above_nodes of k (Left ∷ way) l ++ above_nodes of k (Right ∷ way) r) (or_nodes of k way l r) b) [
          | inr o ↦ above_own Left way x y (inside_under (Left ∷ way) l x xl) (own way _ _ y o) e
          | inl z ↦ elim (among_either y (above_nodes of k (Left ∷ way) l) (above_nodes of k (Right ∷ way) r) z) [
            | inl yl ↦ rows_differ (Left ∷ way) l x y xl yl e
            | inr yr ↦ sides way x y (inside_under (Left ∷ way) l x xl) (above_under (Right ∷ way) r y yr) e
          ]
        ]
        | inr xr ↦ elim (among_either y (above_nodes of k (Left ∷ way) l ++ above_nodes of k (Right ∷ way) r) (or_nodes of k way l r) b) [
          | inr o ↦ above_own Right way x y (inside_under (Right ∷ way) r x xr) (own way _ _ y o) e
          | inl z ↦ elim (among_either y (above_nodes of k (Left ∷ way) l) (above_nodes of k (Right ∷ way) r) z) [
            | inl yl ↦ sides way y x (above_under (Left ∷ way) l y yl) (inside_under (Right ∷ way) r x xr) (sym e)
            | inr yr ↦ rows_differ (Right ∷ way) r x y xr yr e
          ]
        ]
      ]

  rows_apart : (way : List Turn) (t : Term) → Rises OtherName (rows_nodes of k way t)
  rows_apart way t = rises_append OtherName (inside_nodes of k way t) (above_nodes of k way t) (inside_apart way t) (above_apart way t) (rows_differ way t)

  rows_under : (way : List Turn) (t : Term) (x : NamedNode) → Among x (rows_nodes of k way t) → IsUnder way x
  rows_under way t x at = elim (among_either x (inside_nodes of k way t) (above_nodes of k way t) at) [ inl y ↦ inside_under way t x y | inr y ↦ above_under way t x y ]

  table_apart : (t : NetTableData) → Rises OtherName (table_nodes of k t) × ((x : NamedNode) → Among x (table_nodes of k t) → x.name.table ≡ k)
  table_apart t = by t.on
    where
      R : Term
      R = rows_term t

      by : (on : Bool) → Rises OtherName (cond on (rows_nodes of k [] (rows_term t)) (rows_nodes of k (Left ∷ []) (rows_term t) ++ not_nodes of k [] (rows_term t)))
          × ((x : NamedNode) → Among x (cond on (rows_nodes of k [] (rows_term t)) (rows_nodes of k (Left ∷ []) (rows_term t) ++ not_nodes of k [] (rows_term t))) → x.name.table ≡ k)
      by true = (rows_apart [] (rows_term t), λ x at. (rows_under [] (rows_term t) x at).0)
      by false = (
        rises_append OtherName (rows_nodes of k (Left ∷ []) (rows_term t)) (not_nodes of k [] (rows_term t)) (rows_apart (Left ∷ []) (rows_term t)) (own_apart (is_fixed (folded of k (Left ∷ []) (rows_term t))) _ _)
            (λ x y a b. above_own Left [] x y (rows_under (Left ∷ []) (rows_term t) x a) (own [] _ _ y b)),
        λ x at. elim (among_either x (rows_nodes of k (Left ∷ []) (rows_term t)) (not_nodes of k [] (rows_term t)) at) [
          | inl y ↦ (rows_under (Left ∷ []) (rows_term t) x y).0
          | inr y ↦ (own [] _ _ x y).0
        ],
      )

tables_apart : (of : ℕ → Operand) (a : ℕ) (tables : List NetTableData)
    → Rises OtherName (flat_map (λ p. table_nodes of p.0 p.1) (enumerate_from a tables)) × ((x : NamedNode) → Among x (flat_map (λ p. table_nodes of p.0 p.1) (enumerate_from a tables)) → a ≤ x.name.table)
tables_apart of a [] = (tt, λ x at. absurd at)
tables_apart of a (t ∷ tables) =
    let own = table_apart of a t in
    let more = tables_apart of (a + 1) tables in (
      rises_append OtherName (table_nodes of a t) (flat_map (λ p. table_nodes of p.0 p.1) (enumerate_from (a + 1) tables)) own.0 more.0
          (λ x y p q e. let low = more.1 y q in let here = own.1 x p in let same = ap (λ (n : NodeName). n.table) e in omega arith),
      λ x at. elim (among_either x (table_nodes of a t) (flat_map (λ p. table_nodes of p.0 p.1) (enumerate_from (a + 1) tables)) at) [
        | inl p ↦ (let here = own.1 x p in omega arith)
        | inr q ↦ (let low = more.1 x q in omega arith)
      ],
    )

-- among nodes of different names each is found at its own place
found_at : (nodes : List NamedNode) → Rises OtherName nodes → (k : ℕ) (name : NodeName) → slice_get (map (λ n. n.name) nodes) k ≡ Some name
    → position_or_len (same_name name) (map (λ n. n.name) nodes) ≡ k
found_at [] h k name e = absurd (cc)
found_at (n ∷ nodes) h zero name e =
    let here : n.name ≡ name = same_Some n.name name e in
    rw (here, same_name-self name) refl
found_at (n ∷ nodes) h (suc k) name e = by (same_name name n.name) refl (found_at nodes h.1 k name e)
  where
    by : (b : Bool) → same_name name n.name ≡ b → position_or_len (same_name name) (map (λ m. m.name) nodes) ≡ k → cond (not b) (1 + position_or_len (same_name name) (map (λ m. m.name) nodes)) 0 ≡ suc k
    by false f g = omega arith
    by true f g =
        let later = named_later nodes k name e in
        absurd (h.0 later.0 later.1 (sym (same_name-is name n.name f) ∙ sym later.2))
      where
        named_later : (ns : List NamedNode) (i : ℕ) (m : NodeName) → slice_get (map (λ x. x.name) ns) i ≡ Some m → (x : NamedNode) × Among x ns × (x.name ≡ m)
        named_later [] i m e' = absurd (cc)
        named_later (x ∷ ns) zero m e' = (x, inl refl, same_Some x.name m e')
        named_later (x ∷ ns) (suc i) m e' = let r = named_later ns i m e' in (r.0, inr r.1, r.2)

pub names_are_apart : NamesAreApart
names_are_apart = λ network of k name e. found_at (network_nodes of network) (tables_apart of 0 network.tables).0 k name e

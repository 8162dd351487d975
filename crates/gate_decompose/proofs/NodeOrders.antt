-- The nodes of a network's gates read only nodes before them, and only its leaves.
use Rattle.std.proofs.Common.{◌≡◌, ◌⊎◌, inl, inr, refl, sym, subst, ℕ, zero, suc, ◌+◌, ◌≤◌, ◌<◌, Bool, true, false, cond, ◌||◌, List, [], ◌∷◌, ◌++◌, length, flat_map, Some, slice_get, arith, add-zero}
use Rattle.std.specs.Prelude.{All}
use Rattle.std.specs.List.{enumerate_from}
use Rattle.std.proofs.lemmas.Bool.{cases_lt}
use Rattle.network.specs.NetworkData.{NetTableData}
use Rattle.gate_decompose.specs.GateNodes.{AndOf, Fixed, Input, Joint, Left, Made, NamedNode, NodeName, NotOf, Operand, OrOf, Right, Turn, above_nodes, and_nodes, folded, folded_and, folded_not, folded_or, inside_nodes, is_fixed, not_nodes, or_nodes, row_nodes, rows_nodes, standing, table_nodes}
use Rattle.gate_decompose.specs.Terms.{And, Constant, Not, Or, Signal, Term, rows_term, table_term}
use Rattle.dom_base.proofs.Bools.{or_none}
use Rattle.gate_decompose.proofs.TermShapes.{AreRows, NoOr, SignalsBelow, rows_are}

-- a node of this name is among some
abbrev pub Has : NodeName → List NamedNode → Type 0
Has m [] = ⊥
Has m (x ∷ xs) = (x.name ≡ m) ⊎ Has m xs

has-left : (m : NodeName) (xs ys : List NamedNode) → Has m xs → Has m (xs ++ ys)
has-left m [] ys h = absurd h
has-left m (x ∷ xs) ys (inl e) = inl e
has-left m (x ∷ xs) ys (inr h) = inr (has-left m xs ys h)

has-right : (m : NodeName) (xs ys : List NamedNode) → Has m ys → Has m (xs ++ ys)
has-right m [] ys h = h
has-right m (x ∷ xs) ys h = inr (has-right m xs ys h)

pub has-place : (m : NodeName) (xs : List NamedNode) → Has m xs → (i : ℕ) × ((x : NamedNode) × (slice_get xs i ≡ Some x) × (x.name ≡ m))
has-place m [] h = absurd h
has-place m (x ∷ xs) (inl e) = (0, (x, refl, e))
has-place m (x ∷ xs) (inr h) = let r = has-place m xs h in (suc r.0, r.1)

-- what an operand and a joint read, where names are known and leaves are below a bound
module _ (leaves : ℕ) where
  abbrev pub IsIn : (NodeName → Type 0) → Operand → Type 0
  IsIn K (Fixed b) = Unit {0}
  IsIn K (Input leaf) = leaf < leaves
  IsIn K (Made name) = K name

  -- the same where it is no constant
  abbrev pub IsRead : (NodeName → Type 0) → Operand → Type 0
  IsRead K (Fixed b) = ⊥
  IsRead K (Input leaf) = leaf < leaves
  IsRead K (Made name) = K name

  read_from : (K : NodeName → Type 0) (a : Operand) → IsIn K a → is_fixed a ≡ false → IsRead K a
  read_from K (Fixed b) h e = absurd (cc)
  read_from K (Input leaf) h e = h
  read_from K (Made name) h e = h

  abbrev pub AreIn : (NodeName → Type 0) → Joint → Type 0
  AreIn K (NotOf a) = IsRead K a
  AreIn K (AndOf a b) = IsRead K a × IsRead K b
  AreIn K (OrOf a b) = IsRead K a × IsRead K b

  pub is_in-weaker : (K L : NodeName → Type 0) → ((m : NodeName) → K m → L m) → (a : Operand) → IsIn K a → IsIn L a
  is_in-weaker K L f (Fixed b) h = tt
  is_in-weaker K L f (Input leaf) h = h
  is_in-weaker K L f (Made name) h = f name h

  is_read-weaker : (K L : NodeName → Type 0) → ((m : NodeName) → K m → L m) → (a : Operand) → IsRead K a → IsRead L a
  is_read-weaker K L f (Fixed b) h = h
  is_read-weaker K L f (Input leaf) h = h
  is_read-weaker K L f (Made name) h = f name h

  are_in-weaker : (K L : NodeName → Type 0) → ((m : NodeName) → K m → L m) → (j : Joint) → AreIn K j → AreIn L j
  are_in-weaker K L f (NotOf a) h = is_read-weaker K L f a h
  are_in-weaker K L f (AndOf a b) h = (is_read-weaker K L f a h.0, is_read-weaker K L f b h.1)
  are_in-weaker K L f (OrOf a b) h = (is_read-weaker K L f a h.0, is_read-weaker K L f b h.1)

  -- each node reads what is known or stands before it
  abbrev pub Ordered : (NodeName → Type 0) → List NamedNode → Type 0
  Ordered K [] = Unit {0}
  Ordered K (x ∷ xs) = AreIn K x.joint × Ordered (λ m. K m ⊎ (x.name ≡ m)) xs

  ordered-weaker : (K L : NodeName → Type 0) → ((m : NodeName) → K m → L m) → (xs : List NamedNode) → Ordered K xs → Ordered L xs
  ordered-weaker K L f [] h = tt
  ordered-weaker K L f (x ∷ xs) h = (
    are_in-weaker K L f x.joint h.0,
    ordered-weaker (λ m. K m ⊎ (x.name ≡ m)) (λ m. L m ⊎ (x.name ≡ m)) (λ m g. elim g [ inl a ↦ inl (f m a) | inr e ↦ inr e ]) xs h.1,
  )

  ordered-append : (K : NodeName → Type 0) (xs ys : List NamedNode) → Ordered K xs → Ordered (λ m. K m ⊎ Has m xs) ys → Ordered K (xs ++ ys)
  ordered-append K [] ys a b = ordered-weaker (λ m. K m ⊎ Has m []) K (λ m g. elim g [ inl x ↦ x | inr x ↦ absurd x ]) ys b
  ordered-append K (x ∷ xs) ys a b = (
    a.0,
    ordered-append (λ m. K m ⊎ (x.name ≡ m)) xs ys a.1
        (ordered-weaker (λ m. K m ⊎ ((x.name ≡ m) ⊎ Has m xs)) (λ m. (K m ⊎ (x.name ≡ m)) ⊎ Has m xs)
        (λ m g. elim g [ inl k ↦ inl (inl k) | inr h ↦ elim h [ inl e ↦ inl (inr e) | inr r ↦ inr r ] ]) ys b),
  )

  -- what folding gives
  not_in : (K : NodeName → Type 0) (name : NodeName) (a : Operand) → (is_fixed a ≡ false → K name) → IsIn K (folded_not name a)
  not_in K name (Fixed b) f = tt
  not_in K name (Input leaf) f = f refl
  not_in K name (Made m) f = f refl

  and_in : (K : NodeName → Type 0) (name : NodeName) (a b : Operand) → IsIn K a → IsIn K b → ((is_fixed a || is_fixed b) ≡ false → K name) → IsIn K (folded_and name a b)
  and_in K name (Fixed false) b p q f = tt
  and_in K name (Fixed true) (Fixed false) p q f = tt
  and_in K name (Fixed true) (Fixed true) p q f = tt
  and_in K name (Fixed true) (Input leaf) p q f = q
  and_in K name (Fixed true) (Made m) p q f = q
  and_in K name (Input leaf) (Fixed false) p q f = tt
  and_in K name (Input leaf) (Fixed true) p q f = p
  and_in K name (Input leaf) (Input other) p q f = f refl
  and_in K name (Input leaf) (Made m) p q f = f refl
  and_in K name (Made m) (Fixed false) p q f = tt
  and_in K name (Made m) (Fixed true) p q f = p
  and_in K name (Made m) (Input leaf) p q f = f refl
  and_in K name (Made m) (Made n) p q f = f refl

  or_in : (K : NodeName → Type 0) (name : NodeName) (a b : Operand) → IsIn K a → IsIn K b → ((is_fixed a || is_fixed b) ≡ false → K name) → IsIn K (folded_or name a b)
  or_in K name (Fixed true) b p q f = tt
  or_in K name (Fixed false) (Fixed false) p q f = tt
  or_in K name (Fixed false) (Fixed true) p q f = tt
  or_in K name (Fixed false) (Input leaf) p q f = q
  or_in K name (Fixed false) (Made m) p q f = q
  or_in K name (Input leaf) (Fixed false) p q f = p
  or_in K name (Input leaf) (Fixed true) p q f = tt
  or_in K name (Input leaf) (Input other) p q f = f refl
  or_in K name (Input leaf) (Made m) p q f = f refl
  or_in K name (Made m) (Fixed false) p q f = p
  or_in K name (Made m) (Fixed true) p q f = tt
  or_in K name (Made m) (Input leaf) p q f = f refl
  or_in K name (Made m) (Made n) p q f = f refl

  -- a node that stands is ordered and is there; one that doesn't adds nothing
  stands : (K : NodeName → Type 0) (b : Bool) (name : NodeName) (j : Joint) → (b ≡ false → AreIn K j) → Ordered K (standing b name j) × (b ≡ false → Has name (standing b name j))
  stands K true name j h = (tt, λ e. absurd (cc))
  stands K false name j h = ((h refl, tt), λ e. inl refl)

  module _ (of : ℕ → Operand) (table : ℕ) where
    -- each signal of a term comes to what is known
    abbrev Signals : (NodeName → Type 0) → Term → Type 0
    Signals K (Constant b) = Unit {0}
    Signals K (Signal s) = IsIn K (of s)
    Signals K (Not t) = Signals K t
    Signals K (And l r) = Signals K l × Signals K r
    Signals K (Or l r) = Signals K l × Signals K r

    signals-weaker : (K L : NodeName → Type 0) → ((m : NodeName) → K m → L m) → (t : Term) → Signals K t → Signals L t
    signals-weaker K L f (Constant b) h = tt
    signals-weaker K L f (Signal s) h = is_in-weaker K L f (of s) h
    signals-weaker K L f (Not t) h = signals-weaker K L f t h
    signals-weaker K L f (And l r) h = (signals-weaker K L f l h.0, signals-weaker K L f r h.1)
    signals-weaker K L f (Or l r) h = (signals-weaker K L f l h.0, signals-weaker K L f r h.1)

    -- the nodes of a row
    row_in : (K : NodeName → Type 0) (way : List Turn) (t : Term) → NoOr t → Signals K t
        → Ordered K (row_nodes of table way t) × IsIn (λ m. K m ⊎ Has m (row_nodes of table way t)) (folded of table way t)
    row_in K way (Constant b) plain h = (tt, tt)
    row_in K way (Signal s) plain h = (tt, is_in-weaker K (λ m. K m ⊎ Has m []) (λ m k. inl k) (of s) h)
    row_in K way (Not t) plain h =
        let below = row_nodes of table (Left ∷ way) t in
        let a = folded of table (Left ∷ way) t in
        let r = row_in K (Left ∷ way) t plain h in
        let name : NodeName = record { table = table; way = way } in
        let s = stands (λ m. K m ⊎ Has m below) (is_fixed a) name (NotOf a) (λ e. read_from (λ m. K m ⊎ Has m below) a r.1 e) in
        (ordered-append K below (not_nodes of table way t) r.0 s.0, not_in (λ m. K m ⊎ Has m (below ++ not_nodes of table way t)) name a (λ e. inr (has-right name below (not_nodes of table way t) (s.1 e))))
    row_in K way (And l r) plain h =
        let left = row_nodes of table (Left ∷ way) l in
        let right = row_nodes of table (Right ∷ way) r in
        let a = folded of table (Left ∷ way) l in
        let b = folded of table (Right ∷ way) r in
        let last = and_nodes of table way l r in
        let x = row_in K (Left ∷ way) l plain.0 h.0 in
        let y = row_in K (Right ∷ way) r plain.1 h.1 in
        let name : NodeName = record { table = table; way = way } in
        let L : NodeName → Type 0 = λ m. K m ⊎ Has m (left ++ right) in
        let in_left = is_in-weaker (λ m. K m ⊎ Has m left) L (λ m g. elim g [ inl k ↦ inl k | inr q ↦ inr (has-left m left right q) ]) a x.1 in
        let in_right = is_in-weaker (λ m. K m ⊎ Has m right) L (λ m g. elim g [ inl k ↦ inl k | inr q ↦ inr (has-right m left right q) ]) b y.1 in
        let s = stands L (is_fixed a || is_fixed b) name (AndOf a b) (λ e. let p = or_none (is_fixed a) (is_fixed b) e in (read_from L a in_left p.0, read_from L b in_right p.1)) in
        let M : NodeName → Type 0 = λ m. K m ⊎ Has m (left ++ right ++ last) in
        let up : (m : NodeName) → L m → M m = λ m g. elim g [ inl k ↦ inl k | inr q ↦ inr (has-left m (left ++ right) last q) ] in (
          ordered-append K (left ++ right) last (ordered-append K left right x.0 (ordered-weaker K (λ m. K m ⊎ Has m left) (λ m k. inl k) right y.0)) s.0,
          and_in M name a b (is_in-weaker L M up a in_left) (is_in-weaker L M up b in_right) (λ e. inr (has-right name (left ++ right) last (s.1 e))),
        )
    row_in K way (Or l r) plain h = absurd plain

    -- the nodes inside the rows
    inside_in : (K : NodeName → Type 0) (way : List Turn) (t : Term) → AreRows t → Signals K t → Ordered K (inside_nodes of table way t)
    inside_in K way (Constant b) rows h = tt
    inside_in K way (Signal s) rows h = tt
    inside_in K way (Not t) rows h = (row_in K way (Not t) rows h).0
    inside_in K way (And l r) rows h = (row_in K way (And l r) rows h).0
    inside_in K way (Or l r) rows h =
        let left = inside_nodes of table (Left ∷ way) l in
        ordered-append K left (inside_nodes of table (Right ∷ way) r) (inside_in K (Left ∷ way) l rows.0 h.0)
        (ordered-weaker K (λ m. K m ⊎ Has m left) (λ m k. inl k) (inside_nodes of table (Right ∷ way) r) (inside_in K (Right ∷ way) r rows.1 h.1))

    -- a row, where the nodes inside it are known
    known_row : (K : NodeName → Type 0) (way : List Turn) (t : Term) → NoOr t → Signals K t → ((m : NodeName) → Has m (row_nodes of table way t) → K m)
        → IsIn (λ m. K m ⊎ Has m []) (folded of table way t)
    known_row K way t plain h known =
        is_in-weaker (λ m. K m ⊎ Has m (row_nodes of table way t)) (λ m. K m ⊎ Has m []) (λ m g. elim g [ inl k ↦ inl k | inr q ↦ inl (known m q) ]) (folded of table way t) (row_in K way t plain h).1

    -- and those of the Or above them
    above_in : (K : NodeName → Type 0) (way : List Turn) (t : Term) → AreRows t → Signals K t → ((m : NodeName) → Has m (inside_nodes of table way t) → K m)
        → Ordered K (above_nodes of table way t) × IsIn (λ m. K m ⊎ Has m (above_nodes of table way t)) (folded of table way t)
    above_in K way (Constant b) rows h known = (tt, tt)
    above_in K way (Signal s) rows h known = (tt, known_row K way (Signal s) tt h known)
    above_in K way (Not t) rows h known = (tt, known_row K way (Not t) rows h known)
    above_in K way (And l r) rows h known = (tt, known_row K way (And l r) rows h known)
    above_in K way (Or l r) rows h known =
        let in_l = inside_nodes of table (Left ∷ way) l in
        let in_r = inside_nodes of table (Right ∷ way) r in
        let left = above_nodes of table (Left ∷ way) l in
        let right = above_nodes of table (Right ∷ way) r in
        let a = folded of table (Left ∷ way) l in
        let b = folded of table (Right ∷ way) r in
        let last = or_nodes of table way l r in
        let x = above_in K (Left ∷ way) l rows.0 h.0 (λ m q. known m (has-left m in_l in_r q)) in
        let y = above_in K (Right ∷ way) r rows.1 h.1 (λ m q. known m (has-right m in_l in_r q)) in
        let name : NodeName = record { table = table; way = way } in
        let L : NodeName → Type 0 = λ m. K m ⊎ Has m (left ++ right) in
        let in_left = is_in-weaker (λ m. K m ⊎ Has m left) L (λ m g. elim g [ inl k ↦ inl k | inr q ↦ inr (has-left m left right q) ]) a x.1 in
        let in_right = is_in-weaker (λ m. K m ⊎ Has m right) L (λ m g. elim g [ inl k ↦ inl k | inr q ↦ inr (has-right m left right q) ]) b y.1 in
        let s = stands L (is_fixed a || is_fixed b) name (OrOf a b) (λ e. let p = or_none (is_fixed a) (is_fixed b) e in (read_from L a in_left p.0, read_from L b in_right p.1)) in
        let M : NodeName → Type 0 = λ m. K m ⊎ Has m (left ++ right ++ last) in
        let up : (m : NodeName) → L m → M m = λ m g. elim g [ inl k ↦ inl k | inr q ↦ inr (has-left m (left ++ right) last q) ] in (
          ordered-append K (left ++ right) last (ordered-append K left right x.0 (ordered-weaker K (λ m. K m ⊎ Has m left) (λ m k. inl k) right y.0)) s.0,
          or_in M name a b (is_in-weaker L M up a in_left) (is_in-weaker L M up b in_right) (λ e. inr (has-right name (left ++ right) last (s.1 e))),
        )

    rows_in : (K : NodeName → Type 0) (way : List Turn) (t : Term) → AreRows t → Signals K t
        → Ordered K (rows_nodes of table way t) × IsIn (λ m. K m ⊎ Has m (rows_nodes of table way t)) (folded of table way t)
    rows_in K way t rows h =
        let inside = inside_nodes of table way t in
        let above = above_nodes of table way t in
        let L : NodeName → Type 0 = λ m. K m ⊎ Has m inside in
        let x = inside_in K way t rows h in
        let y = above_in L way t rows (signals-weaker K L (λ m k. inl k) t h) (λ m q. inr q) in (
          ordered-append K inside above x y.0,
          is_in-weaker (λ m. L m ⊎ Has m above) (λ m. K m ⊎ Has m (inside ++ above))
              (λ m g. elim g [ inl k ↦ elim k [ inl z ↦ inl z | inr q ↦ inr (has-left m inside above q) ] | inr q ↦ inr (has-right m inside above q) ]) (folded of table way t) y.1,
        )

    signals_from : (K : NodeName → Type 0) (bound : ℕ) (t : Term) → ((s : ℕ) → s < bound → IsIn K (of s)) → SignalsBelow bound t → Signals K t
    signals_from K bound (Constant b) f h = tt
    signals_from K bound (Signal s) f h = f s h
    signals_from K bound (Not t) f h = signals_from K bound t f h
    signals_from K bound (And l r) f h = (signals_from K bound l f h.0, signals_from K bound r f h.1)
    signals_from K bound (Or l r) f h = (signals_from K bound l f h.0, signals_from K bound r f h.1)

    table_in : (K : NodeName → Type 0) (bound : ℕ) (t : NetTableData) → All (λ s. s < bound) t.inputs → ((s : ℕ) → s < bound → IsIn K (of s))
        → Ordered K (table_nodes of table t) × IsIn (λ m. K m ⊎ Has m (table_nodes of table t)) (folded of table [] (table_term t))
    table_in K bound t inputs f = by t.on
      where
        by : (b : Bool) → Ordered K (cond b (rows_nodes of table [] (rows_term t)) (rows_nodes of table (Left ∷ []) (rows_term t) ++ not_nodes of table [] (rows_term t)))
            × IsIn (λ m. K m ⊎ Has m (cond b (rows_nodes of table [] (rows_term t)) (rows_nodes of table (Left ∷ []) (rows_term t) ++ not_nodes of table [] (rows_term t))))
            (folded of table [] (cond b (rows_term t) (Not (rows_term t))))
        by true = rows_in K [] (rows_term t) (rows_are bound t inputs).0 (signals_from K bound (rows_term t) f (rows_are bound t inputs).1)
        by false =
            let below = rows_nodes of table (Left ∷ []) (rows_term t) in
            let a = folded of table (Left ∷ []) (rows_term t) in
            let last = not_nodes of table [] (rows_term t) in
            let r = rows_in K (Left ∷ []) (rows_term t) (rows_are bound t inputs).0 (signals_from K bound (rows_term t) f (rows_are bound t inputs).1) in
            let name : NodeName = record { table = table; way = [] } in
            let s = stands (λ m. K m ⊎ Has m below) (is_fixed a) name (NotOf a) (λ e. read_from (λ m. K m ⊎ Has m below) a r.1 e) in
            (ordered-append K below last r.0 s.0, not_in (λ m. K m ⊎ Has m (below ++ last)) name a (λ e. inr (has-right name below last (s.1 e))))

  -- the nodes of all tables, from number k on
  module _ (of : ℕ → Operand) where
    pub tables_in : (K : NodeName → Type 0) (k : ℕ) (ts : List NetTableData)
        → ((i : ℕ) (t : NetTableData) → slice_get ts i ≡ Some t → All (λ s. s < leaves + (k + i)) t.inputs)
        → ((i : ℕ) (t : NetTableData) → slice_get ts i ≡ Some t → of (leaves + (k + i)) ≡ folded of (k + i) [] (table_term t))
        → ((s : ℕ) → s < leaves + k → IsIn K (of s))
        → Ordered K (flat_map (λ p. table_nodes of p.0 p.1) (enumerate_from k ts))
        × ((s : ℕ) → s < leaves + (k + length ts) → IsIn (λ m. K m ⊎ Has m (flat_map (λ p. table_nodes of p.0 p.1) (enumerate_from k ts))) (of s))
    tables_in K k [] inputs is known = (tt, λ s lt. is_in-weaker K (λ m. K m ⊎ Has m []) (λ m q. inl q) (of s) (known s (omega (arith, lt))))
    tables_in K k (t ∷ ts) inputs is known =
        let first = table_nodes of k t in
        let rest = flat_map (λ p. table_nodes of p.0 p.1) (enumerate_from (k + 1) ts) in
        let here : All (λ s. s < leaves + k) t.inputs = subst (λ n. All (λ s. s < leaves + n) t.inputs) (add-zero k) (inputs 0 t refl) in
        let one = table_in of k K (leaves + k) t here known in
        let L : NodeName → Type 0 = λ m. K m ⊎ Has m first in
        let made : of (leaves + k) ≡ folded of k [] (table_term t) = subst (λ n. of (leaves + n) ≡ folded of n [] (table_term t)) (add-zero k) (is 0 t refl) in
        let more = tables_in L (k + 1) ts
        (λ i u e. subst (λ n. All (λ s. s < leaves + n) u.inputs) (shift k i) (inputs (suc i) u e))
        (λ i u e. subst (λ n. of (leaves + n) ≡ folded of n [] (table_term u)) (shift k i) (is (suc i) u e))
        (λ s lt. elim (cases_lt s (leaves + k)) [
          | inl low ↦ is_in-weaker K L (λ m q. inl q) (of s) (known s low)
          | inr high ↦ subst (λ n. IsIn L (of n)) (same s lt high) (subst (IsIn L) (sym made) one.1)
        ]) in (
          ordered-append K first rest one.0 more.0,
          λ s lt.
              is_in-weaker (λ m. L m ⊎ Has m rest) (λ m. K m ⊎ Has m (first ++ rest))
              (λ m g. elim g [ inl q ↦ elim q [ inl z ↦ inl z | inr x ↦ inr (has-left m first rest x) ] | inr x ↦ inr (has-right m first rest x) ]) (of s) (more.1 s (omega (arith, lt))),
        )
      where
        shift : (a b : ℕ) → a + suc b ≡ a + 1 + b
        shift a b = omega arith

        same : (s : ℕ) → s < leaves + (k + 1) → leaves + k ≤ s → leaves + k ≡ s
        same s lt le = omega arith

  -- what a node at a place reads
  abbrev pub Before : List NamedNode → ℕ → NodeName → Type 0
  Before xs n m = (i : ℕ) × (i < n) × ((x : NamedNode) × (slice_get xs i ≡ Some x) × (x.name ≡ m))

  pub ordered-at : (K : NodeName → Type 0) (xs : List NamedNode) (n : ℕ) (x : NamedNode) → Ordered K xs → slice_get xs n ≡ Some x → AreIn (λ m. K m ⊎ Before xs n m) x.joint
  ordered-at K [] n x h e = absurd (cc)
  ordered-at K (y ∷ xs) zero x h e = let same : y ≡ x = cc in are_in-weaker K (λ m. K m ⊎ Before (y ∷ xs) zero m) (λ m q. inl q) x.joint (subst (λ (z : NamedNode). AreIn K z.joint) same h.0)
  ordered-at K (y ∷ xs) (suc n) x h e =
      are_in-weaker (λ m. (K m ⊎ (y.name ≡ m)) ⊎ Before xs n m) (λ m. K m ⊎ Before (y ∷ xs) (suc n) m)
      (λ m g. elim g [ inl q ↦ elim q [ inl z ↦ inl z | inr same ↦ inr (0, omega arith, (y, refl, same)) ] | inr (i, lt, found) ↦ inr (suc i, omega (arith, lt), found) ]) x.joint
      (ordered-at (λ m. K m ⊎ (y.name ≡ m)) xs n x h.1 e)

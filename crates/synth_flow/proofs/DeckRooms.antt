-- What the devices of a deck that stand already leave free for those behind them.
use Rattle.std.proofs.Common.{◌≡◌, ℕ, ◌+◌, ◌≤◌, ◌<◌, ◌^◌, Bool, true, false, not, ◌&&◌, List, [], ◌∷◌, ◌++◌, length, map, refl, sym, ap, ◌∙◌, subst, arith, nat_lt, nat_eq, inl, inr}
use Rattle.std.specs.Prelude.{codes}
use Rattle.std.specs.Fmt.{decimal}
use Rattle.std.specs.List.{AllByRecursion, IsDistinct, starts_with}
use Rattle.std.specs.Cmp.Lexicographic.{pointwise, bytes_decides}
use Rattle.std.proofs.lemmas.Option.{get_or_from_slice_get}
use Rattle.dom_base.specs.declared.kind.Kind.{Kind}
use Rattle.dom_base.specs.declared.kind.Kind.TheVariants.{N as nch}
use Rattle.dom_base.proofs.Lists.{AllByRecursion-append, AllByRecursion-weaker}
use Rattle.deck.specs.CircuitData.{CircuitData}
use Rattle.deck.specs.NamedDevices.{NamedDevice}
use Rattle.deck.specs.Nets.{net_number}
use Rattle.deck.specs.Ports.{IsOutput}
use Rattle.deck.specs.Sources.{is_source}
use Rattle.deck.proofs.NetNumbers.{HasNumber-below, number_cases}
use Rattle.gate_decompose.specs.Items.{Among, Rises}
use Rattle.sp_network.specs.Tree.{Tree, Leaf, Series, Parallel, EachLeaf, inner_count}
use Rattle.sp_network.specs.TypedTree.{tree_of}
use Rattle.sp_network.specs.declared.plan.GatePlan.{GatePlan}
use Rattle.domino_cell.specs.declared.style.Style.{Style}
use Rattle.domino_cell.specs.StyledCells.{styled_cell}
use Rattle.domino_cell.specs.NamedTrees.{named_tree}
use Rattle.domino_cell.specs.PushedNames.{numbered_cell}
use Rattle.domino_cell.specs.Spelling.{spell}
use Rattle.domino_cell.proofs.NamedCells.{is_source-inside}
use Rattle.latch_bind.specs.Latches.{named_latch}
use Rattle.synth_flow.specs.MadeDecks.{EndsApart, cells_from, inverters, latches_from}
use Rattle.deck_form.specs.NameParts.{number_of}
use Rattle.synth_flow.proofs.CellNets.{cell_cards, tree_names}
use Rattle.deck_form.proofs.NameParts.{HasNames, bare_number_is, none_named}

-- a property of the two ends of a device
abbrev pub HasEnds : (List ℕ → Type 0) → NamedDevice (List ℕ) → Type 0
HasEnds P d = P d.drain × P d.source

-- a net without the property is no end of such devices
pub ends_apart : (P : List ℕ → Type 0) (out : List ℕ) → (P out → ⊥) → (ds : List (NamedDevice (List ℕ))) → AllByRecursion (HasEnds P) ds → AllByRecursion (EndsApart out) ds
ends_apart P out lacks = AllByRecursion-weaker (HasEnds P) (EndsApart out) (λ d h. (λ e. lacks (subst P e h.0), λ e. lacks (subst P e h.1)))

pub tree_ends : (P : List ℕ → Type 0) (kind : Kind) (inner : ℕ → List ℕ) (t : Tree (List ℕ)) (top bottom : List ℕ) (n : ℕ) → P top → P bottom → ((j : ℕ) → P (inner j))
    → AllByRecursion (HasEnds P) (spell kind inner t top bottom n)
tree_ends P kind inner (Leaf gate) top bottom n a b i = ((a, b), tt)
tree_ends P kind inner (Series l r) top bottom n a b i =
    AllByRecursion-append (HasEnds P) (spell kind inner l top (inner n) (n + 1)) (spell kind inner r (inner n) bottom (n + 1 + inner_count l))
    (tree_ends P kind inner l top (inner n) (n + 1) a (i n) i) (tree_ends P kind inner r (inner n) bottom (n + 1 + inner_count l) (i n) b i)
tree_ends P kind inner (Parallel l r) top bottom n a b i =
    AllByRecursion-append (HasEnds P) (spell kind inner l top bottom n) (spell kind inner r top bottom (n + inner_count l))
    (tree_ends P kind inner l top bottom n a b i) (tree_ends P kind inner r top bottom (n + inner_count l) a b i)

-- what a property of names by their first letter says of the nets of cells, of simple and of compound ones, and of the supplies
pub record HoldsOfCells (P : List ℕ → Type 0) : Type 0 where
  pub d : (rest : List ℕ) → P (100 ∷ rest)
  pub f : (rest : List ℕ) → P (102 ∷ rest)
  pub t : (rest : List ℕ) → P (116 ∷ rest)
  pub e : (rest : List ℕ) → P (101 ∷ rest)
  pub g : (rest : List ℕ) → P (103 ∷ rest)
  pub u : (rest : List ℕ) → P (117 ∷ rest)
  pub z : (rest : List ℕ) → P (122 ∷ rest)
  pub v : (rest : List ℕ) → P (118 ∷ rest)

pub cells_end : (P : List ℕ → Type 0) → HoldsOfCells P → (style : Style) (names : List (List ℕ)) (k : ℕ) (plans : List GatePlan) → AllByRecursion (HasEnds P) (cells_from style names k plans)
cells_end P h style names k [] = tt
cells_end P h style names k (p ∷ plans) =
    let nets = numbered_cell p.clock k in
    let tree = named_tree names (tree_of p.tree) in
    let d : P nets.dynamic = h.d (decimal k) in
    let f : P nets.foot = h.f (decimal k) in
    let z : P nets.output = h.z (decimal k) in
    let vdd : P nets.vdd = h.v (100 ∷ 100 ∷ []) in
    let vss : P nets.vss = h.v (115 ∷ 115 ∷ []) in
    let inner : (j : ℕ) → P (nets.inner j) = λ j. h.t (decimal k ++ codes "_" ++ decimal j) in
    let of_tree = tree_ends P nch nets.inner tree nets.dynamic nets.foot 0 d f inner in
    AllByRecursion-append (HasEnds P) (styled_cell style nets tree) (cells_from style names (k + 1) plans)
    (cell_cards (HasEnds P) style nets tree (d, vdd) (d, vdd) (λ j. (inner j, vdd)) of_tree (f, vss) ((z, vdd), ((z, vss), tt)))
    (cells_end P h style names (k + 1) plans)

-- and of all their names, where it also holds of the nets of clocks and of gates
pub cells_named : (P : List ℕ → Type 0) → HoldsOfCells P → ((rest : List ℕ) → P (codes "ck" ++ rest)) → (style : Style) (names : List (List ℕ)) (k : ℕ) (plans : List GatePlan)
    → AllByRecursion (λ (p : GatePlan). EachLeaf P (named_tree names (tree_of p.tree))) plans → AllByRecursion (HasNames P) (cells_from style names k plans)
cells_named P h ck style names k [] all = tt
cells_named P h ck style names k (p ∷ plans) all =
    let nets = numbered_cell p.clock k in
    let tree = named_tree names (tree_of p.tree) in
    let d : P nets.dynamic = h.d (decimal k) in
    let f : P nets.foot = h.f (decimal k) in
    let z : P nets.output = h.z (decimal k) in
    let clock : P nets.clock = ck (decimal p.clock) in
    let vdd : P nets.vdd = h.v (100 ∷ 100 ∷ []) in
    let vss : P nets.vss = h.v (115 ∷ 115 ∷ []) in
    let inner : (j : ℕ) → P (nets.inner j) = λ j. h.t (decimal k ++ codes "_" ++ decimal j) in
    let of_tree = tree_names P nch nets.inner tree nets.dynamic nets.foot 0 d f inner all.0 in
    AllByRecursion-append (HasNames P) (styled_cell style nets tree) (cells_from style names (k + 1) plans)
    (cell_cards (HasNames P) style nets tree (d, clock, vdd) (d, z, vdd) (λ j. (inner j, clock, vdd)) of_tree (f, clock, vss) ((z, d, vdd), ((z, d, vss), tt)))
    (cells_named P h ck style names (k + 1) plans all.1)

-- inverters end at their outputs and the supplies, and name their gates
pub inverters_end : (P : List ℕ → Type 0) → ((rest : List ℕ) → P (118 ∷ rest)) → (gates outs : List (List ℕ)) → AllByRecursion P outs → AllByRecursion (HasEnds P) (inverters gates outs)
inverters_end P v [] outs all = tt
inverters_end P v (x ∷ gates) [] all = tt
inverters_end P v (x ∷ gates) (y ∷ outs) all = ((all.0, v (100 ∷ 100 ∷ [])), ((all.0, v (115 ∷ 115 ∷ [])), inverters_end P v gates outs all.1))

pub inverters_named : (P : List ℕ → Type 0) → ((rest : List ℕ) → P (118 ∷ rest)) → (gates outs : List (List ℕ)) → AllByRecursion P gates → AllByRecursion P outs → AllByRecursion (HasNames P) (inverters gates outs)
inverters_named P v [] outs all these = tt
inverters_named P v (x ∷ gates) [] all these = tt
inverters_named P v (x ∷ gates) (y ∷ outs) all these =
    ((these.0, all.0, v (100 ∷ 100 ∷ [])), ((these.0, all.0, v (115 ∷ 115 ∷ [])), inverters_named P v gates outs all.1 these.1))

-- latches end at their own nets and the supplies
pub latches_end : (P : List ℕ → Type 0) → ((rest : List ℕ) → P (109 ∷ rest)) → ((rest : List ℕ) → P (113 ∷ rest)) → ((rest : List ℕ) → P (118 ∷ rest)) → (j : ℕ) (starts : List Bool)
    → AllByRecursion (HasEnds P) (latches_from j starts)
latches_end P m q v j [] = tt
latches_end P m q v j (start ∷ starts) =
    AllByRecursion-append (HasEnds P) (named_latch (j, start)) (latches_from (j + 1) starts) (one start) (latches_end P m q v (j + 1) starts)
  where
    vdd : P (codes "vdd")
    vdd = v (100 ∷ 100 ∷ [])

    vss : P (codes "vss")
    vss = v (115 ∷ 115 ∷ [])

    p : List ℕ
    p = codes "p"

    one : (b : Bool) → AllByRecursion (HasEnds P) (named_latch (j, b))
    one false = (
      (m (decimal j), m (decimal j ++ codes "p")),
      (
        (m (decimal j ++ codes "p"), vdd),
        (
          (m (decimal j), m (decimal j ++ codes "n")),
          (
            (m (decimal j ++ codes "n"), vss),
            (
              (q (decimal j), q (decimal j ++ codes "p")),
              (
                (q (decimal j ++ codes "p"), vdd),
                (
                  (q (decimal j), q (decimal j ++ codes "n")),
                  (
                    (q (decimal j ++ codes "n"), vss),
                    ((q (decimal j), vss), tt),
                  ),
                ),
              ),
            ),
          ),
        ),
      ),
    )
    one true = (
      (m (decimal j), m (decimal j ++ codes "p")),
      (
        (m (decimal j ++ codes "p"), vdd),
        (
          (m (decimal j), m (decimal j ++ codes "n")),
          (
            (m (decimal j ++ codes "n"), vss),
            (
              (q (decimal j), q (decimal j ++ codes "p")),
              (
                (q (decimal j ++ codes "p"), vdd),
                (
                  (q (decimal j), q (decimal j ++ codes "n")),
                  (
                    (q (decimal j ++ codes "n"), vss),
                    ((q (decimal j), vdd), tt),
                  ),
                ),
              ),
            ),
          ),
        ),
      ),
    )

-- a name that isn't among the nets is no source
pub new_no_source : (c : CircuitData) (P : List ℕ → Type 0) (out : List ℕ) → c.ports ≤ length c.nets → (P out → ⊥) → AllByRecursion P c.nets → is_source c (net_number c.nets out) ≡ false
new_no_source c P out low lacks all =
    elim (number_cases (pointwise nat_eq out) c.nets) [
      | inl h ↦ absurd (let never : true ≡ false = sym h.0 ∙ none_named P out lacks c.nets all in cc)
      | inr h ↦ is_source-inside c (net_number c.nets out) (omega (arith, h.1, low))
    ]

-- an output is none
pub output_no_source : (c : CircuitData) (out : List ℕ) → c.ports ≤ length c.nets → IsOutput out → is_source c (net_number c.nets out) ≡ false
output_no_source c out low is =
    elim (number_cases (pointwise nat_eq out) c.nets) [
      | inl h ↦
          let at = get_or_from_slice_get c.nets (net_number c.nets out) out [] (HasNumber-below c.nets out h.1) in
          ap (λ name. nat_lt (net_number c.nets out) c.ports && not (starts_with nat_eq name (codes "o_"))) at
          ∙ ap (λ b. nat_lt (net_number c.nets out) c.ports && not b) is ∙ and_false (nat_lt (net_number c.nets out) c.ports)
      | inr h ↦ is_source-inside c (net_number c.nets out) (omega (arith, h.1, low))
    ]
  where
    and_false : (b : Bool) → (b && false) ≡ false
    and_false true = refl
    and_false false = refl

-- names of one letter with rising numbers differ
pub numbered_apart : (letter : ℕ) (numbers : List ℕ) → Rises (λ x y. x < y) numbers → AllByRecursion (λ n. n < 2 ^ 64) numbers → IsDistinct (pointwise nat_eq) (map (λ n. letter ∷ decimal n) numbers)
unfolding IsDistinct
numbered_apart letter [] rises small = tt
numbered_apart letter (n ∷ numbers) rises small = (each numbers small.1 rises.0, numbered_apart letter numbers rises.1 small.1)
  where
    each : (ns : List ℕ) → AllByRecursion (λ m. m < 2 ^ 64) ns → ((m : ℕ) → Among m ns → n < m) → AllByRecursion (λ y. pointwise nat_eq (letter ∷ decimal n) y ≡ false) (map (λ m. letter ∷ decimal m) ns)
    each [] s above = tt
    each (m ∷ ns) s above = (by (pointwise nat_eq (letter ∷ decimal n) (letter ∷ decimal m)) refl, each ns s.1 (λ o at. above o (inr at)))
      where
        by : (b : Bool) → pointwise nat_eq (letter ∷ decimal n) (letter ∷ decimal m) ≡ b → pointwise nat_eq (letter ∷ decimal n) (letter ∷ decimal m) ≡ false
        by false e = e
        by true e =
            let same = ap number_of ((bytes_decides (letter ∷ decimal n) (letter ∷ decimal m)).0 e) in
            absurd (omega (arith, same, bare_number_is letter n small.0, bare_number_is letter m s.0, above m (inl refl)))

pub ruleset deck_rooms = (cells_named, latches_end, output_no_source, numbered_apart)

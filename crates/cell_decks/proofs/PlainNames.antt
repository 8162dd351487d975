-- The names of the nets of a deck have no `=`.
use Rattle.std.proofs.Common.{◌≡◌, ◌≢◌, ℕ, zero, suc, ◌+◌, ◌-◌, ◌*◌, ◌/◌, ◌%◌, Bool, true, false, not, cond, ◌==◌, nat_lt, if◌then◌else◌, List, [], ◌∷◌, ◌++◌, length, slice_index_or, codes, refl, arith, nat_eq, ltb-true}
use Rattle.std.specs.Prelude.{flat_map}
use Rattle.std.specs.List.{AllByRecursion, list_all}
use Rattle.std.specs.Fmt.{decimal, digits, digits_onto, digit_glyph}
use Rattle.std.proofs.lemmas.List.Elements.{All-nil, All-cons, All-append}
use Rattle.dom_base.specs.declared.kind.Kind.{Kind}
use Rattle.dom_base.specs.declared.kind.Kind.TheVariants.{N as nch, P as pch}
use Rattle.dom_base.proofs.Lists.{AllByRecursion-append}
use Rattle.deck.specs.CircuitData.{CircuitData}
use Rattle.deck.specs.DeckText.{HasNoEquals}
use Rattle.deck.specs.NamedDevices.{NamedDevice, with_devices}
use Rattle.deck.specs.Pushes.{pushed}
use Rattle.deck_calls.proofs.CellCircuits.{with_net-all}
use Rattle.deck.proofs.WordTests.{no_equals_by_test}
use Rattle.domino_cell.specs.Cell.{CellNets, inverter}
use Rattle.domino_cell.specs.PushedNames.{inner_front, numbered_cell}
use Rattle.domino_cell.specs.Spelling.{spell}
use Rattle.domino_cell.specs.declared.style.Style.{Style}
use Rattle.domino_cell.specs.declared.style.Style.TheVariants.{Keeper as WithKeeper, Precharge as WithPrecharge}
use Rattle.sp_network.specs.Tree.{EachLeaf, Leaf, Parallel, Series, Tree, inner_count, map_tree}
use Rattle.deck_form.specs.DeckNets.{CellPlan, SinkEnd, Fixed, OfDynamic, OfLeaf, OfOutput, complement_net, named_complement, named_gate, named_latch, named_reset, named_sink, own_net, rail_net, sink_gate, named_cell}
use Rattle.domino_cell.specs.StyledCells.{behind_precharge, inner_precharges, pull_down_cards, styled_cell}

glyph_good : (d : ℕ) → digit_glyph false d ≢ 61
glyph_good d = by (nat_lt d 10) refl
  where
    by : (b : Bool) → nat_lt d 10 ≡ b → (if b then 48 + d else 87 + d) ≢ 61
    by true lt = λ e. let low = ltb-true d 10 lt in omega (arith, e, low)
    by false ge = λ e. omega (arith, e)

onto_good : (k n : ℕ) (acc : List ℕ) → HasNoEquals acc → HasNoEquals (digits_onto k 10 false n acc)
onto_good zero n acc h = h
onto_good (suc k) n acc h = by (n / 10 == 0) (onto_good k (n / 10) (digit_glyph false (n % 10) ∷ acc) more)
  where
    more : HasNoEquals (digit_glyph false (n % 10) ∷ acc)
    more = All-cons (λ b. b ≢ 61) (digit_glyph false (n % 10)) acc (glyph_good (n % 10)) h

    by : (b : Bool) → HasNoEquals (digits_onto k 10 false (n / 10) (digit_glyph false (n % 10) ∷ acc))
        → HasNoEquals (if b then digit_glyph false (n % 10) ∷ acc else digits_onto k 10 false (n / 10) (digit_glyph false (n % 10) ∷ acc))
    by true rest = more
    by false rest = rest

-- the decimal digits of any number
pub decimal_good : (n : ℕ) → HasNoEquals (decimal n)
unfolding digits
decimal_good n = onto_good 64 n [] (All-nil (λ b. b ≢ 61))

numbered_good : (front : List ℕ) (n : ℕ) → list_all (λ b. not (nat_eq b 61)) front ≡ true → HasNoEquals (front ++ decimal n)
numbered_good front n h = All-append (λ b. b ≢ 61) front (decimal n) (no_equals_by_test front h) (decimal_good n)

lettered_good : (front : List ℕ) (n : ℕ) (back : List ℕ) → list_all (λ b. not (nat_eq b 61)) front ≡ true → list_all (λ b. not (nat_eq b 61)) back ≡ true → HasNoEquals (front ++ decimal n ++ back)
lettered_good front n back h g = All-append (λ b. b ≢ 61) (front ++ decimal n) back (numbered_good front n h) (no_equals_by_test back g)

-- a device whose nets have no `=`
abbrev pub HasGoodNets : NamedDevice (List ℕ) → Type 0
HasGoodNets d = HasNoEquals d.drain × HasNoEquals d.gate × HasNoEquals d.source

spell_good : (kind : Kind) (inner : ℕ → List ℕ) (t : Tree (List ℕ)) (top bottom : List ℕ) (k : ℕ) → ((j : ℕ) → HasNoEquals (inner j)) → EachLeaf HasNoEquals t → HasNoEquals top → HasNoEquals bottom
    → AllByRecursion HasGoodNets (spell kind inner t top bottom k)
spell_good kind inner (Leaf gate) top bottom k i g t b = ((t, g, b), tt)
spell_good kind inner (Series l r) top bottom k i g t b =
    AllByRecursion-append HasGoodNets (spell kind inner l top (inner k) (k + 1)) (spell kind inner r (inner k) bottom (k + 1 + inner_count l))
    (spell_good kind inner l top (inner k) (k + 1) i g.0 t (i k)) (spell_good kind inner r (inner k) bottom (k + 1 + inner_count l) i g.1 (i k) b)
spell_good kind inner (Parallel l r) top bottom k i g t b =
    AllByRecursion-append HasGoodNets (spell kind inner l top bottom k) (spell kind inner r top bottom (k + inner_count l))
    (spell_good kind inner l top bottom k i g.0 t b) (spell_good kind inner r top bottom (k + inner_count l) i g.1 t b)

-- a cell whose nets have no `=`
record AreGoodNets (nets : CellNets (List ℕ)) : Type 0 where
  vdd : HasNoEquals nets.vdd
  vss : HasNoEquals nets.vss
  clock : HasNoEquals nets.clock
  dynamic : HasNoEquals nets.dynamic
  output : HasNoEquals nets.output
  foot : HasNoEquals nets.foot
  inner : (j : ℕ) → HasNoEquals (nets.inner j)

cell_nets_good : (clock k : ℕ) → AreGoodNets (numbered_cell clock k)
cell_nets_good clock k = record {
  vdd = no_equals_by_test (codes "vdd") refl;
  vss = no_equals_by_test (codes "vss") refl;
  clock = numbered_good (codes "ck") clock refl;
  dynamic = numbered_good (codes "d") k refl;
  output = numbered_good (codes "z") k refl;
  foot = numbered_good (codes "f") k refl;
  inner = λ j. All-append (λ b. b ≢ 61) (inner_front k) (decimal j) (lettered_good (codes "t") k (codes "_") refl refl) (decimal_good j);
}

inner_good : (nets : CellNets (List ℕ)) → AreGoodNets nets → (j n : ℕ) → AllByRecursion HasGoodNets (inner_precharges nets j n)
inner_good nets g j zero = tt
inner_good nets g j (suc n) = ((g.inner j, g.clock, g.vdd), inner_good nets g (j + 1) n)

behind_good : (style : Style) (nets : CellNets (List ℕ)) → AreGoodNets nets → (n : ℕ) → AllByRecursion HasGoodNets (behind_precharge style nets n)
behind_good WithKeeper nets g n = ((g.dynamic, g.output, g.vdd), tt)
behind_good WithPrecharge nets g n = inner_good nets g 0 n

cell_good : (style : Style) (nets : CellNets (List ℕ)) (t : Tree (List ℕ)) → AreGoodNets nets → EachLeaf HasNoEquals t → AllByRecursion HasGoodNets (styled_cell style nets t)
cell_good style nets t g leaves =
    let first : NamedDevice (List ℕ) = record { kind = pch; drain = nets.dynamic; gate = nets.clock; source = nets.vdd } in
    let inv = inverter nets.vdd nets.vss nets.dynamic nets.output in
    AllByRecursion-append HasGoodNets (first ∷ behind_precharge style nets (inner_count t)) (pull_down_cards nets t ++ inv)
    ((g.dynamic, g.clock, g.vdd), behind_good style nets g (inner_count t))
    (AllByRecursion-append HasGoodNets (pull_down_cards nets t) inv
    (AllByRecursion-append HasGoodNets (spell nch nets.inner t nets.dynamic nets.foot 0) _ (spell_good _ nets.inner t nets.dynamic nets.foot 0 g.inner leaves g.dynamic g.foot) ((g.foot, g.clock, g.vss), tt))
    ((g.output, g.dynamic, g.vdd), ((g.output, g.dynamic, g.vss), tt)))

module _ (pins : List (List ℕ)) (pins_good : (i : ℕ) → HasNoEquals (slice_index_or pins i [])) where
  own_good : (leaf : ℕ) → HasNoEquals (own_net pins leaf)
  own_good leaf = by (nat_lt leaf (length pins))
    where
      by : (b : Bool) → HasNoEquals (cond b (slice_index_or pins leaf []) (codes "q" ++ decimal (leaf - length pins)))
      by true = pins_good leaf
      by false = numbered_good (codes "q") (leaf - length pins) refl

  rail_good : (leaf : ℕ) (plus : Bool) → HasNoEquals (rail_net pins leaf plus)
  rail_good leaf true = own_good leaf
  rail_good leaf false = numbered_good (codes "c") leaf refl

  gate_good : (leaf_count gate : ℕ) → HasNoEquals (named_gate pins leaf_count gate)
  gate_good leaf_count gate = by (nat_lt gate (2 * leaf_count))
    where
      by : (b : Bool) → HasNoEquals (cond b (rail_net pins (gate / 2) (gate % 2 == 0)) (codes "z" ++ decimal (gate - 2 * leaf_count)))
      by true = rail_good (gate / 2) (gate % 2 == 0)
      by false = numbered_good (codes "z") (gate - 2 * leaf_count) refl

  tree_good : (leaf_count : ℕ) (t : Tree ℕ) → EachLeaf HasNoEquals (map_tree (named_gate pins leaf_count) t)
  tree_good leaf_count (Leaf gate) = gate_good leaf_count gate
  tree_good leaf_count (Series l r) = (tree_good leaf_count l, tree_good leaf_count r)
  tree_good leaf_count (Parallel l r) = (tree_good leaf_count l, tree_good leaf_count r)

  pub cells_good : (style : Style) (leaf_count : ℕ) (ps : List (ℕ × CellPlan)) → AllByRecursion HasGoodNets (flat_map (named_cell style pins leaf_count) ps)
  cells_good style leaf_count [] = tt
  cells_good style leaf_count (p ∷ ps) =
      AllByRecursion-append HasGoodNets (named_cell style pins leaf_count p) (flat_map (named_cell style pins leaf_count) ps)
      (cell_good style (numbered_cell p.1.clock p.0) (map_tree (named_gate pins leaf_count) p.1.tree) (cell_nets_good p.1.clock p.0) (tree_good leaf_count p.1.tree)) (cells_good style leaf_count ps)

  inverter_good : (gate out : List ℕ) → HasNoEquals gate → HasNoEquals out → AllByRecursion HasGoodNets (inverter (codes "vdd") (codes "vss") gate out)
  inverter_good gate out g o = ((o, g, no_equals_by_test (codes "vdd") refl), ((o, g, no_equals_by_test (codes "vss") refl), tt))

  pub complements_good : (leaves : List ℕ) → AllByRecursion HasGoodNets (flat_map (named_complement pins) leaves)
  complements_good [] = tt
  complements_good (leaf ∷ leaves) =
      AllByRecursion-append HasGoodNets (named_complement pins leaf) (flat_map (named_complement pins) leaves)
      (inverter_good (own_net pins leaf) (complement_net leaf) (own_good leaf) (numbered_good (codes "c") leaf refl)) (complements_good leaves)

  sink_gate_good : (e : SinkEnd) → HasNoEquals (sink_gate pins e)
  sink_gate_good (Fixed false) = no_equals_by_test (codes "vdd") refl
  sink_gate_good (Fixed true) = no_equals_by_test (codes "vss") refl
  sink_gate_good (OfLeaf leaf true) = numbered_good (codes "c") leaf refl
  sink_gate_good (OfLeaf leaf false) = own_good leaf
  sink_gate_good (OfDynamic k) = numbered_good (codes "d") k refl
  sink_gate_good (OfOutput k) = numbered_good (codes "z") k refl

  pub sinks_good : (ps : List (List ℕ × SinkEnd)) → AllByRecursion (λ (p : List ℕ × SinkEnd). HasNoEquals p.0) ps → AllByRecursion HasGoodNets (flat_map (named_sink pins) ps)
  sinks_good [] h = tt
  sinks_good (p ∷ ps) h =
      AllByRecursion-append HasGoodNets (named_sink pins p) (flat_map (named_sink pins) ps) (inverter_good (sink_gate pins p.1) p.0 (sink_gate_good p.1) h.0) (sinks_good ps h.1)

reset_good : (j : ℕ) (start : Bool) → HasGoodNets (named_reset j start)
reset_good j false = (numbered_good (codes "q") j refl, no_equals_by_test (codes "rs") refl, no_equals_by_test (codes "vss") refl)
reset_good j true = (numbered_good (codes "q") j refl, no_equals_by_test (codes "rsb") refl, no_equals_by_test (codes "vdd") refl)

latch_good : (j : ℕ) (start : Bool) → AllByRecursion HasGoodNets (named_latch (j, start))
latch_good j start =
    let m = numbered_good (codes "m") j refl in
    let q = numbered_good (codes "q") j refl in
    let x = numbered_good (codes "x") j refl in
    let mp = lettered_good (codes "m") j (codes "p") refl refl in
    let mn = lettered_good (codes "m") j (codes "n") refl refl in
    let qp = lettered_good (codes "q") j (codes "p") refl refl in
    let qn = lettered_good (codes "q") j (codes "n") refl refl in
    let high = no_equals_by_test (codes "vdd") refl in
    let low = no_equals_by_test (codes "vss") refl in (
      (m, no_equals_by_test (codes "lmb") refl, mp),
      (
        (mp, x, high),
        (
          (m, no_equals_by_test (codes "lm") refl, mn),
          (
            (mn, x, low),
            ((q, no_equals_by_test (codes "lsb") refl, qp), ((qp, m, high), ((q, no_equals_by_test (codes "ls") refl, qn), ((qn, m, low), (reset_good j start, tt))))),
          ),
        ),
      ),
    )

pub latches_good : (ps : List (ℕ × Bool)) → AllByRecursion HasGoodNets (flat_map named_latch ps)
latches_good [] = tt
latches_good ((j, start) ∷ ps) = AllByRecursion-append HasGoodNets (named_latch (j, start)) (flat_map named_latch ps) (latch_good j start) (latches_good ps)

-- the nets of a circuit and of more devices
pub devices_good : (c : CircuitData) (ds : List (NamedDevice (List ℕ))) → AllByRecursion HasNoEquals c.nets → AllByRecursion HasGoodNets ds → AllByRecursion HasNoEquals (with_devices c ds).nets
devices_good c [] h g = h
devices_good c (d ∷ ds) h g =
    devices_good (pushed c d.kind d.drain d.gate d.source) ds
    (with_net-all HasNoEquals _ d.source (with_net-all HasNoEquals _ d.gate (with_net-all HasNoEquals c.nets d.drain h g.0.0) g.0.1) g.0.2) g.1

-- Parts whose nets stand alone are a latch that keeps rule 4, and each such latch has those parts.
use Rattle.std.specs.List.{AllByRecursion}
use Rattle.std.specs.Prelude.{Bool, Contains, Some, false, slice_get, true}
use Rattle.std.proofs.Common.{List, [], ap, arith, get_or, length, refl, subst, suc, sym, zero, ℕ, ◌+◌, ◌<◌, ◌∙◌, ◌∷◌, ◌≡◌}
use Rattle.std.proofs.lemmas.List.Elements.{Contains-get_or}
use Rattle.std.proofs.lemmas.Option.{same_Some}
use Rattle.dom_base.proofs.Lists.{AllByRecursion-contains, AllByRecursion-weaker, Contains-slice_get}
use Rattle.dom_base.specs.declared.kind.Kind.{Kind}
use Rattle.dom_base.specs.declared.kind.Kind.TheVariants.{N as nch, P as pch}
use Rattle.deck.specs.PortLayout.{master_pair, slave_pair}
use Rattle.deck.specs.declared.device.Device.{Device}
use Rattle.deck.specs.declared.role.Roles.{Roles}
use Rattle.circuit_law.specs.Counts.{Distinct}
use Rattle.port_runs.specs.Periods.{vdd_port, vss_port}
use Rattle.deck_audit.specs.Words.{AreAt, Group, IsDevice, IsFree, IsInner, StandsAt, group_cards, inner_nets, own_nets, reset_of}
use Rattle.deck_audit.proofs.CellTrees.{card_of}
use Rattle.deck_audit.proofs.Lists.{all_from}
use Rattle.deck_audit.proofs.RuleFacts.{twin_gate, twin_kind}
use Rattle.audit_deck.specs.Groups.{IsAlone}
use Rattle.found_decks.specs.FoundDecks.{FoundLatch}
use Rattle.audit_deck.specs.Indexes.{AreInRange}
use Rattle.audit_deck.specs.Latches.{AreParts, Covers, GatesNone, HasFew, HasNoLatch, IsBranchAt, IsOnlyBranch, IsOnlyReset, IsResetDevice, StandsAlone}
use Rattle.audit_deck.specs.declared.branches.Branch.{Branch}
use Rattle.audit_deck.specs.declared.branches.Reset.{Reset}
use Rattle.audit_deck.specs.declared.latches.LatchParts.{LatchParts}
use Rattle.audit_deck.proofs.AloneGroups.{Nine, few, listed_nine, nine_of, only_master_down, only_master_up, only_output_down, only_output_up, only_reset, parts_of, same_parts}
use Rattle.audit_deck.proofs.Checks.{distinct_from}
use Rattle.audit_deck.proofs.GroupCards.{ByGate, NoneBut, Twins, at_data_high, at_data_low, at_lm, at_lmb, at_ls, at_lsb, at_master_high, at_master_low, at_rs, at_rsb, card_at, only_index}
use Rattle.switch_model.proofs.Searches.{ends_at}
use Rattle.audit_deck.proofs.Breaks.{end_low}
use Rattle.audit_deck.proofs.LatchBranches.{one_branch}

abbrev pub part_nets : ℕ → LatchParts → List ℕ
part_nets n l =
    l.master_up.input ∷ l.output_up.input ∷ n ∷ l.master_up.inner ∷ l.master_down.inner ∷ l.output_up.inner ∷ l.output_down.inner ∷ []

abbrev pub part_places : LatchParts → List ℕ
part_places l =
    l.master_up.clocked ∷ l.master_up.fed ∷ l.master_down.clocked ∷ l.master_down.fed ∷ l.output_up.clocked ∷ l.output_up.fed
    ∷ l.output_down.clocked ∷ l.output_down.fed ∷ l.reset.place ∷ []

abbrev pub part_group : ℕ → LatchParts → Group
part_group n l = record {
  master = l.output_up.input;
  master_up = l.master_up.inner;
  master_down = l.master_down.inner;
  data_net = l.master_up.input;
  output = n;
  output_up = l.output_up.inner;
  output_down = l.output_down.inner;
  start = l.reset.start;
}

-- a device stands at each place
device_of : (ds : List Device) (ps : List ℕ) (es : List Device) → AreAt ds ps es → (i p : ℕ) → slice_get ps i ≡ Some p → (d : Device) × StandsAt ds p d
device_of ds [] es h i p at = absurd (cc)
device_of ds (q ∷ ps) [] h i p at = absurd h
device_of ds (q ∷ ps) (e ∷ es) h zero p at = (h.0.0, subst (λ r. StandsAt ds r h.0.0) (same_Some _ _ at) h.0.1)
device_of ds (q ∷ ps) (e ∷ es) h (suc i) p at = device_of ds ps es h.1 i p at

module _ (roles : Roles) (g : Group) (free : AllByRecursion (IsFree roles) (g.data_net ∷ own_nets g)) (differ : Distinct (g.data_net ∷ own_nets g)) where
  reset_none : (v : Bool) → NoneBut (ByGate (reset_of roles g v).kind (reset_of roles g v).gate) 8 (group_cards roles g)
  reset_none false = at_rs roles g free differ
  reset_none true = at_rsb roles g free differ

  -- no two cards have one kind and one gate
  same_index : (i j : ℕ) (e f : Device) → slice_get (group_cards roles g) i ≡ Some e → slice_get (group_cards roles g) j ≡ Some f → f.kind ≡ e.kind
      → f.gate ≡ e.gate → j ≡ i
  same_index i j e f at there kind gate = by i at
    where
      step : (i : ℕ) (c : Device) → Some c ≡ Some e → NoneBut (ByGate c.kind c.gate) i (group_cards roles g) → j ≡ i
      step i c z none =
          let s : c ≡ e = same_Some _ _ z in
          only_index (ByGate c.kind c.gate) i (group_cards roles g) none j f there
          (kind ∙ ap (λ (x : Device). x.kind) (sym s), gate ∙ ap (λ (x : Device). x.gate) (sym s))

      by : (i : ℕ) → slice_get (group_cards roles g) i ≡ Some e → j ≡ i
      by zero z = step 0 _ z (at_lmb roles g free differ)
      by (suc zero) z = step 1 _ z (at_data_high roles g free differ)
      by (suc (suc zero)) z = step 2 _ z (at_lm roles g free differ)
      by (suc (suc (suc zero))) z = step 3 _ z (at_data_low roles g free differ)
      by (suc (suc (suc (suc zero)))) z = step 4 _ z (at_lsb roles g free differ)
      by (suc (suc (suc (suc (suc zero))))) z = step 5 _ z (at_master_high roles g free differ)
      by (suc (suc (suc (suc (suc (suc zero)))))) z = step 6 _ z (at_ls roles g free differ)
      by (suc (suc (suc (suc (suc (suc (suc zero))))))) z = step 7 _ z (at_master_low roles g free differ)
      by (suc (suc (suc (suc (suc (suc (suc (suc zero)))))))) z = step 8 _ z (reset_none g.start)
      by (suc (suc (suc (suc (suc (suc (suc (suc (suc i))))))))) z = absurd (cc)

  -- so their places differ
  pub places_differ : (ds : List Device) (ps : List ℕ) → AreAt ds ps (group_cards roles g) → Distinct ps
  places_differ ds ps h = distinct_from ps (λ i j p at there.
      let d = device_of ds ps (group_cards roles g) h i p at in
      let e = card_at ds ps (group_cards roles g) h i p at d.0 d.1 in
      let f = card_at ds ps (group_cards roles g) h j p there d.0 d.1 in
      sym (same_index i j e.0 f.0 e.1 f.1 (sym (kind d.0 f.0 f.2) ∙ kind d.0 e.0 e.2) (sym (gate d.0 f.0 f.2) ∙ gate d.0 e.0 e.2)))
    where
      kind : (d e : Device) → Twins d e → d.kind ≡ e.kind
      kind d e t = twin_kind d e t

      gate : (d e : Device) → Twins d e → d.gate ≡ e.gate
      gate d e t = twin_gate d e t

module _ (ds : List Device) (roles : Roles) (n : ℕ) (l : LatchParts) (h : AreParts ds roles n l) where
  placed : (p : ℕ) (d e : Device) → StandsAt ds p d → IsDevice d e.kind e.gate e.drain e.source → (x : Device) × StandsAt ds p x × Twins x e
  placed p d e at i = (d, at, card_of d e i.0 i.1 i.2)

  fed_by : (d : Device) (kind : Kind) (x y a b : ℕ) → x ≡ y → IsDevice d kind x a b → IsDevice d kind y a b
  fed_by d kind x y a b e i = (i.0, i.1 ∙ e, i.2)

  reset_placed : (v : Bool) (d : Device) → IsResetDevice roles n v d → Twins d (reset_of roles (part_group n l) v)
  reset_placed false d i = card_of d (reset_of roles (part_group n l) false) i.0 i.1 i.2
  reset_placed true d i = card_of d (reset_of roles (part_group n l) true) i.0 i.1 i.2

  cards : AreAt ds (part_places l) (group_cards roles (part_group n l))
  cards =
      let a = h.master_up in
      let c = h.master_down in
      let e = h.output_up in
      let g = h.output_down in
      let r = h.reset in (
        placed l.master_up.clocked a.clocked _ a.clocked_there a.clocked_is,
        (
          placed l.master_up.fed a.fed _ a.fed_there a.fed_is,
          (
            placed l.master_down.clocked c.clocked _ c.clocked_there c.clocked_is,
            (
              placed l.master_down.fed c.fed _ c.fed_there (fed_by c.fed nch _ _ _ _ h.master_input c.fed_is),
              (
                placed l.output_up.clocked e.clocked _ e.clocked_there e.clocked_is,
                (
                  placed l.output_up.fed e.fed _ e.fed_there e.fed_is,
                  (
                    placed l.output_down.clocked g.clocked _ g.clocked_there g.clocked_is,
                    (
                      placed l.output_down.fed g.fed _ g.fed_there (fed_by g.fed nch _ _ _ _ h.output_input g.fed_is),
                      ((r.0, r.1, reset_placed l.reset.start r.0 r.2), tt),
                    ),
                  ),
                ),
              ),
            ),
          ),
        ),
      )

  free_of : (x : ℕ) → IsInner roles x → IsFree roles x
  free_of x i = omega (arith, i)

  pub parts_alone : StandsAlone ds roles (part_nets n l) (part_places l) → IsAlone ds roles (part_group n l) (part_places l)
  parts_alone s =
      let free : AllByRecursion (IsFree roles) (part_nets n l) = AllByRecursion-weaker (IsInner roles) (IsFree roles) free_of (part_nets n l) s.no_ports in
      record {
        is_group = record { cards = cards; once = places_differ roles (part_group n l) free s.differ ds (part_places l) cards; differ = s.differ; free = free };
        alone = λ p d m at c t. AllByRecursion-contains (Covers ds (part_places l)) (own_nets (part_group n l)) m s.covered c p d at t;
        inner_gate_none = λ p d at c. AllByRecursion-contains (GatesNone ds) (inner_nets (part_group n l)) d.gate s.gate_none c p d at refl;
        master_gates_own = s.own;
        no_ports = s.no_ports;
      }

all_in : (P : ℕ → Type 0) (xs : List ℕ) → ((x : ℕ) → Contains xs x → P x) → AllByRecursion P xs
all_in P xs h = all_from P xs (λ i x e. h x (Contains-slice_get xs i x e))

alone_stands : (ds : List Device) (roles : Roles) (g : Group) (ps : List ℕ) → IsAlone ds roles g ps → StandsAlone ds roles (g.data_net ∷ own_nets g) ps
alone_stands ds roles g ps k = record {
  differ = (k.is_group).differ;
  no_ports = k.no_ports;
  covered = all_in (Covers ds ps) (own_nets g) (λ m c p d at t. k.alone p d m at c t);
  gate_none = all_in (GatesNone ds) (inner_nets g) (λ m c p d at e. k.inner_gate_none p d at (subst (Contains (inner_nets g)) (sym e) c));
  own = k.master_gates_own;
}

-- a latch with this output that keeps the rule
module _ (ds : List Device) (roles : Roles) (n : ℕ) (l : FoundLatch) (k : IsAlone ds roles l.group l.places) (o : l.group.output ≡ n) where
  pub nine : (m : Nine) × IsAlone ds roles l.group (listed_nine m)
  nine =
      let z = nine_of ds roles l.group l.places (k.is_group).cards in
      (z.0, subst (IsAlone ds roles l.group) z.1 k)

  pub latch_small : HasFew ds n
  latch_small = subst (HasFew ds) o (few ds roles l.group nine.0 nine.1 l.group.output (Contains-slice_get (own_nets l.group) 1 _ refl))

  abbrev pub has_output_up : (b : Branch) × IsOnlyBranch ds roles n pch (slave_pair roles + 1) vdd_port b
  has_output_up = (_, subst (λ x. IsOnlyBranch ds roles x pch (slave_pair roles + 1) vdd_port (parts_of l.group nine.0).output_up) o (only_output_up ds roles l.group nine.0 nine.1))

  abbrev pub has_output_down : (b : Branch) × IsOnlyBranch ds roles n nch (slave_pair roles) vss_port b
  has_output_down = (_, subst (λ x. IsOnlyBranch ds roles x nch (slave_pair roles) vss_port (parts_of l.group nine.0).output_down) o (only_output_down ds roles l.group nine.0 nine.1))

  pub has_reset : (r : Reset) × IsOnlyReset ds roles n r
  has_reset = (_, subst (λ x. IsOnlyReset ds roles x (parts_of l.group nine.0).reset) o (only_reset ds roles l.group nine.0 nine.1))

  module _ (up : Branch) (is : IsBranchAt ds roles n pch (slave_pair roles + 1) vdd_port up) where
    pub master_is : up.input ≡ l.group.master
    master_is = ap (λ (b : Branch). b.input) (one_branch ds roles n pch (slave_pair roles + 1) vdd_port up has_output_up.0 is has_output_up.1)

    pub same_input : (down : Branch) → IsBranchAt ds roles n nch (slave_pair roles) vss_port down → down.input ≡ up.input
    same_input down h =
        ap (λ (b : Branch). b.input) (one_branch ds roles n nch (slave_pair roles) vss_port down has_output_down.0 h has_output_down.1) ∙ sym master_is

    pub master_small : HasFew ds up.input
    master_small = subst (HasFew ds) (sym master_is) (few ds roles l.group nine.0 nine.1 l.group.master (Contains-slice_get (own_nets l.group) 0 _ refl))

    abbrev pub has_master_up : (b : Branch) × IsOnlyBranch ds roles up.input pch (master_pair roles + 1) vdd_port b
    has_master_up = (_, subst (λ x. IsOnlyBranch ds roles x pch (master_pair roles + 1) vdd_port (parts_of l.group nine.0).master_up) (sym master_is) (only_master_up ds roles l.group nine.0 nine.1))

    abbrev pub has_master_down : (b : Branch) × IsOnlyBranch ds roles up.input nch (master_pair roles) vss_port b
    has_master_down = (_, subst (λ x. IsOnlyBranch ds roles x nch (master_pair roles) vss_port (parts_of l.group nine.0).master_down) (sym master_is) (only_master_down ds roles l.group nine.0 nine.1))

    pub same_data : (high low : Branch) → IsBranchAt ds roles up.input pch (master_pair roles + 1) vdd_port high
        → IsBranchAt ds roles up.input nch (master_pair roles) vss_port low → low.input ≡ high.input
    same_data high low x y =
        ap (λ (b : Branch). b.input) (one_branch ds roles up.input nch (master_pair roles) vss_port low has_master_down.0 y has_master_down.1)
        ∙ sym (ap (λ (b : Branch). b.input) (one_branch ds roles up.input pch (master_pair roles + 1) vdd_port high has_master_up.0 x has_master_up.1))

  pub stands : (parts : LatchParts) → AreParts ds roles n parts → StandsAlone ds roles (part_nets n parts) (part_places parts)
  stands parts h =
      let e : parts ≡ parts_of l.group nine.0 = same_parts ds roles l.group nine.0 nine.1 parts (subst (λ x. AreParts ds roles x parts) (sym o) h) in
      subst (λ x. StandsAlone ds roles (part_nets x parts) (part_places parts)) o
      (subst (λ q. StandsAlone ds roles (part_nets l.group.output q) (part_places q)) (sym e) (alone_stands ds roles l.group (listed_nine nine.0) nine.1))

-- parts whose nets don't stand alone: there is no latch
pub no_latch : (ds : List Device) (roles : Roles) (n : ℕ) (parts : LatchParts) → AreParts ds roles n parts
    → (StandsAlone ds roles (part_nets n parts) (part_places parts) → ⊥) → HasNoLatch ds roles n
no_latch ds roles n parts h away = λ l k o. away (stands ds roles n l k o parts h)

-- the nets of parts are in range
module _ (ds : List Device) (roles : Roles) (nets : ℕ) (in_range : AreInRange ds nets) where
  branch_low : (n : ℕ) (kind : Kind) (clock supply : ℕ) (b : Branch) → IsBranchAt ds roles n kind clock supply b → (b.input < nets) × (b.inner < nets)
  branch_low n kind clock supply b h =
      let r = in_range b.fed h.fed h.fed_there in
      (omega (arith, r.gate, h.fed_is.1), end_low ds roles nets in_range b.fed h.fed b.inner h.fed_there (ends_at h.fed b.inner supply h.fed_is.2))

  parts_low : (n : ℕ) (l : LatchParts) → AreParts ds roles n l → n < nets → AllByRecursion (λ x. x < nets) (part_nets n l)
  parts_low n l h lt =
      let a = branch_low l.output_up.input pch (master_pair roles + 1) vdd_port l.master_up h.master_up in
      let b = branch_low l.output_up.input nch (master_pair roles) vss_port l.master_down h.master_down in
      let c = branch_low n pch (slave_pair roles + 1) vdd_port l.output_up h.output_up in
      let d = branch_low n nch (slave_pair roles) vss_port l.output_down h.output_down in
      (a.0, (c.0, (lt, (a.1, (b.1, (c.1, (d.1, tt)))))))

  pub all_parts_low : (n : ℕ) (l : LatchParts) → AreParts ds roles n l → n < nets → (k d : ℕ) → k < length (part_nets n l) → get_or (part_nets n l) k d < nets
  all_parts_low n l h lt k d within =
      AllByRecursion-contains (λ x. x < nets) (part_nets n l) (get_or (part_nets n l) k d) (parts_low n l h lt) (Contains-get_or (part_nets n l) k d within)

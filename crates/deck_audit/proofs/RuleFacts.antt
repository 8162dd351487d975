-- What the rules say of the nets of cells, of inverters and of latches: no net is of two sorts.
use Rattle.std.specs.List.{AllByRecursion}
use Rattle.std.specs.Prelude.{Contains, Some, slice_get, ◌≢◌, ◌⊎◌}
use Rattle.std.proofs.Common.{Bool, List, [], ap, arith, false, inl, inr, refl, subst, sym, true, ℕ, ◌+◌, ◌∙◌, ◌∷◌, ◌≡◌}
use Rattle.dom_base.proofs.Decided.{dec_nat}
use Rattle.dom_base.proofs.Lists.{AllByRecursion-contains, AllByRecursion-weaker, Contains-first, Contains-later, Contains-slice_get}
use Rattle.dom_base.specs.declared.kind.Kind.TheVariants.{Keep, N as nch, P as pch}
use Rattle.deck.specs.Paths.{Ends}
use Rattle.deck.specs.PortLayout.{master_pair, slave_pair}
use Rattle.deck.specs.declared.device.Device.{Device}
use Rattle.deck.specs.declared.role.Roles.{Roles}
use Rattle.switch_model.specs.Laws.{EndsAt}
use Rattle.circuit_law.specs.Exchanged.{exchange}
use Rattle.port_runs.specs.Periods.{vdd_port}
use Rattle.deck_audit.specs.Rules.{HasLatch, IsInside, KeepsRules}
use Rattle.deck_audit.specs.Words.{AreAt, Group, IsControl, IsDynamic, IsFree, IsGroup, IsInverterOutput, Reached, StandsAt, group_cards, here, inner_nets, own_nets, reset_of, step}
use Rattle.deck_audit.proofs.CellTrees.{one_device}
use Rattle.switch_model.proofs.Searches.{ends_at, other_at}
use Rattle.stage_law.proofs.Between.{Ends-swap}

pub not_keep_n : nch ≡ Keep → ⊥
not_keep_n e = cc

pub not_keep_p : pch ≡ Keep → ⊥
not_keep_p e = cc

pub not_p_n : pch ≡ nch → ⊥
not_p_n e = cc

pub end_of : (d : Device) (a b n : ℕ) → Ends d a b → EndsAt d n → (n ≡ a) ⊎ (n ≡ b)
end_of d a b n (inl z) (inl y) = inl (sym y ∙ z.0)
end_of d a b n (inl z) (inr y) = inr (sym y ∙ z.1)
end_of d a b n (inr z) (inl y) = inr (sym y ∙ z.1)
end_of d a b n (inr z) (inr y) = inl (sym y ∙ z.0)

pub twin_kind : (d e : Device) → (d ≡ e) ⊎ (d ≡ exchange e) → d.kind ≡ e.kind
twin_kind d e (inl z) = ap (λ (x : Device). x.kind) z
twin_kind d e (inr z) = ap (λ (x : Device). x.kind) z

pub twin_gate : (d e : Device) → (d ≡ e) ⊎ (d ≡ exchange e) → d.gate ≡ e.gate
twin_gate d e (inl z) = ap (λ (x : Device). x.gate) z
twin_gate d e (inr z) = ap (λ (x : Device). x.gate) z

pub twin_ends : (d e : Device) → (d ≡ e) ⊎ (d ≡ exchange e) → Ends d e.drain e.source
twin_ends d e (inl z) = inl (ap (λ (x : Device). x.drain) z, ap (λ (x : Device). x.source) z)
twin_ends d e (inr z) = inr (ap (λ (x : Device). x.source) z, ap (λ (x : Device). x.drain) z)

-- the device of a card of a group, with its place
pub record AtPlace (ds : List Device) (places : List ℕ) (e : Device) : Type 0 where
  pub place : ℕ
  pub device : Device
  pub listed : Contains places place
  pub there : StandsAt ds place device
  pub twin : (device ≡ e) ⊎ (device ≡ exchange e)

later : (ds : List Device) (p : ℕ) (ps : List ℕ) (e : Device) → AtPlace ds ps e → AtPlace ds (p ∷ ps) e
later ds p ps e a = record { place = a.place; device = a.device; listed = Contains-later p ps a.place a.listed; there = a.there; twin = a.twin }

pub all_at : (ds : List Device) (ps : List ℕ) (es : List Device) → AreAt ds ps es → AllByRecursion (AtPlace ds ps) es
all_at ds [] [] h = tt
all_at ds (p ∷ ps) (e ∷ es) h = (
  record { place = p; device = h.0.0; listed = Contains-first p ps; there = h.0.1; twin = h.0.2 },
  AllByRecursion-weaker (AtPlace ds ps) (AtPlace ds (p ∷ ps)) (λ f a. later ds p ps f a) es (all_at ds ps es h.1),
)
all_at ds [] (e ∷ es) h = absurd h
all_at ds (p ∷ ps) [] h = absurd h

-- what stands at one of the places is one of the cards
pub record AsCard (es : List Device) (d : Device) : Type 0 where
  pub card : Device
  pub listed : Contains es card
  pub twin : (d ≡ card) ⊎ (d ≡ exchange card)

pub at_place : (ds : List Device) (ps : List ℕ) (es : List Device) → AreAt ds ps es → (p : ℕ) → Contains ps p → (d : Device) → StandsAt ds p d → AsCard es d
at_place ds ps es h p c d at = AllByRecursion-contains (λ p. (d : Device) → StandsAt ds p d → AsCard es d) ps p (each ps es h) c d at
  where
    behind : (e : Device) (es : List Device) (d : Device) → AsCard es d → AsCard (e ∷ es) d
    behind e es d a = record { card = a.card; listed = Contains-later e es a.card a.listed; twin = a.twin }

    each : (ps : List ℕ) (es : List Device) → AreAt ds ps es → AllByRecursion (λ p. (d : Device) → StandsAt ds p d → AsCard es d) ps
    each [] [] h = tt
    each (p ∷ ps) (e ∷ es) h = (
      (λ d at. record { card = e; listed = Contains-first e es; twin = rw (one_device ds p d h.0.0 at h.0.1) h.0.2 }),
      AllByRecursion-weaker (λ p. (d : Device) → StandsAt ds p d → AsCard es d) (λ p. (d : Device) → StandsAt ds p d → AsCard (e ∷ es) d) (λ p f d at. behind e es d (f d at)) ps (each ps es h.1),
    )
    each [] (e ∷ es) h = absurd h
    each (p ∷ ps) [] h = absurd h

-- no card of a latch is a keeper
pub no_keeper_card : (roles : Roles) (g : Group) → AllByRecursion (λ e. e.kind ≢ Keep) (group_cards roles g)
no_keeper_card roles g = (not_keep_p, (not_keep_p, (not_keep_n, (not_keep_n, (not_keep_p, (not_keep_p, (not_keep_n, (not_keep_n, (reset g.start, tt)))))))))
  where
    reset : (b : Bool) → (reset_of roles g b).kind ≢ Keep
    reset false = not_keep_n
    reset true = not_keep_p

-- the drain of each card of a latch is one of its own nets
pub own_drain : (roles : Roles) (g : Group) → AllByRecursion (λ e. Contains (own_nets g) e.drain) (group_cards roles g)
own_drain roles g = (at 0 refl, (at 2 refl, (at 0 refl, (at 3 refl, (at 1 refl, (at 4 refl, (at 1 refl, (at 5 refl, (reset g.start, tt)))))))))
  where
    at : (i : ℕ) {x : ℕ} → slice_get (own_nets g) i ≡ Some x → Contains (own_nets g) x
    at i {x} e = Contains-slice_get (own_nets g) i x e

    reset : (b : Bool) → Contains (own_nets g) (reset_of roles g b).drain
    reset false = at 1 refl
    reset true = at 1 refl

module _ (ds : List Device) (roles : Roles) (g : Group) (places : List ℕ) (is : IsGroup ds roles g places) where
  pub cards_at : AllByRecursion (AtPlace ds places) (group_cards roles g)
  cards_at = all_at ds places (group_cards roles g) is.cards

  -- at each own net of a group a device ends that a clock of latches gates
  ControlAt : ℕ → Type 0
  ControlAt n = (p : ℕ) × (d : Device) × StandsAt ds p d × EndsAt d n × IsControl roles d.gate

  at_control : (e : Device) → AtPlace ds places e → (n : ℕ) → EndsAt e n → IsControl roles e.gate → ControlAt n
  unfolding ControlAt
  at_control e a n t c =
      (a.place, a.device, a.there, touch (twin_ends a.device e a.twin) t, (omega (arith, c.0, twin_gate a.device e a.twin), omega (arith, c.1, twin_gate a.device e a.twin)))
    where
      touch : Ends a.device e.drain e.source → EndsAt e n → EndsAt a.device n
      touch x (inl y) = rw (← y) (ends_at a.device e.drain e.source x)
      touch x (inr y) = rw (← y) (other_at a.device e.drain e.source x)

  pub own_at_control : AllByRecursion (λ n. (p : ℕ) × (d : Device) × StandsAt ds p d × EndsAt d n × IsControl roles d.gate) (own_nets g)
  unfolding ControlAt
  own_at_control =
      let t = cards_at in
      let lmb : IsControl roles (master_pair roles + 1) = (omega arith, omega arith) in
      let lm : IsControl roles (master_pair roles) = (omega arith, omega arith) in
      let lsb : IsControl roles (slave_pair roles + 1) = (omega arith, omega arith) in
      let ls : IsControl roles (slave_pair roles) = (omega arith, omega arith) in (
        at_control _ t.0 g.master (inl refl) lmb,
        (
          at_control _ t.1.1.1.1.0 g.output (inl refl) lsb,
          (
            at_control _ t.0 g.master_up (inr refl) lmb,
            (
              at_control _ t.1.1.0 g.master_down (inr refl) lm,
              (
                at_control _ t.1.1.1.1.0 g.output_up (inr refl) lsb,
                (at_control _ t.1.1.1.1.1.1.0 g.output_down (inr refl) ls, tt),
              ),
            ),
          ),
        ),
      )

module _ (ds : List Device) (roles : Roles) (nets : ℕ) (rules : KeepsRules ds roles nets) where
  own_free : (g : Group) (places : List ℕ) → IsGroup ds roles g places → (n : ℕ) → Contains (own_nets g) n → IsFree roles n
  own_free g places is n c = AllByRecursion-contains (IsFree roles) (own_nets g) n is.free.1 c

  -- each own net of a group keeps the rule of latches, and its group is this one
  pub latch_of : (g : Group) (places : List ℕ) → IsGroup ds roles g places → (n : ℕ) → Contains (own_nets g) n → HasLatch ds roles n
  latch_of g places is n c =
      let a = AllByRecursion-contains (λ n. (p : ℕ) × (d : Device) × StandsAt ds p d × EndsAt d n × IsControl roles d.gate) (own_nets g) n (own_at_control ds roles g places is) c in
      rules.latch n (own_free g places is n c, a.0, a.1, a.2, a.3, a.4)

  -- two groups with a common own net are one
  pub one_group : (g h : Group) (ps qs : List ℕ) → IsGroup ds roles g ps → IsGroup ds roles h qs → (n : ℕ) → Contains (own_nets g) n → Contains (own_nets h) n → (g ≡ h) × (ps ≡ qs)
  one_group g h ps qs i j n c d =
      let l = latch_of g ps i n c in
      let x = l.one_group g ps i c in
      let y = l.one_group h qs j d in
      (x.0 ∙ sym y.0, x.1 ∙ sym y.1)

  -- a device that ends at an own net of a group is one of its cards
  pub at_own : (g : Group) (places : List ℕ) → IsGroup ds roles g places → (n : ℕ) → Contains (own_nets g) n → (p : ℕ) (d : Device) → StandsAt ds p d → EndsAt d n
      → Contains places p × AsCard (group_cards roles g) d
  at_own g places is n c p d at t =
      let l = latch_of g places is n c in
      let x = l.one_group g places is c in
      let m : Contains places p = rw x.1 (l.alone p d n at (subst (λ h. Contains (own_nets h) n) x.0 c) t) in
      (m, at_place ds places (group_cards roles g) is.cards p m d at)

  -- and no keeper
  pub no_keeper_at_own : (g : Group) (places : List ℕ) → IsGroup ds roles g places → (n : ℕ) → Contains (own_nets g) n → (p : ℕ) (d : Device) → StandsAt ds p d → EndsAt d n → d.kind ≢ Keep
  no_keeper_at_own g places is n c p d at t k =
      let a = (at_own g places is n c p d at t).1 in
      AllByRecursion-contains (λ e. e.kind ≢ Keep) (group_cards roles g) a.card (no_keeper_card roles g) a.listed (sym (twin_kind d a.card a.twin) ∙ k)

  -- a dynamic net has a keeper
  pub keeper_at : (x : ℕ) → IsDynamic ds roles x → (p : ℕ) × (d : Device) × StandsAt ds p d × EndsAt d x × (d.kind ≡ Keep)
  keeper_at x h = let f = (rules.front x h).2 in (f.keeper, f.keeper_device, f.keeper_there, ends_at f.keeper_device x vdd_port f.keeper_is.2, f.keeper_is.0)

  pub dynamic_no_latch : (x : ℕ) → IsDynamic ds roles x → (g : Group) (places : List ℕ) → IsGroup ds roles g places → Contains (own_nets g) x → ⊥
  dynamic_no_latch x h g places is c = let k = keeper_at x h in no_keeper_at_own g places is x c k.0 k.1 k.2 k.3 k.4

  pub dynamic_no_inside : (x : ℕ) → IsDynamic ds roles x → IsInside ds roles x → ⊥
  dynamic_no_inside x h i = let k = keeper_at x h in not_keep_n (sym (i.reached k.0 k.1 k.2 k.3) ∙ k.4)

  pub dynamic_no_inverter : (x i : ℕ) → IsDynamic ds roles x → IsInverterOutput ds x i → ⊥
  dynamic_no_inverter x i h v =
      let k = keeper_at x h in
      elim (v.only k.0 k.1 k.2 k.3) [
        | inl z ↦ not_keep_p (sym v.up_is.0 ∙ ap (λ (x : Device). x.kind) (one_device ds v.up v.pull_up k.1 v.up_there (rw (← z) k.2)) ∙ k.4)
        | inr z ↦ not_keep_n (sym v.down_is.0 ∙ ap (λ (x : Device). x.kind) (one_device ds v.down v.pull_down k.1 v.down_there (rw (← z) k.2)) ∙ k.4)
      ]

  pub inside_no_inverter : (n i : ℕ) → IsInside ds roles n → IsInverterOutput ds n i → ⊥
  inside_no_inverter n i h v = not_p_n (sym v.up_is.0 ∙ h.reached v.up v.pull_up v.up_there (ends_at v.pull_up n vdd_port v.up_is.2))

  -- an inverter output has one input, which gates what ends there
  pub input_gates : (n i : ℕ) → IsInverterOutput ds n i → (p : ℕ) (d : Device) → StandsAt ds p d → EndsAt d n → d.gate ≡ i
  input_gates n i v p d at t =
      elim (v.only p d at t) [
        | inl z ↦ ap (λ (x : Device). x.gate) (one_device ds p d v.pull_up at (rw z v.up_there)) ∙ v.up_is.1
        | inr z ↦ ap (λ (x : Device). x.gate) (one_device ds p d v.pull_down at (rw z v.down_there)) ∙ v.down_is.1
      ]

  pub one_input : (n i j : ℕ) → IsInverterOutput ds n i → IsInverterOutput ds n j → i ≡ j
  one_input n i j v w = sym v.up_is.1 ∙ input_gates n j w v.up v.pull_up v.up_there (ends_at v.pull_up n vdd_port v.up_is.2)

  pub inverter_no_latch : (n i : ℕ) → IsInverterOutput ds n i → (IsControl roles i → ⊥) → (g : Group) (places : List ℕ) → IsGroup ds roles g places → Contains (own_nets g) n → ⊥
  inverter_no_latch n i v away g places is c =
      let a = AllByRecursion-contains (λ n. (p : ℕ) × (d : Device) × StandsAt ds p d × EndsAt d n × IsControl roles d.gate) (own_nets g) n (own_at_control ds roles g places is) c in
      away (rw (input_gates n i v a.0 a.1 a.2 a.3) at a.4)

  -- nets that `nch` devices reach are no sources, and are reached from each other
  pub reached_free : (x n : ℕ) → IsFree roles x → Reached ds roles x n → IsFree roles n
  reached_free x n h here = h
  reached_free x n h (step p d r at k e f) = f

  pub reached_back : (a b m : ℕ) → IsFree roles b → Reached ds roles a m → Reached ds roles b m → Reached ds roles a b
  reached_back a b m h r here = r
  reached_back a b m h r (step {m = n} p d q at k e f) = reached_back a b n h (step p d r at k (Ends-swap d n m e) (reached_free b n h q)) q

  -- no net inside a cell is a latch's
  pub inside_no_latch : (x : ℕ) → IsDynamic ds roles x → ((n : ℕ) → Reached ds roles x n → n ≢ x → IsInside ds roles n)
      → (n : ℕ) → Reached ds roles x n → n ≢ x → (g : Group) (places : List ℕ) → IsGroup ds roles g places → Contains (own_nets g) n → ⊥
  inside_no_latch x dyn inside n r away g places is c =
      AllByRecursion-contains (λ n. Reached ds roles x n → n ≢ x → ⊥) (own_nets g) n (
        up t.0 g.master (inl refl) refl,
        (
          up t.1.1.1.1.0 g.output (inl refl) refl,
          (
            up t.0 g.master_up (inr refl) refl,
            (
              down t.1.1.0 g.master g.master_down refl refl (up t.0 g.master (inl refl) refl) (Contains-first g.master (g.output ∷ inner_nets g)),
              (
                up t.1.1.1.1.0 g.output_up (inr refl) refl,
                (down t.1.1.1.1.1.1.0 g.output g.output_down refl refl (up t.1.1.1.1.0 g.output (inl refl) refl) (Contains-later g.master (g.output ∷ inner_nets g) g.output (Contains-first g.output (inner_nets g))), tt),
              ),
            ),
          ),
        ),
      ) c r away
    where
      t : AllByRecursion (AtPlace ds places) (group_cards roles g)
      t = cards_at ds roles g places is

      touch : (e d : Device) (n : ℕ) → Ends d e.drain e.source → EndsAt e n → EndsAt d n
      touch e d n w (inl y) = rw (← y) (ends_at d e.drain e.source w)
      touch e d n w (inr y) = rw (← y) (other_at d e.drain e.source w)

      -- a `pch` of the latch ends at the net
      up : {e : Device} → AtPlace ds places e → (n : ℕ) → EndsAt e n → e.kind ≡ pch → Reached ds roles x n → n ≢ x → ⊥
      up {e} a n y k r away =
          not_p_n (sym k ∙ sym (twin_kind a.device e a.twin) ∙ (inside n r away).reached a.place a.device a.there (touch e a.device n (twin_ends a.device e a.twin) y))

      -- an `nch` of the latch leads from the net to one where a `pch` ends
      down : {e : Device} → AtPlace ds places e → (m n : ℕ) → (e.drain ≡ m) → (e.source ≡ n) → (Reached ds roles x m → m ≢ x → ⊥) → Contains (own_nets g) m → Reached ds roles x n → n ≢ x → ⊥
      down {e} a m n y z top c r away =
          let w : Ends a.device n m = Ends-swap a.device m n (rw (← y, ← z) (twin_ends a.device e a.twin)) in
          let q : Reached ds roles x m = step a.place a.device r a.there ((inside n r away).reached a.place a.device a.there (ends_at a.device n m w)) w (own_free g places is m c) in
          elim (dec_nat m x) [ inl same ↦ dynamic_no_latch x dyn g places is (rw (← same) c) | inr other ↦ top q other ]

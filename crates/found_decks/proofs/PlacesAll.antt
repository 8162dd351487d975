-- Each device of a circuit that keeps all rules stands at one of the places that an audit lists.
use Rattle.std.specs.Prelude.{Contains, Some, slice_get, ◌⊎◌}
use Rattle.std.proofs.Common.{List, [], ap, arith, inl, inr, length, refl, subst, suc, sym, zero, ℕ, ◌++◌, ◌+◌, ◌-◌, ◌<◌, ◌∙◌, ◌∷◌, ◌≡◌, ◌≤◌}
use Rattle.std.proofs.lemmas.List.Elements.{Contains-append_left, Contains-append_right}
use Rattle.std.proofs.lemmas.Option.{same_Some, slice_get_within}
use Rattle.dom_base.proofs.Decided.{dec_any, dec_nat, lt_or_ge}
use Rattle.dom_base.proofs.Lists.{Contains-first, Contains-later, slice_get-there}
use Rattle.dom_base.specs.declared.kind.Kind.{Kind}
use Rattle.dom_base.specs.declared.kind.Kind.TheVariants.{Keep, N as nch, P as pch}
use Rattle.deck.specs.PortLayout.{first_output, source_count}
use Rattle.deck.specs.declared.device.Device.{Device}
use Rattle.sp_network.specs.Tree.{Leaf, Parallel, Series, Tree}
use Rattle.switch_model.specs.Laws.{EndsAt}
use Rattle.link_reduce.specs.Parts.{numbers_of}
use Rattle.sp_reduction.specs.Networks.{Has, Link}
use Rattle.deck_audit.specs.Rules.{IsLoose, IsSinkNet, IsUsed}
use Rattle.deck_audit.specs.Words.{Group, IsComplement, IsDynamic, IsFree, IsInverterOutput, IsLatchNet, IsReachedDevice, Reached, StandsAt, here, link_at, own_nets}
use Rattle.deck_audit.proofs.CellTrees.{one_device}
use Rattle.deck_audit.proofs.RuleFacts.{at_own}
use Rattle.found_decks.specs.FoundDecks.{AreBlocks, AreInverterPlaces, IsCellPlaces, numbers_from, whole}
use Rattle.found_decks.proofs.FoundGates.{out_ports}
use Rattle.found_decks.proofs.FoundNets.{Found, devices}

-- a link of a tree has its number among the tree's
pub has_number : (t : Tree Link) (e : Link) → Has t e → Contains (numbers_of t) e.number
has_number (Leaf f) e h = rw h (Contains-first f.number [])
has_number (Series l r) e (inl h) = Contains-append_left (numbers_of l) (numbers_of r) e.number (has_number l e h)
has_number (Series l r) e (inr h) = Contains-append_right (numbers_of l) (numbers_of r) e.number (has_number r e h)
has_number (Parallel l r) e (inl h) = Contains-append_left (numbers_of l) (numbers_of r) e.number (has_number l e h)
has_number (Parallel l r) e (inr h) = Contains-append_right (numbers_of l) (numbers_of r) e.number (has_number r e h)

pub numbers_have : (a k i : ℕ) → i < k → slice_get (numbers_from a k) i ≡ Some (a + i)
numbers_have a zero i l = absurd (omega (arith, l))
numbers_have a (suc k) zero l = ap (λ n. Some n) (plus a)
  where
    plus : (a : ℕ) → a ≡ a + 0
    plus a = omega arith
numbers_have a (suc k) (suc i) l = numbers_have (a + 1) k i (omega (arith, l)) ∙ ap (λ n. Some n) (shift a i)
  where
    shift : (a i : ℕ) → a + 1 + i ≡ a + suc i
    shift a i = omega arith

-- what a block has the whole has
in_whole : (bs : List (List ℕ)) (i : ℕ) (b : List ℕ) (p : ℕ) → slice_get bs i ≡ Some b → Contains b p → Contains (whole bs) p
in_whole [] i b p e c = absurd (cc)
in_whole (d ∷ bs) zero b p e c = Contains-append_left d (whole bs) p (subst (λ (z : List ℕ). Contains z p) (sym (same_Some _ _ e)) c)
in_whole (d ∷ bs) (suc i) b p e c = Contains-append_right d (whole bs) p (in_whole bs i b p e c)

-- a part has its block
module _ {X : Type 0} (P : X → List ℕ → Type 0) (xs : List X) (bs : List (List ℕ)) (are : AreBlocks P xs bs) where
  pub block_of : (i : ℕ) (x : X) → slice_get xs i ≡ Some x → (b : List ℕ) × (slice_get bs i ≡ Some b) × P x b
  block_of i x e =
      let b = slice_get-there bs i (omega (arith, slice_get_within xs i x e, are.count)) in
      (b.0, b.1, are.each i x b.0 e b.1)

module _ (w : Found) (p : ℕ) (d : Device) (at : StandsAt (devices w) p d) where
  abbrev ds : List Device
  ds = devices w

  abbrev Listed : Type 0
  Listed = Contains w.order p

  -- what one of the five lists has the order has
  ordered : (a b c e f : List ℕ) → w.order ≡ a ++ (b ++ (c ++ (e ++ f))) → Contains a p ⊎ (Contains b p ⊎ (Contains c p ⊎ (Contains e p ⊎ Contains f p))) → Listed
  ordered a b c e f same z = subst (λ (xs : List ℕ). Contains xs p) (sym same) (elim z [
    | inl y ↦ Contains-append_left a (b ++ (c ++ (e ++ f))) p y
    | inr (inl y) ↦ Contains-append_right a (b ++ (c ++ (e ++ f))) p (Contains-append_left b (c ++ (e ++ f)) p y)
    | inr (inr (inl y)) ↦ Contains-append_right a (b ++ (c ++ (e ++ f))) p (Contains-append_right b (c ++ (e ++ f)) p (Contains-append_left c (e ++ f) p y))
    | inr (inr (inr (inl y))) ↦
        Contains-append_right a (b ++ (c ++ (e ++ f))) p (Contains-append_right b (c ++ (e ++ f)) p (Contains-append_right c (e ++ f) p (Contains-append_left e f p y)))
    | inr (inr (inr (inr y))) ↦
        Contains-append_right a (b ++ (c ++ (e ++ f))) p (Contains-append_right b (c ++ (e ++ f)) p (Contains-append_right c (e ++ f) p (Contains-append_right e f p y)))
  ])

  among : Contains (whole (w.places).cells) p ⊎ (Contains (whole (w.places).complements) p ⊎ (Contains (whole (w.places).latches) p ⊎ (Contains (whole (w.places).outputs) p ⊎ Contains (whole (w.places).nexts) p))) → Listed
  among = ordered (whole (w.places).cells) (whole (w.places).complements) (whole (w.places).latches) (whole (w.places).outputs) (whole (w.places).nexts) (w.places).order_is

  -- a device at an inverter's output
  at_pair : (n i : ℕ) (v : IsInverterOutput ds n i) → EndsAt d n → Contains (v.up ∷ v.down ∷ []) p
  at_pair n i v t = elim (v.only p d at t) [
    | inl z ↦ subst (λ q. Contains (v.up ∷ v.down ∷ []) q) (sym z) (Contains-first v.up (v.down ∷ []))
    | inr z ↦ subst (λ q. Contains (v.up ∷ v.down ∷ []) q) (sym z) (Contains-later v.up (v.down ∷ []) v.down (Contains-first v.down []))
  ]

  at_inverter : (n : ℕ) (b : List ℕ) → AreInverterPlaces ds n b → EndsAt d n → Contains b p
  at_inverter n b z t = subst (λ (xs : List ℕ). Contains xs p) (sym z.places_are) (at_pair n z.input z.inverter t)

  -- a device of a cell
  module _ (x clock output bottom : ℕ) (tree : Tree Link) (b : List ℕ) (c : IsCellPlaces ds w.roles x clock output bottom tree b) where
    abbrev foot : ℕ
    foot = (c.has_tree).foot

    abbrev stage : List ℕ
    stage = numbers_of tree ++ foot ∷ []

    abbrev pair : List ℕ
    pair = (c.inverter).up ∷ (c.inverter).down ∷ []

    abbrev front : List ℕ
    front = (c.front).precharge ∷ (c.front).keeper ∷ []

    in_block : Contains front p ⊎ (Contains stage p ⊎ Contains pair p) → Contains b p
    in_block z = subst (λ (xs : List ℕ). Contains xs p) (sym c.places_are) (elim z [
      | inl y ↦ Contains-append_left front (stage ++ pair) p y
      | inr (inl y) ↦ Contains-append_right front (stage ++ pair) p (Contains-append_left stage pair p y)
      | inr (inr y) ↦ Contains-append_right front (stage ++ pair) p (Contains-append_right stage pair p y)
    ])

    at_reached : IsReachedDevice ds w.roles x d → Contains b p
    at_reached r = in_block (inr (inl (elim (dec_nat p foot) [
      | inl z ↦ Contains-append_right (numbers_of tree) (foot ∷ []) p (subst (λ q. Contains (foot ∷ []) q) (sym z) (Contains-first foot []))
      | inr f ↦ Contains-append_left (numbers_of tree) (foot ∷ []) p (has_number tree (link_at p d) (((c.has_tree).links_are (link_at p d)).1 (p, d, at, r, f, refl)))
    ])))

    at_top : EndsAt d x → Contains b p
    at_top t = by d.kind refl
      where
        by : (k : Kind) → d.kind ≡ k → Contains b p
        by nch e = at_reached (e, x, here, t)
        by pch e = in_block (inl (subst (λ q. Contains front q) (sym ((c.front).one_precharge p d at t e)) (Contains-first (c.front).precharge ((c.front).keeper ∷ []))))
        by Keep e = in_block (inl (subst (λ q. Contains front q) (sym ((c.front).one_keeper p d at t e)) (Contains-later (c.front).precharge ((c.front).keeper ∷ []) (c.front).keeper (Contains-first (c.front).keeper []))))

    at_cell : (n : ℕ) → Reached ds w.roles x n → EndsAt d n → Contains b p
    at_cell n r t = elim (dec_nat n x) [
      | inl z ↦ at_top (subst (λ m. EndsAt d m) z t)
      | inr f ↦ at_reached (((c.has_tree).inside n r f).reached p d at t, n, r, t)
    ]

    at_output : (n : ℕ) (q : ℕ) (e : Device) → StandsAt ds q e → e.kind ≡ Keep → EndsAt e x → e.gate ≡ n → EndsAt d n → Contains b p
    at_output n q e st k u g t =
        let f = c.front in
        let same : e ≡ f.keeper_device = one_device ds q e f.keeper_device st (subst (λ m. StandsAt ds m f.keeper_device) (sym (f.one_keeper q e st u k)) f.keeper_there) in
        let out : n ≡ output = sym g ∙ ap (λ (v : Device). v.gate) same ∙ f.keeper_is.1 in
        in_block (inr (inr (at_pair output x c.inverter (subst (λ m. EndsAt d m) out t))))

  cell_listed : (x : ℕ) → IsDynamic ds w.roles x → ((b : List ℕ) (clock output bottom : ℕ) (tree : Tree Link) → IsCellPlaces ds w.roles x clock output bottom tree b → Contains b p) → Listed
  cell_listed x h f =
      let k = (w.found).tops_full x h in
      let b = block_of _ (w.parts).tops (w.places).cells (w.places).cells_are k.0 x k.1 in
      among (inl (in_whole (w.places).cells k.0 b.0 p b.1 (f b.0 b.2.0 b.2.1 b.2.2 b.2.3 b.2.4)))

  latch_listed : (n : ℕ) → IsLatchNet ds w.roles n → EndsAt d n → Listed
  latch_listed n o t =
      let q = (w.found).latches_full o.0 o.1 o.2 in
      let b = block_of _ (w.parts).latches (w.places).latches (w.places).latches_are q.0 q.1 q.2 in
      let own : Contains (own_nets (q.1).group) n = subst (λ g. Contains (own_nets g) n) (sym q.3) o.3 in
      let m = (at_own ds w.roles _ w.rules (q.1).group (q.1).places ((w.found).latches_sound q.0 q.1 q.2) n own p d at t).0 in
      among (inr (inr (inl (in_whole (w.places).latches q.0 b.0 p b.1 (subst (λ (xs : List ℕ). Contains xs p) (sym b.2) m)))))

  sink_listed : (n : ℕ) → IsSinkNet ds w.roles n → EndsAt d n → Listed
  sink_listed n (inl o) t =
      let q = (w.found).latches_full o.0 o.1 o.2 in
      let b = block_of _ (w.parts).latches (w.places).nexts (w.places).nexts_are q.0 q.1 q.2 in
      let same : n ≡ ((q.1).group).data_net = sym (ap (λ (g : Group). g.data_net) q.3 ∙ o.3) in
      among (inr (inr (inr (inr (in_whole (w.places).nexts q.0 b.0 p b.1 (at_inverter ((q.1).group).data_net b.0 b.2 (subst (λ m. EndsAt d m) same t)))))))
  sink_listed n (inr o) t =
      let i = n - first_output w.roles in
      let e = numbers_have (first_output w.roles) w.roles.outs i (low n (first_output w.roles) w.roles.outs o.0 o.1) in
      let b = block_of _ (out_ports w) (w.places).outputs (w.places).outputs_are i (first_output w.roles + i) e in
      among (inr (inr (inr (inl (in_whole (w.places).outputs i b.0 p b.1 (at_inverter (first_output w.roles + i) b.0 b.2 (subst (λ m. EndsAt d m) (same n (first_output w.roles) o.0) t)))))))
    where
      low : (n a k : ℕ) → a ≤ n → n < a + k → n - a < k
      low n a k l m = omega (arith, l, m)

      same : (n a : ℕ) → a ≤ n → n ≡ a + (n - a)
      same n a l = omega (arith, l)

  complement_listed : (n i : ℕ) → IsComplement ds w.roles n i → EndsAt d n → Listed
  complement_listed n i c t =
      let k = (w.found).complements_full n i c in
      let b = block_of _ (w.parts).complements (w.places).complements (w.places).complements_are k.0 n k.1 in
      among (inr (inl (in_whole (w.places).complements k.0 b.0 p b.1 (at_inverter n b.0 b.2 t))))

  -- a device that isn't listed ends at no net of a part, so its net is loose, and the rule of loose nets names a part
  at_free : (Listed → ⊥) → (n : ℕ) → EndsAt d n → n < length (w.circuit).nets → IsFree w.roles n → ⊥
  at_free away n t within free = used ((w.rules).use_of n (inl loose)).used
    where
      loose : IsLoose ds w.roles (length (w.circuit).nets) n
      loose = record {
        in_range = within;
        free = free;
        no_output = λ o. away (cell_listed o.0 o.1 (λ b clock output bottom tree c. at_output o.0 clock output bottom tree b c n o.2.0 o.2.1 o.2.2 o.2.3 o.2.4 o.2.5 t));
        no_cell = λ x h r. away (cell_listed x h (λ b clock output bottom tree c. at_cell x clock output bottom tree b c n r t));
        no_latch = λ o. away (latch_listed n o t);
      }

      used : IsUsed ds w.roles n → ⊥
      used (inl z) = (z.0 p d at).0 t
      used (inr (inl z)) = away (sink_listed n z.0 t)
      used (inr (inr z)) = away (complement_listed n z.0 z.1 t)

  pub all_listed : Listed
  all_listed = elim (dec_any (λ q. q ≡ p) (λ q. dec_nat q p) w.order) [
    | inl z ↦ subst (λ q. Contains w.order q) z.2 z.1
    | inr none ↦
        let away : Listed → ⊥ = λ c. none (p, c, refl) in
        let r = w.range d p at in
        absurd (elim (lt_or_ge d.drain (source_count w.roles)) [
          | inl x ↦ elim (lt_or_ge d.source (source_count w.roles)) [
            | inl y ↦ (w.rules).no_bridge p d at ((λ f. omega (arith, x, f)), (λ f. omega (arith, y, f)))
            | inr y ↦ at_free away d.source (inr refl) r.1 y
          ]
          | inr x ↦ at_free away d.drain (inl refl) r.0 x
        ])
  ]

-- No device stands twice in the places of a cell or of an inverter.
use Rattle.std.specs.List.{AllByRecursion}
use Rattle.std.specs.Prelude.{◌≢◌, ◌⊎◌}
use Rattle.std.proofs.Common.{List, [], ap, arith, inl, inr, refl, subst, sym, ℕ, ◌++◌, ◌∙◌, ◌∷◌, ◌≡◌}
use Rattle.dom_base.proofs.Decided.{dec_nat}
use Rattle.dom_base.proofs.Lists.{AllByRecursion-append, AllByRecursion-weaker}
use Rattle.dom_base.specs.declared.kind.Kind.{Kind}
use Rattle.dom_base.specs.declared.kind.Kind.TheVariants.{Keep, N as nch, P as pch}
use Rattle.deck.specs.declared.device.Device.{Device}
use Rattle.sp_network.specs.Tree.{Leaf, Parallel, Series, Tree}
use Rattle.switch_model.specs.Laws.{EndsAt}
use Rattle.switch_model.proofs.Searches.{ends_at}
use Rattle.port_runs.specs.Periods.{vdd_port, vss_port}
use Rattle.circuit_law.specs.Counts.{Distinct}
use Rattle.link_reduce.specs.Parts.{numbers_of}
use Rattle.sp_reduction.specs.Networks.{Apart, Between, Has, Link}
use Rattle.deck_audit.specs.Rules.{HasFront, HasTree}
use Rattle.deck_audit.specs.Words.{IsDynamic, IsFree, IsInverterOutput, IsReachedDevice, Reached, StandsAt, here}
use Rattle.deck_audit.proofs.CellTrees.{one_device}
use Rattle.deck_audit.proofs.RuleFacts.{dynamic_no_inverter, end_of, inside_no_inverter, not_keep_n, not_keep_p, not_p_n, reached_free}
use Rattle.found_decks.specs.FoundDecks.{AreInverterPlaces, IsCellPlaces}
use Rattle.found_decks.proofs.FoundNets.{Found, devices}

-- two lists with properties that no number has both
pub distinct_append : (P Q : ℕ → Type 0) → ((p : ℕ) → P p → Q p → ⊥) → (xs ys : List ℕ) → AllByRecursion P xs → AllByRecursion Q ys → Distinct xs → Distinct ys → Distinct (xs ++ ys)
distinct_append P Q clash [] ys h k d e = e
distinct_append P Q clash (x ∷ xs) ys h k d e = (
  AllByRecursion-append (λ m. m ≢ x) xs ys d.0 (AllByRecursion-weaker Q (λ m. m ≢ x) (λ m q z. clash x h.0 (subst Q z q)) ys k),
  distinct_append P Q clash xs ys h.1 k d.1 e,
)

-- the numbers of a tree's links
number_all : (t : Tree Link) (Q : ℕ → Type 0) → ((e : Link) → Has t e → Q e.number) → AllByRecursion Q (numbers_of t)
number_all (Leaf e) Q h = (h e refl, tt)
number_all (Series l r) Q h = AllByRecursion-append Q (numbers_of l) (numbers_of r) (number_all l Q (λ e z. h e (inl z))) (number_all r Q (λ e z. h e (inr z)))
number_all (Parallel l r) Q h = AllByRecursion-append Q (numbers_of l) (numbers_of r) (number_all l Q (λ e z. h e (inl z))) (number_all r Q (λ e z. h e (inr z)))

abbrev IsNumberOf : Tree Link → ℕ → Type 0
IsNumberOf t n = (e : Link) × Has t e × (e.number ≡ n)

parts_distinct : (l r : Tree Link) → Apart l r → Distinct (numbers_of l) → Distinct (numbers_of r) → Distinct (numbers_of l ++ numbers_of r)
parts_distinct l r k d e =
    distinct_append (IsNumberOf l) (IsNumberOf r) (λ n x y. k x.0 y.0 x.1 y.1 (x.2 ∙ sym y.2)) (numbers_of l) (numbers_of r)
    (number_all l (IsNumberOf l) (λ e h. (e, h, refl))) (number_all r (IsNumberOf r) (λ e h. (e, h, refl))) d e

numbers_distinct : (t : Tree Link) (a b : ℕ) → Between t a b → Distinct (numbers_of t)
numbers_distinct (Leaf e) a b h = (tt, tt)
numbers_distinct (Series l r) a b (m, p, q, s, k) = parts_distinct l r k (numbers_distinct l a m p) (numbers_distinct r m b q)
numbers_distinct (Parallel l r) a b (p, q, s, k) = parts_distinct l r k (numbers_distinct l a b p) (numbers_distinct r a b q)

module _ (w : Found) where
  abbrev ds : List Device
  ds = devices w

  -- two devices of different kinds stand at different places
  not_at : (p q : ℕ) (d e : Device) → StandsAt ds p d → StandsAt ds q e → (k l : Kind) → d.kind ≡ k → e.kind ≡ l → (k ≡ l → ⊥) → q ≢ p
  not_at p q d e a b k l x y clash z = clash (sym x ∙ ap (λ (v : Device). v.kind) (one_device ds p d e a (subst (λ m. StandsAt ds m e) z b)) ∙ y)

  -- the two places of an inverter
  pair_distinct : (n i : ℕ) (v : IsInverterOutput ds n i) → Distinct (v.up ∷ v.down ∷ [])
  pair_distinct n i v = ((not_at v.up v.down v.pull_up v.pull_down v.up_there v.down_there pch nch (v.up_is).0 (v.down_is).0 not_p_n, tt), (tt, tt))

  pub inverter_distinct : (n : ℕ) (b : List ℕ) → AreInverterPlaces ds n b → Distinct b
  inverter_distinct n b z = subst Distinct (sym z.places_are) (pair_distinct n z.input z.inverter)

  module _ (x clock output bottom : ℕ) (tree : Tree Link) (b : List ℕ) (dynamic : IsDynamic ds w.roles x) (c : IsCellPlaces ds w.roles x clock output bottom tree b) where
    abbrev f : HasFront ds w.roles x clock output
    f = c.front

    abbrev t : HasTree ds w.roles x clock bottom tree
    t = c.has_tree

    abbrev v : IsInverterOutput ds output x
    v = c.inverter

    abbrev stage : List ℕ
    stage = numbers_of tree ++ t.foot ∷ []

    abbrev pair : List ℕ
    pair = v.up ∷ v.down ∷ []

    -- the places of the tree and of the foot
    abbrev InStage : ℕ → Type 0
    InStage q = (d : Device) × StandsAt ds q d × IsReachedDevice ds w.roles x d

    in_stage : AllByRecursion InStage stage
    in_stage =
        AllByRecursion-append InStage (numbers_of tree) (t.foot ∷ [])
        (number_all tree InStage (λ e h. let l = (t.links_are e).0 h in (l.1, subst (λ p. StandsAt ds p l.1) (sym (ap (λ (y : Link). y.number) l.5)) l.2, l.3)))
        ((t.foot_device, t.foot_there, (t.foot_is.0, bottom, t.bottom_reached, ends_at t.foot_device bottom vss_port t.foot_is.2)), tt)

    stage_distinct : Distinct stage
    stage_distinct =
        distinct_append (λ q. q ≢ t.foot) (λ q. q ≡ t.foot) (λ q n e. n e) (numbers_of tree) (t.foot ∷ [])
        (number_all tree (λ q. q ≢ t.foot) (λ e h. let l = (t.links_are e).0 h in subst (λ p. p ≢ t.foot) (sym (ap (λ (y : Link). y.number) l.5)) l.4))
        (refl, tt) (numbers_distinct tree x bottom t.between) (tt, tt)

    low_supply : (m : ℕ) → (m ≡ vdd_port) ⊎ (m ≡ vss_port) → IsFree w.roles m → ⊥
    low_supply m (inl e) g = omega (arith, e, g)
    low_supply m (inr e) g = omega (arith, e, g)

    -- no reached device ends at the output
    no_output : (m : ℕ) → Reached ds w.roles x m → m ≡ output → ⊥
    no_output m r e = elim (dec_nat m x) [
      | inl z ↦ dynamic_no_inverter ds w.roles _ w.rules x x dynamic (subst (λ n. IsInverterOutput ds n x) (sym e ∙ z) v)
      | inr ne ↦ inside_no_inverter ds w.roles _ w.rules m x (t.inside m r ne) (subst (λ n. IsInverterOutput ds n x) (sym e) v)
    ]

    stage_pair : (q : ℕ) → InStage q → (q ≡ v.up) ⊎ (q ≡ v.down) → ⊥
    stage_pair q s (inl e) = not_at v.up q v.pull_up s.0 v.up_there s.1 pch nch (v.up_is).0 s.2.0 not_p_n e
    stage_pair q s (inr e) =
        let same = one_device ds v.down s.0 v.pull_down (subst (λ p. StandsAt ds p s.0) e s.1) v.down_there in
        elim (end_of v.pull_down output vss_port s.2.1 (v.down_is).2 (subst (λ d. EndsAt d s.2.1) same s.2.3)) [
          | inl z ↦ no_output s.2.1 s.2.2 z
          | inr z ↦ low_supply s.2.1 (inr z) (reached_free ds w.roles _ w.rules x s.2.1 dynamic.0 s.2.2)
        ]

    rest_distinct : Distinct (stage ++ pair)
    rest_distinct = distinct_append InStage (λ q. (q ≡ v.up) ⊎ (q ≡ v.down)) stage_pair stage pair in_stage (inl refl, (inr refl, tt)) stage_distinct (pair_distinct output x v)

    up_precharge : v.up ≢ f.precharge
    up_precharge e =
        let same = one_device ds f.precharge f.precharge_device v.pull_up f.precharge_there (subst (λ p. StandsAt ds p v.pull_up) e v.up_there) in
        elim (end_of v.pull_up output vdd_port x (v.up_is).2 (subst (λ d. EndsAt d x) same (ends_at f.precharge_device x vdd_port (f.precharge_is).2))) [
          | inl z ↦ no_output x here z
          | inr z ↦ low_supply x (inl z) dynamic.0
        ]

    behind_precharge : AllByRecursion (λ q. q ≢ f.precharge) (f.keeper ∷ (stage ++ pair))
    behind_precharge = (
      not_at f.precharge f.keeper f.precharge_device f.keeper_device f.precharge_there f.keeper_there pch Keep (f.precharge_is).0 (f.keeper_is).0 not_keep_p,
      AllByRecursion-append (λ q. q ≢ f.precharge) stage pair
          (AllByRecursion-weaker InStage (λ q. q ≢ f.precharge) (λ q s. not_at f.precharge q f.precharge_device s.0 f.precharge_there s.1 pch nch (f.precharge_is).0 s.2.0 not_p_n) stage in_stage)
          (up_precharge, (not_at f.precharge v.down f.precharge_device v.pull_down f.precharge_there v.down_there pch nch (f.precharge_is).0 (v.down_is).0 not_p_n, tt)),
    )

    behind_keeper : AllByRecursion (λ q. q ≢ f.keeper) (stage ++ pair)
    behind_keeper =
        AllByRecursion-append (λ q. q ≢ f.keeper) stage pair
        (AllByRecursion-weaker InStage (λ q. q ≢ f.keeper) (λ q s. not_at f.keeper q f.keeper_device s.0 f.keeper_there s.1 Keep nch (f.keeper_is).0 s.2.0 (λ e. not_keep_n (sym e))) stage in_stage) (
          not_at f.keeper v.up f.keeper_device v.pull_up f.keeper_there v.up_there Keep pch (f.keeper_is).0 (v.up_is).0 (λ e. not_keep_p (sym e)),
          (not_at f.keeper v.down f.keeper_device v.pull_down f.keeper_there v.down_there Keep nch (f.keeper_is).0 (v.down_is).0 (λ e. not_keep_n (sym e)), tt),
        )

    pub cell_distinct : Distinct b
    cell_distinct = subst Distinct (sym c.places_are) (behind_precharge, (behind_keeper, rest_distinct))

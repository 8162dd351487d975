-- Sorts of paths that a device passes, and parts of a circuit whose classes all sorts of paths have.
use Rattle.std.proofs.Common.{◌≡◌, ◌≢◌, ◌≤◌, ◌∙◌, ℕ, zero, suc, Bool, true, false, List, [], ◌∷◌, refl, sym, ap, inl, inr, length, get_or, arith}
use Rattle.std.specs.List.{AllByRecursion}
use Rattle.std.specs.Prelude.{Contains, Some, slice_get}
use Rattle.std.proofs.lemmas.List.{get_or_default}
use Rattle.dom_base.specs.Conduction.{conduction}
use Rattle.dom_base.specs.Decided.{Decided}
use Rattle.dom_base.specs.declared.kind.Kind.TheVariants.{Keep}
use Rattle.dom_base.specs.declared.tri.Tri.{Tri}
use Rattle.dom_base.specs.declared.tri.Tri.TheVariants.{One, Unknown, Zero}
use Rattle.dom_base.proofs.Bools.{never}
use Rattle.dom_base.proofs.Decided.{dec_and, dec_keeper, dec_not, dec_tri}
use Rattle.deck.specs.Paths.{Path, more, one}
use Rattle.deck.specs.Switches.{value_of}
use Rattle.deck.specs.declared.device.Device.{Device}
use Rattle.switch_model.specs.Components.{IsClosedPart}
use Rattle.switch_model.specs.Drives.{IsClass}
use Rattle.switch_model.specs.FourDrives.{IsPlain, sort_of}
use Rattle.switch_model.specs.Joins.{top_of}
use Rattle.switch_model.specs.Walks.{Conducts, PassesSort}
use Rattle.switch_model.specs.declared.sort.Sort.{Sort}
use Rattle.switch_model.proofs.Searches.{ends_at, other_at}
use Rattle.switch_model.proofs.SharedClasses.{shared_class}

on_where_known : (level : Tri) → level ≢ Unknown → level ≢ Zero → level ≡ One
on_where_known One u z = refl
on_where_known Zero u z = absurd (z refl)
on_where_known Unknown u z = absurd (u refl)

off_not_on : (level : Tri) → level ≡ One → level ≢ Zero
off_not_on level e f = let clash : One ≡ Zero = sym e ∙ f in cc

conducts_not_off : (definite : Bool) (level : Tri) → Conducts definite level → level ≢ Zero
conducts_not_off true level h = off_not_on level h
conducts_not_off false level h = h

-- a device whose gate is known is on for definite paths where it is not off
conducts_known : (definite : Bool) (level : Tri) → level ≢ Unknown → level ≢ Zero → Conducts definite level
conducts_known true level known h = on_where_known level known h
conducts_known false level known h = h

-- possible paths go through each device that paths of any sort go through
pub passes_possible : (definite keepers : Bool) (values : List Tri) (d : Device) → PassesSort (sort_of definite keepers) values d → PassesSort (sort_of false true) values d
passes_possible definite keepers values d h = (conducts_not_off definite _ h.0, λ e. absurd (never refl e))

unknown_not_off : (level : Tri) → level ≡ Unknown → level ≢ Zero
unknown_not_off level e f = let clash : Unknown ≡ Zero = sym e ∙ f in cc

-- a device that is off is plain
pub off_plain : (is_source : ℕ → Bool) (values : List Tri) (d : Device) → (PassesSort (sort_of false true) values d → ⊥) → IsPlain is_source values d
off_plain is_source values d none = record {
  known = λ u. none (unknown_not_off _ u, λ e. absurd (never refl e));
  apart = λ k on. absurd (none (on, λ e. absurd (never refl e)));
}

dec_conducts : (definite : Bool) (level : Tri) → Decided (Conducts definite level)
dec_conducts true level = dec_tri level One
dec_conducts false level = dec_not (dec_tri level Zero)

dec_strong : (keepers : Bool) (d : Device) → Decided (keepers ≡ false → d.kind ≢ Keep)
dec_strong true d = inl (λ e. absurd (never refl e))
dec_strong false d = elim (dec_keeper d.kind) [ inl k ↦ inr (λ f. f refl k) | inr n ↦ inl (λ e. n) ]

pub dec_passes : (definite keepers : Bool) (values : List Tri) (d : Device) → Decided (PassesSort (sort_of definite keepers) values d)
dec_passes definite keepers values d = dec_and (dec_conducts definite (conduction d.kind (value_of values d.gate))) (dec_strong keepers d)

-- lists of at most one net
pub one_list : (nets : List ℕ) (net : ℕ) → length nets ≤ 1 → Contains nets net → nets ≡ net ∷ []
one_list [] net few c = absurd (omega (arith, c.1))
one_list (x ∷ []) net few (zero, lt, at) = ap (λ z. z ∷ []) at
one_list (x ∷ []) net few (suc k, lt, at) = absurd (omega (arith, lt))
one_list (x ∷ y ∷ nets) net few c = absurd (omega (arith, few))

pub one_net : (nets : List ℕ) → length nets ≤ 1 → (x y : ℕ) → Contains nets x → Contains nets y → x ≡ y
one_net nets few x y hx hy =
    let e : hx.0 ≡ hy.0 = omega (arith, hx.1, hy.1, few) in
    sym hx.2 ∙ get_or_default nets hx.0 x y hx.1 ∙ ap (λ i. get_or nets i y) e ∙ hy.2

module _ (devices : List Device) (is_source : ℕ → Bool) (nets places : List ℕ) (closed : IsClosedPart devices is_source nets places) (values : List Tri) where
  -- where all devices are plain each sort of paths has the classes of possible paths
  pub plain_class : ((d : Device) (place : ℕ) → Contains places place → slice_get devices place ≡ Some d → IsPlain is_source values d)
      → (definite keepers : Bool) (parents : List ℕ) → IsClass devices is_source values (sort_of false true) nets parents → IsClass devices is_source values (sort_of definite keepers) nets parents
  plain_class plain definite keepers parents =
      shared_class devices is_source nets places closed values (sort_of false true) (sort_of definite keepers) parents
      (λ d i h.
      let p = plain d i.0.0 i.0.1 i.0.2 in
      (conducts_known definite _ p.known h.0, λ e k. p.apart k h.0 i.1 i.2))
      (λ d i h. passes_possible definite keepers values d h)

  -- a path from one of the nets to a net that is no source ends at one of the nets
  pub path_within : {a b : ℕ} {p : List Device} → Path is_source a p b → Contains nets a → AllByRecursion (Contains devices) p → is_source b ≡ false → Contains nets b
  path_within {a} {b} (one {d = d} e) m c f =
      let z = closed.all d a c.0 m (ends_at d a b e) in
      closed.within d z.0 b z.1 z.2 (other_at d a b e) f
  path_within {a} {b} (more {d = d} {m = n} e k r) m c f =
      let z = closed.all d a c.0 m (ends_at d a n e) in
      path_within r (closed.within d z.0 n z.1 z.2 (other_at d a n e) k) c.1 f

  -- one net is a class by itself
  pub one_class : length nets ≤ 1 → (sort : Sort) (parents : List ℕ) → IsClass devices is_source values sort nets parents
  one_class few sort parents = record {
    to = λ x y hx hy e. inl (one_net nets few x y hx hy);
    from = λ x y hx j f.
        let hy = path_within j.1 hx j.2 f in
        (hy, ap (top_of parents) (one_net nets few x y hx hy));
  }

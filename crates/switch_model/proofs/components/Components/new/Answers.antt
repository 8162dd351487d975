use Rattle.std.proofs.Common.{arith, ap, ◌∙◌, ◌≡◌, ◌<◌, inl, inr, subst, length, List, ℕ, [], false}
use Rattle.std.specs.Prelude.{◌↔◌, Contains, slice_get}
use Rattle.std.proofs.lemmas.List.{get_or_past}
use Rattle.dom_base.proofs.Decided.{lt_or_ge}
use Rattle.switch_model.specs.ComponentLists.{IsTouchedBy, is_of, list_at, listed_below}
use Rattle.switch_model.specs.Joins.{top_of}
use Rattle.switch_model.specs.LinksData.{is_first}
use Rattle.switch_model.proofs.Connections.{listed_in}
use Rattle.switch_model.proofs.components.Components.new.Goals as goal

pub list_touched-requires-clause-nets : goal.list_touched-requires-clause-nets
list_touched-requires-clause-nets c = λ k n h. let z = (c.in_ok-nets.ensures.nets k n).0 h in omega (arith, z.0, c.in_ok-nets.ensures.long)

pub list_touched-requires-clause-places : goal.list_touched-requires-clause-places
list_touched-requires-clause-places c = λ k place h.
    let made = c.in_ok-places.ensures in
    let devices = c.args.devices.now in
    elim (lt_or_ge k (length c.as_slice-2.result.now)) [
      | inl lt ↦
          (listed_in (λ (p : ℕ). is_of (top_of c.as_slice-2.result.now) (is_first c.args.sources) k (slice_get devices p)) (length devices) place
          (subst (λ (l : List ℕ). Contains l place) (made.places k lt) h)).0
      | inr ge ↦
          let none : Contains {X = ℕ} [] place = subst (λ (l : List ℕ). Contains l place) (get_or_past c.in_ok-places.places k [] (omega (arith, ge, made.long))) h in
          absurd (omega (arith, none.1))
    ]

pub returns : goal.returns
returns c =
    let parents : List ℕ = c.join_ends.new.parents.items in
    let devices = c.args.devices.now in
    let free = is_first c.args.sources in
    let one : c.as_slice.result.now ≡ parents = c.as_slice.ensures.value in
    let two : c.as_slice-2.result.now ≡ parents = c.as_slice-2.ensures.value in
    let long : length parents ≡ c.args.nets = c.join_ends.ensures.long ∙ c.in_ok-parents.ensures.long in
    let nets_long : length c.in_ok-nets.nets ≡ c.args.nets = c.in_ok-nets.ensures.long ∙ ap length one ∙ long in
    record {
      forest = c.join_ends.ensures.forest;
      numbering = c.join_ends.ensures.numbering;
      parents_long = long;
      nets_long = nets_long;
      places_long = c.in_ok-places.ensures.long ∙ ap length two ∙ long;
      touched_long = c.in_ok-touched.ensures.long ∙ nets_long;
      nets_are = subst (λ (m : ℕ). (k n : ℕ) → Contains (list_at c.in_ok-nets.nets k) n ↔ ((n < m) × (free n ≡ false) × (top_of parents n ≡ k))) long
          (subst (λ (l : List ℕ). (k n : ℕ) → Contains (list_at c.in_ok-nets.nets k) n ↔ ((n < length l) × (free n ≡ false) × (top_of l n ≡ k))) one c.in_ok-nets.ensures.nets);
      places_are = subst (λ (m : ℕ). (k : ℕ) → k < m → list_at c.in_ok-places.places k ≡ listed_below (λ place. is_of (top_of parents) free k (slice_get devices place)) (length devices)) long
          (subst (λ (l : List ℕ). (k : ℕ) → k < length l → list_at c.in_ok-places.places k ≡ listed_below (λ place. is_of (top_of l) free k (slice_get devices place)) (length devices)) two c.in_ok-places.ensures.places);
      rising = c.in_ok-touched.ensures.rising;
      touched_are = subst (λ (m : ℕ). (x k : ℕ) → Contains (list_at c.in_ok-touched.touched x) k ↔ ((k < m) × IsTouchedBy devices (list_at c.in_ok-nets.nets k) (list_at c.in_ok-places.places k) x)) nets_long
          c.in_ok-touched.ensures.touched;
    }

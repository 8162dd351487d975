-- What the charge of a class says.
use Rattle.std.proofs.Common.{◌≡◌, ℕ, Bool, true, false, List, refl, sym, ap, ◌∙◌, inl, inr}
use Rattle.std.specs.Prelude.{◌↔◌, if◌then◌else◌, Contains}
use Rattle.dom_base.specs.declared.tri.Tri.{Tri}
use Rattle.dom_base.specs.declared.tri.Tri.TheVariants.{Unknown}
use Rattle.dom_base.proofs.Lists.{AllByRecursion-weaker}
use Rattle.deck.specs.declared.device.Device.{Device}
use Rattle.deck.specs.Paths.{Possible}
use Rattle.deck.specs.Switches.{IsNotOff, value_of}
use Rattle.switch_model.specs.declared.sort.Sort.{Sort}
use Rattle.switch_model.specs.Components.{IsClosedPart}
use Rattle.switch_model.specs.Drives.{IsClass, JoinsBy}
use Rattle.switch_model.specs.Joins.{top_of}
use Rattle.switch_model.specs.Found.{IsCharge}
use Rattle.switch_model.specs.Walks.{PassesSort}

never : true ≡ false → ⊥
never e = cc

module _ (devices : List Device) (is_source : ℕ → Bool) (values : List Tri) (nets places parents : List ℕ) (closed : IsClosedPart devices is_source nets places)
    (class : IsClass devices is_source values (record { definite = false; keepers = true }) nets parents) (net : ℕ) (member : Contains nets net) where
  abbrev Any : Sort
  Any = record { definite = false; keepers = true }

  to_joins : (n : ℕ) → Possible devices is_source values net n → JoinsBy devices is_source values Any net n
  to_joins n (p, path, c, f) = (p, path, c, AllByRecursion-weaker (IsNotOff values) (PassesSort Any values) (λ d h. (h, λ k. absurd (never k))) p f)

  from_joins : (n : ℕ) → JoinsBy devices is_source values Any net n → Possible devices is_source values net n
  from_joins n (p, path, c, f) = (p, path, c, AllByRecursion-weaker (PassesSort Any values) (IsNotOff values) (λ d h. h.0) p f)

  abbrev Below : ℕ → Type 0
  Below m = Contains nets m × (top_of parents m ≡ top_of parents net)

  below : (n : ℕ) → Possible devices is_source values net n → is_source n ≡ false → Below n
  below n h f = let z = class.from net n member (to_joins n h) f in (z.0, sym z.1)

  above : ((n : ℕ) → Possible devices is_source values net n → is_source n ≡ false → value_of values n ≡ value_of values net) → (m : ℕ) → Below m → value_of values m ≡ value_of values net
  above h m b = elim (class.to net m member b.0 (sym b.1)) [
    | inl e ↦ ap (value_of values) (sym e)
    | inr j ↦ h m (from_joins m j) (closed.free m b.0)
  ]

  -- the charge is the own value where all nets that possible paths join to the net have it
  pub charged : (c : Tri) → IsCharge Below values c
      → (alike : Bool) × ((alike ≡ true) ↔ ((n : ℕ) → Possible devices is_source values net n → is_source n ≡ false → value_of values n ≡ value_of values net))
      × (c ≡ (if alike then (value_of values net) else Unknown))
  charged c (inl h) = (true, ((λ e n p f. h n (below n p f) ∙ sym (h net (member, refl))), λ a. refl), sym (h net (member, refl)))
  charged c (inr h) = (false, ((λ e. absurd (never (sym e))), λ a. absurd (h.1.4 (above a h.1.0 h.1.2 ∙ sym (above a h.1.1 h.1.3)))), h.0)

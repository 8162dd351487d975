-- The nets and the devices of one component are closed.
use Rattle.std.proofs.Common.{◌≡◌, ℕ, ◌<◌, Bool, true, false, List, length, get_or, sym, ap, subst, ◌∙◌, inl, inr, arith}
use Rattle.std.specs.Prelude.{All, Contains, Some, slice_get}
use Rattle.std.proofs.lemmas.List.Elements.{Contains-get_or}
use Rattle.std.proofs.lemmas.Option.{slice_get_within}
use Rattle.dom_base.proofs.Lists.{All-at, Contains-slice_get, slice_get-contained}
use Rattle.deck.specs.Nets.{IsInRange}
use Rattle.deck.specs.declared.device.Device.{Device}
use Rattle.switch_model.specs.ComponentLists.{AreComponentLists, is_of, list_at, number_in}
use Rattle.switch_model.specs.Components.{IsClosedPart}
use Rattle.switch_model.specs.Laws.{EndsAt}
use Rattle.switch_model.specs.declared.components.Components.{Components}
use Rattle.switch_model.proofs.Connections.{end_of, has_end, in_listed, listed_in, one_number}

-- the ends of a device in range
pub end_below : (nets : ℕ) (d : Device) (n : ℕ) → IsInRange nets d → EndsAt d n → n < nets
end_below nets d n r (inl e) = omega (arith, e, r.drain)
end_below nets d n r (inr e) = omega (arith, e, r.source)

module _ (devices : List Device) (is_source : ℕ → Bool) (nets : ℕ) (c : Components) (h : AreComponentLists devices is_source nets c) (range : All (IsInRange nets) devices) where
  pub group_nets : (k : ℕ) → All (λ n. n < nets) (list_at c.nets k)
  group_nets k i d lt = ((h.nets_are k (get_or (list_at c.nets k) i d)).0 (Contains-get_or (list_at c.nets k) i d lt)).0

  module _ (k : ℕ) (few : k < nets) where
    pub placed : (place : ℕ) → Contains (list_at c.places k) place → (place < length devices) × (is_of (number_in c) is_source k (slice_get devices place) ≡ true)
    placed place m = listed_in (λ p. is_of (number_in c) is_source k (slice_get devices p)) (length devices) place (subst (λ l. Contains l place) (h.places_are k few) m)

    pub group_places : All (λ place. place < length devices) (list_at c.places k)
    group_places i d lt = (placed (get_or (list_at c.places k) i d) (Contains-get_or (list_at c.places k) i d lt)).0

    -- a device with an end in the component stands at a place
    pub place_of : (d : Device) (place n : ℕ) → slice_get devices place ≡ Some d → EndsAt d n → is_source n ≡ false → number_in c n ≡ k → Contains (list_at c.places k) place
    place_of d place n is e f at =
        subst (λ l. Contains l place) (sym (h.places_are k few))
        (in_listed (λ p. is_of (number_in c) is_source k (slice_get devices p)) (length devices) place (slice_get_within devices place d is)
        (ap (is_of (number_in c) is_source k) is ∙ has_end (number_in c) is_source k d n e f at))

    -- the device at a place has an end in the component
    pub end_at : (d : Device) (place : ℕ) → Contains (list_at c.places k) place → slice_get devices place ≡ Some d → (n : ℕ) × EndsAt d n × (is_source n ≡ false) × (number_in c n ≡ k)
    end_at d place m is = end_of (number_in c) is_source k d (sym (ap (is_of (number_in c) is_source k) is) ∙ (placed place m).1)

    pub group_closed : IsClosedPart devices is_source (list_at c.nets k) (list_at c.places k)
    group_closed = record {
      free = λ n m. ((h.nets_are k n).0 m).1;
      all = λ d n member m e.
          let z = (h.nets_are k n).0 m in
          let p = slice_get-contained devices d member in
          (p.0, place_of d p.0 n p.1 e z.1 z.2, p.1);
      within = λ d place n m is e f.
          let z = end_at d place m is in
          let member = Contains-slice_get devices place d is in
          (h.nets_are k n).1 (end_below nets d n (All-at (IsInRange nets) devices place d range is) e, f, one_number devices is_source (number_in c) h.numbering d n z.0 member e f z.1 z.2 ∙ z.3);
    }

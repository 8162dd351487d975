-- One more net has a slot.
use Rattle.std.proofs.Common.{◌≡◌, ℕ, List, [], ◌∷◌, ◌++◌, length, Option, Some, set, slice_get, inl, inr, sym, ap, ◌∙◌}
use Rattle.dom_base.proofs.Lists.{slice_get-append, slice_get-push}
use Rattle.subckt_expand.specs.Units.{AreSlots}
use Rattle.subckt_expand.proofs.Kept.{set_cases}

pub slots_more : (of_net : List (Option ℕ)) (nets : List ℕ) (net : ℕ) → AreSlots (record { of_net = of_net; nets = nets })
    → AreSlots (record { of_net = set of_net net (Some (length nets)); nets = nets ++ net ∷ [] })
slots_more of_net nets net is = record {
  back = λ other slot at. elim (set_cases of_net net other (Some (length nets)) (Some slot) at) [
    | inl h ↦ (let same : slot ≡ length nets = cc in
        ap (slice_get (nets ++ net ∷ [])) same ∙ slice_get-push nets net ∙ ap Some (sym h.0))
    | inr h ↦ slice_get-append nets (net ∷ []) slot other (is.back other slot h)
  ];
}

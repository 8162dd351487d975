-- The nets and the ends of sinks by their places.
use Rattle.std.proofs.Common.{All, ◌≡◌, ℕ, ◌+◌, ◌-◌, ◌<◌, Bool, true, false, cond, List, [], length, map, zip, get_or, refl, ap, ap₂, ◌∙◌, arith, length-append, nat_lt, zero-add}
use Rattle.std.specs.List.{enumerate_from}
use Rattle.std.proofs.lemmas.Bool.{ltb-false, ltb-true}
use Rattle.std.proofs.lemmas.List.{get_or-append-add, get_or-map, length-map}
use Rattle.std.proofs.lemmas.List.Elements.{All-weaker}
use Rattle.std.proofs.lemmas.List.FromFn.{get_or-enumerate_from, length-enumerate_from}
use Rattle.std.proofs.lemmas.Slice.Zip.{get_or-zip, length-zip}
use Rattle.std.proofs.Math.ListN.{get_or-append}
use Rattle.deck.specs.declared.phase.Phase.{Phase}
use Rattle.deck_form.specs.ChosenDecks.{end_at_cell}
use Rattle.deck_form.specs.DeckNets.{Fixed, data_net, sink_nets}
use Rattle.dual_rail.specs.ForestData.{ForestData}
use Rattle.dual_rail.specs.ForestOrder.{IsEndOfForest}
use Rattle.dual_rail.specs.Uses.{IsEndThere}
use Rattle.dual_rail.specs.declared.forest.End.{End}
use Rattle.dual_rail.specs.declared.forest.End.TheVariants.{Const, Literal, FromDynamic, FromOutput}
use Rattle.plan_text.specs.PutGroups.{nth_sink, signed_phases}

module _ (outs : List (List ℕ)) (starts : List Bool) where
  abbrev data_nets : List (List ℕ)
  data_nets = map (λ (p : ℕ × Bool). data_net p.0) (enumerate_from 0 starts)

  pub sink_total : length (sink_nets outs starts) ≡ length outs + length starts
  sink_total = omega (arith, length-append outs data_nets, length-map (enumerate_from 0 starts) (λ (p : ℕ × Bool). data_net p.0), length-enumerate_from 0 starts)

  -- the net of a sink
  pub sink_at : (k : ℕ) → k < length outs + length starts → get_or (sink_nets outs starts) k [] ≡ nth_sink outs k
  sink_at k lt = by (nat_lt k (length outs)) refl
    where
      by : (b : Bool) → nat_lt k (length outs) ≡ b → get_or (sink_nets outs starts) k [] ≡ cond b (get_or outs k []) (data_net (k - length outs))
      by true e = get_or-append outs data_nets [] k (ltb-true k (length outs) e)
      by false e =
          let low = ltb-false k (length outs) e in
          let number : k ≡ length outs + (k - length outs) = omega (arith, low) in
          let here : k - length outs < length starts = omega (arith, lt, low) in
          let counted : k - length outs < length (enumerate_from 0 starts) = omega (arith, here, length-enumerate_from 0 starts) in
          ap (λ n. get_or (sink_nets outs starts) n []) number
          ∙ get_or-append-add outs data_nets (k - length outs) []
          ∙ get_or-map (λ (p : ℕ × Bool). data_net p.0) (enumerate_from 0 starts) (k - length outs) (0, false) [] counted
          ∙ ap (λ (p : ℕ × Bool). data_net p.0) (get_or-enumerate_from 0 starts (k - length outs) (0, false) here)
          ∙ ap data_net (zero-add (k - length outs))

  -- the phase of a sink
  pub phase_at : (signs : List Bool) (k : ℕ) (d : Phase) → length signs ≡ length outs + length starts → k < length signs
      → get_or (signed_phases outs starts signs) k d ≡ record { net = nth_sink outs k; plus = get_or signs k false }
  phase_at signs k d same lt =
      let phase : List ℕ × Bool → Phase = λ p. record { net = p.0; plus = p.1 } in
      let first : k < length (sink_nets outs starts) = omega (arith, sink_total, same, lt) in
      get_or-map phase (zip (sink_nets outs starts) signs) k ([], false) d (omega (arith, length-zip (sink_nets outs starts) signs, first, lt))
      ∙ ap phase (get_or-zip (sink_nets outs starts) signs k ([], false) first lt ∙ ap (λ n. (n, get_or signs k false)) (sink_at k (omega (arith, same, lt))))

  pub phase_total : (signs : List Bool) → length signs ≡ length outs + length starts → length (signed_phases outs starts signs) ≡ length signs
  phase_total signs same =
      let phase : List ℕ × Bool → Phase = λ p. record { net = p.0; plus = p.1 } in
      omega (arith, length-map (zip (sink_nets outs starts) signs) phase, length-zip (sink_nets outs starts) signs, sink_total, same)

  -- the net and the end of a sink
  pub end_at : (kept : List Bool) (ends : List End) (k : ℕ) (e : End) → length ends ≡ length outs + length starts → k < length ends
      → get_or (zip (sink_nets outs starts) (map (end_at_cell kept) ends)) k ([], Fixed false) ≡ (nth_sink outs k, end_at_cell kept (get_or ends k e))
  end_at kept ends k e same lt =
      let first : k < length (sink_nets outs starts) = omega (arith, sink_total, same, lt) in
      let second : k < length (map (end_at_cell kept) ends) = omega (arith, length-map ends (end_at_cell kept), lt) in
      get_or-zip (sink_nets outs starts) (map (end_at_cell kept) ends) k ([], Fixed false) first second
      ∙ ap₂ (λ n x. (n, x)) (sink_at k (omega (arith, same, lt))) (get_or-map (end_at_cell kept) ends k e (Fixed false) lt)

  pub end_total : (kept : List Bool) (ends : List End) → length ends ≡ length outs + length starts
      → length (zip (sink_nets outs starts) (map (end_at_cell kept) ends)) ≡ length ends
  end_total kept ends same =
      omega (arith, length-zip (sink_nets outs starts) (map (end_at_cell kept) ends), sink_total, same, length-map ends (end_at_cell kept))

-- ends of a forest that name pairs name cells
pub ends_have_cells : (forest : ForestData) (n : ℕ) → n ≡ length forest.pairs → All (IsEndOfForest forest) forest.ends → All (IsEndThere n) forest.ends
ends_have_cells forest n same =
    All-weaker (IsEndOfForest forest) (IsEndThere n) one forest.ends
  where
    one : (e : End) → IsEndOfForest forest e → IsEndThere n e
    one (Const b) h = tt
    one (Literal rail) h = tt
    one (FromDynamic place) h = omega (arith, h, same)
    one (FromOutput place) h = omega (arith, h, same)

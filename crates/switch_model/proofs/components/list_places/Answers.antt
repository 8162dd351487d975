use Rattle.std.proofs.Common.{arith, ap, ◌∙◌, ◌≡◌, ◌<◌, inl, inr, sym, Bool, length, length-set, get_or, List, [], ◌∷◌, ◌++◌, ℕ}
use Rattle.std.specs.Prelude.{Some, slice_get}
use Rattle.std.proofs.lemmas.Option.{slice_get-get_or}
use Rattle.dom_base.proofs.Bools.{not_true}
use Rattle.dom_base.proofs.Decided.{dec_nat}
use Rattle.dom_base.proofs.Lists.{Contains-slice_get}
use Rattle.dom_base.specs.declared.kind.Kind.TheVariants.{N as nch}
use Rattle.deck.specs.declared.device.Device.{Device}
use Rattle.switch_model.specs.ComponentLists.{is_of, has_end_in, list_at, with_number}
use Rattle.switch_model.specs.Laws.{EndsAt}
use Rattle.switch_model.specs.Joins.{top_of}
use Rattle.switch_model.specs.LinksData.{is_first}
use Rattle.switch_model.proofs.ComponentLists.{at_other, at_same}
use Rattle.switch_model.proofs.Connections.{end_of, has_end, listed-no, listed-yes, one_number}
use Rattle.switch_model.proofs.Forests.{top_low}
use Rattle.switch_model.proofs.components.list_places.Goals as goal
use Rattle.switch_model.proofs.components.list_places.Goals.{in-Some+in_ok-add, in_default}

abbrev zero_device : Device
zero_device = record { kind = nch; drain = 0; gate = 0; source = 0 }

pub loop-place-preserved : goal.loop-place-preserved
loop-place-preserved c =
    let i = c.loop-place.invariant in
    let parents = c.args.parents.now in
    let devices = c.args.devices.now in
    let free = is_first c.args.sources in
    let at = c.loop-place.place in
    let d = get_or devices at zero_device in
    let here : slice_get devices at ≡ Some d = slice_get-get_or devices at zero_device c.loop-place-test.true in
    let test : ℕ → ℕ → Bool = λ k place. is_of (top_of parents) free k (slice_get devices place) in
    let at_test : (k : ℕ) → test k at ≡ has_end_in (top_of parents) free k d = λ k. ap (is_of (top_of parents) free k) here in
    let range = c.requires.in_range at zero_device c.loop-place-test.true in
    let end_within : (n : ℕ) → EndsAt d n → n < length parents = λ n e. elim e [ inl g ↦ omega (arith, g, range.drain) | inr g ↦ omega (arith, g, range.source) ] in
    elim c.match-inner_end.branch [
      | in-Some+in_ok-add w ↦
          let net = w.in-Some.net in
          let inner = w.in-Some.ensures.some in
          let lt : w.top.result < length c.loop-place.places =
          omega (arith, w.top.ensures, top_low parents c.requires.forest net, end_within net inner.0, i.long) in
          let e : c.match-inner_end.places ≡ with_number c.loop-place.places w.top.result at = w.places-is ∙ w.in_ok-add.ensures in
          record {
            long = ap length e ∙ length-set _ _ _ ∙ i.long;
            so_far = λ k few. ap (λ (l : List (List ℕ)). list_at l k) e ∙ (elim (dec_nat k w.top.result) [
              | inl same ↦
                  ap (list_at (with_number c.loop-place.places w.top.result at)) same ∙ at_same c.loop-place.places w.top.result at lt
                  ∙ ap (λ (m : ℕ). list_at c.loop-place.places m ++ at ∷ []) (sym same) ∙ ap (λ (l : List ℕ). l ++ at ∷ []) (i.so_far k few)
                  ∙ sym (listed-yes (test k) at (at_test k ∙ has_end (top_of parents) free k d net inner.0 inner.1 (sym w.top.ensures ∙ sym same)))
              | inr ne ↦
                  at_other c.loop-place.places w.top.result at lt k ne ∙ i.so_far k few
                  ∙ sym (listed-no (test k) at (at_test k ∙ not_true _ (λ h.
                  let z = end_of (top_of parents) free k d h in
                  ne (sym z.3 ∙ one_number devices free (top_of parents) c.requires.numbering d z.0 net (Contains-slice_get devices at d here) z.1 z.2 inner.0 inner.1 ∙ sym w.top.ensures))))
            ]);
          }
      | in_default w ↦
          record {
            long = ap length w.places-is ∙ i.long;
            so_far = λ k few.
                ap (λ (l : List (List ℕ)). list_at l k) w.places-is ∙ i.so_far k few
                ∙ sym (listed-no (test k) at (at_test k ∙ not_true _ (λ h.
                let z = end_of (top_of parents) free k d h in
                w.in_default.ensures.none z.0 z.1 z.2)));
          }
    ]

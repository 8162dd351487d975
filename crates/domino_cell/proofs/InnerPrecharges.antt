-- Circuits to which the precharges of inner nets are appended one after the other.
use Rattle.std.proofs.Common.{◌≡◌, ℕ, suc, ◌+◌, ◌<◌, ◌≤◌, List, [], ◌∷◌, length, sym, ap, subst, ◌∙◌, arith, zero-add}
use Rattle.dom_base.specs.declared.kind.Kind.TheVariants.{P as pch}
use Rattle.deck.specs.CircuitData.{CircuitData}
use Rattle.deck.specs.CircuitGrowth.{Grew}
use Rattle.deck.specs.Limits.{most_devices}
use Rattle.deck.specs.NamedDevices.{NamedDevice, with_devices}
use Rattle.deck.specs.Pushes.{pushed}
use Rattle.deck.proofs.CircuitGrowth.{with_devices-append, with_devices-grew}
use Rattle.domino_cell.specs.Cell.{CellNets}
use Rattle.domino_cell.specs.StyledCells.{inner_precharges}
use Rattle.domino_cell.proofs.CellCircuits.{count_with}
use Rattle.domino_cell.proofs.StyledCells.{inner_precharges-next, length-inner}

module _ (old now : CircuitData) (nets : CellNets (List ℕ)) (n : ℕ) (made : now ≡ with_devices old (inner_precharges nets 0 n)) where
  pub grown : Grew old now
  grown = subst (Grew old) (sym made) (with_devices-grew old (inner_precharges nets 0 n))

  pub room_for_next : (count : ℕ) → n < count → length old.devices + count ≤ most_devices → length now.devices < most_devices
  room_for_next count low room =
      let many = ap (λ (c : CircuitData). length c.devices) made ∙ count_with old (inner_precharges nets 0 n) in
      let few = length-inner nets 0 n in
      omega (arith, many, few, low, room)

  pub next_precharge : (new : CircuitData) (net clock vdd : List ℕ) → net ≡ nets.inner n → clock ≡ nets.clock → vdd ≡ nets.vdd
      → new ≡ pushed now pch net clock vdd → new ≡ with_devices old (inner_precharges nets 0 (n + 1))
  next_precharge new net clock vdd net_is clock_is vdd_is is =
      let front = inner_precharges nets 0 n in
      let card : NamedDevice (List ℕ) = record { kind = pch; drain = nets.inner (0 + n); gate = nets.clock; source = nets.vdd } in
      let start : nets.inner n ≡ nets.inner (0 + n) = ap nets.inner (sym (zero-add n)) in
      let step : n + 1 ≡ suc n = omega arith in
      is
      ∙ (λ i. pushed (made i) pch ((net_is ∙ start) i) (clock_is i) (vdd_is i))
      ∙ sym (with_devices-append old front (card ∷ []))
      ∙ ap (with_devices old) (sym (inner_precharges-next nets 0 n))
      ∙ ap (λ m. with_devices old (inner_precharges nets 0 m)) (sym step)

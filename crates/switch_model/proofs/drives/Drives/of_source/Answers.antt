use Rattle.std.proofs.Common.{◌≡◌, subst, true}
use Rattle.std.specs.Prelude.{◌↔◌, bit_and}
use Rattle.dom_base.specs.Conduction.{conduction}
use Rattle.dom_base.specs.declared.tri.Tri.{Tri}
use Rattle.dom_base.specs.declared.tri.Tri.TheVariants.{Zero}
use Rattle.deck.specs.Switches.{value_of}
use Rattle.switch_model.specs.FourDrives.{has}
use Rattle.switch_model.specs.Walks.{Conducts}
use Rattle.switch_model.proofs.DriveBits.{has_and}
use Rattle.switch_model.proofs.Searches.{read_same}
use Rattle.switch_model.proofs.drives.Drives.of_source.Goals as goal

pub returns : goal.returns
returns c = λ definite keepers high.
    let a = c.sorts_by-sorts.result in
    let b = c.strengths_of.result in
    let e = c.sides_of.result in
    let both = has_and (bit_and a b) e definite keepers high in
    let first = has_and a b definite keepers high in
    let values = c.args.values.now in
    let d = c.args.device in
    let sorts : (has a definite keepers high ≡ true) ↔ Conducts definite (conduction d.kind (value_of values d.gate)) =
    subst (λ (v : Tri). (has a definite keepers high ≡ true) ↔ Conducts definite (conduction d.kind v)) (read_same values d.gate Zero c.requires.gate) (c.sorts_by-sorts.ensures definite keepers high) in
    let strength = c.strengths_of.ensures definite keepers high in
    let side = c.sides_of.ensures definite keepers high in (
      λ h.
          let z = both.0 h in
          let y = first.0 z.0 in
          ((sorts.0 y.0, strength.0 y.1), side.0 z.1),
      λ z. both.1 (first.1 (sorts.1 z.0.0, strength.1 z.0.1), side.1 z.1),
    )

use Rattle.std.proofs.Common.{◌++◌, ◌<◌, List, ℕ, length, get_or, sym, ap, ◌∙◌, arith, append_assoc}
use Rattle.dom_base.specs.declared.kind.Kind.TheVariants.{N}
use Rattle.deck.specs.declared.device.Device.{Device}
use Rattle.spice_text.specs.Text.{device_card}
use Rattle.spice_text.proofs.Lines.{cards-more}
use Rattle.spice_text.proofs.cards.put_cards.Goals as goal

pub loop-index-preserved : goal.loop-index-preserved
loop-index-preserved c =
    let lt : c.loop-index.index < length c.args.devices.now = omega arith in
    let none : Device = record { kind = N; drain = 0; gate = 0; source = 0 } in
    let append = c.in_ok-put_card.ensures {u = tt} in
    let more = cards-more c.args.nets.now c.args.devices.now c.loop-index.index none lt in
    append ∙ ap (λ (t : List ℕ). t ++ device_card c.args.nets.now (c.loop-index.index, get_or c.args.devices.now c.loop-index.index none)) c.loop-index.invariant
    ∙ append_assoc c.args.text.now.items _ _ ∙ ap (λ (t : List ℕ). c.args.text.now.items ++ t) (sym more)

use Rattle.std.proofs.Common.{◌∙◌, ap, refl, map, take}
use Rattle.std.specs.Str.{str_to_ascii_lowercase}
use Rattle.deck.specs.Nets.{with_net}
use Rattle.deck.specs.Numbers.{with_all}
use Rattle.subckt_expand.specs.Definitions.{DefinitionData}
use Rattle.spice_read.proofs.PassedNumbers.{numbers-step}
use Rattle.spice_read.proofs.Ports.{with_all-step}
use Rattle.spice_read.proofs.subckt.numbers_of.Goals as goal

pub loop-word-preserved : goal.loop-word-preserved
loop-word-preserved c =
    let old : DefinitionData = c.args.subckt.now in
    let here = c.loop-word.invariant.1 in
    let named = c.in_ok-net_name.ensures in
    let some = with_all old.nets (map (λ w. str_to_ascii_lowercase w.now) (take c.loop-word.word-index c.args.words.now)) in
    let more = with_all-step (λ w. str_to_ascii_lowercase w.now) old.nets c.args.words.now c.loop-word.word-index _ some (with_net some c.in_ok-net_name.field-0) c.in_ok-net_name.field-0 refl named refl c.loop-word-test.true in (
      numbers-step (λ w. str_to_ascii_lowercase w.now) old.nets c.args.words.now c.loop-word.word-index _ c.loop-word.numbers.items _ c.loop-word.subckt.nets c.in_ok-number.number c.in_ok-net_name.field-0
          c.in_ok-push.ensures.items c.in_ok-number.ensures.number named (ap (λ (d : DefinitionData). d.nets) here) c.loop-word.invariant.0 c.loop-word-test.true,
      c.in_ok-number.ensures.nets ∙ ap (λ (d : DefinitionData). record d { nets = with_net d.nets c.in_ok-net_name.field-0 }) here ∙ (λ i. record old { nets = more i }),
    )

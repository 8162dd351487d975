use Rattle.std.proofs.Common.{[], ◌∷◌, ◌++◌, ◌∙◌}
use Rattle.std.specs.Prelude.{codes}
use Rattle.std.specs.Fmt.{decimal}
use Rattle.deck_form.specs.DeckNets.{data_net, named_reset}
use Rattle.plan_text.specs.DeviceTexts.{with_put}
use Rattle.plan_text.specs.PutGroups.{clocked_inverter}
use Rattle.plan_text.proofs.DeviceTexts.{then_put}
use Rattle.plan_text.proofs.groups.put_latch.Goals as goal

pub returns : goal.returns
returns c =
    let j = c.args.j in
    let m = codes "m" ++ decimal j in
    let q = codes "q" ++ decimal j in
    let start = c.args.cards.now in
    let one = c.in_ok-put_clocked.ensures
    ∙ (λ i. with_put start (clocked_inverter m (c.named.ensures i) (c.named-2.ensures i) (c.numbered-data.ensures i))) in
    let two = c.in_ok-put_clocked-2.ensures
    ∙ (λ i. with_put c.put_clocked.new.cards (clocked_inverter q (c.named-3.ensures i) (c.named-4.ensures i) (c.numbered-master.ensures i))) in
    let master = clocked_inverter m (codes "lm") (codes "lmb") (data_net j) in
    let slave = clocked_inverter q (codes "ls") (codes "lsb") m in
    then_put start c.put_clocked-2.new.cards c.put_reset.new.cards (master ++ slave) (named_reset j c.args.init ∷ [])
    (then_put start c.put_clocked.new.cards c.put_clocked-2.new.cards master slave one two) c.in_ok-put_reset.ensures

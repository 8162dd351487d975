use Rattle.std.proofs.Common.{ℕ, List, [], ◌∷◌, ◌++◌, ap, ◌∙◌}
use Rattle.std.specs.Prelude.{codes}
use Rattle.std.specs.Fmt.{decimal}
use Rattle.deck.specs.NamedDevices.{NamedDevice}
use Rattle.dom_base.specs.declared.kind.Kind.TheVariants.{N as nch, P as pch}
use Rattle.plan_text.specs.DeviceTexts.{with_put}
use Rattle.plan_text.specs.Nets.{net_text}
use Rattle.plan_text.proofs.DeviceTexts.{then_put}
use Rattle.plan_text.proofs.groups.put_clocked.Goals as goal

pub returns : goal.returns
returns c =
    let name : List ℕ = c.args.front.now ++ decimal c.args.number in
    let out = c.named-out.ensures ∙ c.as_bytes-3.ensures.bytes ∙ c.in_ok-name.ensures in
    let upper = c.named-upper.ensures ∙ c.as_bytes-4.ensures.bytes ∙ c.in_ok-upper.ensures ∙ ap (λ n. n ++ codes "p") (c.as_bytes.ensures.bytes ∙ c.in_ok-name.ensures) in
    let lower = c.named-lower.ensures ∙ c.as_bytes-5.ensures.bytes ∙ c.in_ok-lower.ensures ∙ ap (λ n. n ++ codes "n") (c.as_bytes-2.ensures.bytes ∙ c.in_ok-name.ensures) in
    let clock = net_text c.args.clock in
    let opposite = net_text c.args.opposite in
    let input = net_text c.args.input in
    let first : NamedDevice (List ℕ) = record { kind = pch; drain = name; gate = opposite; source = name ++ codes "p" } in
    let second : NamedDevice (List ℕ) = record { kind = pch; drain = name ++ codes "p"; gate = input; source = codes "vdd" } in
    let third : NamedDevice (List ℕ) = record { kind = nch; drain = name; gate = clock; source = name ++ codes "n" } in
    let fourth : NamedDevice (List ℕ) = record { kind = nch; drain = name ++ codes "n"; gate = input; source = codes "vss" } in
    let start = c.args.cards.now in
    let one = c.in_ok-put.ensures ∙ (λ i. with_put start (record { kind = pch; drain = out i; gate = opposite; source = upper i } ∷ [])) in
    let two = c.in_ok-put-2.ensures ∙ (λ i. with_put c.put.new.self (record { kind = pch; drain = upper i; gate = input; source = c.named.ensures i } ∷ [])) in
    let three = c.in_ok-put-3.ensures ∙ (λ i. with_put c.put-2.new.self (record { kind = nch; drain = out i; gate = clock; source = lower i } ∷ [])) in
    let four = c.in_ok-put-4.ensures ∙ (λ i. with_put c.put-3.new.self (record { kind = nch; drain = lower i; gate = input; source = c.named-2.ensures i } ∷ [])) in
    then_put start c.put-3.new.self c.put-4.new.self (first ∷ second ∷ third ∷ []) (fourth ∷ [])
    (then_put start c.put-2.new.self c.put-3.new.self (first ∷ second ∷ []) (third ∷ [])
    (then_put start c.put.new.self c.put-2.new.self (first ∷ []) (second ∷ []) one two) three) four

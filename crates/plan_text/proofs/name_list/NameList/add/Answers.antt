use Rattle.std.proofs.Common.{rules, ◌≡◌, ◌+◌, ◌<◌, ◌^◌, ℕ, List, length, map, ap, sym, ◌∙◌}
use Rattle.std.proofs.lemmas.List.{length-map}
use Rattle.plan_text.proofs.NameLists.{name_added, new_name}
use Rattle.plan_text.proofs.name_list.NameList.add.Goals as goal

pub invariant_of-self-in-Ok : goal.invariant_of-self-in-Ok
invariant_of-self-in-Ok c =
    let sizes = c.self.inside.sizes.items in
    let few : length sizes + 1 < 2 ^ 32 = search rules in
    (name_added c.args.self.now c.args.name.now sizes c.self.inside.words.items c.push.new.self.items c.append_word.new.text.items
    c.self.view_is c.self.invariant few c.in_ok-push.ensures.items c.in-Ok.ensures.word).1

pub returns-in-Ok-clause-place : goal.returns-in-Ok-clause-place
returns-in-Ok-clause-place c =
    let sizes = c.self.inside.sizes.items in
    let long : c.len-place.result ≡ length sizes = search rules in
    long ∙ ap length (c.self.invariant.sizes_are ∙ ap (map (λ (n : List ℕ). length n)) c.self.view_is)
    ∙ length-map c.args.self.now (λ (n : List ℕ). length n) ∙ sym (new_name c.args.self.now c.args.name.now c.requires).0

pub returns-in-Ok-clause-names : goal.returns-in-Ok-clause-names
returns-in-Ok-clause-names c =
    let sizes = c.self.inside.sizes.items in
    let few : length sizes + 1 < 2 ^ 32 = search rules in
    (name_added c.args.self.now c.args.name.now sizes c.self.inside.words.items c.push.new.self.items c.append_word.new.text.items
    c.self.view_is c.self.invariant few c.in_ok-push.ensures.items c.in-Ok.ensures.word).0
    ∙ sym (new_name c.args.self.now c.args.name.now c.requires).1

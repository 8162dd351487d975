use Rattle.std.proofs.Common.{rules, ◌≡◌, ◌∙◌, length, vec_len, ap, sym, Bor}
use Rattle.std.proofs.lemmas.List.{length-map}
use Rattle.subckt_expand.specs.Definitions.{CallData}
use Rattle.subckt_expand.specs.Frames.{ExpandingData}
use Rattle.subckt_expand.proofs.expand.Expanding.depth.Goals as goal

pub returns : goal.returns
returns c =
    let value : Bor CallData → CallData = λ r. r.now in
    let count : vec_len c.self.inside.calls ≡ length c.self.inside.calls.items = search rules in
    c.len.ensures ∙ count ∙ sym (length-map c.self.inside.calls.items value) ∙ ap (λ (v : ExpandingData). length v.calls) c.self.view_is

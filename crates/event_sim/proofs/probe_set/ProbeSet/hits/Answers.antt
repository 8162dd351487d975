use Rattle.std.proofs.Common.{◌≡◌, ◌∙◌, None, Some, ap, rules, slice_index_or, sym}
use Rattle.std.specs.Option.{option_copied}
use Rattle.event_sim.specs.Probes.{Hits, ProbeMap, held}
use Rattle.event_sim.proofs.probe_set.ProbeSet.hits.Goals as goal

pub is_hit-requires : goal.is_hit-requires
is_hit-requires g c =
    let same = ap (λ (set : ProbeMap g.row.P.Denot). slice_index_or set.slots c.loop-key.key None) c.self.view_is in
    let is_held : held c.args.self.now c.loop-key.key ≡ Some c.in-Some.probe.now = sym same ∙ sym c.get.ensures ∙ ap option_copied c.in-Some.is in
    c.requires c.loop-key.key c.in-Some.probe.now is_held

pub returns-then-is_hit : goal.returns-then-is_hit
returns-then-is_hit g c =
    let same = ap (λ (set : ProbeMap g.row.P.Denot). slice_index_or set.slots c.loop-key.key None) c.self.view_is in
    let is_held : held c.args.self.now c.loop-key.key ≡ Some c.in-Some.probe.now = sym same ∙ sym c.get.ensures ∙ ap option_copied c.in-Some.is in
    let is_hit = c.if-is_hit.ensures.0 (search rules) in
    let hits : Hits c.args.self.now c.args.event.now = record { key = c.loop-key.key; probe = c.in-Some.probe.now; is_held = is_held; is_hit = is_hit } in
    search rules

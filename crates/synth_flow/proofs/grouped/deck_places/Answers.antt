use Rattle.std.proofs.Common.{rules, ◌≡◌, ◌||◌, ap, arith, length}
use Rattle.std.specs.List.{list_any, range_with_len}
use Rattle.std.proofs.lemmas.List.FromFn.{length-range_with_len}
use Rattle.synth_flow.specs.NamedComplements.{are_read, is_plus_end}
use Rattle.synth_flow.proofs.PushedDecks.{few_filtered}
use Rattle.synth_flow.proofs.grouped.deck_places.Goals as goal

pub sizes_of-requires-clause-few : goal.sizes_of-requires-clause-few
sizes_of-requires-clause-few c =
    let named : c.len.result ≡ length c.in_ok-named.named.items = search rules in
    let few = few_filtered (λ leaf. are_read c.args.plans.now leaf || list_any (is_plus_end leaf) c.args.ends.now)
    (range_with_len 0 c.args.leaf_count) in
    omega (
      arith,
      named,
      ap length c.in_ok-named.ensures,
      few,
      length-range_with_len 0 c.args.leaf_count,
      c.ranges.leaf_count.fits,
      c.requires.few_plans,
      c.requires.few_latches,
      c.requires.few_ends,
    )

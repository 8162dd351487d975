use Rattle.std.proofs.Common.{arith}
use Rattle.model_calls.specs.Refusal.{At}
use Rattle.compare_designs.proofs.networks.cases.compare.Goals as goal

pub flatten-requires : goal.flatten-requires
flatten-requires c = record { good = c.accepted_file_is_good.ensures _ _ (c.in_ok-file.ensures.file) }

pub compare_accepted-requires-clause-good : goal.compare_accepted-requires-clause-good
compare_accepted-requires-clause-good c = c.accepted_file_is_good.ensures _ _ (c.in_ok-file.ensures.file)

pub same_sizes-requires-clause-good : goal.same_sizes-requires-clause-good
same_sizes-requires-clause-good c = c.accepted_file_is_good.ensures _ _ (c.in_ok-file.ensures.file)

pub same_sizes-requires-clause-accepted : goal.same_sizes-requires-clause-accepted
same_sizes-requires-clause-accepted c kind line name few has =
    let e = c.in-Err-TooMany in
    let refused = e.ensures.too_many e.limit e.count (let is = e.field-0-is in cc) in
    let first = refused.first (At kind line name) has in
    omega (arith, few, first)

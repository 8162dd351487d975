use Rattle.std.proofs.Common.{map}
use Rattle.net_flatten.proofs.NetworkNames.{first_is_least}
use Rattle.net_flatten.proofs.network_names.least_prefix.Goals as goal

pub returns : goal.returns
returns c = first_is_least (map (λ k. k.now) c.args.names.now) c.deref.result.now c.first_free.result (rw c.deref.ensures.value (c.in_ok-marks.ensures {u = tt}))
    c.first_free.ensures.some c.first_free.ensures.free c.first_free.ensures.first

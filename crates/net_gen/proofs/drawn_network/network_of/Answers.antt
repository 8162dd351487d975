use Rattle.std.proofs.Common.{sym, subst}
use Rattle.network.specs.NetworkData.{NetworkData}
use Rattle.network.specs.Networks.{IsNetwork}
use Rattle.net_gen.proofs.GeneratedNetworks.{generated_is}
use Rattle.net_gen.proofs.drawn_network.network_of.Goals as goal

pub invariant_of-result : goal.invariant_of-result
invariant_of-result c =
    let name = c.in_ok-from_bytes.ensures in
    let names = c.in_ok-names_of.ensures in
    let outputs = c.in_ok-outputs_of.ensures in
    let latches = c.in_ok-latches_of.ensures in
    let tables = c.in_ok-tables_of.ensures in
    subst IsNetwork (sym (λ i. record { name = name i; names = names i; inputs = 16; outputs = outputs i; latches = latches i; tables = tables i }))
    (generated_is c.args.seed c.args.tables c.requires.some c.requires.few)

use Rattle.std.proofs.Common.{sym, ap, ◌∙◌}
use Rattle.std.specs.Prelude.{option_copied}
use Rattle.dom_base.proofs.Lists.{Contains-slice_get, slice_get-contained}
use Rattle.model_calls.specs.Formals.{names_of_ports}
use Rattle.model_calls.proofs.FormalFaults.{at_listed, firsts_have, firsts_only, listed_at}
use Rattle.model_calls.proofs.formals.is_port.Goals as goal

pub returns-in-Some : goal.returns-in-Some
returns-in-Some c =
    let all = names_of_ports c.args.unit.now in
    let firsts = c.requires.ports c.in-Some.names.now (ap option_copied c.in-Some.is) in (
      λ t. firsts_only all c.in-Some.names.now firsts c.args.name.now (c.has.ensures.0 t),
      λ there. c.has.ensures.1 (firsts_have all c.in-Some.names.now firsts c.args.name.now there),
    )

pub returns-in-None : goal.returns-in-None
returns-in-None c =
    let all = names_of_ports c.args.unit.now in (
      λ t. let h = at_listed all c.args.name.now (sym c.is_listed.ensures ∙ t) in Contains-slice_get all h.0 c.args.name.now h.1,
      λ there. let h = slice_get-contained all c.args.name.now there in c.is_listed.ensures ∙ listed_at all h.0 c.args.name.now h.1,
    )

use Rattle.std.proofs.Common.{ℕ, rules, subst}
use Rattle.dom_base.proofs.Options.{if_ok-weaker}
use Rattle.numbered_calls.specs.Owners.{AreOwners, HaveNameTwice, NamesNoModel}
use Rattle.numbered_calls.specs.Refused.{IsRefusedForModels}
use Rattle.numbered_calls.proofs.Owned.{models_apart}
use Rattle.numbered_calls.proofs.Refusing.{name_twice, no_model, none_found, none_of}
use Rattle.numbered_calls.proofs.unit_numbers.units.Goals as goal

pub find_units-requires : goal.find_units-requires
find_units-requires c =
    let owners : AreOwners c.args.file.now.models c.deref.result.now = search rules in
    record { owners = owners; apart = models_apart c.args.file.now c.deref.result.now owners c.is_in_order.ensures }

pub returns-in_default-clause-refused : goal.returns-in_default-clause-refused
returns-in_default-clause-refused c = name_twice c.args.file.now
    (subst HaveNameTwice c.models.ensures (none_of (HaveNameTwice c.models.result.now) c.in_ok-owners.field-0 c.in_default.not-Some c.in_ok-owners.ensures.twice))

pub returns-clause-refused : goal.returns-clause-refused
returns-clause-refused c =
    let d = c.args.file.now in
    if_ok-weaker c.find_units.result
    (λ found. none_found ((k : ℕ) × NamesNoModel d k) (IsRefusedForModels d) (λ n. no_model d c.is_in_order.ensures n.0 n.1) found) c.find_units.ensures.unknown

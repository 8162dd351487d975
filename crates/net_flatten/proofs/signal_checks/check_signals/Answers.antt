use Rattle.std.proofs.Common.{◌≡◌, rules, refl, arith}
use Rattle.model_calls.specs.declared.fault.FlatFault.TheVariants.{At}
use Rattle.model_calls.specs.declared.fault.FlatKind.TheVariants.{DrivenTwice, Undriven, Cycle, TwoControls, ControlUsed}
use Rattle.net_flatten.proofs.Unrefused.{none_of_all, none_with, refused_at}
use Rattle.net_flatten.proofs.signal_checks.check_signals.Goals as goal

pub returns-in_err-driven-clause-refused : goal.returns-in_err-driven-clause-refused
returns-in_err-driven-clause-refused c = λ line kind name is.
    let same : c.in_err-driven.field-0.0 ≡ At line kind name = search rules in
    refused_at c.args.file.now 6 DrivenTwice refl c.requires.before c.in_err-driven.ensures.check line kind name same

pub returns-in_err-check_readers-clause-refused : goal.returns-in_err-check_readers-clause-refused
returns-in_err-check_readers-clause-refused c =
    let seven = none_with c.args.file.now 6 DrivenTwice refl (omega arith) c.requires.before c.in_ok-driven.ensures.check in
    λ line kind name is.
    let same : c.in_err-check_readers.field-0.0 ≡ At line kind name = search rules in
    refused_at c.args.file.now 7 Undriven refl seven c.in_err-check_readers.ensures.check line kind name same

pub returns-in_err-levels-clause-refused : goal.returns-in_err-levels-clause-refused
returns-in_err-levels-clause-refused c =
    let seven = none_with c.args.file.now 6 DrivenTwice refl (omega arith) c.requires.before c.in_ok-driven.ensures.check in
    let eight = none_with c.args.file.now 7 Undriven refl (omega arith) seven c.in_ok-check_readers.ensures.check in
    λ line kind name is.
    let same : c.in_err-levels.field-0.0 ≡ At line kind name = search rules in
    refused_at c.args.file.now 8 Cycle refl eight c.in_err-levels.ensures.check line kind name same

pub returns-in_err-check_clocks-clause-refused : goal.returns-in_err-check_clocks-clause-refused
returns-in_err-check_clocks-clause-refused c =
    let seven = none_with c.args.file.now 6 DrivenTwice refl (omega arith) c.requires.before c.in_ok-driven.ensures.check in
    let eight = none_with c.args.file.now 7 Undriven refl (omega arith) seven c.in_ok-check_readers.ensures.check in
    let nine = none_with c.args.file.now 8 Cycle refl (omega arith) eight c.in_ok-levels.ensures.check in
    λ line kind name is.
    let same : c.in_err-check_clocks.field-0.0 ≡ At line kind name = search rules in
    refused_at c.args.file.now 9 TwoControls refl nine c.in_err-check_clocks.ensures.check line kind name same

pub returns-in_err-check_control-clause-refused : goal.returns-in_err-check_control-clause-refused
returns-in_err-check_control-clause-refused c =
    let seven = none_with c.args.file.now 6 DrivenTwice refl (omega arith) c.requires.before c.in_ok-driven.ensures.check in
    let eight = none_with c.args.file.now 7 Undriven refl (omega arith) seven c.in_ok-check_readers.ensures.check in
    let nine = none_with c.args.file.now 8 Cycle refl (omega arith) eight c.in_ok-levels.ensures.check in
    let ten = none_with c.args.file.now 9 TwoControls refl (omega arith) nine c.in_ok-check_clocks.ensures.check in
    λ line kind name is.
    let same : c.in_err-check_control.field-0.0 ≡ At line kind name = search rules in
    refused_at c.args.file.now 10 ControlUsed refl ten c.in_err-check_control.ensures.check line kind name same

pub returns-clause-accepted : goal.returns-clause-accepted
returns-clause-accepted c =
    let seven = none_with c.args.file.now 6 DrivenTwice refl (omega arith) c.requires.before c.in_ok-driven.ensures.check in
    let eight = none_with c.args.file.now 7 Undriven refl (omega arith) seven c.in_ok-check_readers.ensures.check in
    let nine = none_with c.args.file.now 8 Cycle refl (omega arith) eight c.in_ok-levels.ensures.check in
    let ten = none_with c.args.file.now 9 TwoControls refl (omega arith) nine c.in_ok-check_clocks.ensures.check in
    none_of_all c.args.file.now (none_with c.args.file.now 10 ControlUsed refl (omega arith) ten c.in_ok-check_control.ensures.check)

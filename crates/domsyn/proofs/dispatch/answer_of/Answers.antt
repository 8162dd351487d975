use Rattle.std.proofs.Common.{List, [], ◌∷◌, ℕ, map, length, ap, subst, sym, arith}
use Rattle.std.proofs.lemmas.Result.{IfOk-weaker}
use Rattle.std.proofs.lemmas.List.{length-map}
use Rattle.command_words.specs.Asked.{asked_command}
use Rattle.command_words.specs.Commands.{Command}
use Rattle.command_answers.specs.Endings.{ending_number}
use Rattle.domsyn.specs.Failures.{IsCommandFault}
use Rattle.domsyn.specs.Headline.{IsRightFor}
use Rattle.domsyn.specs.Outcomes.{IsOutcome, Printed}
use Rattle.command_answers.proofs.Benches.{same_bench}
use Rattle.domsyn.proofs.CommandAnswers.{audit_printed, cosim_printed, done_of, flat_printed, report_printed, run_printed, sim_printed, synth_printed}
use Rattle.domsyn.proofs.CommandFaults.{audit_fault, bench_fault, cosim_fault, flat_fault_of, report_fault, run_fault, sim_fault, synth_fault}
use Rattle.command_answers.specs.declared.fault.Fault.TheVariants.{Traced}
use Rattle.domsyn.proofs.Traced.{traced_err, traced_ok}
use Rattle.domsyn.proofs.FetchedFiles.{bytes_of, files_moved, place_within}
use Rattle.domsyn.proofs.dispatch.answer_of.Goals as goal

pub bytes_at-requires : goal.bytes_at-requires
bytes_at-requires c =
    place_within (asked_command c.args.command.now) _ (map bytes_of c.args.files.now) (length c.args.files.now) 0 (ap asked_command c.in-Synth.is) c.requires.given
    (length-map c.args.files.now bytes_of) (omega arith)

pub returns-in-Synth-clause-text : goal.returns-in-Synth-clause-text
returns-in-Synth-clause-text c =
    let same = ap asked_command c.in-Synth.is in
    IfOk-weaker c.synth.result _ _
    (λ answer made known are.
    let names : List (List ℕ) = c.in-Synth.file.now ∷ [] in
    let here = files_moved known (asked_command c.args.command.now) _ (map bytes_of c.args.files.now) same are in
    subst (λ (k : Command). IsOutcome known k (Printed (ending_number answer.ending) answer.text.items)) (sym same)
    (synth_printed known c.in-Synth.file.now c.bytes_at.result.now answer.text.items answer.ending (c.bytes_at.ensures known names here) c.in-Synth.options c.in-Synth.method made))
    c.synth.ensures.deck

pub returns-in-Synth-clause-right : goal.returns-in-Synth-clause-right
returns-in-Synth-clause-right c =
    let same = ap asked_command c.in-Synth.is in
    IfOk-weaker c.synth.result _ _
    (λ answer is known are.
    let names : List (List ℕ) = c.in-Synth.file.now ∷ [] in
    let here = files_moved known (asked_command c.args.command.now) _ (map bytes_of c.args.files.now) same are in
    subst (λ (k : Command). IsRightFor known k (ending_number answer.ending) answer.text.items) (sym same) (record { bytes = c.bytes_at.result.now; is_file = (c.bytes_at.ensures known names here); is_right = is.0; signs = is.1; least = is.2 }))
    c.synth.ensures.right

pub returns-in-Synth-clause-refused : goal.returns-in-Synth-clause-refused
returns-in-Synth-clause-refused c why is known are =
    let same = ap asked_command c.in-Synth.is in
    let names : List (List ℕ) = c.in-Synth.file.now ∷ [] in
    let here = files_moved known (asked_command c.args.command.now) _ (map bytes_of c.args.files.now) same are in
    subst (λ (k : Command). IsCommandFault known k why) (sym same)
    (synth_fault known c.in-Synth.file.now c.bytes_at.result.now (c.bytes_at.ensures known names here) c.in-Synth.options c.in-Synth.method why (c.synth.ensures.refused why is))

pub bytes_at-requires-in-Flat : goal.bytes_at-requires-in-Flat
bytes_at-requires-in-Flat c =
    place_within (asked_command c.args.command.now) _ (map bytes_of c.args.files.now) (length c.args.files.now) 0 (ap asked_command c.in-Flat.is) c.requires.given
    (length-map c.args.files.now bytes_of) (omega arith)

pub returns-in-Flat-clause-text : goal.returns-in-Flat-clause-text
returns-in-Flat-clause-text c =
    let same = ap asked_command c.in-Flat.is in
    traced_ok _ c.flat.result c.traced.result c.traced.ensures
    (IfOk-weaker c.flat.result _ _
    (λ answer made known are.
    let names : List (List ℕ) = c.in-Flat.file.now ∷ [] in
    let here = files_moved known (asked_command c.args.command.now) _ (map bytes_of c.args.files.now) same are in
    subst (λ (k : Command). IsOutcome known k (Printed (ending_number answer.ending) answer.text.items)) (sym same)
    (flat_printed known c.in-Flat.file.now c.bytes_at-in-Flat.result.now answer.text.items answer.ending (c.bytes_at-in-Flat.ensures known names here) made))
    c.flat.ensures.text)

pub returns-in-Flat-clause-right : goal.returns-in-Flat-clause-right
returns-in-Flat-clause-right c =
    traced_ok _ c.flat.result c.traced.result c.traced.ensures
    (IfOk-weaker c.flat.result _ _
    (λ answer is known are. subst (λ (k : Command). IsRightFor known k (ending_number answer.ending) answer.text.items) (sym (ap asked_command c.in-Flat.is)) tt)
    c.flat.ensures.text)

pub returns-in-Flat-clause-refused : goal.returns-in-Flat-clause-refused
returns-in-Flat-clause-refused c why is known are =
    let same = ap asked_command c.in-Flat.is in
    let names : List (List ℕ) = c.in-Flat.file.now ∷ [] in
    let here = files_moved known (asked_command c.args.command.now) _ (map bytes_of c.args.files.now) same are in
    let fault = traced_err c.flat.result c.traced.result why c.traced.ensures is in
    subst (IsCommandFault known (asked_command c.args.command.now)) fault.2
    (subst (λ (k : Command). IsCommandFault known k (Traced fault.0)) (sym same)
    (flat_fault_of known c.in-Flat.file.now c.bytes_at-in-Flat.result.now (c.bytes_at-in-Flat.ensures known names here) fault.0 (c.flat.ensures.refused fault.0 fault.1)))

pub bytes_at-requires-in-Run : goal.bytes_at-requires-in-Run
bytes_at-requires-in-Run c =
    place_within (asked_command c.args.command.now) _ (map bytes_of c.args.files.now) (length c.args.files.now) 0 (ap asked_command c.in-Run.is) c.requires.given
    (length-map c.args.files.now bytes_of) (omega arith)

pub bytes_at-requires-in-Run-2 : goal.bytes_at-requires-in-Run-2
bytes_at-requires-in-Run-2 c =
    place_within (asked_command c.args.command.now) _ (map bytes_of c.args.files.now) (length c.args.files.now) 1 (ap asked_command c.in-Run.is) c.requires.given
    (length-map c.args.files.now bytes_of) (omega arith)

pub returns-in-Run-clause-text : goal.returns-in-Run-clause-text
returns-in-Run-clause-text c =
    let same = ap asked_command c.in-Run.is in
    traced_ok _ c.run.result c.traced-in-Run.result c.traced-in-Run.ensures
    (IfOk-weaker c.run.result _ _
    (λ answer made known are.
    let names : List (List ℕ) = c.in-Run.file.now ∷ c.in-Run.stim.now ∷ [] in
    let here = files_moved known (asked_command c.args.command.now) _ (map bytes_of c.args.files.now) same are in
    subst (λ (k : Command). IsOutcome known k (Printed (ending_number answer.ending) answer.text.items)) (sym same)
    (run_printed known c.in-Run.file.now c.bytes_at-in-Run.result.now answer.text.items answer.ending (c.bytes_at-in-Run.ensures known names here) c.in-Run.stim.now c.bytes_at-in-Run-2.result.now (c.bytes_at-in-Run-2.ensures known names here) made))
    c.run.ensures.text)

pub returns-in-Run-clause-right : goal.returns-in-Run-clause-right
returns-in-Run-clause-right c =
    traced_ok _ c.run.result c.traced-in-Run.result c.traced-in-Run.ensures
    (IfOk-weaker c.run.result _ _
    (λ answer is known are. subst (λ (k : Command). IsRightFor known k (ending_number answer.ending) answer.text.items) (sym (ap asked_command c.in-Run.is)) tt)
    c.run.ensures.text)

pub returns-in-Run-clause-refused : goal.returns-in-Run-clause-refused
returns-in-Run-clause-refused c why is known are =
    let same = ap asked_command c.in-Run.is in
    let names : List (List ℕ) = c.in-Run.file.now ∷ c.in-Run.stim.now ∷ [] in
    let here = files_moved known (asked_command c.args.command.now) _ (map bytes_of c.args.files.now) same are in
    let fault = traced_err c.run.result c.traced-in-Run.result why c.traced-in-Run.ensures is in
    subst (IsCommandFault known (asked_command c.args.command.now)) fault.2
    (subst (λ (k : Command). IsCommandFault known k (Traced fault.0)) (sym same)
    (run_fault known c.in-Run.file.now c.bytes_at-in-Run.result.now (c.bytes_at-in-Run.ensures known names here) c.in-Run.stim.now c.bytes_at-in-Run-2.result.now fault.0 (c.bytes_at-in-Run-2.ensures known names here) (c.run.ensures.refused fault.0 fault.1)))

pub bytes_at-requires-in-Sim : goal.bytes_at-requires-in-Sim
bytes_at-requires-in-Sim c =
    place_within (asked_command c.args.command.now) _ (map bytes_of c.args.files.now) (length c.args.files.now) 0 (ap asked_command c.in-Sim.is) c.requires.given
    (length-map c.args.files.now bytes_of) (omega arith)

pub bytes_at-requires-in-Sim-2 : goal.bytes_at-requires-in-Sim-2
bytes_at-requires-in-Sim-2 c =
    place_within (asked_command c.args.command.now) _ (map bytes_of c.args.files.now) (length c.args.files.now) 1 (ap asked_command c.in-Sim.is) c.requires.given
    (length-map c.args.files.now bytes_of) (omega arith)

pub returns-in-Sim-clause-text : goal.returns-in-Sim-clause-text
returns-in-Sim-clause-text c =
    let same = ap asked_command c.in-Sim.is in
    traced_ok _ c.sim.result c.traced-in-Sim.result c.traced-in-Sim.ensures
    (IfOk-weaker c.sim.result _ _
    (λ answer made known are.
    let names : List (List ℕ) = c.in-Sim.deck.now ∷ c.in-Sim.stim.now ∷ [] in
    let here = files_moved known (asked_command c.args.command.now) _ (map bytes_of c.args.files.now) same are in
    subst (λ (k : Command). IsOutcome known k (Printed (ending_number answer.ending) answer.text.items)) (sym same)
    (sim_printed known c.in-Sim.deck.now c.in-Sim.stim.now c.bytes_at-in-Sim.result.now c.bytes_at-in-Sim-2.result.now answer.text.items answer.ending c.in-Sim.options c.in-Sim.clocking (c.bytes_at-in-Sim.ensures known names here) (c.bytes_at-in-Sim-2.ensures known names here) made))
    c.sim.ensures.trace)

pub returns-in-Sim-clause-right : goal.returns-in-Sim-clause-right
returns-in-Sim-clause-right c =
    traced_ok _ c.sim.result c.traced-in-Sim.result c.traced-in-Sim.ensures
    (IfOk-weaker c.sim.result _ _
    (λ answer is known are. subst (λ (k : Command). IsRightFor known k (ending_number answer.ending) answer.text.items) (sym (ap asked_command c.in-Sim.is)) tt)
    c.sim.ensures.trace)

pub returns-in-Sim-clause-refused : goal.returns-in-Sim-clause-refused
returns-in-Sim-clause-refused c why is known are =
    let same = ap asked_command c.in-Sim.is in
    let names : List (List ℕ) = c.in-Sim.deck.now ∷ c.in-Sim.stim.now ∷ [] in
    let here = files_moved known (asked_command c.args.command.now) _ (map bytes_of c.args.files.now) same are in
    let fault = traced_err c.sim.result c.traced-in-Sim.result why c.traced-in-Sim.ensures is in
    subst (IsCommandFault known (asked_command c.args.command.now)) fault.2
    (subst (λ (k : Command). IsCommandFault known k (Traced fault.0)) (sym same)
    (sim_fault known c.in-Sim.deck.now c.in-Sim.stim.now c.bytes_at-in-Sim.result.now c.bytes_at-in-Sim-2.result.now c.in-Sim.options c.in-Sim.clocking fault.0 (c.bytes_at-in-Sim.ensures known names here) (c.bytes_at-in-Sim-2.ensures known names here) (c.sim.ensures.refused fault.0 fault.1)))

pub bytes_at-file-requires : goal.bytes_at-file-requires
bytes_at-file-requires c =
    place_within (asked_command c.args.command.now) _ (map bytes_of c.args.files.now) (length c.args.files.now) 0 (ap asked_command c.in-Cosim.is) c.requires.given
    (length-map c.args.files.now bytes_of) (omega arith)

pub bytes_at-deck-requires : goal.bytes_at-deck-requires
bytes_at-deck-requires c =
    place_within (asked_command c.args.command.now) _ (map bytes_of c.args.files.now) (length c.args.files.now) 1 (ap asked_command c.in-Cosim.is) c.requires.given
    (length-map c.args.files.now bytes_of) (omega arith)

pub bytes_at-requires-in-Cosim : goal.bytes_at-requires-in-Cosim
bytes_at-requires-in-Cosim c =
    place_within (asked_command c.args.command.now) _ (map bytes_of c.args.files.now) (length c.args.files.now) 2 (ap asked_command c.in-Cosim.is) c.requires.given
    (length-map c.args.files.now bytes_of) (omega arith)

pub returns-in-Cosim-clause-text : goal.returns-in-Cosim-clause-text
returns-in-Cosim-clause-text c =
    let same = ap asked_command c.in-Cosim.is in
    traced_ok _ c.cosim.result c.traced-in-Cosim.result c.traced-in-Cosim.ensures
    (IfOk-weaker c.cosim.result _ _
    (λ answer made known are.
    let names : List (List ℕ) = c.in-Cosim.file.now ∷ c.in-Cosim.deck.now ∷ c.in-Cosim.stim.now ∷ [] in
    let here = files_moved known (asked_command c.args.command.now) _ (map bytes_of c.args.files.now) same are in
    subst (λ (k : Command). IsOutcome known k (Printed (ending_number answer.ending) answer.text.items)) (sym same)
    (cosim_printed known c.in-Cosim.file.now c.bytes_at-file.result.now answer.text.items answer.ending (c.bytes_at-file.ensures known names here) c.in-Cosim.deck.now c.in-Cosim.stim.now c.bytes_at-deck.result.now c.bytes_at-in-Cosim.result.now c.in-Cosim.order c.in-Cosim.seed (c.bytes_at-deck.ensures known names here) (c.bytes_at-in-Cosim.ensures known names here) made))
    c.cosim.ensures.verdict)

pub returns-in-Cosim-clause-right : goal.returns-in-Cosim-clause-right
returns-in-Cosim-clause-right c =
    traced_ok _ c.cosim.result c.traced-in-Cosim.result c.traced-in-Cosim.ensures
    (IfOk-weaker c.cosim.result _ _
    (λ answer is known are. subst (λ (k : Command). IsRightFor known k (ending_number answer.ending) answer.text.items) (sym (ap asked_command c.in-Cosim.is)) tt)
    c.cosim.ensures.verdict)

pub returns-in-Cosim-clause-refused : goal.returns-in-Cosim-clause-refused
returns-in-Cosim-clause-refused c why is known are =
    let same = ap asked_command c.in-Cosim.is in
    let names : List (List ℕ) = c.in-Cosim.file.now ∷ c.in-Cosim.deck.now ∷ c.in-Cosim.stim.now ∷ [] in
    let here = files_moved known (asked_command c.args.command.now) _ (map bytes_of c.args.files.now) same are in
    let fault = traced_err c.cosim.result c.traced-in-Cosim.result why c.traced-in-Cosim.ensures is in
    subst (IsCommandFault known (asked_command c.args.command.now)) fault.2
    (subst (λ (k : Command). IsCommandFault known k (Traced fault.0)) (sym same)
    (cosim_fault known c.in-Cosim.file.now c.in-Cosim.deck.now c.in-Cosim.stim.now c.bytes_at-file.result.now c.bytes_at-deck.result.now c.bytes_at-in-Cosim.result.now c.in-Cosim.order c.in-Cosim.seed fault.0 (c.bytes_at-file.ensures known names here) (c.bytes_at-deck.ensures known names here) (c.bytes_at-in-Cosim.ensures known names here) (c.cosim.ensures.refused fault.0 fault.1)))

pub bytes_at-requires-in-Report : goal.bytes_at-requires-in-Report
bytes_at-requires-in-Report c =
    place_within (asked_command c.args.command.now) _ (map bytes_of c.args.files.now) (length c.args.files.now) 0 (ap asked_command c.in-Report.is) c.requires.given
    (length-map c.args.files.now bytes_of) (omega arith)

pub returns-in-Report-clause-text : goal.returns-in-Report-clause-text
returns-in-Report-clause-text c =
    let same = ap asked_command c.in-Report.is in
    traced_ok _ c.report.result c.traced-in-Report.result c.traced-in-Report.ensures
    (IfOk-weaker c.report.result _ _
    (λ answer made known are.
    let names : List (List ℕ) = c.in-Report.file.now ∷ [] in
    let here = files_moved known (asked_command c.args.command.now) _ (map bytes_of c.args.files.now) same are in
    subst (λ (k : Command). IsOutcome known k (Printed (ending_number answer.ending) answer.text.items)) (sym same)
    (report_printed known c.in-Report.file.now c.bytes_at-in-Report.result.now answer.text.items answer.ending (c.bytes_at-in-Report.ensures known names here) c.in-Report.options made))
    c.report.ensures.figures)

pub returns-in-Report-clause-right : goal.returns-in-Report-clause-right
returns-in-Report-clause-right c =
    traced_ok _ c.report.result c.traced-in-Report.result c.traced-in-Report.ensures
    (IfOk-weaker c.report.result _ _
    (λ answer is known are. subst (λ (k : Command). IsRightFor known k (ending_number answer.ending) answer.text.items) (sym (ap asked_command c.in-Report.is)) tt)
    c.report.ensures.figures)

pub returns-in-Report-clause-refused : goal.returns-in-Report-clause-refused
returns-in-Report-clause-refused c why is known are =
    let same = ap asked_command c.in-Report.is in
    let names : List (List ℕ) = c.in-Report.file.now ∷ [] in
    let here = files_moved known (asked_command c.args.command.now) _ (map bytes_of c.args.files.now) same are in
    let fault = traced_err c.report.result c.traced-in-Report.result why c.traced-in-Report.ensures is in
    subst (IsCommandFault known (asked_command c.args.command.now)) fault.2
    (subst (λ (k : Command). IsCommandFault known k (Traced fault.0)) (sym same)
    (report_fault known c.in-Report.file.now c.bytes_at-in-Report.result.now (c.bytes_at-in-Report.ensures known names here) c.in-Report.options fault.0 (c.report.ensures.refused fault.0 fault.1)))

pub returns-in-Bench-clause-text : goal.returns-in-Bench-clause-text
returns-in-Bench-clause-text c =
    traced_ok _ c.bench.result c.traced-in-Bench.result c.traced-in-Bench.ensures
    (IfOk-weaker c.bench.result _ _
    (λ answer is known are. subst (λ (k : Command). IsOutcome known k (Printed (ending_number answer.ending) answer.text.items)) (sym (ap asked_command c.in-Bench.is))
    (same_bench c.in-Bench.seed c.in-Bench.size c.in-Bench.options (ending_number answer.ending) answer.text.items is))
    c.bench.ensures.same)

pub returns-in-Bench-clause-right : goal.returns-in-Bench-clause-right
returns-in-Bench-clause-right c =
    traced_ok _ c.bench.result c.traced-in-Bench.result c.traced-in-Bench.ensures
    (IfOk-weaker c.bench.result _ _
    (λ answer is known are. subst (λ (k : Command). IsRightFor known k (ending_number answer.ending) answer.text.items) (sym (ap asked_command c.in-Bench.is)) is)
    c.bench.ensures.same)

pub returns-in-Bench-clause-refused : goal.returns-in-Bench-clause-refused
returns-in-Bench-clause-refused c why is known are =
    let fault = traced_err c.bench.result c.traced-in-Bench.result why c.traced-in-Bench.ensures is in
    subst (IsCommandFault known (asked_command c.args.command.now)) fault.2
    (subst (λ (k : Command). IsCommandFault known k (Traced fault.0)) (sym (ap asked_command c.in-Bench.is)) (bench_fault known c.in-Bench.seed c.in-Bench.size c.in-Bench.options fault.0 (c.bench.ensures.failed fault.0 fault.1))
    )

pub bytes_at-requires-in-Audit : goal.bytes_at-requires-in-Audit
bytes_at-requires-in-Audit c =
    place_within (asked_command c.args.command.now) _ (map bytes_of c.args.files.now) (length c.args.files.now) 0 (ap asked_command c.in-Audit.is) c.requires.given
    (length-map c.args.files.now bytes_of) (omega arith)

pub returns-in-Audit-clause-text : goal.returns-in-Audit-clause-text
returns-in-Audit-clause-text c =
    let same = ap asked_command c.in-Audit.is in
    traced_ok _ c.audit.result c.traced-in-Audit.result c.traced-in-Audit.ensures
    (IfOk-weaker c.audit.result _ _
    (λ answer made known are.
    let names : List (List ℕ) = c.in-Audit.deck.now ∷ [] in
    let here = files_moved known (asked_command c.args.command.now) _ (map bytes_of c.args.files.now) same are in
    subst (λ (k : Command). IsOutcome known k (Printed (ending_number answer.ending) answer.text.items)) (sym same)
    (audit_printed known c.in-Audit.deck.now c.bytes_at-in-Audit.result.now answer.text.items answer.ending (c.bytes_at-in-Audit.ensures known names here) made))
    c.audit.ensures.audit)

pub returns-in-Audit-clause-right : goal.returns-in-Audit-clause-right
returns-in-Audit-clause-right c =
    let same = ap asked_command c.in-Audit.is in
    traced_ok _ c.audit.result c.traced-in-Audit.result c.traced-in-Audit.ensures
    (IfOk-weaker c.audit.result _ _
    (λ answer is known are.
    let names : List (List ℕ) = c.in-Audit.deck.now ∷ [] in
    let here = files_moved known (asked_command c.args.command.now) _ (map bytes_of c.args.files.now) same are in
    subst (λ (k : Command). IsRightFor known k (ending_number answer.ending) answer.text.items) (sym same)
    (λ zero. record { bytes = c.bytes_at-in-Audit.result.now; is_file = c.bytes_at-in-Audit.ensures known names here; is_audited = is (done_of answer.ending zero) }))
    c.audit.ensures.right)

pub returns-in-Audit-clause-refused : goal.returns-in-Audit-clause-refused
returns-in-Audit-clause-refused c why is known are =
    let same = ap asked_command c.in-Audit.is in
    let names : List (List ℕ) = c.in-Audit.deck.now ∷ [] in
    let here = files_moved known (asked_command c.args.command.now) _ (map bytes_of c.args.files.now) same are in
    let fault = traced_err c.audit.result c.traced-in-Audit.result why c.traced-in-Audit.ensures is in
    subst (IsCommandFault known (asked_command c.args.command.now)) fault.2
    (subst (λ (k : Command). IsCommandFault known k (Traced fault.0)) (sym same)
    (audit_fault known c.in-Audit.deck.now c.bytes_at-in-Audit.result.now fault.0 (c.bytes_at-in-Audit.ensures known names here) (c.audit.ensures.refused fault.0 fault.1)))

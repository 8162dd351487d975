use Rattle.std.proofs.Common.{◌≡◌, ℕ, ◌+◌, ◌++◌, List, ap, ◌∙◌, subst, arith, drop, length, refl, rules}
use Rattle.std.specs.Prelude.{Some, slice_get, slice_set}
use Rattle.std.proofs.lemmas.Option.{slice_get_read}
use Rattle.numbered_file.specs.Places.{of_inputs, of_part}
use Rattle.local_names.specs.LocalNames.{firsts}
use Rattle.numbered_calls.specs.BoundFormals.{HavePortMarks, formals_at, inputs_in, outputs_in}
use Rattle.numbered_calls.specs.PortMarks.{AreBadlyBound, AreBound}
use Rattle.numbered_calls.proofs.PortRows.{ports_after}
use Rattle.numbered_calls.proofs.formals.bind.Goals as goal

pub returns-clause-ports : goal.returns-clause-ports
returns-clause-ports c = λ t.
    let there : slice_get c.args.marks.now.items c.args.unit ≡ Some c.index_mut.result.now = slice_get_read c.args.marks.now.items (length c.args.marks.now.items) c.args.unit c.index_mut.result.now refl (search rules) c.index_mut.ensures.value in
    subst (λ n. HavePortMarks c.args.file.now c.args.names.now n (slice_set c.args.marks.now.items c.args.unit c.bind.new.self)) (let e : c.args.index + 3 + 1 ≡ c.args.index + 4 = omega arith in e)
    (ports_after c.args.file.now c.args.names.now (c.args.index + 3) c.args.marks.now.items c.args.unit c.index_mut.result.now c.bind.new.self c.requires.ports there (c.bind.ensures.count t) (c.bind.ensures.marks t))

pub returns-clause-bound : goal.returns-clause-bound
returns-clause-bound c = λ t.
    let d = c.args.file.now in
    let l = c.args.names.now in
    let unit = c.args.unit in
    let ports = inputs_in d l unit ++ outputs_in d l unit in
    let there : slice_get c.args.marks.now.items unit ≡ Some c.index_mut.result.now = slice_get_read c.args.marks.now.items (length c.args.marks.now.items) c.args.unit c.index_mut.result.now refl (search rules) c.index_mut.ensures.value in
    let inputs = c.of_inputs-inputs.ensures ∙ ap (λ (w : List ℕ). of_inputs d unit w) c.inputs.ensures in
    let formals = ap (λ (w : List ℕ). firsts (drop 1 w)) (c.of_part-words.ensures ∙ ap (λ (w : List ℕ). of_part d c.args.index w) c.words.ensures) in
    subst (λ i. AreBound i ports (firsts (drop 1 (of_part d c.args.index l.words)))) inputs
    (subst (AreBound c.of_inputs-inputs.result.now ports) formals (c.bind.ensures.bound t ports (c.requires.ports.ports unit c.index_mut.result.now there).marks_are))

pub returns-clause-bad : goal.returns-clause-bad
returns-clause-bad c = λ f within.
    let d = c.args.file.now in
    let l = c.args.names.now in
    let unit = c.args.unit in
    let row = c.index_mut.result.now in
    let ports = inputs_in d l unit ++ outputs_in d l unit in
    let there : slice_get c.args.marks.now.items unit ≡ Some row = slice_get_read c.args.marks.now.items (length c.args.marks.now.items) c.args.unit row refl (search rules) c.index_mut.ensures.value in
    let inputs = c.of_inputs-inputs.ensures ∙ ap (λ (w : List ℕ). of_inputs d unit w) c.inputs.ensures in
    let formals = ap (λ (w : List ℕ). firsts (drop 1 w)) (c.of_part-words.ensures ∙ ap (λ (w : List ℕ). of_part d c.args.index w) c.words.ensures) in
    subst (λ n. AreBadlyBound n (inputs_in d l unit) ports (formals_at d l c.args.index)) (c.requires.ports.names unit row there)
    (subst (λ i. AreBadlyBound (length row) i ports (formals_at d l c.args.index)) inputs
    (subst (AreBadlyBound (length row) c.of_inputs-inputs.result.now ports) formals (c.bind.ensures.bad f ports (c.requires.ports.ports unit row there).marks_are)))

use Rattle.std.proofs.Common.{◌≡◌, length, sym, ◌∙◌, subst}
use Rattle.std.specs.List.{flat_map}
use Rattle.local_names.specs.declared.model_numbers.CardKind.TheVariants.{Instance}
use Rattle.numbered_file.specs.Numbered.{between, named, parts_of}
use Rattle.local_names.specs.Places.{AreKept, AreNoted}
use Rattle.local_names.specs.PartNames.{all_names, names_by}
use Rattle.local_names.proofs.Gathered.{all-noted}
use Rattle.local_names.proofs.KeptNumbers.{kept-below}
use Rattle.local_names.proofs.ModelNames.{names-kept}
use Rattle.local_names.proofs.names_of_file.names_of_model.Goals as goal

pub returns-clause-names : goal.returns-clause-names
returns-clause-names c =
    let d = c.args.file.now in
    let first = c.first_part-first.result in
    let end = c.parts_end-end.result in
    let instances = c.note_kind.new.kept.items in
    let latches = c.note_kind-2.new.kept.items in
    let tables = c.note_kind-3.new.kept.items in
    let outputs = c.note_all.new.kept.items in
    let inputs = c.note_all-2.new.kept.items in
    let count : length c.note_kind-3.new.place ≡ length d.names =
    c.note_kind-3.ensures.length ∙ c.note_kind-2.ensures.length ∙ c.note_kind.ensures.length ∙ c.requires.places in
    let more : length c.note_all.new.place ≡ length d.names = c.note_all.ensures.length ∙ count in
    let kept : AreKept d.names inputs (all_names d c.args.model) =
    all-noted d c.args.model first end c.first_part-first.ensures c.parts_end-end.ensures instances latches tables outputs inputs
    (subst (λ before. AreNoted d.names (flat_map (names_by Instance) (between first end (parts_of d))) before instances) c.clear.ensures.items c.in_ok-note_kind.ensures.noted)
    c.in_ok-note_kind-2.ensures.noted c.in_ok-note_kind-3.ensures.noted
    (subst (λ ns. AreNoted d.names (named d.names ns) tables outputs) c.outputs_of.ensures
    (c.in_ok-note_all.ensures.noted d.names c.is_in_order.ensures.names (sym count)))
    (subst (λ ns. AreNoted d.names (named d.names ns) outputs inputs) c.inputs_of.ensures
    (c.in_ok-note_all-2.ensures.noted d.names c.is_in_order.ensures.names (sym more))) in
    names-kept d c.args.model inputs c.reverse.new.self.items c.requires.within kept c.reverse.ensures.items

pub returns-clause-below : goal.returns-clause-below
returns-clause-below c =
    kept-below c.note_all-2.new.kept.items c.reverse.new.self.items c.note_all-2.new.place (length c.args.file.now.names)
    (c.note_all-2.ensures.length ∙ c.note_all.ensures.length ∙ c.note_kind-3.ensures.length ∙ c.note_kind-2.ensures.length ∙ c.note_kind.ensures.length
    ∙ c.requires.places)
    c.in_ok-note_all-2.ensures.indexed c.reverse.ensures.items

use Rattle.std.proofs.Common.{◌∙◌, [], get_or, map, ap, subst, sym, arith}
use Rattle.std.proofs.lemmas.List.{get_or-map, length-map}
use Rattle.domsyn.specs.Outcomes.{IsFile}
use Rattle.domsyn.proofs.FetchedFiles.{bytes_of, file_at}
use Rattle.domsyn.proofs.dispatch.bytes_at.Goals as goal

pub returns : goal.returns
returns c known names are =
    let lt = c.requires in
    let read = get_or-map bytes_of c.args.files.now c.args.place c.index-files-place.result [] lt in
    subst (IsFile known (get_or names c.args.place [])) (read ∙ ap bytes_of (sym c.index-files-place.is) ∙ sym c.as_slice.ensures.value)
    (file_at known names (map bytes_of c.args.files.now) c.args.place [] [] are (omega (arith, length-map c.args.files.now bytes_of, lt)))

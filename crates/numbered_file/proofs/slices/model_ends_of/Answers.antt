use Rattle.std.proofs.Common.{◌-◌, ap, length, sym, take, ◌∙◌}
use Rattle.std.specs.Prelude.{slice_index_or}
use Rattle.numbered_file.specs.OpenLists.{inputs_end, outputs_end, parts_end}
use Rattle.numbered_file.proofs.Growth.{inputs_end-push, outputs_end-push, parts_end-push}
use Rattle.numbered_file.proofs.Places.{last-of}
use Rattle.numbered_file.proofs.slices.model_ends_of.Goals as goal

pub returns-in-len1-up-clause-inputs : goal.returns-in-len1-up-clause-inputs
returns-in-len1-up-clause-inputs c =
    let all = c.args.models.now in
    let last = slice_index_or all (length all - 1) _ in
    sym (inputs_end-push 0 (take (length all - 1) all) last) ∙ ap (inputs_end 0) (last-of all _ c.in-len1-up.len_at_least)

pub returns-in-len1-up-clause-outputs : goal.returns-in-len1-up-clause-outputs
returns-in-len1-up-clause-outputs c =
    let all = c.args.models.now in
    let last = slice_index_or all (length all - 1) _ in
    sym (outputs_end-push 0 (take (length all - 1) all) last) ∙ ap (outputs_end 0) (last-of all _ c.in-len1-up.len_at_least)

pub returns-in-len1-up-clause-parts : goal.returns-in-len1-up-clause-parts
returns-in-len1-up-clause-parts c =
    let all = c.args.models.now in
    let last = slice_index_or all (length all - 1) _ in
    sym (parts_end-push 0 (take (length all - 1) all) last) ∙ ap (parts_end 0) (last-of all _ c.in-len1-up.len_at_least)

use Rattle.std.proofs.Common.{◌-◌, ap, length, sym, take, ◌∙◌}
use Rattle.std.specs.Prelude.{slice_index_or}
use Rattle.numbered_file.specs.OpenLists.{rows_end, words_end}
use Rattle.numbered_file.proofs.Growth.{rows_end-push, words_end-push}
use Rattle.numbered_file.proofs.Places.{last-of}
use Rattle.numbered_file.proofs.slices.ends_of.Goals as goal

pub returns-in-len1-up-clause-words : goal.returns-in-len1-up-clause-words
returns-in-len1-up-clause-words c =
    let all = c.args.parts.now in
    let last = slice_index_or all (length all - 1) _ in
    sym (words_end-push 0 (take (length all - 1) all) last) ∙ ap (words_end 0) (last-of all _ c.in-len1-up.len_at_least)

pub returns-in-len1-up-clause-rows : goal.returns-in-len1-up-clause-rows
returns-in-len1-up-clause-rows c =
    let all = c.args.parts.now in
    let last = slice_index_or all (length all - 1) _ in
    sym (rows_end-push 0 (take (length all - 1) all) last) ∙ ap (rows_end 0) (last-of all _ c.in-len1-up.len_at_least)

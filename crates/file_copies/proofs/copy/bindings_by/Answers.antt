use Rattle.std.proofs.Common.{◌++◌, append-nil, ap, sym, ◌∙◌}
use Rattle.numbered_file.proofs.PartLists.{bindings-short}
use Rattle.file_copies.proofs.copy.bindings_by.Goals as goal

pub returns : goal.returns
returns c =
    let items = c.bindings.bindings.items in
    sym (append-nil items) ∙ ap (λ l. items ++ l) (sym (bindings-short c.args.names.now c.bindings.rest.now c.in_default.len_below)) ∙ c.bindings.invariant

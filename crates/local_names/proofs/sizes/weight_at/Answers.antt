use Rattle.std.proofs.Common.{◌≡◌, Some, sym, ◌∙◌}
use Rattle.std.specs.Prelude.{slice_get}
use Rattle.local_names.proofs.Weights.{weighed-part}
use Rattle.local_names.proofs.sizes.weight_at.Goals as goal

pub returns : goal.returns
returns c =
    let d = c.args.file.now in
    let place = c.args.place in
    let at = c.in-Some.part in
    let there : slice_get d.parts place ≡ Some at = sym c.part_at.ensures ∙ c.in-Some.is in
    weighed-part d c.args.limit place c.weigh_part.result at there c.weigh_part.ensures

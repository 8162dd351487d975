use Rattle.std.proofs.Common.{◌≡◌, ◌<◌, ◌*◌, ◌∙◌, Some, drop, length, take, ap, sym, arith, rules}
use Rattle.std.specs.Prelude.{slice_get}
use Rattle.stim_text.proofs.Rows.{length-rows, row_within, rows-get}
use Rattle.stim_text.proofs.stimulus.Stimulus.cycle.Goals as goal

pub row_at-requires : goal.row_at-requires
row_at-requires c =
    let count : c.args.index < c.self.inside.count =
    omega (arith, c.requires, ap length c.self.view_is, length-rows c.self.inside.width c.self.inside.count c.self.inside.bits.items) in
    omega (arith, row_within c.self.inside.width c.self.inside.count c.args.index count, c.self.invariant)

pub returns : goal.returns
returns c =
    let bits : c.self.inside.bits.items ≡ c.deref.result.now = search rules in
    let count : c.args.index < c.self.inside.count =
    omega (arith, c.requires, ap length c.self.view_is, length-rows c.self.inside.width c.self.inside.count c.self.inside.bits.items) in
    ap (λ l. slice_get l c.args.index) (sym c.self.view_is) ∙ rows-get c.self.inside.width c.self.inside.count c.self.inside.bits.items c.args.index count
    ∙ ap (λ l. Some (take c.self.inside.width (drop (c.args.index * c.self.inside.width) l))) bits ∙ ap Some (sym c.row_at.ensures)

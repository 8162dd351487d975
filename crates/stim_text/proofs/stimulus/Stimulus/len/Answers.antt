use Rattle.std.proofs.Common.{length, ap, sym, ◌∙◌}
use Rattle.stim_text.proofs.Rows.{length-rows}
use Rattle.stim_text.proofs.stimulus.Stimulus.len.Goals as goal

pub returns : goal.returns
returns c = sym (ap length (sym c.self.view_is) ∙ length-rows c.self.inside.width c.self.inside.count c.self.inside.bits.items)

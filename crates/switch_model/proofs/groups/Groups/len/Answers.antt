use Rattle.std.proofs.Common.{arith, ap, length, List, ℕ}
use Rattle.switch_model.proofs.Pieces.{pieces-length}
use Rattle.switch_model.proofs.groups.Groups.len.Goals as goal

pub returns : goal.returns
returns c =
    let w = c.self.inside in
    omega (
      arith,
      c.len.ensures,
      w.starts.ok.0,
      pieces-length w.starts.items w.numbers.items (length w.numbers.items) c.self.invariant,
      ap (λ (l : List (List ℕ)). length l) c.self.view_is,
    )

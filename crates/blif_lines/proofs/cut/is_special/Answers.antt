-- The table is held against the definition at each of the 256 bytes, by computing.
use Rattle.std.proofs.Common.{◌≡◌, ℕ, ◌<◌, List, true, not, nat_eq, get_or, refl, arith}
use Rattle.blif_lines.specs.declared.cut.TheConstants.{SPECIAL}
use Rattle.blif_lines.specs.Pieces.{is_special}
use Rattle.blif_lines.proofs.ByteTables.{agree_at, agree_below}
use Rattle.blif_lines.proofs.cut.is_special.Goals as goal

from_table : (table : List ℕ) (b : ℕ) → b < 256 → agree_below (λ k. not (nat_eq (get_or table k 0) 45)) is_special 256 ≡ true
    → not (nat_eq (get_or table b 0) 45) ≡ is_special b
from_table table b lt h = agree_at (λ k. not (nat_eq (get_or table k 0) 45)) is_special 256 h b lt

pub returns : goal.returns
unfolding agree_below
returns c = from_table SPECIAL c.args.b (omega arith) refl

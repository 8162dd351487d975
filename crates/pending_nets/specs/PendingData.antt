-- Sets of nets as they are seen in contracts.
use Rattle.std.specs.Prelude.{ℕ, List}
use Rattle.dom_base.specs.declared.tri.Tri.{Tri}

-- a number of nets, some of them by rising number, and a kept target of each
pub record PendingData : Type 0 where
  pub nets : ℕ
  pub listed : List ℕ
  pub targets : List Tri

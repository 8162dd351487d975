-- The invariant of a simulation.
use Rattle.std.specs.Prelude.{◌≡◌, ◌≤◌, ◌^◌, List, length}
use Rattle.dom_base.specs.declared.tri.Tri.{Tri}
use Rattle.pending_nets.specs.PendingData.{PendingData}
use Rattle.switch_model.specs.LinksData.{LinksData}
use Rattle.switch_model.specs.Pending.{AreKeptTargets, ArePending}

-- one value per net, at most 2^26 of them, sources first, and the pending nets and the targets of these values
pub record IsSim (links : LinksData) (values : List Tri) (pending : PendingData) : Type 0 where
  pub within : links.sources ≤ links.nets
  pub whole : length values ≡ links.nets
  pub few : links.nets ≤ 2 ^ 26
  pub nets : pending.nets ≡ links.nets
  pub right : ArePending links values pending.listed
  pub targets : AreKeptTargets links values pending.targets

-- The nets that differ from their targets, and the targets of all nets.
use Rattle.std.specs.Prelude.{◌≡◌, ℕ, ◌<◌, ◌↔◌, false, List, length, Contains}
use Rattle.std.specs.List.Sorted.{IsStrictlyIncreasing}
use Rattle.dom_base.specs.declared.tri.Tri.{Tri}
use Rattle.deck.specs.Switches.{value_of}
use Rattle.switch_model.specs.LinksData.{LinksData, is_first}
use Rattle.switch_model.specs.Targets.{IsPending, IsTarget}

-- v is the target of the net
abbrev pub Targets : LinksData → List Tri → ℕ → Tri → Type 0
Targets links values net v = IsTarget links.devices (is_first links.sources) values net v

-- the net has a value, is no source and differs from its target
abbrev pub IsPendingNet : LinksData → List Tri → ℕ → Type 0
IsPendingNet links values net =
    (net < length values) × ((v : Tri) × IsPending links.devices (is_first links.sources) values net v)

-- the pending nets by rising number: the list rises strictly and has exactly the pending nets
pub record ArePending (links : LinksData) (values : List Tri) (nets : List ℕ) : Type 0 where
  pub rising : IsStrictlyIncreasing nets
  pub exact : (net : ℕ) → Contains nets net ↔ IsPendingNet links values net

-- one target per net: at each net that is no source it is the one that the values give
abbrev pub AreKeptTargets : LinksData → List Tri → List Tri → Type 0
AreKeptTargets links values targets =
    (net : ℕ) → net < links.nets → is_first links.sources net ≡ false → Targets links values net (value_of targets net)

-- The edges that probe words tell are those of the edges' relation.
use Rattle.std.proofs.Common.{◌≡◌, true, false, refl}
use Rattle.dom_base.specs.declared.tri.Tri.TheVariants.{One, Unknown, Zero}
use Rattle.event_sim.specs.declared.event.Edge.TheVariants.{Any, Fall, Rise}
use Rattle.trace_tool.specs.Laws.{EdgesAreTold}

pub edges_are_told : EdgesAreTold
edges_are_told Any Zero Zero = (λ t. let never : false ≡ true = t in cc, λ apart. absurd (apart refl))
edges_are_told Any Zero One = (λ _ e. cc, λ _. refl)
edges_are_told Any Zero Unknown = (λ _ e. cc, λ _. refl)
edges_are_told Any One Zero = (λ _ e. cc, λ _. refl)
edges_are_told Any One One = (λ t. let never : false ≡ true = t in cc, λ apart. absurd (apart refl))
edges_are_told Any One Unknown = (λ _ e. cc, λ _. refl)
edges_are_told Any Unknown Zero = (λ _ e. cc, λ _. refl)
edges_are_told Any Unknown One = (λ _ e. cc, λ _. refl)
edges_are_told Any Unknown Unknown = (λ t. let never : false ≡ true = t in cc, λ apart. absurd (apart refl))
edges_are_told Rise Zero Zero = (λ t. let never : false ≡ true = t in cc, λ h. let never = h.0 in cc)
edges_are_told Rise Zero One = (λ _. (refl, λ e. cc), λ _. refl)
edges_are_told Rise Zero Unknown = (λ t. let never : false ≡ true = t in cc, λ h. let never = h.0 in cc)
edges_are_told Rise One Zero = (λ t. let never : false ≡ true = t in cc, λ h. let never = h.0 in cc)
edges_are_told Rise One One = (λ t. let never : false ≡ true = t in cc, λ h. absurd (h.1 refl))
edges_are_told Rise One Unknown = (λ t. let never : false ≡ true = t in cc, λ h. let never = h.0 in cc)
edges_are_told Rise Unknown Zero = (λ t. let never : false ≡ true = t in cc, λ h. let never = h.0 in cc)
edges_are_told Rise Unknown One = (λ _. (refl, λ e. cc), λ _. refl)
edges_are_told Rise Unknown Unknown = (λ t. let never : false ≡ true = t in cc, λ h. let never = h.0 in cc)
edges_are_told Fall Zero Zero = (λ t. let never : false ≡ true = t in cc, λ h. absurd (h.1 refl))
edges_are_told Fall Zero One = (λ t. let never : false ≡ true = t in cc, λ h. let never = h.0 in cc)
edges_are_told Fall Zero Unknown = (λ t. let never : false ≡ true = t in cc, λ h. let never = h.0 in cc)
edges_are_told Fall One Zero = (λ _. (refl, λ e. cc), λ _. refl)
edges_are_told Fall One One = (λ t. let never : false ≡ true = t in cc, λ h. let never = h.0 in cc)
edges_are_told Fall One Unknown = (λ t. let never : false ≡ true = t in cc, λ h. let never = h.0 in cc)
edges_are_told Fall Unknown Zero = (λ _. (refl, λ e. cc), λ _. refl)
edges_are_told Fall Unknown One = (λ t. let never : false ≡ true = t in cc, λ h. let never = h.0 in cc)
edges_are_told Fall Unknown Unknown = (λ t. let never : false ≡ true = t in cc, λ h. let never = h.0 in cc)

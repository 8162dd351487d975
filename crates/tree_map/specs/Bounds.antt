-- Trees of switches within bounds (Zhao, Sapatnekar 1998).
pub use Rattle.compound_plan.specs.Bounds.{IsWithin}

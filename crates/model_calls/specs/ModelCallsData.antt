-- The calls of the models of a file as plain data over lists.
use Rattle.std.specs.Prelude.{ℕ, List}

-- of each model the numbers of the models that its instances name, and an order of all models in which each stands behind those
pub record ModelCallsData : Type 0 where
  pub nodes : List (List ℕ)
  pub order : List ℕ

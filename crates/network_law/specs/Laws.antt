-- What holds of each file of BLIF, the Berkeley Logic Interchange Format: it has an answer.
use Rattle.std.specs.Prelude.{◌⊎◌}
use Rattle.blif_ast.specs.BlifFileData.{BlifFileData}
use Rattle.net_flatten.specs.Flattening.{IsNetworkOf}
use Rattle.network.specs.NetworkData.{NetworkData}
use Rattle.model_calls.specs.Refusal.{Refusal}
use Rattle.model_calls.specs.Refusals.{IsRefusal}

-- a file is refused for something, or has a network
abbrev pub HasAnswer : BlifFileData → Type 0
HasAnswer f = ((r : Refusal) × IsRefusal f r) ⊎ ((n : NetworkData) × IsNetworkOf f n)

abbrev pub FileHasAnswer : Type 0
FileHasAnswer = (f : BlifFileData) → HasAnswer f

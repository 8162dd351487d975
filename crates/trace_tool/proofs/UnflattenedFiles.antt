-- Why a file of BLIF (Berkeley Logic Interchange Format) that is read has no network, as the fault of its text.
use Rattle.std.proofs.Common.{◌≡◌, ℕ, List, Err, refl}
use Rattle.std.specs.Prelude.{IsErrOf}
use Rattle.blif_ast.specs.BlifFileData.{BlifFileData}
use Rattle.blif_ast.specs.Reading.{IsFileOf}
use Rattle.model_calls.specs.declared.fault.FlatFault.{FlatFault}
use Rattle.model_calls.specs.declared.fault.FlatFault.TheVariants.{At, TooMany, Memory}
use Rattle.model_calls.specs.declared.fault.FlatKind.{FlatKind}
use Rattle.model_calls.specs.declared.fault.Limit.{Limit}
use Rattle.model_calls.specs.Refusal as refusals
use Rattle.model_calls.specs.Refusals.{IsRefusal}
use Rattle.network.specs.NetworkData.{NetworkData}
use Rattle.trace_tool.specs.CosimRefusals.{IsUnflattened, of_flat}

pub unflattened : (blif : List ℕ) (file : BlifFileData) → IsFileOf blif file → (fault : FlatFault)
    → ((line : ℕ) (kind : FlatKind) (name : List ℕ) → IsErrOf {T = NetworkData} (Err fault) (At line kind name)
    → IsRefusal file (refusals.At kind line name))
    → ((limit : Limit) (count : ℕ) → IsErrOf {T = NetworkData} (Err fault) (TooMany limit count) → IsRefusal file (refusals.TooMany limit count))
    → IsUnflattened blif (of_flat fault)
unflattened blif file accepted (At line kind name) refused counted = record { file = file; accepted = accepted; refused = refused line kind name refl }
unflattened blif file accepted (TooMany limit count) refused counted = record { file = file; accepted = accepted; refused = counted limit count refl }
unflattened blif file accepted Memory refused counted = tt

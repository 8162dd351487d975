-- Bytes of a file have a network, or none for a cause.
use Rattle.std.proofs.Common.{◌≤◌, ◌⊎◌, inl, inr, ℕ, List, length}
use Rattle.dom_base.specs.Answers.{HasOneAnswer}
use Rattle.dom_io.specs.Held.{file_limit}
use Rattle.blif_ast.specs.BlifFileData.{BlifFileData}
use Rattle.blif_ast.specs.Reading.{IsBlifFault, IsBlifFaultAt, IsFileOf}
use Rattle.blif_read.proofs.OneAnswer.{one_answer as blif_answer}
use Rattle.network.specs.NetworkData.{NetworkData}
use Rattle.model_calls.specs.Refusal.{Refusal as Hierarchy}
use Rattle.model_calls.specs.Refusal as hierarchy
use Rattle.model_calls.specs.Refusals.{IsRefusal}
use Rattle.network_law.specs.Laws.{HasAnswer}
use Rattle.network_law.proofs.Answered.{has_answer}
use Rattle.domsyn.specs.declared.refusal.Refusal.{Refusal}
use Rattle.domsyn.specs.declared.refusal.Refusal.TheVariants.{TooLong, Blif, Flat, TooMany, TooManySinks, Deck, Ports, NoNet, Stim}
use Rattle.command_answers.specs.Networks.{HasNetwork}
use Rattle.domsyn.specs.Refusals.{HasNoNetworkFor}

-- a cause for which bytes that aren't too many have no network
abbrev pub IsNetworkCause : Refusal → Type 0
IsNetworkCause TooLong = ⊥
IsNetworkCause (Blif line kind) = Unit {0}
IsNetworkCause (Flat line kind name) = Unit {0}
IsNetworkCause (TooMany limit count) = Unit {0}
IsNetworkCause (TooManySinks count) = ⊥
IsNetworkCause (Deck line kind) = ⊥
IsNetworkCause (Ports place) = ⊥
IsNetworkCause (NoNet name) = ⊥
IsNetworkCause (Stim line kind) = ⊥

-- bytes have a network, or none for a cause
abbrev pub HasNetworkOrCause : List ℕ → Type 0
HasNetworkOrCause bytes = ((n : NetworkData) × HasNetwork bytes n) ⊎ ((why : Refusal) × HasNoNetworkFor bytes why × IsNetworkCause why)

pub network_there : (bytes : List ℕ) → length bytes ≤ file_limit → HasNetworkOrCause bytes
network_there bytes fits = read (blif_answer bytes)
  where
    refused : (f : BlifFileData) → IsFileOf bytes f → (r : Hierarchy) → IsRefusal f r → (why : Refusal) × HasNoNetworkFor bytes why × IsNetworkCause why
    refused f accepted (hierarchy.At kind line name) is = (Flat line kind name, record { within = fits; file = f; accepted = accepted; refused = is }, tt)
    refused f accepted (hierarchy.TooMany limit count) is = (TooMany limit count, record { within = fits; file = f; accepted = accepted; refused = is }, tt)

    by : (f : BlifFileData) → IsFileOf bytes f → HasAnswer f → HasNetworkOrCause bytes
    by f accepted (inl r) = inr (refused f accepted r.0 r.1)
    by f accepted (inr n) = inl (n.0, record { within = fits; file = f; accepted = accepted; network_is = n.1 })

    read : HasOneAnswer (IsFileOf bytes) (IsBlifFault bytes) (IsBlifFaultAt bytes) → HasNetworkOrCause bytes
    read (inl f) = by f.0 f.1.is_answer (has_answer f.0)
    read (inr r) = inr (Blif r.0 r.1, record { within = fits; fault = r.2.is_refused }, tt)

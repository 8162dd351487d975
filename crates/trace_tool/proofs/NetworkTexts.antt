-- A text of BLIF has one network, or none for one cause.
use Rattle.std.proofs.Common.{◌≡◌, ◌∙◌, ℕ, List, sym, subst}
use Rattle.dom_base.proofs.Faults.{refusal_same}
use Rattle.blif_ast.specs.BlifFileData.{BlifFileData}
use Rattle.blif_ast.specs.declared.kind.BlifKind.{BlifKind}
use Rattle.blif_ast.specs.Reading.{IsBlifFault, IsBlifFaultAt, IsFileOf}
use Rattle.blif_read.proofs.AcceptedIsGoodModels.{accepted_file}
use Rattle.blif_read.proofs.OneAnswer.{one_answer}
use Rattle.model_calls.specs.declared.fault.FlatFault.{FlatFault}
use Rattle.model_calls.specs.declared.fault.FlatFault.TheVariants as flat_faults
use Rattle.net_flatten.specs.Flattening.{IsNetworkOf}
use Rattle.network.specs.NetworkData.{NetworkData}
use Rattle.network.specs.Networks.{IsNetwork}
use Rattle.model_calls.specs.Refusal as refusals
use Rattle.model_calls.specs.Refusal.{Refusal}
use Rattle.net_flatten.proofs.Kept.{network_kept as kept}
use Rattle.net_flatten.proofs.OneNetwork.{network_once}
use Rattle.net_flatten.proofs.OneRefusal.{refusal_once}
use Rattle.trace_tool.specs.CosimRefusals.{HasNetworkOf, HasFlatRefusal, IsFlatRefusal}

-- a text is refused at one line for one kind
pub blif_fault_same : (text : List ℕ) (m n : ℕ) (a b : BlifKind) → IsBlifFaultAt text m a → IsBlifFaultAt text n b → (m ≡ n) × (a ≡ b)
blif_fault_same text m n a b x y = refusal_same (IsFileOf text) (IsBlifFault text) (IsBlifFaultAt text) (λ l k f. f.fault) (one_answer text) m n a b x y

-- it is the text of one file
file_same : (text : List ℕ) (f g : BlifFileData) → IsFileOf text f → IsFileOf text g → f ≡ g
file_same text f g x y = x.file_is ∙ sym y.file_is

-- what is kept by its network
pub text_network_kept : (text : List ℕ) (n : NetworkData) → HasNetworkOf text n → IsNetwork n
text_network_kept text n has = kept has.file n (accepted_file text has.file has.accepted) has.network_is

pub network_same : (text : List ℕ) (m n : NetworkData) → HasNetworkOf text m → HasNetworkOf text n → m ≡ n
network_same text m n x y =
    network_once x.file m n x.network_is (subst (λ f. IsNetworkOf f n) (file_same text y.file x.file y.accepted x.accepted) y.network_is)

no_flat_refusal : (f : BlifFileData) (n : NetworkData) (fault : FlatFault) → IsNetworkOf f n → IsFlatRefusal f fault → ⊥
no_flat_refusal f n (flat_faults.At line kind name) x y = x.accepted (refusals.At kind line name) y.has
no_flat_refusal f n (flat_faults.TooMany limit count) x y = x.accepted (refusals.TooMany limit count) y.has
no_flat_refusal f n flat_faults.Memory x y = y

-- a text that has a network has no cause for none
pub no_network_apart : (text : List ℕ) (n : NetworkData) (fault : FlatFault) → HasNetworkOf text n → HasFlatRefusal text fault → ⊥
no_network_apart text n fault x y =
    no_flat_refusal y.file n fault (subst (λ f. IsNetworkOf f n) (file_same text x.file y.file x.accepted y.accepted) x.network_is) y.refused

flat_refusal_same : (f : BlifFileData) (a b : FlatFault) → IsFlatRefusal f a → IsFlatRefusal f b → a ≡ b
flat_refusal_same f (flat_faults.At line kind name) (flat_faults.At other any word) x y =
    let same = refusal_once f (refusals.At kind line name) (refusals.At any other word) x y in
    let kinds : kind ≡ any = cc in
    let lines : line ≡ other = cc in
    let names : name ≡ word = cc in
    λ i. flat_faults.At (lines i) (kinds i) (names i)
flat_refusal_same f (flat_faults.At line kind name) (flat_faults.TooMany limit count) x y =
    let same = refusal_once f (refusals.At kind line name) (refusals.TooMany limit count) x y in absurd cc
flat_refusal_same f (flat_faults.At line kind name) flat_faults.Memory x y = absurd y
flat_refusal_same f (flat_faults.TooMany limit count) (flat_faults.At line kind name) x y =
    let same = refusal_once f (refusals.TooMany limit count) (refusals.At kind line name) x y in absurd cc
flat_refusal_same f (flat_faults.TooMany limit count) (flat_faults.TooMany most number) x y =
    let same = refusal_once f (refusals.TooMany limit count) (refusals.TooMany most number) x y in
    let limits : limit ≡ most = cc in
    let counts : count ≡ number = cc in
    λ i. flat_faults.TooMany (limits i) (counts i)
flat_refusal_same f (flat_faults.TooMany limit count) flat_faults.Memory x y = absurd y
flat_refusal_same f flat_faults.Memory b x y = absurd x

-- the cause is one
pub no_network_same : (text : List ℕ) (a b : FlatFault) → HasFlatRefusal text a → HasFlatRefusal text b → a ≡ b
no_network_same text a b x y = flat_refusal_same x.file a b x.refused (subst (λ f. IsFlatRefusal f b) (file_same text y.file x.file y.accepted x.accepted) y.refused)

-- What holds of each file of BLIF, the Berkeley Logic Interchange Format, of what it is refused for and of its network.
use Rattle.std.specs.Prelude.{◌≡◌, ◌<◌, ◌+◌, ℕ, List, [], length, Contains, Some, slice_get}
use Rattle.std.specs.List.{sum_by}
use Rattle.std.specs.List.Sorted.{IsSortedByKey, IsStableByKey}
use Rattle.std.specs.Ordering.{nat_cmp}
use Rattle.blif_ast.specs.BlifFileData.{BlifFileData}
use Rattle.blif_ast.specs.BlifModelData.{BlifModelData}
use Rattle.blif_ast.specs.InstanceData.{InstanceData}
use Rattle.blif_ast.specs.Good.{IsGoodFile}
use Rattle.model_calls.specs.declared.fault.FlatKind.TheVariants.{Recursion}
use Rattle.model_calls.specs.Expanded.{BodyCard, expanded, expanded_from, card_line}
use Rattle.net_flatten.specs.Flattening.{IsNetworkOf}
use Rattle.network.specs.NetworkData.{NetworkData}
use Rattle.network.specs.Networks.{IsNetwork}
use Rattle.net_flatten.specs.OneModel.{file_of}
use Rattle.model_calls.specs.Occurrences.{Occurrence, main_model, models_called, occurrences_from, occurrences}
use Rattle.model_calls.specs.Refusal.{Refusal, At}
use Rattle.model_calls.specs.Refusals.{HasRefusal, IsRefusal}
use Rattle.model_calls.specs.Ends.{End, drivers}
use Rattle.model_calls.specs.Ordered.{in_order}
use Rattle.model_calls.specs.Pairs.{pairs}
use Rattle.model_calls.specs.Signals.{Signal}

-- a file is refused for at most one thing, has at most one network, and never both
pub record HasAtMostOneAnswer (f : BlifFileData) : Type 0 where
  pub one_refusal : (r other : Refusal) → IsRefusal f r → IsRefusal f other → r ≡ other
  pub one_network : (n other : NetworkData) → IsNetworkOf f n → IsNetworkOf f other → n ≡ other
  pub not_both : (r : Refusal) (n : NetworkData) → IsRefusal f r → IsNetworkOf f n → ⊥

abbrev pub FileHasOneAnswer : Type 0
FileHasOneAnswer = (f : BlifFileData) → HasAtMostOneAnswer f

-- the network of a good file keeps what a network keeps
abbrev pub NetworkIsKept : Type 0
NetworkIsKept = (f : BlifFileData) (n : NetworkData) → IsGoodFile f → IsNetworkOf f n → IsNetwork n

-- the paths of a good file all differ
abbrev pub PathsDiffer : Type 0
PathsDiffer =
    (f : BlifFileData) → IsGoodFile f → (j k : ℕ) (p q : Occurrence)
    → slice_get (occurrences f) j ≡ Some p → slice_get (occurrences f) k ≡ Some q → p.path ≡ q.path → j ≡ k

-- a number of each model that falls from a model to the models of its instances
abbrev pub Falls : List BlifModelData → (BlifModelData → ℕ) → Type 0
Falls models rank =
    (m : BlifModelData) (i : InstanceData) (n : BlifModelData)
    → Contains m.instances i → Contains (models_called models i.unit) n → rank n < rank m

-- where such a number is below two depths, the expanded lists to these depths are the same
abbrev pub DepthIsFree : Type 0
DepthIsFree =
    (models : List BlifModelData) (rank : BlifModelData → ℕ) → Falls models rank
    → (d e : ℕ) (path : List InstanceData) (m : BlifModelData) → rank m < d → rank m < e
    → (expanded_from models d path m ≡ expanded_from models e path m)
    × (occurrences_from models d path m ≡ occurrences_from models e path m)

-- and sums over all paths below a model are found model by model: its own weight, and what the models of its instances come to
abbrev pub SumsByModel : Type 0
SumsByModel =
    (models : List BlifModelData) (rank : BlifModelData → ℕ) → Falls models rank → (weight total : BlifModelData → ℕ)
    → ((m : BlifModelData) → total m ≡ weight m + sum_by (λ (i : InstanceData). sum_by total (models_called models i.unit)) m.instances)
    → (d : ℕ) (path : List InstanceData) (m : BlifModelData) → rank m < d
    → sum_by (λ (p : Occurrence). weight p.model) (occurrences_from models d path m) ≡ total m

-- the file of one model of a network is good, and has nothing to be refused for
pub record IsAcceptedFile (f : BlifFileData) : Type 0 where
  pub good : IsGoodFile f
  pub accepted : (r : Refusal) → HasRefusal f r → ⊥

abbrev pub OneModelIsAccepted : Type 0
OneModelIsAccepted = (n : NetworkData) → IsNetwork n → IsAcceptedFile (file_of n)

-- where no model reaches itself, a greater depth than the number of models adds nothing
abbrev pub DepthIsEnough : Type 0
DepthIsEnough =
    (f : BlifFileData) → IsGoodFile f → ((line : ℕ) (name : List ℕ) → HasRefusal f (At Recursion line name) → ⊥) → (extra : ℕ)
    → (expanded_from f.models (length f.models + extra) [] (main_model f) ≡ expanded f)
    × (occurrences_from f.models (length f.models + extra) [] (main_model f) ≡ occurrences f)

-- pairs of a path and a name differ, so that their indices in the list of all pairs can number them
abbrev pub PairsDiffer : Type 0
PairsDiffer =
    (f : BlifFileData) → IsGoodFile f → (j k : ℕ) (s : Signal) → slice_get (pairs f) j ≡ Some s → slice_get (pairs f) k ≡ Some s → j ≡ k

-- and each signal that is driven is one of them
abbrev pub DriversArePairs : Type 0
DriversArePairs = (f : BlifFileData) → IsGoodFile f → (e : End) → Contains (drivers f) e → Contains (pairs f) e.signal

-- what a stable sort of cards by their lines leaves is the list in order of lines; the lemma is for any number of any type
abbrev pub CardSortIsByLine : Type 0
CardSortIsByLine =
    (xs ys : List BodyCard) → IsSortedByKey card_line nat_cmp ys → IsStableByKey card_line nat_cmp xs ys → ys ≡ in_order card_line xs

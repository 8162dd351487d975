-- Marks of the ports of a model, by their places among its names.
use Rattle.std.specs.Prelude.{ℕ, ◌≡◌, ◌≢◌, ◌<◌, ◌⊎◌, ◌↔◌, List, ◌++◌, Contains, Some, length, slice_get, slice_set, take}

-- what stands in a list stands there once
abbrev pub AreDistinct : List ℕ → Type 0
AreDistinct numbers = (j k x : ℕ) → slice_get numbers j ≡ Some x → slice_get numbers k ≡ Some x → j ≡ k

-- a mark for each name of a model, below a bound: it is 0 exactly where the name is no port
abbrev pub ArePortMarks : List ℕ → ℕ → List ℕ → Type 0
ArePortMarks ports bound marks = (k mark : ℕ) → slice_get marks k ≡ Some mark → (mark < bound) × (mark ≢ 0 ↔ Contains ports k)

-- the inputs and the outputs of a model each differ, and their marks are below this bound
pub record ArePorts (inputs outputs : List ℕ) (bound : ℕ) (marks : List ℕ) : Type 0 where
  pub inputs_differ : AreDistinct inputs
  pub outputs_differ : AreDistinct outputs
  pub marks_are : ArePortMarks (inputs ++ outputs) bound marks

-- a place got a mark, which had neither this one nor another one
pub record IsMarked (before : List ℕ) (place mark other : ℕ) (after : List ℕ) : Type 0 where
  pub old : ℕ
  pub there : slice_get before place ≡ Some old
  pub differs : old ≢ mark
  pub right : old ≢ other
  pub after_is : after ≡ slice_set before place mark

-- these places, which differ, got a mark, and had neither this one nor another one
pub record AreMarked (before places : List ℕ) (mark other : ℕ) (after : List ℕ) : Type 0 where
  pub count : length after ≡ length before
  pub differ : AreDistinct places
  pub marked : (k v : ℕ) → Contains places k → slice_get after k ≡ Some v → v ≡ mark
  pub kept : (k v : ℕ) → slice_get after k ≡ Some v → (Contains places k × (v ≡ mark)) ⊎ (slice_get before k ≡ Some v)
  pub were : (k : ℕ) → Contains places k → (v : ℕ) × (slice_get before k ≡ Some v) × (v ≢ other)

-- a place that has a mark has this one or another one
abbrev pub IsBarred : List ℕ → ℕ → ℕ → ℕ → Type 0
IsBarred marks place mark other = (v : ℕ) → slice_get marks place ≡ Some v → (v ≡ mark) ⊎ (v ≡ other)

-- one of these places, if it has a mark, is there twice, or has this mark or another one
pub record AreBarred (before places : List ℕ) (mark other : ℕ) : Type 0 where
  pub at : ℕ
  pub place : ℕ
  pub there : slice_get places at ≡ Some place
  pub barred : (v : ℕ) → slice_get before place ≡ Some v → Contains (take at places) place ⊎ ((v ≡ mark) ⊎ (v ≡ other))

-- one of these places is there twice, if it is one of so many
pub record AreTwice (count : ℕ) (places : List ℕ) : Type 0 where
  pub at : ℕ
  pub place : ℕ
  pub there : slice_get places at ≡ Some place
  pub twice : place < count → Contains (take at places) place

-- the formals of an instance differ and are ports of its model, and each input of the model is one of them
pub record AreBound (inputs ports formals : List ℕ) : Type 0 where
  pub differ : AreDistinct formals
  pub ports_are : (k : ℕ) → Contains formals k → Contains ports k
  pub inputs_are : (k : ℕ) → Contains inputs k → Contains formals k

-- a formal of an instance, if it is one of so many names, is there twice or is no port of its model
pub record HasWrongFormal (count : ℕ) (ports formals : List ℕ) : Type 0 where
  pub at : ℕ
  pub place : ℕ
  pub there : slice_get formals at ≡ Some place
  pub wrong : place < count → Contains (take at formals) place ⊎ (Contains ports place → ⊥)

-- an input of the model is none of the formals
pub record HasUnboundInput (inputs formals : List ℕ) : Type 0 where
  pub place : ℕ
  pub input : Contains inputs place
  pub unbound : Contains formals place → ⊥

-- a formal is wrong, or an input isn't bound
abbrev pub AreBadlyBound : ℕ → List ℕ → List ℕ → List ℕ → Type 0
AreBadlyBound count inputs ports formals = HasWrongFormal count ports formals ⊎ HasUnboundInput inputs formals

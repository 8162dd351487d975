-- Lines that have numbers and faults, where the lines before a line, the nearest first, are its context: the faults of a text that
-- is read line by line.
use Rattle.std.specs.Prelude.{◌≡◌, ◌⊎◌, ◌≤◌, ◌+◌, ℕ, Bool, true, List, [], ◌∷◌, ◌++◌, reverse}

-- their numbers rise, from this one on
abbrev pub NumbersRise : {Line : Type 0} → (Line → ℕ) → ℕ → List Line → Type 0
NumbersRise number n [] = Unit {0}
NumbersRise number n (line ∷ more) = (n ≤ number line) × NumbersRise number (number line + 1) more

module _ {Line Kind : Type 0} (number : Line → ℕ) (has_fault : Kind → List Line → Line → Bool) where
  -- one of these lines has this number and a fault of this kind, where these lines stand before them
  abbrev pub FaultIn : List Line → List Line → ℕ → Kind → Type 0
  FaultIn before [] n kind = ⊥
  FaultIn before (line ∷ more) n kind = ((number line ≡ n) × (has_fault kind before line ≡ true)) ⊎ FaultIn (line ∷ before) more n kind

  -- a line of the text that has this number and a fault of this kind, with the lines before it
  pub record FaultyLine (all : List Line) (n : ℕ) (kind : Kind) : Type 0 where
    pub before : List Line
    pub line : Line
    pub after : List Line
    pub lines_are : all ≡ reverse before ++ line ∷ after
    pub number_is : number line ≡ n
    pub fault : has_fault kind before line ≡ true

  -- the first fault in some lines, and the kind with the smallest number there
  pub record IsFirstIn (kind_number : Kind → ℕ) (before all : List Line) : Type 0 where
    pub line_number : ℕ
    pub kind : Kind
    pub fault : FaultIn before all line_number kind
    pub first : (other : ℕ) (any : Kind) → FaultIn before all other any → line_number ≤ other
    pub smallest : (other : Kind) → FaultIn before all line_number other → kind_number kind ≤ kind_number other

-- What the words of a card `.latch` say of its latch.
use Rattle.std.specs.Prelude.{ℕ, List, [], ◌∷◌, Option, Some, None, codes, if◌then◌else◌, slice_index_or}
use Rattle.std.specs.Option.{option_to_list}
use Rattle.blif_ast.specs.declared.latch.Edge2.{Edge2}
use Rattle.blif_ast.specs.declared.latch.Edge2.TheVariants.{Rising, Falling}
use Rattle.blif_ast.specs.Cards.{same}
use Rattle.blif_ast.specs.Models.{init_of}

-- the edge of a type
abbrev pub edge_of : List ℕ → Edge2
edge_of type = if same type (codes "re") then Rising else Falling

-- the signal of a control, where `NIL` is none
abbrev pub signal_of : List ℕ → Option (List ℕ)
signal_of control = if same control (codes "NIL") then None else Some control

-- the edge, the signal that controls it, and the start value, which is 3 where it is absent
abbrev pub edge_in : List (List ℕ) → Option Edge2
edge_in (card ∷ input ∷ output ∷ type ∷ control ∷ []) = Some (edge_of type)
edge_in (card ∷ input ∷ output ∷ type ∷ control ∷ init ∷ []) = Some (edge_of type)
edge_in _ = None

abbrev pub signal_in : List (List ℕ) → Option (List ℕ)
signal_in (card ∷ input ∷ output ∷ type ∷ control ∷ []) = signal_of control
signal_in (card ∷ input ∷ output ∷ type ∷ control ∷ init ∷ []) = signal_of control
signal_in _ = None

abbrev pub init_in : List (List ℕ) → ℕ
init_in (card ∷ input ∷ output ∷ init ∷ []) = init_of init
init_in (card ∷ input ∷ output ∷ type ∷ control ∷ init ∷ []) = init_of init
init_in _ = 3

-- the words of the latch: its input, its output and the signal that controls it
abbrev pub latch_words : List (List ℕ) → List (List ℕ)
latch_words words = slice_index_or words 1 [] ∷ slice_index_or words 2 [] ∷ option_to_list (signal_in words)

-- What stands behind the last part and the last model after the words of a card.
use Rattle.std.proofs.Common.{◌≡◌, ℕ, ◌≤◌, Bool, true, false, if◌then◌else◌, List, [], ◌∷◌, ◌++◌, length, drop, refl, arith, Some, None}
use Rattle.std.specs.Prelude.{codes, slice_index_or}
use Rattle.std.specs.Option.{option_to_list}
use Rattle.std.proofs.lemmas.Grind.{flat_map-append}
use Rattle.blif_ast.specs.Cards.{same, formal_of, actual_of}
use Rattle.blif_ast.specs.Models.{init_of, instance_of, latch_of}
use Rattle.blif_lines.specs.Cuts.{numbered_line}
use Rattle.numbered_file.specs.declared.parts.PartKind.{PartKind}
use Rattle.numbered_file.specs.declared.parts.PartKind.TheVariants as at
use Rattle.numbered_file.specs.Numbered.{InstancePart, LatchPart, latch_by, part_by}
use Rattle.blif_numbers.specs.BuilderData.{binding_words, latch_parts}
use Rattle.blif_numbers.specs.LatchWords.{edge_in, edge_of, init_in, latch_words}
use Rattle.blif_numbers.proofs.Builds.{bindings-words}

-- the words of one binding more
pub binding_words-push : (bindings : List (List ℕ)) (word : List ℕ)
    → binding_words (bindings ++ word ∷ []) ≡ binding_words bindings ++ formal_of word ∷ actual_of word ∷ []
binding_words-push bindings word = flat_map-append (λ w. formal_of w ∷ actual_of w ∷ []) bindings (word ∷ [])

-- a latch

pub latch-is : (text : List ℕ) (line : ℕ) (words : List (List ℕ)) → 3 ≤ length words → length words ≤ 6
    → part_by text (at.Latch (edge_in words) (init_in words)) line (latch_words words) [] ∷ [] ≡ latch_parts (latch_of line words)
latch-is text line [] low high = absurd (omega (arith, low))
latch-is text line (a ∷ []) low high = absurd (omega (arith, low))
latch-is text line (a ∷ b ∷ []) low high = absurd (omega (arith, low))
latch-is text line (card ∷ input ∷ output ∷ []) low high = refl
latch-is text line (card ∷ input ∷ output ∷ init ∷ []) low high = refl
latch-is text line (card ∷ input ∷ output ∷ type ∷ control ∷ []) low high = by (same control (codes "NIL"))
  where
    by : (nil : Bool) → LatchPart (latch_by (edge_in (card ∷ input ∷ output ∷ type ∷ control ∷ [])) 3 line (input ∷ output ∷ option_to_list (if nil then None else Some control))) ∷ []
        ≡ LatchPart (record {
          input = input;
          output = output;
          control = Some (record { edge = edge_of type; signal = if nil then None else Some control });
          init = 3;
          line = line;
        }) ∷ []
    by true = refl
    by false = refl
latch-is text line (card ∷ input ∷ output ∷ type ∷ control ∷ init ∷ []) low high = by (same control (codes "NIL"))
  where
    by : (nil : Bool) → LatchPart (latch_by (edge_in (card ∷ input ∷ output ∷ type ∷ control ∷ init ∷ [])) (init_of init) line (input ∷ output ∷ option_to_list (if nil then None else Some control))) ∷ []
        ≡ LatchPart (record {
          input = input;
          output = output;
          control = Some (record { edge = edge_of type; signal = if nil then None else Some control });
          init = init_of init;
          line = line;
        }) ∷ []
    by true = refl
    by false = refl
latch-is text line (a ∷ b ∷ c ∷ d ∷ e ∷ f ∷ g ∷ more) low high = absurd (omega (arith, high))

pub no-latch : (line : ℕ) (words : List (List ℕ)) → (3 ≤ length words → length words ≤ 6 → ⊥) → [] ≡ latch_parts (latch_of line words)
no-latch line [] out = refl
no-latch line (a ∷ []) out = refl
no-latch line (a ∷ b ∷ []) out = refl
no-latch line (a ∷ b ∷ c ∷ []) out = absurd (out (omega arith) (omega arith))
no-latch line (a ∷ b ∷ c ∷ d ∷ []) out = absurd (out (omega arith) (omega arith))
no-latch line (a ∷ b ∷ c ∷ d ∷ e ∷ []) out = absurd (out (omega arith) (omega arith))
no-latch line (a ∷ b ∷ c ∷ d ∷ e ∷ f ∷ []) out = absurd (out (omega arith) (omega arith))
no-latch line (a ∷ b ∷ c ∷ d ∷ e ∷ f ∷ g ∷ more) out = refl

-- an instance
pub instance-is : (text : List ℕ) (line : ℕ) (words : List (List ℕ))
    → part_by text at.Instance line (slice_index_or words 1 [] ∷ binding_words (drop 2 words)) [] ∷ [] ≡ InstancePart (instance_of (numbered_line line words)) ∷ []
instance-is text line words = λ i. InstancePart (record { unit = slice_index_or words 1 []; bindings = bindings-words (drop 2 words) i; line = line }) ∷ []

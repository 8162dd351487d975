-- A text is accepted with one file or refused for one fault.
use Rattle.std.proofs.Common.{◌≡◌, ℕ, ◌≤◌, ◌+◌, ◌⊎◌, inl, inr, List, [], ◌∷◌, length, refl, sym, ◌∙◌, subst, arith}
use Rattle.dom_base.specs.Answers.{HasOneAnswer}
use Rattle.dom_base.specs.Lines.{lines}
use Rattle.dom_base.proofs.Faults.{only_refusal}
use Rattle.blif_ast.specs.declared.kind.BlifKind.{BlifKind}
use Rattle.blif_ast.specs.declared.kind.BlifKind.TheVariants.{NoModel}
use Rattle.blif_ast.specs.LogicalLines.{LogicalLine, logical_lines}
use Rattle.blif_ast.specs.Faults.{blif_kind_number}
use Rattle.blif_ast.specs.Models.{models_of}
use Rattle.blif_ast.specs.Reading.{IsBlifFault, IsFaultOfLine, IsBlifFaultAt, IsFileOf}
use Rattle.blif_read.specs.Laws.{TextHasOneAnswer}
use Rattle.blif_numbers.proofs.LineNumbers.{logical_lines-rise}
use Rattle.blif_numbers.proofs.FaultKinds.{blif_kind_number-injective}
use Rattle.blif_numbers.proofs.LineFaults.{IsFaultOfLine-from, IsFirstIn, first_in}
use Rattle.blif_numbers.proofs.LineFaults.{FaultIn, fault_in}

-- a text that is accepted with one file, or refused for one fault
abbrev Once : List ℕ → Type 0
Once text = HasOneAnswer (IsFileOf text) (IsBlifFault text) (IsBlifFaultAt text)

-- a fault that is told makes the text a refused one
refused_once : (text : List ℕ) (number : ℕ) (kind : BlifKind) → IsBlifFaultAt text number kind → Once text
refused_once text number kind told = inr (
  number,
  kind,
  only_refusal blif_kind_number (IsBlifFault text) (IsFileOf text) blif_kind_number-injective number kind told (λ file is. is.no_fault number kind told.fault),
)

-- a text without faults is an accepted one
accepted_once : (text : List ℕ) → ((number : ℕ) (kind : BlifKind) → IsBlifFault text number kind → ⊥) → Once text
accepted_once text none = inl (
  record { models = models_of (logical_lines text) },
  record { is_answer = record { no_fault = none; file_is = refl }; one_answer = λ other is. is.file_is; no_fault = none },
)

-- a text without lines that have words
empty_refused : (text : List ℕ) → logical_lines text ≡ [] → Once text
empty_refused text empty = refused_once text (length (lines text) + 1) NoModel (record {
  fault = inr (record { empty = empty; number_is = refl; kind_is = refl });
  first = first;
  smallest = smallest;
})
  where
    no_line : (number : ℕ) (kind : BlifKind) → IsFaultOfLine (logical_lines text) number kind → ⊥
    no_line number kind f = subst (λ l. FaultIn [] l number kind) empty (fault_in (logical_lines text) number kind f)

    first : (other : ℕ) (any : BlifKind) → IsBlifFault text other any → length (lines text) + 1 ≤ other
    first other any (inl f) = absurd (no_line other any f)
    first other any (inr f) = omega (arith, f.number_is)

    smallest : (other : BlifKind) → IsBlifFault text (length (lines text) + 1) other → blif_kind_number NoModel ≤ blif_kind_number other
    smallest other (inl f) = absurd (no_line _ other f)
    smallest other (inr f) = rw f.kind_is (omega arith)

-- a text with lines that have words
filled_answer : (text : List ℕ) → (logical_lines text ≡ [] → ⊥)
    → ((number : ℕ) (kind : BlifKind) → FaultIn [] (logical_lines text) number kind → ⊥) ⊎ IsFirstIn [] (logical_lines text) → Once text
filled_answer text filled (inl none) = accepted_once text by
  where
    by : (number : ℕ) (kind : BlifKind) → IsBlifFault text number kind → ⊥
    by number kind (inl f) = none number kind (fault_in (logical_lines text) number kind f)
    by number kind (inr f) = filled f.empty
filled_answer text filled (inr found) = refused_once text found.line_number found.kind (record {
  fault = inl (IsFaultOfLine-from (logical_lines text) found.line_number found.kind found.fault);
  first = first;
  smallest = smallest;
})
  where
    first : (other : ℕ) (any : BlifKind) → IsBlifFault text other any → found.line_number ≤ other
    first other any (inl f) = found.first other any (fault_in (logical_lines text) other any f)
    first other any (inr f) = absurd (filled f.empty)

    smallest : (other : BlifKind) → IsBlifFault text found.line_number other → blif_kind_number found.kind ≤ blif_kind_number other
    smallest other (inl f) = found.smallest other (fault_in (logical_lines text) found.line_number other f)
    smallest other (inr f) = absurd (filled f.empty)

pub one_answer : TextHasOneAnswer
one_answer text = by (logical_lines text) refl
  where
    by : (all : List LogicalLine) → logical_lines text ≡ all → Once text
    by [] is = empty_refused text is
    by (line ∷ more) is = filled_answer text (λ e. let never : line ∷ more ≡ [] = sym is ∙ e in cc) (first_in 1 [] (logical_lines text) (logical_lines-rise text))

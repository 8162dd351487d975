-- Faults of logical lines, by the lines before them.
use Rattle.std.proofs.Common.{◌≡◌, ℕ, ◌≤◌, ◌⊎◌, false, List, [], ◌∷◌}
use Rattle.std.specs.List.{find}
use Rattle.dom_base.specs.LineFaults.{FaultIn as FaultInLines, IsFirstIn as IsFirstInLines}
use Rattle.dom_base.proofs.Faults.{fault_in as fault_in_lines, faulty_line, first_in as first_in_lines, passed as passed_line, rising-fault as rising_line}
use Rattle.blif_ast.specs.declared.kind.BlifKind.{BlifKind}
use Rattle.blif_ast.specs.LogicalLines.{LogicalLine}
use Rattle.blif_ast.specs.Faults.{has_blif_fault, blif_kind_number}
use Rattle.blif_ast.specs.Reading.{IsFaultOfLine}
use Rattle.blif_numbers.specs.Steps.{kinds}
use Rattle.blif_numbers.proofs.LineNumbers.{Rises}
use Rattle.blif_numbers.proofs.FaultKinds.{smallest_kind}

abbrev number_of : LogicalLine → ℕ
number_of line = line.number

-- a fault in some lines, behind these, the nearest first
abbrev pub FaultIn : List LogicalLine → List LogicalLine → ℕ → BlifKind → Type 0
FaultIn = FaultInLines number_of has_blif_fault

pub fault_in : (all : List LogicalLine) (n : ℕ) (kind : BlifKind) → IsFaultOfLine all n kind → FaultIn [] all n kind
fault_in all n kind f = fault_in_lines number_of has_blif_fault all f.before f.line f.after n kind f.lines_are f.number_is f.fault

pub IsFaultOfLine-from : (all : List LogicalLine) (n : ℕ) (kind : BlifKind) → FaultIn [] all n kind → IsFaultOfLine all n kind
IsFaultOfLine-from all n kind h =
    let f = faulty_line number_of has_blif_fault all n kind h in
    record { before = f.before; line = f.line; after = f.after; lines_are = f.lines_are; number_is = f.number_is; fault = f.fault }

-- a fault stands at no smaller number than that from which the numbers rise
pub rising-fault : (m : ℕ) (before all : List LogicalLine) (n : ℕ) (kind : BlifKind) → Rises m all → FaultIn before all n kind → m ≤ n
rising-fault = rising_line number_of has_blif_fault

-- a line without a fault is passed
pub passed : (before : List LogicalLine) (line : LogicalLine) (more : List LogicalLine) → ((kind : BlifKind) → has_blif_fault kind before line ≡ false) → (n : ℕ) (kind : BlifKind)
    → FaultIn before (line ∷ more) n kind → FaultIn (line ∷ before) more n kind
passed = passed_line number_of has_blif_fault

-- the first fault in some lines and its smallest kind there
abbrev pub IsFirstIn : List LogicalLine → List LogicalLine → Type 0
IsFirstIn = IsFirstInLines number_of has_blif_fault blif_kind_number

-- some lines have no fault, or a first one
pub first_in : (n : ℕ) (before all : List LogicalLine) → Rises n all → ((number : ℕ) (kind : BlifKind) → FaultIn before all number kind → ⊥) ⊎ IsFirstIn before all
first_in n before all rises =
    first_in_lines number_of has_blif_fault blif_kind_number (λ b line. (find (λ kind. has_blif_fault kind b line) kinds, smallest_kind (λ kind. has_blif_fault kind b line))) n before all rises

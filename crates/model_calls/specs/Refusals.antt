-- What a file of BLIF, the Berkeley Logic Interchange Format, is refused for.
use Rattle.std.specs.Prelude.{ℕ, ◌≡◌, ◌-◌, ◌^◌, ◌≤◌, min, List, Some, slice_get}
use Rattle.blif_ast.specs.BlifFileData.{BlifFileData}
use Rattle.model_calls.specs.declared.fault.FlatKind.{FlatKind}
use Rattle.model_calls.specs.declared.fault.FlatKind.TheVariants.{DuplicateModel, DuplicatePort, UnknownModel, BadFormal, Recursion, DrivenTwice, Undriven, Cycle, TwoControls, ControlUsed}
use Rattle.model_calls.specs.declared.fault.Limit.{Limit}
use Rattle.model_calls.specs.Counts.{Counted, IsTooMany, counts}
use Rattle.model_calls.specs.Ends.{End, clockings, controls, driven_end, readers}
use Rattle.model_calls.specs.Expanded.{expanded, tables}
use Rattle.model_calls.specs.First.{IsFirst}
use Rattle.model_calls.specs.ModelFaults.{IsBadFormal, IsDuplicateModel, IsDuplicatePort, IsRecursion, IsUnknownModel, formals, line_of_formal, name_of_formal, ports, uses}
use Rattle.model_calls.specs.Refusal.{Refusal, At, TooMany, refusal_order}
use Rattle.model_calls.specs.SignalFaults.{IsAtControl, IsOnCycle, IsDrivenTwice, IsOtherControl, IsUndriven, ends_but_inputs}

-- the first element of a list of which this holds gives the line and the name
pub record IsReported {Element : Type 0} (Holds : List Element → Element → Type 0) (all : List Element)
    (line_of : Element → ℕ) (name_of : Element → List ℕ) (line : ℕ) (name : List ℕ) : Type 0 where
  pub element : Element
  pub first : IsFirst Holds all element
  pub line_is : line ≡ line_of element
  pub name_is : name ≡ name_of element

-- the first count above its limit, or 2^64 - 1 where it is larger
pub record IsCountReported (f : BlifFileData) (limit : Limit) (count : ℕ) : Type 0 where
  pub counted : Counted
  pub first : IsFirst IsTooMany (counts f) counted
  pub limit_is : limit ≡ counted.limit
  pub count_is : count ≡ min counted.count (2 ^ 64 - 1)

-- the control signal has a reader, or a driver other than a main input: the line of the first such card, and the
-- control as the first latch with one has it
pub record IsControlUsed (f : BlifFileData) (line : ℕ) (name : List ℕ) : Type 0 where
  pub control : End
  pub control_is : slice_get (controls f) 0 ≡ Some control
  pub at : IsReported (IsAtControl control.signal) (ends_but_inputs f) (λ e. e.line) (λ e. control.name) line name

-- a kind is the first of its kind over the whole text, with this line and name
abbrev pub IsOfKind : BlifFileData → FlatKind → ℕ → List ℕ → Type 0
IsOfKind f DuplicateModel = IsReported IsDuplicateModel f.models (λ m. m.line) (λ m. m.name)
IsOfKind f DuplicatePort = IsReported IsDuplicatePort (ports f) (λ p. p.line) (λ p. p.name)
IsOfKind f UnknownModel = IsReported (IsUnknownModel f) (uses f) (λ u. u.instance.line) (λ u. u.instance.unit)
IsOfKind f BadFormal = IsReported IsBadFormal (formals f) line_of_formal name_of_formal
IsOfKind f Recursion = IsReported (IsRecursion f) (uses f) (λ u. u.instance.line) (λ u. u.instance.unit)
IsOfKind f DrivenTwice = IsReported (IsDrivenTwice f) (expanded f) (λ part. (driven_end part).line) (λ part. (driven_end part).name)
IsOfKind f Undriven = IsReported (IsUndriven f) (readers f) (λ e. e.line) (λ e. e.name)
IsOfKind f Cycle = IsReported (IsOnCycle f) (tables f) (λ t. t.table.line) (λ t. t.table.output)
IsOfKind f TwoControls = IsReported IsOtherControl (clockings f) (λ c. c.line) (λ c. c.output)
IsOfKind f ControlUsed = IsControlUsed f

-- the file has this to be refused for, as the first of its order over the whole text
abbrev pub HasRefusal : BlifFileData → Refusal → Type 0
HasRefusal f (At kind line name) = IsOfKind f kind line name
HasRefusal f (TooMany limit count) = IsCountReported f limit count

-- the file is refused for this: it comes first in the order in which the kinds are looked for
pub record IsRefusal (f : BlifFileData) (r : Refusal) : Type 0 where
  pub has : HasRefusal f r
  pub first : (other : Refusal) → HasRefusal f other → refusal_order r ≤ refusal_order other

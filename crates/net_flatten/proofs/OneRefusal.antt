-- A file is refused for at most one thing.
use Rattle.std.proofs.Common.{◌≡◌, ℕ, ◌-◌, ◌^◌, min, List, Some, ap, sym, ◌∙◌, subst, arith}
use Rattle.blif_ast.specs.BlifFileData.{BlifFileData}
use Rattle.model_calls.specs.declared.fault.FlatKind.{FlatKind}
use Rattle.model_calls.specs.declared.fault.FlatKind.TheVariants.{DuplicateModel, DuplicatePort, UnknownModel, BadFormal, Recursion, DrivenTwice, Undriven, Cycle, TwoControls, ControlUsed}
use Rattle.model_calls.specs.declared.fault.Limit.{Limit}
use Rattle.model_calls.specs.Counts.{Counted, IsTooMany, counts}
use Rattle.model_calls.specs.Ends.{End, clockings, driven_end, readers}
use Rattle.model_calls.specs.Expanded.{expanded, tables}
use Rattle.model_calls.specs.ModelFaults.{IsBadFormal, IsDuplicateModel, IsDuplicatePort, IsRecursion, IsUnknownModel, formals, line_of_formal, name_of_formal, ports, uses}
use Rattle.model_calls.specs.Refusal.{Refusal, At, TooMany, refusal_order}
use Rattle.model_calls.specs.Refusals.{HasRefusal, IsControlUsed, IsCountReported, IsOfKind, IsRefusal, IsReported}
use Rattle.model_calls.specs.SignalFaults.{IsAtControl, IsOnCycle, IsDrivenTwice, IsOtherControl, IsUndriven, ends_but_inputs}
use Rattle.model_calls.proofs.Firsts.{first_once}
use Rattle.model_calls.proofs.KindOrders.{order_of_kind-injective, order_of_kind-six}

-- lines and names that are the same
abbrev Same : ℕ → List ℕ → ℕ → List ℕ → Type 0
Same line name line' name' = (line ≡ line') × (name ≡ name')

reported_once : {Element : Type 0} (Holds : List Element → Element → Type 0) (all : List Element) (line_of : Element → ℕ) (name_of : Element → List ℕ)
    (line line' : ℕ) (name name' : List ℕ) → IsReported Holds all line_of name_of line name → IsReported Holds all line_of name_of line' name' → Same line name line' name'
reported_once Holds all line_of name_of line line' name name' x y =
    let one = first_once Holds all x.element y.element x.first y.first in
    (x.line_is ∙ ap line_of one ∙ sym y.line_is, x.name_is ∙ ap name_of one ∙ sym y.name_is)

control_once : (f : BlifFileData) (line line' : ℕ) (name name' : List ℕ) → IsControlUsed f line name → IsControlUsed f line' name' → Same line name line' name'
control_once f line line' name name' x y =
    let is : Some x.control ≡ Some y.control = sym x.control_is ∙ y.control_is in
    let one : x.control ≡ y.control = cc in
    reported_once (IsAtControl y.control.signal) (ends_but_inputs f) (λ e. e.line) (λ e. y.control.name) line line' name name'
    (subst (λ (c : End). IsReported (IsAtControl c.signal) (ends_but_inputs f) (λ e. e.line) (λ e. c.name) line name) one x.at) y.at

count_once : (f : BlifFileData) (limit limit' : Limit) (count count' : ℕ) → IsCountReported f limit count → IsCountReported f limit' count' → TooMany limit count ≡ TooMany limit' count'
count_once f limit limit' count count' x y =
    let one = first_once IsTooMany (counts f) x.counted y.counted x.first y.first in
    let l : limit ≡ limit' = x.limit_is ∙ ap (λ (c : Counted). c.limit) one ∙ sym y.limit_is in
    let c : count ≡ count' = x.count_is ∙ ap (λ (c : Counted). min c.count (2 ^ 64 - 1)) one ∙ sym y.count_is in
    cc

kind_once : (f : BlifFileData) (kind : FlatKind) (line line' : ℕ) (name name' : List ℕ) → IsOfKind f kind line name → IsOfKind f kind line' name' → Same line name line' name'
kind_once f DuplicateModel line line' name name' x y = reported_once IsDuplicateModel f.models (λ m. m.line) (λ m. m.name) line line' name name' x y
kind_once f DuplicatePort line line' name name' x y = reported_once IsDuplicatePort (ports f) (λ p. p.line) (λ p. p.name) line line' name name' x y
kind_once f UnknownModel line line' name name' x y = reported_once (IsUnknownModel f) (uses f) (λ u. u.instance.line) (λ u. u.instance.unit) line line' name name' x y
kind_once f BadFormal line line' name name' x y = reported_once IsBadFormal (formals f) line_of_formal name_of_formal line line' name name' x y
kind_once f Recursion line line' name name' x y = reported_once (IsRecursion f) (uses f) (λ u. u.instance.line) (λ u. u.instance.unit) line line' name name' x y
kind_once f DrivenTwice line line' name name' x y = reported_once (IsDrivenTwice f) (expanded f) (λ part. (driven_end part).line) (λ part. (driven_end part).name) line line' name name' x y
kind_once f Undriven line line' name name' x y = reported_once (IsUndriven f) (readers f) (λ e. e.line) (λ e. e.name) line line' name name' x y
kind_once f Cycle line line' name name' x y = reported_once (IsOnCycle f) (tables f) (λ t. t.table.line) (λ t. t.table.output) line line' name name' x y
kind_once f TwoControls line line' name name' x y = reported_once IsOtherControl (clockings f) (λ c. c.line) (λ c. c.output) line line' name name' x y
kind_once f ControlUsed line line' name name' x y = control_once f line line' name name' x y

has_once : (f : BlifFileData) (r other : Refusal) → refusal_order r ≡ refusal_order other → HasRefusal f r → HasRefusal f other → r ≡ other
has_once f (At kind line name) (At kind' line' name') e x y = by (order_of_kind-injective kind kind' e)
  where
    by : kind ≡ kind' → At kind line name ≡ At kind' line' name'
    by same = let both = kind_once f kind' line line' name name' (subst (λ k. IsOfKind f k line name) same x) y in
        let l = both.0 in let n = both.1 in cc
has_once f (At kind line name) (TooMany limit count) e x y = absurd (order_of_kind-six kind e)
has_once f (TooMany limit count) (At kind line name) e x y = absurd (order_of_kind-six kind (sym e))
has_once f (TooMany limit count) (TooMany limit' count') e x y = count_once f limit limit' count count' x y

pub refusal_once : (f : BlifFileData) (r other : Refusal) → IsRefusal f r → IsRefusal f other → r ≡ other
refusal_once f r other x y = has_once f r other (omega (arith, x.first other y.has, y.first r x.has)) x.has y.has

-- Whether a file has something of a kind to be refused for, or too many of something.
use Rattle.std.proofs.Common.{◌≡◌, ℕ, ◌⊎◌, inl, inr, List, [], ◌∷◌, ◌++◌, map, Option, Some, None, refl, sym, ◌∙◌, subst, arith}
use Rattle.std.specs.Prelude.{◌≢◌, Contains, slice_get, min, ◌-◌, ◌^◌}
use Rattle.std.specs.List.{count_by}
use Rattle.dom_base.specs.Decided.{Decided}
use Rattle.dom_base.proofs.Decided.{dec_any, dec_less, dec_map, dec_nat, dec_not, dec_or}
use Rattle.dom_base.proofs.Lists.{Contains-first}
use Rattle.blif_ast.specs.BlifFileData.{BlifFileData}
use Rattle.blif_ast.specs.BlifModelData.{BlifModelData}
use Rattle.blif_ast.specs.Cards.{same}
use Rattle.model_calls.specs.declared.fault.FlatKind.{FlatKind}
use Rattle.model_calls.specs.declared.fault.FlatKind.TheVariants.{DuplicateModel, DuplicatePort, UnknownModel, BadFormal, Recursion, DrivenTwice, Undriven, Cycle, TwoControls, ControlUsed}
use Rattle.model_calls.specs.declared.fault.Limit.{Limit}
use Rattle.model_calls.specs.Counts.{IsTooMany, counts}
use Rattle.model_calls.specs.Ends.{Clocking, End, clockings, controls, driven_end, drivers, inputs_of, main_inputs, output_of, readers}
use Rattle.model_calls.specs.Expanded.{expanded, tables}
use Rattle.model_calls.specs.ModelFaults.{BoundFormal, Formal, HasInstance, InputFormal, IsBadFormal, IsDuplicateModel, IsDuplicatePort, IsRecursion, IsTwiceIn, IsUnknownModel, Use, formals, formals_of, line_of_formal, name_of_formal, ports, uses}
use Rattle.model_calls.specs.Refusals.{IsCountReported, IsOfKind, IsReported}
use Rattle.model_calls.specs.SignalFaults.{IsAtControl, IsDrivenTwice, IsOnCycle, IsOther, IsOtherControl, IsUndriven, ends_but_inputs, signals}
use Rattle.model_calls.specs.Signals.{Signal}
use Rattle.model_calls.proofs.Fitting.{contains_cons}
use Rattle.model_calls.proofs.Reaching.{reaches_by}
use Rattle.network_law.proofs.ListDecisions.{dec_contains, dec_list, first_or_none, reported_or_none}
use Rattle.network_law.proofs.Reaching.{IsStep, dec_reaches}
use Rattle.network_law.proofs.SameSignals.{dec_edge, dec_signal}

named : (names : List (List ℕ)) (name : List ℕ) → Decided (Contains names name)
named names name = dec_contains (dec_list dec_nat) names name

twice : (names : List (List ℕ)) (name : List ℕ) → Decided (IsTwiceIn names name)
twice names name = dec_less 1 (count_by (same name) names)

bad_formal : (before : List Formal) (formal : Formal) → Decided (IsBadFormal before formal)
bad_formal before (BoundFormal i unit name) = dec_or (dec_not (named (unit.inputs ++ unit.outputs) name)) (twice (formals_of i) name)
bad_formal before (InputFormal i name) = dec_not (named (formals_of i) name)

signal_there : (ends : List End) (signal : Signal) → Decided (Contains (signals ends) signal)
signal_there ends signal = dec_contains dec_signal (signals ends) signal

other_signal : (a b : Option End) → Decided (IsOther a b)
other_signal (Some a) (Some b) = dec_not (dec_signal a.signal b.signal)
other_signal (Some a) None = inr (λ h. h)
other_signal None b = inr (λ h. h)

other_control : (before : List Clocking) (c : Clocking) → Decided (IsOtherControl before c)
other_control before c = dec_any
    (λ (b : Clocking). (b.edge ≢ c.edge) ⊎ IsOther b.signal c.signal)
    (λ b. dec_or (dec_not (dec_edge b.edge c.edge)) (other_signal b.signal c.signal))
    before

-- a kind is there with a line and a name, or it isn't
abbrev pub IsDecidedKind : BlifFileData → FlatKind → Type 0
IsDecidedKind f kind =
    ((line : ℕ) × (name : List ℕ) × IsOfKind f kind line name) ⊎ ((line : ℕ) (name : List ℕ) → IsOfKind f kind line name → ⊥)

module _ (f : BlifFileData) where
  abbrev model_of : Use → List ℕ
  model_of u = u.model.name

  abbrev units_of : Use → List (List ℕ)
  units_of u = u.instance.unit ∷ []

  -- from the model of an instance to the model that it names
  abbrev UseStep : List ℕ → List ℕ → Type 0
  UseStep = IsStep model_of units_of (uses f)

  by_instance : (a b : List ℕ) → UseStep a b → HasInstance f a b
  by_instance a b (u, inside, is, c) = (
    u,
    inside,
    is,
    elim (contains_cons u.instance.unit [] b c) [
      | inl same ↦ same
      | inr none ↦ absurd (omega (arith, none.1))
    ],
  )

  by_step : (a b : List ℕ) → HasInstance f a b → UseStep a b
  by_step a b (u, inside, is, same) = (u, inside, is, subst (Contains (units_of u)) same (Contains-first u.instance.unit []))

  recursion : (before : List Use) (u : Use) → Decided (IsRecursion f before u)
  recursion before u = dec_or
      (dec_list dec_nat u.instance.unit u.model.name)
      (dec_map (reaches_by by_instance) (reaches_by by_step)
      (dec_reaches model_of units_of (dec_list dec_nat) (uses f) u.instance.unit u.model.name))

  abbrev Used : End → ℕ → List ℕ → Type 0
  Used control = IsReported (IsAtControl control.signal) (ends_but_inputs f) (λ e. e.line) (λ e. control.name)

  control_used : IsDecidedKind f ControlUsed
  control_used = by (slice_get (controls f) 0) refl
    where
      used : (control : End)
          → ((line : ℕ) × (name : List ℕ) × Used control line name) ⊎ ((line : ℕ) (name : List ℕ) → Used control line name → ⊥)
      used control = reported_or_none (IsAtControl control.signal) (ends_but_inputs f) (λ before e. dec_signal e.signal control.signal)
          (λ e. e.line) (λ e. control.name)

      by : (first : Option End) → slice_get (controls f) 0 ≡ first → IsDecidedKind f ControlUsed
      by None none = inr (λ line name h. let is = h.control_is in cc)
      by (Some control) is = elim (used control) [
        | inl found ↦ inl (found.0, found.1, record { control = control; control_is = is; at = found.2 })
        | inr none ↦ inr (λ line name h.
            let same : Some h.control ≡ Some control = sym h.control_is ∙ is in
            let one : h.control ≡ control = cc in
            none line name (subst (λ c. Used c line name) one h.at))
      ]

  pub kind_decided : (kind : FlatKind) → IsDecidedKind f kind
  kind_decided DuplicateModel = reported_or_none IsDuplicateModel f.models
      (λ before m. named (map (λ (b : BlifModelData). b.name) before) m.name) (λ m. m.line) (λ m. m.name)
  kind_decided DuplicatePort = reported_or_none IsDuplicatePort (ports f) (λ before p. twice p.list p.name) (λ p. p.line) (λ p. p.name)
  kind_decided UnknownModel = reported_or_none (IsUnknownModel f) (uses f)
      (λ before u. dec_not (named (map (λ (m : BlifModelData). m.name) f.models) u.instance.unit))
      (λ u. u.instance.line) (λ u. u.instance.unit)
  kind_decided BadFormal = reported_or_none IsBadFormal (formals f) bad_formal line_of_formal name_of_formal
  kind_decided Recursion = reported_or_none (IsRecursion f) (uses f) recursion (λ u. u.instance.line) (λ u. u.instance.unit)
  kind_decided DrivenTwice = reported_or_none (IsDrivenTwice f) (expanded f)
      (λ before part. signal_there (main_inputs f ++ map driven_end before) (driven_end part).signal)
      (λ part. (driven_end part).line) (λ part. (driven_end part).name)
  kind_decided Undriven = reported_or_none (IsUndriven f) (readers f)
      (λ before e. dec_not (signal_there (drivers f) e.signal)) (λ e. e.line) (λ e. e.name)
  kind_decided Cycle = reported_or_none (IsOnCycle f) (tables f)
      (λ before t. dec_reaches output_of inputs_of dec_signal (tables f) (output_of t) (output_of t))
      (λ t. t.table.line) (λ t. t.table.output)
  kind_decided TwoControls = reported_or_none IsOtherControl (clockings f) other_control (λ c. c.line) (λ c. c.output)
  kind_decided ControlUsed = control_used

  pub counts_decided :
      ((limit : Limit) × (count : ℕ) × IsCountReported f limit count) ⊎ ((limit : Limit) (count : ℕ) → IsCountReported f limit count → ⊥)
  counts_decided = elim (first_or_none IsTooMany (counts f) (λ before c. dec_less c.most c.count)) [
    | inl found ↦ inl (
      found.0.limit,
      min found.0.count (2 ^ 64 - 1),
      record { counted = found.0; first = found.1; limit_is = refl; count_is = refl },
    )
    | inr none ↦ inr (λ limit count r. none r.first.index r.counted r.first.there r.first.holds)
  ]

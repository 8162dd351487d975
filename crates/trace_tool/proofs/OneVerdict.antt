-- In an order that is a function a circuit has one verdict beside a network.
use Rattle.std.proofs.Common.{◌≡◌, ℕ, ◌+◌, inl, inr, Bool, List, [], ◌∷◌, drop, sym, ap, ◌∙◌, subst}
use Rattle.deck.specs.CircuitData.{CircuitData}
use Rattle.deck.specs.PortLayout.{first_output, first_pin}
use Rattle.deck.specs.Roles.{ports_of}
use Rattle.deck.specs.declared.role.Roles.{Roles}
use Rattle.network.specs.NetworkData.{NetworkData}
use Rattle.net_run.specs.Runs.{Cycle}
use Rattle.event_sim.specs.Orders.{By}
use Rattle.trace_tool.specs.Courses.{Course, IsCourse, Settled, State, Unsettled}
use Rattle.trace_tool.specs.Moves.{evaluation_by, latching_moves, power_moves}
use Rattle.trace_tool.specs.SetupData.{SetupData, silent}
use Rattle.trace_tool.specs.Traces.{outputs, power_state}
use Rattle.trace_tool.specs.Verdicts.{IsAfter, IsCycleVerdict, IsReadingVerdict, IsRunVerdict, IsVerdict, IsVerdictFrom, network_ports, pins_and_outputs}
use Rattle.trace_tool.specs.declared.verdict.Verdict.{Verdict}
use Rattle.trace_tool.specs.declared.verdict.Verdict.TheVariants as verdicts
use Rattle.trace_tool.proofs.ComparedCycles.{Latched}
use Rattle.trace_tool.proofs.FirstDifferences.{difference_is_one, difference_or_same}
use Rattle.trace_tool.proofs.OneCourse.{course_is_one}
use Rattle.trace_tool.proofs.WrongOutputs.{wrong_is_one, wrong_or_same}

-- what follows one course has one verdict, where that after it has
after_same : (cycle : ℕ) (c : Course) (Rest Rest' : Type 0) (a b : Verdict) → (Rest → Rest' → a ≡ b) → IsAfter cycle c Rest a → IsAfter cycle c Rest' b → a ≡ b
after_same cycle (Settled events) Rest Rest' a b one x y = one x y
after_same cycle (Unsettled events last) Rest Rest' a b one x y = x ∙ sym y

-- and so has a reading
read_same : (setup : SetupData) (cycle : ℕ) (wanted : List Bool) (read : State) (Rest Rest' : Type 0) (a b : Verdict) → (Rest → Rest' → a ≡ b)
    → IsReadingVerdict setup cycle wanted read Rest a → IsReadingVerdict setup cycle wanted read Rest' b → a ≡ b
read_same setup cycle wanted read Rest Rest' a b one (inl (pin, o, v, w, is)) (inl (pin', o', v', w', is')) =
    let same = wrong_is_one (drop (first_output setup.roles) (ports_of setup.circuit)) wanted (outputs setup.roles read.values) pin pin' o o' v v' w w' in
    is ∙ (λ i. verdicts.Differ cycle (same.0 i) (same.1 i) (same.2 i)) ∙ sym is'
read_same setup cycle wanted read Rest Rest' a b one (inl (pin, o, v, w, is)) (inr (all, more)) =
    absurd (wrong_or_same (drop (first_output setup.roles) (ports_of setup.circuit)) wanted (outputs setup.roles read.values) pin o v w all)
read_same setup cycle wanted read Rest Rest' a b one (inr (all, more)) (inl (pin, o, v, w, is)) =
    absurd (wrong_or_same (drop (first_output setup.roles) (ports_of setup.circuit)) wanted (outputs setup.roles read.values) pin o v w all)
read_same setup cycle wanted read Rest Rest' a b one (inr (all, more)) (inr (all', more')) = one more more'

-- the moves from a state have one course, and so one verdict
module _ (place : ℕ → ℕ → ℕ) (setup : SetupData) (cycle : ℕ) where
  course_same : (s : State) (moves : _) (Rest Rest' : State → Type 0) (a b : Verdict) (c d : Course) (t u : State)
      → ((r : State) → Rest r → Rest' r → a ≡ b)
      → IsCourse (By place) setup s moves c t → IsAfter cycle c (Rest t) a → IsCourse (By place) setup s moves d u → IsAfter cycle d (Rest' u) b → a ≡ b
  course_same s moves Rest Rest' a b c d t u one is x is' y =
      let same = course_is_one place setup s moves c d t u is is' in
      after_same cycle c (Rest t) (Rest' t) a b (one t) x
      (subst (λ (k : Course). IsAfter cycle k (Rest' t) b) (sym same.0) (subst (λ (r : State). IsAfter cycle d (Rest' r) b) (sym same.1) y))

  pub cycle_same : (s : State) (pins wanted : List Bool) (Follows Follows' : State → Type 0) (a b : Verdict)
      → ((r : State) → Follows r → Follows' r → a ≡ b)
      → IsCycleVerdict (By place) setup s cycle pins wanted Follows a → IsCycleVerdict (By place) setup s cycle pins wanted Follows' b → a ≡ b
  cycle_same s pins wanted Follows Follows' a b one (c, read, is, x) (d, read', is', y) =
      course_same s (evaluation_by setup.clocking setup.roles pins) (λ r. IsReadingVerdict setup cycle wanted r (Latched (By place) setup cycle a Follows r) a) (λ r. IsReadingVerdict setup cycle wanted r (Latched (By place) setup cycle b Follows' r) b) a b c d read read'
      (λ r p q. read_same setup cycle wanted r (Latched (By place) setup cycle a Follows r) (Latched (By place) setup cycle b Follows' r) a b
      (λ (k, last, k_is, v) (l, last', l_is, w). course_same r (latching_moves setup.roles) Follows Follows' a b k l last last' one k_is v l_is w) p q)
      is x is' y

from_same : (place : ℕ → ℕ → ℕ) (setup : SetupData) (s : State) (cycle : ℕ) (stream : List (List Bool)) (cycles : List Cycle) (a b : Verdict)
    → IsVerdictFrom (By place) setup s cycle stream cycles a → IsVerdictFrom (By place) setup s cycle stream cycles b → a ≡ b
from_same place setup s cycle [] [] a b x y = x ∙ sym y
from_same place setup s cycle [] (c ∷ cs) a b x y = absurd x
from_same place setup s cycle (p ∷ ps) [] a b x y = absurd x
from_same place setup s cycle (p ∷ ps) (c ∷ cs) a b x y =
    cycle_same place setup cycle s p c.outputs (λ last. IsVerdictFrom (By place) setup last (cycle + 1) ps cs a) (λ last. IsVerdictFrom (By place) setup last (cycle + 1) ps cs b) a b
    (λ last v w. from_same place setup last (cycle + 1) ps cs a b v w) x y

run_same : (place : ℕ → ℕ → ℕ) (setup : SetupData) (stream : List (List Bool)) (cycles : List Cycle) (a b : Verdict)
    → IsRunVerdict (By place) setup stream cycles a → IsRunVerdict (By place) setup stream cycles b → a ≡ b
run_same place setup stream cycles a b (c, start, is, x) (d, start', is', y) =
    course_same place setup 0 (power_state setup) (power_moves setup.roles)
    (λ s. IsVerdictFrom (By place) setup s 0 stream cycles a) (λ s. IsVerdictFrom (By place) setup s 0 stream cycles b) a b c d start start'
    (λ s v w. from_same place setup s 0 stream cycles a b v w) is x is' y

pub verdict_same : (place : ℕ → ℕ → ℕ) (n : NetworkData) (c : CircuitData) (roles : Roles) (stream : List (List Bool)) (cycles : List Cycle) (a b : Verdict)
    → IsVerdict (By place) n c roles stream cycles a → IsVerdict (By place) n c roles stream cycles b → a ≡ b
verdict_same place n c roles stream cycles a b (inl (i, d, is)) (inl (j, e, is')) =
    is ∙ ap (λ (k : ℕ). verdicts.PortsDiffer (first_pin roles + k)) (difference_is_one (network_ports n) (pins_and_outputs c roles) i j d e) ∙ sym is'
verdict_same place n c roles stream cycles a b (inl (i, d, is)) (inr (same, run)) = absurd (difference_or_same (network_ports n) (pins_and_outputs c roles) i d same)
verdict_same place n c roles stream cycles a b (inr (same, run)) (inl (i, d, is)) = absurd (difference_or_same (network_ports n) (pins_and_outputs c roles) i d same)
verdict_same place n c roles stream cycles a b (inr (same, run)) (inr (same', run')) = run_same place (silent c roles) stream cycles a b run run'

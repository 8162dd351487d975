-- A right deck of a text has the verdict that all is the same over each stimulus, and nothing is refused.
use Rattle.std.specs.List.{AllByRecursion}
use Rattle.std.proofs.Common.{◌≡◌, ℕ, zero, suc, ◌≤◌, Bool, List, [], ◌∷◌, length, refl, sym, subst, ap, ◌∙◌, arith, inl, inr}
use Rattle.std.proofs.lemmas.List.{length-take-le}
use Rattle.std.proofs.lemmas.List.Elements.{All-from_recursion}
use Rattle.deck.specs.CircuitData.{CircuitData}
use Rattle.deck.specs.Roles.{AreRoles, ports_of}
use Rattle.deck.specs.declared.role.Roles.{Roles}
use Rattle.deck.proofs.PortLayout.{AreRoles-same}
use Rattle.network.specs.NetworkData.{NetworkData}
use Rattle.network.specs.Networks.{IsNetwork}
use Rattle.net_run.specs.Runs.{Cycle, IsNetworkRun, IsNetworkRunFrom, start}
use Rattle.event_sim.specs.Orders.{By}
use Rattle.port_runs.specs.declared.clocking.Clocking.TheVariants.{Together}
use Rattle.trace_tool.specs.CosimRefusals.{HasNetworkOf, IsCosimRefused}
use Rattle.trace_tool.specs.Traces.{picked_place}
use Rattle.trace_tool.specs.Verdicts.{IsVerdict, IsVerdictOf, network_ports, pins_and_outputs}
use Rattle.trace_tool.specs.declared.fault.TraceFault.{TraceFault}
use Rattle.trace_tool.specs.declared.fault.TraceFault.TheVariants.{Blif, Flat, Deck, Ports, NoNet, Stim, Memory}
use Rattle.trace_tool.specs.declared.options.Order.{Order}
use Rattle.trace_tool.specs.declared.options.Order.TheVariants.{First}
use Rattle.trace_tool.specs.declared.verdict.Verdict.{Verdict}
use Rattle.trace_tool.proofs.NetworkTexts.{network_same}
use Rattle.trace_tool.proofs.OneVerdictOrCause.{verdict_is_one}
use Rattle.trace_tool.proofs.PortCounts.{counts_agree}
use Rattle.trace_tool.proofs.VerdictThere.{verdict_is_there}
use Rattle.deck_law.specs.Headline.{roles_of}
use Rattle.stim_text.specs.Stimuli.{IsStimulusOf}
use Rattle.verdict_law.specs.Laws.{IsRightTogether, IsSame, RealisedIsSame, RightDeckIsAccepted, RightDeckIsSame}
use Rattle.verdict_law.proofs.RightDecks.{are, is_network, ports_are, realises}
use Rattle.verdict_law.proofs.SameVerdicts.{none_differ, same_run}

-- the pins of each cycle of a run have the width
widths_from : (n : NetworkData) (state : List Bool) (stream : List (List Bool)) (cycles : List Cycle) → IsNetwork n → IsNetworkRunFrom n state stream cycles
    → AllByRecursion (λ pins. length pins ≡ n.inputs) stream
widths_from n state [] cycles is run = tt
widths_from n state (pins ∷ stream) [] is run = absurd run
widths_from n state (pins ∷ stream) (c ∷ cycles) is run =
    let v = (run.0).valuation in
    (sym (ap length v.inputs) ∙ length-take-le n.inputs (run.0).values (omega (arith, v.count, is.count)), widths_from n c.next stream cycles is run.1)

pub realised_is_same : RealisedIsSame
realised_is_same order network c roles stream cycles verdict is_network are ports realises run v = by roles.clocks are.in_order.some_clock refl v
  where
    by : (n : ℕ) → 1 ≤ n → roles.clocks ≡ n → IsVerdict (By order) network c roles stream cycles verdict → IsSame verdict (length stream)
    by zero some e v = absurd (omega (arith, some))
    by (suc more) some e (inl differ) = absurd (none_differ (network_ports network) (pins_and_outputs c roles) differ.0 (sym ports) differ.1)
    by (suc more) some e (inr same) =
        same_run order network c roles more verdict is_network e (sym (counts_agree c roles network are is_network ports).0) realises stream cycles (All-from_recursion (λ pins. length pins ≡ network.inputs) stream (widths_from network (start network) stream cycles is_network run)) run same.1

module _ (blif deck : List ℕ) (phases : ℕ) (right : IsRightTogether blif phases deck) where
  abbrev network : NetworkData
  network = right.network

  abbrev circuit : CircuitData
  circuit = right.circuit

  are_roles : AreRoles (ports_of circuit) (roles_of network phases)
  are_roles = are Together blif deck phases right

  right_same : (stim : List ℕ) (order : Order) (seed : ℕ) (verdict : Verdict) → (v : IsVerdictOf blif deck stim order seed verdict) → IsSame verdict (length v.stream)
  right_same stim order seed verdict v =
      realised_is_same (picked_place order seed) network circuit (roles_of network phases) v.stream v.cycles verdict
      (is_network Together blif deck phases right) are_roles (ports_are Together blif deck phases right)
      (realises Together network circuit (roles_of network phases) are_roles right.right)
      (subst (λ (n : NetworkData). IsNetworkRun n v.stream v.cycles) networks v.is_run)
      (subst (λ (r : Roles). IsVerdict (By (picked_place order seed)) network circuit r v.stream v.cycles verdict) roles
      (subst (λ (c : CircuitData). IsVerdict (By (picked_place order seed)) network c v.roles v.stream v.cycles verdict) circuits
      (subst (λ (n : NetworkData). IsVerdict (By (picked_place order seed)) n v.circuit v.roles v.stream v.cycles verdict) networks v.is_verdict)))
    where
      networks : v.network ≡ network
      networks = network_same blif v.network network v.has right.has

      circuits : v.circuit ≡ circuit
      circuits = right.no_other v.circuit v.is_deck

      roles : v.roles ≡ roles_of network phases
      roles = AreRoles-same (ports_of circuit) v.roles (roles_of network phases) (subst (λ (c : CircuitData). AreRoles (ports_of c) v.roles) circuits v.are_roles) are_roles

  -- it has a verdict over each stimulus
  pub some_verdict : (stim : List ℕ) (order : Order) (seed : ℕ) (stream : List (List Bool)) (n : NetworkData) → HasNetworkOf blif n → IsStimulusOf n.inputs stim stream
      → (verdict : Verdict) × IsVerdictOf blif deck stim order seed verdict
  some_verdict stim order seed stream n theirs stimulus =
      verdict_is_there blif deck stim order seed n circuit (roles_of network phases) stream theirs right.reads_back are_roles stimulus

pub right_deck_is_same : RightDeckIsSame
right_deck_is_same = λ blif deck stim phases order seed verdict right v. record {
  network = v.network;
  has = v.has;
  stream = v.stream;
  is_stimulus = v.is_stimulus;
  is_same = right_same blif deck phases right stim order seed verdict v;
}

refused_none : (blif deck stim : List ℕ) (verdict : Verdict) (why : TraceFault) → IsVerdictOf blif deck stim First 0 verdict → IsCosimRefused blif deck stim why → why ≡ Memory
refused_none blif deck stim verdict Memory v r = refl
refused_none blif deck stim verdict (Blif line kind) v r = absurd (verdict_is_one.apart blif deck stim First 0 verdict (Blif line kind) (λ e. cc) v r)
refused_none blif deck stim verdict (Flat fault) v r = absurd (verdict_is_one.apart blif deck stim First 0 verdict (Flat fault) (λ e. cc) v r)
refused_none blif deck stim verdict (Deck line kind) v r = absurd (verdict_is_one.apart blif deck stim First 0 verdict (Deck line kind) (λ e. cc) v r)
refused_none blif deck stim verdict (Ports place) v r = absurd (verdict_is_one.apart blif deck stim First 0 verdict (Ports place) (λ e. cc) v r)
refused_none blif deck stim verdict (NoNet name) v r = absurd r
refused_none blif deck stim verdict (Stim line kind) v r = absurd (verdict_is_one.apart blif deck stim First 0 verdict (Stim line kind) (λ e. cc) v r)

pub right_deck_is_accepted : RightDeckIsAccepted
right_deck_is_accepted = λ blif deck stim phases n stream why right theirs stimulus refused.
    let some = some_verdict blif deck phases right stim First 0 stream n theirs stimulus in
    refused_none blif deck stim some.0 why some.1 refused

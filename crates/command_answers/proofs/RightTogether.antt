-- By each method a right deck of a text is right where all clocks fall together, and one for clocks that overlap, or on one clock, where they
-- overlap.
use Rattle.std.proofs.Common.{◌≡◌, ◌⊎◌, ℕ, List, inl, inr, refl, subst, sym}
use Rattle.command_words.specs.declared.command.Method.{Method}
use Rattle.command_words.specs.declared.command.Method.TheVariants.{Compound, Exact, Plain, Skew}
use Rattle.deck_form.specs.declared.options.SynthOptions.{SynthOptions}
use Rattle.port_runs.specs.declared.clocking.Clocking.{Clocking}
use Rattle.port_runs.specs.declared.clocking.Clocking.TheVariants.{Overlapping, Together}
use Rattle.verdict_law.specs.Laws.{IsRightTogether, IsRightWhere, right_together}
use Rattle.verdict_law.proofs.OneClock.{one_clock_is_right}
use Rattle.command_answers.specs.RightDecks.{IsRightBy}

pub right_for : (bytes text : List ℕ) (options : SynthOptions) (method : Method) → IsRightBy method bytes options text → IsRightTogether bytes options.phases text
right_for bytes text options (Plain version) right = right_together right
right_for bytes text options Exact right = right_together right
right_for bytes text options Skew right = record {
  network = right.network;
  has = record { file = right.file; accepted = right.is_file; network_is = right.is_network };
  circuit = right.circuit;
  reads_back = right.reads_back;
  no_other = right.no_other;
  some_clock = (right.form).some_clock;
  few_clocks = (right.form).few_clocks;
  ports = right.ports;
  right = right.right_together;
}
right_for bytes text options Compound least =
    let right = least.right in
    record {
      network = right.network;
      has = record { file = right.file; accepted = right.is_file; network_is = right.is_network };
      circuit = right.circuit;
      reads_back = right.reads_back;
      no_other = right.no_other;
      some_clock = (right.is_deck).some_clock;
      few_clocks = (right.is_deck).few_clocks;
      ports = right.ports;
      right = right.right;
    }

-- and where they fall so, overlapping only where the deck is one whose clocks may, or has one clock
pub right_where : (clocking : Clocking) (bytes text : List ℕ) (options : SynthOptions) (method : Method)
    → (clocking ≡ Overlapping → (method ≡ Skew) ⊎ (options.phases ≡ 1)) → IsRightBy method bytes options text → IsRightWhere clocking bytes options.phases text
right_where Together bytes text options method suited right = right_for bytes text options method right
right_where Overlapping bytes text options method suited right = by method (suited refl) right
  where
    by : (method : Method) → (method ≡ Skew) ⊎ (options.phases ≡ 1) → IsRightBy method bytes options text → IsRightWhere Overlapping bytes options.phases text
    by method (inr one) right = subst (λ phases. IsRightWhere Overlapping bytes phases text) (sym one)
        (one_clock_is_right Overlapping bytes text (subst (λ phases. IsRightTogether bytes phases text) one (right_for bytes text options method right)))
    by (Plain version) (inl e) right = absurd cc
    by Exact (inl e) right = absurd cc
    by Skew (inl e) right = record {
      network = right.network;
      has = record { file = right.file; accepted = right.is_file; network_is = right.is_network };
      circuit = right.circuit;
      reads_back = right.reads_back;
      no_other = right.no_other;
      some_clock = (right.form).some_clock;
      few_clocks = (right.form).few_clocks;
      ports = right.ports;
      right = right.right;
    }
    by Compound (inl e) right = absurd cc

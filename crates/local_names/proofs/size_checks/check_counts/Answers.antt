use Rattle.std.proofs.Common.{◌≡◌, ℕ, min, refl, sym, subst}
use Rattle.graph_order.specs.WalkSums.{largest_u64}
use Rattle.blif_ast.specs.BlifFileData.{BlifFileData}
use Rattle.numbered_file.specs.Numbered.{file_of}
use Rattle.model_calls.specs.Counts.{instance_count, letter_count, signal_count, sink_count}
use Rattle.part_numbers.proofs.NetworkSizes.{too_many_instances, too_many_letters, too_many_signals, too_many_sinks, few_signals, none_too_many}
use Rattle.part_numbers.specs.NetworkSizes.{AreSizes, IsCountFault}
use Rattle.local_names.proofs.size_checks.check_counts.Goals as goal

-- the counts that were made, and those that come
up_to_signals : (f : BlifFileData) (a : ℕ) → a ≡ min (signal_count f) largest_u64
    → AreSizes f (record { signals = a; instances = min (instance_count f) largest_u64; letters = min (letter_count f) largest_u64; sinks = min (sink_count f) largest_u64 })
up_to_signals f a is = record { signals = is; instances = refl; letters = refl; sinks = refl }

up_to_instances : (f : BlifFileData) (a b : ℕ) → a ≡ min (signal_count f) largest_u64 → b ≡ min (instance_count f) largest_u64
    → AreSizes f (record { signals = a; instances = b; letters = min (letter_count f) largest_u64; sinks = min (sink_count f) largest_u64 })
up_to_instances f a b is also = record { signals = is; instances = also; letters = refl; sinks = refl }

up_to_letters : (f : BlifFileData) (a b c : ℕ) → a ≡ min (signal_count f) largest_u64 → b ≡ min (instance_count f) largest_u64
    → c ≡ min (letter_count f) largest_u64 → AreSizes f (record { signals = a; instances = b; letters = c; sinks = min (sink_count f) largest_u64 })
up_to_letters f a b c is also more = record { signals = is; instances = also; letters = more; sinks = refl }

up_to_sinks : (f : BlifFileData) (a b c d : ℕ) → a ≡ min (signal_count f) largest_u64 → b ≡ min (instance_count f) largest_u64
    → c ≡ min (letter_count f) largest_u64 → d ≡ min (sink_count f) largest_u64
    → AreSizes f (record { signals = a; instances = b; letters = c; sinks = d })
up_to_sinks f a b c d is also more last = record { signals = is; instances = also; letters = more; sinks = last }

pub returns-then-signals-gt-MOST_SIGNALS-clause-check : goal.returns-then-signals-gt-MOST_SIGNALS-clause-check
returns-then-signals-gt-MOST_SIGNALS-clause-check c = let f = file_of c.args.file.now in
    subst (IsCountFault f) (sym c.too_many.ensures)
    (too_many_signals (up_to_signals f c.in_ok-signals.signals c.in_ok-signals.ensures) c.if-signals-gt-MOST_SIGNALS.true)

pub returns-then-instances-gt-MOST_INSTANCES-clause-check : goal.returns-then-instances-gt-MOST_INSTANCES-clause-check
returns-then-instances-gt-MOST_INSTANCES-clause-check c = let f = file_of c.args.file.now in
    subst (IsCountFault f) (sym c.too_many-then-instances-gt-MOST_INSTANCES.ensures)
    (too_many_instances (up_to_instances f c.in_ok-signals.signals c.in_ok-instances.instances c.in_ok-signals.ensures c.in_ok-instances.ensures)
    c.if-signals-gt-MOST_SIGNALS.false c.if-instances-gt-MOST_INSTANCES.true)

pub returns-then-letters-gt-MOST_LETTERS-clause-check : goal.returns-then-letters-gt-MOST_LETTERS-clause-check
returns-then-letters-gt-MOST_LETTERS-clause-check c = let f = file_of c.args.file.now in
    subst (IsCountFault f) (sym c.too_many-then-letters-gt-MOST_LETTERS.ensures)
    (too_many_letters (up_to_letters f c.in_ok-signals.signals c.in_ok-instances.instances c.in_ok-letters.letters c.in_ok-signals.ensures
    c.in_ok-instances.ensures c.in_ok-letters.ensures)
    c.if-signals-gt-MOST_SIGNALS.false c.if-instances-gt-MOST_INSTANCES.false c.if-letters-gt-MOST_LETTERS.true)

pub returns-then-sinks-gt-MOST_SINKS-clause-check : goal.returns-then-sinks-gt-MOST_SINKS-clause-check
returns-then-sinks-gt-MOST_SINKS-clause-check c = let f = file_of c.args.file.now in
    subst (IsCountFault f) (sym c.too_many-then-sinks-gt-MOST_SINKS.ensures)
    (too_many_sinks (up_to_sinks f c.in_ok-signals.signals c.in_ok-instances.instances c.in_ok-letters.letters c.in_ok-sinks.sinks
    c.in_ok-signals.ensures c.in_ok-instances.ensures c.in_ok-letters.ensures c.in_ok-sinks.ensures)
    c.if-signals-gt-MOST_SIGNALS.false c.if-instances-gt-MOST_INSTANCES.false c.if-letters-gt-MOST_LETTERS.false
    c.if-sinks-gt-MOST_SINKS.true)

pub returns-clause-check : goal.returns-clause-check
returns-clause-check c = let f = file_of c.args.file.now in
    none_too_many (up_to_sinks f c.in_ok-signals.signals c.in_ok-instances.instances c.in_ok-letters.letters c.in_ok-sinks.sinks
    c.in_ok-signals.ensures c.in_ok-instances.ensures c.in_ok-letters.ensures c.in_ok-sinks.ensures)
    c.if-signals-gt-MOST_SIGNALS.false c.if-instances-gt-MOST_INSTANCES.false c.if-letters-gt-MOST_LETTERS.false c.if-sinks-gt-MOST_SINKS.false

pub returns-clause-few : goal.returns-clause-few
returns-clause-few c = few_signals (up_to_signals (file_of c.args.file.now) c.in_ok-signals.signals c.in_ok-signals.ensures) c.if-signals-gt-MOST_SIGNALS.false

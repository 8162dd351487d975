-- The first count of a file that is above its limit, by the counts in numbers of 64 bits.
use Rattle.std.proofs.Common.{◌≡◌, ℕ, ◌<◌, ◌≤◌, ◌-◌, ◌^◌, min, List, [], ◌∷◌, length, take, Some, refl, arith}
use Rattle.std.specs.Prelude.{slice_get}
use Rattle.std.specs.List.{AllByRecursion, sum_by}
use Rattle.std.proofs.lemmas.List.Sums.{sum_by-cons}
use Rattle.blif_ast.specs.BlifFileData.{BlifFileData}
use Rattle.dom_base.proofs.Lists.{AllByRecursion-contains, Contains-slice_get}
use Rattle.network.proofs.Lists.{get_take}
use Rattle.part_numbers.specs.declared.sizes.Sizes.{Sizes}
use Rattle.model_calls.specs.declared.fault.Limit.{Limit}
use Rattle.model_calls.specs.declared.fault.Limit.TheVariants.{Signals, Instances, Letters, Sinks}
use Rattle.model_calls.specs.Counts.{Counted, counts, instance_count, letter_count, signal_count, sink_count}
use Rattle.network.specs.Limits.{most_instances, most_letters, most_signals, most_sinks}
use Rattle.part_numbers.specs.NetworkSizes.{AreSizes, path_weights}
use Rattle.model_calls.specs.Occurrences.{occurrences}
use Rattle.model_calls.specs.Refusals.{IsCountReported}

-- each path counts once
sum_ones : {X : Type 0} (xs : List X) → sum_by (λ x. 1) xs ≡ length xs
sum_ones [] = refl
sum_ones (x ∷ xs) = omega (arith, sum_by-cons (λ x. 1) x xs, sum_ones xs)

pub paths_count_once : (f : BlifFileData) → path_weights Instances f ≡ instance_count f
paths_count_once f = sum_ones (occurrences f)

abbrev IsFew : Counted → Type 0
IsFew c = c.count ≤ c.most

few_at : (all : List Counted) → AllByRecursion IsFew all → (k : ℕ) (c : Counted) → slice_get all k ≡ Some c → c.count ≤ c.most
few_at all few k c at = AllByRecursion-contains IsFew all c few (Contains-slice_get all k c at)

abbrev signals_counted : BlifFileData → Counted
signals_counted f = record { limit = Signals; count = signal_count f; most = most_signals }

abbrev instances_counted : BlifFileData → Counted
instances_counted f = record { limit = Instances; count = instance_count f; most = most_instances }

abbrev letters_counted : BlifFileData → Counted
letters_counted f = record { limit = Letters; count = letter_count f; most = most_letters }

abbrev sinks_counted : BlifFileData → Counted
sinks_counted f = record { limit = Sinks; count = sink_count f; most = most_sinks }

-- the count at an index is above its limit, and none before it is
reported : (f : BlifFileData) (index : ℕ) (c : Counted) (shown : ℕ) → slice_get (counts f) index ≡ Some c
    → AllByRecursion IsFew (take index (counts f)) → c.most < 2 ^ 64 - 1
    → shown ≡ min c.count (2 ^ 64 - 1) → c.most < shown → IsCountReported f c.limit shown
reported f index c shown there few low is above = record {
  counted = c;
  first = record {
    index = index;
    there = there;
    holds = omega (arith, low, is, above);
    none_before = λ k other l at more. omega (arith, few_at (take index (counts f)) few k other (get_take (counts f) k index other l at), more);
  };
  limit_is = refl;
  count_is = is;
}

module _ {f : BlifFileData} {s : Sizes} (are : AreSizes f s) where
  pub few_signals : s.signals ≤ most_signals → signal_count f ≤ most_signals
  few_signals l = omega (arith, are.signals, l)

  few_instances : s.instances ≤ most_instances → instance_count f ≤ most_instances
  few_instances l = omega (arith, are.instances, l)

  few_letters : s.letters ≤ most_letters → letter_count f ≤ most_letters
  few_letters l = omega (arith, are.letters, l)

  few_sinks : s.sinks ≤ most_sinks → sink_count f ≤ most_sinks
  few_sinks l = omega (arith, are.sinks, l)

  pub too_many_signals : most_signals < s.signals → IsCountReported f Signals s.signals
  too_many_signals l = reported f 0 (signals_counted f) s.signals refl tt (omega arith) are.signals l

  pub too_many_instances : s.signals ≤ most_signals → most_instances < s.instances → IsCountReported f Instances s.instances
  too_many_instances a l =
      reported f 1 (instances_counted f) s.instances refl (few_signals a, tt) (omega arith) are.instances l

  pub too_many_letters : s.signals ≤ most_signals → s.instances ≤ most_instances → most_letters < s.letters → IsCountReported f Letters s.letters
  too_many_letters a b l =
      reported f 2 (letters_counted f) s.letters refl (few_signals a, (few_instances b, tt)) (omega arith) are.letters l

  pub too_many_sinks : s.signals ≤ most_signals → s.instances ≤ most_instances → s.letters ≤ most_letters → most_sinks < s.sinks
      → IsCountReported f Sinks s.sinks
  too_many_sinks a b c l =
      reported f 3 (sinks_counted f) s.sinks refl (few_signals a, (few_instances b, (few_letters c, tt))) (omega arith) are.sinks l

  pub none_too_many : s.signals ≤ most_signals → s.instances ≤ most_instances → s.letters ≤ most_letters → s.sinks ≤ most_sinks
      → (limit : Limit) (count : ℕ) → IsCountReported f limit count → ⊥
  none_too_many a b c d limit count r =
      let few = few_at (counts f) (few_signals a, (few_instances b, (few_letters c, (few_sinks d, tt))))
      r.first.index r.counted r.first.there in
      omega (arith, few, r.first.holds)

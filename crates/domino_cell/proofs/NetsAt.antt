-- Nets of gates that stand at the numbers which are held for them, in circuits that grow.
use Rattle.std.proofs.Common.{◌≡◌, ℕ, suc, zero, Option, Some, None, List, [], ◌∷◌, slice_get, refl, sym, ap, subst, ◌∙◌, inl, inr}
use Rattle.std.specs.Prelude.{◌⊎◌, slice_index_or, slice_set, replicate}
use Rattle.deck.specs.CircuitData.{CircuitData}
use Rattle.deck.specs.CircuitGrowth.{Grew}
use Rattle.deck.specs.Nets.{net_name}
use Rattle.deck.proofs.NetsAt.{StandsAt-grew, slice_get-grew}
use Rattle.domino_cell.specs.HeldNames.{StandInCircuit}
use Rattle.domino_cell.specs.NetsAt.{AreNumbersAt}
use Rattle.domino_cell.specs.declared.names.CellNetsAt.{CellNetsAt}

-- they stand there once a circuit grew
pub AreNumbersAt-grew : (old new : CircuitData) (names : List (List ℕ)) (numbers : List (Option ℕ)) → Grew old new
    → AreNumbersAt old.nets names numbers → AreNumbersAt new.nets names numbers
AreNumbersAt-grew old new names numbers grew are = record { at = λ gate n held. slice_get-grew old new n (net_name names gate) grew (are.at gate n held) }

-- and so do the nets of a cell
pub StandInCircuit-grew : (old new : CircuitData) (at : CellNetsAt) → Grew old new → StandInCircuit old.nets at → StandInCircuit new.nets at
StandInCircuit-grew old new at grew are = record {
  vdd = StandsAt-grew old new at.vdd.number at.vdd.name.now grew are.vdd;
  vss = StandsAt-grew old new at.vss.number at.vss.name.now grew are.vss;
  clock = StandsAt-grew old new at.clock.number at.clock.name.now grew are.clock;
  dynamic = StandsAt-grew old new at.dynamic.number at.dynamic.name.now grew are.dynamic;
  output = StandsAt-grew old new at.output.number at.output.name.now grew are.output;
  foot = StandsAt-grew old new at.foot.number at.foot.name.now grew are.foot;
}

-- what a list has at a place after one of its places was set
set_cases : {X : Type 0} (xs : List X) (i j : ℕ) (a d : X)
    → (slice_index_or (slice_set xs i a) j d ≡ slice_index_or xs j d) ⊎ ((j ≡ i) × (slice_index_or (slice_set xs i a) j d ≡ a))
set_cases [] i j a d = inl refl
set_cases (x ∷ xs) zero zero a d = inr (refl, refl)
set_cases (x ∷ xs) zero (suc j) a d = inl refl
set_cases (x ∷ xs) (suc i) zero a d = inl refl
set_cases (x ∷ xs) (suc i) (suc j) a d = elim (set_cases xs i j a d) [ inl same ↦ inl same | inr here ↦ inr (ap suc here.0, here.1) ]

-- the number of one more gate
pub AreNumbersAt-set : (nets names : List (List ℕ)) (numbers : List (Option ℕ)) (gate n : ℕ) → AreNumbersAt nets names numbers
    → slice_get nets n ≡ Some (net_name names gate) → AreNumbersAt nets names (slice_set numbers gate (Some n))
AreNumbersAt-set nets names numbers gate n are here = record { at = λ j m held. by j m held (set_cases numbers gate j (Some n) None) }
  where
    by : (j m : ℕ) → slice_index_or (slice_set numbers gate (Some n)) j None ≡ Some m
        → (slice_index_or (slice_set numbers gate (Some n)) j None ≡ slice_index_or numbers j None)
        ⊎ ((j ≡ gate) × (slice_index_or (slice_set numbers gate (Some n)) j None ≡ Some n)) → slice_get nets m ≡ Some (net_name names j)
    by j m held (inl same) = are.at j m (sym same ∙ held)
    by j m held (inr (is_gate, is_n)) =
        let same : n ≡ m = cc in
        sym (ap (slice_get nets) same) ∙ here ∙ ap (λ (g : ℕ). Some (net_name names g)) (sym is_gate)

-- where no number is held
abbrev nothing : Option ℕ
nothing = None

none_held : (n gate : ℕ) → slice_index_or (replicate n nothing) gate nothing ≡ nothing
none_held zero gate = refl
none_held (suc n) zero = refl
none_held (suc n) (suc gate) = none_held n gate

pub AreNumbersAt-none : (nets names : List (List ℕ)) (k : ℕ) → AreNumbersAt nets names (replicate k None)
AreNumbersAt-none nets names k = record { at = λ gate n held. let never : nothing ≡ Some n = sym (none_held k gate) ∙ held in absurd (cc) }

pub AreNumbersAt-empty : (nets names : List (List ℕ)) (numbers : List (Option ℕ)) → numbers ≡ [] → AreNumbersAt nets names numbers
AreNumbersAt-empty nets names numbers none = subst (AreNumbersAt nets names) (sym none) (AreNumbersAt-none nets names 0)

-- and where it is held for no gate
pub AreNumbersAt-unknown : (nets names : List (List ℕ)) (numbers : List (Option ℕ)) (k : ℕ) → numbers ≡ replicate k None
    → AreNumbersAt nets names numbers
AreNumbersAt-unknown nets names numbers k none = subst (AreNumbersAt nets names) (sym none) (AreNumbersAt-none nets names k)

pub ruleset no_numbers = (AreNumbersAt-empty, AreNumbersAt-unknown)

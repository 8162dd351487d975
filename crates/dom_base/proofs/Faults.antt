-- Faults of readers: the kind of the smallest number that passes a test, what follows where a text has one answer, and faults
-- of lines by the lines before them.
use Rattle.std.proofs.Common.{◌≡◌, ℕ, ◌≤◌, ◌<◌, ◌⊎◌, inl, inr, Bool, true, false, cond, List, [], ◌∷◌, Option, Some, None, refl, sym, ap, ◌∙◌, arith, subst, ◌+◌, ◌++◌, reverse, append-nil}
use Rattle.std.specs.List.{find}
use Rattle.std.proofs.lemmas.Bool.{true≢false}
use Rattle.dom_base.specs.Answers.{HasOneAnswer, IsFirstFault, IsOnlyRefusal}
use Rattle.dom_base.specs.FaultKinds.{IsAmong, IsSmallest, RisesAbove}
use Rattle.dom_base.specs.LineFaults.{FaultIn, FaultyLine, IsFirstIn, NumbersRise}
use Rattle.std.proofs.lemmas.List.{reverse-reverse}
use Rattle.dom_base.proofs.Lists.{reverse-onto}

module _ {Kind : Type 0} (number_of : Kind → ℕ) where
  above : (n : ℕ) (ks : List Kind) (kind : Kind) → RisesAbove number_of n ks → IsAmong kind ks → n < number_of kind
  above n [] kind rises among = absurd among
  above n (k ∷ ks) kind rises (inl is) = omega (arith, rises.0, ap number_of is)
  above n (k ∷ ks) kind rises (inr later) = omega (arith, rises.0, above (number_of k) ks kind rises.1 later)

  -- kinds of one number are the same
  pub number_of-injective : (n : ℕ) (ks : List Kind) (a b : Kind) → RisesAbove number_of n ks → IsAmong a ks → IsAmong b ks → number_of a ≡ number_of b → a ≡ b
  number_of-injective n [] a b rises x y e = absurd x
  number_of-injective n (k ∷ ks) a b rises (inl x) (inl y) e = x ∙ sym y
  number_of-injective n (k ∷ ks) a b rises (inl x) (inr y) e = absurd (omega (arith, e, ap number_of x, above (number_of k) ks b rises.1 y))
  number_of-injective n (k ∷ ks) a b rises (inr x) (inl y) e = absurd (omega (arith, e, ap number_of y, above (number_of k) ks a rises.1 x))
  number_of-injective n (k ∷ ks) a b rises (inr x) (inr y) e = number_of-injective (number_of k) ks a b rises.1 x y e

  -- what is found is the kind of the smallest number that passes a test, among these kinds
  abbrev Finds : (Kind → Bool) → List Kind → Option Kind → Type 0
  Finds test ks None = (kind : Kind) → IsAmong kind ks → test kind ≡ false
  Finds test ks (Some k) = (test k ≡ true) × ((kind : Kind) → IsAmong kind ks → test kind ≡ true → number_of k ≤ number_of kind)

  finds-behind : (test : Kind → Bool) (k : Kind) (ks : List Kind) (found : Option Kind) → test k ≡ false → Finds test ks found → Finds test (k ∷ ks) found
  finds-behind test k ks None fails finds = λ kind among. elim among as (λ _. test kind ≡ false) [ inl is ↦ ap test is ∙ fails | inr later ↦ finds kind later ]
  finds-behind test k ks (Some f) fails finds = (finds.0, λ kind among holds. elim among as (λ _. number_of f ≤ number_of kind) [ inl is ↦ absurd (true≢false (sym holds ∙ ap test is ∙ fails)) | inr later ↦ finds.1 kind later holds ])

  finds-cond : (n : ℕ) (test : Kind → Bool) (k : Kind) (ks : List Kind) (b : Bool) → test k ≡ b → RisesAbove number_of n (k ∷ ks) → Finds test ks (find test ks) → Finds test (k ∷ ks) (cond b (Some k) (find test ks))
  finds-cond n test k ks true is rises finds =
      (is, λ kind among holds. elim among as (λ _. number_of k ≤ number_of kind) [ inl same ↦ omega (arith, ap number_of same) | inr later ↦ omega (arith, above (number_of k) ks kind rises.1 later) ])
  finds-cond n test k ks false is rises finds = finds-behind test k ks (find test ks) is finds

  finds : (n : ℕ) (test : Kind → Bool) (ks : List Kind) → RisesAbove number_of n ks → Finds test ks (find test ks)
  finds n test [] rises = λ kind among. absurd among
  finds n test (k ∷ ks) rises = finds-cond n test k ks (test k) refl rises (finds (number_of k) test ks rises.1)

  of_all : (test : Kind → Bool) (ks : List Kind) → ((kind : Kind) → IsAmong kind ks) → (found : Option Kind) → Finds test ks found → IsSmallest number_of test found
  of_all test ks all None none = λ kind. none kind (all kind)
  of_all test ks all (Some k) least = (least.0, λ kind. least.1 kind (all kind))

  -- what is found in a list of all kinds
  pub smallest_found : (n : ℕ) (ks : List Kind) → RisesAbove number_of n ks → ((kind : Kind) → IsAmong kind ks) → (test : Kind → Bool) → IsSmallest number_of test (find test ks)
  smallest_found n ks rises all test = of_all test ks all (find test ks) (finds n test ks rises)

module _ {Kind : Type 0} (number_of : Kind → ℕ) (IsFault : ℕ → Kind → Type 0) where
  -- faults that are reported of one text stand at one line
  first_fault-line : (line line' : ℕ) (kind kind' : Kind) → IsFirstFault number_of IsFault line kind → IsFirstFault number_of IsFault line' kind' → line' ≡ line
  first_fault-line line line' kind kind' x y = omega (arith, x.first line' kind' y.fault, y.first line kind x.fault)

  -- and are of one kind, where each kind has a number of its own
  first_fault-kind : ((a b : Kind) → number_of a ≡ number_of b → a ≡ b)
      → (line line' : ℕ) (kind kind' : Kind) → IsFirstFault number_of IsFault line kind → IsFirstFault number_of IsFault line' kind' → kind' ≡ kind
  first_fault-kind injective line line' kind kind' x y =
      let same = first_fault-line line line' kind kind' x y in
      injective kind' kind (omega (
        arith,
        x.smallest kind' (subst (λ n. IsFault n kind') same y.fault),
        y.smallest kind (subst (λ n. IsFault n kind) (sym same) x.fault),
      ))

  -- the fault that is reported of a text that stands for nothing
  pub only_refusal : {Answer : Type 0} (IsAnswer : Answer → Type 0) → ((a b : Kind) → number_of a ≡ number_of b → a ≡ b)
      → (line : ℕ) (kind : Kind) → IsFirstFault number_of IsFault line kind → ((answer : Answer) → IsAnswer answer → ⊥)
      → IsOnlyRefusal IsAnswer (IsFirstFault number_of IsFault) line kind
  only_refusal IsAnswer injective line kind reported none = record {
    is_refused = reported;
    one_line = λ other any it. first_fault-line line other kind any reported it;
    one_kind = λ other any it. first_fault-kind injective line other kind any reported it;
    no_answer = none;
  }

module _ {Answer Kind : Type 0} (IsAnswer : Answer → Type 0) (IsFault IsRefused : ℕ → Kind → Type 0) where
  pub answer_same : HasOneAnswer IsAnswer IsFault IsRefused → (a b : Answer) → IsAnswer a → IsAnswer b → a ≡ b
  answer_same (inl (c, only)) a b x y = only.one_answer a x ∙ sym (only.one_answer b y)
  answer_same (inr (line, kind, only)) a b x y = absurd (only.no_answer a x)

  pub refusal_same : ((line : ℕ) (kind : Kind) → IsRefused line kind → IsFault line kind) → HasOneAnswer IsAnswer IsFault IsRefused
      → (line line' : ℕ) (kind kind' : Kind) → IsRefused line kind → IsRefused line' kind' → (line ≡ line') × (kind ≡ kind')
  refusal_same faulty (inl (c, only)) line line' kind kind' x y = absurd (only.no_fault line kind (faulty line kind x))
  refusal_same faulty (inr (at, any, only)) line line' kind kind' x y =
      (only.one_line line kind x ∙ sym (only.one_line line' kind' y), only.one_kind line kind x ∙ sym (only.one_kind line' kind' y))

  pub answer_or_refusal : ((line : ℕ) (kind : Kind) → IsRefused line kind → IsFault line kind) → HasOneAnswer IsAnswer IsFault IsRefused
      → (a : Answer) (line : ℕ) (kind : Kind) → IsAnswer a → IsRefused line kind → ⊥
  answer_or_refusal faulty (inl (c, only)) a line kind x y = only.no_fault line kind (faulty line kind y)
  answer_or_refusal faulty (inr (at, any, only)) a line kind x y = only.no_answer a x

-- numbers that rise from one on rise from a smaller one on
module _ {Line : Type 0} (number : Line → ℕ) where
  pub NumbersRise-lower : (n m : ℕ) (all : List Line) → m ≤ n → NumbersRise number n all → NumbersRise number m all
  NumbersRise-lower n m [] le h = tt
  NumbersRise-lower n m (line ∷ more) le h = (omega (arith, le, h.0), h.1)

module _ {Line Kind : Type 0} (number : Line → ℕ) (has_fault : Kind → List Line → Line → Bool) where
  walk : (xs before more : List Line) (n : ℕ) (kind : Kind) → FaultIn number has_fault (reverse xs ++ before) more n kind → FaultIn number has_fault before (xs ++ more) n kind
  walk [] before more n kind fault = fault
  walk (x ∷ xs) before more n kind fault = inr (walk xs (x ∷ before) more n kind (subst (λ b. FaultIn number has_fault b more n kind) (reverse-onto x xs before) fault))

  -- a fault of a line by the lines before it
  pub fault_in : (all before : List Line) (line : Line) (after : List Line) (n : ℕ) (kind : Kind)
      → all ≡ reverse before ++ line ∷ after → number line ≡ n → has_fault kind before line ≡ true → FaultIn number has_fault [] all n kind
  fault_in all before line after n kind is at fault =
      let here : FaultIn number has_fault before (line ∷ after) n kind = inl (at, fault) in
      let back : before ≡ reverse (reverse before) ++ [] = sym (append-nil (reverse (reverse before)) ∙ reverse-reverse before) in
      subst (λ l. FaultIn number has_fault [] l n kind) (sym is) (walk (reverse before) [] (line ∷ after) n kind (subst (λ b. FaultIn number has_fault b (line ∷ after) n kind) back here))

  faulty_behind : (all before rest : List Line) (n : ℕ) (kind : Kind) → all ≡ reverse before ++ rest → FaultIn number has_fault before rest n kind → FaultyLine number has_fault all n kind
  faulty_behind all before [] n kind is h = absurd h
  faulty_behind all before (line ∷ more) n kind is (inl here) = record { before = before; line = line; after = more; lines_are = is; number_is = here.0; fault = here.1 }
  faulty_behind all before (line ∷ more) n kind is (inr later) = faulty_behind all (line ∷ before) more n kind (is ∙ sym (reverse-onto line before more)) later

  pub faulty_line : (all : List Line) (n : ℕ) (kind : Kind) → FaultIn number has_fault [] all n kind → FaultyLine number has_fault all n kind
  faulty_line all n kind h = faulty_behind all [] all n kind refl h

  -- a fault stands at no smaller number than that from which the numbers rise
  pub rising-fault : (m : ℕ) (before all : List Line) (n : ℕ) (kind : Kind) → NumbersRise number m all → FaultIn number has_fault before all n kind → m ≤ n
  rising-fault m before [] n kind rising fault = absurd fault
  rising-fault m before (line ∷ more) n kind rising (inl here) = omega (arith, rising.0, here.0)
  rising-fault m before (line ∷ more) n kind rising (inr later) = omega (arith, rising.0, rising-fault (number line + 1) (line ∷ before) more n kind rising.1 later)

  -- a line without a fault is passed
  pub passed : (before : List Line) (line : Line) (more : List Line) → ((kind : Kind) → has_fault kind before line ≡ false) → (n : ℕ) (kind : Kind)
      → FaultIn number has_fault before (line ∷ more) n kind → FaultIn number has_fault (line ∷ before) more n kind
  passed before line more clean n kind (inl here) = absurd (true≢false (sym here.1 ∙ clean kind))
  passed before line more clean n kind (inr later) = later

  -- the first fault in some lines and the smallest kind there
  module _ (kind_number : Kind → ℕ) where
    -- some lines have no fault, or a first one, where of each line's faults the smallest kind is found
    pub first_in : ((before : List Line) (line : Line) → (found : Option Kind) × IsSmallest kind_number (λ kind. has_fault kind before line) found)
        → (n : ℕ) (before all : List Line) → NumbersRise number n all → ((m : ℕ) (kind : Kind) → FaultIn number has_fault before all m kind → ⊥) ⊎ IsFirstIn number has_fault kind_number before all
    first_in search n before [] rises = inl (λ m kind h. h)
    first_in search n before (line ∷ more) rises = by (search before line).0 (search before line).1 (first_in search (number line + 1) (line ∷ before) more rises.1)
      where
        here_first : (other : ℕ) (any : Kind) → FaultIn number has_fault before (line ∷ more) other any → number line ≤ other
        here_first other any (inl here) = omega (arith, here.0)
        here_first other any (inr later) = omega (arith, rising-fault (number line + 1) (line ∷ before) more other any rises.1 later)

        here_smallest : (kind : Kind) → ((other : Kind) → has_fault other before line ≡ true → kind_number kind ≤ kind_number other) → (other : Kind)
            → FaultIn number has_fault before (line ∷ more) (number line) other → kind_number kind ≤ kind_number other
        here_smallest kind least other (inl here) = least other here.1
        here_smallest kind least other (inr later) = absurd (omega (arith, rising-fault (number line + 1) (line ∷ before) more (number line) other rises.1 later))

        behind : ((kind : Kind) → has_fault kind before line ≡ false) → (m : ℕ) (kind : Kind) → FaultIn number has_fault before (line ∷ more) m kind → FaultIn number has_fault (line ∷ before) more m kind
        behind none m kind f = passed before line more none m kind f

        by : (found : Option Kind) → IsSmallest kind_number (λ kind. has_fault kind before line) found
            → ((m : ℕ) (kind : Kind) → FaultIn number has_fault (line ∷ before) more m kind → ⊥) ⊎ IsFirstIn number has_fault kind_number (line ∷ before) more
            → ((m : ℕ) (kind : Kind) → FaultIn number has_fault before (line ∷ more) m kind → ⊥) ⊎ IsFirstIn number has_fault kind_number before (line ∷ more)
        by (Some kind) least rest = inr (record {
          line_number = number line;
          kind = kind;
          fault = inl (refl, least.0);
          first = here_first;
          smallest = here_smallest kind least.1;
        })
        by None none (inl rest) = inl (λ m kind f. rest m kind (behind none m kind f))
        by None none (inr found) = inr (record {
          line_number = found.line_number;
          kind = found.kind;
          fault = inr found.fault;
          first = λ other any f. found.first other any (behind none other any f);
          smallest = λ other f. found.smallest other (behind none found.line_number other f);
        })

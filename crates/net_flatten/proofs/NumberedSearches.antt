-- Searches over the numbers of a file, as far as they have come.
use Rattle.std.proofs.Common.{◌≡◌, ℕ, ◌<◌, ◌≤◌, ◌+◌, ◌⊎◌, inl, inr, Bool, true, false, List, [], ◌∷◌, ◌++◌, append_assoc, append-nil, length, map, take, set, Some, ap, sym, ◌∙◌, subst, arith}
use Rattle.std.specs.Prelude.{slice_get}
use Rattle.std.proofs.lemmas.Bool.{cases_lt}
use Rattle.std.proofs.lemmas.List.{take_all}
use Rattle.std.proofs.lemmas.Option.{slice_get_within}
use Rattle.dom_base.proofs.Lists.{map-push}
use Rattle.net_flatten.specs.DriverSearches.{IsSetOfDrivers}
use Rattle.model_calls.specs.FirstFaults.{NoneHolds}
use Rattle.net_flatten.specs.FoundFirst.{IsFirstAt}
use Rattle.model_calls.specs.NumberSets.{IsSetOf}
use Rattle.part_numbers.specs.NumberedFaults.{IsDrivenAgain, driven_by}
use Rattle.part_numbers.specs.NumberedFiles.{NumberedPartData}
use Rattle.network.proofs.IndexedLists.{take_next}
use Rattle.model_calls.proofs.NumberSets.{set_with}

-- this holds of no element before an index
abbrev pub HoldsOfNoneBefore : {Element : Type 0} → (List Element → Element → Type 0) → List Element → ℕ → Type 0
HoldsOfNoneBefore {Element} Holds all index = (k : ℕ) (e : Element) → k < index → slice_get all k ≡ Some e → Holds (take k all) e → ⊥

module _ {Element : Type 0} (Holds : List Element → Element → Type 0) (all : List Element) where
  pub none_at_start : HoldsOfNoneBefore Holds all 0
  none_at_start k e l there h = omega (arith, l)

  pub none_at_next : (index : ℕ) (x : Element) → slice_get all index ≡ Some x → (Holds (take index all) x → ⊥) → HoldsOfNoneBefore Holds all index → HoldsOfNoneBefore Holds all (index + 1)
  none_at_next index x at not none k e l there h = by (cases_lt k index)
    where
      by : (k < index) ⊎ (index ≤ k) → ⊥
      by (inl before) = none k e before there h
      by (inr past) =
          let is : k ≡ index = omega (arith, l, past) in
          let i : Some e ≡ Some x = sym there ∙ ap (slice_get all) is ∙ at in
          let same : e ≡ x = cc in
          not (subst (λ y. Holds (take index all) y) same (subst (λ n. Holds (take n all) e) is h))

  pub none_at_end : HoldsOfNoneBefore Holds all (length all) → NoneHolds Holds all
  none_at_end none k e there h = none k e (slice_get_within all k e there) there h

  pub first_at : (index : ℕ) (x : Element) → slice_get all index ≡ Some x → Holds (take index all) x → HoldsOfNoneBefore Holds all index → IsFirstAt Holds all index
  first_at index x at holds none = record { element = x; there = at; holds = holds; none_before = none }

-- the parts before an index drive each signal once, and this is the set of what is driven
pub record AreOnceSoFar (signals : ℕ) (inputs : List ℕ) (parts : List NumberedPartData) (index : ℕ) (marks : List Bool) : Type 0 where
  pub none : HoldsOfNoneBefore (IsDrivenAgain inputs) parts index
  pub all : IsSetOf signals (driven_by inputs (take index parts)) marks

module _ (signals : ℕ) (inputs : List ℕ) (parts : List NumberedPartData) where
  abbrev drives : NumberedPartData → ℕ
  drives p = p.drives

  pub once_at_start : (marks : List Bool) → IsSetOf signals inputs marks → AreOnceSoFar signals inputs parts 0 marks
  once_at_start marks s = record {
    none = none_at_start (IsDrivenAgain inputs) parts;
    all = subst (λ l. IsSetOf signals l marks) (sym (append-nil inputs)) s;
  }

  driven_next : (index : ℕ) (p : NumberedPartData) → slice_get parts index ≡ Some p → driven_by inputs (take (index + 1) parts) ≡ driven_by inputs (take index parts) ++ p.drives ∷ []
  driven_next index p at =
      ap (λ l. inputs ++ map drives l) (take_next parts index p at)
      ∙ ap (λ l. inputs ++ l) (map-push drives (take index parts) p) ∙ sym (append_assoc inputs (map drives (take index parts)) (p.drives ∷ []))

  pub once_at_next : (index : ℕ) (p : NumberedPartData) (marks : List Bool) → slice_get parts index ≡ Some p → slice_get marks p.drives ≡ Some false
      → AreOnceSoFar signals inputs parts index marks → AreOnceSoFar signals inputs parts (index + 1) (set marks p.drives true)
  once_at_next index p marks at unmarked s = record {
    none = none_at_next (IsDrivenAgain inputs) parts index p at (s.all.unmarked p.drives unmarked) s.none;
    all = subst (λ l. IsSetOf signals l (set marks p.drives true)) (sym (driven_next index p at)) (set_with signals (driven_by inputs (take index parts)) marks p.drives s.all);
  }

  pub once_at_end : (marks : List Bool) (k : ℕ) → length parts ≡ k → AreOnceSoFar signals inputs parts k marks → IsSetOfDrivers signals inputs parts marks
  once_at_end marks k e s = record {
    none = none_at_end (IsDrivenAgain inputs) parts (subst (HoldsOfNoneBefore (IsDrivenAgain inputs) parts) (sym e) s.none);
    all = subst (λ l. IsSetOf signals (driven_by inputs l) marks) (take_all k parts (omega (arith, e))) s.all;
  }

  pub twice_at : (index : ℕ) (p : NumberedPartData) (marks : List Bool) → slice_get parts index ≡ Some p → slice_get marks p.drives ≡ Some true
      → AreOnceSoFar signals inputs parts index marks → IsFirstAt (IsDrivenAgain inputs) parts index
  twice_at index p marks at marked s = first_at (IsDrivenAgain inputs) parts index p at (s.all.marked p.drives marked) s.none

-- this holds of no number that the parts before an index read
abbrev pub ReadsHoldOfNoneBefore : (List ℕ → ℕ → Type 0) → List NumberedPartData → ℕ → Type 0
ReadsHoldOfNoneBefore Holds parts index = (k : ℕ) (p : NumberedPartData) → k < index → slice_get parts k ≡ Some p → NoneHolds Holds p.reads

pub reads_at_next : (Holds : List ℕ → ℕ → Type 0) (parts : List NumberedPartData) (index : ℕ) (p : NumberedPartData) → slice_get parts index ≡ Some p → NoneHolds Holds p.reads
    → ReadsHoldOfNoneBefore Holds parts index → ReadsHoldOfNoneBefore Holds parts (index + 1)
reads_at_next Holds parts index p at new none k q l there = by (cases_lt k index)
  where
    by : (k < index) ⊎ (index ≤ k) → NoneHolds Holds q.reads
    by (inl before) = none k q before there
    by (inr past) =
        let is : k ≡ index = omega (arith, l, past) in
        let i : Some q ≡ Some p = sym there ∙ ap (slice_get parts) is ∙ at in
        let same : p ≡ q = cc in
        subst (λ (r : NumberedPartData). NoneHolds Holds r.reads) same new

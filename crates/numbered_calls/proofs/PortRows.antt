-- What the marks of the ports of all models say, before and after an instance is looked at.
use Rattle.std.proofs.Common.{◌≡◌, ℕ, ◌+◌, ◌<◌, ◌⊎◌, inl, inr, List, [], ◌∷◌, ◌++◌, length, refl, ap, sym, ◌∙◌, subst, arith}
use Rattle.std.specs.Prelude.{Some, slice_get, slice_set}
use Rattle.std.proofs.lemmas.Bool.{cases_eq}
use Rattle.std.proofs.lemmas.List.{length-append, length-set}
use Rattle.numbered_file.specs.NumberedData.{NumberedData}
use Rattle.dom_base.proofs.Lists.{slice_get-push_cases}
use Rattle.network.proofs.IndexedLists.{get_set}
use Rattle.local_names.specs.LocalNames.{IsInstance, LocalNamesData, names_in}
use Rattle.numbered_calls.specs.BoundFormals.{AreBoundBelow, HavePortMarks, HavePortTwice, IsBoundAt, inputs_in, outputs_in}
use Rattle.numbered_calls.specs.PortMarks.{ArePortMarks, ArePorts, AreTwice}

-- marks of the first models
pub record HaveFirstPortMarks (d : NumberedData) (l : LocalNamesData) (marks : List (List ℕ)) (n : ℕ) : Type 0 where
  pub count : length marks ≡ n
  pub names : (m : ℕ) (row : List ℕ) → slice_get marks m ≡ Some row → length row ≡ length (names_in l m)
  pub ports : (m : ℕ) (row : List ℕ) → slice_get marks m ≡ Some row → ArePorts (inputs_in d l m) (outputs_in d l m) 3 row

pub no_ports : (d : NumberedData) (l : LocalNamesData) → HaveFirstPortMarks d l [] 0
no_ports d l = record { count = refl; names = λ m row e. absurd cc; ports = λ m row e. absurd cc }

pub next_ports : (d : NumberedData) (l : LocalNamesData) (marks : List (List ℕ)) (n : ℕ) (row : List ℕ) → HaveFirstPortMarks d l marks n → length row ≡ length (names_in l n)
    → ArePorts (inputs_in d l n) (outputs_in d l n) 3 row → HaveFirstPortMarks d l (marks ++ row ∷ []) (n + 1)
next_ports d l marks n row h all one = record {
  count = length-append marks (row ∷ []) ∙ ap (λ k. k + 1) h.count;
  names = λ m r e. elim (slice_get-push_cases marks row m r e) [
    | inl old ↦ h.names m r old
    | inr p ↦ subst (λ r. length r ≡ length (names_in l m)) p.1 (subst (λ k. length row ≡ length (names_in l k)) (sym (p.0 ∙ h.count)) all)
  ];
  ports = λ m r e. elim (slice_get-push_cases marks row m r e) [
    | inl old ↦ h.ports m r old
    | inr p ↦ subst (ArePorts (inputs_in d l m) (outputs_in d l m) 3) p.1 (subst (λ k. ArePorts (inputs_in d l k) (outputs_in d l k) 3 row) (sym (p.0 ∙ h.count)) one)
  ];
}

-- a model has a port twice
pub port_twice_at : (d : NumberedData) (l : LocalNamesData) (m count : ℕ) (inputs outputs : List ℕ) → m < length d.models → count ≡ length (names_in l m)
    → inputs ≡ inputs_in d l m → outputs ≡ outputs_in d l m → AreTwice count inputs ⊎ AreTwice count outputs → HavePortTwice d l
port_twice_at d l m count inputs outputs within count_is inputs_are outputs_are h = record {
  model = m;
  within = within;
  twice = elim h [
    | inl i ↦ inl (subst (λ n. AreTwice n (inputs_in d l m)) count_is (subst (AreTwice count) inputs_are i))
    | inr o ↦ inr (subst (λ n. AreTwice n (outputs_in d l m)) count_is (subst (AreTwice count) outputs_are o))
  ];
}

pub all_ports : (d : NumberedData) (l : LocalNamesData) (marks : List (List ℕ)) (n : ℕ) → n ≡ length d.models → HaveFirstPortMarks d l marks n → HavePortMarks d l 3 marks
all_ports d l marks n all h = record { count = h.count ∙ all; names = h.names; ports = h.ports }

wider : (ports : List ℕ) (bound : ℕ) (row : List ℕ) → ArePortMarks ports bound row → ArePortMarks ports (bound + 1) row
wider ports bound row h k mark e = let w = h k mark e in (omega (arith, w.0), w.1)

pub ports_wider : (d : NumberedData) (l : LocalNamesData) (bound : ℕ) (marks : List (List ℕ)) → HavePortMarks d l bound marks → HavePortMarks d l (bound + 1) marks
ports_wider d l bound marks h = record {
  count = h.count;
  names = h.names;
  ports = λ m row e. let p = h.ports m row e in record {
    inputs_differ = p.inputs_differ;
    outputs_differ = p.outputs_differ;
    marks_are = wider (inputs_in d l m ++ outputs_in d l m) bound row p.marks_are;
  };
}

pub ports_after : (d : NumberedData) (l : LocalNamesData) (bound : ℕ) (marks : List (List ℕ)) (unit : ℕ) (before after : List ℕ) → HavePortMarks d l bound marks
    → slice_get marks unit ≡ Some before → length after ≡ length before → ((ports : List ℕ) → ArePortMarks ports bound before → ArePortMarks ports (bound + 1) after) → HavePortMarks d l (bound + 1) (slice_set marks unit after)
ports_after d l bound marks unit before after h there size kept = record { count = length-set marks unit after ∙ h.count; names = names; ports = ports }
  where
    names : (m : ℕ) (row : List ℕ) → slice_get (slice_set marks unit after) m ≡ Some row → length row ≡ length (names_in l m)
    names m row e = elim (get_set marks unit m after row e) [
      | inl p ↦ subst (λ r. length r ≡ length (names_in l m)) p.1 (subst (λ k. length after ≡ length (names_in l k)) (sym p.0) (size ∙ h.names unit before there))
      | inr p ↦ h.names m row p.1
    ]

    set_row : ArePorts (inputs_in d l unit) (outputs_in d l unit) (bound + 1) after
    set_row = let p = h.ports unit before there in record {
      inputs_differ = p.inputs_differ;
      outputs_differ = p.outputs_differ;
      marks_are = kept (inputs_in d l unit ++ outputs_in d l unit) p.marks_are;
    }

    ports : (m : ℕ) (row : List ℕ) → slice_get (slice_set marks unit after) m ≡ Some row → ArePorts (inputs_in d l m) (outputs_in d l m) (bound + 1) row
    ports m row e = elim (get_set marks unit m after row e) [
      | inl p ↦ subst (ArePorts (inputs_in d l m) (outputs_in d l m) (bound + 1)) p.1 (subst (λ k. ArePorts (inputs_in d l k) (outputs_in d l k) (bound + 1) after) (sym p.0) set_row)
      | inr p ↦ (ports_wider d l bound marks h).ports m row p.1
    ]

-- instances that are looked at one by one
pub none_bound : (d : NumberedData) (l : LocalNamesData) (units : List ℕ) → AreBoundBelow d l units 0
none_bound d l units k unit less = absurd (omega (arith, less))

pub next_bound : (d : NumberedData) (l : LocalNamesData) (units : List ℕ) (n : ℕ) → AreBoundBelow d l units n
    → ((unit : ℕ) → slice_get units n ≡ Some unit → IsInstance d n → IsBoundAt d l unit n) → AreBoundBelow d l units (n + 1)
next_bound d l units n h one k unit less e is = elim (cases_eq k n) [
  | inl same ↦ subst (λ i. IsBoundAt d l unit i) (sym same) (one unit (subst (λ i. slice_get units i ≡ Some unit) same e) (subst (IsInstance d) same is))
  | inr other ↦ h k unit (omega (arith, less, other)) e is
]

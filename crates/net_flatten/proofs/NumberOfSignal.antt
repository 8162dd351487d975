-- A test whether two signals are equal, and the number of a signal in a list of signals that all differ.
use Rattle.std.proofs.Common.{◌≡◌, ℕ, ◌<◌, Bool, true, false, List, length, Some, refl, ap, sym, ◌∙◌, arith}
use Rattle.std.specs.Prelude.{◌&&◌, nat_eq, slice_get, slice_index_or}
use Rattle.std.specs.Bool.{Decides}
use Rattle.std.specs.Cmp.Lexicographic.{pointwise, pointwise_decides, bytes_decides}
use Rattle.std.specs.List.{position_or_len}
use Rattle.std.proofs.lemmas.Bool.Decides.{Decides-and, Decides-eqb, Decides-like}
use Rattle.std.proofs.lemmas.List.Sums.{position_or_len_is}
use Rattle.std.proofs.lemmas.Option.{get_or_from_slice_get, slice_get-get_or, slice_get_within}
use Rattle.blif_ast.specs.Cards.{same}
use Rattle.blif_ast.specs.declared.instance.Binding.{Binding}
use Rattle.blif_ast.specs.InstanceData.{InstanceData}
use Rattle.model_calls.specs.Signals.{Signal}

abbrev same_binding : Binding → Binding → Bool
same_binding a b = same a.formal b.formal && same a.actual b.actual

binding_decides : (a b : Binding) → Decides (same_binding a b) (a ≡ b)
binding_decides a b = Decides-like (same_binding a b)
    (λ h i. record { formal = h.0 i; actual = h.1 i })
    (λ e. (ap (λ (c : Binding). c.formal) e, ap (λ (c : Binding). c.actual) e))
    (Decides-and (same a.formal b.formal) (same a.actual b.actual) (bytes_decides a.formal b.formal) (bytes_decides a.actual b.actual))

abbrev same_instance : InstanceData → InstanceData → Bool
same_instance a b = nat_eq a.line b.line && (same a.unit b.unit && pointwise same_binding a.bindings b.bindings)

instance_decides : (a b : InstanceData) → Decides (same_instance a b) (a ≡ b)
instance_decides a b = Decides-like (same_instance a b)
    (λ h i. record { unit = h.1.0 i; bindings = h.1.1 i; line = h.0 i })
    (λ e. (ap (λ (c : InstanceData). c.line) e, (ap (λ (c : InstanceData). c.unit) e, ap (λ (c : InstanceData). c.bindings) e)))
    (Decides-and (nat_eq a.line b.line) (same a.unit b.unit && pointwise same_binding a.bindings b.bindings) (Decides-eqb a.line b.line)
    (Decides-and (same a.unit b.unit) (pointwise same_binding a.bindings b.bindings) (bytes_decides a.unit b.unit) (pointwise_decides binding_decides a.bindings b.bindings)))

abbrev same_signal : Signal → Signal → Bool
same_signal a b = pointwise same_instance a.path b.path && same a.name b.name

signal_decides : (a b : Signal) → Decides (same_signal a b) (a ≡ b)
signal_decides a b = Decides-like (same_signal a b)
    (λ h i. record { path = h.0 i; name = h.1 i })
    (λ e. (ap (λ (c : Signal). c.path) e, ap (λ (c : Signal). c.name) e))
    (Decides-and (pointwise same_instance a.path b.path) (same a.name b.name) (pointwise_decides instance_decides a.path b.path) (bytes_decides a.name b.name))

-- the first index at which a signal stands in a list
abbrev pub number_of : List Signal → Signal → ℕ
number_of signals s = position_or_len (same_signal s) signals

-- a signal of a list of signals that all differ has its index as its number
module _ (signals : List Signal) (apart : (j k : ℕ) (s : Signal) → slice_get signals j ≡ Some s → slice_get signals k ≡ Some s → j ≡ k) where
  pub number_is : (k : ℕ) (s : Signal) → slice_get signals k ≡ Some s → number_of signals s ≡ k
  number_is k s at = position_or_len_is (same_signal s) signals k s (omega (arith, within)) others (λ l. (signal_decides s (slice_index_or signals k s)).1 (sym (get_or_from_slice_get signals k s s at)))
    where
      within : k < length signals
      within = slice_get_within signals k s at

      others : (j : ℕ) → j < k → same_signal s (slice_index_or signals j s) ≡ false
      others j l = by (same_signal s (slice_index_or signals j s)) refl
        where
          by : (b : Bool) → same_signal s (slice_index_or signals j s) ≡ b → same_signal s (slice_index_or signals j s) ≡ false
          by false e = e
          by true e =
              let is : s ≡ slice_index_or signals j s = (signal_decides s (slice_index_or signals j s)).0 e in
              let same_index = apart j k s (slice_get-get_or signals j s (omega (arith, l, within)) ∙ ap Some (sym is)) at in
              absurd (omega (arith, same_index, l))

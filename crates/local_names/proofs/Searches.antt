-- Where a number stands first in a list.
use Rattle.std.proofs.Common.{◌≡◌, ℕ, ◌≤◌, ◌<◌, ◌+◌, inl, inr, List, length, Some, ap, sym, ◌∙◌, arith}
use Rattle.std.specs.Prelude.{Contains, slice_get}
use Rattle.std.proofs.lemmas.Bool.{cases_eq}
use Rattle.std.proofs.lemmas.Option.{slice_get_within}
use Rattle.dom_base.proofs.Lists.{slice_get-contained}

-- a number stands at no index before this one
abbrev pub IsNotBefore : List ℕ → ℕ → ℕ → Type 0
IsNotBefore numbers number index = (k : ℕ) → k < index → slice_get numbers k ≡ Some number → ⊥

pub not_before-next : (numbers : List ℕ) (number index other : ℕ) → IsNotBefore numbers number index → slice_get numbers index ≡ Some other
    → (other ≡ number → ⊥) → IsNotBefore numbers number (index + 1)
not_before-next numbers number index other before at apart k l there = elim (cases_eq k index) [
  | inl same ↦ apart (let e : Some other ≡ Some number = sym at ∙ ap (slice_get numbers) (sym same) ∙ there in cc)
  | inr different ↦ before k (omega (arith, l, different)) there
]

pub not_contained : (numbers : List ℕ) (number index : ℕ) → IsNotBefore numbers number index → length numbers ≤ index → Contains numbers number → ⊥
not_contained numbers number index before all c =
    let k = slice_get-contained numbers number c in before k.0 (omega (arith, all, slice_get_within numbers k.0 number k.1)) k.1

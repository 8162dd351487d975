-- What a shelf was asked for.
use Rattle.std.specs.Prelude.{ℕ, ◌≡◌, ◌++◌, List, Option, None, Some}

-- a name that a shelf was asked for, and how many bytes it gave; none where it gave nothing
abbrev pub Asking : Type 0
Asking = List ℕ × Option ℕ

-- what a shelf was asked for, in order, before and now: this came at its end; a shelf tells it always or never
abbrev pub HasAsked : Option (List Asking) → Option (List Asking) → List Asking → Type 0
HasAsked None None more = Unit {0}
HasAsked None (Some now) more = ⊥
HasAsked (Some before) None more = ⊥
HasAsked (Some before) (Some now) more = now ≡ before ++ more

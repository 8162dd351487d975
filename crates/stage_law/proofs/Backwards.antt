-- Paths from their ends.
use Rattle.std.specs.List.{AllByRecursion}
use Rattle.std.proofs.Common.{Bool, List, [], inl, inr, ℕ, ◌++◌, ◌∷◌}
use Rattle.dom_base.proofs.Lists.{AllByRecursion-append, AllByRecursion-left, AllByRecursion-right}
use Rattle.deck.specs.Paths.{IsWeak, Path, more, one}
use Rattle.deck.specs.declared.device.Device.{Device}
use Rattle.switch_model.proofs.Joined.{IsWeak-append, Path-append}
use Rattle.stage_law.proofs.Between.{Ends-swap}

-- a list from its end
pub backwards : List Device → List Device
backwards [] = []
backwards (d ∷ ds) = backwards ds ++ d ∷ []

pub AllByRecursion-backwards : (F : Device → Type 0) (ds : List Device) → AllByRecursion F ds → AllByRecursion F (backwards ds)
unfolding backwards
AllByRecursion-backwards F [] h = tt
AllByRecursion-backwards F (d ∷ ds) h = AllByRecursion-append F (backwards ds) (d ∷ []) (AllByRecursion-backwards F ds h.1) (h.0, tt)

pub AllByRecursion-forwards : (F : Device → Type 0) (ds : List Device) → AllByRecursion F (backwards ds) → AllByRecursion F ds
unfolding backwards
AllByRecursion-forwards F [] h = tt
AllByRecursion-forwards F (d ∷ ds) h =
    ((AllByRecursion-right F (backwards ds) (d ∷ []) h).0, AllByRecursion-forwards F ds (AllByRecursion-left F (backwards ds) (d ∷ []) h))

IsWeak-left : (p q : List Device) → IsWeak p → IsWeak (p ++ q)
IsWeak-left [] q h = absurd h
IsWeak-left (d ∷ p) q (inl e) = inl e
IsWeak-left (d ∷ p) q (inr h) = inr (IsWeak-left p q h)

pub IsWeak-backwards : (p : List Device) → IsWeak p → IsWeak (backwards p)
unfolding backwards
IsWeak-backwards [] h = absurd h
IsWeak-backwards (d ∷ p) (inl e) = IsWeak-append (backwards p) (d ∷ []) (inl e)
IsWeak-backwards (d ∷ p) (inr h) = IsWeak-left (backwards p) (d ∷ []) (IsWeak-backwards p h)

pub Path-reverse : {is_source : ℕ → Bool} {a b : ℕ} {p : List Device} → Path is_source a p b → Path is_source b (backwards p) a
unfolding backwards
Path-reverse {a = a} {b = b} (one {d = d} e) = one (Ends-swap d a b e)
Path-reverse {a = a} (more {d = d} {m = m} e n r) = Path-append (Path-reverse r) n (one (Ends-swap d a m e))

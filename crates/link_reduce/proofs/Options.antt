-- What is known of an answer that may be there, or be an error.
use Rattle.std.specs.Prelude.{Err, IfNone, IfSome, None, Ok, OnOk, Option, Result, Some}
use Rattle.std.specs.Option.{IsSome}
use Rattle.std.proofs.Common.{refl, subst, ◌≡◌}

pub on_ok : {T E : Type 0} {A B : Type 0} (r : Result T E) → (A → B) → OnOk r A → OnOk r B
on_ok (Ok x) f h = f h
on_ok (Err e) f h = tt

pub none_weaker : {X : Type 0} (o : Option X) (P Q : Type 0) → (P → Q) → IfNone o P → IfNone o Q
none_weaker None P Q f h = f h
none_weaker (Some x) P Q f h = tt

pub some_of : {X : Type 0} (o : Option X) (P : Type 0) → IfNone o (P → ⊥) → P → IsSome o
some_of None P h p = absurd (h p)
some_of (Some x) P h p = refl

pub some_is : {X : Type 0} (o : Option X) (x : X) (P : X → Type 0) → o ≡ Some x → IfSome o P → P x
some_is None x P e h = absurd cc
some_is (Some y) x P e h = let z : y ≡ x = cc in subst P z h

pub none_is : {X : Type 0} (o : Option X) (P : Type 0) → o ≡ None → IfNone o P → P
none_is None P e h = h
none_is (Some x) P e h = absurd cc

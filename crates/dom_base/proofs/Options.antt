-- What is known of an option or a result once its case is known.
use Rattle.std.proofs.Common.{◌≡◌, Option, Some, None, Result, Ok, Err, IfOk, subst}
use Rattle.std.specs.Prelude.{IfSome, MatchOption}

-- the two cases of an option
pub none_case : {X : Type 0} (P : Type 0) (Q : X → Type 0) (o : Option X) → o ≡ None → MatchOption o P Q → P
none_case P Q o is m = subst (λ v. MatchOption v P Q) is m

pub some_case : {X : Type 0} (P : Type 0) (Q : X → Type 0) (o : Option X) (x : X) → o ≡ Some x → MatchOption o P Q → Q x
some_case P Q o x is m = subst (λ v. MatchOption v P Q) is m

-- weaker facts of the cases
pub match_weaker : {X : Type 0} (P R : Type 0) (Q S : X → Type 0) (o : Option X) → (P → R) → ((x : X) → Q x → S x) → MatchOption o P Q → MatchOption o R S
match_weaker P R Q S None f g m = f m
match_weaker P R Q S (Some x) f g m = g x m

-- no option has a value and none
pub some≢none : {X : Type 0} (x : X) → Some x ≡ None → ⊥
some≢none x e = cc

-- a weaker fact of what a call answers
pub if_ok-weaker : {T E : Type 0} {A B : T → Type 0} (result : Result T E) → ((x : T) → A x → B x) → IfOk result A → IfOk result B
if_ok-weaker (Ok x) f h = f x h
if_ok-weaker (Err e) f h = tt

-- what there is meets more, where it is there
pub some_weaker : {X : Type 0} (o : Option X) (P Q : X → Type 0) → ((x : X) → P x → Q x) → IfSome o P → IfSome o Q
some_weaker None P Q f h = tt
some_weaker (Some x) P Q f h = f x h

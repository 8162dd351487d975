-- What a shelf was asked for, one name after another.
use Rattle.std.proofs.Common.{List, [], ◌++◌, Option, None, Some, ap, sym, ◌∙◌, append_assoc}
use Rattle.std.proofs.lemmas.List.{append-nil}
use Rattle.dom_io.specs.Asked.{Asking, HasAsked}

-- nothing was asked for
pub HasAsked-nothing : (o : Option (List Asking)) → HasAsked o o []
HasAsked-nothing None = tt
HasAsked-nothing (Some asked) = sym (append-nil asked)

-- some names, and then some more
pub HasAsked-then : (a b c : Option (List Asking)) (xs ys : List Asking) → HasAsked a b xs → HasAsked b c ys → HasAsked a c (xs ++ ys)
HasAsked-then None None None xs ys h k = tt
HasAsked-then None None (Some z) xs ys h k = absurd k
HasAsked-then None (Some y) c xs ys h k = absurd h
HasAsked-then (Some x) None c xs ys h k = absurd h
HasAsked-then (Some x) (Some y) None xs ys h k = absurd k
HasAsked-then (Some x) (Some y) (Some z) xs ys h k = k ∙ ap (λ l. l ++ ys) h ∙ append_assoc x xs ys

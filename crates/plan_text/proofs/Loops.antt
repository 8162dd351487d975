-- Texts that grow item by item, and groups of devices that end one after another.
use Rattle.std.proofs.Common.{◌≡◌, ℕ, ◌+◌, ◌<◌, List, [], ◌∷◌, ◌++◌, length, map, take, get_or, sym, ap, ◌∙◌, arith, append-nil}
use Rattle.std.specs.List.{enumerate_from, flat_map}
use Rattle.std.proofs.lemmas.List.{length-take-le, take_more}
use Rattle.std.proofs.lemmas.List.Concat.{flat_map-append}
use Rattle.dom_base.proofs.Lists.{enumerate_from-push, map-push}
use Rattle.deck.specs.NamedDevices.{NamedDevice}
use Rattle.plan_text.specs.DeviceTexts.{with_end, with_groups, with_put}
use Rattle.plan_text.specs.declared.device_text.DeviceText.{DeviceText}
use Rattle.plan_text.proofs.DeviceTexts.{one_group, then_groups}

-- the parts of one more item
pub flat_map-push : {X Y : Type 0} (f : X → List Y) (xs : List X) (x : X) → flat_map f (xs ++ x ∷ []) ≡ flat_map f xs ++ f x
flat_map-push f xs x = flat_map-append f xs (x ∷ []) ∙ ap (λ l. flat_map f xs ++ l) (append-nil (f x))

pub flat_map-next : {X Y : Type 0} (f : X → List Y) (xs : List X) (i : ℕ) (d : X) → i < length xs
    → flat_map f (take (i + 1) xs) ≡ flat_map f (take i xs) ++ f (get_or xs i d)
flat_map-next f xs i d lt = ap (flat_map f) (take_more xs i d lt) ∙ flat_map-push f (take i xs) (get_or xs i d)

-- one more group
groups-next : {X Y : Type 0} (f : X → Y) (xs : List X) (i : ℕ) (d : X) → i < length xs → map f (take (i + 1) xs) ≡ map f (take i xs) ++ f (get_or xs i d) ∷ []
groups-next f xs i d lt = ap (map f) (take_more xs i d lt) ∙ map-push f (take i xs) (get_or xs i d)

numbered-next : {X Y : Type 0} (f : ℕ × X → Y) (xs : List X) (i : ℕ) (d : X) → i < length xs
    → map f (enumerate_from 0 (take (i + 1) xs)) ≡ map f (enumerate_from 0 (take i xs)) ++ f (i, get_or xs i d) ∷ []
numbered-next f xs i d lt =
    let place : 0 + length (take i xs) ≡ i = omega (arith, length-take-le i xs (omega arith)) in
    ap (λ l. map f (enumerate_from 0 l)) (take_more xs i d lt)
    ∙ ap (map f) (enumerate_from-push 0 (take i xs) (get_or xs i d) ∙ ap (λ n. enumerate_from 0 (take i xs) ++ (n, get_or xs i d) ∷ []) place)
    ∙ map-push f (enumerate_from 0 (take i xs)) (i, get_or xs i d)

-- the group of one more item, by its devices and its end
pub next_group : {X : Type 0} (f : X → List (NamedDevice (List ℕ))) (xs : List X) (i : ℕ) (d : X) → i < length xs → (start cur put new : DeviceText)
    → cur ≡ with_groups start (map f (take i xs)) → put ≡ with_put cur (f (get_or xs i d)) → new ≡ with_end put
    → new ≡ with_groups start (map f (take (i + 1) xs))
next_group f xs i d lt start cur put new e g h =
    then_groups start cur new (map f (take i xs)) (f (get_or xs i d) ∷ []) e (one_group cur put new (f (get_or xs i d)) g h)
    ∙ ap (with_groups start) (sym (groups-next f xs i d lt))

pub next_numbered : {X : Type 0} (f : ℕ × X → List (NamedDevice (List ℕ))) (xs : List X) (i : ℕ) (d : X) → i < length xs → (start cur put new : DeviceText)
    → cur ≡ with_groups start (map f (enumerate_from 0 (take i xs))) → put ≡ with_put cur (f (i, get_or xs i d)) → new ≡ with_end put
    → new ≡ with_groups start (map f (enumerate_from 0 (take (i + 1) xs)))
next_numbered f xs i d lt start cur put new e g h =
    then_groups start cur new (map f (enumerate_from 0 (take i xs))) (f (i, get_or xs i d) ∷ []) e (one_group cur put new (f (i, get_or xs i d)) g h)
    ∙ ap (with_groups start) (sym (numbered-next f xs i d lt))

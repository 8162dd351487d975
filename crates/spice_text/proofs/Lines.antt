-- Lines of ports and cards of devices, appended one after another.
use Rattle.std.proofs.Common.{◌≡◌, ℕ, ◌+◌, ◌<◌, ◌≤◌, min, List, [], ◌∷◌, ◌++◌, length, take, drop, get_or, codes, refl, sym, ap, ◌∙◌, arith}
use Rattle.std.proofs.lemmas.List.{take_more, take_min, drop_min, length-take-le, append-nil, append_assoc}
use Rattle.std.proofs.lemmas.List.Concat.{flat_map-append}
use Rattle.std.specs.List.{flat_map, enumerate_from}
use Rattle.deck.specs.declared.device.Device.{Device}
use Rattle.spice_text.specs.Text.{deck_line, plus_lines, eights, device_card, device_cards}

-- a list that isn't empty, in its first eight and the rest
pub eights-step : {X : Type 0} (xs : List X) → 0 < length xs → eights xs ≡ take 8 xs ∷ eights (drop 8 xs)
eights-step [] some = absurd (omega arith)
eights-step (a ∷ []) some = refl
eights-step (a ∷ b ∷ []) some = refl
eights-step (a ∷ b ∷ c ∷ []) some = refl
eights-step (a ∷ b ∷ c ∷ d ∷ []) some = refl
eights-step (a ∷ b ∷ c ∷ d ∷ e ∷ []) some = refl
eights-step (a ∷ b ∷ c ∷ d ∷ e ∷ f ∷ []) some = refl
eights-step (a ∷ b ∷ c ∷ d ∷ e ∷ f ∷ g ∷ []) some = refl
eights-step (a ∷ b ∷ c ∷ d ∷ e ∷ f ∷ g ∷ h ∷ more) some = refl

min_comm : (a b : ℕ) → min a b ≡ min b a
min_comm a b = omega arith

-- the lines of names, with the first line apart
pub plus_lines-step : (names : List (List ℕ)) (n : ℕ) → 0 < length names → n ≡ min (length names) 8
    → deck_line (codes "+") (take n names) ++ plus_lines (drop n names) ≡ plus_lines names
plus_lines-step names n some count =
    let front : take n names ≡ take 8 names = ap (λ m. take m names) (count ∙ min_comm (length names) 8) ∙ take_min 8 names in
    let rest : drop n names ≡ drop 8 names = ap (λ m. drop m names) (count ∙ min_comm (length names) 8) ∙ drop_min 8 names in
    ap (λ l. deck_line (codes "+") l ++ plus_lines (drop n names)) front
    ∙ ap (λ l. deck_line (codes "+") (take 8 names) ++ plus_lines l) rest
    ∙ ap (flat_map (deck_line (codes "+"))) (sym (eights-step names some))

pub enumerate_from-append : {X : Type 0} (n : ℕ) (xs ys : List X) → enumerate_from n (xs ++ ys)
    ≡ enumerate_from n xs ++ enumerate_from (n + length xs) ys
enumerate_from-append n [] ys = ap (λ m. enumerate_from m ys) (omega arith)
enumerate_from-append n (x ∷ xs) ys =
    ap (λ l. (n, x) ∷ l) (enumerate_from-append (n + 1) xs ys ∙ ap (λ m. enumerate_from (n + 1) xs ++ enumerate_from m ys) (omega arith))

-- the text of one more numbered item
pub numbered-more : {X : Type 0} (f : ℕ × X → List ℕ) (xs : List X) (i : ℕ) (d : X) → i < length xs
    → flat_map f (enumerate_from 0 (take (i + 1) xs)) ≡ flat_map f (enumerate_from 0 (take i xs)) ++ f (i, get_or xs i d)
numbered-more f xs i d lt =
    let le : i ≤ length xs = omega arith in
    let place : 0 + length (take i xs) ≡ i = omega (arith, length-take-le i xs le) in
    ap (λ l. flat_map f (enumerate_from 0 l)) (take_more xs i d lt)
    ∙ ap (flat_map f) (enumerate_from-append 0 (take i xs) (get_or xs i d ∷ []))
    ∙ flat_map-append f (enumerate_from 0 (take i xs)) (enumerate_from (0 + length (take i xs)) (get_or xs i d ∷ []))
    ∙ ap (λ n. flat_map f (enumerate_from 0 (take i xs)) ++ flat_map f (enumerate_from n (get_or xs i d ∷ []))) place
    ∙ ap (λ t. flat_map f (enumerate_from 0 (take i xs)) ++ t) (append-nil (f (i, get_or xs i d)))

-- one more card
pub cards-more : (nets : List (List ℕ)) (devices : List Device) (i : ℕ) (d : Device) → i < length devices
    → device_cards nets (take (i + 1) devices) ≡ device_cards nets (take i devices) ++ device_card nets (i, get_or devices i d)
cards-more nets devices i d lt = numbered-more (device_card nets) devices i d lt

pub ruleset printing = (cards-more)

-- two parts that are appended one after another
appended : {x y : List ℕ} (z w u : List ℕ) → y ≡ z ++ w → x ≡ y ++ u → x ≡ z ++ (w ++ u)
appended z w u ey ex = ex ∙ ap (λ l. l ++ u) ey ∙ append_assoc z w u

-- a card, where its parts are appended one after another
pub card_parts : (t number drain gate source bulk model : List ℕ) {m n d g s b k e : List ℕ}
    → m ≡ t ++ 109 ∷ [] → n ≡ m ++ number → d ≡ n ++ 32 ∷ drain → g ≡ d ++ 32 ∷ gate → s ≡ g ++ 32 ∷ source → b ≡ s ++ 32 ∷ bulk → k
    ≡ b ++ 32 ∷ model → e ≡ k ++ 10 ∷ []
    → e ≡ t ++ deck_line (codes "m" ++ number) (drain ∷ gate ∷ source ∷ bulk ∷ model ∷ [])
card_parts t number drain gate source bulk model {m} {n} {d} {g} {s} {b} {k} {e} em en ed eg es eb ek ee =
    let last = ek ∙ ap (λ w. b ++ 32 ∷ w) (sym (append-nil model)) in
    let words = appended n (32 ∷ drain) _ ed (appended d (32 ∷ gate) _ eg
    (appended g (32 ∷ source) _ es (appended s (32 ∷ bulk) _ eb last))) in
    appended t _ (10 ∷ []) (appended t (109 ∷ []) _ em (appended m number _ en words)) ee

-- a card, where its bulk, its model and LF are appended together
pub card_with_end : (t number drain gate source bulk model : List ℕ) {m n d g s e : List ℕ}
    → m ≡ t ++ 109 ∷ [] → n ≡ m ++ number → d ≡ n ++ 32 ∷ drain → g ≡ d ++ 32 ∷ gate → s ≡ g ++ 32 ∷ source → e
    ≡ s ++ (32 ∷ bulk ++ 32 ∷ model ++ 10 ∷ [])
    → e ≡ t ++ deck_line (codes "m" ++ number) (drain ∷ gate ∷ source ∷ bulk ∷ model ∷ [])
card_with_end t number drain gate source bulk model {s = s} {e = e} em en ed eg es ee =
    let one : List ℕ = 32 ∷ bulk in
    let two : List ℕ = 32 ∷ model in
    let end : List ℕ = 10 ∷ [] in
    let apart : e ≡ ((s ++ one) ++ two) ++ end =
    ee ∙ sym (append_assoc s (one ++ two) end) ∙ ap (λ l. l ++ end) (sym (append_assoc s one two)) in
    card_parts t number drain gate source bulk model {b = s ++ one} {k = (s ++ one) ++ two} em en ed eg es refl refl apart

-- Lists that are alike, element by element, and put in order by numbers that agree.
use Rattle.std.proofs.Common.{◌≡◌, ℕ, Bool, true, false, nat_lt, List, [], ◌∷◌, map, Option, Some, None, refl, ap, ◌∙◌, cond, filter}
use Rattle.std.specs.Prelude.{if◌then◌else◌}
use Rattle.std.specs.List.{cons_option, filter_map}
use Rattle.std.specs.Option.{option_map}
use Rattle.model_calls.specs.Ordered.{in_order, with_element}

-- an element is put in at one place where all numbers are the same
with_alike : {X Y Z : Type 0} (F : X → Z) (G : Y → Z) (n : X → ℕ) (m : Y → ℕ) (x : X) (y : Y) (xs : List X) (ys : List Y)
    → F x ≡ G y → n x ≡ m y → map F xs ≡ map G ys → map n xs ≡ map m ys
    → (map F (with_element n x xs) ≡ map G (with_element m y ys)) × (map n (with_element n x xs) ≡ map m (with_element m y ys))
with_alike F G n m x y [] [] e d es ds = (ap (λ z. z ∷ []) e, ap (λ z. z ∷ []) d)
with_alike F G n m x y [] (v ∷ ys) e d es ds = absurd cc
with_alike F G n m x y (u ∷ xs) [] e d es ds = absurd cc
with_alike F G n m x y (u ∷ xs) (v ∷ ys) e d es ds =
    let first : F u ≡ G v = cc in
    let key : n u ≡ m v = cc in
    let rest : map F xs ≡ map G ys = cc in
    let keys : map n xs ≡ map m ys = cc in
    by first key rest keys (with_alike F G n m x y xs ys e d rest keys) (nat_lt (n u) (n x)) (nat_lt (m v) (m y)) (ap (λ k. nat_lt k (n x)) key ∙ ap (nat_lt (m v)) d)
  where
    by : F u ≡ G v → n u ≡ m v → map F xs ≡ map G ys → map n xs ≡ map m ys
        → (map F (with_element n x xs) ≡ map G (with_element m y ys)) × (map n (with_element n x xs) ≡ map m (with_element m y ys)) → (b c : Bool) → b ≡ c
        → (map F (if b then u ∷ with_element n x xs else x ∷ u ∷ xs) ≡ map G (if c then v ∷ with_element m y ys else y ∷ v ∷ ys))
        × (map n (if b then u ∷ with_element n x xs else x ∷ u ∷ xs) ≡ map m (if c then v ∷ with_element m y ys else y ∷ v ∷ ys))
    by first key rest keys deeper true true same = (ap (λ z. z ∷ map F (with_element n x xs)) first ∙ ap (λ l. G v ∷ l) deeper.0, ap (λ z. z ∷ map n (with_element n x xs)) key ∙ ap (λ l. m v ∷ l) deeper.1)
    by first key rest keys deeper false false same = (
      ap (λ z. z ∷ F u ∷ map F xs) e ∙ ap (λ z. G y ∷ z ∷ map F xs) first ∙ ap (λ l. G y ∷ G v ∷ l) rest,
      ap (λ z. z ∷ n u ∷ map n xs) d ∙ ap (λ z. m y ∷ z ∷ map n xs) key ∙ ap (λ l. m y ∷ m v ∷ l) keys,
    )
    by first key rest keys deeper true false same = absurd cc
    by first key rest keys deeper false true same = absurd cc

-- lists that are alike stay so in order
pub in_order_alike : {X Y Z : Type 0} (F : X → Z) (G : Y → Z) (n : X → ℕ) (m : Y → ℕ) (xs : List X) (ys : List Y)
    → map F xs ≡ map G ys → map n xs ≡ map m ys → (map F (in_order n xs) ≡ map G (in_order m ys)) × (map n (in_order n xs) ≡ map m (in_order m ys))
in_order_alike F G n m [] [] es ds = (refl, refl)
in_order_alike F G n m [] (y ∷ ys) es ds = absurd cc
in_order_alike F G n m (x ∷ xs) [] es ds = absurd cc
in_order_alike F G n m (x ∷ xs) (y ∷ ys) es ds =
    let first : F x ≡ G y = cc in
    let key : n x ≡ m y = cc in
    let rest : map F xs ≡ map G ys = cc in
    let keys : map n xs ≡ map m ys = cc in
    let deeper = in_order_alike F G n m xs ys rest keys in
    with_alike F G n m x y (in_order n xs) (in_order m ys) first key deeper.0 deeper.1

-- what is kept of lists that are alike, where what is kept of their elements is alike
pub kept_alike : {X Y Z A B C : Type 0} (F : X → Z) (G : Y → Z) (g : X → Option A) (h : Y → Option B) (a : A → C) (b : B → C)
    → ((x : X) (y : Y) → F x ≡ G y → option_map a (g x) ≡ option_map b (h y))
    → (xs : List X) (ys : List Y) → map F xs ≡ map G ys → map a (filter_map g xs) ≡ map b (filter_map h ys)
kept_alike F G g h a b same [] [] es = refl
kept_alike F G g h a b same [] (y ∷ ys) es = absurd cc
kept_alike F G g h a b same (x ∷ xs) [] es = absurd cc
kept_alike {A = A} {B = B} F G g h a b same (x ∷ xs) (y ∷ ys) es =
    let first : F x ≡ G y = cc in
    let rest : map F xs ≡ map G ys = cc in
    by (g x) (h y) (same x y first) (kept_alike F G g h a b same xs ys rest)
  where
    by : (o : Option A) (p : Option B) → option_map a o ≡ option_map b p → map a (filter_map g xs) ≡ map b (filter_map h ys)
        → map a (cons_option o (filter_map g xs)) ≡ map b (cons_option p (filter_map h ys))
    by None None e r = r
    by None (Some v) e r = absurd cc
    by (Some u) None e r = absurd cc
    by (Some u) (Some v) e r = let i : a u ≡ b v = cc in ap (λ z. z ∷ map a (filter_map g xs)) i ∙ ap (λ l. b v ∷ l) r

-- a value of each of two lists that are alike
pub map_alike : {X Y Z C : Type 0} (F : X → Z) (G : Y → Z) (a : X → C) (b : Y → C) → ((x : X) (y : Y) → F x ≡ G y → a x ≡ b y)
    → (xs : List X) (ys : List Y) → map F xs ≡ map G ys → map a xs ≡ map b ys
map_alike F G a b same [] [] es = refl
map_alike F G a b same [] (y ∷ ys) es = absurd cc
map_alike F G a b same (x ∷ xs) [] es = absurd cc
map_alike F G a b same (x ∷ xs) (y ∷ ys) es =
    let first : F x ≡ G y = cc in
    let rest : map F xs ≡ map G ys = cc in
    ap (λ z. z ∷ map a xs) (same x y first) ∙ ap (λ l. b y ∷ l) (map_alike F G a b same xs ys rest)

-- a filter as what is kept
pub filter_kept : {X : Type 0} (test : X → Bool) (xs : List X) → filter test xs ≡ filter_map (λ x. if test x then Some x else None) xs
filter_kept test [] = refl
filter_kept test (x ∷ xs) = by (test x) (filter_kept test xs)
  where
    by : (b : Bool) → filter test xs ≡ filter_map (λ y. if test y then Some y else None) xs
        → cond b (x ∷ filter test xs) (filter test xs) ≡ cons_option (if b then Some x else None) (filter_map (λ y. if test y then Some y else None) xs)
    by true r = ap (λ l. x ∷ l) r
    by false r = r

-- Loops over the devices of a group and over groups: what is made and what is left.
use Rattle.std.proofs.Common.{◌≡◌, ℕ, ◌<◌, ◌≤◌, ◌+◌, ◌-◌, ◌*◌, ◌||◌, Bool, true, false, if◌then◌else◌, List, [], ◌∷◌, ◌++◌, map, length}
use Rattle.std.proofs.Common.{take, drop, get_or, All, refl, ap, sym, ◌∙◌, subst, arith, append_assoc}
use Rattle.std.specs.List.{list_any, position_or_len}
use Rattle.std.proofs.lemmas.List.{drop_more, length-drop, length-take-le}
use Rattle.std.proofs.lemmas.List.Elements.{All-drop, All-take}
use Rattle.std.proofs.lemmas.List.Folds.{list_any-append}
use Rattle.indexmap.specs.IndexSet.{insert_all, insert_key}
use Rattle.dom_base.proofs.Bools.{never}
use Rattle.deck.specs.declared.device.Device.{Device}
use Rattle.deck.specs.Limits.{most_devices}
use Rattle.deck.specs.Nets.{IsInRange}
use Rattle.spice_text.specs.Cells.{PlacesRise, groups_from, same_cell_shape}
use Rattle.spice_text.specs.GroupNets.{GroupNetsData, nets_after, placed_devices, group_nets, placed_group, placed_number, placed_shapes}
use Rattle.spice_text.specs.GroupNets.{placed_call, placed_calls}
use Rattle.spice_text.proofs.Groups.{rises_far}
use Rattle.spice_text.proofs.Places.{position_or_len-none}
use Rattle.spice_text.proofs.Shapes.{key_stays, shape_own}

-- what the devices that are left add to the nets and to the shape of a group
pub record AreNumbered (old now : GroupNetsData) (shape group left : List Device) (i : ℕ) : Type 0 where
  pub count : now.count ≡ old.count
  pub nets : nets_after now.nets left ≡ group_nets group
  pub devices : shape ++ placed_devices now.nets left ≡ placed_group group
  pub few : length now.nets ≤ 2 + 3 * i

-- the devices that are left, and the places at which their groups end
pub record AreLeft (count start : ℕ) (rest : List Device) (places : List ℕ) : Type 0 where
  pub within : All (IsInRange count) rest
  pub few : length rest ≤ most_devices
  pub rise : PlacesRise start places (start + length rest)

-- the first of the groups that are left
pub record IsNextGroup (count start : ℕ) (rest : List Device) (place : ℕ) (places : List ℕ) : Type 0 where
  pub before : start ≤ place
  pub short : place - start ≤ length rest
  pub within : All (IsInRange count) (take (place - start) rest)
  pub few : length (take (place - start) rest) ≤ most_devices
  pub others : AreLeft count place (drop (place - start) rest) places

pub next_group : (count start : ℕ) (rest : List Device) (all : List ℕ) (i place default : ℕ) → i < length all → place ≡ get_or all i default
    → AreLeft count start rest (drop i all)
    → IsNextGroup count start rest place (drop (i + 1) all)
next_group count start rest all i place default lt item left =
    let places : List ℕ = drop (i + 1) all in
    let step : drop i all ≡ place ∷ places = drop_more all i default lt ∙ ap (λ p. p ∷ places) (sym item) in
    let rise : PlacesRise start (place ∷ places) (start + length rest) = subst (λ l. PlacesRise start l (start + length rest)) step
    left.rise in
    let far : place + length places ≤ start + length rest = rises_far place places (start + length rest) rise.1 in
    let short : place - start ≤ length rest = omega (arith, rise.0, far) in
    record {
      before = omega (arith, rise.0);
      short = short;
      within = All-take (IsInRange count) (place - start) rest left.within;
      few = omega (arith, length-take-le (place - start) rest short, left.few);
      others = record {
        within = All-drop (IsInRange count) (place - start) rest left.within;
        few = omega (arith, length-drop (place - start) rest, left.few);
        rise = subst (PlacesRise place places) (omega (arith, length-drop (place - start) rest, rise.0, short)) rise.1;
      };
    }

pub groups-step : (start : ℕ) (rest : List Device) (all : List ℕ) (i place default : ℕ) → i < length all → place ≡ get_or all i default
    → groups_from start (drop i all) rest ≡ take (place - start) rest ∷ groups_from place (drop (i + 1) all) (drop (place - start) rest)
groups-step start rest all i place default lt item =
    ap (λ l. groups_from start l rest) (drop_more all i default lt ∙ ap (λ p. p ∷ drop (i + 1) all) (sym item))

-- what the groups that are left add to the shapes, and to the calls, of which so many are made
pub record ArePlaced (names : List (List ℕ)) (all left : List (List Device)) (made : ℕ) (shapes : List (List Device)) (calls : List ℕ)
    : Type 0 where
  pub shapes_are : insert_all same_cell_shape shapes (map placed_group left) ≡ placed_shapes all
  pub calls_are : calls ++ placed_calls names (placed_shapes all) made left ≡ placed_calls names (placed_shapes all) 0 all

module _ {X : Type 0} (eq : X → X → Bool) where
  position-append : (test : X → Bool) (ks ls : List X) → list_any test ks ≡ true → position_or_len test (ks ++ ls) ≡ position_or_len test ks
  position-append test [] ls h = absurd (never refl (sym h))
  position-append test (k ∷ ks) ls h = by (test k) refl (λ rest. position-append test ks ls rest)
    where
      by : (b : Bool) → test k ≡ b → (list_any test ks ≡ true → position_or_len test (ks ++ ls) ≡ position_or_len test ks)
          → position_or_len test (k ∷ ks ++ ls) ≡ position_or_len test (k ∷ ks)
      by true e behind = rw e refl
      by false e behind =
          let rest : list_any test ks ≡ true = sym (ap (λ b. b || list_any test ks) e) ∙ h in
          let same = behind rest in
          rw e (omega (arith, same))

  stays : (test : X → Bool) (ks : List X) (x : X) → list_any test ks ≡ true → position_or_len test (insert_key eq ks x)
      ≡ position_or_len test ks
  stays test ks x h = by (list_any (eq x) ks)
    where
      by : (b : Bool) → position_or_len test (if b then ks else ks ++ x ∷ []) ≡ position_or_len test ks
      by true = refl
      by false = position-append test ks (x ∷ []) h

  all_stay : (test : X → Bool) (ks xs : List X) → list_any test ks ≡ true → position_or_len test (insert_all eq ks xs)
      ≡ position_or_len test ks
  all_stay test ks [] h = refl
  all_stay test ks (x ∷ xs) h = all_stay test (insert_key eq ks x) xs (key_stays eq test ks x h) ∙ stays test ks x h

  last_position : (test : X → Bool) (ks : List X) (x : X) → list_any test ks ≡ false → test x ≡ true → position_or_len test (ks ++ x ∷ [])
      ≡ length ks
  last_position test [] x none own = rw own refl
  last_position test (k ∷ ks) x none own = by (test k) refl (λ rest. last_position test ks x rest own)
    where
      by : (b : Bool) → test k ≡ b → (list_any test ks ≡ false → position_or_len test (ks ++ x ∷ []) ≡ length ks)
          → position_or_len test (k ∷ ks ++ x ∷ []) ≡ length (k ∷ ks)
      by true e behind = absurd (never (ap (λ b. b || list_any test ks) e) none)
      by false e behind =
          let rest : list_any test ks ≡ false = sym (ap (λ b. b || list_any test ks) e) ∙ none in
          rw e (omega (arith, behind rest))

  -- what is inserted keeps the place that it has then
  pub keeps_place : (ks xs : List X) (x : X) → eq x x ≡ true → position_or_len (eq x) (insert_all eq (insert_key eq ks x) xs)
      ≡ position_or_len (eq x) ks
  keeps_place ks xs x own = by (list_any (eq x) ks) refl
    where
      by : (b : Bool) → list_any (eq x) ks ≡ b → position_or_len (eq x) (insert_all eq (insert_key eq ks x) xs) ≡ position_or_len (eq x) ks
      by true e = all_stay (eq x) (insert_key eq ks x) xs (key_stays eq (eq x) ks x e) ∙ stays (eq x) ks x e
      by false e =
          let key : insert_key eq ks x ≡ ks ++ x ∷ [] = rw e refl in
          let stands : list_any (eq x) (ks ++ x ∷ []) ≡ true = list_any-append (eq x) ks (x ∷ []) ∙ ap (λ b. b || (eq x x || false)) e
          ∙ ap (λ b. b || false) own in
          ap (λ l. position_or_len (eq x) (insert_all eq l xs)) key ∙ all_stay (eq x) (ks ++ x ∷ []) xs stands
          ∙ last_position (eq x) ks x e own ∙ sym (position_or_len-none (eq x) ks e)

pub next_placed : (names : List (List ℕ)) (all left : List (List Device)) (made : ℕ) (group : List Device)
    (shapes shapes' : List (List Device)) (number : ℕ) (calls calls' : List ℕ)
    → ArePlaced names all (group ∷ left) made shapes calls → shapes' ≡ insert_key same_cell_shape shapes (placed_group group)
    → number ≡ position_or_len (same_cell_shape (placed_group group)) shapes → calls' ≡ calls ++ placed_call names made number group
    → ArePlaced names all left (made + 1) shapes' calls'
next_placed names all left made group shapes shapes' number calls calls' are inserted found put =
    let last : position_or_len (same_cell_shape (placed_group group)) (placed_shapes all) ≡ number =
    ap (position_or_len (same_cell_shape (placed_group group))) (sym are.shapes_are)
    ∙ keeps_place same_cell_shape shapes (map placed_group left) (placed_group group) (shape_own (placed_group group)) ∙ sym found in
    let others : List ℕ = placed_calls names (placed_shapes all) (made + 1) left in
    record {
      shapes_are = ap (λ l. insert_all same_cell_shape l (map placed_group left)) inserted ∙ are.shapes_are;
      calls_are =
          ap (λ t. t ++ others) (put ∙ ap (λ n. calls ++ placed_call names made n group) (sym last))
          ∙ append_assoc calls (placed_call names made (placed_number (placed_shapes all) group) group) others
          ∙ are.calls_are;
    }

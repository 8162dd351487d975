-- Ports have roles, or leave every order of roles at a port: it is found by how far they agree with the leading ports.
use Rattle.std.proofs.Common.{◌≡◌, ℕ, zero, suc, ◌+◌, ◌<◌, ◌≤◌, ◌⊎◌, inl, inr, Bool, true, false, nat_eq, List, [], ◌∷◌, length, take, drop, get_or, All, refl, sym, ◌∙◌, arith}
use Rattle.std.specs.Prelude.{codes}
use Rattle.std.specs.Cmp.Lexicographic.{pointwise, bytes_decides}
use Rattle.std.specs.List.{starts_with}
use Rattle.std.specs.Ordering.{ord_max, nat_cmp}
use Rattle.std.proofs.lemmas.List.Elements.{All-nil, All-cons}
use Rattle.deck.specs.Limits.{most_clocks, unclocked_count}
use Rattle.deck.specs.PortFronts.{BeginsGroups, BeginsLeading, LeavesLeading}
use Rattle.deck.specs.Ports.{HasRoles, HasSomeRoles, leading_ports}
use Rattle.deck.specs.Roles.{HaveRolesOrLeave}
use Rattle.deck.proofs.PortLayout.{length-leading}
use Rattle.deck.proofs.PortOrder.{further, groups_found, leaves_groups, leaves_leading, leading_from}

-- how far two lists of names agree
record Agreement (xs ys : List (List ℕ)) : Type 0 where
  pub count : ℕ
  pub left : count ≤ length xs
  pub right : count ≤ length ys
  pub agrees : (k : ℕ) → k < count → get_or xs k [] ≡ get_or ys k []
  pub differs : count < length ys → count < length xs → get_or xs count [] ≡ get_or ys count [] → ⊥

agreement : (xs ys : List (List ℕ)) → Agreement xs ys
agreement [] ys = record { count = 0; left = omega arith; right = omega arith; agrees = λ k lt. absurd (omega arith); differs = λ p q e. absurd (omega (arith, q)) }
agreement (x ∷ xs) [] = record { count = 0; left = omega arith; right = omega arith; agrees = λ k lt. absurd (omega arith); differs = λ p q e. absurd (omega (arith, p)) }
agreement (x ∷ xs) (y ∷ ys) = by (pointwise nat_eq x y) refl (agreement xs ys)
  where
    step : (count : ℕ) → x ≡ y → ((k : ℕ) → k < count → get_or xs k [] ≡ get_or ys k []) → (k : ℕ) → k < suc count → get_or (x ∷ xs) k [] ≡ get_or (y ∷ ys) k []
    step count same agrees zero lt = same
    step count same agrees (suc k) lt = agrees k (omega (arith, lt))

    by : (b : Bool) → pointwise nat_eq x y ≡ b → Agreement xs ys → Agreement (x ∷ xs) (y ∷ ys)
    by true e a = record {
      count = suc a.count;
      left = omega (arith, a.left);
      right = omega (arith, a.right);
      agrees = step a.count ((bytes_decides x y).0 e) a.agrees;
      differs = λ p q same. a.differs (omega (arith, p)) (omega (arith, q)) same;
    }
    by false e a = record {
      count = 0;
      left = omega arith;
      right = omega arith;
      agrees = λ k lt. absurd (omega arith);
      differs = λ p q same. let never : true ≡ false = sym ((bytes_decides x y).1 same) ∙ e in cc;
    }

-- the names at the front that begin so
record Front (start : List ℕ) (names : List (List ℕ)) : Type 0 where
  pub count : ℕ
  pub within : count ≤ length names
  pub all : All (λ name. starts_with nat_eq name start ≡ true) (take count names)
  pub stops : starts_with nat_eq (get_or names count []) start ≡ true → ⊥

front : (start : List ℕ) → starts_with nat_eq [] start ≡ false → (names : List (List ℕ)) → Front start names
front start none [] = record { count = 0; within = omega arith; all = All-nil (λ name. starts_with nat_eq name start ≡ true); stops = λ e. let never : true ≡ false = sym e ∙ none in cc }
front start none (x ∷ names) = by (starts_with nat_eq x start) refl (front start none names)
  where
    by : (b : Bool) → starts_with nat_eq x start ≡ b → Front start names → Front start (x ∷ names)
    by true e f = record {
      count = suc f.count;
      within = omega (arith, f.within);
      all = All-cons (λ name. starts_with nat_eq name start ≡ true) x (take f.count names) e f.all;
      stops = f.stops;
    }
    by false e f = record { count = 0; within = omega arith; all = All-nil (λ name. starts_with nat_eq name start ≡ true); stops = λ t. let never : true ≡ false = sym t ∙ e in cc }

le_or_lt : (a b : ℕ) → (a ≤ b) ⊎ (b < a)
le_or_lt a b = grind arith

-- behind the leading ports with so many clocks
behind_leading : (ports : List (List ℕ)) (clocks : ℕ) → 1 ≤ clocks → clocks ≤ most_clocks → clocks + unclocked_count ≤ length ports → take (clocks + unclocked_count) ports ≡ leading_ports clocks → HaveRolesOrLeave ports
behind_leading ports clocks some few long leading = by (front (codes "i_") refl (drop (clocks + unclocked_count) ports))
  where
    both : (pins : Front (codes "i_") (drop (clocks + unclocked_count) ports)) → Front (codes "o_") (drop pins.count (drop (clocks + unclocked_count) ports)) → HaveRolesOrLeave ports
    both pins outs =
        let groups : BeginsGroups ports clocks pins.count outs.count = record {
          some_clock = some;
          few_clocks = few;
          leading = leading;
          long = long;
          pins_within = pins.within;
          outs_within = outs.within;
          pins_are = pins.all;
          outs_are = outs.all;
        } in
        elim (le_or_lt (length ports) (clocks + unclocked_count + (pins.count + outs.count))) [
          | inl le ↦ inl (record { clocks = clocks; pins = pins.count; outs = outs.count }, groups_found ports clocks pins.count outs.count groups le)
          | inr lt ↦ inr (clocks + unclocked_count + (pins.count + outs.count), leaves_groups ports clocks pins.count outs.count groups lt outs.stops (λ none. pins.stops))
        ]

    by : Front (codes "i_") (drop (clocks + unclocked_count) ports) → HaveRolesOrLeave ports
    by pins = both pins (front (codes "o_") refl (drop pins.count (drop (clocks + unclocked_count) ports)))

-- where with fewer clocks the ports leave the leading ports
record LeavesBefore (ports : List (List ℕ)) (clocks : ℕ) : Type 0 where
  pub port : ℕ
  pub begins : BeginsLeading ports port
  pub leaves : (k : ℕ) → 1 ≤ k → k < clocks → LeavesLeading ports port k

step : (ports : List (List ℕ)) (clocks : ℕ) → 1 ≤ clocks → clocks ≤ most_clocks → LeavesBefore ports clocks → HaveRolesOrLeave ports ⊎ LeavesBefore ports (clocks + 1)
step ports clocks some few before = by (agreement ports (leading_ports clocks))
  where
    long : length (leading_ports clocks) ≡ clocks + unclocked_count
    long = length-leading clocks few

    by : Agreement ports (leading_ports clocks) → HaveRolesOrLeave ports ⊎ LeavesBefore ports (clocks + 1)
    by a = elim (le_or_lt (clocks + unclocked_count) a.count) [
      | inl full ↦
          let room : clocks + unclocked_count ≤ length ports = omega (arith, full, a.left) in
          inl (behind_leading ports clocks some few room (leading_from ports clocks few room (λ k lt. a.agrees k (omega (arith, full, lt)))))
      | inr short ↦
          let next = further ports before.port a.count clocks (ord_max nat_cmp before.port a.count) refl
          (record { some_clock = some; few_clocks = few; short = short; within = a.left; agrees = a.agrees; differs = a.differs (omega (arith, short, long)) }) before.begins before.leaves in
          inr (record { port = ord_max nat_cmp before.port a.count; begins = next.0; leaves = next.1 })
    ]

pub roles_or_leave : (ports : List (List ℕ)) → HaveRolesOrLeave ports
roles_or_leave ports = one (step ports 1 (omega arith) (omega arith) start)
  where
    start : LeavesBefore ports 1
    start = record {
      port = 0;
      begins = record { clocks = 1; some_clock = omega arith; few_clocks = omega arith; leading = omega arith; within = omega arith; agrees = λ k lt. absurd (omega arith) };
      leaves = λ k least lt. absurd (omega arith);
    }

    four : HaveRolesOrLeave ports ⊎ LeavesBefore ports 5 → HaveRolesOrLeave ports
    four (inl found) = found
    four (inr before) = inr (before.port, leaves_leading ports before.port before.begins (λ k least most. before.leaves k least (omega (arith, most))))

    three : HaveRolesOrLeave ports ⊎ LeavesBefore ports 4 → HaveRolesOrLeave ports
    three (inl found) = found
    three (inr before) = four (step ports 4 (omega arith) (omega arith) before)

    two : HaveRolesOrLeave ports ⊎ LeavesBefore ports 3 → HaveRolesOrLeave ports
    two (inl found) = found
    two (inr before) = three (step ports 3 (omega arith) (omega arith) before)

    one : HaveRolesOrLeave ports ⊎ LeavesBefore ports 2 → HaveRolesOrLeave ports
    one (inl found) = found
    one (inr before) = two (step ports 2 (omega arith) (omega arith) before)

-- ports are in the order of roles for some counts, or for none
pub has_roles : (ports : List (List ℕ)) → HasSomeRoles ports ⊎ ((clocks : ℕ) (pins outs : List (List ℕ)) → HasRoles ports clocks pins outs → ⊥)
has_roles ports = by (roles_or_leave ports)
  where
    by : HaveRolesOrLeave ports → HasSomeRoles ports ⊎ ((clocks : ℕ) (pins outs : List (List ℕ)) → HasRoles ports clocks pins outs → ⊥)
    by (inl (roles, are)) = inl record { clocks = roles.clocks; pins = are.pins; outs = are.outs; roles = are.in_order }
    by (inr (port, leaves)) = inr (λ clocks pins outs h. leaves.no_order
        (record { clocks = clocks; pins = length pins; outs = length outs })
        (record { pins = pins; outs = outs; in_order = h; pin_count = refl; out_count = refl }))

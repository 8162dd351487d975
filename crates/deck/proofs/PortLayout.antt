-- Ports in order: they have one count of clocks, pins and outputs, they differ, and the counts say how many they are.
use Rattle.std.proofs.Common.{◌≡◌, ℕ, zero, suc, ◌+◌, ◌<◌, ◌≤◌, ◌^◌, List, [], ◌∷◌, ◌++◌, All, codes, length, take, drop, get_or, nat_eq, false, refl, sym, ap, ◌∙◌, subst, arith, append_assoc, length-append, length-take}
use Rattle.std.specs.Cmp.Lexicographic.{pointwise}
use Rattle.std.specs.List.{AllByRecursion, IsDistinct, list_any, starts_with}
use Rattle.std.specs.Set.{distinct_count}
use Rattle.std.proofs.lemmas.Bool.{and_parts, eqb-true}
use Rattle.std.proofs.lemmas.List.{drop_at, length-take-le}
use Rattle.std.proofs.lemmas.List.Elements.{All-head, All-tail, All-same}
use Rattle.std.proofs.lemmas.Map.Made.{IsDistinct-from_count}
use Rattle.dom_base.specs.Apart.{AreApart}
use Rattle.dom_base.proofs.Lists.{AreApart-append, IsDistinct-append}
use Rattle.dom_base.proofs.Names.{AreApart-from_start, names_equal}
use Rattle.deck.specs.Limits.{most_clocks, unclocked_count}
use Rattle.deck.specs.CircuitData.{CircuitData}
use Rattle.deck.specs.Nets.{IsCircuit}
use Rattle.deck.specs.Numbers.{with_all}
use Rattle.deck.specs.PortLayout.{first_output, source_count}
use Rattle.deck.specs.Ports.{IsPin, IsOutput, clock_ports, latch_ports, leading_ports, HasRoles}
use Rattle.deck.specs.declared.role.Roles.{Roles}
use Rattle.deck.specs.Roles.{AreRoles, ports_of}
use Rattle.deck.proofs.DeviceNumbers.{IsCircuit-ports}
use Rattle.deck.proofs.NetNumbers.{with_all-distinct}

-- no name is a pin's and an output's
pub pin-no_output : (name : List ℕ) → IsPin name → IsOutput name → ⊥
pin-no_output [] pin out = cc
pin-no_output (c ∷ cs) pin out =
    let p : 105 ≡ c = eqb-true _ _ (and_parts _ _ pin).0 in
    let o : 111 ≡ c = eqb-true _ _ (and_parts _ _ out).0 in
    omega arith

pub length-leading : (clocks : ℕ) → clocks ≤ most_clocks → length (leading_ports clocks) ≡ clocks + unclocked_count
length-leading clocks few = simp (length-append, length-take) (omega arith)

-- where a list begins with some of these names and then with another name, their number is decided
same_count : (cs : List (List ℕ)) (other : List ℕ) (a b : ℕ) (x y : List (List ℕ)) → AllByRecursion (λ c. c ≡ other → ⊥) cs
    → a ≤ length cs → b ≤ length cs → take a cs ++ (other ∷ x) ≡ take b cs ++ (other ∷ y) → a ≡ b
same_count [] other a b x y apart la lb e = omega arith
same_count (c ∷ cs) other zero zero x y apart la lb e = refl
same_count (c ∷ cs) other zero (suc b) x y apart la lb e = absurd (apart.0 cc)
same_count (c ∷ cs) other (suc a) zero x y apart la lb e = absurd (apart.0 cc)
same_count (c ∷ cs) other (suc a) (suc b) x y apart la lb e =
    ap suc (same_count cs other a b x y apart.1 (omega arith) (omega arith) (ap (drop 1) e))

clocks-apart : AllByRecursion (λ c. c ≡ codes "lm" → ⊥) clock_ports
clocks-apart =
    let first : List ℕ → ℕ = λ l. get_or l 0 0 in (
      (λ e. let d : 99 ≡ 108 = ap first e in omega arith),
      (
        (λ e. let d : 99 ≡ 108 = ap first e in omega arith),
        (
          (λ e. let d : 99 ≡ 108 = ap first e in omega arith),
          ((λ e. let d : 99 ≡ 108 = ap first e in omega arith), tt),
        ),
      ),
    )

-- the ports before the first pin decide the number of clocks
pub leading-same : (a b : ℕ) (x y : List (List ℕ)) → a ≤ most_clocks → b ≤ most_clocks → leading_ports a ++ x ≡ leading_ports b ++ y → a ≡ b
leading-same a b x y la lb e =
    same_count clock_ports (codes "lm") a b (drop 1 latch_ports ++ x) (drop 1 latch_ports ++ y) clocks-apart la lb
    (sym (append_assoc (take a clock_ports) latch_ports x) ∙ ap (drop 2) e ∙ append_assoc (take b clock_ports) latch_ports y)

-- what stands behind them is the same too
pub behind-same : (a b : ℕ) (x y : List (List ℕ)) → a ≤ most_clocks → b ≤ most_clocks → leading_ports a ++ x ≡ leading_ports b ++ y → x ≡ y
behind-same a b x y la lb e =
    let count : a ≡ b = leading-same a b x y la lb e in
    let long : length (leading_ports b) ≡ a + unclocked_count = length-leading b lb ∙ ap (λ n. n + unclocked_count) (sym count) in
    sym (drop_at (leading_ports a) x (a + unclocked_count) (length-leading a la)) ∙ ap (drop (a + unclocked_count)) e ∙ drop_at (leading_ports b) y (a + unclocked_count) long

-- the pins and outputs of a list of names
pub groups-same : (p o q r : List (List ℕ)) → All IsPin p → All IsOutput o → All IsPin q → All IsOutput r → p ++ o ≡ q ++ r → (p ≡ q) × (o ≡ r)
groups-same [] o [] r pp oo qq rr e = (refl, e)
groups-same [] o (n ∷ q) r pp oo qq rr e = absurd (pin-no_output n (All-head IsPin n q qq) (All-head IsOutput n (q ++ r) (All-same IsOutput _ _ (sym e) oo)))
groups-same (n ∷ p) o [] r pp oo qq rr e = absurd (pin-no_output n (All-head IsPin n p pp) (All-head IsOutput n (p ++ o) (All-same IsOutput _ _ e rr)))
groups-same (n ∷ p) o (m ∷ q) r pp oo qq rr e =
    let more = groups-same p o q r (All-tail IsPin n p pp) oo (All-tail IsPin m q qq) rr (ap (drop 1) e) in
    let head : n ≡ m = ap (λ l. get_or l 0 n) e in
    (cc (head, more.0), more.1)

-- the ports of an order, with the pins and outputs together
pub joined : {ports pins outs : List (List ℕ)} {clocks : ℕ} → HasRoles ports clocks pins outs → ports ≡ leading_ports clocks ++ (pins ++ outs)
joined {pins = pins} {outs = outs} {clocks = clocks} h = h.order ∙ append_assoc (leading_ports clocks) pins outs

abbrev roles_with : ℕ → ℕ → ℕ → Roles
roles_with clocks pins outs = record { clocks = clocks; pins = pins; outs = outs }

pub AreRoles-same : (ports : List (List ℕ)) (a b : Roles) → AreRoles ports a → AreRoles ports b → a ≡ b
AreRoles-same ports a b h k =
    let e = sym (joined h.in_order) ∙ joined k.in_order in
    let la = (h.in_order).few_clocks in
    let lb = (k.in_order).few_clocks in
    let count = leading-same a.clocks b.clocks _ _ la lb e in
    let groups = groups-same h.pins h.outs k.pins k.outs (h.in_order).pins_are (h.in_order).outs_are (k.in_order).pins_are (k.in_order).outs_are
    (behind-same a.clocks b.clocks _ _ la lb e) in
    let pins : a.pins ≡ b.pins = sym h.pin_count ∙ ap length groups.0 ∙ k.pin_count in
    let outs : a.outs ≡ b.outs = sym h.out_count ∙ ap length groups.1 ∙ k.out_count in
    same a.clocks b.clocks a.pins b.pins a.outs b.outs count pins outs
  where
    same : (c c' p p' o o' : ℕ) → c ≡ c' → p ≡ p' → o ≡ o'
        → roles_with c p o ≡ roles_with c' p' o'
    same c c' p p' o o' e f g = cc (e, f, g)

-- what a test computes of the ports before the first pin
record LeadingAreApart (clocks : ℕ) : Type 0 where
  no_pin : list_any (λ x. starts_with nat_eq x (codes "i_")) (leading_ports clocks) ≡ false
  no_output : list_any (λ x. starts_with nat_eq x (codes "o_")) (leading_ports clocks) ≡ false
  distinct : distinct_count (pointwise nat_eq) (leading_ports clocks) ≡ length (leading_ports clocks)

leading_are_apart : (clocks : ℕ) → clocks ≤ most_clocks → LeadingAreApart clocks
leading_are_apart zero few = record { no_pin = refl; no_output = refl; distinct = refl }
leading_are_apart (suc zero) few = record { no_pin = refl; no_output = refl; distinct = refl }
leading_are_apart (suc (suc zero)) few = record { no_pin = refl; no_output = refl; distinct = refl }
leading_are_apart (suc (suc (suc zero))) few = record { no_pin = refl; no_output = refl; distinct = refl }
leading_are_apart (suc (suc (suc (suc zero)))) few = record { no_pin = refl; no_output = refl; distinct = refl }
leading_are_apart (suc (suc (suc (suc (suc n))))) few = absurd (omega arith)

-- the ports of a new circuit differ
pub ports_differ : (clocks : ℕ) (pins outs : List (List ℕ)) → clocks ≤ most_clocks → All IsPin pins → All IsOutput outs
    → IsDistinct (pointwise nat_eq) (pins ++ outs) → IsDistinct (pointwise nat_eq) (leading_ports clocks ++ pins ++ outs)
ports_differ clocks pins outs few pins_begin outs_begin apart =
    let lead = leading_are_apart clocks few in
    let from_all : AreApart (pointwise nat_eq) (leading_ports clocks) (pins ++ outs) = AreApart-append (pointwise nat_eq) (leading_ports clocks) pins outs
    (AreApart-from_start (codes "i_") (leading_ports clocks) pins lead.no_pin pins_begin)
    (AreApart-from_start (codes "o_") (leading_ports clocks) outs lead.no_output outs_begin) in
    subst (IsDistinct (pointwise nat_eq)) (sym (append_assoc (leading_ports clocks) pins outs)) (IsDistinct-append (pointwise nat_eq) (leading_ports clocks) (pins ++ outs) (IsDistinct-from_count names_equal (leading_ports clocks) lead.distinct) apart from_all)

pub length-ports : (clocks : ℕ) (pins outs : List (List ℕ)) → clocks ≤ most_clocks
    → length (leading_ports clocks ++ pins ++ outs) ≡ clocks + unclocked_count + length pins + length outs
length-ports clocks pins outs few =
    omega (arith, length-append (leading_ports clocks ++ pins) outs, length-append (leading_ports clocks) pins, length-leading clocks few)

-- the nets after the ports are added in order
pub new_nets : (nets : List (List ℕ)) (clocks : ℕ) (pins outs : List (List ℕ)) → clocks ≤ most_clocks → All IsPin pins → All IsOutput outs
    → IsDistinct (pointwise nat_eq) (pins ++ outs) → nets ≡ with_all (with_all (with_all [] (leading_ports clocks)) pins) outs
    → nets ≡ leading_ports clocks ++ pins ++ outs
new_nets nets clocks pins outs few pins_begin outs_begin apart added =
    added ∙ with_all-distinct (leading_ports clocks) pins outs (ports_differ clocks pins outs few pins_begin outs_begin apart)

-- ports in the order of roles have one number of clocks, and one group of pins and of outputs
pub record SameRoles (clocks clocks' : ℕ) (pins pins' outs outs' : List (List ℕ)) : Type 0 where
  pub same_clocks : clocks ≡ clocks'
  pub same_pins : pins ≡ pins'
  pub same_outs : outs ≡ outs'

pub HasRoles-same : (ports : List (List ℕ)) (clocks clocks' : ℕ) (pins pins' outs outs' : List (List ℕ))
    → HasRoles ports clocks pins outs → HasRoles ports clocks' pins' outs' → SameRoles clocks clocks' pins pins' outs outs'
HasRoles-same ports clocks clocks' pins pins' outs outs' a b =
    let e = sym (joined a) ∙ joined b in
    let groups = groups-same pins outs pins' outs' a.pins_are a.outs_are b.pins_are b.outs_are (behind-same clocks clocks' _ _ a.few_clocks b.few_clocks e) in
    record { same_clocks = leading-same clocks clocks' _ _ a.few_clocks b.few_clocks e; same_pins = groups.0; same_outs = groups.1 }

-- how many ports there are
pub length-roles : (ports : List (List ℕ)) (roles : Roles) → AreRoles ports roles → length ports ≡ source_count roles + roles.outs
length-roles ports roles h =
    let lead = leading_ports roles.clocks in
    let few = (h.in_order).few_clocks in
    omega (arith, ap length (joined h.in_order), length-append lead (h.pins ++ h.outs), length-append h.pins h.outs, length-leading roles.clocks few, h.pin_count, h.out_count)

-- the ports of a circuit are its first nets, so their roles meet what the methods of roles ask
pub length-ports_of : (c : CircuitData) → IsCircuit c.ports c.nets c.devices → length (ports_of c) ≡ c.ports
length-ports_of c is = length-take-le c.ports c.nets (IsCircuit-ports c.ports c.nets c.devices is)

pub ports-count : (c : CircuitData) (roles : Roles) → IsCircuit c.ports c.nets c.devices → AreRoles (ports_of c) roles → c.ports ≡ source_count roles + roles.outs
ports-count c roles is h = sym (length-ports_of c is) ∙ length-roles (ports_of c) roles h

pub first_output-fits : (c : CircuitData) (roles : Roles) → IsCircuit c.ports c.nets c.devices → AreRoles (ports_of c) roles → first_output roles < 2 ^ 32
first_output-fits c roles is h = omega (arith, ports-count c roles is h, is.few_ports)

-- ports without roles stand in no order
pub no_order : (ports : List (List ℕ)) → ((roles : Roles) → AreRoles ports roles → ⊥) → (clocks : ℕ) (pins outs : List (List ℕ)) → HasRoles ports clocks pins outs → ⊥
no_order ports none clocks pins outs has =
    none record { clocks = clocks; pins = length pins; outs = length outs } record { pins = pins; outs = outs; in_order = has; pin_count = refl; out_count = refl }

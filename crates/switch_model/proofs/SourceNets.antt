-- The sources of a circuit with roles.
use Rattle.std.proofs.Common.{◌≡◌, ℕ, ◌+◌, ◌-◌, ◌<◌, ◌≤◌, Bool, true, false, List, [], ◌++◌, All, codes, length, take, get_or, nat_eq, nat_lt, refl, sym, subst, ap, ◌∙◌, inl, inr, arith}
use Rattle.std.specs.Prelude.{◌⊎◌, ◌↔◌}
use Rattle.dom_base.specs.declared.tri.Tri.{Tri}
use Rattle.std.specs.List.{starts_with}
use Rattle.std.proofs.lemmas.Bool.Decides.{nat_tests}
use Rattle.std.proofs.lemmas.List.{get_or-append_right, get_or-take, get_or_append_left}
use Rattle.std.proofs.lemmas.List.Elements.{All-from_recursion}
use Rattle.deck.specs.CircuitData.{CircuitData}
use Rattle.deck.specs.Nets.{IsCircuit, ends}
use Rattle.deck.specs.Ports.{IsOutput, clock_ports, latch_ports, leading_ports, HasRoles}
use Rattle.deck.specs.Roles.{AreRoles, ports_of}
use Rattle.deck.specs.Sources.{is_source}
use Rattle.deck.specs.declared.role.Roles.{Roles}
use Rattle.deck.proofs.DeviceNumbers.{numbers_used-ge}
use Rattle.deck.proofs.PortLayout.{joined, length-leading, length-ports_of, length-roles, pin-no_output, ports-count}
use Rattle.deck.specs.PortLayout.{source_count}
use Rattle.switch_model.specs.LinksData.{is_first}
use Rattle.switch_model.specs.Targets.{IsTarget}
use Rattle.dom_base.proofs.Decided.{lt_or_ge}
use Rattle.dom_base.proofs.Bools.{not_true}
use Rattle.dom_base.proofs.Lists.{AllByRecursion-append, AllByRecursion-take}

-- a circuit has at least as many nets as ports
pub ports-few : (c : CircuitData) → IsCircuit c.ports c.nets c.devices → c.ports ≤ length c.nets
ports-few c h = omega (arith, h.all_used, numbers_used-ge c.ports (ends c.devices))

abbrev NoOutput : List ℕ → Type 0
NoOutput name = starts_with nat_eq name (codes "o_") ≡ false

-- no leading port is an output
leading-no_output : (clocks : ℕ) → All NoOutput (leading_ports clocks)
leading-no_output clocks =
    All-from_recursion NoOutput (leading_ports clocks) (
      refl,
      (
        refl,
        AllByRecursion-append NoOutput (take clocks clock_ports) latch_ports
            (AllByRecursion-take NoOutput clocks clock_ports (refl, (refl, (refl, (refl, tt))))) (refl, (refl, (refl, (refl, (refl, (refl, tt)))))),
      ),
    )

-- the names before the outputs are none, those behind are outputs
before-outs : (ports : List (List ℕ)) (roles : Roles) (r : AreRoles ports roles) (n : ℕ) → n < source_count roles → NoOutput (get_or ports n [])
before-outs ports roles r n lt = subst NoOutput (sym (ap (λ l. get_or l n []) (joined o))) (by (n < roles.clocks + 8) (roles.clocks + 8 ≤ n) at_leading at_pin (lt_or_ge n (roles.clocks + 8)))
  where
    o : HasRoles ports roles.clocks r.pins r.outs
    o = r.in_order

    long : length (leading_ports roles.clocks) ≡ roles.clocks + 8
    long = length-leading roles.clocks (r.in_order).few_clocks

    at_leading : n < roles.clocks + 8 → NoOutput (get_or (leading_ports roles.clocks ++ (r.pins ++ r.outs)) n [])
    at_leading h = subst NoOutput (sym (get_or_append_left (leading_ports roles.clocks) (r.pins ++ r.outs) [] n (omega (arith, long, h)))) (leading-no_output roles.clocks n [] (omega (arith, long, h)))

    at_pin : roles.clocks + 8 ≤ n → NoOutput (get_or (leading_ports roles.clocks ++ (r.pins ++ r.outs)) n [])
    at_pin h =
        let i = n - (roles.clocks + 8) in
        let lt' : i < length r.pins = omega (arith, r.pin_count, h, lt) in
        let read = get_or-append_right (leading_ports roles.clocks) (r.pins ++ r.outs) (roles.clocks + 8) n [] long h ∙ get_or_append_left r.pins r.outs [] i lt' in
        subst NoOutput (sym read) (not_true _ (λ out. pin-no_output (get_or r.pins i []) ((r.in_order).pins_are i [] lt') out))

    by : (A B : Type 0) → (A → NoOutput (get_or (leading_ports roles.clocks ++ (r.pins ++ r.outs)) n [])) → (B → NoOutput (get_or (leading_ports roles.clocks ++ (r.pins ++ r.outs)) n [])) → A ⊎ B
        → NoOutput (get_or (leading_ports roles.clocks ++ (r.pins ++ r.outs)) n [])
    by A B f g (inl a) = f a
    by A B f g (inr b) = g b

behind-outs : (ports : List (List ℕ)) (roles : Roles) (r : AreRoles ports roles) (n : ℕ) → source_count roles ≤ n → n < length ports → IsOutput (get_or ports n [])
behind-outs ports roles r n le lt =
    let o = r.in_order in
    let lead = leading_ports roles.clocks in
    let long = length-leading roles.clocks o.few_clocks in
    let all = length-roles ports roles r in
    let i = n - (roles.clocks + 8) in
    let j = i - length r.pins in
    let read = ap (λ l. get_or l n []) (joined o)
    ∙ get_or-append_right lead (r.pins ++ r.outs) (roles.clocks + 8) n [] long (omega (arith, le))
    ∙ get_or-append_right r.pins r.outs (length r.pins) i [] refl (omega (arith, le, r.pin_count)) in
    subst IsOutput (sym read) (o.outs_are j [] (omega (arith, all, le, lt, r.pin_count, r.out_count)))

pub sources-first : (c : CircuitData) (roles : Roles) → IsCircuit c.ports c.nets c.devices → AreRoles (ports_of c) roles → (net : ℕ) → is_source c net ≡ is_first (source_count roles) net
sources-first c roles h r net = by (net < source_count roles) (source_count roles ≤ net) front back (lt_or_ge net (source_count roles))
  where
    count : c.ports ≡ source_count roles + roles.outs
    count = ports-count c roles h r

    read : net < c.ports → get_or (ports_of c) net [] ≡ get_or c.nets net []
    read lt = get_or-take c.ports c.nets net [] lt

    test-true : (n m : ℕ) → n < m → nat_lt n m ≡ true
    test-true n m lt = grind (arith, nat_tests)

    test-false : (n m : ℕ) → m ≤ n → nat_lt n m ≡ false
    test-false n m le = grind (arith, nat_tests)

    front : net < source_count roles → is_source c net ≡ is_first (source_count roles) net
    front lt =
        let within : net < c.ports = omega (arith, count, lt) in
        let name : NoOutput (get_or c.nets net []) = subst NoOutput (read within) (before-outs (ports_of c) roles r net lt) in
        rw (test-true net c.ports within, name, test-true net (source_count roles) lt) refl

    back : source_count roles ≤ net → is_source c net ≡ is_first (source_count roles) net
    back le = port (net < c.ports) (c.ports ≤ net) (lt_or_ge net c.ports)
        (λ lt. let name : IsOutput (get_or c.nets net []) = subst IsOutput (read lt) (behind-outs (ports_of c) roles r net le (omega (arith, length-ports_of c h, lt))) in
        rw (test-true net c.ports lt, name, test-false net (source_count roles) le) refl)
        (λ ge. rw (test-false net c.ports ge, test-false net (source_count roles) le) refl)
      where
        port : (A B : Type 0) → A ⊎ B → (A → is_source c net ≡ is_first (source_count roles) net) → (B → is_source c net ≡ is_first (source_count roles) net) → is_source c net ≡ is_first (source_count roles) net
        port A B (inl a) f g = f a
        port A B (inr b) f g = g b

    by : (A B : Type 0) → (A → is_source c net ≡ is_first (source_count roles) net) → (B → is_source c net ≡ is_first (source_count roles) net) → A ⊎ B → is_source c net ≡ is_first (source_count roles) net
    by A B f g (inl a) = f a
    by A B f g (inr b) = g b

-- tests that agree at each net are one
tests-same : (f g : ℕ → Bool) → ((n : ℕ) → f n ≡ g n) → f ≡ g
tests-same f g h = λ i n. h n i

pub targets-same : (c : CircuitData) (roles : Roles) (values : List Tri) (net : ℕ) (v : Tri) → IsCircuit c.ports c.nets c.devices → AreRoles (ports_of c) roles
    → IsTarget c.devices (is_first (source_count roles)) values net v ↔ IsTarget c.devices (is_source c) values net v
targets-same c roles values net v h r =
    let same : is_source c ≡ is_first (source_count roles) = tests-same (is_source c) (is_first (source_count roles)) (sources-first c roles h r) in
    (subst (λ t. IsTarget c.devices t values net v) (sym same), subst (λ t. IsTarget c.devices t values net v) same)

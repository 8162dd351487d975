-- Where ports leave the order of roles.
use Rattle.std.proofs.Common.{◌≡◌, ℕ, zero, suc, ◌+◌, ◌-◌, ◌<◌, ◌≤◌, List, [], ◌∷◌, ◌++◌, ◌⊎◌, inl, inr, All, length, take, drop, get_or, refl, sym, ap, ◌∙◌, subst, arith, append_assoc, length-append, length-drop, append-nil}
use Rattle.std.specs.Ordering.{ord_max, nat_cmp}
use Rattle.std.proofs.lemmas.List.{take-append-drop, get_or-take, get_or_append_left, ext_get_or, length-take-le, get_or-drop, take_at, take_all, take_more}
use Rattle.std.proofs.lemmas.List.Elements.{All-head, All-tail, All-same}
use Rattle.deck.specs.Limits.{most_clocks, unclocked_count}
use Rattle.deck.specs.Ports.{IsPin, IsOutput, leading_ports, HasRoles}
use Rattle.deck.specs.PortFronts.{BeginsGroups, BeginsLeading, LeavesLeading}
use Rattle.deck.specs.declared.role.Roles.{Roles}
use Rattle.deck.specs.Roles.{AreRoles, BeginsRoles, LeavesRolesAt}
use Rattle.deck.proofs.PortLayout.{pin-no_output, length-leading, behind-same, joined}

-- the front of names that begin an order begins it too
pub BeginsRoles-front : (names : List (List ℕ)) (n : ℕ) → BeginsRoles names → BeginsRoles (take n names)
BeginsRoles-front names n b = record {
  more = drop n names ++ b.more;
  roles = b.roles;
  in_order = subst (λ l. AreRoles l b.roles) (ap (λ l. l ++ b.more) (sym (take-append-drop n names)) ∙ append_assoc (take n names) (drop n names) b.more) b.in_order;
}

take_take : (m n : ℕ) (names : List (List ℕ)) → m ≤ n → take m (take n names) ≡ take m names
take_take zero n names le = refl
take_take (suc m) zero names le = absurd (omega arith)
take_take (suc m) (suc n) [] le = refl
take_take (suc m) (suc n) (x ∷ names) le = ap (λ l. x ∷ l) (take_take m n names (omega arith))

no_earlier : (ports : List (List ℕ)) (a b : ℕ) → LeavesRolesAt ports a → LeavesRolesAt ports b → a < b → ⊥
no_earlier ports a b h k lt =
    h.first (omega (arith, k.within)) (subst BeginsRoles (take_take (a + 1) b ports (omega arith)) (BeginsRoles-front (take b ports) (a + 1) k.before))

pub LeavesRolesAt-same : (ports : List (List ℕ)) (a b : ℕ) → LeavesRolesAt ports a → LeavesRolesAt ports b → a ≡ b
LeavesRolesAt-same ports a b h k =
    let not_before = no_earlier ports a b h k in
    let not_behind = no_earlier ports b a k h in
    omega (arith, not_before, not_behind)

-- an order has the names of its leading ports
at_leading : {ports pins outs : List (List ℕ)} {clocks : ℕ} → HasRoles ports clocks pins outs → (k : ℕ) → k < clocks + unclocked_count
    → (k < length ports) × (get_or ports k [] ≡ get_or (leading_ports clocks) k [])
at_leading {ports = ports} {pins = pins} {outs = outs} {clocks = clocks} h k lt =
    let long : length (leading_ports clocks) ≡ clocks + unclocked_count = length-leading clocks h.few_clocks in
    let whole : length ports ≡ length (leading_ports clocks) + length (pins ++ outs) = ap length (joined h) ∙ length-append (leading_ports clocks) (pins ++ outs) in
    (omega arith, ap (λ l. get_or l k []) (joined h) ∙ get_or_append_left (leading_ports clocks) (pins ++ outs) [] k (omega arith))

begins_with : (ports : List (List ℕ)) (port : ℕ) → BeginsLeading ports port → BeginsRoles (take port ports)
begins_with ports port b =
    let lead = leading_ports b.clocks in
    let long : length lead ≡ b.clocks + unclocked_count = length-leading b.clocks b.few_clocks in
    let short : length (take port ports) ≡ port = length-take-le port ports b.within in
    let short' : length (take port lead) ≡ port = length-take-le port lead (omega (arith, long, b.leading)) in
    let same : take port ports ≡ take port lead =
    ext_get_or [] (take port ports) (take port lead) (short ∙ sym short')
    (λ k lt. let lt' : k < port = omega arith in get_or-take port ports k [] lt' ∙ b.agrees k lt' ∙ sym (get_or-take port lead k [] lt')) in
    record {
      more = drop port lead;
      roles = record { clocks = b.clocks; pins = 0; outs = 0 };
      in_order = record {
        pins = [];
        outs = [];
        in_order = record {
          some_clock = b.some_clock;
          few_clocks = b.few_clocks;
          pins_are = All-none IsPin;
          outs_are = All-none IsOutput;
          order = ap (λ l. l ++ drop port lead) same ∙ take-append-drop port lead ∙ sym (append-nil lead) ∙ sym (append-nil (lead ++ []));
        };
        pin_count = refl;
        out_count = refl;
      };
    }
  where
    All-none : (P : List ℕ → Type 0) → All P []
    All-none P = λ k d lt. absurd (omega arith)

pub leaves_leading : (ports : List (List ℕ)) (port : ℕ) → BeginsLeading ports port → ((clocks : ℕ) → 1 ≤ clocks → clocks ≤ most_clocks → LeavesLeading ports port clocks) → LeavesRolesAt ports port
leaves_leading ports port b each = record {
  no_order = λ roles h. none ports roles h (λ at lt. refl) (λ at le lt. lt);
  within = b.within;
  before = begins_with ports port b;
  first = λ lt c. none (take (port + 1) ports ++ c.more) c.roles c.in_order
      (λ at le. get_or_append_left (take (port + 1) ports) c.more [] at (omega (arith, length-take-le (port + 1) ports (omega arith), le)) ∙ get_or-take (port + 1) ports at [] (omega (arith, le)))
      (λ at le l. omega (arith, le, lt));
}
  where
    none : (names : List (List ℕ)) (roles : Roles) → AreRoles names roles
        → ((at : ℕ) → at ≤ port → get_or names at [] ≡ get_or ports at []) → ((at : ℕ) → at ≤ port → at < length names → at < length ports) → ⊥
    none names roles h same there =
        let o = h.in_order in
        let l = each roles.clocks o.some_clock o.few_clocks in
        let k = at_leading o l.at l.leading in
        l.differs (there l.at l.not_behind k.0) (sym (same l.at l.not_behind) ∙ k.1)

-- names that agree with the leading ports at each index
pub leading_from : (ports : List (List ℕ)) (clocks : ℕ) → clocks ≤ most_clocks → clocks + unclocked_count ≤ length ports
    → ((k : ℕ) → k < clocks + unclocked_count → get_or ports k [] ≡ get_or (leading_ports clocks) k []) → take (clocks + unclocked_count) ports ≡ leading_ports clocks
leading_from ports clocks few le each =
    let short : length (take (clocks + unclocked_count) ports) ≡ clocks + unclocked_count = length-take-le (clocks + unclocked_count) ports le in
    ext_get_or [] (take (clocks + unclocked_count) ports) (leading_ports clocks) (short ∙ sym (length-leading clocks few))
    (λ k lt. let h : k < clocks + unclocked_count = omega (arith, short, lt) in get_or-take (clocks + unclocked_count) ports k [] h ∙ each k h)

-- the greater of two numbers
pub greater : (a b : ℕ) → ((ord_max nat_cmp a b ≡ a) × (b ≤ a)) ⊎ ((ord_max nat_cmp a b ≡ b) × (a ≤ b))
greater a b = grind arith

-- how many ports, before all of them, are the leading ports with so many clocks
pub record IsCount (ports : List (List ℕ)) (clocks count : ℕ) : Type 0 where
  pub some_clock : 1 ≤ clocks
  pub few_clocks : clocks ≤ most_clocks
  pub short : count < clocks + unclocked_count
  pub within : count ≤ length ports
  pub agrees : (k : ℕ) → k < count → get_or ports k [] ≡ get_or (leading_ports clocks) k []
  pub differs : count < length ports → get_or ports count [] ≡ get_or (leading_ports clocks) count [] → ⊥

-- the farthest port with one more number of clocks
pub further : (ports : List (List ℕ)) (port count clocks farthest : ℕ) → farthest ≡ ord_max nat_cmp port count → IsCount ports clocks count
    → BeginsLeading ports port → ((k : ℕ) → 1 ≤ k → k < clocks → LeavesLeading ports port k)
    → BeginsLeading ports farthest × ((k : ℕ) → 1 ≤ k → k < clocks + 1 → LeavesLeading ports farthest k)
further ports port count clocks farthest e h b leaves =
    (elim (greater port count) [ inl z ↦ subst (BeginsLeading ports) (sym z.0 ∙ sym e) b | inr z ↦ subst (BeginsLeading ports) (sym z.0 ∙ sym e) own ], each)
  where
    own : BeginsLeading ports count
    own = record { clocks = clocks; some_clock = h.some_clock; few_clocks = h.few_clocks; leading = omega (arith, h.short); within = h.within; agrees = h.agrees }

    not_less : (port ≤ farthest) × (count ≤ farthest)
    not_less = elim (greater port count) [ inl z ↦ (omega (arith, z.0, z.1, e), omega (arith, z.0, z.1, e)) | inr z ↦ (omega (arith, z.0, z.1, e), omega (arith, z.0, z.1, e)) ]

    last : (k : ℕ) → k ≡ clocks → LeavesLeading ports farthest k
    last k z = rw z (record { at = count; not_behind = not_less.1; leading = h.short; differs = h.differs })

    dec_lt : (a b : ℕ) → (a < b) ⊎ (b ≤ a)
    dec_lt a b = grind arith

    each : (k : ℕ) → 1 ≤ k → k < clocks + 1 → LeavesLeading ports farthest k
    each k one lt = elim (dec_lt k clocks) [
      | inl g ↦ let l = leaves k one g in record { at = l.at; not_behind = omega (arith, l.not_behind, not_less.0); leading = l.leading; differs = l.differs }
      | inr g ↦ last k (omega arith)
    ]

-- pins, then outputs, then a name that can stand behind neither
no_groups : (ps bs more pins outs : List (List ℕ)) (x : List ℕ) → All IsPin ps → All IsOutput bs → (IsOutput x → ⊥) → (bs ≡ [] → IsPin x → ⊥)
    → All IsPin pins → All IsOutput outs → ps ++ (bs ++ (x ∷ more)) ≡ pins ++ outs → ⊥
no_groups [] [] more [] outs x pa ob not_o not_p pp oo e = not_o (All-head IsOutput x more (All-same IsOutput (x ∷ more) outs e oo))
no_groups [] [] more (y ∷ pins) outs x pa ob not_o not_p pp oo e =
    let head : y ≡ x = ap (λ l. get_or l 0 y) (sym e) in not_p refl (subst IsPin head (All-head IsPin y pins pp))
no_groups [] (b ∷ bs) more [] outs x pa ob not_o not_p pp oo e = last (b ∷ bs) (All-same IsOutput (b ∷ (bs ++ (x ∷ more))) outs e oo)
  where
    last : (l : List (List ℕ)) → All IsOutput (l ++ (x ∷ more)) → ⊥
    last [] h = not_o (All-head IsOutput x more h)
    last (y ∷ l) h = last l (All-tail IsOutput y (l ++ (x ∷ more)) h)
no_groups [] (b ∷ bs) more (y ∷ pins) outs x pa ob not_o not_p pp oo e =
    let head : y ≡ b = ap (λ l. get_or l 0 y) (sym e) in
    pin-no_output b (subst IsPin head (All-head IsPin y pins pp)) (All-head IsOutput b bs ob)
no_groups (p ∷ ps) bs more [] outs x pa ob not_o not_p pp oo e =
    pin-no_output p (All-head IsPin p ps pa) (All-head IsOutput p (ps ++ (bs ++ (x ∷ more))) (All-same IsOutput (p ∷ (ps ++ (bs ++ (x ∷ more)))) outs e oo))
no_groups (p ∷ ps) bs more (y ∷ pins) outs x pa ob not_o not_p pp oo e =
    no_groups ps bs more pins outs x (All-tail IsPin p ps pa) ob not_o not_p (All-tail IsPin y pins pp) oo (ap (drop 1) e)

-- what stands behind the leading ports, in two parts and the rest
parts : (names : List (List ℕ)) (p o : ℕ) → names ≡ take p names ++ (take o (drop p names) ++ drop o (drop p names))
parts names p o = sym (take-append-drop p names) ∙ ap (λ l. take p names ++ l) (sym (take-append-drop o (drop p names)))

-- the names of these groups are in order
groups_in_order : (ports : List (List ℕ)) (clocks p o : ℕ) → BeginsGroups ports clocks p o → (names : List (List ℕ))
    → names ≡ leading_ports clocks ++ (take p (drop (clocks + unclocked_count) ports) ++ take o (drop p (drop (clocks + unclocked_count) ports)))
    → AreRoles names (record { clocks = clocks; pins = p; outs = o })
groups_in_order ports clocks p o b names e = record {
  pins = take p (drop (clocks + unclocked_count) ports);
  outs = take o (drop p (drop (clocks + unclocked_count) ports));
  in_order = record {
    some_clock = b.some_clock;
    few_clocks = b.few_clocks;
    pins_are = b.pins_are;
    outs_are = b.outs_are;
    order = e ∙ sym (append_assoc (leading_ports clocks) (take p (drop (clocks + unclocked_count) ports)) (take o (drop p (drop (clocks + unclocked_count) ports))));
  };
  pin_count = length-take-le p (drop (clocks + unclocked_count) ports) b.pins_within;
  out_count = length-take-le o (drop p (drop (clocks + unclocked_count) ports)) b.outs_within;
}

whole : (ports : List (List ℕ)) (clocks p o : ℕ) → BeginsGroups ports clocks p o
    → ports ≡ leading_ports clocks ++ (take p (drop (clocks + unclocked_count) ports) ++ (take o (drop p (drop (clocks + unclocked_count) ports)) ++ drop o (drop p (drop (clocks + unclocked_count) ports))))
whole ports clocks p o b =
    sym (take-append-drop (clocks + unclocked_count) ports) ∙ ap (λ l. l ++ drop (clocks + unclocked_count) ports) b.leading
    ∙ ap (λ l. leading_ports clocks ++ l) (parts (drop (clocks + unclocked_count) ports) p o)

pub groups_found : (ports : List (List ℕ)) (clocks p o : ℕ) → BeginsGroups ports clocks p o → length ports ≤ clocks + unclocked_count + (p + o)
    → AreRoles ports (record { clocks = clocks; pins = p; outs = o })
groups_found ports clocks p o b le =
    let rest = drop p (drop (clocks + unclocked_count) ports) in
    let all : take o rest ++ drop o rest ≡ take o rest = take-append-drop o rest ∙ sym (take_all o rest (omega (arith, length-drop p (drop (clocks + unclocked_count) ports), length-drop (clocks + unclocked_count) ports, le, b.pins_within, b.outs_within, b.long))) in
    groups_in_order ports clocks p o b ports (whole ports clocks p o b ∙ ap (λ l. leading_ports clocks ++ (take p (drop (clocks + unclocked_count) ports) ++ l)) all)

begins : (names : List (List ℕ)) (roles : Roles) → AreRoles names roles → BeginsRoles names
begins names roles h = record { more = []; roles = roles; in_order = subst (λ l. AreRoles l roles) (sym (append-nil names)) h }

-- with the name behind these groups no order begins
groups_stop : (ports : List (List ℕ)) (clocks p o : ℕ) → BeginsGroups ports clocks p o
    → (IsOutput (get_or (drop p (drop (clocks + unclocked_count) ports)) o []) → ⊥) → (o ≡ 0 → IsPin (get_or (drop (clocks + unclocked_count) ports) p []) → ⊥)
    → (names : List (List ℕ))
    → names ≡ (leading_ports clocks ++ (take p (drop (clocks + unclocked_count) ports) ++ take o (drop p (drop (clocks + unclocked_count) ports)))) ++ get_or (drop p (drop (clocks + unclocked_count) ports)) o [] ∷ []
    → BeginsRoles names → ⊥
groups_stop ports clocks p o b not_o not_p names e c =
    let lead = leading_ports clocks in
    let after = drop (clocks + unclocked_count) ports in
    let rest = drop p after in
    let ps = take p after in
    let os = take o rest in
    let x = get_or rest o [] in
    let flat : names ++ c.more ≡ lead ++ (ps ++ (os ++ (x ∷ c.more))) =
    ap (λ l. l ++ c.more) e ∙ append_assoc (lead ++ (ps ++ os)) (x ∷ []) c.more ∙ append_assoc lead (ps ++ os) (x ∷ c.more) ∙ ap (λ l. lead ++ l) (append_assoc ps os (x ∷ c.more)) in
    let order = (c.in_order).in_order in
    let same : ps ++ (os ++ (x ∷ c.more)) ≡ (c.in_order).pins ++ (c.in_order).outs =
    behind-same clocks (c.roles).clocks _ _ b.few_clocks order.few_clocks (sym flat ∙ joined order) in
    let none : os ≡ [] → o ≡ 0 = λ z. sym (length-take-le o rest b.outs_within) ∙ ap length z in
    no_groups ps os c.more (c.in_order).pins (c.in_order).outs x b.pins_are b.outs_are not_o
    (λ z pin. not_p (none z) (subst IsPin (ap (λ k. get_or rest k []) (none z) ∙ get_or-drop p after 0 [] ∙ ap (λ k. get_or after k []) (plus_none p)) pin)) order.pins_are order.outs_are same
  where
    plus_none : (n : ℕ) → n + 0 ≡ n
    plus_none n = omega arith

pub leaves_groups : (ports : List (List ℕ)) (clocks p o : ℕ) → BeginsGroups ports clocks p o → clocks + unclocked_count + (p + o) < length ports
    → (IsOutput (get_or (drop p (drop (clocks + unclocked_count) ports)) o []) → ⊥) → (o ≡ 0 → IsPin (get_or (drop (clocks + unclocked_count) ports) p []) → ⊥)
    → LeavesRolesAt ports (clocks + unclocked_count + (p + o))
leaves_groups ports clocks p o b lt not_o not_p =
    let lead = leading_ports clocks in
    let names = drop (clocks + unclocked_count) ports in
    let rest = drop p names in
    let ps = take p names in
    let os = take o rest in
    let x = get_or rest o [] in
    let few_names : length names ≡ length ports - (clocks + unclocked_count) = length-drop (clocks + unclocked_count) ports in
    let few_rest : length rest ≡ length names - p = length-drop p names in
    let long : length (lead ++ (ps ++ os)) ≡ clocks + unclocked_count + (p + o) =
    length-append lead (ps ++ os) ∙ omega (arith, length-append ps os, length-leading clocks b.few_clocks, length-take-le p names b.pins_within, length-take-le o rest b.outs_within) in
    let front : take (clocks + unclocked_count + (p + o)) ports ≡ lead ++ (ps ++ os) =
    ap (take (clocks + unclocked_count + (p + o))) (whole ports clocks p o b ∙ ap (λ l. lead ++ l) (sym (append_assoc ps os (drop o rest))) ∙ sym (append_assoc lead (ps ++ os) (drop o rest)))
    ∙ take_at (lead ++ (ps ++ os)) (drop o rest) (clocks + unclocked_count + (p + o)) long in
    let at : get_or ports (clocks + unclocked_count + (p + o)) [] ≡ x =
    sym (get_or-drop (clocks + unclocked_count) ports (p + o) []) ∙ sym (get_or-drop p names o []) in
    let longer : take (clocks + unclocked_count + (p + o) + 1) ports ≡ (lead ++ (ps ++ os)) ++ x ∷ [] =
    take_more ports (clocks + unclocked_count + (p + o)) [] lt ∙ cc (front, at) in
    let stops : BeginsRoles (take (clocks + unclocked_count + (p + o) + 1) ports) → ⊥ =
    λ c. groups_stop ports clocks p o b not_o not_p (take (clocks + unclocked_count + (p + o) + 1) ports) longer c in
    record {
      no_order = λ roles h. stops (BeginsRoles-front ports (clocks + unclocked_count + (p + o) + 1) (begins ports roles h));
      within = omega arith;
      before = rw front (begins (lead ++ (ps ++ os)) (record { clocks = clocks; pins = p; outs = o }) (groups_in_order ports clocks p o b (lead ++ (ps ++ os)) refl));
      first = λ _ c. stops c;
    }

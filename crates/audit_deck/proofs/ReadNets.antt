-- What cells read: the dynamic net of each gate, the devices of a cell, and the graph of all reads.
use Rattle.std.specs.Prelude.{Bool, Some, slice_get}
use Rattle.std.proofs.Common.{List, [], ap, arith, false, get_or, inl, inr, length, refl, subst, sym, true, ℕ, ◌++◌, ◌+◌, ◌<◌, ◌∙◌, ◌∷◌, ◌≡◌}
use Rattle.std.proofs.lemmas.List.{get_or_past, length-append}
use Rattle.std.proofs.lemmas.Option.{slice_get-get_or}
use Rattle.dom_base.proofs.Decided.{dec_nat, lt_or_ge}
use Rattle.dom_base.proofs.Lists.{Contains-slice_get, slice_get-append, slice_get-contained, slice_get-push, slice_get-push_cases}
use Rattle.deck.specs.declared.device.Device.{Device}
use Rattle.deck.specs.declared.role.Roles.{Roles}
use Rattle.graph_order.specs.Components.{AreCircleMarks}
use Rattle.graph_order.specs.Orders.{IsGraph, IsSuccessor, LeadsOn, more, step, successors}
use Rattle.graph_order.proofs.Joined.{leads_on}
use Rattle.deck_audit.specs.Audits.{front, output}
use Rattle.deck_audit.specs.Rules.{DependsOn, HasFront, Reads, further, reads}
use Rattle.deck_audit.specs.Words.{IsDynamic, IsInverterOutput, IsOutputOf, IsReachedDevice, Reached}
use Rattle.audit_deck.specs.Broken.{IsKept}
use Rattle.audit_deck.specs.Indexes.{AreInRange, AreThose}
use Rattle.audit_deck.specs.Loops.{AreReads, HasOtherLeaf, HasThose, IsOnLoop, IsReachedAt, IsReadAmong, IsReadAt, IsReader, SomeHasOtherGate}
use Rattle.audit_deck.specs.Marks.{AreMarks}
use Rattle.audit_deck.specs.Walks.{IsChannelAmong, MeetsThose}
use Rattle.audit_deck.proofs.Breaks.{dynamic_low}
use Rattle.audit_deck.proofs.FirstComplements.{same_input}
use Rattle.audit_deck.proofs.Found.{one_device}

module _ (ds : List Device) (roles : Roles) where
  -- where rules 1 and 2 hold, the output of a dynamic net inverts it
  module _ (nets : ℕ) (fronts : IsKept ds roles nets 1) (outputs : IsKept ds roles nets 2) where
    pub inverts_not_not : (y g : ℕ) → IsDynamic ds roles y → IsOutputOf ds y g → (IsInverterOutput ds g y → ⊥) → ⊥
    inverts_not_not y g dynamic (p, d, at, k, ends, gate) away =
        fronts y (front dynamic (λ clock o f. outputs y (output clock o dynamic f (λ h. away (subst (λ x. IsInverterOutput ds x y) (same clock o f) h.1)))))
      where
        same : (clock o : ℕ) → HasFront ds roles y clock o → o ≡ g
        same clock o f =
            let e = f.one_keeper p d at ends k in
            sym f.keeper_is.1 ∙ ap (λ (v : Device). v.gate) (one_device ds p f.keeper_device d (subst (λ x. slice_get ds x ≡ Some f.keeper_device) (sym e) f.keeper_there) at) ∙ gate

    pub one_output : (y z g : ℕ) → IsDynamic ds roles y → IsOutputOf ds y g → IsDynamic ds roles z → IsOutputOf ds z g → y ≡ z
    one_output y z g dy oy dz oz = elim (dec_nat y z) [
      | inl e ↦ e
      | inr ne ↦ absurd (inverts_not_not y g dy oy (λ v. inverts_not_not z g dz oz (λ w. ne (same_input ds g y z v w))))
    ]

    -- an inverter at the output of a dynamic net has that as its input
    pub input_is : (y g i : ℕ) → IsDynamic ds roles y → IsOutputOf ds y g → IsInverterOutput ds g i → y ≡ i
    input_is y g i dy oy v = elim (dec_nat y i) [
      | inl e ↦ e
      | inr ne ↦ absurd (inverts_not_not y g dy oy (λ w. ne (same_input ds g y i w v)))
    ]

    pub one_read : (p y z : ℕ) → IsReadAt ds roles p y → IsReadAt ds roles p z → y ≡ z
    one_read p y z (d, inner, dy, oy) (e, other, dz, oz) =
        one_output y z d.gate dy oy dz (subst (λ (v : Device). IsOutputOf ds z v.gate) (one_device ds p e d other.0 inner.0) oz)

  -- the devices of a cell
  pub cell_met : (x : ℕ) (nets places : List ℕ) → AreThose (Reached ds roles x) nets → AreThose (IsChannelAmong ds nets) places
      → AreThose (IsReachedAt ds roles x) places
  cell_met x nets places reached channels = record { sound = λ j p at. to p (channels.sound j p at); full = λ p h. channels.full p (from p h); once = channels.once }
    where
      to : (p : ℕ) → IsChannelAmong ds nets p → IsReachedAt ds roles x p
      to p (n, met, ((d, at, ends), (e, there, k))) =
          (d, at, (ap (λ (v : Device). v.kind) (one_device ds p d e at there) ∙ k, n, reached.sound met.0 n met.1, ends))

      from : (p : ℕ) → IsReachedAt ds roles x p → IsChannelAmong ds nets p
      from p (d, at, (k, n, r, ends)) = (n, reached.full n r, ((d, at, ends), (d, at, k)))

  module _ (x : ℕ) (places : List ℕ) (are : AreThose (IsReachedAt ds roles x) places) (dynamic : IsDynamic ds roles x) where
    pub other_leaf : SomeHasOtherGate ds roles places → HasOtherLeaf ds roles x
    other_leaf (p, met, (d, inner, away)) =
        let y = are.sound met.0 p met.1 in
        (dynamic, p, d, inner.0, (subst (IsReachedDevice ds roles x) (one_device ds p y.0 d y.1 inner.0) y.2, inner.1, inner.2), away)

    pub reads_to : (y : ℕ) → IsReadAmong ds roles places y → IsReader ds roles x y
    reads_to y (p, met, (d, inner, dy, oy)) =
        let z = are.sound met.0 p met.1 in
        (dynamic, (p, d, inner.0, (subst (IsReachedDevice ds roles x) (one_device ds p z.0 d z.1 inner.0) z.2, inner.1, inner.2), dy, oy))

  module _ (x : ℕ) (places : List ℕ) (are : AreThose (IsReachedAt ds roles x) places) where
    pub no_other_leaf : (SomeHasOtherGate ds roles places → ⊥) → HasOtherLeaf ds roles x → ⊥
    no_other_leaf none (dynamic, p, d, at, (reached, drain, source), away) = none (p, are.full p (d, at, reached), (d, (at, drain, source), away))

    pub reads_from : (y : ℕ) → IsReader ds roles x y → IsReadAmong ds roles places y
    reads_from y (dynamic, (p, d, at, (reached, drain, source), dy, oy)) = (p, are.full p (d, at, reached), (d, (at, drain, source), dy, oy))

    pub reads_are : IsDynamic ds roles x → (numbers : List ℕ) → HasThose (IsReadAmong ds roles places) numbers → HasThose (IsReader ds roles x) numbers
    reads_are dynamic numbers h = record {
      sound = λ y met. reads_to x places are dynamic y (h.sound y met);
      full = λ y r. h.full y (reads_from y r);
    }

-- what a list has that was made from nothing
pub has_those : (P : ℕ → Type 0) (numbers : List ℕ) → MeetsThose P [] numbers → HasThose P numbers
has_those P numbers h = record {
  sound = λ n met. elim (h.sound n met) [ inl y ↦ let z : slice_get [] y.0 ≡ Some n = y.1 in absurd cc | inr y ↦ y ];
  full = h.full;
}

pub meets_pushed : (P : ℕ → Type 0) (before : List ℕ) (n : ℕ) → P n → ((m : ℕ) → P m → m ≡ n) → MeetsThose P before (before ++ n ∷ [])
meets_pushed P before n has only = record {
  kept = λ i m at. slice_get-append before (n ∷ []) i m at;
  sound = λ m met. elim (slice_get-push_cases before n met.0 m met.1) [ inl y ↦ inl (met.0, y) | inr y ↦ inr (subst P y.1 has) ];
  full = λ m p. (length before, slice_get-push before n ∙ ap Some (sym (only m p)));
}

pub has_none : (P : ℕ → Type 0) → ((n : ℕ) → P n → ⊥) → HasThose P []
has_none P none = record { sound = λ n met. let z : slice_get [] met.0 ≡ Some n = met.1 in absurd cc; full = λ n p. absurd (none n p) }

module _ (ds : List Device) (roles : Roles) where
  -- the lists of the first nets
  pub reads_begun : AreReads ds roles 0 []
  reads_begun = record { count = refl; each = λ x next at. absurd cc }

  pub reads_more : (k : ℕ) (nodes : List (List ℕ)) (next : List ℕ) → AreReads ds roles k nodes → HasThose (IsReader ds roles k) next
      → AreReads ds roles (k + 1) (nodes ++ next ∷ [])
  reads_more k nodes next h has = record {
    count = let z = length-append nodes (next ∷ []) in omega (arith, z, h.count);
    each = λ x l at. elim (slice_get-push_cases nodes next x l at) [
      | inl y ↦ h.each x l y
      | inr y ↦ subst (λ n. HasThose (IsReader ds roles n) l) (sym (y.0 ∙ h.count)) (subst (HasThose (IsReader ds roles k)) y.1 has)
    ];
  }

  module _ (nets : ℕ) (nodes : List (List ℕ)) (are : AreReads ds roles nets nodes) (in_range : AreInRange ds nets) where
    pub reads_graph : IsGraph nodes
    reads_graph i d lt j e low =
        let next : List ℕ = get_or nodes i d in
        let y : ℕ = get_or next j e in
        let r = (are.each i next (slice_get-get_or nodes i d lt)).sound y (j, slice_get-get_or next j e low) in
        let z = dynamic_low ds roles nets in_range y r.1.4 in
        omega (arith, z, are.count)

    pub successor_to : (x y : ℕ) → IsSuccessor nodes x y → IsReader ds roles x y
    successor_to x y c = elim (lt_or_ge x (length nodes)) [
      | inl lt ↦ (are.each x (successors nodes x) (slice_get-get_or nodes x [] lt)).sound y (slice_get-contained (successors nodes x) y c)
      | inr past ↦
          let none : length (successors nodes x) ≡ 0 = ap length (get_or_past nodes x [] past) in
          absurd (omega (arith, none, c.1))
    ]

    pub reader_to : (x y : ℕ) → IsReader ds roles x y → IsSuccessor nodes x y
    reader_to x y r =
        let lt : x < length nodes = omega (arith, dynamic_low ds roles nets in_range x r.0, are.count) in
        let met = (are.each x (successors nodes x) (slice_get-get_or nodes x [] lt)).full y r in
        Contains-slice_get (successors nodes x) met.0 y met.1

    depends_then : {x y z : ℕ} → Reads ds roles x y → DependsOn ds roles y z → DependsOn ds roles x z
    depends_then r (reads q) = further (reads r) q
    depends_then r (further d q) = further (depends_then r d) q

    leads_depend : {x y : ℕ} → LeadsOn nodes x y → DependsOn ds roles x y
    leads_depend (step {a} {b} n) = reads (successor_to a b n).1
    leads_depend (more {a} {b} {c} n rest) = depends_then (successor_to a b n).1 (leads_depend rest)

    starts_dynamic : {x y : ℕ} → LeadsOn nodes x y → IsDynamic ds roles x
    starts_dynamic (step {a} {b} n) = (successor_to a b n).0
    starts_dynamic (more {a} {b} {c} n rest) = (successor_to a b n).0

    ends_dynamic : {x y : ℕ} → DependsOn ds roles x y → IsDynamic ds roles y
    ends_dynamic (reads r) = r.4
    ends_dynamic (further d r) = r.4

    depends_lead : {x y : ℕ} → IsDynamic ds roles x → DependsOn ds roles x y → LeadsOn nodes x y
    depends_lead {x} dynamic (reads {y} r) = step (reader_to x y (dynamic, r))
    depends_lead {x} dynamic (further {y} {z} d r) = leads_on (depends_lead dynamic d) (step (reader_to y z (ends_dynamic d, r)))

    pub circle_to : (x : ℕ) → LeadsOn nodes x x → IsOnLoop ds roles x
    circle_to x l = (starts_dynamic l, leads_depend l)

    pub circle_from : (x : ℕ) → IsOnLoop ds roles x → LeadsOn nodes x x
    circle_from x (dynamic, d) = depends_lead dynamic d

    pub circles_are : (marks : List Bool) → AreCircleMarks nodes marks → AreMarks (IsOnLoop ds roles) nets marks
    circles_are marks h = record {
      count = h.count ∙ are.count;
      yes = λ n at. circle_to n ((h.marked n true at).0 refl);
      no = λ n at loop. let z : false ≡ true = (h.marked n false at).1 (circle_from n loop) in cc;
    }

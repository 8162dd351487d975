-- The places of words that are appended word by word, part by part and model by model.
use Rattle.std.proofs.Common.{◌≡◌, ℕ, suc, ◌≤◌, ◌<◌, ◌+◌, ◌-◌, ◌⊎◌, inl, inr, List, [], ◌∷◌, ◌++◌, length, drop, take, map, Some, refl, ap, sym, ◌∙◌, subst, arith, append-nil, append_assoc}
use Rattle.std.specs.Prelude.{Contains, slice_get, slice_index_or}
use Rattle.std.proofs.lemmas.Bool.{cases_lt}
use Rattle.std.proofs.lemmas.List.{length-append, length-map, drop-append-le, drop_all, take_all}
use Rattle.dom_base.proofs.Lists.{Contains-first, Contains-later, map-push}
use Rattle.numbered_file.specs.declared.parts.PartAt.{PartAt}
use Rattle.numbered_file.specs.declared.parts.PartKind.{PartKind}
use Rattle.numbered_file.specs.declared.parts.PartKind.TheVariants as at
use Rattle.numbered_file.specs.NumberedData.{NumberedData}
use Rattle.numbered_file.specs.Numbered.{IsNumbered, between, models_in}
use Rattle.numbered_file.specs.Places.{IsPartOf, first_input, first_output, first_word, inputs_at, outputs_at, words_at}
use Rattle.numbered_file.proofs.Growth.{between-grows}
use Rattle.numbered_file.proofs.Places.{first_input-more, first_output-more, first_part-more, first_word-more, length-inputs_at, length-outputs_at, length-words_at}
use Rattle.local_names.specs.LocalNames.{AreLocals, IsInstance, IsUnitOf, firsts, own_words, seconds}
use Rattle.local_names.specs.LostFormals.{HasLostFormal, IsFormalLost, IsPartLost}
use Rattle.local_names.specs.Placed.{AreBindingsPlaced, AreInputsPlaced, AreOutputsPlaced, AreWordsPlaced, HasBindings, IsPartPlaced, IsPlaced}
use Rattle.local_names.specs.Units.{AreUnits}
use Rattle.model_calls.proofs.Recursions.{names_once}

-- numbers one after the other

pub placed-none : (names before : List ℕ) → IsPlaced names [] before before
placed-none names before = record { locals = []; after_is = sym (append-nil before); are = refl }

pub placed-more : (names numbers before now after : List ℕ) (number local : ℕ) → IsPlaced names numbers before now
    → slice_get names local ≡ Some number → after ≡ now ++ local ∷ [] → IsPlaced names (numbers ++ number ∷ []) before after
placed-more names numbers before now after number local p is pushed = record {
  locals = p.locals ++ local ∷ [];
  after_is = pushed ∙ ap (λ l. l ++ local ∷ []) p.after_is ∙ append_assoc before p.locals (local ∷ []);
  are = map-push (slice_get names) p.locals local ∙ (λ i. p.are i ++ is i ∷ []) ∙ sym (map-push Some numbers number);
}

locals-count : (names numbers locals : List ℕ) → AreLocals names numbers locals → length locals ≡ length numbers
locals-count names numbers locals are = sym (length-map locals (slice_get names)) ∙ ap length are ∙ length-map numbers Some

pub placed-card : (kind : PartKind) (names unit_names words before after : List ℕ) → (kind ≡ at.Instance → ⊥) → IsPlaced names words before after
    → IsPartPlaced kind names unit_names words before after
placed-card (at.Table on) names unit_names words before after other p =
    record { locals = p.locals; after_is = p.after_is; count = locals-count names words p.locals p.are; own = p.are; formals = λ e. absurd (other e) }
placed-card (at.Latch edge init) names unit_names words before after other p =
    record { locals = p.locals; after_is = p.after_is; count = locals-count names words p.locals p.are; own = p.are; formals = λ e. absurd (other e) }
placed-card at.Instance names unit_names words before after other p = absurd (other refl)

-- formals and actuals in turn

bindings-none : (unit_names names : List ℕ) → AreBindingsPlaced unit_names names [] []
bindings-none unit_names names = record { count = refl; formals = refl; actuals = refl }

bindings-one : (unit_names names : List ℕ) (word : ℕ) → AreBindingsPlaced unit_names names (word ∷ []) (0 ∷ [])
bindings-one unit_names names word = record { count = refl; formals = refl; actuals = refl }

bindings-more : (unit_names names words locals : List ℕ) (formal actual f a : ℕ) → slice_get unit_names f ≡ Some formal → slice_get names a ≡ Some actual
    → AreBindingsPlaced unit_names names words locals → AreBindingsPlaced unit_names names (formal ∷ actual ∷ words) (f ∷ a ∷ locals)
bindings-more unit_names names words locals formal actual f a is_formal is_actual p = record {
  count = ap (λ n. suc (suc n)) p.count;
  formals = λ i. is_formal i ∷ p.formals i;
  actuals = λ i. is_actual i ∷ p.actuals i;
}

-- once the places of the rest are appended, those of all are
abbrev pub GoesOn : List ℕ → List ℕ → List ℕ → List ℕ → List ℕ → List ℕ → Type 0
GoesOn unit_names names words before now rest =
    (more : List ℕ) → AreBindingsPlaced unit_names names rest more → HasBindings unit_names names words before (now ++ more)

pub goes-from : (unit_names names words before : List ℕ) → GoesOn unit_names names words before before words
goes-from unit_names names words before more are = record { locals = more; after_is = refl; are = are }

pub goes-on : (unit_names names words before now then after rest : List ℕ) (formal actual f a : ℕ)
    → slice_get unit_names f ≡ Some formal → slice_get names a ≡ Some actual → then ≡ now ++ f ∷ [] → after ≡ then ++ a ∷ []
    → GoesOn unit_names names words before now (formal ∷ actual ∷ rest) → GoesOn unit_names names words before after rest
goes-on unit_names names words before now then after rest formal actual f a is_formal is_actual one two on more are =
    let all : now ++ f ∷ a ∷ more ≡ after ++ more =
    sym (append_assoc now (f ∷ []) (a ∷ more)) ∙ ap (λ l. l ++ a ∷ more) (sym one) ∙ sym (append_assoc then (a ∷ []) more) ∙ ap (λ l. l ++ more) (sym two) in
    subst (HasBindings unit_names names words before) all (on (f ∷ a ∷ more) (bindings-more unit_names names rest more formal actual f a is_formal is_actual are))

pub goes-none : (unit_names names words before now rest : List ℕ) → GoesOn unit_names names words before now rest → length rest ≡ 0
    → HasBindings unit_names names words before now
goes-none unit_names names words before now [] on none =
    subst (HasBindings unit_names names words before) (append-nil now) (on [] (bindings-none unit_names names))
goes-none unit_names names words before now (x ∷ rest) on none = absurd (omega (arith, none))

pub goes-last : (unit_names names words before now after rest : List ℕ) → GoesOn unit_names names words before now rest → length rest < 2
    → 0 < length rest → after ≡ now ++ 0 ∷ [] → HasBindings unit_names names words before after
goes-last unit_names names words before now after [] on few some is = absurd (omega (arith, some))
goes-last unit_names names words before now after (x ∷ []) on few some is =
    subst (HasBindings unit_names names words before) (sym is) (on (0 ∷ []) (bindings-one unit_names names x))
goes-last unit_names names words before now after (x ∷ y ∷ rest) on few some is = absurd (omega (arith, few))

-- the same, and where a formal of the rest is lost, one of all is
pub record BindingsGoOn (unit_names names words before now rest : List ℕ) : Type 0 where
  pub goes : GoesOn unit_names names words before now rest
  pub lost : IsFormalLost unit_names rest → IsFormalLost unit_names words

pub go-from : (unit_names names words before : List ℕ) → BindingsGoOn unit_names names words before before words
go-from unit_names names words before = record { goes = goes-from unit_names names words before; lost = λ l. l }

pub go-on : (unit_names names words before now then after rest : List ℕ) (formal actual f a : ℕ)
    → slice_get unit_names f ≡ Some formal → slice_get names a ≡ Some actual → then ≡ now ++ f ∷ [] → after ≡ then ++ a ∷ []
    → BindingsGoOn unit_names names words before now (formal ∷ actual ∷ rest) → BindingsGoOn unit_names names words before after rest
go-on unit_names names words before now then after rest formal actual f a is_formal is_actual one two on = record {
  goes = goes-on unit_names names words before now then after rest formal actual f a is_formal is_actual one two on.goes;
  lost = λ l. on.lost (record { formal = l.formal; bound = Contains-later formal (firsts rest) l.formal l.bound; none = l.none });
}

pub go-lost : (unit_names names words before now rest : List ℕ) (formal actual : ℕ) → BindingsGoOn unit_names names words before now (formal ∷ actual ∷ rest)
    → (Contains unit_names formal → ⊥) → IsFormalLost unit_names words
go-lost unit_names names words before now rest formal actual on none =
    on.lost (record { formal = formal; bound = Contains-first formal (firsts rest); none = none })

-- the same where the formal and the actual are the first two words of the rest
module _ (unit_names names words before now rest : List ℕ) (some : 2 ≤ length rest) (on : BindingsGoOn unit_names names words before now rest) where
  pub go-on_from : (then after next : List ℕ) (f a : ℕ) → slice_get unit_names f ≡ Some (slice_index_or rest 0 0)
      → slice_get names a ≡ Some (slice_index_or rest 1 0) → then ≡ now ++ f ∷ [] → after ≡ then ++ a ∷ []
      → next ≡ take (length rest - 2) (drop 2 rest)
      → BindingsGoOn unit_names names words before after next
  go-on_from then after next f a is_formal is_actual one two is = by rest some on is_formal is_actual is
    where
      by : (rest : List ℕ) → 2 ≤ length rest → BindingsGoOn unit_names names words before now rest → slice_get unit_names f ≡ Some (slice_index_or rest 0 0)
          → slice_get names a ≡ Some (slice_index_or rest 1 0) → next ≡ take (length rest - 2) (drop 2 rest) → BindingsGoOn unit_names names words before after next
      by [] some on is_formal is_actual is = absurd (omega (arith, some))
      by (x ∷ []) some on is_formal is_actual is = absurd (omega (arith, some))
      by (x ∷ y ∷ rest) some on is_formal is_actual is = subst (BindingsGoOn unit_names names words before after) (sym (is ∙ take_all (length (x ∷ y ∷ rest) - 2) rest (omega arith)))
          (go-on unit_names names words before now then after rest x y f a is_formal is_actual one two on)

  pub go-lost_from : (Contains unit_names (slice_index_or rest 0 0) → ⊥) → IsFormalLost unit_names words
  go-lost_from none = by rest some on none
    where
      by : (rest : List ℕ) → 2 ≤ length rest → BindingsGoOn unit_names names words before now rest → (Contains unit_names (slice_index_or rest 0 0) → ⊥)
          → IsFormalLost unit_names words
      by [] some on none = absurd (omega (arith, some))
      by (x ∷ []) some on none = absurd (omega (arith, some))
      by (x ∷ y ∷ rest) some on none = go-lost unit_names names words before now rest x y on none

pub formal-lost : (d : NumberedData) (models : List (List ℕ)) (units : List ℕ) (m k : ℕ) (part : PartAt) → AreUnits d units → m < length d.models
    → IsPartOf d m k → slice_get d.parts k ≡ Some part
    → IsPartLost part.kind (slice_index_or models (slice_index_or units k 0) []) (words_at d k) → HasLostFormal d models
formal-lost d models units m k part known within inside there lost =
    let instance : IsInstance d k = record { part = part; there = there; kind_is = lost.instance } in
    record {
      model = m;
      place = k;
      unit = slice_index_or units k 0;
      within = within;
      of_model = inside;
      instance = instance;
      named = known.units_are k instance;
      lost = lost.lost;
    }

pub placed-instance : (names unit_names words bindings before now after : List ℕ) → 0 < length words → bindings ≡ drop 1 words → now ≡ before ++ 0 ∷ []
    → HasBindings unit_names names bindings now after → IsPartPlaced at.Instance names unit_names words before after
placed-instance names unit_names [] bindings before now after some is one h = absurd (omega (arith, some))
placed-instance names unit_names (word ∷ words) bindings before now after some is one h = record {
  locals = 0 ∷ h.locals;
  after_is = h.after_is ∙ ap (λ l. l ++ h.locals) one ∙ append_assoc before (0 ∷ []) h.locals;
  count = ap suc (h.are.count ∙ ap length is);
  own = h.are.actuals ∙ ap (λ l. map Some (seconds l)) is;
  formals = λ e. h.are.formals ∙ ap (λ l. map Some (firsts l)) is;
}

pub placed-no_instance : (names unit_names before : List ℕ) → IsPartPlaced at.Instance names unit_names [] before before
placed-no_instance names unit_names before = record { locals = []; after_is = sym (append-nil before); count = refl; own = refl; formals = λ e. refl }

-- pieces of a list one behind the other

between-behind : {X : Type 0} (start end : ℕ) (before more : List X) → length before ≡ start → end - start ≡ length more → between start end (before ++ more) ≡ more
between-behind start end before more count size =
    ap (take (end - start)) (drop-append-le start before more (omega (arith, count))
    ∙ ap (λ l. l ++ more) (drop_all start before (omega (arith, count))))
    ∙ take_all (end - start) more (omega (arith, size))

module _ (first : ℕ → ℕ) (rises : (j k : ℕ) → j ≤ k → first j ≤ first k) (P : ℕ → List ℕ → Type 0) where
  pub each-more : (before after more : List ℕ) (done : ℕ) → length before ≡ first done → after ≡ before ++ more → length more ≡ first (done + 1) - first done
      → ((k : ℕ) → k < done → P k (between (first k) (first (k + 1)) before)) → P done more
      → (k : ℕ) → k < done + 1 → P k (between (first k) (first (k + 1)) after)
  each-more before after more done count is size each this k l = by (cases_lt k done)
    where
      by : (k < done) ⊎ (done ≤ k) → P k (between (first k) (first (k + 1)) after)
      by (inl old) =
          let within = rises (k + 1) done (omega (arith, old)) in
          subst (P k) (sym (ap (between (first k) (first (k + 1))) is
          ∙ between-grows (first k) (first (k + 1)) before more (rises k (k + 1) (omega arith)) (omega (arith, within, count)))) (each k old)
      by (inr new) =
          let same : done ≡ k = omega (arith, new, l) in
          subst (λ n. P n (between (first n) (first (n + 1)) after)) same
          (subst (P done) (sym (ap (between (first done) (first (done + 1))) is ∙ between-behind (first done) (first (done + 1)) before more count (sym size))) this)

  pub count-more : (before after more : List ℕ) (done : ℕ) → length before ≡ first done → after ≡ before ++ more
      → length more ≡ first (done + 1) - first done → length after ≡ first (done + 1)
  count-more before after more done count is size = omega (arith, ap length is, length-append before more, count, size, rises done (done + 1) (omega arith))

-- a part is of one model

module _ (d : NumberedData) (h : IsNumbered d) where
  not_before : (m n k : ℕ) → m < n → IsPartOf d m k → IsPartOf d n k → ⊥
  not_before m n k l p q = omega (arith, p.1, q.0, first_part-more d h (m + 1) n (omega (arith, l)))

  pub part-once : (m n k : ℕ) → IsPartOf d m k → IsPartOf d n k → m ≡ n
  part-once m n k p q = by (cases_lt m n) (cases_lt n m)
    where
      by : (m < n) ⊎ (n ≤ m) → (n < m) ⊎ (m ≤ n) → m ≡ n
      by (inl l) _ = absurd (not_before m n k l p q)
      by (inr a) (inl l) = absurd (not_before n m k l q p)
      by (inr a) (inr b) = omega (arith, a, b)

  -- one model more

  pub inputs-more : (models : List (List ℕ)) (m : ℕ) (before after : List ℕ) → AreInputsPlaced d models m before
      → IsPlaced (slice_index_or models m []) (inputs_at d m) before after → AreInputsPlaced d models (m + 1) after
  inputs-more models m before after so_far p =
      let size = locals-count (slice_index_or models m []) (inputs_at d m) p.locals p.are ∙ length-inputs_at d h m in
      record {
        count = count-more (first_input d) (first_input-more d h) (λ k l. Unit {0}) before after p.locals m so_far.count p.after_is size;
        each = each-more (first_input d) (first_input-more d h) (λ k l. AreLocals (slice_index_or models k []) (inputs_at d k) l)
            before after p.locals m so_far.count p.after_is size so_far.each p.are;
      }

  pub outputs-more : (models : List (List ℕ)) (m : ℕ) (before after : List ℕ) → AreOutputsPlaced d models m before
      → IsPlaced (slice_index_or models m []) (outputs_at d m) before after → AreOutputsPlaced d models (m + 1) after
  outputs-more models m before after so_far p =
      let size = locals-count (slice_index_or models m []) (outputs_at d m) p.locals p.are ∙ length-outputs_at d h m in
      record {
        count = count-more (first_output d) (first_output-more d h) (λ k l. Unit {0}) before after p.locals m so_far.count p.after_is size;
        each = each-more (first_output d) (first_output-more d h) (λ k l. AreLocals (slice_index_or models k []) (outputs_at d k) l)
            before after p.locals m so_far.count p.after_is size so_far.each p.are;
      }

  -- one part more

  abbrev Own : List (List ℕ) → ℕ → List ℕ → Type 0
  Own models j l = (n : ℕ) (other : PartAt) → IsPartOf d n j → slice_get d.parts j ≡ Some other
      → AreLocals (slice_index_or models n []) (own_words other.kind (words_at d j)) (own_words other.kind l)

  abbrev Formals : List (List ℕ) → ℕ → List ℕ → Type 0
  Formals models j l = (unit : ℕ) → IsInstance d j → IsUnitOf d j unit
      → AreLocals (slice_index_or models unit []) (firsts (drop 1 (words_at d j))) (firsts (drop 1 l))

  pub words-more : (models : List (List ℕ)) (units : List ℕ) (m k : ℕ) (part : PartAt) (before after : List ℕ) → AreUnits d units
      → IsPartOf d m k → slice_get d.parts k ≡ Some part → AreWordsPlaced d models k before
      → IsPartPlaced part.kind (slice_index_or models m []) (slice_index_or models (slice_index_or units k 0) []) (words_at d k) before after
      → AreWordsPlaced d models (k + 1) after
  words-more models units m k part before after known of is so_far p = record {
    count = count-more (first_word d) (first_word-more d h) (λ k l. Unit {0}) before after p.locals k so_far.count p.after_is size;
    own = λ n j other l inside there.
        each-more (first_word d) (first_word-more d h) (Own models) before after p.locals k so_far.count p.after_is size
        (λ j l n other inside there. so_far.own n j other l inside there) own j l n other inside there;
    formals = λ j unit l instance named.
        each-more (first_word d) (first_word-more d h) (Formals models) before after p.locals k so_far.count p.after_is size
        (λ j l unit instance named. so_far.formals j unit l instance named) formals j l unit instance named;
  }
    where
      size : length p.locals ≡ first_word d (k + 1) - first_word d k
      size = p.count ∙ length-words_at d h k

      own : Own models k p.locals
      own n other inside there =
          let same : part ≡ other = let e : Some part ≡ Some other = sym is ∙ there in cc in
          let one = part-once m n k of inside in
          subst (λ q. AreLocals (slice_index_or models n []) (own_words q (words_at d k)) (own_words q p.locals)) (ap (λ (q : PartAt). q.kind) same)
          (subst (λ q. AreLocals (slice_index_or models q []) (own_words part.kind (words_at d k)) (own_words part.kind p.locals)) one p.own)

      formals : Formals models k p.locals
      formals unit instance named =
          let same : instance.part ≡ part = let e : Some instance.part ≡ Some part = sym instance.there ∙ is in cc in
          let one = names_once (models_in d) known.apart (slice_index_or units k 0) unit _ (known.units_are k instance) named in
          subst (λ q. AreLocals (slice_index_or models q []) (firsts (drop 1 (words_at d k))) (firsts (drop 1 p.locals))) one
          (p.formals (sym (ap (λ (q : PartAt). q.kind) same) ∙ instance.kind_is))

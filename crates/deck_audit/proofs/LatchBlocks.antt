-- The places of a block of cards, and the nine cards of a latch.
use Rattle.std.specs.Prelude.{Bool, Contains, Some, false, slice_get, true, ◌≢◌, ◌⊎◌}
use Rattle.std.proofs.Common.{List, [], ap, arith, refl, subst, suc, sym, zero, ℕ, ◌+◌, ◌∙◌, ◌∷◌, ◌≡◌}
use Rattle.std.proofs.lemmas.Option.{same_Some}
use Rattle.dom_base.proofs.Lists.{Contains-first, Contains-later}
use Rattle.dom_base.specs.declared.kind.Kind.{Kind}
use Rattle.dom_base.specs.declared.kind.Kind.TheVariants.{N as nch, P as pch}
use Rattle.deck.specs.NamedDevices.{NamedDevice}
use Rattle.deck.specs.declared.device.Device.{Device}
use Rattle.domino_law.specs.Nets.{At, Lm, Lmb, Ls, Lsb, Master, Net, Next}
use Rattle.domino_law.specs.Spelled.{one_latch}
use Rattle.circuit_law.specs.Counts.{Distinct}
use Rattle.circuit_law.specs.Exchanged.{exchange}
use Rattle.deck_audit.specs.Words.{AreAt, StandsAt}
use Rattle.deck_audit.proofs.OwnCards.{Placed}
use Rattle.deck_audit.proofs.Lists.{all_from, distinct_at}

-- the places that an order gives to a block
pub record BlockPlaces (ds : List Device) (order : List ℕ) (off : ℕ) (es : List Device) : Type 0 where
  pub places : List ℕ
  pub cards : AreAt ds places es
  pub listed : (i p : ℕ) → slice_get places i ≡ Some p → slice_get order (off + i) ≡ Some p
  pub has : (i : ℕ) (e : Device) → slice_get es i ≡ Some e → (p : ℕ) → slice_get order (off + i) ≡ Some p → Contains places p

shifted : (order : List ℕ) (off i p : ℕ) → slice_get order (off + suc i) ≡ Some p → slice_get order (off + 1 + i) ≡ Some p
shifted order off i p e = subst (λ m. slice_get order m ≡ Some p) (shift i) e
  where
    shift : (i : ℕ) → off + suc i ≡ off + 1 + i
    shift i = omega arith

back : (order : List ℕ) (off i p : ℕ) → slice_get order (off + 1 + i) ≡ Some p → slice_get order (off + suc i) ≡ Some p
back order off i p e = subst (λ m. slice_get order m ≡ Some p) (shift i) e
  where
    shift : (i : ℕ) → off + 1 + i ≡ off + suc i
    shift i = omega arith

pub block_places : (ds : List Device) (order : List ℕ) (off : ℕ) (es : List Device) → ((i : ℕ) (e : Device) → slice_get es i ≡ Some e → Placed ds order (off + i) e) → BlockPlaces ds order off es
block_places ds order off [] h = record { places = []; cards = tt; listed = λ i p e. absurd (cc); has = λ i e z. absurd (cc) }
block_places ds order off (e ∷ es) h =
    let x = h 0 e refl in
    let r = block_places ds order (off + 1) es (λ i f z. subst (λ m. Placed ds order m f) (shift i) (h (suc i) f z)) in
    record { places = x.place ∷ r.places; cards = ((x.device, x.there, x.twin), r.cards); listed = listed x r; has = has x r }
  where
    shift : (i : ℕ) → off + suc i ≡ off + 1 + i
    shift i = omega arith

    listed : (x : Placed ds order (off + 0) e) (r : BlockPlaces ds order (off + 1) es) → (i p : ℕ) → slice_get (x.place ∷ r.places) i ≡ Some p → slice_get order (off + i) ≡ Some p
    listed x r zero p z = x.listed ∙ z
    listed x r (suc i) p z = back order off i p (r.listed i p z)

    has : (x : Placed ds order (off + 0) e) (r : BlockPlaces ds order (off + 1) es) → (i : ℕ) (f : Device) → slice_get (e ∷ es) i ≡ Some f → (p : ℕ) → slice_get order (off + i) ≡ Some p → Contains (x.place ∷ r.places) p
    has x r zero f z p l = subst (Contains (x.place ∷ r.places)) (same_Some _ _ (sym x.listed ∙ l)) (Contains-first x.place r.places)
    has x r (suc i) f z p l = Contains-later x.place r.places p (r.has i f z p (shifted order off i p l))

-- they differ
pub distinct_block : (order : List ℕ) → Distinct order → (off : ℕ) (ps : List ℕ) → ((i p : ℕ) → slice_get ps i ≡ Some p → slice_get order (off + i) ≡ Some p) → Distinct ps
distinct_block order d off [] h = tt
distinct_block order d off (p ∷ ps) h =
    (all_from (λ m. m ≢ p) ps (λ i m e z. differ i (distinct_at order d (off + suc i) (off + 0) p (subst (λ m. slice_get order (off + suc i) ≡ Some m) z (h (suc i) m e)) (h 0 p refl))), distinct_block order d (off + 1) ps (λ i q e. shifted order off i q (h (suc i) q e)))
  where
    differ : (i : ℕ) → off + suc i ≡ off + 0 → ⊥
    differ i e = omega (arith, e)

-- two lists of places of the same cards are one, where each card has one index
pub same_places : (ds : List Device) (order : List ℕ) (off : ℕ) (es : List Device) → ((i : ℕ) (e : Device) → slice_get es i ≡ Some e → (p : ℕ) (d : Device) → StandsAt ds p d → (d ≡ e) ⊎ (d ≡ exchange e) → slice_get order (off + i) ≡ Some p)
    → (ps qs : List ℕ) → AreAt ds ps es → AreAt ds qs es → ps ≡ qs
same_places ds order off [] h [] [] a b = refl
same_places ds order off [] h (p ∷ ps) qs a b = absurd a
same_places ds order off [] h [] (q ∷ qs) a b = absurd b
same_places ds order off (e ∷ es) h [] qs a b = absurd a
same_places ds order off (e ∷ es) h (p ∷ ps) [] a b = absurd b
same_places ds order off (e ∷ es) h (p ∷ ps) (q ∷ qs) a b =
    let first : p ≡ q = same_Some _ _ (sym (h 0 e refl p a.0.0 a.0.1 a.0.2) ∙ h 0 e refl q b.0.0 b.0.1 b.0.2) in
    let rest : ps ≡ qs = same_places ds order (off + 1) es (λ i f z p d at t. shifted order off i p (h (suc i) f z p d at t)) ps qs a.1 b.1 in
    (λ i. first i ∷ rest i)

-- the position of a card of a latch, by its gate and its kind
abbrev pub spot : Net → Kind → ℕ
spot Lmb k = 0
spot (At (Next i) at) pch = 1
spot Lm k = 2
spot (At (Next i) at) nch = 3
spot Lsb k = 4
spot (At (Master i) at) pch = 5
spot Ls k = 6
spot (At (Master i) at) nch = 7
spot _ k = 8

pub spot_at : (j : ℕ) (init : Bool) (q : ℕ) (x : NamedDevice Net) → slice_get (one_latch j init) q ≡ Some x → spot x.gate x.kind ≡ q
spot_at j init q x e = by init q e
  where
    is : (y : NamedDevice Net) (n : ℕ) → Some y ≡ Some x → spot y.gate y.kind ≡ n → spot x.gate x.kind ≡ n
    is y n e z = ap (λ (v : NamedDevice Net). spot v.gate v.kind) (sym (same_Some _ _ e)) ∙ z

    by : (init : Bool) (q : ℕ) → slice_get (one_latch j init) q ≡ Some x → spot x.gate x.kind ≡ q
    by init zero e = is _ 0 e refl
    by init (suc zero) e = is _ 1 e refl
    by init (suc (suc zero)) e = is _ 2 e refl
    by init (suc (suc (suc zero))) e = is _ 3 e refl
    by init (suc (suc (suc (suc zero)))) e = is _ 4 e refl
    by init (suc (suc (suc (suc (suc zero))))) e = is _ 5 e refl
    by init (suc (suc (suc (suc (suc (suc zero)))))) e = is _ 6 e refl
    by init (suc (suc (suc (suc (suc (suc (suc zero))))))) e = is _ 7 e refl
    by false (suc (suc (suc (suc (suc (suc (suc (suc zero)))))))) e = is _ 8 e refl
    by true (suc (suc (suc (suc (suc (suc (suc (suc zero)))))))) e = is _ 8 e refl
    by init (suc (suc (suc (suc (suc (suc (suc (suc (suc q))))))))) e = absurd (cc)

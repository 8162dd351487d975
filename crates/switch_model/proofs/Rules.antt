-- The rules of targets, by the drives of sources at the ends of paths.
use Rattle.std.proofs.Common.{◌≡◌, ℕ, Bool, true, List, refl, sym, subst, ◌∙◌, inl, inr}
use Rattle.std.specs.Prelude.{Some, None}
use Rattle.dom_base.specs.declared.tri.Tri.{Tri}
use Rattle.dom_base.specs.declared.tri.Tri.TheVariants.{Unknown}
use Rattle.switch_model.specs.SourceDrives.{Drive, IsDrive, Mixed, Nothing, Only, pull_of}
use Rattle.switch_model.specs.Targets.{Pulls, Disputes, Else}

module _ (D P : ℕ → Type 0) (is_source : ℕ → Bool) (values : List Tri) (within : (s : ℕ) → D s → P s) where
  -- where nothing pulls, no possible path leads to a source
  pub none_pulls : (d p : Drive) → IsDrive (λ s. P s × (is_source s ≡ true)) values p → pull_of d p ≡ None → (s : ℕ) → P s → is_source s ≡ true → ⊥
  none_pulls d Nothing hp e s x y = hp s (x, y)
  none_pulls Nothing (Only v) hp e s x y = absurd (cc)
  none_pulls (Only u) (Only v) hp e s x y = absurd (cc)
  none_pulls Mixed (Only v) hp e s x y = absurd (cc)
  none_pulls Nothing Mixed hp e s x y = absurd (cc)
  none_pulls (Only u) Mixed hp e s x y = absurd (cc)
  none_pulls Mixed Mixed hp e s x y = absurd (cc)

  pub rules-none : (d p : Drive) → IsDrive (λ s. P s × (is_source s ≡ true)) values p → pull_of d p ≡ None → (rest : Tri → Type 0) (v : Tri) → rest v
      → Else (Pulls D P is_source values) (Else (Disputes P is_source) rest) v
  rules-none d p hp e rest v r =
      let no_path = none_pulls d p hp e in
      inr ((λ w h. no_path h.0.0 (within h.0.0 h.0.1) h.0.2), inr ((λ w h. no_path h.0.0 h.0.1 h.0.2), r))

  -- the values of sources are one
  agreed : (v : Tri) → IsDrive (λ s. P s × (is_source s ≡ true)) values (Only v) → (s : ℕ) → D s → is_source s ≡ true → (rest : Tri → Type 0) → Else (Pulls D P is_source values) rest v
  agreed v hp s x y rest = inl ((s, x, y, hp.1 s (within s x, y)), (λ t p q. hp.1 t (p, q)))

  -- two values of sources differ
  disputed : IsDrive (λ s. P s × (is_source s ≡ true)) values Mixed → (rest : Tri → Type 0) → Else (Pulls D P is_source values) (Else (Disputes P is_source) rest) Unknown
  disputed hp rest = inr (
    (λ w h. hp.4 (h.1 hp.0 hp.2.0 hp.2.1 ∙ sym (h.1 hp.1 hp.3.0 hp.3.1))),
    inl ((hp.0, hp.2.0, hp.2.1), refl),
  )

  pub rules-some : (d p : Drive) → IsDrive (λ s. D s × (is_source s ≡ true)) values d → IsDrive (λ s. P s × (is_source s ≡ true)) values p
      → (v : Tri) → pull_of d p ≡ Some v → (rest : Tri → Type 0) → Else (Pulls D P is_source values) (Else (Disputes P is_source) rest) v
  rules-some d Nothing hd hp v e rest = absurd (cc)
  rules-some Nothing (Only u) hd hp v e rest =
      let same : Unknown ≡ v = cc in
      subst (Else (Pulls D P is_source values) (Else (Disputes P is_source) rest)) same
      (inr ((λ w h. hd h.0.0 (h.0.1, h.0.2)), inl ((hp.0.0, hp.0.1.0, hp.0.1.1), refl)))
  rules-some (Only t) (Only u) hd hp v e rest =
      let same : u ≡ v = cc in
      subst (Else (Pulls D P is_source values) (Else (Disputes P is_source) rest)) same (agreed u hp hd.0.0 hd.0.1.0 hd.0.1.1 (Else (Disputes P is_source) rest))
  rules-some Mixed (Only u) hd hp v e rest =
      let same : u ≡ v = cc in
      subst (Else (Pulls D P is_source values) (Else (Disputes P is_source) rest)) same (agreed u hp hd.0 hd.2.0 hd.2.1 (Else (Disputes P is_source) rest))
  rules-some Nothing Mixed hd hp v e rest = let same : Unknown ≡ v = cc in subst (Else (Pulls D P is_source values) (Else (Disputes P is_source) rest)) same (disputed hp rest)
  rules-some (Only t) Mixed hd hp v e rest = let same : Unknown ≡ v = cc in subst (Else (Pulls D P is_source values) (Else (Disputes P is_source) rest)) same (disputed hp rest)
  rules-some Mixed Mixed hd hp v e rest = let same : Unknown ≡ v = cc in subst (Else (Pulls D P is_source values) (Else (Disputes P is_source) rest)) same (disputed hp rest)

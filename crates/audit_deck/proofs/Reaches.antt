-- The walk from a net over `nch` devices: what it has met, and that in the end it has met all that they reach.
use Rattle.std.specs.Prelude.{Some, slice_get}
use Rattle.std.proofs.Common.{List, [], ap, arith, get_or, inl, inr, length, refl, subst, sym, ℕ, ◌+◌, ◌<◌, ◌∙◌, ◌≡◌, ◌≤◌}
use Rattle.std.proofs.lemmas.Option.{slice_get-get_or, slice_get_within}
use Rattle.dom_base.specs.declared.kind.Kind.TheVariants.{N as nch}
use Rattle.dom_base.proofs.Decided.{lt_or_ge}
use Rattle.deck.specs.Paths.{Ends}
use Rattle.deck.specs.declared.device.Device.{Device}
use Rattle.deck.specs.declared.role.Roles.{Roles}
use Rattle.deck_audit.specs.Words.{IsFree, Reached, here, step}
use Rattle.link_reduce.specs.Parts.{IsOnce}
use Rattle.audit_deck.specs.Indexes.{AreThose, HasKind}
use Rattle.audit_deck.specs.Numberings.{AddsOne, IsMet}
use Rattle.audit_deck.specs.Walks.{IsNext, IsNextBy, MeetsThose}
use Rattle.audit_deck.proofs.Found.{one_device}
use Rattle.audit_deck.proofs.Meets.{met_kept, meets_added, meets_same}

-- an end of a device has one other end
pub ends_one : (d : Device) (a b c : ℕ) → Ends d a b → Ends d a c → b ≡ c
ends_one d a b c (inl x) (inl y) = sym x.1 ∙ y.1
ends_one d a b c (inr x) (inr y) = sym x.1 ∙ y.1
ends_one d a b c (inl x) (inr y) = sym x.1 ∙ y.0 ∙ sym x.0 ∙ y.1
ends_one d a b c (inr x) (inl y) = sym x.1 ∙ y.0 ∙ sym x.0 ∙ y.1

module _ (ds : List Device) (roles : Roles) where
  -- the far end of an `nch` is met
  pub end_met : (m p far : ℕ) (d : Device) → slice_get ds p ≡ Some d → HasKind ds nch p → Ends d m far → IsFree roles far
      → (before after : List ℕ)
      → AddsOne before far after → MeetsThose (IsNextBy ds roles m p) before after
  end_met m p far d at kind ends free before after adds =
      meets_same (λ n. n ≡ far) (IsNextBy ds roles m p) before after to from (meets_added before after far adds)
    where
      to : (n : ℕ) → n ≡ far → IsNextBy ds roles m p n
      to n e = (d, at, (ap (λ (x : Device). x.kind) (one_device ds p d kind.0 at kind.1) ∙ kind.2), subst (Ends d m) (sym e) ends, subst (IsFree roles) (sym e) free)

      from : (n : ℕ) → IsNextBy ds roles m p n → n ≡ far
      from n (e, there, k, joins, f) = ends_one d m n far (subst (λ x. Ends x m n) (one_device ds p e d there at) joins) ends

  module _ (x : ℕ) where
    pub record IsWalking (nets : List ℕ) (done : ℕ) : Type 0 where
      pub start : IsMet nets x
      pub sound : (n : ℕ) → IsMet nets n → Reached ds roles x n
      pub closed : (i m n : ℕ) → i < done → slice_get nets i ≡ Some m → IsNext ds roles m n → IsMet nets n

    pub walk_begun : (before after : List ℕ) → before ≡ [] → AddsOne before x after → IsWalking after 0
    walk_begun before after empty adds =
        let h = meets_added before after x adds in
        record {
          start = h.full x refl;
          sound = λ n there. elim (h.sound n there) [
            | inl y ↦ let z : slice_get [] y.0 ≡ Some n = subst (λ l. slice_get l y.0 ≡ Some n) empty y.1 in absurd cc
            | inr e ↦ subst (Reached ds roles x) (sym e) here
          ];
          closed = λ i m n lt. absurd (omega (arith, lt));
        }

    module _ (nets nets' : List ℕ) (done m : ℕ) (w : IsWalking nets done) (at : slice_get nets done ≡ Some m) (h : MeetsThose (IsNext ds roles m) nets nets') where
      -- what stands at a place that was met stands there now
      stays : (i a : ℕ) → i < length nets → slice_get nets' i ≡ Some a → slice_get nets i ≡ Some a
      stays i a lt there =
          let b : ℕ = get_or nets i 0 in
          let now : slice_get nets i ≡ Some b = slice_get-get_or nets i 0 lt in
          let z : Some b ≡ Some a = sym (h.kept i b now) ∙ there in now ∙ z

      pub walk_on : IsWalking nets' (done + 1)
      walk_on = record {
        start = met_kept (IsNext ds roles m) nets nets' h x w.start;
        sound = λ n there. elim (h.sound n there) [
          | inl y ↦ w.sound n y
          | inr (p, (d, there, k, ends, free)) ↦ step p d (w.sound m (done, at)) there k ends free
        ];
        closed = λ i a n lt there next.
            let low = slice_get_within nets done m at in
            let old = stays i a (omega (arith, lt, low)) there in
            elim (lt_or_ge i done) [
              | inl y ↦ met_kept (IsNext ds roles m) nets nets' h n (w.closed i a n y old next)
              | inr y ↦
                  let e : i ≡ done = omega (arith, y, lt) in
                  let z : Some a ≡ Some m = sym old ∙ ap (slice_get nets) e ∙ at in
                  let s : a ≡ m = cc in
                  h.full n (subst (λ b. IsNext ds roles b n) s next)
            ];
      }

    pub walk_done : (nets : List ℕ) (done : ℕ) → IsWalking nets done → length nets ≤ done → IsOnce nets → AreThose (Reached ds roles x) nets
    walk_done nets done w all once = record {
      sound = λ j n at. w.sound n (j, at);
      full = reached;
      once = once;
    }
      where
        reached : (n : ℕ) → Reached ds roles x n → IsMet nets n
        reached n here = w.start
        reached n (step {m} p d r at k ends free) =
            let y = reached m r in
            w.closed y.0 m n (let z = slice_get_within nets y.0 m y.1 in omega (arith, z, all)) y.1 (p, (d, at, k, ends, free))

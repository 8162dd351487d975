-- What becomes of a reduction where the next net is taken from those to look at.
use Rattle.std.proofs.Common.{List, [], ap, arith, inl, inr, length, length-append, subst, sym, ℕ, ◌<◌, ◌∷◌, ◌≡◌}
use Rattle.std.proofs.lemmas.List.Elements.{Contains-append_left, Contains-append_right, Contains-push_cases}
use Rattle.dom_base.proofs.Lists.{Contains-first}
use Rattle.link_reduce.specs.Reductions.{IsHolding, IsSound, ReductionData, Settles, remaining, with_work}
use Rattle.link_reduce.specs.declared.part.Ends.{Ends}
use Rattle.link_reduce.proofs.Listing.{none_held}

module _ (a b net : ℕ) (r r' : ReductionData) (is : r ≡ with_work r' net) where
  pub taken_holding : (ends : List Ends) → IsSound ends a b r → IsHolding ends a b [] net r'
  taken_holding ends sound =
      let h : IsSound ends a b (with_work r' net) = subst (IsSound ends a b) is sound in
      let k = h.kept in
      record {
        kept = record {
          long = k.long;
          inside = k.inside;
          keeps = k.keeps;
          trees = k.trees;
          tree_of = k.tree_of;
          apart = k.apart;
          all = k.all;
          wide = k.wide;
          high = k.high;
          few = k.few;
        };
        are_listed = record {
          sound = h.are_listed.sound;
          full = (none_held 0 net (with_work r' net) h.are_listed).full;
          once = h.are_listed.once;
          apart = (none_held 0 net (with_work r' net) h.are_listed).apart;
          held_once = tt;
          held_live = (none_held 0 net (with_work r' net) h.are_listed).held_live;
        };
        settled = λ n. elim (h.settled n) [
          | inr s ↦ inr (inr s)
          | inl c ↦ elim (Contains-push_cases r'.work net n c) [ inl y ↦ inr (inl y) | inr z ↦ inl (sym z) ]
        ];
        work_inside = λ n c. h.work_inside n (Contains-append_left r'.work (net ∷ []) n c);
      }

  pub taken_inside : (ends : List Ends) → IsSound ends a b r → net < length r'.at
  taken_inside ends sound =
      let h : IsSound ends a b (with_work r' net) = subst (IsSound ends a b) is sound in
      h.work_inside net (Contains-append_right r'.work (net ∷ []) net (Contains-first net []))

  pub taken_less : (after : ReductionData) → Settles a b [] net r' after → remaining after < remaining r
  taken_less after s = omega (arith, s.less, ap remaining is, length-append r'.work (net ∷ []))

  pub taken_on : (after : ReductionData) → Settles a b [] net r' after → (ends : List Ends) → IsSound ends a b r → IsSound ends a b after
  taken_on after s ends sound = s.sound ends (taken_holding ends sound)

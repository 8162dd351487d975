use Rattle.std.proofs.Common.{rules, inl, refl, sym, ap, subst, ◌∙◌, List, false, ◌++◌, ◌∷◌, [], ◌≡◌, ◌<◌, ◌+◌, length, length-append, Some, slice_get, arith}
use Rattle.std.proofs.lemmas.Option.{slice_get-get_or}
use Rattle.phase_assign.specs.Uses.{AreUses, HasFewRoots, asked_by_sinks, living, used}
use Rattle.phase_assign.specs.ArmsData.{ArmsData as Arms}
use Rattle.dual_rail.specs.declared.signed.SignedNode.{SignedNode}
use Rattle.exact_phase.specs.Search.{IsSearched}
use Rattle.exact_phase.specs.UsesSoFar.{AreUsesSoFar}
use Rattle.exact_phase.proofs.Searches.{searched_both}
use Rattle.exact_phase.proofs.UsesSoFar.{few_roots, found_whole, needed_later, so_far_again, so_far_next, supplied_next, uses_next}
use Rattle.exact_phase.proofs.search.+search.Goals as goal
use Rattle.exact_phase.proofs.search.+search.Goals.{try_sign-then-needed-best+in_ok-push+in_ok-go_on, try_sign-else-needed-best}

pub go_on-returns-then-len-clause-searched : goal.go_on-returns-then-len-clause-searched
go_on-returns-then-len-clause-searched t c = λ gates order wired.
    let whole : length c.args.signs.now.items ≡ length c.args.wiring.now.ends.items = search rules in
    let same : c.in_ok-best.field-0.items ≡ c.args.signs.now.items = search rules in
    subst (λ xs. IsSearched gates c.args.signs.now.items c.args.best.now.signs.items c.args.best.now.pairs xs c.args.needed.now.size) (sym same)
    (found_whole gates order c.args.wiring.now.arms.items c.args.wiring.now.ends.items c.requires.wiring wired c.args.signs.now.items c.args.best.now.signs.items c.args.needed.now.uses.items c.args.needed.now.size
    c.args.best.now.pairs c.requires.uses whole c.requires.fewer)

pub go_on-try_sign-requires-2 : goal.go_on-try_sign-requires-2
go_on-try_sign-requires-2 t c =
    let same : length c.try_sign.new.signs.items ≡ length c.args.signs.now.items = ap length c.in_ok-try_sign.ensures.signs in
    let lt : length c.args.signs.now.items < length c.args.wiring.now.ends.items = search rules in (
      omega (arith, same, lt, c.decreases),
      (
        c.requires.wiring,
        (
          omega (arith, same, lt),
          subst (λ xs. AreUsesSoFar c.args.wiring.now.arms.items c.args.wiring.now.ends.items xs c.try_sign.new.needed.uses.items c.try_sign.new.needed.size) (sym c.in_ok-try_sign.ensures.signs)
              (so_far_again c.args.wiring.now.arms.items c.args.wiring.now.ends.items c.args.signs.now.items c.args.needed.now.uses.items c.try_sign.new.needed.uses.items c.args.needed.now.size c.try_sign.new.needed.size
              c.requires.uses c.in_ok-try_sign.ensures.uses),
        ),
      ),
    )

pub go_on-returns-clause-searched : goal.go_on-returns-clause-searched
go_on-returns-clause-searched t c = λ gates order wired.
    let lt : length c.args.signs.now.items < length c.args.wiring.now.ends.items = search rules in
    searched_both gates c.args.signs.now.items c.args.best.now.signs.items c.try_sign.new.best.signs.items c.try_sign-2.new.best.signs.items c.args.best.now.pairs c.try_sign.new.best.pairs c.try_sign-2.new.best.pairs
    (omega (arith, lt, wired.ends_count)) (c.in_ok-try_sign.ensures.searched gates order wired)
    (subst (λ xs. IsSearched gates (xs ++ (false ∷ [])) c.try_sign.new.best.signs.items c.try_sign.new.best.pairs c.try_sign-2.new.best.signs.items c.try_sign-2.new.best.pairs) c.in_ok-try_sign.ensures.signs
    (c.in_ok-try_sign-2.ensures.searched gates order wired))

pub try_sign-supply-requires-clause-uses : goal.try_sign-supply-requires-clause-uses
try_sign-supply-requires-clause-uses t c =
    let len : c.len.result ≡ length c.args.signs.now.items = search rules in
    let at : slice_get c.args.wiring.now.ends.items c.len.result ≡ Some c.index-end.result.now =
    slice_get-get_or c.args.wiring.now.ends.items c.len.result c.index-end.result.now (omega (arith, len, c.requires.signs)) ∙ ap Some (sym c.index-end.ensures) in
    let roots : List SignedNode = asked_by_sinks c.args.wiring.now.ends.items (c.args.signs.now.items ++ (c.args.plus ∷ [])) in (
      roots,
      subst (λ (xs : List Arms). HasFewRoots xs roots) (sym c.as_slice.ensures.value)
          (few_roots c.args.wiring.now.arms.items c.args.wiring.now.ends.items c.requires.wiring (c.args.signs.now.items ++ (c.args.plus ∷ []))),
      subst (λ (xs : List Arms). AreUses xs (used c.args.needed.now.uses.items) roots c.in_ok-come.come.items []) (sym c.as_slice.ensures.value)
          (subst (λ (ps : List SignedNode). AreUses c.args.wiring.now.arms.items (used c.args.needed.now.uses.items) roots ps []) (sym c.in_ok-come.ensures)
          (uses_next c.args.wiring.now.arms.items c.args.wiring.now.ends.items c.requires.wiring c.args.signs.now.items c.args.needed.now.uses.items c.args.needed.now.size c.index-end.result.now c.args.plus c.requires.uses
          (subst (λ k. slice_get c.args.wiring.now.ends.items k ≡ Some c.index-end.result.now) len at))),
    )

pub try_sign-go_on-requires : goal.try_sign-go_on-requires
try_sign-go_on-requires t c =
    let len : c.len.result ≡ length c.args.signs.now.items = search rules in
    let at : slice_get c.args.wiring.now.ends.items c.len.result ≡ Some c.index-end.result.now =
    slice_get-get_or c.args.wiring.now.ends.items c.len.result c.index-end.result.now (omega (arith, len, c.requires.signs)) ∙ ap Some (sym c.index-end.ensures) in
    let more : length c.push.new.self.items ≡ length c.args.signs.now.items + 1 = ap length c.in_ok-push.ensures.items ∙ length-append c.args.signs.now.items (c.args.plus ∷ []) in (
      omega (arith, more, c.requires.signs, c.decreases),
      (
        c.requires.wiring,
        (
          omega (arith, more, c.requires.signs),
          (
            subst (λ xs. AreUsesSoFar c.args.wiring.now.arms.items c.args.wiring.now.ends.items xs c.supply.new.self.uses.items c.supply.new.self.size) (sym c.in_ok-push.ensures.items)
                (so_far_next c.args.wiring.now.arms.items c.args.wiring.now.ends.items (c.args.signs.now.items ++ (c.args.plus ∷ [])) c.supply.new.self.uses.items c.supply.new.self.size c.args.best.now.pairs
                (c.in_ok-supply.ensures.count ∙ ap length c.as_slice.ensures.value)
                (c.in_ok-supply.ensures.size ∙ ap (λ (xs : List Arms). living (used c.supply.new.self.uses.items) (length xs)) c.as_slice.ensures.value)
                (supplied_next c.args.wiring.now.arms.items c.as_slice.result.now c.args.wiring.now.ends.items c.requires.wiring c.args.signs.now.items c.args.needed.now.uses.items c.supply.new.self.uses.items c.args.needed.now.size
                c.supply.new.self.size c.args.best.now.pairs c.index-end.result.now c.args.plus c.in_ok-come.come.items c.as_slice.ensures.value c.requires.uses
                (subst (λ k. slice_get c.args.wiring.now.ends.items k ≡ Some c.index-end.result.now) len at) c.in_ok-come.ensures c.in_ok-supply.ensures.uses)
                (omega (arith, c.if-needed-best.true))),
            omega (arith, c.if-needed-best.true),
          ),
        ),
      ),
    )

pub try_sign-returns-clause-searched : goal.try_sign-returns-clause-searched
try_sign-returns-clause-searched t c = λ gates order wired.
    elim c.if-needed-best.branch [
      | try_sign-then-needed-best+in_ok-push+in_ok-go_on w ↦
          subst (λ b. IsSearched gates (c.args.signs.now.items ++ (c.args.plus ∷ [])) c.args.best.now.signs.items c.args.best.now.pairs b.signs.items b.pairs) (sym w.best-is)
          (subst (λ xs. IsSearched gates xs c.args.best.now.signs.items c.args.best.now.pairs w.go_on.new.best.signs.items w.go_on.new.best.pairs) w.in_ok-push.ensures.items
          (w.in_ok-go_on.ensures.searched gates order wired))
      | try_sign-else-needed-best w ↦
          let len : c.len.result ≡ length c.args.signs.now.items = search rules in
          let at : slice_get c.args.wiring.now.ends.items c.len.result ≡ Some c.index-end.result.now =
          slice_get-get_or c.args.wiring.now.ends.items c.len.result c.index-end.result.now (omega (arith, len, c.requires.signs)) ∙ ap Some (sym c.index-end.ensures) in
          let supplied =
          supplied_next c.args.wiring.now.arms.items c.as_slice.result.now c.args.wiring.now.ends.items c.requires.wiring c.args.signs.now.items c.args.needed.now.uses.items c.supply.new.self.uses.items
          c.args.needed.now.size c.supply.new.self.size c.args.best.now.pairs c.index-end.result.now c.args.plus c.in_ok-come.come.items c.as_slice.ensures.value c.requires.uses
          (subst (λ k. slice_get c.args.wiring.now.ends.items k ≡ Some c.index-end.result.now) len at) c.in_ok-come.ensures c.in_ok-supply.ensures.uses in
          let size : c.supply.new.self.size ≡ living (used c.supply.new.self.uses.items) (length c.args.wiring.now.arms.items) =
          c.in_ok-supply.ensures.size ∙ ap (λ (xs : List Arms). living (used c.supply.new.self.uses.items) (length xs)) c.as_slice.ensures.value in
          subst (λ b. IsSearched gates (c.args.signs.now.items ++ (c.args.plus ∷ [])) c.args.best.now.signs.items c.args.best.now.pairs b.signs.items b.pairs) (sym w.best-is)
          (inl (
            needed_later gates order c.args.wiring.now.arms.items c.args.wiring.now.ends.items c.requires.wiring wired (c.args.signs.now.items ++ (c.args.plus ∷ [])) (used c.supply.new.self.uses.items) supplied.uncounted
                c.args.best.now.pairs supplied.uses (omega (arith, size, w.if-needed-best.false)),
            refl,
            refl,
          ))
    ]

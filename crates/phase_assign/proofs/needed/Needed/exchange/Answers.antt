-- The uses that are taken away and added; where as many pairs are used, all is as before.
use Rattle.std.proofs.Common.{◌≡◌, ◌++◌, ◌∙◌, ℕ, Bool, not, List, [], Option, length, ap, sym, subst, arith}
use Rattle.phase_assign.specs.ArmsData.{ArmsData as Arms}
use Rattle.dual_rail.specs.declared.signed.SignedNode.{SignedNode}
use Rattle.phase_assign.specs.Uses.{AreUses, HasRoots, IsSupplied, asked, times, used}
use Rattle.phase_assign.proofs.Exchanges.{few_turned, living_alike, roots_appended, uses_added, uses_fit}
use Rattle.phase_assign.proofs.Totals.{times-append}
use Rattle.phase_assign.proofs.needed.Needed.exchange.Goals as goal

pub withdraw-requires-clause-uses : goal.withdraw-requires-clause-uses
withdraw-requires-clause-uses c =
    (c.requires.uses.0, subst (λ ws. AreUses c.args.arms.now (used c.args.self.now.uses.items) c.requires.uses.0 [] ws) (sym c.in_ok-gone.ensures) c.requires.uses.2)

pub supply-requires-clause-uses : goal.supply-requires-clause-uses
supply-requires-clause-uses c =
    let others : List SignedNode = c.requires.uses.0 in
    let gone : AreUses c.args.arms.now (used c.withdraw.new.self.uses.items) others [] [] =
    c.in_ok-withdraw.ensures.uses others (subst (λ ws. AreUses c.args.arms.now (used c.args.self.now.uses.items) others [] ws) (sym c.in_ok-gone.ensures) c.requires.uses.2) in (
      others ++ asked c.args.target (not c.args.sign),
      few_turned c.args.arms.now others c.args.target c.args.sign (not c.args.sign) c.requires.uses.1,
      subst (λ ws. AreUses c.args.arms.now (used c.withdraw.new.self.uses.items) (others ++ asked c.args.target (not c.args.sign)) ws []) (sym c.in_ok-come.ensures)
          (uses_added c.args.arms.now (used c.withdraw.new.self.uses.items) others (asked c.args.target (not c.args.sign)) (others ++ asked c.args.target (not c.args.sign)) gone
          (roots_appended others (asked c.args.target (not c.args.sign)))),
    )

pub restore-requires-clause-room : goal.restore-requires-clause-room
restore-requires-clause-room c = λ n s.
    let fit = uses_fit c.args.arms.now (used c.args.self.now.uses.items) c.requires.uses.0 (asked c.args.target c.args.sign) c.requires.uses.2 c.requires.uses.1 n s in
    let a = c.in_ok-withdraw.ensures.gone n s in
    let b = c.in_ok-supply.ensures.come n s in
    let x : times n s c.as_slice.result.now ≡ times n s c.withdraw.new.work.items = ap (times n s) c.as_slice.ensures.value in
    let y : times n s c.as_slice-2.result.now ≡ times n s c.supply.new.work.items = ap (times n s) c.as_slice-2.ensures.value in
    omega arith

supplied : (arms : List Arms) (before middle after : ℕ → Bool → ℕ) (gone come : List SignedNode) (target : Option SignedNode) (sign : Bool) (size limit : ℕ) → gone ≡ asked target sign → come ≡ asked target (not sign)
    → ((roots : List SignedNode) → AreUses arms before roots [] gone → AreUses arms middle roots [] [])
    → ((roots : List SignedNode) → AreUses arms middle roots come [] → IsSupplied arms after roots size limit)
    → (others roots : List SignedNode) → AreUses arms before others [] (asked target sign) → HasRoots others (asked target (not sign)) roots → IsSupplied arms after roots size limit
supplied arms before middle after gone come target sign size limit is is' withdrawn supply others roots u h =
    supply roots (subst (λ ws. AreUses arms middle roots ws []) (sym is')
    (uses_added arms middle others (asked target (not sign)) roots (withdrawn others (subst (λ ws. AreUses arms before others [] ws) (sym is) u)) h))

pub returns-then-self-before-clause-changed : goal.returns-then-self-before-clause-changed
returns-then-self-before-clause-changed c = λ e others roots u h.
    let s = supplied c.args.arms.now (used c.args.self.now.uses.items) (used c.withdraw.new.self.uses.items) (used c.supply.new.self.uses.items) c.in_ok-gone.gone.items c.in_ok-come.come.items
    c.args.target c.args.sign c.supply.new.self.size c.args.self.now.size c.in_ok-gone.ensures c.in_ok-come.ensures c.in_ok-withdraw.ensures.uses c.in_ok-supply.ensures.uses others roots u h in
    subst (λ ws. AreUses c.args.arms.now (used c.supply.new.self.uses.items) roots ws []) (s.whole c.if-self-before.true) s.uses

pub returns-then-self-before-clause-elsewhere : goal.returns-then-self-before-clause-elsewhere
returns-then-self-before-clause-elsewhere c = λ n s none.
    let split = times-append n s c.withdraw.new.work.items c.supply.new.work.items in
    let a = c.in_ok-withdraw.ensures.gone n s in
    let b = c.in_ok-supply.ensures.come n s in
    omega arith

pub returns-clause-size : goal.returns-clause-size
returns-clause-size c =
    c.restore.ensures.size ∙ c.requires.size
    ∙ living_alike (used c.args.self.now.uses.items) (used c.restore.new.self.uses.items) (length c.args.arms.now)
    (λ n s.
    let r = c.restore.ensures.uses n s in
    let a = c.in_ok-withdraw.ensures.gone n s in
    let b = c.in_ok-supply.ensures.come n s in
    let x : times n s c.as_slice.result.now ≡ times n s c.withdraw.new.work.items = ap (times n s) c.as_slice.ensures.value in
    let y : times n s c.as_slice-2.result.now ≡ times n s c.supply.new.work.items = ap (times n s) c.as_slice-2.ensures.value in
    omega arith)

pub returns-clause-refused : goal.returns-clause-refused
returns-clause-refused c = λ e.
    let others : List SignedNode = c.requires.uses.0 in
    let u = c.requires.uses.2 in
    let gone : AreUses c.args.arms.now (used c.withdraw.new.self.uses.items) others [] [] =
    c.in_ok-withdraw.ensures.uses others (subst (λ ws. AreUses c.args.arms.now (used c.args.self.now.uses.items) others [] ws) (sym c.in_ok-gone.ensures) u) in
    let s = supplied c.args.arms.now (used c.args.self.now.uses.items) (used c.withdraw.new.self.uses.items) (used c.supply.new.self.uses.items) c.in_ok-gone.gone.items c.in_ok-come.come.items
    c.args.target c.args.sign c.supply.new.self.size c.args.self.now.size c.in_ok-gone.ensures c.in_ok-come.ensures c.in_ok-withdraw.ensures.uses c.in_ok-supply.ensures.uses others
    (others ++ asked c.args.target (not c.args.sign)) u (roots_appended others (asked c.args.target (not c.args.sign))) in
    record {
      without = used c.withdraw.new.self.uses.items;
      tried = used c.supply.new.self.uses.items;
      uncounted = s.uncounted;
      taken = λ n t. let a = u.each n t in let b = gone.each n t in omega arith;
      added = λ n t.
          let a = s.uses.each n t in
          let b = gone.each n t in
          let split = times-append n t others (asked c.args.target (not c.args.sign)) in
          omega arith;
      no_fewer = let low = c.if-self-before.false in omega (arith, c.requires.size, c.in_ok-supply.ensures.size);
      elsewhere = λ n t none.
          let split = times-append n t c.withdraw.new.work.items c.supply.new.work.items in
          let a = c.in_ok-withdraw.ensures.gone n t in
          let b = c.in_ok-supply.ensures.come n t in
          (omega arith, omega arith);
    }

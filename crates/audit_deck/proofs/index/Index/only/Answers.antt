use Rattle.std.specs.Prelude.{Some, slice_get}
use Rattle.std.proofs.Common.{arith, get_or, subst, sym, ℕ, ◌+◌, ◌∙◌, ◌≡◌}
use Rattle.std.proofs.lemmas.Option.{slice_get-get_or}
use Rattle.audit_deck.specs.Indexes.{HasKind, IsOnly}
use Rattle.audit_deck.specs.Scans.{IsOnlyIn}
use Rattle.audit_deck.proofs.Found.{only_found, only_in}
use Rattle.link_reduce.proofs.Options.{none_weaker}
use Rattle.dom_base.proofs.Options.{some_weaker}
use Rattle.audit_deck.proofs.Scans.{IsOnlyBefore, scan_first, scan_none, scan_past, scan_second, scan_some}
use Rattle.audit_deck.proofs.index.Index.only.Goals as goal
use Rattle.audit_deck.proofs.index.Index.only.Goals.{then-has_kind+else-is_some, else-has_kind}

pub loop-place-init : goal.loop-place-init
loop-place-init c = λ j p lt. absurd (omega (arith, lt))

pub loop-place-preserved : goal.loop-place-preserved
loop-place-preserved c =
    let numbers = c.ending-place-items.result.now in
    let i = c.loop-place.place-index in
    let p : ℕ = get_or numbers i 0 in
    let Q = HasKind c.args.self.now.devices c.args.kind in
    let at : slice_get numbers i ≡ Some p = slice_get-get_or numbers i 0 c.loop-place-test.true in
    elim c.if-has_kind.branch [
      | then-has_kind+else-is_some w ↦
          subst (IsOnlyBefore Q numbers (i + 1)) (sym w.only-is)
          (scan_first Q numbers i p at c.loop-place.only (sym w.is_some.ensures ∙ w.if-is_some.false) (c.has_kind.ensures.yes w.if-has_kind.true) c.loop-place.invariant)
      | else-has_kind w ↦
          subst (IsOnlyBefore Q numbers (i + 1)) (sym w.only-is)
          (scan_past Q numbers i p at c.loop-place.only (c.has_kind.ensures.no w.if-has_kind.false) c.loop-place.invariant)
    ]

pub returns-then-is_some-clause-none : goal.returns-then-is_some-clause-none
returns-then-is_some-clause-none c = λ y one.
    let numbers = c.ending-place-items.result.now in
    let i = c.loop-place.place-index in
    let p : ℕ = get_or numbers i 0 in
    let at : slice_get numbers i ≡ Some p = slice_get-get_or numbers i 0 c.loop-place-test.true in
    scan_second (HasKind c.args.self.now.devices c.args.kind) numbers i p at c.loop-place.only (sym c.if-is_some.ensures) (c.has_kind.ensures.yes c.if-has_kind.true)
    c.loop-place.invariant c.ending-place-items.ensures.are.once y (only_in c.args.self.now.devices c.args.net c.args.kind numbers c.ending-place-items.ensures.are y one)

pub returns-clause-some : goal.returns-clause-some
returns-clause-some c =
    let numbers = c.ending-place-items.result.now in
    let Q = HasKind c.args.self.now.devices c.args.kind in
    some_weaker c.loop-place.only (IsOnlyIn Q numbers) (IsOnly c.args.self.now.devices c.args.net c.args.kind)
    (only_found c.args.self.now.devices c.args.net c.args.kind numbers c.ending-place-items.ensures.are)
    (scan_some Q numbers c.loop-place.place-index c.loop-place-test.false c.loop-place.only c.loop-place.invariant)

pub returns-clause-none : goal.returns-clause-none
returns-clause-none c =
    let numbers = c.ending-place-items.result.now in
    let Q = HasKind c.args.self.now.devices c.args.kind in
    none_weaker c.loop-place.only ((x : ℕ) → IsOnlyIn Q numbers x → ⊥) ((x : ℕ) → IsOnly c.args.self.now.devices c.args.net c.args.kind x → ⊥)
    (λ h y one. h y (only_in c.args.self.now.devices c.args.net c.args.kind numbers c.ending-place-items.ensures.are y one))
    (scan_none Q numbers c.loop-place.place-index c.loop-place-test.false c.loop-place.only c.loop-place.invariant)

use Rattle.std.specs.Prelude.{Some, slice_get}
use Rattle.std.proofs.Common.{get_or, subst, sym, ℕ, ◌+◌, ◌∙◌, ◌≡◌}
use Rattle.std.proofs.lemmas.Option.{slice_get-get_or}
use Rattle.audit_deck.specs.CellTrees.{IsAtSource}
use Rattle.audit_deck.proofs.Scans.{IsOnlyBefore, scan_first, scan_none, scan_past, scan_some}
use Rattle.audit_deck.proofs.index.Index.only_at_source.Goals as goal
use Rattle.audit_deck.proofs.index.Index.only_at_source.Goals.{then-is_at_source+else-is_some, else-is_at_source}

pub loop-place-preserved : goal.loop-place-preserved
loop-place-preserved c =
    let numbers = c.args.places.now in
    let i = c.loop-place.place-index in
    let p : ℕ = get_or numbers i 0 in
    let Q = IsAtSource c.args.self.now.devices c.args.roles in
    let at : slice_get numbers i ≡ Some p = slice_get-get_or numbers i 0 c.loop-place-test.true in
    elim c.if-is_at_source.branch [
      | then-is_at_source+else-is_some w ↦
          subst (IsOnlyBefore Q numbers (i + 1)) (sym w.only-is)
          (scan_first Q numbers i p at c.loop-place.only (sym w.is_some.ensures ∙ w.if-is_some.false) (c.is_at_source.ensures.yes w.if-is_at_source.true)
          c.loop-place.invariant)
      | else-is_at_source w ↦
          subst (IsOnlyBefore Q numbers (i + 1)) (sym w.only-is)
          (scan_past Q numbers i p at c.loop-place.only (c.is_at_source.ensures.no w.if-is_at_source.false) c.loop-place.invariant)
    ]

pub returns-clause-some : goal.returns-clause-some
returns-clause-some c =
    scan_some (IsAtSource c.args.self.now.devices c.args.roles) c.args.places.now c.loop-place.place-index c.loop-place-test.false c.loop-place.only
    c.loop-place.invariant

pub returns-clause-none : goal.returns-clause-none
returns-clause-none c =
    scan_none (IsAtSource c.args.self.now.devices c.args.roles) c.args.places.now c.loop-place.place-index c.loop-place-test.false c.loop-place.only
    c.loop-place.invariant

use Rattle.std.specs.Prelude.{All, Some, replicate, slice_get}
use Rattle.std.proofs.Common.{ap, arith, false, length, refl, subst, sym, ℕ, ◌≡◌}
use Rattle.std.proofs.lemmas.List.{length-replicate}
use Rattle.std.proofs.lemmas.Option.{slice_get_read}
use Rattle.found_decks.specs.FoundDecks.{FoundLatch}
use Rattle.audit_deck.specs.Marks.{AddsMarks, IsWithin}
use Rattle.audit_deck.specs.Numberings.{IsMet}
use Rattle.deck_audit.specs.Words.{own_nets}
use Rattle.audit_deck.proofs.FoundMarks.{group_all, group_begun, group_more}
use Rattle.audit_deck.proofs.marks.own_marks.Goals as goal

abbrev Marked : FoundLatch → ℕ → Type 0
Marked g n = IsMet (own_nets g.group) n

pub loop-group-init : goal.loop-group-init
loop-group-init c = group_begun c.args.groups.now Marked c.args.count c.in_ok-marks.marks c.in_ok-marks.ensures

pub returns : goal.returns
returns c = group_all c.args.groups.now Marked c.args.count c.loop-group.group-index c.loop-group.marks c.loop-group-test.false c.loop-group.invariant

pub loop-group-preserved : goal.loop-group-preserved
loop-group-preserved c =
    let groups = c.args.groups.now in
    let i = c.loop-group.group-index in
    let at : slice_get groups i ≡ Some c.group-item.result = slice_get_read groups (length groups) i c.group-item.result refl c.loop-group-test.true c.group-item.is in
    group_more groups Marked i c.group-item.result at (replicate c.args.count false) c.loop-group.marks c.mark_own.new.marks c.loop-group.invariant
    (c.mark_own.ensures)

pub mark_own-requires : goal.mark_own-requires
mark_own-requires c =
    let within : IsWithin c.args.count c.group-item.result =
    subst (IsWithin c.args.count) (sym c.group-item.is) (c.requires.within c.loop-group.group-index c.group-item.result c.loop-group-test.true) in
    let long : c.args.count ≡ length c.loop-group.marks = omega (arith, c.loop-group.invariant.room, length-replicate c.args.count false) in
    record { within = subst (λ n. IsWithin n c.group-item.result) long within }

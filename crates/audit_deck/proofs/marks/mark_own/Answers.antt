use Rattle.std.specs.Prelude.{All}
use Rattle.std.proofs.Common.{length, subst, sym, ◌<◌}
use Rattle.deck_audit.specs.Words.{own_nets}
use Rattle.found_decks.specs.FoundDecks.{FoundLatch}
use Rattle.audit_deck.specs.Marks.{AddsMarks}
use Rattle.audit_deck.specs.Numberings.{IsMet}
use Rattle.audit_deck.proofs.marks.mark_own.Goals as goal

pub mark_all-requires : goal.mark_all-requires
mark_all-requires c = subst (λ (g : FoundLatch). All (λ n. n < length c.args.marks.now) (own_nets g.group)) (sym c.group.view_is) c.requires.within.own

pub returns : goal.returns
returns c = subst (λ (g : FoundLatch). AddsMarks (IsMet (own_nets g.group)) c.args.marks.now c.mark_all.new.self) c.group.view_is c.mark_all.ensures

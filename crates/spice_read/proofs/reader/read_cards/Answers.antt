use Rattle.std.proofs.Common.{◌∙◌, sym, ap, subst, Err}
use Rattle.spice_read.specs.Readers.{IsNextRead, Reader}
use Rattle.spice_read.proofs.AnsweredFaults.{handed_on}
use Rattle.spice_read.proofs.DeckSoFar.{can_close, card_fault, card_read, card_worded, deck_accepted, deck_end_fault, no_card_read, stray_fault, HasRead}
use Rattle.spice_read.proofs.reader.read_cards.Goals as goal

pub returns-in_err-cards-clause-fault : goal.returns-in_err-cards-clause-fault
returns-in_err-cards-clause-fault c = λ line kind is. stray_fault c.args.text.now line kind (c.in_err-cards.ensures.stray line kind (ap Err (sym (handed_on c.from_residual.result _ _ c.from_residual.ensures.1 is))))

pub cards-init : goal.cards-init
cards-init c = no_card_read c.args.text.now c.args.subckts.now c.in_ok-cards.cards c.requires.closed c.requires.current c.in_ok-cards.ensures.first

pub push-requires-clause-words : goal.push-requires-clause-words
push-requires-clause-words c =
    let reads = subst (λ b. IsNextRead b c.cards.cards c.next.new.card c.next.new.self) c.if-branch.true c.in_ok-next.ensures in
    card_worded c.cards.invariant reads

pub push-requires-clause-closable : goal.push-requires-clause-closable
push-requires-clause-closable c = can_close c.cards.invariant

pub cards-preserved : goal.cards-preserved
cards-preserved c =
    let reads = subst (λ b. IsNextRead b c.cards.cards c.next.new.card c.next.new.self) c.if-branch.true c.in_ok-next.ensures in
    card_read c.cards.invariant reads c.push.new.self c.in_ok-push.ensures.clean c.in_ok-push.ensures.after

pub returns-in_err-push-clause-fault : goal.returns-in_err-push-clause-fault
returns-in_err-push-clause-fault c = λ line kind is.
    let reads = subst (λ b. IsNextRead b c.cards.cards c.next.new.card c.next.new.self) c.if-branch.true c.in_ok-next.ensures in
    card_fault c.cards.invariant reads line kind (c.in_err-push.ensures.fault line kind (ap Err (sym (handed_on c.from_residual-in_err-push.result _ _ c.from_residual-in_err-push.ensures.1 is))))

pub returns-clause-read : goal.returns-clause-read
returns-clause-read c =
    let ends = subst (λ b. IsNextRead b c.cards.cards c.next.new.card c.next.new.self) c.if-branch.false c.in_ok-next.ensures in
    let same = ends.1 in
    let so_far = subst (HasRead c.args.text.now c.cards.subckts) (sym same) c.cards.invariant in
    let none = ap (λ (r : Reader). r.held) same ∙ ends.0 in
    record {
      circuit = λ circuit f. deck_accepted so_far none circuit f;
      fault = λ line kind at is. deck_end_fault so_far none line kind (at, is);
    }

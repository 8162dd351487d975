use Rattle.std.proofs.Common.{Err, Ok, Result, map, refl, subst, sym, ◌∙◌}
use Rattle.std.specs.Prelude.{IfOk, OnOk}
use Rattle.blif_lines.specs.Pieces.{IsNoted}
use Rattle.blif_lines.specs.TextPlaces.{IsRestOf}
use Rattle.blif_lines.proofs.PieceEnds.{cutting-ends, cutting-starts, cutting-step}
use Rattle.blif_lines.proofs.lines.Lines.next_piece.Goals as goal

-- two facts on one answer give a third
both : {T E : Type 0} (r : Result T E) (P : T → Type 0) (Q : Type 0) (R : T → Type 0) → ((x : T) → P x → Q → R x) → IfOk r P → OnOk r Q → IfOk r R
both (Ok x) P Q R f p q = f x p q
both (Err e) P Q R f p q = tt

pub words-init : goal.words-init
words-init c = record {
  text = refl;
  number = refl;
  end = c.word_end-word.ensures;
  cutting = cutting-starts c.args.self.now.text.now c.args.self.now.rest.now (map (λ w. w.now) c.args.words.now.items) c.requires.rest;
  noted = c.requires.noted;
}

pub next_word-requires-clause-rest : goal.next_word-requires-clause-rest
next_word-requires-clause-rest c = subst (λ t. IsRestOf t.now c.words.self.rest.now) (sym c.words.invariant.text) c.words.invariant.cutting.rest_is

pub next_word-requires-clause-noted : goal.next_word-requires-clause-noted
next_word-requires-clause-noted c =
    subst (λ t. IsNoted t.now (map (λ w. w.now) c.words.words.items) c.words.notes.has_control c.words.notes.place) (sym c.words.invariant.text) c.words.invariant.noted

pub words-preserved : goal.words-preserved
words-preserved c =
    let before = c.words.invariant in
    let step = c.in_ok-word.ensures in
    record {
      text = step.text ∙ before.text;
      number = step.number ∙ before.number;
      end = step.end;
      cutting = cutting-step c.args.self.now.text.now c.args.self.now.rest.now (map (λ w. w.now) c.args.words.now.items) c.words.self.rest.now
          (map (λ w. w.now) c.words.words.items) c.next_word.new.self.rest.now (map (λ w. w.now) c.next_word.new.words.items) c.words.word.end
          before.cutting step.step (subst (λ t. IsRestOf t.now c.next_word.new.self.rest.now) (step.text ∙ before.text) step.rest) step.words;
      noted = subst (λ t. IsNoted t.now (map (λ w. w.now) c.next_word.new.words.items) c.next_word.new.notes.has_control c.next_word.new.notes.place) before.text step.noted;
    }

pub returns-clause-piece : goal.returns-clause-piece
returns-clause-piece c =
    let before = c.words.invariant in
    let last = c.last_piece.ensures in
    both c.last_piece.result _ _ _ (λ goes_on joins is. cutting-ends c.args.self.now.text.now c.args.self.now.rest.now (map (λ w. w.now) c.args.words.now.items) c.words.self.rest.now
    (map (λ w. w.now) c.words.words.items) (map (λ w. w.now) c.last_piece.new.words.items) goes_on c.last_piece.new.self.rest.now c.requires.some before.cutting joins is last.behind)
    last.joined last.words

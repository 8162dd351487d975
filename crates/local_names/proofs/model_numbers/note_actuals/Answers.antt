use Rattle.std.proofs.Common.{◌≡◌, ◌<◌, ◌+◌, ◌-◌, ◌*◌, ◌/◌, length, drop, subst, sym, ◌∙◌, arith, refl}
use Rattle.std.proofs.lemmas.Option.{slice_get-get_or}
use Rattle.local_names.proofs.Gathered.{AreActualsNoted, actuals-next, actuals-none}
use Rattle.local_names.proofs.model_numbers.note_actuals.Goals as goal

pub loop-index-init : goal.loop-index-init
loop-index-init c =
    let kept = c.args.kept.now.items in
    let bindings = c.behind_first-bindings.result.now in
    record {
      count = refl;
      indexed = c.requires;
      noted = subst (λ ws. AreActualsNoted (length c.args.place.now) ws (length bindings / 2) kept kept) c.behind_first-bindings.ensures
          (actuals-none (length c.args.place.now) bindings (length bindings / 2) kept (omega arith));
    }

pub loop-index-preserved : goal.loop-index-preserved
loop-index-preserved c =
    let l = c.loop-index in
    let bindings = c.behind_first-bindings.result.now in
    let pair = l.index - 1 in
    let one : l.index ≡ pair + 1 = omega (arith, c.loop-index-test.true) in
    let within : 2 * pair + 1 < length bindings = omega (arith, c.loop-index-test.true, l.auto.index) in
    record {
      count = c.note.ensures.length ∙ l.invariant.count;
      indexed = c.in_ok-note.ensures.noted.indexed;
      noted = subst (λ ws. AreActualsNoted (length c.args.place.now) ws pair c.args.kept.now.items c.note.new.kept.items) c.behind_first-bindings.ensures
          (actuals-next (length c.args.place.now) bindings pair _ c.args.kept.now.items l.kept.items c.note.new.kept.items c.note.new.place
          (subst (λ ws. AreActualsNoted (length c.args.place.now) ws (pair + 1) c.args.kept.now.items l.kept.items) (sym c.behind_first-bindings.ensures)
          (subst (λ k. AreActualsNoted (length c.args.place.now) (drop 1 c.args.words.now) k c.args.kept.now.items l.kept.items) one l.invariant.noted))
          (slice_get-get_or bindings (2 * pair + 1) _ within)
          (c.note.ensures.length ∙ l.invariant.count) c.in_ok-note.ensures.noted);
    }

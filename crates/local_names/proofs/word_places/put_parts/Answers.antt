use Rattle.std.proofs.Common.{◌≡◌, ◌≤◌, ◌+◌, [], subst, arith, rules}
use Rattle.std.specs.Prelude.{slice_index_or}
use Rattle.numbered_file.specs.Places.{IsPartOf, first_part, words_at}
use Rattle.numbered_file.proofs.Places.{first_part-more}
use Rattle.local_names.specs.Placed.{AreWordsPlaced, IsPartPlaced}
use Rattle.local_names.proofs.Placing.{formal-lost, words-more}
use Rattle.local_names.proofs.word_places.put_parts.Goals as goal

pub loop-part-preserved : goal.loop-part-preserved
loop-part-preserved c =
    let l = c.loop-part in
    let d = c.args.file.now in
    let added = c.in_ok-put_part.ensures.placed (search rules) in
    let inside : IsPartOf d c.args.model l.part =
    (omega (arith, c.first_part-first.ensures, l.auto.part), omega (arith, c.parts_end-end.ensures, c.loop-part-test.true)) in
    words-more d c.is_in_order.ensures c.args.lookup.models.now.lists c.args.lookup.units.now c.args.model l.part added.0 l.words.items
    c.put_part.new.words.items c.requires.units inside added.1 l.invariant
    (subst (λ names. IsPartPlaced added.0.kind names
    (slice_index_or c.args.lookup.models.now.lists (slice_index_or c.args.lookup.units.now l.part 0) [])
    (words_at d l.part) l.words.items c.put_part.new.words.items) c.at-names.ensures added.2)

pub returns-then-not-branch-clause-lost : goal.returns-then-not-branch-clause-lost
returns-then-not-branch-clause-lost c = λ bad.
    let l = c.loop-part in
    let d = c.args.file.now in
    let lost = c.in_ok-put_part.ensures.lost (search rules) in
    let inside : IsPartOf d c.args.model l.part =
    (omega (arith, c.first_part-first.ensures, l.auto.part), omega (arith, c.parts_end-end.ensures, c.loop-part-test.true)) in
    formal-lost d c.args.lookup.models.now.lists c.args.lookup.units.now c.args.model l.part lost.0 c.requires.units c.requires.within inside lost.1 lost.2

pub returns-clause-placed : goal.returns-clause-placed
returns-clause-placed c = λ good.
    let l = c.loop-part in
    let d = c.args.file.now in
    let rise = first_part-more d c.is_in_order.ensures c.args.model (c.args.model + 1) (omega arith) in
    let at_end : l.part ≤ c.parts_end-end.result = l.auto.part-end (omega (arith, rise, c.first_part-first.ensures, c.parts_end-end.ensures)) in
    let same : l.part ≡ first_part d (c.args.model + 1) = omega (arith, at_end, c.parts_end-end.ensures, c.loop-part-test.false) in
    subst (λ n. AreWordsPlaced d c.args.lookup.models.now.lists n l.words.items) same l.invariant

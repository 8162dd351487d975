use Rattle.std.proofs.Common.{◌≡◌, ◌+◌, length, length-take-le, take, ap, sym, ◌∙◌, subst, arith}
use Rattle.std.specs.Prelude.{slice_get}
use Rattle.std.proofs.lemmas.Option.{slice_get_within}
use Rattle.graph_order.proofs.Lists.{take_next}
use Rattle.numbered_file.specs.Numbered.{InstancePart, LatchPart, TablePart, between, instance_in, latch_in, named, part_by, parts_of, table_in}
use Rattle.numbered_file.specs.Places.{rows_at, words_at}
use Rattle.numbered_file.proofs.Places.{part_there}
use Rattle.card_places.proofs.KindPlaces.{AreSoFar, all-between, all-so-far, between-get, instance-next, latch-next, part-between, table-next}
use Rattle.card_places.proofs.places.add_model.Goals as goal

pub loop-index-preserved : goal.loop-index-preserved
loop-index-preserved c =
    let d = c.args.file.now in
    let start = c.args.start in
    let i = c.loop-index.index in
    let part = c.part_at-kind.result in
    let parts = between start c.args.end (parts_of d) in
    let known = ap (λ l. slice_get l i) (sym (c.between-parts.ensures ∙ ap (between start c.args.end) c.parts.ensures))
    ∙ c.part_at-kind.ensures in
    let there = part_there d (start + i) part (between-get start c.args.end d.parts i part known).1 in
    let words = named d.names (words_at d (start + i)) in
    let rows = rows_at d (start + i) in
    let p = part_by d.text part.kind part.line words rows in
    let within = part-between d start c.args.end i part known in
    let more = take_next parts i p within in
    let stands : start + i ≡ start + length (take i parts) = omega
    (arith, length-take-le i parts (omega (arith, slice_get_within parts i p within))) in
    record {
      tables = subst (λ ps. AreSoFar table_in TablePart d start ps c.args.tables.now c.add_place.new.tables) (sym more)
          (table-next d start (take i parts) c.args.tables.now c.loop-index.tables c.add_place.new.tables part.line words rows (start + i)
          stands part.kind there
          c.loop-index.invariant.tables c.in_ok-add_place.ensures.tables);
      latches = subst (λ ps. AreSoFar latch_in LatchPart d start ps c.args.latches.now c.add_place.new.latches) (sym more)
          (latch-next d start (take i parts) c.args.latches.now c.loop-index.latches c.add_place.new.latches part.line words rows
          (start + i) stands part.kind there
          c.loop-index.invariant.latches c.in_ok-add_place.ensures.latches);
      instances = subst (λ ps. AreSoFar instance_in InstancePart d start ps c.args.instances.now c.add_place.new.instances) (sym more)
          (instance-next d start (take i parts) c.args.instances.now c.loop-index.instances c.add_place.new.instances part.line words rows
          (start + i) stands part.kind there
          c.loop-index.invariant.instances c.in_ok-add_place.ensures.instances);
    }

pub returns-clause-tables : goal.returns-clause-tables
returns-clause-tables c =
    let d = c.args.file.now in
    let start = c.args.start in
    let parts = between start c.args.end (parts_of d) in
    let all = all-between d start c.args.end c.loop-index.index c.between-parts.result.now
    (c.between-parts.ensures ∙ ap (between start c.args.end) c.parts.ensures)
    (omega (arith, c.loop-index-test.false)) in
    all-so-far table_in TablePart d start parts c.args.tables.now c.loop-index.tables c.close.new.self
    (subst (λ ps. AreSoFar table_in TablePart d start ps c.args.tables.now c.loop-index.tables) all c.loop-index.invariant.tables)
    c.in_ok-close.ensures

pub returns-clause-latches : goal.returns-clause-latches
returns-clause-latches c =
    let d = c.args.file.now in
    let start = c.args.start in
    let parts = between start c.args.end (parts_of d) in
    let all = all-between d start c.args.end c.loop-index.index c.between-parts.result.now
    (c.between-parts.ensures ∙ ap (between start c.args.end) c.parts.ensures)
    (omega (arith, c.loop-index-test.false)) in
    all-so-far latch_in LatchPart d start parts c.args.latches.now c.loop-index.latches c.close-2.new.self
    (subst (λ ps. AreSoFar latch_in LatchPart d start ps c.args.latches.now c.loop-index.latches) all c.loop-index.invariant.latches)
    c.in_ok-close-2.ensures

pub returns-clause-instances : goal.returns-clause-instances
returns-clause-instances c =
    let d = c.args.file.now in
    let start = c.args.start in
    let parts = between start c.args.end (parts_of d) in
    let all = all-between d start c.args.end c.loop-index.index c.between-parts.result.now
    (c.between-parts.ensures ∙ ap (between start c.args.end) c.parts.ensures)
    (omega (arith, c.loop-index-test.false)) in
    all-so-far instance_in InstancePart d start parts c.args.instances.now c.loop-index.instances c.close-3.new.self
    (subst (λ ps. AreSoFar instance_in InstancePart d start ps c.args.instances.now c.loop-index.instances) all
    c.loop-index.invariant.instances) c.in_ok-close-3.ensures

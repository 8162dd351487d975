use Rattle.std.proofs.Common.{ℕ, ◌≤◌, length, ap, sym, ◌∙◌, subst, arith}
use Rattle.std.specs.Prelude.{slice_get}
use Rattle.numbered_file.specs.Numbered.{InstancePart, LatchPart, TablePart, between, instance_in, latch_in, parts_of, table_in}
use Rattle.numbered_file.proofs.Places.{parts_end-there}
use Rattle.card_places.specs.KindPlaces.{AreKindPlaces, AreModelKindPlaces, IsListAdded}
use Rattle.card_places.proofs.KindPlaces.{are-card-places, list-next}
use Rattle.card_places.proofs.places.card_places.Goals as goal

pub loop-index-preserved : goal.loop-index-preserved
loop-index-preserved c =
    let d = c.args.file.now in
    let i = c.loop-index.index in
    let end = parts_end-there d i c.model_at-end.result (ap (λ l. slice_get l i) (sym c.models-models.ensures) ∙ c.model_at-end.ensures) in
    let start = c.loop-index.invariant.start in
    record {
      start = sym end;
      tables = list-next (AreModelKindPlaces table_in TablePart d) i c.loop-index.tables c.add_model.new.tables
          c.loop-index.invariant.tables
          (subst (λ (n : ℕ × ℕ). IsListAdded (AreKindPlaces table_in TablePart d n.0 (between n.0 n.1 (parts_of d))) c.loop-index.tables
          c.add_model.new.tables) (λ k. (start k, sym end k)) c.in_ok-add_model.ensures.tables);
      latches = list-next (AreModelKindPlaces latch_in LatchPart d) i c.loop-index.latches c.add_model.new.latches
          c.loop-index.invariant.latches
          (subst (λ (n : ℕ × ℕ). IsListAdded (AreKindPlaces latch_in LatchPart d n.0 (between n.0 n.1 (parts_of d))) c.loop-index.latches
          c.add_model.new.latches) (λ k. (start k, sym end k)) c.in_ok-add_model.ensures.latches);
      instances = list-next (AreModelKindPlaces instance_in InstancePart d) i c.loop-index.instances c.add_model.new.instances
          c.loop-index.invariant.instances
          (subst (λ (n : ℕ × ℕ). IsListAdded (AreKindPlaces instance_in InstancePart d n.0 (between n.0 n.1 (parts_of d)))
          c.loop-index.instances c.add_model.new.instances) (λ k. (start k, sym end k)) c.in_ok-add_model.ensures.instances);
    }

pub returns : goal.returns
returns c =
    let d = c.args.file.now in
    let all : length d.models ≤ c.loop-index.index = omega (arith, c.loop-index-test.false, ap length c.models-models.ensures) in
    are-card-places d c.loop-index.tables c.loop-index.latches c.loop-index.instances c.loop-index.index all c.loop-index.invariant.tables
    c.loop-index.invariant.latches
    c.loop-index.invariant.instances

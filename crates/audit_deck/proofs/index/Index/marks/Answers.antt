use Rattle.std.specs.Prelude.{All}
use Rattle.std.proofs.Common.{subst, sym}
use Rattle.deck_audit.specs.Words.{IsLatchData, IsLatchNet, IsLatchOutput}
use Rattle.audit_deck.specs.Marks.{AreMarks, IsDataOf, IsOutputIn, IsOwnOf, IsWithin}
use Rattle.audit_deck.proofs.FoundMarks.{data_from, data_to, groups_within, output_from, output_to, own_from, own_to}
use Rattle.audit_deck.proofs.MarkedNets.{marks_same}
use Rattle.audit_deck.proofs.index.Index.marks.Goals as goal

pub own_marks-requires : goal.own_marks-requires
own_marks-requires c =
    record {
      within = subst (λ n. All (IsWithin n) c.args.groups.now) (sym c.requires.count)
          (groups_within c.args.self.now.devices c.args.roles c.args.groups.now c.requires.groups c.args.self.now.nets c.requires.in_range);
    }

pub data_marks-requires : goal.data_marks-requires
data_marks-requires c =
    record {
      within = subst (λ n. All (IsWithin n) c.args.groups.now) (sym c.requires.count)
          (groups_within c.args.self.now.devices c.args.roles c.args.groups.now c.requires.groups c.args.self.now.nets c.requires.in_range);
    }

pub latch_output_marks-requires : goal.latch_output_marks-requires
latch_output_marks-requires c =
    record {
      within = subst (λ n. All (IsWithin n) c.args.groups.now) (sym c.requires.count)
          (groups_within c.args.self.now.devices c.args.roles c.args.groups.now c.requires.groups c.args.self.now.nets c.requires.in_range);
    }

pub complements-requires-clause-inputs : goal.complements-requires-clause-inputs
complements-requires-clause-inputs c =
    let ds = c.args.self.now.devices in
    let groups = c.args.groups.now in
    subst (λ n. AreMarks (IsLatchData ds c.args.roles) n c.in_ok-latch_data.latch_data) c.requires.count
    (marks_same (IsDataOf groups) (IsLatchData ds c.args.roles) c.args.count c.in_ok-latch_data.latch_data
    (data_to ds c.args.roles groups c.requires.groups) (data_from ds c.args.roles groups c.requires.groups) c.in_ok-latch_data.ensures)

pub complements-requires-clause-outputs : goal.complements-requires-clause-outputs
complements-requires-clause-outputs c =
    let ds = c.args.self.now.devices in
    let groups = c.args.groups.now in
    subst (λ n. AreMarks (IsLatchOutput ds c.args.roles) n c.in_ok-latch_outputs.latch_outputs) c.requires.count
    (marks_same (IsOutputIn groups) (IsLatchOutput ds c.args.roles) c.args.count c.in_ok-latch_outputs.latch_outputs
    (output_to ds c.args.roles groups c.requires.groups) (output_from ds c.args.roles groups c.requires.groups) c.in_ok-latch_outputs.ensures)

pub returns : goal.returns
returns c =
    let ds = c.args.self.now.devices in
    let roles = c.args.roles in
    let groups = c.args.groups.now in
    let all = c.requires.groups in
    record {
      dynamic = c.in_ok-dynamic.ensures;
      outputs = c.in_ok-outputs.ensures;
      inside = c.in_ok-inside.ensures;
      latch = subst (λ n. AreMarks (IsLatchNet ds roles) n c.in_ok-latch.latch) c.requires.count
          (marks_same (IsOwnOf groups) (IsLatchNet ds roles) c.args.count c.in_ok-latch.latch (own_to ds roles groups all) (own_from ds roles groups all)
          c.in_ok-latch.ensures);
      latch_data = subst (λ n. AreMarks (IsLatchData ds roles) n c.in_ok-latch_data.latch_data) c.requires.count
          (marks_same (IsDataOf groups) (IsLatchData ds roles) c.args.count c.in_ok-latch_data.latch_data (data_to ds roles groups all) (data_from ds roles groups all)
          c.in_ok-latch_data.ensures);
      latch_outputs = subst (λ n. AreMarks (IsLatchOutput ds roles) n c.in_ok-latch_outputs.latch_outputs) c.requires.count
          (marks_same (IsOutputIn groups) (IsLatchOutput ds roles) c.args.count c.in_ok-latch_outputs.latch_outputs (output_to ds roles groups all)
          (output_from ds roles groups all) c.in_ok-latch_outputs.ensures);
      complements = c.in_ok-complements.ensures;
    }

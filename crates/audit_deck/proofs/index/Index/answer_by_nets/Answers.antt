use Rattle.std.proofs.Common.{subst, sym}
use Rattle.link_reduce.proofs.Options.{none_is}
use Rattle.audit_deck.specs.Groups.{AreGroups, KeepsLatches}
use Rattle.audit_deck.proofs.LatchLists.{kept_groups}
use Rattle.audit_deck.proofs.index.Index.answer_by_nets.Goals as goal

pub marks-requires-clause-groups : goal.marks-requires-clause-groups
marks-requires-clause-groups c =
    let ds = c.args.self.now.devices in
    kept_groups ds c.args.roles c.as_slice-latches.result.now
    (subst (AreGroups ds c.args.roles) (sym c.as_slice-latches.ensures.value) c.in_ok-latches.ensures)
    (none_is c.in_ok-net.field-0 (KeepsLatches ds c.args.roles) c.in_default.is c.in_ok-net.ensures.keeps)

pub answer_by_cells-requires-clause-latches : goal.answer_by_cells-requires-clause-latches
answer_by_cells-requires-clause-latches c =
    let ds = c.args.self.now.devices in
    kept_groups ds c.args.roles c.as_slice-latches.result.now
    (subst (AreGroups ds c.args.roles) (sym c.as_slice-latches.ensures.value) c.in_ok-latches.ensures)
    (none_is c.in_ok-net.field-0 (KeepsLatches ds c.args.roles) c.in_default.is c.in_ok-net.ensures.keeps)

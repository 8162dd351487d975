use Rattle.std.proofs.Common.{rules, subst, ◌≡◌, ◌++◌, ◌∷◌, [], append_assoc, append-nil}
use Rattle.std.specs.Prelude.{MatchResult}
use Rattle.deck.specs.Roles.{AreRoles, LeavesRolesAt}
use Rattle.spice_text.specs.Parts.{subckt_with}
use Rattle.deck.proofs.PortLayout.{no_order}
use Rattle.spice_text.proofs.Whole.{subckt-cut, subckt-uncut}
use Rattle.spice_text.proofs.ports.put_subckt.Goals as goal

pub returns-in_ok-put_port_lines-in-Ok-2 : goal.returns-in_ok-put_port_lines-in-Ok-2
returns-in_ok-put_port_lines-in-Ok-2 c =
    let groups = c.cut_ports-groups.result in
    let same : c.put_port_lines-in-Ok.new.text.items ≡ c.args.text.now.items ++ subckt_with c.args.name.now groups.leading.now (groups.pins.now ∷ groups.outs.now ∷ []) =
    search (rules, append_assoc, append-nil) in
    subckt-cut c.args.text.now.items c.args.name.now c.put_port_lines-in-Ok.new.text.items c.args.ports.now groups.leading.now groups.pins.now groups.outs.now c.cut_ports-groups.ensures same

pub returns-in_ok-put_port_lines-in-Err : goal.returns-in_ok-put_port_lines-in-Err
returns-in_ok-put_port_lines-in-Err c =
    let ports = c.args.ports.now in
    let leaves : LeavesRolesAt ports c.in-Err.field-0.place =
    subst (λ roles. MatchResult roles (λ found. AreRoles ports found) (λ fault. LeavesRolesAt ports fault.place)) c.in-Err.is c.requires in
    let same : c.put_port_lines-in-Err.new.text.items ≡ c.args.text.now.items ++ subckt_with c.args.name.now [] (c.args.ports.now ∷ []) =
    search (rules, append_assoc, append-nil) in
    subckt-uncut c.args.text.now.items c.args.name.now c.put_port_lines-in-Err.new.text.items c.args.ports.now (no_order ports leaves.no_order) same

use Rattle.std.proofs.Common.{◌≡◌, ◌∙◌, ◌++◌, ◌∷◌, [], map, take, codes, sym, subst, rules}
use Rattle.std.specs.Prelude.{All}
use Rattle.std.specs.List.{flat_map}
use Rattle.blif_ast.specs.Good.{IsGoodLatch}
use Rattle.blif_ast.specs.Printed.{latch_words, ports_card, printed_line, table_lines}
use Rattle.network.specs.Networks.{IsNetwork}
use Rattle.net_flatten.specs.OneModel.{name_at}
use Rattle.net_flatten.specs.OneModelParts.{latches_here, tables_here}
use Rattle.net_flatten.proofs.OneModel.{one_good}
use Rattle.net_flatten.proofs.TextOfNetwork.{printed_end}
use Rattle.net_flatten.proofs.printing.print_network.Goals as goal

pub put_latches-requires : goal.put_latches-requires
put_latches-requires c =
    subst (All IsGoodLatch) (sym (c.deref-4.ensures.value ∙ c.in_ok-latches_of.ensures))
    (one_good c.args.network.now (subst IsNetwork c.network.view_is c.network.invariant)).latches

pub returns : goal.returns
returns c =
    let n = c.args.network.now in
    let head : c.put_head.new.text.items ≡ c.in_ok-text.text.items ++ printed_line (codes ".model" ∷ n.name ∷ []) = search rules in
    let inputs : c.put_ports.new.text.items ≡ c.put_head.new.text.items ++ flat_map printed_line (ports_card (codes ".inputs") (take n.inputs n.names)) = search rules in
    let outputs : c.put_ports-2.new.text.items ≡ c.put_ports.new.text.items ++ flat_map printed_line (ports_card (codes ".outputs") (map (name_at n) n.outputs)) = search rules in
    let tables : c.put_tables.new.text.items ≡ c.put_ports-2.new.text.items ++ flat_map (λ t. flat_map printed_line (table_lines t)) (tables_here n) = search rules in
    let latches : c.put_latches.new.text.items ≡ c.put_tables.new.text.items ++ flat_map (λ l. printed_line (latch_words l)) (latches_here n) = search rules in
    let end : c.append.new.text.items ≡ c.put_latches.new.text.items ++ codes ".end\n" = search rules in
    printed_end n c.in_ok-text.text.items c.put_head.new.text.items c.put_ports.new.text.items c.put_ports-2.new.text.items c.put_tables.new.text.items
    c.put_latches.new.text.items c.append.new.text.items c.in_ok-text.ensures.items head inputs outputs tables latches end

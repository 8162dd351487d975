use Rattle.std.proofs.Common.{ℕ, rules}
use Rattle.std.specs.List.{flat_map}
use Rattle.blif_ast.specs.Printed.{printed_line, table_lines}
use Rattle.network.specs.NetworkData.{NetTableData}
use Rattle.net_flatten.specs.OneModel.{table_at}
use Rattle.net_flatten.proofs.TextOfNetwork.{appended_all, appended_more}
use Rattle.net_flatten.proofs.printing.put_tables.Goals as goal

pub loop-k-preserved : goal.loop-k-preserved
loop-k-preserved c = appended_more (λ (p : ℕ × NetTableData). table_at c.args.network.now p.0 p.1) (λ table. flat_map printed_line (table_lines table)) c.args.network.now.tables
    c.loop-k.k c.args.text.now.items c.loop-k.text.items c.put_table.new.text.items (search rules) c.loop-k.invariant c.in_ok-put_table.ensures

pub returns : goal.returns
returns c = appended_all (λ (p : ℕ × NetTableData). table_at c.args.network.now p.0 p.1) (λ table. flat_map printed_line (table_lines table)) c.args.network.now.tables
    c.loop-k.k c.args.text.now.items c.loop-k.text.items (search rules) c.loop-k.invariant

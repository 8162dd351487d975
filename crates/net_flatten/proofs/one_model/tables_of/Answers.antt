use Rattle.std.proofs.Common.{ℕ, rules}
use Rattle.network.specs.NetworkData.{NetTableData}
use Rattle.net_flatten.specs.OneModel.{table_at}
use Rattle.net_flatten.proofs.ToFile.{numbered_all, numbered_more}
use Rattle.net_flatten.proofs.one_model.tables_of.Goals as goal

pub loop-k-preserved : goal.loop-k-preserved
loop-k-preserved c = numbered_more (λ (p : ℕ × NetTableData). table_at c.args.network.now p.0 p.1) c.args.network.now.tables c.loop-k.k c.in_ok-table_of.field-0 c.loop-k.tables.items
    c.push.new.self.items (search rules) c.loop-k.invariant c.in_ok-push.ensures.items c.in_ok-table_of.ensures

pub returns : goal.returns
returns c = numbered_all (λ (p : ℕ × NetTableData). table_at c.args.network.now p.0 p.1) c.args.network.now.tables c.loop-k.k c.loop-k.tables.items (search rules) c.loop-k.invariant

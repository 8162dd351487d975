use Rattle.std.proofs.Common.{◌≡◌, ℕ, Bool, true, List, map, subst}
use Rattle.std.specs.Prelude.{◌↔◌}
use mathlib.Core.Bool.{beq}
use Rattle.blif_ast.specs.declared.letter.Letter.{Letter}
use Rattle.blif_ast.specs.TableValue.{IsOneAt}
use Rattle.network.specs.NetworkData.{NetTableData}
use Rattle.net_run.specs.Runs.{value_at}
use Rattle.net_run.proofs.RowMatches.{by_rows}
use Rattle.net_run.proofs.table.is_one.Goals as goal

pub returns : goal.returns
returns c =
    let Is : Bool → List (List Letter) → List ℕ → Type 0 =
    λ on rows inputs. (beq c.any_matches.result c.table.inside.on ≡ true) ↔ IsOneAt on rows (map (value_at c.args.values.now) inputs) in
    subst (λ (t : NetTableData). Is t.on t.rows t.inputs) c.table.view_is
    (by_rows c.any_matches.result c.table.inside.on c.table.inside.rows (map (value_at c.args.values.now) c.table.inside.inputs.now) c.any_matches.ensures)

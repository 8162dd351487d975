use Rattle.std.proofs.Common.{◌≡◌, ◌≤◌, ◌++◌, length, take}
use Rattle.network.specs.TablePools.{rows_in_text}
use Rattle.network.proofs.net_tables.push_rows_in_text.Given as goal

pub record Keeps (l : goal.Live-loop-place) : Type 0 where
  pub pool : l.pool ≡ l.fn.pool ++ rows_in_text l.rows-inside.text.now l.rows-inside.width (take l.place-index l.place-items)
  pub longer : length l.fn.pool ≤ length l.pool

abbrev pub invariant-loop-place : goal.invariant-loop-place
invariant-loop-place l = Keeps l

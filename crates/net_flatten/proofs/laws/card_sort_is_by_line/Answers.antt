use Rattle.model_calls.specs.Expanded.{card_line}
use Rattle.model_calls.proofs.StableSort.{sorted_in_order}
use Rattle.net_flatten.proofs.laws.card_sort_is_by_line.Goals as goal

pub returns : goal.returns
returns c = λ xs ys sorted stable. sorted_in_order card_line xs ys sorted stable

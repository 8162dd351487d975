use Rattle.part_numbers.proofs.OccurrencesApart.{place_by_path}
use Rattle.net_flatten.proofs.laws.paths_differ.Goals as goal

pub returns : goal.returns
returns c = λ f good j k p q a b e. place_by_path f good j k p q a b e

use Rattle.std.proofs.Common.{ap, map, sym, ◌∙◌}
use Rattle.blif_lines.specs.Cuts.{numbered_line}
use Rattle.blif_numbers.specs.BuilderData.{BuilderData}
use Rattle.blif_numbers.proofs.BuilderSteps.{card-none}
use Rattle.blif_numbers.proofs.builder.Builder.push_card.Goals as goal

pub push_card_in-requires-clause-model : goal.push_card_in-requires-clause-model
push_card_in-requires-clause-model c = sym (ap (λ (x : BuilderData). x.open_model) c.self.view_is) ∙ c.in-Some.is

pub returns-in-None : goal.returns-in-None
returns-in-None c = absurd (card-none c.args.self.now c.args.card (numbered_line c.args.line (map (λ w. w.now) c.args.words.now))
    (sym (ap (λ (x : BuilderData). x.open_model) c.self.view_is) ∙ c.in-None.is) c.requires.inner c.requires.clean)

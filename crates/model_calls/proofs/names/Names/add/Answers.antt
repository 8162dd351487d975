use Rattle.std.proofs.Common.{refl, subst, map}
use Rattle.model_calls.proofs.NameNumbers.{added}
use Rattle.model_calls.specs.NameNumbers.{IsNameAdded}
use Rattle.model_calls.proofs.names.Names.add.Goals as goal

pub returns : goal.returns
returns c = let e = c.in_ok-insert_full.ensures in
    subst (λ before. IsNameAdded before c.args.name.now (map (λ k. k.now) c.insert_full.new.self.keys) c.in_ok-insert_full.field-0.0 c.in_ok-insert_full.field-0.1) c.self.view_is
    (added (λ k. k.now) c.args.name.now c.self.inside.set.keys c.insert_full.new.self.keys c.args.name c.in_ok-insert_full.field-0.0 c.in_ok-insert_full.field-0.1 refl e.added e.keys e.index e.stored)

use Rattle.std.proofs.Common.{◌≡◌, ◌++◌, ◌∷◌, take}
use Rattle.std.specs.List.{flat_map}
use Rattle.plan_text.proofs.head.put_names.Given as goal

abbrev pub invariant-names : goal.invariant-names
invariant-names l = l.text ≡ l.fn.text ++ flat_map (λ word. 32 ∷ word) (take l.name-index l.names)

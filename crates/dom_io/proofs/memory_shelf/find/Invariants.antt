use Rattle.std.proofs.Common.{◌≡◌, drop, map}
use Rattle.std.specs.String.{string_bytes}
use Rattle.dom_io.specs.Held.{held}
use Rattle.dom_io.proofs.memory_shelf.find.Given as goal

abbrev pub invariant-loop-key : goal.invariant-loop-key
invariant-loop-key l =
    held (map (λ p. (string_bytes p.0, p.1.items)) l.files) l.name ≡ held (map (λ p. (string_bytes p.0, p.1.items)) (drop l.key-index l.files)) l.name

-- Nets that stand at the numbers which are held for them, in circuits that grow.
use Rattle.std.proofs.Common.{◌≡◌, ℕ, Option, Some, None, List, [], slice_get, nat_eq, sym, ap, ◌∙◌}
use Rattle.std.specs.Cmp.Lexicographic.{pointwise, bytes_decides}
use Rattle.std.specs.List.{position}
use Rattle.std.proofs.lemmas.List.Quantifiers.{position-Some}
use Rattle.std.proofs.lemmas.Option.{slice_get-get_or}
use Rattle.dom_base.specs.declared.kind.Kind.{Kind}
use Rattle.dom_base.proofs.Lists.{slice_get-append}
use Rattle.deck.specs.CircuitData.{CircuitData}
use Rattle.deck.specs.CircuitGrowth.{Grew}
use Rattle.deck.specs.Nets.{with_net, with_nets}
use Rattle.deck.specs.NetsAt.{HasEnds, StandsAt}
use Rattle.deck.specs.Pushes.{added_device}
use Rattle.deck.proofs.NetNumbers.{slice_get-with_net, with_net-grows}

-- what stands at a number stays there once a net is added
pub slice_get-later : (nets : List (List ℕ)) (added : List ℕ) (i : ℕ) (name : List ℕ) → slice_get nets i ≡ Some name
    → slice_get (with_net nets added) i ≡ Some name
slice_get-later nets added i name at =
    let more = with_net-grows nets added in
    ap (λ l. slice_get l i) more.1 ∙ slice_get-append nets more.0 i name at

pub StandsAt-later : (nets : List (List ℕ)) (added : List ℕ) (number : Option ℕ) (name : List ℕ) → StandsAt nets number name
    → StandsAt (with_net nets added) number name
StandsAt-later nets added None name at = tt
StandsAt-later nets added (Some i) name at = slice_get-later nets added i name at

-- and once a circuit grew
pub slice_get-grew : (old new : CircuitData) (i : ℕ) (name : List ℕ) → Grew old new → slice_get old.nets i ≡ Some name
    → slice_get new.nets i ≡ Some name
slice_get-grew old new i name grew at = ap (λ l. slice_get l i) grew.nets ∙ slice_get-append old.nets grew.more_nets i name at

pub StandsAt-grew : (old new : CircuitData) (number : Option ℕ) (name : List ℕ) → Grew old new → StandsAt old.nets number name
    → StandsAt new.nets number name
StandsAt-grew old new None name grew at = tt
StandsAt-grew old new (Some i) name grew at = slice_get-grew old new i name grew at

-- a net that is found stands at its number
pub slice_get-position : (nets : List (List ℕ)) (name : List ℕ) (i : ℕ) → position (pointwise nat_eq name) nets ≡ Some i → slice_get nets i ≡ Some name
slice_get-position nets name i at =
    let found = position-Some (pointwise nat_eq name) nets i [] at in
    slice_get-get_or nets i [] found.0 ∙ ap Some (sym ((bytes_decides name _).0 found.1))

-- a device that was added has its ends
pub HasEnds-added : (nets : List (List ℕ)) (kind : Kind) (d g s : List ℕ)
    → HasEnds (with_nets nets d g s) d g s (added_device nets kind d g s)
HasEnds-added nets kind d g s =
    let one = with_net nets d in
    let two = with_net one g in
    record {
      drain = slice_get-later two s _ d (slice_get-later one g _ d (slice_get-with_net nets d));
      gate = slice_get-later two s _ g (slice_get-with_net one g);
      source = slice_get-with_net two s;
    }

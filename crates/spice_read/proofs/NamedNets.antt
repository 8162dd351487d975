-- Nets that are named again, and nets behind those of a device.
use Rattle.std.proofs.Common.{◌≡◌, ◌<◌, ℕ, List, length, take, inl, inr, ◌⊎◌, sym, ap, ◌∙◌}
use Rattle.std.specs.Char.{to_ascii_lowercase}
use Rattle.std.specs.Str.{str_to_ascii_lowercase}
use Rattle.std.proofs.Math.Seq.{take-append_seam}
use Rattle.std.proofs.lemmas.List.Elements.{All-weaker}
use Rattle.std.proofs.lemmas.List.Folds.{map_fixed}
use Rattle.std.proofs.lemmas.Str.Ascii.{lowercase_is}
use Rattle.dom_base.specs.Names.{IsNetByte, IsNetName}
use Rattle.deck.specs.Nets.{with_net, with_nets}
use Rattle.deck.proofs.NetNumbers.{Longer, Longer-trans, with_net-grows}

lower_byte : (b : ℕ) → IsNetByte b → to_ascii_lowercase b ≡ b
lower_byte b h = by h.2
  where
    by : (b < 65) ⊎ (90 < b) → to_ascii_lowercase b ≡ b
    by (inl low) = (lowercase_is b).1 low
    by (inr high) = (lowercase_is b).2 high

-- a word that is the name of a net is that name in lower case
pub name_in_lower_case : (name word : List ℕ) → IsNetName name → name ≡ word → name ≡ str_to_ascii_lowercase word
name_in_lower_case name word good is =
    sym (map_fixed to_ascii_lowercase name (All-weaker IsNetByte (λ b. to_ascii_lowercase b ≡ b) lower_byte name good.good))
    ∙ ap str_to_ascii_lowercase is

begins-longer : (old new : List (List ℕ)) → Longer old new → take (length old) new ≡ old
begins-longer old new (more, is) = ap (take (length old)) is ∙ take-append_seam old more

-- the nets before those of a device stay where they are
pub begins-with_nets : (nets : List (List ℕ)) (d g s : List ℕ) → take (length nets) (with_nets nets d g s) ≡ nets
begins-with_nets nets d g s =
    let one = with_net nets d in
    let two = with_net one g in
    begins-longer nets (with_nets nets d g s)
    (Longer-trans nets one (with_nets nets d g s) (with_net-grows nets d)
    (Longer-trans one two (with_nets nets d g s) (with_net-grows one g) (with_net-grows two s)))

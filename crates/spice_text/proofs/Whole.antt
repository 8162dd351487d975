-- The text of a circuit from its parts.
use Rattle.std.proofs.Common.{◌≡◌, ℕ, List, [], ◌∷◌, ◌++◌, codes, take, drop, sym, ap, ◌∙◌, append_assoc}
use Rattle.std.specs.List.{flat_map}
use Rattle.std.proofs.lemmas.List.{take_at, drop_at}
use Rattle.deck.specs.CircuitData.{CircuitData}
use Rattle.deck.specs.PortLayout.{first_pin}
use Rattle.deck.specs.Ports.{HasRoles, leading_ports}
use Rattle.deck.specs.Roles.{AreRoles}
use Rattle.deck.specs.declared.role.Roles.{Roles}
use Rattle.spice_text.specs.Text.{phase_line, deck_line, plus_lines, device_cards, IsWritten}
use Rattle.spice_text.specs.Parts.{ArePortGroups, IsSubckt, subckt_with}
use Rattle.deck.proofs.PortLayout.{HasRoles-same, joined, length-leading}

-- ports in order of roles, in groups by their counts
pub groups-found : (ports : List (List ℕ)) (roles : Roles) → AreRoles ports roles
    → ArePortGroups ports (take (first_pin roles) ports) (take roles.pins (drop (first_pin roles) ports)) (drop roles.pins (drop (first_pin roles) ports))
groups-found ports roles h =
    let few = (h.in_order).few_clocks in
    let lead = leading_ports roles.clocks in
    let long = length-leading roles.clocks few in
    let rest : drop (first_pin roles) ports ≡ h.pins ++ h.outs = ap (drop (first_pin roles)) (joined h.in_order) ∙ drop_at lead (h.pins ++ h.outs) (first_pin roles) long in
    let pins : take roles.pins (drop (first_pin roles) ports) ≡ h.pins = ap (take roles.pins) rest ∙ take_at h.pins h.outs roles.pins h.pin_count in
    let outs : drop roles.pins (drop (first_pin roles) ports) ≡ h.outs = ap (drop roles.pins) rest ∙ drop_at h.pins h.outs roles.pins h.pin_count in
    record {
      clocks = roles.clocks;
      leading_are = ap (take (first_pin roles)) (joined h.in_order) ∙ take_at lead (h.pins ++ h.outs) (first_pin roles) long;
      roles = rw (pins, outs) h.in_order;
    }

-- the part on ports, where they were cut
pub subckt-cut : (before name text : List ℕ) (ports leading pins outs : List (List ℕ)) → ArePortGroups ports leading pins outs
    → text ≡ before ++ subckt_with name leading (pins ∷ outs ∷ []) → IsSubckt before name ports text
subckt-cut before name text ports leading pins outs cut e = record {
  with_roles = λ clocks pins' outs' has.
      let same = HasRoles-same ports cut.clocks clocks pins pins' outs outs' cut.roles has in
      let lead : leading ≡ leading_ports clocks = cut.leading_are ∙ ap leading_ports same.same_clocks in
      e ∙ ap (λ l. before ++ subckt_with name l (pins ∷ outs ∷ [])) lead
      ∙ ap (λ p. before ++ subckt_with name (leading_ports clocks) (p ∷ outs ∷ [])) same.same_pins
      ∙ ap (λ o. before ++ subckt_with name (leading_ports clocks) (pins' ∷ o ∷ [])) same.same_outs;
  without_roles = λ none. absurd (none cut.clocks pins outs cut.roles);
}

-- the part on ports that aren't in the order of roles
pub subckt-uncut : (before name text : List ℕ) (ports : List (List ℕ))
    → ((clocks : ℕ) (pins outs : List (List ℕ)) → HasRoles ports clocks pins outs → ⊥)
    → text ≡ before ++ subckt_with name [] (ports ∷ []) → IsSubckt before name ports text
subckt-uncut before name text ports none e = record {
  with_roles = λ clocks pins outs has. absurd (none clocks pins outs has);
  without_roles = λ _. e;
}

pub text-whole : (c : CircuitData) (before middle text : List ℕ) → before ≡ codes "* domsyn deck 1" ++ 10 ∷ [] ++ flat_map phase_line c.phases
    → IsSubckt before c.name (take c.ports c.nets) middle → text ≡ middle ++ device_cards c.nets c.devices ++ deck_line (codes ".ends") (c.name ∷ []) → IsWritten c text
text-whole c before middle text eb part et =
    let head : List ℕ = codes "* domsyn deck 1" ++ 10 ∷ [] ++ flat_map phase_line c.phases in
    let tail : List ℕ → List ℕ = λ m. m ++ device_cards c.nets c.devices ++ deck_line (codes ".ends") (c.name ∷ []) in
    record {
      with_roles = λ clocks pins outs has.
          et ∙ ap tail (part.with_roles clocks pins outs has
          ∙ ap (λ b. b ++ subckt_with c.name (leading_ports clocks) (pins ∷ outs ∷ [])) eb
          ∙ sym (append_assoc head (deck_line (codes ".subckt") (c.name ∷ leading_ports clocks)) (flat_map plus_lines (pins ∷ outs ∷ []))));
      without_roles = λ none.
          et ∙ ap tail (part.without_roles none
          ∙ ap (λ b. b ++ subckt_with c.name [] (take c.ports c.nets ∷ [])) eb
          ∙ sym (append_assoc head (deck_line (codes ".subckt") (c.name ∷ [])) (flat_map plus_lines (take c.ports c.nets ∷ []))));
    }

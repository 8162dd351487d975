-- What was found and put in order, part by part, is a yes, where rules 4 to 6 hold.
use Rattle.std.specs.Prelude.{◌⊎◌}
use Rattle.std.proofs.Common.{List, [], ap, length, ℕ, ◌++◌, ◌<◌, ◌∙◌, ◌≡◌, ◌≤◌}
use Rattle.std.proofs.lemmas.List.{append_assoc}
use Rattle.deck.specs.CircuitData.{CircuitData}
use Rattle.deck.specs.PortLayout.{first_output, source_count}
use Rattle.deck.specs.declared.device.Device.{Device}
use Rattle.deck.specs.declared.role.Roles.{Roles}
use Rattle.sp_reduction.specs.Networks.{whole_height, whole_width}
use Rattle.deck_audit.specs.Audits.{IsYes}
use Rattle.deck_audit.specs.Rules.{DependsOn, HasLatch, HasTwoSources, IsAtControl, IsLeafNet, IsTreeDevice, KeepsRules}
use Rattle.deck_audit.specs.Words.{IsDynamic, StandsAt}
use Rattle.found_decks.specs.FoundDecks.{AreFound, AreInverterPlaces, FoundLatch, FoundParts, numbers_from, whole}
use Rattle.found_decks.proofs.FoundDecks.{found_decks_get_yes}
use Rattle.audit_deck.specs.Uses.{KeepsUses}
use Rattle.audit_deck.specs.DeckOrders.{AddsBlocks, AddsCells, DeckOrderData, empty}
use Rattle.audit_deck.proofs.CellRules.{front_kept, output_kept, tree_kept}
use Rattle.audit_deck.proofs.DeckOrders.{all_greatest, one_height, one_width}

five_lists : (a b c d e : List ℕ) → (((a ++ b) ++ c) ++ d) ++ e ≡ a ++ (b ++ (c ++ (d ++ e)))
five_lists a b c d e = append_assoc ((a ++ b) ++ c) d e ∙ append_assoc (a ++ b) c (d ++ e) ∙ append_assoc a b (c ++ (d ++ e))

-- rules 4 to 6, each as what it gives
pub record KeepsOthers (ds : List Device) (roles : Roles) (nets : ℕ) : Type 0 where
  pub latch : (n : ℕ) → IsAtControl ds roles n → HasLatch ds roles n
  pub use_of : KeepsUses ds roles nets
  pub no_bridge : (p : ℕ) (d : Device) → StandsAt ds p d → HasTwoSources roles d → ⊥
  pub leaves : (x : ℕ) (p : ℕ) (d : Device) → IsDynamic ds roles x → StandsAt ds p d → IsTreeDevice ds roles x d → IsLeafNet ds roles d.gate
  pub no_loop : (x : ℕ) → IsDynamic ds roles x → DependsOn ds roles x x → ⊥

pub order_is_yes : (c : CircuitData) (roles : Roles) (f : FoundParts) (cells : DeckOrderData) (complements latches outputs nexts : List ℕ) → 1 ≤ roles.clocks → source_count roles ≤ length c.nets
    → ((d : Device) (p : ℕ) → StandsAt c.devices p d → (d.drain < length c.nets) × (d.source < length c.nets))
    → KeepsOthers c.devices roles (length c.nets) → AreFound c.devices roles f
    → AddsCells c.devices roles f.tops empty cells
    → AddsBlocks (AreInverterPlaces c.devices) f.complements cells.places complements
    → AddsBlocks (λ (l : FoundLatch) block. block ≡ l.places) f.latches complements latches
    → AddsBlocks (AreInverterPlaces c.devices) (numbers_from (first_output roles) roles.outs) latches outputs
    → AddsBlocks (λ (l : FoundLatch) block. AreInverterPlaces c.devices (l.group).data_net block) f.latches outputs nexts
    → IsYes c roles nexts (length f.tops) cells.width cells.height
order_is_yes c roles f cells complements latches outputs nexts some few range others found a (ks, k, ke) (ls, l, le) (os, o, oe) (ns, n, ne) =
    let ds = c.devices in
    let nets = length c.nets in
    let cs = a.blocks.0 in
    let are = a.blocks.1 in
    let rules : KeepsRules ds roles nets = record {
      front = front_kept ds roles nets f found cs are;
      output = output_kept ds roles nets f found cs are;
      tree = tree_kept ds roles nets f found cs are;
      latch = others.latch;
      use_of = others.use_of;
      no_bridge = others.no_bridge;
      leaves = others.leaves;
      no_loop = others.no_loop;
    } in
    let order : nexts ≡ (((whole cs ++ whole ks) ++ whole ls) ++ whole os) ++ whole ns =
    ne ∙ ap (λ xs. xs ++ whole ns) (oe ∙ ap (λ xs. xs ++ whole os) (le ∙ ap (λ xs. xs ++ whole ls) (ke ∙ ap (λ xs. xs ++ whole ks) a.blocks.2))) in
    found_decks_get_yes c roles f nexts cells.width cells.height some few range rules found
    (record {
      cells = cs;
      complements = ks;
      latches = ls;
      outputs = os;
      nexts = ns;
      cells_are = are;
      complements_are = k;
      latches_are = l;
      outputs_are = o;
      nexts_are = n;
      order_is = order ∙ five_lists (whole cs) (whole ks) (whole ls) (whole os) (whole ns);
    })
    (all_greatest ds roles nets whole_width (one_width ds roles nets) f.tops cells.width found.tops_full a.width_is)
    (all_greatest ds roles nets whole_height (one_height ds roles nets) f.tops cells.height found.tops_full a.height_is)

-- The devices of a deck as the code makes them are its named devices.
use Rattle.domino_cell.specs.declared.style.Style.{Style}
use Rattle.std.proofs.Common.{◌≡◌, ℕ, ◌+◌, ◌*◌, ◌<◌, ◌||◌, Bool, List, [], ◌∷◌, ◌++◌, length, map, zip, filter, refl, sym, ap, ap₂, ◌∙◌, Some, slice_get, flat_map}
use Rattle.std.specs.List.{list_any, range_with_len, enumerate_from}
use Rattle.dom_base.proofs.Lists.{list_any-map}
use Rattle.dual_rail.specs.declared.forest.End.{End}
use Rattle.dual_rail.specs.declared.forest.End.TheVariants.{Const, Literal, FromDynamic, FromOutput}
use Rattle.sp_network.specs.Tree.{EachLeaf}
use Rattle.sp_network.specs.TypedTree.{tree_of}
use Rattle.sp_network.specs.declared.plan.GatePlan.{GatePlan}
use Rattle.synth_flow.specs.BareDecks.{cell_plan, gate_nets, made_devices, named_leaves}
use Rattle.deck_form.specs.DeckNets.{CellPlan, SinkEnd, complement_net, data_net, named_complement, named_devices, named_sink, own_net, sink_gate}
use Rattle.synth_flow.specs.MadeDecks.{inverters, latches_from}
use Rattle.synth_flow.specs.NamedComplements.{are_read, is_plus_end}
use Rattle.deck_form.specs.NamedDecks.{is_plus_literal, names_complement, reads}
use Rattle.synth_flow.specs.SinkParts.{end_in}
use Rattle.synth_flow.proofs.BareDecks.{cells_are, gates_are}
use Rattle.synth_flow.proofs.LeafMarks.{filter_same}

pub complements_are : (pins : List (List ℕ)) (leaves : List ℕ) → inverters (map (own_net pins) leaves) (map complement_net leaves) ≡ flat_map (named_complement pins) leaves
complements_are pins [] = refl
complements_are pins (n ∷ leaves) = ap (λ l. named_complement pins n ++ l) (complements_are pins leaves)

sinks_are : (pins sinks : List (List ℕ)) (ends : List SinkEnd) → inverters (map (sink_gate pins) ends) sinks ≡ flat_map (named_sink pins) (zip sinks ends)
sinks_are pins [] [] = refl
sinks_are pins [] (e ∷ ends) = refl
sinks_are pins (s ∷ sinks) [] = refl
sinks_are pins (s ∷ sinks) (e ∷ ends) = ap (λ l. named_sink pins (s, e) ++ l) (sinks_are pins sinks ends)

-- the data nets of latches
pub data_rows : (j : ℕ) (starts : List Bool) → map data_net (range_with_len j (length starts)) ≡ map (λ (p : ℕ × Bool). data_net p.0) (enumerate_from j starts)
data_rows j [] = refl
data_rows j (s ∷ starts) = ap (λ l. data_net j ∷ l) (data_rows (j + 1) starts)

-- the devices of the deck
pub made_named : (style : Style) (pins outs : List (List ℕ)) (starts : List Bool) (plans : List GatePlan) (ends : List End) (cells : List ℕ)
    → ((k : ℕ) (p : GatePlan) → slice_get plans k ≡ Some p → EachLeaf (λ gate. gate < 2 * (length pins + length starts) + k) (tree_of p.tree))
    → made_devices style pins (outs ++ map data_net (range_with_len 0 (length starts))) starts plans ends cells
    ≡ named_devices style pins outs starts (map cell_plan plans) (named_leaves plans ends (length pins + length starts)) (map (end_in cells) ends)
made_named style pins outs starts plans ends cells earlier =
    let lc : ℕ = length pins + length starts in
    let leaves = named_leaves plans ends lc in
    let nets = outs ++ map data_net (range_with_len 0 (length starts)) in
    let first = cells_are style (gate_nets pins lc (2 * lc + length plans)) pins lc 0 plans (gates_are pins lc plans earlier) in
    let second = complements_are pins leaves in
    let last = sinks_are pins nets (map (end_in cells) ends) ∙ ap (λ l. flat_map (named_sink pins) (zip (outs ++ l) (map (end_in cells) ends))) (data_rows 0 starts) in
    λ i. first i ++ second i ++ latches_from 0 starts ++ last i

same_literal : (cells : List ℕ) (leaf : ℕ) (ends : List End) → list_any (is_plus_end leaf) ends ≡ list_any (is_plus_literal leaf) (map (end_in cells) ends)
same_literal cells leaf [] = refl
same_literal cells leaf (e ∷ ends) = ap₂ (λ a b. a || b) (one e) (same_literal cells leaf ends)
  where
    one : (x : End) → is_plus_end leaf x ≡ is_plus_literal leaf (end_in cells x)
    one (Const b) = refl
    one (Literal rail) = refl
    one (FromDynamic place) = refl
    one (FromOutput place) = refl

same_reads : (leaf : ℕ) (plans : List GatePlan) → are_read plans leaf ≡ list_any (λ (c : CellPlan). reads (2 * leaf + 1) c.tree) (map cell_plan plans)
same_reads leaf plans = sym (list_any-map (λ (c : CellPlan). reads (2 * leaf + 1) c.tree) cell_plan plans)

-- the complements that are named
pub leaves_named : (plans : List GatePlan) (ends : List End) (cells : List ℕ) (lc : ℕ)
    → named_leaves plans ends lc ≡ filter (names_complement (map cell_plan plans) (map (end_in cells) ends)) (range_with_len 0 lc)
leaves_named plans ends cells lc =
    filter_same (λ leaf. are_read plans leaf || list_any (is_plus_end leaf) ends) (names_complement (map cell_plan plans) (map (end_in cells) ends)) 0 lc
    (λ k lt. ap₂ (λ a b. a || b) (same_reads k plans) (same_literal cells k ends))

pub ruleset made_as_named = (made_named, leaves_named)

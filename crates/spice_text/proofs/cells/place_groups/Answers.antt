use Rattle.std.proofs.Common.{◌≡◌, ◌<◌, ◌+◌, ◌++◌, ◌∷◌, [], ℕ, List, All, codes, map, drop, get_or, length, ap, ap₂, sym, refl, ◌∙◌, subst}
use Rattle.std.specs.Fmt.{decimal}
use Rattle.std.specs.List.{position_or_len}
use Rattle.indexmap.specs.IndexSet.{insert_key}
use Rattle.deck.specs.declared.device.Device.{Device}
use Rattle.deck.specs.Nets.{IsInRange, net_name}
use Rattle.spice_text.specs.Cells.{cell_name, groups_from, same_cell_shape}
use Rattle.spice_text.specs.GroupNets.{GroupNetsData, group_nets, placed_group}
use Rattle.spice_text.specs.Text.{deck_line}
use Rattle.spice_text.proofs.GroupCells.{group_nets_low}
use Rattle.spice_text.proofs.GroupLoops.{AreLeft, ArePlaced, groups-step, next_group, next_placed}
use Rattle.spice_text.proofs.cells.place_groups.Goals as goal

pub split_at-requires : goal.split_at-requires
split_at-requires c =
    let place = get_or c.args.ends.now c.groups.index 0 in
    let next = next_group (length c.args.names.now) c.groups.start c.groups.rest.now c.args.ends.now c.groups.index place 0
    c.groups-test.true refl c.groups.invariant.left in
    next.short

pub put_call-requires : goal.put_call-requires
put_call-requires c =
    let bound = length c.args.names.now in
    let place = get_or c.args.ends.now c.groups.index 0 in
    let next = next_group bound c.groups.start c.groups.rest.now c.args.ends.now c.groups.index place 0 c.groups-test.true refl
    c.groups.invariant.left in
    let within : All (IsInRange bound) c.split_at.result.0.now = subst (λ (l : List Device). All (IsInRange bound) l)
    (sym c.split_at.ensures.front) next.within in
    let nets_are : c.nets.result.now ≡ group_nets c.split_at.result.0.now = c.nets.ensures
    ∙ ap (λ (s : GroupNetsData). s.nets) c.in_ok-number_group.ensures.nets in
    let low : All (λ (net : ℕ). net < bound) c.nets.result.now
    = subst (λ (l : List ℕ). All (λ (net : ℕ). net < bound) l) (sym nets_are)
    (group_nets_low bound c.split_at.result.0.now c.requires.supplies within) in
    low

pub groups-preserved : goal.groups-preserved
groups-preserved c =
    let names = c.args.names.now in
    let ends = c.args.ends.now in
    let index = c.groups.index in
    let place = get_or ends index 0 in
    let places : List ℕ = drop (index + 1) ends in
    let group = c.split_at.result.0.now in
    let more = c.split_at.result.1.now in
    let next = next_group (length names) c.groups.start c.groups.rest.now ends index place 0 c.groups-test.true refl
    c.groups.invariant.left in
    let step : groups_from c.groups.start (drop index ends) c.groups.rest.now ≡ group ∷ groups_from place places more =
    groups-step c.groups.start c.groups.rest.now ends index place 0 c.groups-test.true refl
    ∙ ap₂ (λ (a b : List Device). a ∷ groups_from place places b) (sym c.split_at.ensures.front) (sym c.split_at.ensures.back) in
    let nets_are : c.nets.result.now ≡ group_nets group = c.nets.ensures
    ∙ ap (λ (s : GroupNetsData). s.nets) c.in_ok-number_group.ensures.nets in
    let shape : c.number_group.new.shape ≡ placed_group group = c.in_ok-number_group.ensures.shape in
    let keys = c.groups.shapes.keys in
    let all = groups_from 0 ends c.args.devices.now in
    let number = c.in_ok-number.number in
    record {
      left = subst (λ (l : List Device). AreLeft (length names) place l places) (sym c.split_at.ensures.back) next.others;
      count = ap (λ (s : GroupNetsData). s.count) c.in_ok-number_group.ensures.nets ∙ c.groups.invariant.count;
      placed = next_placed names all (groups_from place places more) index group keys c.number_shape.new.shapes.keys number
          c.groups.calls.items c.put_call.new.text.items
          (subst (λ (l : List (List Device)). ArePlaced names all l index keys c.groups.calls.items) step c.groups.invariant.placed)
          (c.in_ok-number.ensures.keys ∙ ap (λ (s : List Device). insert_key same_cell_shape keys s) shape)
          (c.in_ok-number.ensures.number ∙ ap (λ (s : List Device). position_or_len (same_cell_shape s) keys) shape)
          (c.in_ok-put_call.ensures {u = tt}
          ∙ ap (λ (l : List ℕ). c.groups.calls.items ++ deck_line (codes "x" ++ decimal index)
          (map (net_name names) l ++ cell_name number ∷ [])) nets_are);
    }

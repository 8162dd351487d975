use Rattle.std.proofs.Common.{◌≡◌, ◌<◌, ℕ, List, ◌++◌, length, map, ap, sym, ◌∙◌, subst, rules}
use Rattle.std.specs.Prelude.{All, IsSome}
use Rattle.net_flatten.specs.declared.table_order.LevelledTable.{LevelledTable}
use Rattle.network.specs.NetworkData.{NetworkData}
use Rattle.network.specs.Networks.{IsNetwork}
use Rattle.net_flatten.specs.Flattening.{IsNetworkOf}
use Rattle.net_flatten.specs.NetworkNames.{AreNetworkNames}
use Rattle.net_flatten.specs.NetworkNumbers.{IsRenumbering, latches_among, pin_numbers}
use Rattle.net_flatten.specs.NetworkParts.{latch_in_network, levelled_in_network, network_place}
use Rattle.part_numbers.specs.NumberedFiles.{NumberedFileData}
use Rattle.net_flatten.proofs.Kept.{network_kept}
use Rattle.net_flatten.proofs.NetworkGathered.{gathered, gathered_numbers, latches_there, levelled_inside, levelled_there, made, numbers_few, numbers_inside, outputs_inside, parts_inside, pins_few}
use Rattle.net_flatten.proofs.building.network_of.Goals as goal

pub tables_by_level-requires : goal.tables_by_level-requires
tables_by_level-requires c = record { within = parts_inside c.requires.numbers c.requires.levels.count c.parts-parts.ensures }

pub overflow_cast-inputs : goal.overflow_cast-inputs
overflow_cast-inputs c =
    let g = gathered c.requires.numbers c.parts-parts.ensures c.inputs.ensures c.control_of.ensures c.in_ok-ordered.ensures in
    let few = pins_few c.requires.numbers g c.requires.accepted in
    let pins : c.add_pins.new.numbers.items ≡ pin_numbers c.control_of.result c.inputs.result.now =
    c.in_ok-add_pins.ensures {u = tt} ∙ ap (λ l. l ++ pin_numbers c.control_of.result c.inputs.result.now) c.in_ok-numbers.ensures.items in
    let count = ap length pins in
    search rules

pub add_outputs-requires : goal.add_outputs-requires
add_outputs-requires c = record {
  there = subst (All (λ (t : LevelledTable). t.part < length c.parts-parts.result.now)) (sym c.deref.ensures.value)
      (levelled_inside c.parts-parts.result.now _ c.in_ok-ordered.ordered.items c.in_ok-ordered.ensures);
}

pub renumber-requires-clause-within : goal.renumber-requires-clause-within
renumber-requires-clause-within c =
    let g = gathered c.requires.numbers c.parts-parts.ensures c.inputs.ensures c.control_of.ensures c.in_ok-ordered.ensures in
    let signals = ap (λ (m : NumberedFileData). m.signals) c.numbered.view_is in
    let numbers = c.deref-2.ensures.value ∙ gathered_numbers c.requires.numbers g c.deref.ensures.value
    c.in_ok-numbers.ensures.items (c.in_ok-add_pins.ensures {u = tt}) (c.in_ok-add_states.ensures {u = tt})
    (c.in_ok-add_outputs.ensures {u = tt}) in
    numbers_inside c.requires.numbers g c.requires.accepted signals numbers

pub renumber-requires-clause-few : goal.renumber-requires-clause-few
renumber-requires-clause-few c =
    let g = gathered c.requires.numbers c.parts-parts.ensures c.inputs.ensures c.control_of.ensures c.in_ok-ordered.ensures in
    let numbers = c.deref-2.ensures.value ∙ gathered_numbers c.requires.numbers g c.deref.ensures.value
    c.in_ok-numbers.ensures.items (c.in_ok-add_pins.ensures {u = tt}) (c.in_ok-add_states.ensures {u = tt})
    (c.in_ok-add_outputs.ensures {u = tt}) in
    numbers_few c.requires.numbers g c.requires.accepted numbers

pub places_of-requires : goal.places_of-requires
places_of-requires c =
    let count = c.in_ok-places.ensures.count ∙ ap (λ (m : NumberedFileData). m.signals) c.numbered.view_is in
    record { within = outputs_inside c.requires.numbers (ap length c.deref-4.ensures.value ∙ count) c.outputs.ensures }

pub net_latches-requires-clause-within : goal.net_latches-requires-clause-within
net_latches-requires-clause-within c =
    let count = c.in_ok-places.ensures.count ∙ ap (λ (m : NumberedFileData). m.signals) c.numbered.view_is in
    parts_inside c.requires.numbers (ap length c.deref-5.ensures.value ∙ count) c.parts-parts.ensures

pub net_latches-requires-clause-there : goal.net_latches-requires-clause-there
net_latches-requires-clause-there c = latches_there c.requires.numbers c.deref-5.result.now c.parts-parts.ensures

pub net_tables-requires-clause-within : goal.net_tables-requires-clause-within
net_tables-requires-clause-within c =
    let count = c.in_ok-places.ensures.count ∙ ap (λ (m : NumberedFileData). m.signals) c.numbered.view_is in
    parts_inside c.requires.numbers (ap length c.deref-7.ensures.value ∙ count) c.parts-parts.ensures

pub net_tables-requires-clause-there : goal.net_tables-requires-clause-there
net_tables-requires-clause-there c =
    let g = gathered c.requires.numbers c.parts-parts.ensures c.inputs.ensures c.control_of.ensures c.in_ok-ordered.ensures in
    subst (All (λ t. IsSome (levelled_in_network c.args.file.now c.deref-7.result.now c.parts-parts.result.now t)))
    (sym c.deref-6.ensures.value) (levelled_there c.requires.numbers g c.deref-7.result.now)

pub invariant_of-result-2 : goal.invariant_of-result-2
invariant_of-result-2 c =
    let pins : c.add_pins.new.numbers.items ≡ pin_numbers c.control_of.result c.inputs.result.now =
    c.in_ok-add_pins.ensures {u = tt} ∙ ap (λ l. l ++ pin_numbers c.control_of.result c.inputs.result.now) c.in_ok-numbers.ensures.items in
    let count : c.len-inputs.result ≡ length c.add_pins.new.numbers.items = search rules in
    let g = gathered c.requires.numbers c.parts-parts.ensures c.inputs.ensures c.control_of.ensures c.in_ok-ordered.ensures in
    let signals = ap (λ (m : NumberedFileData). m.signals) c.numbered.view_is in
    let numbers = c.deref-2.ensures.value ∙ gathered_numbers c.requires.numbers g c.deref.ensures.value
    c.in_ok-numbers.ensures.items (c.in_ok-add_pins.ensures {u = tt}) (c.in_ok-add_states.ensures {u = tt})
    (c.in_ok-add_outputs.ensures {u = tt}) in
    let network : NetworkData = record {
      name = c.in_ok-main_name.field-0;
      names = c.in_ok-names.names;
      inputs = c.len-inputs.result;
      outputs = c.in_ok-places_of.field-0.items;
      latches = c.in_ok-net_latches.field-0.items;
      tables = c.in_ok-net_tables.field-0;
    } in
    let is = made c.requires.numbers g
    c.requires.accepted c.requires.levels c.outputs.result.now c.deref-2.result.now c.in_ok-places.places.items network (record {
      numbers_are = numbers;
      outputs_all = c.outputs.ensures;
      places_are = subst (λ m. IsRenumbering m c.deref-2.result.now c.in_ok-places.places.items) signals c.in_ok-places.ensures;
      name_is = c.in_ok-main_name.ensures;
      names_are = subst (λ l. AreNetworkNames l c.deref-2.result.now network.names) c.names.ensures
          (subst (λ l. AreNetworkNames (map (λ k. k.now) c.names.result.now) l network.names) (c.deref-3.ensures.value ∙ sym c.deref-2.ensures.value)
          c.in_ok-names.ensures);
      inputs_are = count ∙ ap length pins;
      outputs_are = c.in_ok-places_of.ensures ∙ ap (λ l. map (network_place l) c.outputs.result.now) c.deref-4.ensures.value;
      latches_are = c.in_ok-net_latches.ensures
          ∙ ap (λ l. map (latch_in_network c.args.file.now l) (latches_among c.parts-parts.result.now)) c.deref-5.ensures.value;
      tables_are = c.in_ok-net_tables.ensures
          ∙ ap (λ l. map (levelled_in_network c.args.file.now l c.parts-parts.result.now) c.deref-6.result.now) c.deref-7.ensures.value
          ∙ ap (map (levelled_in_network c.args.file.now c.in_ok-places.places.items c.parts-parts.result.now)) c.deref-6.ensures.value;
    }) in
    subst (λ (names : List (List ℕ)). IsNetwork (record {
      name = c.in_ok-main_name.field-0;
      names = names;
      inputs = c.len-inputs.result;
      outputs = c.in_ok-places_of.field-0.items;
      latches = c.in_ok-net_latches.field-0.items;
      tables = c.in_ok-net_tables.field-0;
    }))
    (sym c.names-2.view_is) (network_kept c.args.file.now network c.requires.good is)

pub returns : goal.returns
returns c =
    let pins : c.add_pins.new.numbers.items ≡ pin_numbers c.control_of.result c.inputs.result.now =
    c.in_ok-add_pins.ensures {u = tt} ∙ ap (λ l. l ++ pin_numbers c.control_of.result c.inputs.result.now) c.in_ok-numbers.ensures.items in
    let count : c.len-inputs.result ≡ length c.add_pins.new.numbers.items = search rules in
    let g = gathered c.requires.numbers c.parts-parts.ensures c.inputs.ensures c.control_of.ensures c.in_ok-ordered.ensures in
    let signals = ap (λ (m : NumberedFileData). m.signals) c.numbered.view_is in
    let numbers = c.deref-2.ensures.value ∙ gathered_numbers c.requires.numbers g c.deref.ensures.value
    c.in_ok-numbers.ensures.items (c.in_ok-add_pins.ensures {u = tt}) (c.in_ok-add_states.ensures {u = tt})
    (c.in_ok-add_outputs.ensures {u = tt}) in
    let network : NetworkData = record {
      name = c.in_ok-main_name.field-0;
      names = c.in_ok-names.names;
      inputs = c.len-inputs.result;
      outputs = c.in_ok-places_of.field-0.items;
      latches = c.in_ok-net_latches.field-0.items;
      tables = c.in_ok-net_tables.field-0;
    } in
    let is = made c.requires.numbers g
    c.requires.accepted c.requires.levels c.outputs.result.now c.deref-2.result.now c.in_ok-places.places.items network (record {
      numbers_are = numbers;
      outputs_all = c.outputs.ensures;
      places_are = subst (λ m. IsRenumbering m c.deref-2.result.now c.in_ok-places.places.items) signals c.in_ok-places.ensures;
      name_is = c.in_ok-main_name.ensures;
      names_are = subst (λ l. AreNetworkNames l c.deref-2.result.now network.names) c.names.ensures
          (subst (λ l. AreNetworkNames (map (λ k. k.now) c.names.result.now) l network.names) (c.deref-3.ensures.value ∙ sym c.deref-2.ensures.value)
          c.in_ok-names.ensures);
      inputs_are = count ∙ ap length pins;
      outputs_are = c.in_ok-places_of.ensures ∙ ap (λ l. map (network_place l) c.outputs.result.now) c.deref-4.ensures.value;
      latches_are = c.in_ok-net_latches.ensures
          ∙ ap (λ l. map (latch_in_network c.args.file.now l) (latches_among c.parts-parts.result.now)) c.deref-5.ensures.value;
      tables_are = c.in_ok-net_tables.ensures
          ∙ ap (λ l. map (levelled_in_network c.args.file.now l c.parts-parts.result.now) c.deref-6.result.now) c.deref-7.ensures.value
          ∙ ap (map (levelled_in_network c.args.file.now c.in_ok-places.places.items c.parts-parts.result.now)) c.deref-6.ensures.value;
    }) in
    subst (λ (names : List (List ℕ)). IsNetworkOf c.args.file.now (record {
      name = c.in_ok-main_name.field-0;
      names = names;
      inputs = c.len-inputs.result;
      outputs = c.in_ok-places_of.field-0.items;
      latches = c.in_ok-net_latches.field-0.items;
      tables = c.in_ok-net_tables.field-0;
    }))
    (sym c.names-2.view_is) is

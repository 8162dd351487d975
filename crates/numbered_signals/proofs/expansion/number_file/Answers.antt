use Rattle.std.proofs.Common.{◌≡◌, map, length, ap, sym, ◌∙◌, subst, arith}
use Rattle.std.specs.List.{AllByRecursion}
use Rattle.numbered_file.specs.Numbered.{file_of}
use Rattle.numbered_signals.specs.ScopeRoots.{signals_with}
use Rattle.part_numbers.specs.Expansions.{ExpansionData}
use Rattle.part_numbers.specs.NumberedFiles.{NumberedFileData}
use Rattle.part_numbers.specs.PartNumbers.{IsNumberedPart, part_by_numbers}
use Rattle.part_numbers.specs.SignalNumbers.{HasFewPairs, scope_pairs}
use Rattle.part_numbers.proofs.NumberedExpansion.{all_numbered, few_pairs, inputs_have, made_file, numbers_at, outputs_have, pairs_counted, roots_counted}
use Rattle.numbered_signals.proofs.expansion.number_file.Goals as goal

pub number_scopes-requires-clause-few : goal.number_scopes-requires-clause-few
number_scopes-requires-clause-few c = subst (HasFewPairs (file_of c.args.file.now))
    (sym (c.deref.ensures.value ∙ ap (λ (v : ExpansionData). v.scopes) c.expansion.view_is))
    (few_pairs (file_of c.args.file.now) c.args.depth c.requires.good c.requires.deep c.requires.no_recursion c.in_ok-expansion.expansion
    (c.in_ok-expansion.ensures (file_of c.args.file.now) c.requires.planned) c.requires.few)

pub count-requires : goal.count-requires
count-requires c =
    let scopes : c.deref.result.now ≡ c.in_ok-expansion.expansion.scopes = c.deref.ensures.value ∙ ap (λ (v : ExpansionData). v.scopes) c.expansion.view_is in
    let found = c.in_ok-expansion.ensures (file_of c.args.file.now) c.requires.planned in
    let numbers = numbers_at (file_of c.args.file.now) c.args.depth c.in_ok-expansion.expansion found (signals_with c.args.file.now c.in_ok-roots.roots) c.deref.result.now scopes
    c.in_ok-roots.ensures in
    let counted : length c.in_ok-roots.roots.roots ≡ length (scope_pairs (file_of c.args.file.now) found.paths c.in_ok-expansion.expansion.scopes) =
    roots_counted (file_of c.args.file.now) c.args.depth c.requires.good c.requires.deep c.requires.no_recursion c.in_ok-expansion.expansion found
    (signals_with c.args.file.now c.in_ok-roots.roots) numbers in
    record {
      few = omega (
        arith,
        counted,
        pairs_counted (file_of c.args.file.now) c.args.depth c.requires.good c.requires.deep c.requires.no_recursion c.in_ok-expansion.expansion found,
        c.requires.few,
      );
    }

pub number_parts-requires-clause-numbered : goal.number_parts-requires-clause-numbered
number_parts-requires-clause-numbered c =
    let scopes : c.deref.result.now ≡ c.in_ok-expansion.expansion.scopes = c.deref.ensures.value ∙ ap (λ (v : ExpansionData). v.scopes) c.expansion.view_is in
    let found = c.in_ok-expansion.ensures (file_of c.args.file.now) c.requires.planned in
    let numbers = numbers_at (file_of c.args.file.now) c.args.depth c.in_ok-expansion.expansion found (signals_with c.args.file.now c.in_ok-roots.roots) c.deref.result.now scopes
    c.in_ok-roots.ensures in
    subst (AllByRecursion (IsNumberedPart (file_of c.args.file.now) (signals_with c.args.file.now c.in_ok-roots.roots)))
    (sym (c.deref-2.ensures.value ∙ ap (λ (v : ExpansionData). v.parts) c.expansion.view_is))
    (all_numbered (file_of c.args.file.now) c.args.depth c.requires.good c.requires.deep c.requires.no_recursion c.in_ok-expansion.expansion found
    (signals_with c.args.file.now c.in_ok-roots.roots) numbers)

pub number_inputs-requires-clause-there : goal.number_inputs-requires-clause-there
number_inputs-requires-clause-there c =
    let scopes : c.deref.result.now ≡ c.in_ok-expansion.expansion.scopes = c.deref.ensures.value ∙ ap (λ (v : ExpansionData). v.scopes) c.expansion.view_is in
    let found = c.in_ok-expansion.ensures (file_of c.args.file.now) c.requires.planned in
    let numbers = numbers_at (file_of c.args.file.now) c.args.depth c.in_ok-expansion.expansion found (signals_with c.args.file.now c.in_ok-roots.roots) c.deref.result.now scopes
    c.in_ok-roots.ensures in
    inputs_have (file_of c.args.file.now) c.args.depth c.requires.good c.requires.deep c.requires.no_recursion c.in_ok-expansion.expansion found
    (signals_with c.args.file.now c.in_ok-roots.roots) numbers c.requires.planned.main

pub number_outputs-requires-clause-there : goal.number_outputs-requires-clause-there
number_outputs-requires-clause-there c =
    let scopes : c.deref.result.now ≡ c.in_ok-expansion.expansion.scopes = c.deref.ensures.value ∙ ap (λ (v : ExpansionData). v.scopes) c.expansion.view_is in
    let found = c.in_ok-expansion.ensures (file_of c.args.file.now) c.requires.planned in
    let numbers = numbers_at (file_of c.args.file.now) c.args.depth c.in_ok-expansion.expansion found (signals_with c.args.file.now c.in_ok-roots.roots) c.deref.result.now scopes
    c.in_ok-roots.ensures in
    outputs_have (file_of c.args.file.now) c.args.depth c.requires.good c.requires.deep c.requires.no_recursion c.in_ok-expansion.expansion found
    (signals_with c.args.file.now c.in_ok-roots.roots) numbers c.requires.planned.main

pub returns : goal.returns
returns c =
    let scopes : c.deref.result.now ≡ c.in_ok-expansion.expansion.scopes = c.deref.ensures.value ∙ ap (λ (v : ExpansionData). v.scopes) c.expansion.view_is in
    let found = c.in_ok-expansion.ensures (file_of c.args.file.now) c.requires.planned in
    let numbers = numbers_at (file_of c.args.file.now) c.args.depth c.in_ok-expansion.expansion found (signals_with c.args.file.now c.in_ok-roots.roots) c.deref.result.now scopes
    c.in_ok-roots.ensures in
    let parts : c.deref-2.result.now ≡ c.in_ok-expansion.expansion.parts = c.deref-2.ensures.value ∙ ap (λ (v : ExpansionData). v.parts) c.expansion.view_is in
    let made : NumberedFileData = record {
      signals = c.count.result;
      names = map (λ k. k.now) c.in_ok-main_names.field-0.items;
      parts = c.in_ok-number_parts.field-0.items;
      inputs = c.in_ok-number_inputs.field-0.items;
      outputs = c.in_ok-number_outputs.field-0.items;
    } in (
      scope_pairs (file_of c.args.file.now) found.paths c.in_ok-expansion.expansion.scopes,
      made_file (file_of c.args.file.now) c.args.depth c.requires.good c.requires.deep c.requires.no_recursion c.in_ok-expansion.expansion found
          (signals_with c.args.file.now c.in_ok-roots.roots) numbers c.requires.planned.main c.requires.few made (record {
            signals = c.count.ensures;
            names = c.in_ok-main_names.ensures;
            parts = c.in_ok-number_parts.ensures ∙ ap (map (part_by_numbers (file_of c.args.file.now) (signals_with c.args.file.now c.in_ok-roots.roots))) parts;
            inputs = c.in_ok-number_inputs.ensures;
            outputs = c.in_ok-number_outputs.ensures;
          }),
    )

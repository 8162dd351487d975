use Rattle.std.proofs.Common.{rules, sym, ◌∙◌}
use Rattle.plan_text.proofs.NameLists.{found_name, next_name, other_name}
use Rattle.plan_text.proofs.name_list.NameList.find.Goals as goal

pub is_word-requires : goal.is_word-requires
is_word-requires c =
    (next_name c.args.self.now c.args.name.now c.as_slice-sizes.result.now c.as_slice-words.result.now c.names.start c.names.place c.names.invariant c.names-test.true).room

pub returns-then-is_word : goal.returns-then-is_word
returns-then-is_word c =
    found_name c.args.self.now c.args.name.now c.as_slice-sizes.result.now c.as_slice-words.result.now c.names.start c.names.place c.names.invariant c.names-test.true
    (sym c.is_word.ensures ∙ c.if-is_word.true)

pub overflow_add-start-in-names : goal.overflow_add-start-in-names
overflow_add-start-in-names c =
    let room = (next_name c.args.self.now c.args.name.now c.as_slice-sizes.result.now c.as_slice-words.result.now c.names.start c.names.place c.names.invariant c.names-test.true).room in
    search rules

pub names-preserved : goal.names-preserved
names-preserved c =
    other_name c.args.self.now c.args.name.now c.as_slice-sizes.result.now c.as_slice-words.result.now c.names.start c.names.place c.names.invariant c.names-test.true
    (sym c.is_word.ensures ∙ c.if-is_word.false)

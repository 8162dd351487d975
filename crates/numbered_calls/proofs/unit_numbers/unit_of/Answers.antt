use Rattle.std.proofs.Common.{◌≡◌, ℕ, Some, ap, ◌∙◌, sym}
use Rattle.std.specs.Prelude.{slice_get}
use Rattle.std.proofs.lemmas.Option.{IfSome_then}
use Rattle.numbered_calls.proofs.Owned.{instance_here, no_owner, no_word, unit_is}
use Rattle.numbered_calls.proofs.Refusing.{none_found}
use Rattle.numbered_calls.specs.Owners.{NamesNoModel}
use Rattle.numbered_calls.proofs.unit_numbers.unit_of.Goals as goal

pub returns-in_default-clause-unknown : goal.returns-in_default-clause-unknown
returns-in_default-clause-unknown c =
    let d = c.args.file.now in
    let k = c.args.index in
    no_word d c.args.owners.now c.requires.owners k (instance_here d k c.parts.result.now c.parts.ensures (c.is_instance.ensures.instance c.if-not-is_instance.false))
    (ap (λ l. slice_get l 0) (sym c.words_of.ensures) ∙ c.in_default.ensures.none)

pub returns-clause-unit : goal.returns-clause-unit
returns-clause-unit c = IfSome_then c.model_called.result c.model_called.ensures.model
    (λ unit owner is. unit_is c.args.file.now c.args.owners.now c.requires.owners c.args.index c.in-Some.name unit (ap (λ l. slice_get l 0) (sym c.words_of.ensures) ∙ c.in-Some.ensures.word) owner)

pub returns-clause-unknown : goal.returns-clause-unknown
returns-clause-unknown c =
    let d = c.args.file.now in
    let owners = c.args.owners.now in
    let k = c.args.index in
    let name = c.in-Some.name in
    let is = instance_here d k c.parts.result.now c.parts.ensures (c.is_instance.ensures.instance c.if-not-is_instance.false) in
    let first = ap (λ l. slice_get l 0) (sym c.words_of.ensures) ∙ c.in-Some.ensures.word in
    none_found ((owner : ℕ) → slice_get owners name ≡ Some owner → owner ≡ 0) (NamesNoModel d k) (no_owner d owners c.requires.owners k name is first) c.model_called.result c.model_called.ensures.none

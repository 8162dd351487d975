-- What stands behind the last part and the last model where names, words or parts are appended one after the other.
use Rattle.std.proofs.Common.{◌≡◌, ℕ, List, [], ◌∷◌, ◌++◌, sym, ap, ◌∙◌, append-nil, append_assoc}
use Rattle.numbered_file.specs.declared.parts.PartKind.{PartKind}
use Rattle.numbered_file.specs.NameNumbers.{Grows}
use Rattle.numbered_file.specs.Numbered.{Part, part_by}
use Rattle.numbered_file.specs.OpenLists.{OpenLists, with_inputs, with_outputs, with_part, with_parts, with_words}

pub grows-on : (a b c : List (List ℕ)) → Grows a b → Grows b c → Grows a c
grows-on a b c g h = (g.0 ++ h.0, h.1 ∙ ap (λ l. l ++ h.0) g.1 ∙ append_assoc a g.0 h.0)

pub grows-none : (a : List (List ℕ)) → Grows a a
grows-none a = ([], sym (append-nil a))

pub grows-same : (a b : List (List ℕ)) → b ≡ a → Grows a b
grows-same a b is = ([], is ∙ sym (append-nil a))

-- nothing, or more, behind what was pushed
module _ (lists : OpenLists) where
  pub inputs-none : lists ≡ with_inputs lists []
  inputs-none = λ i. record lists { inputs = sym (append-nil lists.inputs) i }

  pub outputs-none : lists ≡ with_outputs lists []
  outputs-none = λ i. record lists { outputs = sym (append-nil lists.outputs) i }

  pub words-none : lists ≡ with_words lists []
  words-none = λ i. record lists { words = sym (append-nil lists.words) i }

  module _ (before after : OpenLists) (front more whole : List (List ℕ)) (is : whole ≡ front ++ more) where
    pub inputs-more : before ≡ with_inputs lists front → after ≡ with_inputs before more → after ≡ with_inputs lists whole
    inputs-more b a = a ∙ ap (λ l. with_inputs l more) b
        ∙ (λ i. record lists { inputs = (append_assoc lists.inputs front more ∙ ap (λ l. lists.inputs ++ l) (sym is)) i })

    pub outputs-more : before ≡ with_outputs lists front → after ≡ with_outputs before more → after ≡ with_outputs lists whole
    outputs-more b a = a ∙ ap (λ l. with_outputs l more) b
        ∙ (λ i. record lists { outputs = (append_assoc lists.outputs front more ∙ ap (λ l. lists.outputs ++ l) (sym is)) i })

    pub words-more : before ≡ with_words lists front → after ≡ with_words before more → after ≡ with_words lists whole
    words-more b a = a ∙ ap (λ l. with_words l more) b
        ∙ (λ i. record lists { words = (append_assoc lists.words front more ∙ ap (λ l. lists.words ++ l) (sym is)) i })

-- words that become a part
pub part-taken : (lists filled : OpenLists) (kind : PartKind) (line : ℕ) (words : List (List ℕ)) → filled ≡ with_words lists words
    → lists.words ≡ [] → lists.rows ≡ [] → with_part filled kind line ≡ with_parts lists (part_by lists.text kind line words [] ∷ [])
part-taken lists filled kind line words is w r =
    ap (λ l. with_part l kind line) is
    ∙ (λ i. record lists { parts = lists.parts ++ part_by lists.text kind line (w i ++ words) (r i) ∷ []; words = sym w i; rows = sym r i })

-- parts that are the same
pub same-parts : (lists : OpenLists) (parts more : List Part) → parts ≡ more → with_parts lists parts ≡ with_parts lists more
same-parts lists parts more is = ap (with_parts lists) is

pub parts-none : (lists : OpenLists) → lists ≡ with_parts lists []
parts-none lists = λ i. record lists { parts = sym (append-nil lists.parts) i }

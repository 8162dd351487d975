-- A leaf more.
use Rattle.std.proofs.Common.{◌∷◌, [], ◌++◌, ap, sym, ◌∙◌, zero-add}
use Rattle.std.proofs.lemmas.List.FromFn.{map-range_with_len_more}
use Rattle.gate_decompose.specs.declared.gates.Ref.TheVariants.{Leaf}
use Rattle.gate_decompose.proofs.tables.leaf_refs.Goals as goal

pub loop-leaf-preserved : goal.loop-leaf-preserved
loop-leaf-preserved c =
    c.in_ok-push.ensures.items ∙ ap (λ xs. xs ++ (Leaf c.loop-leaf.leaf ∷ [])) c.loop-leaf.invariant
    ∙ sym (map-range_with_len_more Leaf 0 c.loop-leaf.leaf c.loop-leaf.leaf (zero-add c.loop-leaf.leaf))

-- The name of an inner net of a call is the name of a net.
use Rattle.std.proofs.Common.{ℕ, List, [], ◌∷◌, ◌++◌, inl, refl, arith}
use Rattle.std.proofs.lemmas.List.Elements.{All-append, All-cons}
use Rattle.dom_base.specs.Names.{IsNetByte, IsNetName}

pub inner_name-good : (call own : List ℕ) → IsNetName call → IsNetName own → IsNetName (call ++ 46 ∷ own)
inner_name-good [] own c o = absurd (c.some refl)
inner_name-good (b ∷ call) own c o = record {
  some = λ e. cc;
  good = All-append IsNetByte (b ∷ call) (46 ∷ own) c.good (All-cons IsNetByte 46 own (omega arith, (λ e. omega arith), inl (omega arith)) o.good);
}

-- Names of nets that are made of parts.
use Rattle.std.proofs.Common.{◌<◌, ◌^◌, ℕ, List, [], ◌∷◌, ◌++◌, ap, arith, length, length-append, refl, subst, sym, ◌≡◌}
use Rattle.std.specs.Prelude.{All}
use Rattle.std.specs.Fmt.{decimal}
use Rattle.std.proofs.lemmas.Fmt.{decimal_nonempty}
use Rattle.std.proofs.lemmas.List.Elements.{All-append}
use Rattle.dom_base.specs.Names.{IsNetByte, IsNetName}
use Rattle.dom_base.proofs.Decimals.{decimal_is_net}

-- a name with more bytes behind it
pub IsNetName-joined : (front rest : List ℕ) → IsNetName front → All IsNetByte rest → IsNetName (front ++ rest)
IsNetName-joined [] rest front_is rest_is = absurd (front_is.some refl)
IsNetName-joined (b ∷ front) rest front_is rest_is = record { some = λ e. cc; good = All-append IsNetByte (b ∷ front) rest front_is.good rest_is }

-- bytes of a name with a number behind them
pub IsNetName-numbered : (front : List ℕ) (n : ℕ) → n < 2 ^ 64 → All IsNetByte front → IsNetName (front ++ decimal n)
IsNetName-numbered front n low front_is = record { some = λ e. omega (arith, ap length e, length-append front (decimal n), decimal_nonempty n low); good = All-append IsNetByte front (decimal n) front_is (decimal_is_net n low) }

-- some bytes that are the digits of a number
pub digits_are_net : (bytes : List ℕ) (n : ℕ) → n < 2 ^ 64 → bytes ≡ decimal n → All IsNetByte bytes
digits_are_net bytes n low same = subst (All IsNetByte) (sym same) (decimal_is_net n low)

pub ruleset joined_names = (IsNetName-joined, IsNetName-numbered, digits_are_net)

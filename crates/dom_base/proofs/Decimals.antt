-- Decimal digits may stand in the name of a net.
use Rattle.std.proofs.Common.{ℕ, ◌<◌, ◌+◌, ◌%◌, ◌^◌, [], inl, arith, All}
use Rattle.std.specs.Fmt.{decimal}
use Rattle.std.proofs.lemmas.Fmt.{decimal_by_steps}
use Rattle.std.proofs.lemmas.List.Elements.{All-nil, All-cons, All-push}
use Rattle.dom_base.specs.Names.{IsNetByte}

pub digit_is_net_byte : (d : ℕ) → d < 10 → IsNetByte (48 + d)
digit_is_net_byte d low = (omega arith, λ e. omega arith, inl (omega arith))

pub decimal_is_net : (n : ℕ) → n < 2 ^ 64 → All IsNetByte (decimal n)
decimal_is_net n low =
    decimal_by_steps (λ n ds. All IsNetByte ds)
    (λ n few. All-cons IsNetByte (48 + n) [] (digit_is_net_byte n few) (All-nil IsNetByte))
    (λ n ds many front. All-push IsNetByte ds (48 + n % 10) front (digit_is_net_byte (n % 10) (omega arith)))
    n low

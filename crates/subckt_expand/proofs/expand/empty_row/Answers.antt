use Rattle.std.proofs.Common.{rules, ◌≡◌, None, length, vec_len, refl, arith}
use Rattle.subckt_expand.proofs.Pushes.{empty_row}
use Rattle.subckt_expand.proofs.expand.empty_row.Goals as goal

pub returns : goal.returns
returns c =
    let row = c.resize.new.self in
    let count : vec_len row ≡ length row.items = search rules in
    empty_row row.items (λ k lt. c.in_ok-resize.ensures.by_index.1 k None refl (omega (arith, c.new-row.ensures.len)) (omega (arith, lt, count, c.in_ok-resize.ensures.len)))

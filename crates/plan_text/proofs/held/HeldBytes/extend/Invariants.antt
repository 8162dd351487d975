use Rattle.std.proofs.Common.{◌≡◌, ◌+◌, ◌++◌, length, take}
use Rattle.plan_text.proofs.held.HeldBytes.extend.Given as goal

-- the first bytes are written behind those that were held
abbrev pub invariant-bytes : goal.invariant-bytes
invariant-bytes l = record {
  place : l.count ≡ length l.fn.self + l.byte-index;
  written : take l.count l.self-inside.bytes ≡ l.fn.self ++ take l.byte-index l.more;
}

use Rattle.std.proofs.Common.{◌≡◌, ◌+◌, ◌++◌, take}
use Rattle.plan_text.specs.ShortTexts.{short_bytes}
use Rattle.plan_text.proofs.short.ShortText.extend.Given as goal

-- the first bytes are written behind those that were there
abbrev pub invariant-bytes : goal.invariant-bytes
invariant-bytes l = record {
  place : l.count ≡ l.fn.self.count + l.byte-index;
  written : take l.count l.self.bytes ≡ short_bytes l.fn.self ++ take l.byte-index l.more;
}

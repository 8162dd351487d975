-- The bytes of short texts.
use Rattle.std.specs.Prelude.{ℕ, List, take}
use Rattle.plan_text.specs.declared.short.ShortText.{ShortText}

-- those at the front of the array
abbrev pub short_bytes : ShortText → List ℕ
short_bytes short = take short.count short.bytes

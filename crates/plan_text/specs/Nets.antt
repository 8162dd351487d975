-- Nets of a deck by the parts of their names.
use Rattle.std.specs.Prelude.{ℕ, ◌-◌, cond, nat_lt, List, [], ◌++◌, codes, length, slice_index_or}
use Rattle.std.specs.Fmt.{decimal}
use Rattle.plan_text.specs.declared.net.Net.{Net}
use Rattle.plan_text.specs.declared.net.Net.TheVariants.{Named, Numbered, OfCell, Inner, Short}
use Rattle.plan_text.specs.ShortTexts.{short_bytes}

-- the name of a net
abbrev pub net_text : Net → List ℕ
net_text (Named name) = name.now
net_text (Numbered front number) = front.now ++ decimal number
net_text (OfCell front digits) = front.now ++ digits.now
net_text (Inner digits number) = ((codes "t" ++ digits.now) ++ codes "_") ++ decimal number
net_text (Short name) = short_bytes name

-- how the inner nets of a cell begin whose number has these digits
abbrev pub tree_front : List ℕ → List ℕ
tree_front digits = codes "t" ++ digits ++ codes "_"

-- the name at a place, and behind all names this one with a number from 0 on
abbrev pub listed_net : List (List ℕ) → List ℕ → ℕ → List ℕ
listed_net names front place = cond (nat_lt place (length names)) (slice_index_or names place []) (front ++ decimal (place - length names))

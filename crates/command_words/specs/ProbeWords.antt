-- The value of `--probe`: names of nets with the edge that is asked for, parted by commas.
use Rattle.std.specs.Prelude.{ℕ, ◌-◌, ◌==◌, Bool, ◌&&◌, not, nat_lt, List, if◌then◌else◌, length, take, slice_index}
use Rattle.std.specs.Prelude.{Option, Some, None, is_some}
use Rattle.std.specs.List.{filter_map, list_all, slice_split}
use Rattle.std.specs.Str.{str_to_ascii_lowercase}
use Rattle.dom_base.specs.Lines.{is_word}
use Rattle.event_sim.specs.declared.event.Edge.{Edge}
use Rattle.event_sim.specs.declared.event.Edge.TheVariants.{Any, Rise, Fall}
use Rattle.trace_tool.specs.declared.options.ProbeWord.{ProbeWord}

abbrev pub is_comma : ℕ → Bool
is_comma b = b == 44

abbrev pub ends_with : ℕ → List ℕ → Bool
ends_with b word = slice_index word (length word - 1) == b

abbrev pub without_last : List ℕ → List ℕ
without_last word = take (length word - 1) word

-- a name has at least one byte, and none that is a blank or a control byte
abbrev pub is_visible : ℕ → Bool
is_visible b = nat_lt 32 b && not (b == 127)

abbrev pub is_probe_name : List ℕ → Bool
is_probe_name name = is_word name && list_all is_visible name

-- the edge of a net, whose name is read in lower case
abbrev pub probe_of : Edge → List ℕ → Option ProbeWord
probe_of edge name = if is_probe_name name then Some (record { name = str_to_ascii_lowercase name; edge = edge }) else None

-- one `+` at the end of a probe word asks for rises and one `-` for falls
abbrev pub probe_word : List ℕ → Option ProbeWord
probe_word word =
    if ends_with 43 word then probe_of Rise (without_last word)
    else (if ends_with 45 word then probe_of Fall (without_last word) else probe_of Any word)

-- the probe words of a value, none of them out of form
abbrev pub are_probe_words : List ℕ → Bool
are_probe_words value = list_all (λ word. is_some (probe_word word)) (slice_split is_comma value)

abbrev pub probe_words : List ℕ → Option (List ProbeWord)
probe_words value = if are_probe_words value then Some (filter_map probe_word (slice_split is_comma value)) else None

-- Files by their names.
use Rattle.std.specs.Prelude.{ℕ, ◌+◌, ◌≡◌, List, [], ◌∷◌, Option, Some, None, nat_eq, if◌then◌else◌, take, IfSome, IsSomeAnd}
use Rattle.std.specs.Cmp.Lexicographic.{pointwise}

-- the most bytes that a file may have
unfoldable pub file_limit : ℕ
file_limit = 67108864

-- the bytes under a name, by the first pair that has it
abbrev pub held : List (List ℕ × List ℕ) → List ℕ → Option (List ℕ)
held [] name = None
held (p ∷ ps) name = if pointwise nat_eq p.0 name then Some p.1 else held ps name

-- no file has the name
abbrev pub IsAbsent : List (List ℕ × List ℕ) → List ℕ → Type 0
IsAbsent files name = held files name ≡ None

-- where the files are known, the name is one of them, and these are its bytes, or the first that a fetch gives
abbrev pub IsHeld : Option (List (List ℕ × List ℕ)) → List ℕ → List ℕ → Type 0
IsHeld files name bytes = IfSome files (λ known. IsSomeAnd (held known name) (λ whole. bytes ≡ take (file_limit + 1) whole))

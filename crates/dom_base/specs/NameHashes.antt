-- What a hasher of names does: as the fast one, or as the one that has a key.
use Rattle.std.specs.Prelude.{ℕ, List, ◌*◌, ◌^◌, ◌%◌}
use Rattle.std.specs.Hash.FoldHasher as folding
use Rattle.std.specs.Hash.DefaultHasher as sip
use Rattle.dom_base.specs.declared.name_hash.NameHash.{NameHash}
use Rattle.dom_base.specs.declared.name_hash.NameHash.TheVariants.{Fast, Keyed}
use Rattle.dom_base.specs.declared.name_hasher.NameHasher.{NameHasher}
use Rattle.dom_base.specs.declared.name_hasher.NameHasher.TheVariants.{Folding, Sipping}

-- the hasher before the first byte
abbrev pub first_hasher : NameHash → NameHasher
first_hasher Fast = Folding folding.initial
first_hasher (Keyed key0 key1) = Sipping (sip.with_keys key0 key1)

-- the hasher after one `write`
abbrev pub written : NameHasher → List ℕ → NameHasher
written (Folding state) bytes = Folding (folding.write state bytes)
written (Sipping state) bytes = Sipping (sip.write state bytes)

-- what `finish` answers; the fast hash is spread once more
abbrev pub finished : NameHasher → ℕ
finished (Folding state) = (folding.finish state * 0x9e37_79b9_7f4a_7c15) % 2 ^ 64
finished (Sipping state) = sip.finish state

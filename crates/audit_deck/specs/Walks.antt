-- The nets and the devices of a cell below its dynamic net.
use Rattle.std.specs.Prelude.{List, Some, slice_get, ℕ, ◌≡◌, ◌⊎◌}
use Rattle.dom_base.specs.declared.kind.Kind.TheVariants.{N as nch}
use Rattle.deck.specs.Paths.{Ends}
use Rattle.deck.specs.declared.device.Device.{Device}
use Rattle.deck.specs.declared.role.Roles.{Roles}
use Rattle.deck_audit.specs.Words.{IsFree}
use Rattle.audit_deck.specs.Indexes.{EndingAt, HasKind}
use Rattle.audit_deck.specs.Numberings.{IsMet}

-- the `nch` at a place joins the net to another, which is no source
abbrev pub IsNextBy : List Device → Roles → ℕ → ℕ → ℕ → Type 0
IsNextBy ds roles m p n = (d : Device) × (slice_get ds p ≡ Some d) × (d.kind ≡ nch) × Ends d m n × IsFree roles n

abbrev pub IsNext : List Device → Roles → ℕ → ℕ → Type 0
IsNext ds roles m n = (p : ℕ) × IsNextBy ds roles m p n

-- an `nch` at the place ends at the net, and at one of these nets
abbrev pub IsChannelAt : List Device → ℕ → ℕ → Type 0
IsChannelAt ds n p = EndingAt ds n p × HasKind ds nch p

abbrev pub IsChannelAmong : List Device → List ℕ → ℕ → Type 0
IsChannelAmong ds nets p = (n : ℕ) × IsMet nets n × IsChannelAt ds n p

-- numbers with a property are met, beside those that were
pub record MeetsThose (P : ℕ → Type 0) (before after : List ℕ) : Type 0 where
  pub kept : (i n : ℕ) → slice_get before i ≡ Some n → slice_get after i ≡ Some n
  pub sound : (n : ℕ) → IsMet after n → IsMet before n ⊎ P n
  pub full : (n : ℕ) → P n → IsMet after n

-- A subcircuit that is closed stands for what it stood for while it was open, and the last one stands for the circuit.
use Rattle.std.proofs.Common.{◌≡◌, ◌<◌, ℕ, suc, List, [], ◌∷◌, ◌++◌, length, map, reverse, sym, ap, ap₂, ◌∙◌, arith, nat_eq, length-append}
use Rattle.std.specs.List.{IsDistinct}
use Rattle.std.specs.Cmp.Lexicographic.{pointwise}
use Rattle.std.proofs.lemmas.List.{map-append, reverse-append}
use Rattle.dom_base.proofs.Lists.{AllByRecursion-weaker, head_same, slice_index_or-push}
use Rattle.deck.specs.Subckts.{Subckt, Expansion, Size, expansion, expansions, sizes}
use Rattle.subckt_expand.specs.Definitions.{CallData, DefinitionData, no_definition, subckt_of}
use Rattle.subckt_expand.specs.Live.{live, lives, size_of}
use Rattle.subckt_expand.specs.StandsFor.{IsOpen, StandFor, StandsFor}
use Rattle.subckt_expand.specs.Units.{AreClosed, IsCallBelow, IsClosed, definition_at, expansion_at, names_of, subckts_before}
use Rattle.deck.proofs.Counts.{size_counts}
use Rattle.subckt_expand.proofs.FoundCalls.{before-suc}
use Rattle.subckt_expand.proofs.Live.{expansions-lives}
use Rattle.subckt_expand.proofs.MoreClosed.{AreNamed, before-more, call-more, length-names, names-more, subckt-more}

module _ (all : List DefinitionData) (ss : List Subckt) (d : DefinitionData) (s : Subckt) (closed : AreClosed all) (stand : StandFor all ss) (stands : StandsFor all ss d s) (is_open : IsOpen all d) where
  abbrev more : List DefinitionData
  more = all ++ d ∷ []

  named : AreNamed (names_of all) d
  named = AllByRecursion-weaker (IsCallBelow all (length all)) (λ (call : CallData). call.unit < length (names_of all)) (λ call b. omega (arith, b.below, length-names all)) d.calls is_open.calls

  live_before : subckts_before more (length all) ≡ lives ss
  live_before = before-more all closed d (length all) (omega arith) ∙ stand.live_are

  live_last : subckt_of (names_of more) d ≡ live (sizes ss) s
  live_last = ap (λ n. subckt_of n d) (names-more all closed d) ∙ subckt-more (names_of all) (d.name ∷ []) d named is_open.whole ∙ stands.live_is

  last_is : definition_at more (length all) ≡ d
  last_is = slice_index_or-push all d no_definition

  pub expansion-closed : expansion_at more (length all) ≡ expansion (expansions ss) s
  expansion-closed =
      ap (λ e. expansion (expansions (subckts_before more (length all))) (subckt_of (names_of more) e)) last_is
      ∙ ap₂ (λ a b. expansion (expansions a) b) live_before live_last
      ∙ head_same (expansions-lives (s ∷ ss))

  pub closed-closed : IsDistinct (pointwise nat_eq) d.nets → IsClosed more (length all) d
  closed-closed apart = record {
    whole = is_open.whole;
    apart = apart;
    calls = AllByRecursion-weaker (IsCallBelow all (length all)) (IsCallBelow more (length all)) (call-more all closed d (length all) (omega arith)) d.calls is_open.calls;
    few_ports = is_open.few_ports;
    few_devices = is_open.few_devices;
    counted = ap (λ (e : Expansion). length e.devices) expansion-closed ∙ size_counts ss s ∙ sym (ap (λ (z : Size). z.devices) stands.size_is);
  }

  pub stand-closed : StandFor more (s ∷ ss)
  stand-closed =
      let long : length more ≡ suc (length all) = omega (arith, length-append all (d ∷ [])) in
      record {
        live_are = ap (subckts_before more) long ∙ before-suc more (length all) (omega (arith, long))
            ∙ ap₂ (λ a b. a ∷ b) (ap (subckt_of (names_of more)) last_is ∙ live_last) live_before;
        sizes_are = ap reverse (map-append size_of all (d ∷ [])) ∙ reverse-append (map size_of all) (size_of d ∷ []) ∙ ap₂ (λ a b. a ∷ b) stands.size_is stand.sizes_are;
      }

-- the last of some closed subcircuits, and those above it
split-last : (all : List DefinitionData) (s : Subckt) (above : List Subckt) (last : ℕ) → StandFor all (s ∷ above) → length all ≡ suc last
    → subckt_of (names_of all) (definition_at all last) ∷ subckts_before all last ≡ lives (s ∷ above)
split-last all s above last stand long = sym (before-suc all last (omega (arith, long))) ∙ ap (subckts_before all) (sym long) ∙ stand.live_are

-- it has the name and the ports of the last of these
pub subckt-last : (all : List DefinitionData) (s : Subckt) (above : List Subckt) (last : ℕ) → StandFor all (s ∷ above) → length all ≡ suc last
    → subckt_of (names_of all) (definition_at all last) ≡ live (sizes above) s
subckt-last all s above last stand long = head_same (split-last all s above last stand long)

-- and stands for what it does
pub expansion-last : (all : List DefinitionData) (s : Subckt) (above : List Subckt) (last : ℕ) → StandFor all (s ∷ above) → length all ≡ suc last
    → expansion_at all last ≡ expansion (expansions above) s
expansion-last all s above last stand long = head_same (ap expansions (split-last all s above last stand long) ∙ expansions-lives (s ∷ above))

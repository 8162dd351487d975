-- Bytes have a deck by a method, or none for one cause.
use Rattle.std.proofs.Common.{◌≡◌, ◌∙◌, ◌⊎◌, inl, inr, ℕ, Bool, true, false, List, nat_lt, refl, sym, ap, arith}
use Rattle.std.proofs.lemmas.Bool.{ltb-false, ltb-true}
use Rattle.command_answers.specs.Methods.{HaveTooManySinks, IsSuited, most_exact_sinks, sink_count}
use Rattle.command_answers.specs.Networks.{HasNetwork}
use Rattle.command_answers.proofs.OneNetwork.{networks_alike}
use Rattle.command_words.specs.declared.command.Method.{Method}
use Rattle.command_words.specs.declared.command.Method.TheVariants.{Compound, Exact, Plain, Skew}
use Rattle.network.specs.NetworkData.{NetworkData}
use Rattle.domsyn.specs.declared.refusal.Refusal.{Refusal}
use Rattle.domsyn.specs.declared.refusal.Refusal.TheVariants.{TooManySinks}
use Rattle.domsyn.specs.Refusals.{HasNoDeckFor, HasNoNetworkFor}
use Rattle.domsyn.proofs.NetworkCauses.{network_causes_alike, network_or_cause}

-- a network suits a method, or has too many sinks for it
pub suited_or_not : (method : Method) (bytes : List ℕ) (network : NetworkData) → HasNetwork bytes network
    → IsSuited method network ⊎ ((why : Refusal) × HasNoDeckFor method bytes why)
suited_or_not (Plain version) bytes network has = inl tt
suited_or_not Exact bytes network has = by (nat_lt most_exact_sinks (sink_count network)) refl
  where
    by : (many : Bool) → nat_lt most_exact_sinks (sink_count network) ≡ many → IsSuited Exact network ⊎ ((why : Refusal) × HasNoDeckFor Exact bytes why)
    by false e = inl (let few = ltb-false most_exact_sinks (sink_count network) e in omega (arith, few))
    by true e =
        inr (
          TooManySinks (sink_count network),
          inr (
            sink_count network,
            record {
              network = network;
              has = has;
              sinks = record { count_is = refl; many = ltb-true most_exact_sinks (sink_count network) e };
            },
            refl,
          ),
        )
suited_or_not Skew bytes network has = inl tt
suited_or_not Compound bytes network has = inl tt

-- bytes without a network have no deck by any method
pub without_network : (method : Method) (bytes : List ℕ) (why : Refusal) → HasNoNetworkFor bytes why → HasNoDeckFor method bytes why
without_network (Plain version) bytes why is = is
without_network Exact bytes why is = inl is
without_network Skew bytes why is = is
without_network Compound bytes why is = is

not_many : (bytes : List ℕ) (network : NetworkData) (count : ℕ) → HasNetwork bytes network → IsSuited Exact network → HaveTooManySinks bytes count → ⊥
not_many bytes network count has few many =
    let same = ap sink_count (networks_alike bytes many.network network many.has has) in
    omega (arith, few, many.sinks.many, many.sinks.count_is, same)

-- bytes with a network that suits the method are refused for no cause
pub deck_or_cause : (method : Method) (bytes : List ℕ) (network : NetworkData) (why : Refusal) → HasNetwork bytes network → IsSuited method network → HasNoDeckFor method bytes why → ⊥
deck_or_cause (Plain version) bytes network why has few refused = network_or_cause bytes network why has refused
deck_or_cause Exact bytes network why has few (inl refused) = network_or_cause bytes network why has refused
deck_or_cause Exact bytes network why has few (inr many) = not_many bytes network many.0 has few many.1
deck_or_cause Skew bytes network why has few refused = network_or_cause bytes network why has refused
deck_or_cause Compound bytes network why has few refused = network_or_cause bytes network why has refused

-- the causes of bytes are one
pub deck_causes_alike : (method : Method) (bytes : List ℕ) (a b : Refusal) → HasNoDeckFor method bytes a → HasNoDeckFor method bytes b → a ≡ b
deck_causes_alike (Plain version) bytes a b x y = network_causes_alike bytes a b x y
deck_causes_alike Exact bytes a b (inl x) (inl y) = network_causes_alike bytes a b x y
deck_causes_alike Exact bytes a b (inl x) (inr y) = absurd (network_or_cause bytes y.1.network a y.1.has x)
deck_causes_alike Exact bytes a b (inr x) (inl y) = absurd (network_or_cause bytes x.1.network b x.1.has y)
deck_causes_alike Exact bytes a b (inr x) (inr y) =
    let counts = x.1.sinks.count_is ∙ ap sink_count (networks_alike bytes x.1.network y.1.network x.1.has y.1.has) ∙ sym y.1.sinks.count_is in
    x.2 ∙ ap (λ (count : ℕ). TooManySinks count) counts ∙ sym y.2
deck_causes_alike Skew bytes a b x y = network_causes_alike bytes a b x y
deck_causes_alike Compound bytes a b x y = network_causes_alike bytes a b x y

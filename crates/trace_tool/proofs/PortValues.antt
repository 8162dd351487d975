-- Ports that take values, one after the other.
use Rattle.std.proofs.Common.{◌≡◌, ℕ, Bool, suc, ◌+◌, ◌-◌, ◌<◌, ◌≤◌, List, [], ◌∷◌, ◌++◌, length, map, replicate, take, get_or, slice_set, refl, sym, ap, ◌∙◌, arith}
use Rattle.std.proofs.lemmas.List.{length-map, length-replicate, length-take-le, map-append, replicate-append-replicate, take_more}
use Rattle.dom_base.specs.declared.tri.Tri.{Tri}
use Rattle.event_sim.specs.SimData.{SimData, with_value}
use Rattle.trace_tool.specs.RunData.{with_move}
use Rattle.port_runs.specs.Environment.{bit}
use Rattle.port_runs.specs.Moves.{PortValue, set_all, set_from}
use Rattle.trace_tool.specs.Moves.{set_bits}

set_all-append : (values : List Tri) (a b : List PortValue) → set_all values (a ++ b) ≡ set_all (set_all values a) b
set_all-append values [] b = refl
set_all-append values (s ∷ a) b = set_all-append (slice_set values s.port s.value) a b

abbrev port_value : ℕ → Tri → PortValue
port_value port value = record { port = port; value = value }

pub set_from-append : (port : ℕ) (xs ys : List Tri) → set_from port (xs ++ ys) ≡ set_from port xs ++ set_from (port + length xs) ys
set_from-append port [] ys = let e : port ≡ port + 0 = omega arith in ap (λ (p : ℕ). set_from p ys) e
set_from-append port (x ∷ xs) ys =
    let e : port + 1 + length xs ≡ port + suc (length xs) = omega arith in
    ap (λ (m : List PortValue). port_value port x ∷ m) (set_from-append (port + 1) xs ys ∙ ap (λ (p : ℕ). set_from (port + 1) xs ++ set_from p ys) e)

take-push : (xs : List Bool) (n : ℕ) (x d : Bool) → n < length xs → x ≡ get_or xs n d → take (n + 1) xs ≡ take n xs ++ x ∷ []
take-push xs n x d lt is = take_more xs n d lt ∙ ap (λ (y : Bool). take n xs ++ y ∷ []) (sym is)

set_bits-push : (port n : ℕ) (bits : List Bool) (on d : Bool) → n < length bits → on ≡ get_or bits n d
    → set_bits port (take (n + 1) bits) ≡ set_bits port (take n bits) ++ port_value (port + n) (bit on) ∷ []
set_bits-push port n bits on d lt at =
    let front : length (map bit (take n bits)) ≡ n = length-map (take n bits) bit ∙ length-take-le n bits (omega (arith, lt)) in
    ap (set_bits port) (take-push bits n on d lt at)
    ∙ ap (set_from port) (map-append bit (take n bits) (on ∷ []))
    ∙ set_from-append port (map bit (take n bits)) (bit on ∷ [])
    ∙ ap (λ (k : ℕ). set_bits port (take n bits) ++ port_value (port + k) (bit on) ∷ []) front

-- one more port is set
pub set-more : {F : Type 0} (s now new : SimData F) (port n : ℕ) (bits : List Bool) (on d : Bool) (value : Tri)
    → n < length bits → on ≡ get_or bits n d → value ≡ bit on → now ≡ with_move s (set_bits port (take n bits)) → new ≡ with_value now (port + n) value
    → new ≡ with_move s (set_bits port (take (n + 1) bits))
set-more {F} s now new port n bits on d value lt at of was is =
    is ∙ ap (λ (x : Tri). with_value now (port + n) x) of ∙ ap (λ (x : SimData F). with_value x (port + n) (bit on)) was
    ∙ (λ i. record {
      pick = s.pick;
      links = s.links;
      values = sym (ap (set_all s.values) (set_bits-push port n bits on d lt at)
          ∙ set_all-append s.values (set_bits port (take n bits)) (port_value (port + n) (bit on) ∷ [])) i;
      step = s.step;
    })

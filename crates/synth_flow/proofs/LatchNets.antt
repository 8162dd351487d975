-- Latches that are appended one by one.
use Rattle.std.proofs.Common.{◌≡◌, ℕ, zero, suc, ◌+◌, ◌*◌, ◌<◌, ◌≤◌, ◌^◌, Bool, true, false, List, [], ◌∷◌, ◌++◌, length, map, take, refl, sym, ap, ◌∙◌, subst, arith, Some, slice_get, append-nil, append_assoc, add-zero, zero-add, add-one, length-take, get_or, option_map}
use Rattle.std.proofs.lemmas.Option.{slice_get-get_or, slice_get-map}
use Rattle.network.specs.declared.network.NetLatch.{NetLatch}
use Rattle.std.specs.Prelude.{◌≢◌, codes}
use Rattle.std.specs.Fmt.{decimal}
use Rattle.std.specs.List.{AllByRecursion}
use Rattle.dom_base.proofs.Lists.{AllByRecursion-weaker}
use Rattle.deck.proofs.CircuitGrowth.{with_devices-append}
use Rattle.deck.specs.CircuitData.{CircuitData}
use Rattle.deck.specs.NamedDevices.{with_devices}
use Rattle.latch_bind.specs.Latches.{HasRoomForLatch, named_latch, named_reset}
use Rattle.synth_flow.specs.MadeDecks.{IsBeforeLatch, latches_from}
use Rattle.latch_bind.proofs.LatchParts.{two_parts}
use Rattle.domino_cell.proofs.CellCircuits.{count_with}
use Rattle.deck_form.specs.NameParts.{NoDigit}
use Rattle.deck_form.proofs.NameParts.{HasNames, all_nets, bare_number_is, none_named, number_is, rest_is}

-- a name of another kind
pub other : (j c : ℕ) (cs : List ℕ) → c ≢ 109 → c ≢ 113 → IsBeforeLatch j (c ∷ cs)
other j c cs m q = (λ e. absurd (m e), λ e r. absurd (q e))

-- a name with the number of a latch
own : (c j : ℕ) (cs : List ℕ) → j < 2 ^ 64 → NoDigit cs → IsBeforeLatch (suc j) (c ∷ (decimal j ++ cs))
own c j cs small ends = (λ e. omega (arith, number_is c j cs small ends), λ e r. omega (arith, number_is c j cs small ends))

own_bare : (c j : ℕ) → j < 2 ^ 64 → IsBeforeLatch (suc j) (c ∷ decimal j)
own_bare c j small = (λ e. omega (arith, bare_number_is c j small), λ e r. omega (arith, bare_number_is c j small))

latch_names : (j : ℕ) (start : Bool) → j < 2 ^ 64 → AllByRecursion (HasNames (IsBeforeLatch (suc j))) (named_latch (j, start))
latch_names j start small =
    let m : IsBeforeLatch (suc j) (codes "m" ++ decimal j) = own_bare 109 j small in
    let mp : IsBeforeLatch (suc j) (codes "m" ++ decimal j ++ codes "p") = own 109 j (codes "p") small refl in
    let mn : IsBeforeLatch (suc j) (codes "m" ++ decimal j ++ codes "n") = own 109 j (codes "n") small refl in
    let q : IsBeforeLatch (suc j) (codes "q" ++ decimal j) = own_bare 113 j small in
    let qp : IsBeforeLatch (suc j) (codes "q" ++ decimal j ++ codes "p") = own 113 j (codes "p") small refl in
    let qn : IsBeforeLatch (suc j) (codes "q" ++ decimal j ++ codes "n") = own 113 j (codes "n") small refl in
    let x : IsBeforeLatch (suc j) (codes "x" ++ decimal j) = own_bare 120 j small in
    let vdd : IsBeforeLatch (suc j) (codes "vdd") = other (suc j) 118 (100 ∷ 100 ∷ []) (λ e. omega (arith, e)) (λ e. omega (arith, e)) in
    let vss : IsBeforeLatch (suc j) (codes "vss") = other (suc j) 118 (115 ∷ 115 ∷ []) (λ e. omega (arith, e)) (λ e. omega (arith, e)) in
    let l : (cs : List ℕ) → IsBeforeLatch (suc j) (108 ∷ cs) = λ cs. other (suc j) 108 cs (λ e. omega (arith, e)) (λ e. omega (arith, e)) in
    let r : (cs : List ℕ) → IsBeforeLatch (suc j) (114 ∷ cs) = λ cs. other (suc j) 114 cs (λ e. omega (arith, e)) (λ e. omega (arith, e)) in (
      (m, l (109 ∷ 98 ∷ []), mp),
      (
        (mp, x, vdd),
        (
          (m, l (109 ∷ []), mn),
          (
            (mn, x, vss),
            ((q, l (115 ∷ 98 ∷ []), qp), ((qp, m, vdd), ((q, l (115 ∷ []), qn), ((qn, m, vss), (by_start start q r vdd vss, tt))))),
          ),
        ),
      ),
    )
  where
    by_start : (b : Bool) → IsBeforeLatch (suc j) (codes "q" ++ decimal j) → ((cs : List ℕ) → IsBeforeLatch (suc j) (114 ∷ cs)) → IsBeforeLatch (suc j) (codes "vdd") → IsBeforeLatch (suc j) (codes "vss")
        → HasNames (IsBeforeLatch (suc j)) (named_reset j b)
    by_start false q r vdd vss = (q, r (115 ∷ []), vss)
    by_start true q r vdd vss = (q, r (115 ∷ 98 ∷ []), vdd)

-- a circuit whose nets are all before a latch has room for it
pub room_for_latch : (c : CircuitData) (j : ℕ) → j < 2 ^ 64 → AllByRecursion (IsBeforeLatch j) c.nets → HasRoomForLatch c j
room_for_latch c j small all = record {
  master = none_named (IsBeforeLatch j) (codes "m" ++ decimal j) (λ b. omega (arith, b.0 refl, bare_number_is 109 j small)) c.nets all;
  master_upper = none_named (IsBeforeLatch j) (codes "m" ++ decimal j ++ codes "p") (λ b. omega (arith, b.0 refl, number_is 109 j (codes "p") small refl)) c.nets all;
  master_lower = none_named (IsBeforeLatch j) (codes "m" ++ decimal j ++ codes "n") (λ b. omega (arith, b.0 refl, number_is 109 j (codes "n") small refl)) c.nets all;
  output_upper = none_named (IsBeforeLatch j) (codes "q" ++ decimal j ++ codes "p")
      (λ b. omega (arith, b.1 refl (λ e. let f = rest_is 113 j (codes "p") small refl in cc), number_is 113 j (codes "p") small refl)) c.nets all;
  output_lower = none_named (IsBeforeLatch j) (codes "q" ++ decimal j ++ codes "n")
      (λ b. omega (arith, b.1 refl (λ e. let f = rest_is 113 j (codes "n") small refl in cc), number_is 113 j (codes "n") small refl)) c.nets all;
}

later : (j : ℕ) (name : List ℕ) → IsBeforeLatch j name → IsBeforeLatch (suc j) name
later j name b = (λ e. omega (arith, b.0 e), λ e r. omega (arith, b.1 e r))

-- after the first latches the nets are before the next
pub latches_nets : (c : CircuitData) (j : ℕ) (starts : List Bool) → j + length starts < 2 ^ 64 → AllByRecursion (IsBeforeLatch j) c.nets
    → AllByRecursion (IsBeforeLatch (j + length starts)) (with_devices c (latches_from j starts)).nets
latches_nets c j [] small all = subst (λ n. AllByRecursion (IsBeforeLatch n) c.nets) (sym (add-zero j)) all
latches_nets c j (start ∷ starts) small all =
    let one = named_latch (j, start) in
    let here = all_nets (IsBeforeLatch (suc j)) c one (AllByRecursion-weaker (IsBeforeLatch j) (IsBeforeLatch (suc j)) (later j) c.nets all) (latch_names j start (omega arith)) in
    let rest = latches_nets (with_devices c one) (suc j) starts (omega arith) here in
    let count : suc j + length starts ≡ j + length (start ∷ starts) = omega arith in
    let next : j + 1 ≡ suc j = omega arith in
    let made : with_devices (with_devices c one) (latches_from (suc j) starts) ≡ with_devices c (latches_from j (start ∷ starts))
    = sym (with_devices-append c one (latches_from (suc j) starts)) ∙ ap (λ n. with_devices c (one ++ latches_from n starts)) (sym next) in
    subst (λ (d : CircuitData). AllByRecursion (IsBeforeLatch (j + length (start ∷ starts))) d.nets) made
    (subst (λ n. AllByRecursion (IsBeforeLatch n) (with_devices (with_devices c one) (latches_from (suc j) starts)).nets) count rest)

-- one more latch
pub latches_more : (j : ℕ) (starts : List Bool) (k : ℕ) (start : Bool) → slice_get starts k ≡ Some start
    → latches_from j (take (suc k) starts) ≡ latches_from j (take k starts) ++ named_latch (j + k, start)
latches_more j [] k start e = absurd (cc)
latches_more j (x ∷ starts) zero start e =
    let same : x ≡ start = cc in
    let number : j ≡ j + 0 = omega arith in
    append-nil (named_latch (j, x)) ∙ (λ i. named_latch (number i, same i))
latches_more j (x ∷ starts) (suc k) start e =
    let number : j + 1 + k ≡ j + suc k = omega arith in
    ap (λ l. named_latch (j, x) ++ l) (latches_more (j + 1) starts k start e)
    ∙ sym (append_assoc (named_latch (j, x)) (latches_from (j + 1) (take k starts)) (named_latch (j + 1 + k, start)))
    ∙ ap (λ n. named_latch (j, x) ++ latches_from (j + 1) (take k starts) ++ named_latch (n, start)) number

pub latches_length : (j : ℕ) (starts : List Bool) → length (latches_from j starts) ≡ 9 * length starts
latches_length j [] = refl
latches_length j (start ∷ starts) = omega (arith, latches_length (j + 1) starts)

-- the latches so far and one more
pub next_latch : (old between new : CircuitData) (starts : List Bool) (k : ℕ) (start : Bool) → slice_get starts k ≡ Some start
    → between ≡ with_devices old (latches_from 0 (take k starts)) → new ≡ with_devices between (named_latch (k, start)) → new ≡ with_devices old (latches_from 0 (take (k + 1) starts))
next_latch old between new starts k start at one two =
    two_parts old between new (latches_from 0 (take k starts)) (named_latch (k, start)) one two
    ∙ ap (λ n. with_devices old (latches_from 0 (take k starts) ++ named_latch (n, start))) (sym (zero-add k))
    ∙ ap (with_devices old) (sym (latches_more 0 starts k start at))
    ∙ ap (λ n. with_devices old (latches_from 0 (take n starts))) (sym (add-one k))

-- room for one more
pub room_for_next : (old between : CircuitData) (starts : List Bool) (k : ℕ) → length starts < 2 ^ 32 → k < length starts → AllByRecursion (IsBeforeLatch 0) old.nets
    → between ≡ with_devices old (latches_from 0 (take k starts)) → HasRoomForLatch between k × (length between.devices + 9 ≤ length old.devices + 9 * length starts)
room_for_next old between starts k few low nets one =
    let first = latches_from 0 (take k starts) in
    let count : length (take k starts) ≡ k = omega (arith, length-take k starts) in
    let all = latches_nets old 0 (take k starts) (omega arith) nets in
    let here : AllByRecursion (IsBeforeLatch k) (with_devices old first).nets = subst (λ n. AllByRecursion (IsBeforeLatch n) (with_devices old first).nets) (zero-add (length (take k starts)) ∙ count) all in
    let room = room_for_latch between k (omega arith) (subst (λ (c : CircuitData). AllByRecursion (IsBeforeLatch k) c.nets) (sym one) here) in
    (room, omega (arith, ap (λ (c : CircuitData). length c.devices) one, count_with old first, latches_length 0 (take k starts), count))

-- the start value of a latch
pub start_at : (latches : List NetLatch) (d : NetLatch) (k : ℕ) → k < length latches → slice_get (map (λ (l : NetLatch). l.init) latches) k ≡ Some (get_or latches k d).init
start_at latches d k lt = slice_get-map (λ (l : NetLatch). l.init) latches k ∙ ap (option_map (λ (l : NetLatch). l.init)) (slice_get-get_or latches k d lt)

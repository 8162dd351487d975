-- The cells from which sinks take, end by end.
use Rattle.std.proofs.Common.{◌≡◌, ℕ, zero, suc, ◌+◌, ◌≤◌, ◌<◌, List, [], ◌∷◌, ◌++◌, All, Bool, add-one, append-nil, append_assoc, ap, ap₂, arith, get_or, length, map, refl, subst, sym, take, take-suc, ◌∙◌, length-append}
use Rattle.std.specs.Prelude.{slice_index_or}
use Rattle.std.specs.List.{AllByRecursion}
use Rattle.std.proofs.lemmas.List.{length-map}
use Rattle.std.proofs.lemmas.List.Elements.{All-from_recursion, recursion_from_All}
use Rattle.dom_base.proofs.Lists.{AllByRecursion-append, AllByRecursion-weaker, map-push}
use Rattle.dual_rail.specs.declared.forest.End.{End}
use Rattle.dual_rail.specs.declared.forest.End.TheVariants.{Const, Literal, FromDynamic, FromOutput}
use Rattle.dual_rail.specs.declared.forest.Rail.{Rail}
use Rattle.dual_rail.specs.Uses.{IsEndThere}
use Rattle.deck_form.specs.DeckNets.{Fixed, OfDynamic, OfLeaf, OfOutput, SinkEnd}
use Rattle.deck_form.specs.NamedDecks.{IsEndIn}
use Rattle.synth_flow.specs.BufferedDecks.{cells_taken, renumbered}
use Rattle.synth_flow.specs.SinkParts.{end_in}
use Rattle.synth_flow.specs.TakenCells.{AreTaken, IsTaken, NamesPlace}

pub taken-append : (xs ys : List SinkEnd) → cells_taken (xs ++ ys) ≡ cells_taken xs ++ cells_taken ys
taken-append [] ys = refl
taken-append (Fixed b ∷ xs) ys = taken-append xs ys
taken-append (OfLeaf leaf plus ∷ xs) ys = taken-append xs ys
taken-append (OfDynamic k ∷ xs) ys = ap (λ l. k ∷ l) (taken-append xs ys)
taken-append (OfOutput k ∷ xs) ys = ap (λ l. k ∷ l) (taken-append xs ys)

-- no more cells than sinks
pub few_taken : (ends : List SinkEnd) → length (cells_taken ends) ≤ length ends
few_taken [] = omega arith
few_taken (Fixed b ∷ ends) = omega (arith, few_taken ends)
few_taken (OfLeaf leaf plus ∷ ends) = omega (arith, few_taken ends)
few_taken (OfDynamic k ∷ ends) = omega (arith, few_taken ends)
few_taken (OfOutput k ∷ ends) = omega (arith, few_taken ends)

-- each is one of so many cells
pub taken_below : (leaves cells : ℕ) (ends : List SinkEnd) → AllByRecursion (IsEndIn leaves cells) ends → AllByRecursion (λ k. k < cells) (cells_taken ends)
taken_below leaves cells [] h = tt
taken_below leaves cells (Fixed b ∷ ends) h = taken_below leaves cells ends h.1
taken_below leaves cells (OfLeaf leaf plus ∷ ends) h = taken_below leaves cells ends h.1
taken_below leaves cells (OfDynamic k ∷ ends) h = (h.0, taken_below leaves cells ends h.1)
taken_below leaves cells (OfOutput k ∷ ends) h = (h.0, taken_below leaves cells ends h.1)

-- one more item of a list
index_push : (ns : List ℕ) (n : ℕ) → slice_index_or (ns ++ n ∷ []) (length ns) 0 ≡ n
index_push [] n = refl
index_push (m ∷ ns) n = index_push ns n

index_before : (ns : List ℕ) (n k : ℕ) → k < length ns → slice_index_or (ns ++ n ∷ []) k 0 ≡ slice_index_or ns k 0
index_before [] n k lt = absurd (omega arith)
index_before (m ∷ ns) n zero lt = refl
index_before (m ∷ ns) n (suc k) lt = index_before ns n k (omega arith)

-- the last of the cells that were taken, by its place
last_named : (number : ℕ → ℕ) (old : List ℕ) (cell : ℕ) → slice_index_or (map number (old ++ cell ∷ [])) (length old) 0 ≡ number cell
last_named number old cell =
    ap (λ l. slice_index_or l (length old) 0) (map-push number old cell)
    ∙ ap (λ n. slice_index_or (map number old ++ number cell ∷ []) n 0) (sym (length-map old number))
    ∙ index_push (map number old) (number cell)

pub dynamic_taken : (cells : List ℕ) (pair cell : ℕ) (old new : List ℕ) → cell ≡ slice_index_or cells pair 0 → new ≡ old ++ cell ∷ []
    → IsTaken cells (FromDynamic pair) old new (FromDynamic (length old))
dynamic_taken cells pair cell old new is more = record {
  taken_is = more ∙ ap (λ n. old ++ n ∷ []) is;
  there = omega (arith, ap length more, length-append old (cell ∷ []));
  names = λ number. ap OfDynamic (ap (λ l. slice_index_or (map number l) (length old) 0) more ∙ last_named number old cell ∙ ap number is);
}

pub output_taken : (cells : List ℕ) (pair cell : ℕ) (old new : List ℕ) → cell ≡ slice_index_or cells pair 0 → new ≡ old ++ cell ∷ []
    → IsTaken cells (FromOutput pair) old new (FromOutput (length old))
output_taken cells pair cell old new is more = record {
  taken_is = more ∙ ap (λ n. old ++ n ∷ []) is;
  there = omega (arith, ap length more, length-append old (cell ∷ []));
  names = λ number. ap OfOutput (ap (λ l. slice_index_or (map number l) (length old) 0) more ∙ last_named number old cell ∙ ap number is);
}

pub const_taken : (cells old : List ℕ) (b : Bool) → IsTaken cells (Const b) old old (Const b)
const_taken cells old b = record { taken_is = sym (append-nil old); there = tt; names = λ number. refl }

pub literal_taken : (cells old : List ℕ) (rail : Rail) → IsTaken cells (Literal rail) old old (Literal rail)
literal_taken cells old rail = record { taken_is = sym (append-nil old); there = tt; names = λ number. refl }

-- an end that names one of so many places names one of more
end_there_more : (m n : ℕ) → m ≤ n → (e : End) → IsEndThere m e → IsEndThere n e
end_there_more m n le (Const b) h = tt
end_there_more m n le (Literal rail) h = tt
end_there_more m n le (FromDynamic place) h = omega (arith, le, h)
end_there_more m n le (FromOutput place) h = omega (arith, le, h)

all_there_more : (m n : ℕ) → m ≤ n → (ends : List End) → AllByRecursion (IsEndThere m) ends → AllByRecursion (IsEndThere n) ends
all_there_more m n le = AllByRecursion-weaker (IsEndThere m) (IsEndThere n) (end_there_more m n le)

-- the names that ends had stay where more cells are taken
named_before : (number : ℕ → ℕ) (old more : List ℕ) (ends : List End) → AllByRecursion (IsEndThere (length old)) ends
    → map (end_in (map number (old ++ more))) ends ≡ map (end_in (map number old)) ends
named_before number old [] ends h = ap (λ l. map (end_in (map number l)) ends) (append-nil old)
named_before number old (cell ∷ more) ends h =
    ap (λ l. map (end_in (map number l)) ends) (sym (append_assoc old (cell ∷ []) more))
    ∙ named_before number (old ++ cell ∷ []) more ends
    (all_there_more (length old) (length (old ++ cell ∷ [])) (omega (arith, length-append old (cell ∷ []))) ends h)
    ∙ each ends h
  where
    index : (place : ℕ) → place < length old → slice_index_or (map number (old ++ cell ∷ [])) place 0 ≡ slice_index_or (map number old) place 0
    index place lt = ap (λ l. slice_index_or l place 0) (map-push number old cell) ∙ index_before (map number old) (number cell) place (omega (arith, lt, length-map old number))

    one : (e : End) → IsEndThere (length old) e → end_in (map number (old ++ cell ∷ [])) e ≡ end_in (map number old) e
    one (Const b) h = refl
    one (Literal rail) h = refl
    one (FromDynamic place) h = ap OfDynamic (index place h)
    one (FromOutput place) h = ap OfOutput (index place h)

    each : (es : List End) → AllByRecursion (IsEndThere (length old)) es → map (end_in (map number (old ++ cell ∷ []))) es ≡ map (end_in (map number old)) es
    each [] h = refl
    each (e ∷ es) h = ap₂ (λ a l. a ∷ l) (one e h.0) (each es h.1)

-- one more end
added : (cells : List ℕ) (ends : List End) (end : End) (taken new : List ℕ) (numbered more : List End) (n : End) → AreTaken cells ends taken numbered
    → IsTaken cells end taken new n → more ≡ numbered ++ n ∷ [] → AreTaken cells (ends ++ end ∷ []) new more
added cells ends end taken new numbered more n are is same =
    let here = end_in cells end ∷ [] in
    let before = recursion_from_All (IsEndThere (length taken)) numbered are.there in
    let longer : length taken ≤ length new = omega (arith, ap length is.taken_is, length-append taken (cells_taken here)) in
    record {
      taken_are = is.taken_is ∙ ap (λ l. l ++ cells_taken here) are.taken_are ∙ sym (taken-append (map (end_in cells) ends) here)
          ∙ ap cells_taken (sym (map-push (end_in cells) ends end));
      there = All-from_recursion (IsEndThere (length new)) more
          (subst (AllByRecursion (IsEndThere (length new))) (sym same)
          (AllByRecursion-append (IsEndThere (length new)) numbered (n ∷ []) (all_there_more (length taken) (length new) longer numbered before) (is.there, tt)));
      names = λ number.
          ap (map (end_in (map number new))) same ∙ map-push (end_in (map number new)) numbered n
          ∙ ap₂ (λ l e. l ++ e ∷ [])
          (ap (λ l. map (end_in (map number l)) numbered) is.taken_is ∙ named_before number taken (cells_taken here) numbered before ∙ are.names number)
          (is.names number)
          ∙ sym (map-push (renumbered number) (map (end_in cells) ends) (end_in cells end))
          ∙ ap (map (renumbered number)) (sym (map-push (end_in cells) ends end));
    }

pub ends_more : (cells : List ℕ) (ends : List End) (k : ℕ) (d : End) (taken new : List ℕ) (numbered more : List End) (n : End) → k < length ends
    → AreTaken cells (take k ends) taken numbered → IsTaken cells (get_or ends k d) taken new n → more ≡ numbered ++ n ∷ []
    → AreTaken cells (take (k + 1) ends) new more
ends_more cells ends k d taken new numbered more n lt are is same =
    subst (λ l. AreTaken cells l new more) (sym (rw add-one (take-suc ends k d lt)))
    (added cells (take k ends) (get_or ends k d) taken new numbered more n are is same)

-- fewer cells than so many sinks are taken
pub few_so_far : (cells : List ℕ) (ends : List End) (taken : List ℕ) (numbered : List End) → AreTaken cells ends taken numbered → length taken ≤ length ends
few_so_far cells ends taken numbered are =
    omega (arith, ap length are.taken_are, few_taken (map (end_in cells) ends), length-map ends (end_in cells))

pub ruleset taken_rules = (dynamic_taken, output_taken, const_taken, literal_taken)

-- The text of a network's file of one model, by what is appended in turn.
use Rattle.std.proofs.Common.{◌≡◌, ◌<◌, ◌≤◌, ◌+◌, ℕ, List, [], ◌∷◌, ◌++◌, map, take, length, codes, get_or, Some, refl, ap, sym, ◌∙◌, arith, append_assoc, append-nil}
use Rattle.std.specs.Prelude.{slice_get}
use Rattle.std.specs.List.{flat_map}
use Rattle.std.proofs.lemmas.Grind.{flat_map-append}
use Rattle.std.proofs.lemmas.Option.{same_Some, slice_get-get_or}
use Rattle.blif_ast.specs.Printed.{latch_words, model_lines, ports_card, printed, printed_line, table_lines}
use Rattle.blif_ast.proofs.FileLines.{model_end}
use Rattle.network.specs.NetworkData.{NetworkData}
use Rattle.network.proofs.IndexedLists.{take_next}
use Rattle.model_calls.specs.Occurrences.{main_model}
use Rattle.net_flatten.specs.OneModel.{file_of, name_at}
use Rattle.net_flatten.specs.OneModelParts.{latches_here, tables_here}
use Rattle.net_flatten.proofs.ToFile.{numbered, numbered_all, numbered_more}

module _ {X Y : Type 0} (f : ℕ × X → Y) (g : Y → List ℕ) where
  -- what one element more appends
  pub appended_more : (xs : List X) (k : ℕ) (text old new : List ℕ) → k < length xs → old ≡ text ++ flat_map g (take k (numbered f xs))
      → ((x : X) → slice_get xs k ≡ Some x → new ≡ old ++ g (f (k, x))) → new ≡ text ++ flat_map g (take (k + 1) (numbered f xs))
  appended_more [] k text old new l e is = absurd (omega (arith, l))
  appended_more (x ∷ xs) k text old new l e is =
      let all : List X = x ∷ xs in
      let at : slice_get all k ≡ Some (get_or all k x) = slice_get-get_or all k x l in
      let y : Y = f (k, get_or all k x) in
      let front = take k (numbered f all) in
      let step = numbered_more f all k y front (front ++ y ∷ []) l refl refl (λ z e. ap (λ w. f (k, w)) (same_Some (get_or all k x) z (sym at ∙ e))) in
      is (get_or all k x) at ∙ ap (λ o. o ++ g y) e ∙ append_assoc text (flat_map g front) (g y)
      ∙ ap (λ r. text ++ r) (ap (λ r. flat_map g front ++ r) (sym (append-nil (g y))) ∙ sym (flat_map-append g front (y ∷ [])) ∙ ap (flat_map g) step)

  pub appended_all : (xs : List X) (k : ℕ) (text new : List ℕ) → length xs ≤ k → new ≡ text ++ flat_map g (take k (numbered f xs)) → new ≡ text ++ flat_map g (numbered f xs)
  appended_all xs k text new l e = e ∙ ap (λ ys. text ++ flat_map g ys) (numbered_all f xs k (take k (numbered f xs)) l refl)

-- what the next element of a list appends
pub appended_next : {X : Type 0} (g : X → List ℕ) (xs : List X) (k : ℕ) (x : X) (text old new : List ℕ) → slice_get xs k ≡ Some x
    → old ≡ text ++ flat_map g (take k xs) → new ≡ old ++ g x → new ≡ text ++ flat_map g (take (k + 1) xs)
appended_next g xs k x text old new at e is =
    let front = take k xs in
    is ∙ ap (λ o. o ++ g x) e ∙ append_assoc text (flat_map g front) (g x)
    ∙ ap (λ r. text ++ r) (ap (λ r. flat_map g front ++ r) (sym (append-nil (g x))) ∙ sym (flat_map-append g front (x ∷ [])) ∙ ap (flat_map g) (sym (take_next xs k x at)))

-- the whole text
pub printed_end : (n : NetworkData) (t0 t1 t2 t3 t4 t5 t6 : List ℕ)
    → t0 ≡ [] → t1 ≡ t0 ++ printed_line (codes ".model" ∷ n.name ∷ [])
    → t2 ≡ t1 ++ flat_map printed_line (ports_card (codes ".inputs") (take n.inputs n.names))
    → t3 ≡ t2 ++ flat_map printed_line (ports_card (codes ".outputs") (map (name_at n) n.outputs))
    → t4 ≡ t3 ++ flat_map (λ t. flat_map printed_line (table_lines t)) (tables_here n)
    → t5 ≡ t4 ++ flat_map (λ l. printed_line (latch_words l)) (latches_here n)
    → t6 ≡ t5 ++ codes ".end\n" → t6 ≡ printed (file_of n)
printed_end n t0 t1 t2 t3 t4 t5 t6 e0 e1 e2 e3 e4 e5 e6 =
    let m = main_model (file_of n) in
    let one = e1 ∙ ap (λ t. t ++ printed_line (codes ".model" ∷ n.name ∷ [])) e0 in
    let two = e2 ∙ ap (λ t. t ++ flat_map printed_line (ports_card (codes ".inputs") (take n.inputs n.names))) one in
    let three = e3 ∙ ap (λ t. t ++ flat_map printed_line (ports_card (codes ".outputs") (map (name_at n) n.outputs))) two in
    let four = e4 ∙ ap (λ t. t ++ flat_map (λ t. flat_map printed_line (table_lines t)) (tables_here n)) three in
    let five = e5 ∙ ap (λ t. t ++ flat_map (λ l. printed_line (latch_words l)) (latches_here n)) four in
    let six = e6 ∙ ap (λ t. t ++ codes ".end\n") (five ∙ sym (append-nil _)) in
    six ∙ model_end [] m ∙ ap (flat_map printed_line) (sym (append-nil (model_lines m)))

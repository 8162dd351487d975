-- The names on the cards of a model are those of the words of its parts.
use Rattle.std.proofs.Common.{◌≡◌, ℕ, suc, ◌≤◌, ◌<◌, ◌+◌, ◌-◌, ◌*◌, ◌⊎◌, inl, inr, Bool, true, false, List, [], ◌∷◌, ◌++◌, length, drop, take, map, min, Option, Some, None, refl, ap, sym, ◌∙◌, subst, arith, append-nil, append_assoc}
use Rattle.std.specs.Prelude.{Err, Ok, OnOk, Result, is_some, slice_get}
use Rattle.std.specs.List.{filter_map, flat_map}
use Rattle.std.proofs.lemmas.Bool.{cases_lt}
use Rattle.std.proofs.lemmas.List.{drop-append-le, drop-take, length-drop, length-map, length-take}
use Rattle.std.proofs.lemmas.Option.{slice_get_within}
use Rattle.std.proofs.lemmas.Result.{on_ok_weaker}
use Rattle.blif_ast.specs.declared.latch.Edge2.{Edge2}
use Rattle.blif_ast.specs.BlifModelData.{BlifModelData}
use Rattle.numbered_file.specs.declared.parts.ModelAt.{ModelAt}
use Rattle.numbered_file.specs.declared.parts.PartAt.{PartAt}
use Rattle.numbered_file.specs.declared.parts.PartKind.{PartKind}
use Rattle.numbered_file.specs.declared.parts.PartKind.TheVariants as at
use Rattle.numbered_file.specs.NumberedData.{NumberedData}
use Rattle.numbered_file.specs.Numbered.{IsNumbered, Part, TablePart, LatchPart, InstancePart, between, instance_in, latch_by, latch_in, model_by, models_in, named, name_of, part_by, parts_of, table_by, table_in}
use Rattle.blif_ast.specs.declared.instance.Binding.{Binding}
use Rattle.dom_base.proofs.Lists.{drop_next, slice_get-there}
use Rattle.numbered_file.proofs.PartLists.{bindings-short, take-get}
use Rattle.numbered_file.specs.Places.{first_part, inputs_at, outputs_at, rows_at, words_at}
use Rattle.numbered_file.proofs.Places.{last-of, model_there, part_there}
use Rattle.local_names.specs.declared.model_numbers.CardKind.{CardKind}
use Rattle.local_names.specs.declared.model_numbers.CardKind.TheVariants.{Table, Latch, Instance}
use Rattle.local_names.specs.PartNames.{IsLatchForm, actuals_by, all_names, names_by, parts_at, with_cards}
use Rattle.local_names.specs.Places.{AreKept, AreNoted, AreNotedOf, IsIndexed, IsNoted}
use Rattle.local_names.proofs.KeptNumbers.{noted-both, noted-none, noted-one, noted-same}
use Rattle.model_calls.specs.Occurrences.{actuals_of, names_of, names_of_latch, names_of_table}

-- the names on one card

pub table_words : (text : List ℕ) (on : Bool) (line : ℕ) (words : List (List ℕ)) (rows : List ℕ) → 1 ≤ length words
    → names_of_table (table_by text on line words rows) ≡ words
table_words text on line words rows some = last-of words [] some

pub latch_words : (edge : Option Edge2) (init line : ℕ) (words : List (List ℕ)) → IsLatchForm (length words) (is_some edge)
    → names_of_latch (latch_by edge init line words) ≡ words
latch_words None init line (a ∷ b ∷ []) form = refl
latch_words (Some edge) init line (a ∷ b ∷ []) form = refl
latch_words (Some edge) init line (a ∷ b ∷ c ∷ []) form = refl
latch_words None init line (a ∷ b ∷ c ∷ []) (inl two) = absurd (omega (arith, two))
latch_words None init line (a ∷ b ∷ c ∷ []) (inr three) = absurd (let e : false ≡ true = three.1 in cc)
latch_words edge init line [] (inl two) = absurd (omega (arith, two))
latch_words edge init line [] (inr three) = absurd (omega (arith, three.0))
latch_words edge init line (a ∷ []) (inl two) = absurd (omega (arith, two))
latch_words edge init line (a ∷ []) (inr three) = absurd (omega (arith, three.0))
latch_words edge init line (a ∷ b ∷ c ∷ e ∷ more) (inl two) = absurd (omega (arith, two))
latch_words edge init line (a ∷ b ∷ c ∷ e ∷ more) (inr three) = absurd (omega (arith, three.0))

on_ok_both : {T E : Type 0} (A B : Type 0) (r : Result T E) → OnOk r A → OnOk r B → OnOk r (A × B)
on_ok_both A B (Ok x) a b = (a, b)
on_ok_both A B (Err e) a b = tt

pub noted-latch : {T E : Type 0} (count : ℕ) (kind : CardKind) (part : PartKind) (edge : Option Edge2) (init : ℕ) → kind ≡ Latch
    → part ≡ at.Latch edge init → (before after found words : List ℕ) → found ≡ words → (has_edge : Bool) → has_edge ≡ is_some edge
    → (r : Result T E) → OnOk r (IsLatchForm (length found) has_edge) → OnOk r (AreNotedOf count (λ names. named names found) before after)
    → OnOk r ((text : List ℕ) (line : ℕ) (rows : List ℕ)
    → AreNotedOf count (λ names. names_by kind (part_by text part line (named names words) rows)) before after)
noted-latch count kind part edge init kind_is part_is before after found words words_are has_edge edge_is r form noted =
    on_ok_weaker r (λ h text line rows.
    noted-same count (λ names. named names found) (λ names. names_by kind (part_by text part line (named names words) rows)) before after
    (λ names. ap (named names) words_are
    ∙ sym ((λ i. names_by (kind_is i) (part_by text (part_is i) line (named names words) rows))
    ∙ latch_words edge init line (named names words)
    (subst (λ n. IsLatchForm n (is_some edge)) (sym (length-map words (name_of names)))
    (subst (IsLatchForm (length words)) edge_is (subst (λ ws. IsLatchForm (length ws) has_edge) words_are h.0)))))
    h.1)
    (on_ok_both _ _ r form noted)

pub noted-instance : {T E : Type 0} (count : ℕ) (kind : CardKind) (part : PartKind) → kind ≡ Instance → part ≡ at.Instance
    → (before after found words : List ℕ) → found ≡ words
    → (r : Result T E) → OnOk r (AreNotedOf count (λ names. actuals_by (named names (drop 1 found))) before after)
    → OnOk r ((text : List ℕ) (line : ℕ) (rows : List ℕ)
    → AreNotedOf count (λ names. names_by kind (part_by text part line (named names words) rows)) before after)
noted-instance count kind part kind_is part_is before after found words words_are r noted =
    on_ok_weaker r (λ h text line rows.
    noted-same count (λ names. actuals_by (named names (drop 1 found))) (λ names. names_by kind (part_by text part line (named names words) rows)) before after
    (λ names. ap (λ ws. actuals_by (named names (drop 1 ws))) words_are ∙ ap actuals_by (named-drop names words)
    ∙ sym (λ i. names_by (kind_is i) (part_by text (part_is i) line (named names words) rows)))
    h)
    noted
  where
    named-drop : (names : List (List ℕ)) (ws : List ℕ) → named names (drop 1 ws) ≡ drop 1 (named names ws)
    named-drop names [] = refl
    named-drop names (w ∷ ws) = refl

-- the actuals of an instance that go in are those of the pairs from one on
abbrev pub AreActualsNoted : ℕ → List ℕ → ℕ → List ℕ → List ℕ → Type 0
AreActualsNoted count words pair before now = AreNotedOf count (λ names. actuals_by (named names (drop (2 * pair) words))) before now

pub actuals-none : (count : ℕ) (words : List ℕ) (pair : ℕ) (before : List ℕ) → length words < 2 * pair + 2 → AreActualsNoted count words pair before before
actuals-none count words pair before short =
    noted-same count (λ names. []) (λ names. actuals_by (named names (drop (2 * pair) words))) before before
    (λ names. sym (ap (map (λ (b : Binding). b.actual))
    (bindings-short names (drop (2 * pair) words) (omega (arith, short, length-drop (2 * pair) words)))))
    (noted-none count before)

pub actuals-next : (count : ℕ) (words : List ℕ) (pair actual : ℕ) (before now after place : List ℕ) → AreActualsNoted count words (pair + 1) before now
    → slice_get words (2 * pair + 1) ≡ Some actual → length place ≡ count → IsNoted now after place actual
    → AreActualsNoted count words pair before after
actuals-next count words pair actual before now after place so_far there long noted =
    let formal = slice_get-there words (2 * pair) (let l = slice_get_within words (2 * pair + 1) actual there in omega (arith, l)) in
    let behind = drop (2 * (pair + 1)) words in
    let whole : drop (2 * pair) words ≡ formal.0 ∷ actual ∷ behind =
    drop_next words (2 * pair) formal.0 formal.1 ∙ ap (λ l. formal.0 ∷ l) (drop_next words (2 * pair + 1) actual there)
    ∙ ap (λ n. formal.0 ∷ actual ∷ drop n words) (let z : 2 * pair + 1 + 1 ≡ 2 * (pair + 1) = omega arith in z) in
    noted-same count (λ names. name_of names actual ∷ actuals_by (named names behind)) (λ names. actuals_by (named names (drop (2 * pair) words))) before after
    (λ names. ap (λ l. actuals_by (named names l)) (sym whole))
    (noted-both count (λ names. name_of names actual ∷ []) (λ names. actuals_by (named names behind)) before now after so_far
    (noted-one count actual now after place long noted))

-- the cards of a kind
tables_are : (parts : List Part) → flat_map names_of_table (filter_map table_in parts) ≡ flat_map (names_by Table) parts
tables_are [] = refl
tables_are (TablePart table ∷ parts) = ap (λ l. names_of_table table ++ l) (tables_are parts)
tables_are (LatchPart latch ∷ parts) = tables_are parts
tables_are (InstancePart instance ∷ parts) = tables_are parts

latches_are : (parts : List Part) → flat_map names_of_latch (filter_map latch_in parts) ≡ flat_map (names_by Latch) parts
latches_are [] = refl
latches_are (TablePart table ∷ parts) = latches_are parts
latches_are (LatchPart latch ∷ parts) = ap (λ l. names_of_latch latch ++ l) (latches_are parts)
latches_are (InstancePart instance ∷ parts) = latches_are parts

instances_are : (parts : List Part) → flat_map actuals_of (filter_map instance_in parts) ≡ flat_map (names_by Instance) parts
instances_are [] = refl
instances_are (TablePart table ∷ parts) = instances_are parts
instances_are (LatchPart latch ∷ parts) = instances_are parts
instances_are (InstancePart instance ∷ parts) = ap (λ l. actuals_of instance ++ l) (instances_are parts)

-- the names of a model
pub names-of_model : (d : NumberedData) (m : ℕ) (at : ModelAt) (model : BlifModelData) → slice_get d.models m ≡ Some at
    → slice_get (models_in d) m ≡ Some model → names_of model ≡ all_names d m
names-of_model d m at model is there =
    let parts = parts_at d m in
    let whole = model_by (name_of d.names at.name) at.line (named d.names (inputs_at d m)) (named d.names (outputs_at d m)) parts in
    let same : model ≡ whole = let e : Some model ≡ Some whole = sym there ∙ model_there d m at is in cc in
    ap names_of same
    ∙ (λ i. named d.names (inputs_at d m) ++ named d.names (outputs_at d m) ++ tables_are parts i ++ latches_are parts i ++ instances_are parts i)

-- one item more of those from a place on
pub between-next : {X : Type 0} (first k : ℕ) (xs : List X) (x : X) → first ≤ k → slice_get xs k ≡ Some x
    → between first (k + 1) xs ≡ between first k xs ++ x ∷ []
between-next first k xs x l is =
    let behind : first + (k + 1 - first) ≡ k + 1 = omega (arith, l) in
    let here : first + (k - first) ≡ k = omega (arith, l) in
    let long : length (take k xs) ≡ k = omega (arith, length-take k xs, slice_get_within xs k x is) in
    sym (drop-take first (k + 1 - first) xs) ∙ ap (λ n. drop first (take n xs)) behind ∙ ap (drop first) (take-get xs k x is)
    ∙ drop-append-le first (take k xs) (x ∷ []) (omega (arith, long, l))
    ∙ ap (λ l. l ++ x ∷ []) (ap (λ n. drop first (take n xs)) (sym here) ∙ drop-take first (k - first) xs)

-- one item more in front of those from a place on
between-front : {X : Type 0} (k end : ℕ) (xs : List X) (x : X) → k < end → slice_get xs k ≡ Some x
    → between k end xs ≡ x ∷ between (k + 1) end xs
between-front k end xs x l is =
    ap (take (end - k)) (drop_next xs k x is)
    ∙ ap (λ n. take n (x ∷ drop (k + 1) xs)) (let z : end - k ≡ suc (end - (k + 1)) = omega (arith, l) in z)

between-none : {X : Type 0} (start end : ℕ) (xs : List X) → end ≤ start → between start end xs ≡ []
between-none start end xs l = ap (λ n. take n (drop start xs)) (let z : end - start ≡ 0 = omega (arith, l) in z)

-- the names so far on the cards of a kind: those of the parts from a place on up to the end
pub record AreGathered (d : NumberedData) (kind : CardKind) (first end index : ℕ) (before now place : List ℕ) : Type 0 where
  pub count : length place ≡ length d.names
  pub indexed : IsIndexed now place
  pub least : min first end ≤ index
  pub names : AreNoted d.names (flat_map (names_by kind) (between index end (parts_of d))) before now

pub gathered-none : (d : NumberedData) (kind : CardKind) (first end : ℕ) (before place : List ℕ) → length place ≡ length d.names
    → IsIndexed before place → AreGathered d kind first end end before before place
gathered-none d kind first end before place count indexed = record {
  count = count;
  indexed = indexed;
  least = omega arith;
  names = subst (λ ps. AreNoted d.names (flat_map (names_by kind) ps) before before)
      (sym (between-none end end (parts_of d) (omega arith))) (λ all are. are);
}

pub gathered-more : (d : NumberedData) (kind : CardKind) (first end index : ℕ) (before now after old place : List ℕ) (part : PartAt) → IsNumbered d
    → AreGathered d kind first end (index + 1) before now old → first ≤ index → index < end → slice_get d.parts index ≡ Some part
    → length place ≡ length old → IsIndexed after place
    → ((text : List ℕ) (line : ℕ) (rows : List ℕ) → AreNotedOf (length old)
    (λ names. names_by kind (part_by text part.kind line (named names (words_at d index)) rows)) now after)
    → AreGathered d kind first end index before after place
gathered-more d kind first end index before now after old place part h so_far l m is long indexed more =
    let this = part_by d.text part.kind part.line (named d.names (words_at d index)) (rows_at d index) in
    let behind = between (index + 1) end (parts_of d) in
    record {
      count = long ∙ so_far.count;
      indexed = indexed;
      least = omega (arith, l);
      names = λ all are. subst (AreKept d.names after)
          (sym (append_assoc (names_by kind this) (flat_map (names_by kind) behind) all)
          ∙ ap (λ ps. flat_map (names_by kind) ps ++ all) (sym (between-front index end (parts_of d) this m (part_there d index part is))))
          (more d.text part.line (rows_at d index) d.names h.names (sym so_far.count) (flat_map (names_by kind) behind ++ all) (so_far.names all are));
    }

pub gathered-all : (d : NumberedData) (kind : CardKind) (first end index : ℕ) (before now place : List ℕ)
    → AreGathered d kind first end index before now place → index ≤ first → index ≤ end
    → AreNoted d.names (flat_map (names_by kind) (between first end (parts_of d))) before now
gathered-all d kind first end index before now place g l m =
    subst (λ ps. AreNoted d.names (flat_map (names_by kind) ps) before now) (by (cases_lt end first)) g.names
  where
    by : (end < first) ⊎ (first ≤ end) → between index end (parts_of d) ≡ between first end (parts_of d)
    by (inr n) = ap (λ k. between k end (parts_of d)) (let z : index ≡ first = omega (arith, l, n, g.least) in z)
    by (inl n) = between-none index end (parts_of d) (omega (arith, l, n, m, g.least)) ∙ sym (between-none first end (parts_of d) (omega (arith, n)))

-- the names of a model, once those of all its cards and ports have gone in
pub all-noted : (d : NumberedData) (m first end : ℕ) → first ≡ first_part d m → end ≡ first_part d (m + 1)
    → (instances latches tables outputs inputs : List ℕ)
    → AreNoted d.names (flat_map (names_by Instance) (between first end (parts_of d))) [] instances
    → AreNoted d.names (flat_map (names_by Latch) (between first end (parts_of d))) instances latches
    → AreNoted d.names (flat_map (names_by Table) (between first end (parts_of d))) latches tables
    → AreNoted d.names (named d.names (outputs_at d m)) tables outputs
    → AreNoted d.names (named d.names (inputs_at d m)) outputs inputs
    → AreKept d.names inputs (all_names d m)
all-noted d m first end first_is end_is instances latches tables outputs inputs on_instances on_latches on_tables as_outputs as_inputs =
    let parts = between first end (parts_of d) in
    let ports = named d.names (inputs_at d m) ++ named d.names (outputs_at d m) in
    let tables_of = flat_map (names_by Table) parts in
    let latches_of = flat_map (names_by Latch) parts in
    let instances_of = flat_map (names_by Instance) parts in
    let cards = tables_of ++ (latches_of ++ instances_of) in
    let order : all_names d m ≡ named d.names (inputs_at d m) ++ (named d.names (outputs_at d m) ++ cards) =
    sym (λ i. with_cards ports (between (first_is i) (end_is i) (parts_of d)))
    ∙ append_assoc (ports ++ tables_of) latches_of instances_of ∙ append_assoc ports tables_of (latches_of ++ instances_of)
    ∙ append_assoc (named d.names (inputs_at d m)) (named d.names (outputs_at d m)) cards in
    subst (AreKept d.names inputs) (sym order)
    (as_inputs (named d.names (outputs_at d m) ++ cards) (as_outputs cards (on_tables (latches_of ++ instances_of)
    (on_latches instances_of (subst (AreKept d.names instances) (append-nil instances_of) (on_instances [] refl))))))

-- Parts and models that are copied one after the other are those of the file.
use Rattle.std.proofs.Common.{◌≡◌, ℕ, ◌≤◌, ◌<◌, ◌+◌, ◌-◌, List, [], ◌∷◌, ◌++◌, length, take, drop, refl, sym, ap, ◌∙◌, arith, append-nil, append_assoc}
use Rattle.std.specs.Prelude.{Some, slice_get}
use Rattle.std.specs.List.{filter_map}
use Rattle.std.proofs.lemmas.List.{drop_all, drop_more, length-drop, take-append-drop, take_more}
use Rattle.dom_base.proofs.Lists.{drop_next, head_same, tail_same}
use Rattle.std.proofs.lemmas.List.Sums.{fold-append}
use Rattle.blif_ast.specs.BlifModelData.{BlifModelData}
use Rattle.numbered_file.specs.declared.parts.PartAt.{PartAt}
use Rattle.numbered_file.specs.NumberedData.{NumberedData}
use Rattle.file_copies.specs.Copied.{model_with_all, model_with_part}
use Rattle.numbered_file.specs.Numbered.{between, named, Part, TablePart, LatchPart, InstancePart, instance_in, latch_in, model_by, part_by, parts_from, table_in}
use Rattle.numbered_file.proofs.PartLists.{parts-take}

-- the parts of a model

pub with_all-push : (m : BlifModelData) (parts : List Part) (part : Part) → model_with_all m (parts ++ part ∷ []) ≡ model_with_part (model_with_all m parts) part
with_all-push m parts part = fold-append model_with_part m parts (part ∷ [])

pub with_all-is : (m : BlifModelData) (parts : List Part) → model_with_all m parts
    ≡ record m { tables = m.tables ++ filter_map table_in parts; latches = m.latches ++ filter_map latch_in parts; instances = m.instances ++ filter_map instance_in parts }
with_all-is m [] = λ i. record m { tables = sym (append-nil m.tables) i; latches = sym (append-nil m.latches) i; instances = sym (append-nil m.instances) i }
with_all-is m (TablePart table ∷ parts) = with_all-is (model_with_part m (TablePart table)) parts
    ∙ (λ i. record m {
      tables = append_assoc m.tables (table ∷ []) (filter_map table_in parts) i;
      latches = m.latches ++ filter_map latch_in parts;
      instances = m.instances ++ filter_map instance_in parts;
    })
with_all-is m (LatchPart latch ∷ parts) = with_all-is (model_with_part m (LatchPart latch)) parts
    ∙ (λ i. record m {
      tables = m.tables ++ filter_map table_in parts;
      latches = append_assoc m.latches (latch ∷ []) (filter_map latch_in parts) i;
      instances = m.instances ++ filter_map instance_in parts;
    })
with_all-is m (InstancePart instance ∷ parts) = with_all-is (model_with_part m (InstancePart instance)) parts
    ∙ (λ i. record m {
      tables = m.tables ++ filter_map table_in parts;
      latches = m.latches ++ filter_map latch_in parts;
      instances = append_assoc m.instances (instance ∷ []) (filter_map instance_in parts) i;
    })

pub with_all-by : (name : List ℕ) (line : ℕ) (inputs outputs : List (List ℕ)) (parts : List Part)
    → model_with_all (model_by name line inputs outputs []) parts ≡ model_by name line inputs outputs parts
with_all-by name line inputs outputs parts = with_all-is (model_by name line inputs outputs []) parts

-- parts from a place on

module _ (text : List ℕ) (words : List (List ℕ)) (rows : List ℕ) where
  pub parts-between : (start end word row : ℕ) (parts : List PartAt)
      → parts_from text words rows word row (drop start parts) ≡ drop start (parts_from text words rows 0 0 parts)
      → parts_from text words rows word row (between start end parts) ≡ between start end (parts_from text words rows 0 0 parts)
  parts-between start end word row parts is = sym (parts-take text words rows word row (end - start) (drop start parts)) ∙ ap (take (end - start)) is

-- the next item of what is left of a list
pub next-of : {X : Type 0} (xs : List X) (i : ℕ) (x : X) (rest : List X) → drop i xs ≡ x ∷ rest → (take (i + 1) xs ≡ take i xs ++ x ∷ []) × (drop (i + 1) xs ≡ rest)
next-of xs i x rest e =
    let lt : i < length xs = omega (arith, ap length e, length-drop i xs) in
    let next = sym (drop_more xs i x lt) ∙ e in
    (take_more xs i x lt ∙ ap (λ y. take i xs ++ y ∷ []) (head_same next), tail_same next)

pub all-of : {X : Type 0} (xs : List X) (i : ℕ) → drop i xs ≡ [] → take i xs ≡ xs
all-of xs i none = sym (append-nil (take i xs)) ∙ ap (λ l. take i xs ++ l) (sym none) ∙ take-append-drop i xs

-- parts that are copied: those so far, and what is left of them
pub record IsCopied (d : NumberedData) (parts : List PartAt) (whole : List Part) (old new : BlifModelData) (index words rows : ℕ) : Type 0 where
  pub model : new ≡ model_with_all old (take index whole)
  pub rest : parts_from d.text (named d.names d.words) d.rows words rows (drop index parts) ≡ drop index whole

pub copy-starts : (d : NumberedData) (parts : List PartAt) (whole : List Part) (old : BlifModelData) (words rows : ℕ)
    → parts_from d.text (named d.names d.words) d.rows words rows parts ≡ whole → IsCopied d parts whole old old 0 words rows
copy-starts d parts whole old words rows is = record { model = refl; rest = is }

pub copy-step : (d : NumberedData) (parts : List PartAt) (whole : List Part) (old new after : BlifModelData) (index words rows : ℕ) (part : PartAt)
    → IsCopied d parts whole old new index words rows → slice_get parts index ≡ Some part
    → after ≡ model_with_part new (part_by d.text part.kind part.line (between words part.words_end (named d.names d.words)) (between rows part.rows_end d.rows))
    → IsCopied d parts whole old after (index + 1) part.words_end part.rows_end
copy-step d parts whole old new after index words rows part c is pushed =
    let one = part_by d.text part.kind part.line (between words part.words_end (named d.names d.words)) (between rows part.rows_end d.rows) in
    let left = parts_from d.text (named d.names d.words) d.rows part.words_end part.rows_end (drop (index + 1) parts) in
    let next = next-of whole index one left (sym c.rest ∙ ap (parts_from d.text (named d.names d.words) d.rows words rows) (drop_next parts index part is)) in
    record {
      model = pushed ∙ ap (λ m. model_with_part m one) c.model ∙ sym (with_all-push old (take index whole) one) ∙ ap (model_with_all old) (sym next.0);
      rest = sym next.1;
    }

pub copy-ends : (d : NumberedData) (parts : List PartAt) (whole : List Part) (old new : BlifModelData) (index words rows : ℕ)
    → IsCopied d parts whole old new index words rows → length parts ≤ index → new ≡ model_with_all old whole
copy-ends d parts whole old new index words rows c all =
    c.model ∙ ap (model_with_all old) (all-of whole index (sym c.rest ∙ ap (parts_from d.text (named d.names d.words) d.rows words rows) (drop_all index parts all)))

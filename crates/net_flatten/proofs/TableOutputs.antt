-- The numbers that tables drive, one by one.
use Rattle.std.proofs.Common.{◌≡◌, ℕ, ◌+◌, List, [], ◌∷◌, ◌++◌, append_assoc, map, take, Some, ap, sym, ◌∙◌}
use Rattle.std.specs.Prelude.{slice_get}
use Rattle.dom_base.proofs.Lists.{map-push}
use Rattle.net_flatten.specs.declared.table_order.LevelledTable.{LevelledTable}
use Rattle.part_numbers.specs.NumberedFiles.{NumberedPartData}
use Rattle.network.proofs.IndexedLists.{take_next}
use Rattle.net_flatten.proofs.SnocLists.{last_image}

-- what these tables drive was appended
abbrev pub AreOutputs : List NumberedPartData → List LevelledTable → List ℕ → List ℕ → Type 0
AreOutputs parts tables before now =
    (ordered : List NumberedPartData) → map (λ (t : LevelledTable). slice_get parts t.part) tables ≡ map Some ordered
    → now ≡ before ++ map (λ (p : NumberedPartData). p.drives) ordered

pub outputs_next : (parts : List NumberedPartData) (tables : List LevelledTable) (index : ℕ) (t : LevelledTable) (p : NumberedPartData) (before now : List ℕ)
    → slice_get tables index ≡ Some t → slice_get parts t.part ≡ Some p → AreOutputs parts (take index tables) before now
    → AreOutputs parts (take (index + 1) tables) before (now ++ p.drives ∷ [])
outputs_next parts tables index t p before now at part are ordered e =
    let h = last_image (λ (u : LevelledTable). slice_get parts u.part) (take index tables) t ordered
    (ap (map (λ (u : LevelledTable). slice_get parts u.part)) (sym (take_next tables index t at)) ∙ e) in
    let i : Some h.1 ≡ Some p = sym h.4 ∙ part in
    let same : h.1 ≡ p = cc in
    let image : map (λ (q : NumberedPartData). q.drives) ordered ≡ map (λ (q : NumberedPartData). q.drives) h.0 ++ p.drives ∷ [] =
    ap (map (λ (q : NumberedPartData). q.drives)) h.2 ∙ map-push (λ (q : NumberedPartData). q.drives) h.0 h.1
    ∙ ap (λ (q : NumberedPartData). map (λ (r : NumberedPartData). r.drives) h.0 ++ q.drives ∷ []) same in
    ap (λ l. l ++ p.drives ∷ []) (are h.0 h.3) ∙ append_assoc before (map (λ (q : NumberedPartData). q.drives) h.0) (p.drives ∷ [])
    ∙ ap (λ l. before ++ l) (sym image)

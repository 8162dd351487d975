-- The lines of tables, models and files of BLIF, by what is appended to a text in turn.
use Rattle.std.proofs.Common.{◌≡◌, ℕ, List, [], ◌∷◌, ◌++◌, map, refl, ap, sym, append_assoc, append-nil, codes}
use Rattle.std.proofs.lemmas.Grind.{flat_map-append}
use Rattle.std.proofs.lemmas.List.Folds.{flat_map-map}
use Rattle.std.specs.List.{flat_map}
use Rattle.blif_ast.specs.BlifModelData.{BlifModelData}
use Rattle.blif_ast.specs.TableData.{TableData}
use Rattle.blif_ast.specs.Printed.{printed_line, ports_card, names_words, row_words, table_lines, latch_words, instance_words, model_lines}

-- lists of lists in turn, each element with what it stands for
pub flat_map_twice : {A B C : Type 0} (g : B → List C) (f : A → List B) (xs : List A) → flat_map g (flat_map f xs) ≡ flat_map (λ x. flat_map g (f x)) xs
flat_map_twice g f [] = refl
flat_map_twice g f (x ∷ xs) = rw (flat_map-append g (f x) (flat_map f xs)) (ap (λ rest. flat_map g (f x) ++ rest) (flat_map_twice g f xs))

-- the lines of a table, by what is appended to a text in turn
pub table_end : (text : List ℕ) (t : TableData)
    → (text ++ printed_line (names_words t)) ++ flat_map (λ row. printed_line (row_words t.on row)) t.rows ≡ text ++ flat_map printed_line (table_lines t)
table_end text t = rw (flat_map-map printed_line (row_words t.on) t.rows) (append_assoc text (printed_line (names_words t)) (flat_map (λ row. printed_line (row_words t.on row)) t.rows))

-- pieces, by what is appended to a text in turn
pieces_end : {A B : Type 0} (g : A → List B) (text : List B) (first last : A) (inputs outputs tables latches instances : List A) {t l i : List B}
    → flat_map g tables ≡ t → flat_map g latches ≡ l → flat_map g instances ≡ i
    → ((((((text ++ g first) ++ flat_map g inputs) ++ flat_map g outputs) ++ t) ++ l) ++ i) ++ g last
    ≡ text ++ flat_map g ((first ∷ inputs) ++ outputs ++ tables ++ latches ++ instances ++ last ∷ [])
pieces_end g text first last inputs outputs tables latches instances t l i = rw (sym t, sym l, sym i) (simp (flat_map-append, append_assoc, append-nil))

-- the lines of a model, by what is appended to a text in turn
pub model_end : (text : List ℕ) (m : BlifModelData)
    → ((((((text ++ printed_line (codes ".model" ∷ m.name ∷ [])) ++ flat_map printed_line (ports_card (codes ".inputs") m.inputs))
    ++ flat_map printed_line (ports_card (codes ".outputs") m.outputs)) ++ flat_map (λ t. flat_map printed_line (table_lines t)) m.tables)
    ++ flat_map (λ l. printed_line (latch_words l)) m.latches) ++ flat_map (λ i. printed_line (instance_words i)) m.instances) ++ codes ".end\n"
    ≡ text ++ flat_map printed_line (model_lines m)
model_end text m =
    pieces_end printed_line text (codes ".model" ∷ m.name ∷ []) (codes ".end" ∷ []) (ports_card (codes ".inputs") m.inputs) (ports_card (codes ".outputs") m.outputs)
    (flat_map table_lines m.tables) (map latch_words m.latches) (map instance_words m.instances)
    (flat_map_twice printed_line table_lines m.tables) (flat_map-map printed_line latch_words m.latches) (flat_map-map printed_line instance_words m.instances)

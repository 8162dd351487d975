-- Parts of a model that are appended to the lists of a file by numbers: those that are there, and those that are to come.
use Rattle.std.proofs.Common.{◌≡◌, ℕ, ◌≤◌, ◌+◌, ◌-◌, List, [], ◌∷◌, ◌++◌, All, length, take, drop, get_or, refl, sym, ap, ◌∙◌, arith, append_assoc, append-nil, subst}
use Rattle.std.specs.Prelude.{Option}
use Rattle.std.specs.List.{filter_map}
use Rattle.std.proofs.lemmas.List.{append_cancel_left, take_rest}
use Rattle.std.proofs.lemmas.List.Elements.{All-tail, filter_map-append}
use Rattle.std.proofs.lemmas.Option.{slice_get_read}
use Rattle.dom_base.proofs.Lists.{drop_next}
use Rattle.blif_ast.specs.declared.latch.Latch.{Latch}
use Rattle.blif_ast.specs.Good.{IsGoodTable}
use Rattle.blif_ast.specs.InstanceData.{InstanceData}
use Rattle.blif_ast.specs.TableData.{TableData}
use Rattle.numbered_file.specs.OpenLists.{with_parts, OpenLists}
use Rattle.file_copies.specs.FileLetters.{rows_letters, tables_letters}
use Rattle.numbered_file.specs.Numbered.{InstancePart, LatchPart, Part, TablePart, instance_in, latch_in, table_in}
use Rattle.blif_lines.specs.TextPlaces.{IsRestOf}
use Rattle.file_copies.specs.Pushing.{IsNext, IsPushing, IsReached, Pushing, state}
use Rattle.file_copies.proofs.RowPlaces.{rest-behind}

-- the first item of a list, and the others
pub head-and-rest : {X : Type 0} (xs : List X) (x : X) → 1 ≤ length xs → x ≡ get_or xs 0 x → xs ≡ x ∷ take (length xs - 1) (drop 1 xs)
head-and-rest xs x some is =
    drop_next xs 0 x (slice_get_read xs (length xs) 0 x refl (omega (arith, some)) is) ∙ ap (λ l. x ∷ l) (sym (take_rest xs 1))

-- nothing is appended
pub reached-none : (s : Pushing) → IsPushing s → IsReached s s
reached-none s h = record {
  pushing = h;
  later = record { lists = refl; tables = refl; latches = refl; instances = refl; letters = λ more is. is };
}

-- one step after the other
pub reached-next : (s t u : Pushing) → IsReached s t → IsNext t u → IsReached s u
reached-next s t u first next =
    let a = first.later in
    let b = next.reached.later in
    record {
      pushing = next.reached.pushing;
      later = record {
        lists = b.lists ∙ ap (λ (l : OpenLists). record l { parts = u.lists.parts }) a.lists;
        tables = b.tables ∙ a.tables;
        latches = b.latches ∙ a.latches;
        instances = b.instances ∙ a.instances;
        letters = λ more is. b.letters more (a.letters more is);
      };
    }

-- the end of the parts is that of nothing to come
pub reached-end : (s : Pushing) (lists : OpenLists) (tables : List TableData) (latches : List Latch) (instances : List InstanceData) (letters : List ℕ)
    → IsReached s (state lists tables latches instances letters) → tables ≡ [] → latches ≡ [] → instances ≡ [] → IsReached s (state lists [] [] [] letters)
reached-end s lists tables latches instances letters h t l i = subst (IsReached s) (λ k. state lists (t k) (l k) (i k) letters) h

-- what one part more gives of its own kind, and of the others
own : {X : Type 0} (part_in : Part → Option X) (parts : List Part) (part : Part) (x : X) (more : List X) → filter_map part_in (part ∷ []) ≡ x ∷ []
    → filter_map part_in (parts ++ part ∷ []) ++ more ≡ filter_map part_in parts ++ x ∷ more
own part_in parts part x more is =
    ap (λ l. l ++ more) (filter_map-append part_in parts (part ∷ []) ∙ ap (λ l. filter_map part_in parts ++ l) is)
    ∙ append_assoc (filter_map part_in parts) (x ∷ []) more

other : {X : Type 0} (part_in : Part → Option X) (parts : List Part) (part : Part) (more : List X) → filter_map part_in (part ∷ []) ≡ []
    → filter_map part_in (parts ++ part ∷ []) ++ more ≡ filter_map part_in parts ++ more
other part_in parts part more none =
    ap (λ l. l ++ more) (filter_map-append part_in parts (part ∷ []) ∙ ap (λ l. filter_map part_in parts ++ l) none ∙ append-nil (filter_map part_in parts))

-- the words, rows and text of lists with more parts
module _ (lists after : OpenLists) (parts : List Part) (is : after ≡ with_parts lists parts) where
  text_is : lists.text ≡ after.text
  text_is = sym (ap (λ (l : OpenLists). l.text) is)

  only_parts : after ≡ record lists { parts = after.parts }
  only_parts = is ∙ ap (λ p. record lists { parts = p }) (sym (ap (λ (l : OpenLists). l.parts) is))

  parts_are : after.parts ≡ lists.parts ++ parts
  parts_are = ap (λ (l : OpenLists). l.parts) is

-- a table more
pub table-next : (lists after : OpenLists) (tables more : List TableData) (latches : List Latch) (instances : List InstanceData) (letters left : List ℕ) (table : TableData)
    → tables ≡ table ∷ more → IsPushing (state lists tables latches instances letters) → after ≡ with_parts lists (TablePart table ∷ []) → letters ≡ rows_letters table.rows ++ left
    → IsNext (state lists tables latches instances letters) (state after more latches instances left)
table-next lists after tables more latches instances letters left table is h pushed letters_are =
    let parts = parts_are lists after (TablePart table ∷ []) pushed in
    let behind : (rest : List ℕ) → letters ≡ tables_letters tables ++ rest → left ≡ tables_letters more ++ rest =
    λ rest e. append_cancel_left (rows_letters table.rows) left (tables_letters more ++ rest)
    (sym letters_are ∙ e ∙ ap (λ ts. tables_letters ts ++ rest) is ∙ append_assoc (rows_letters table.rows) (tables_letters more) rest) in
    record {
      reached = record {
        pushing = record {
          words = ap (λ (l : OpenLists). l.words) pushed ∙ h.words;
          rows = ap (λ (l : OpenLists). l.rows) pushed ∙ h.rows;
          good = All-tail IsGoodTable table more (subst (All IsGoodTable) is h.good);
          letters = (h.letters.0, behind h.letters.0 h.letters.1);
          there = subst (λ t. IsRestOf t left) (text_is lists after (TablePart table ∷ []) pushed) (rest-behind lists.text letters (rows_letters table.rows) left h.there letters_are);
        };
        later = record {
          lists = only_parts lists after (TablePart table ∷ []) pushed;
          tables = ap (λ ps. filter_map table_in ps ++ more) parts ∙ own table_in lists.parts (TablePart table) table more refl
              ∙ ap (λ ts. filter_map table_in lists.parts ++ ts) (sym is);
          latches = ap (λ ps. filter_map latch_in ps ++ latches) parts ∙ other latch_in lists.parts (TablePart table) latches refl;
          instances = ap (λ ps. filter_map instance_in ps ++ instances) parts ∙ other instance_in lists.parts (TablePart table) instances refl;
          letters = behind;
        };
      };
      fewer = omega (arith, ap length is);
    }

-- a latch more
pub latch-next : (lists after : OpenLists) (tables : List TableData) (latches more : List Latch) (instances : List InstanceData) (letters : List ℕ) (latch : Latch)
    → latches ≡ latch ∷ more → IsPushing (state lists tables latches instances letters) → after ≡ with_parts lists (LatchPart latch ∷ [])
    → IsNext (state lists tables latches instances letters) (state after tables more instances letters)
latch-next lists after tables latches more instances letters latch is h pushed =
    let parts = parts_are lists after (LatchPart latch ∷ []) pushed in
    record {
      reached = record {
        pushing = record {
          words = ap (λ (l : OpenLists). l.words) pushed ∙ h.words;
          rows = ap (λ (l : OpenLists). l.rows) pushed ∙ h.rows;
          good = h.good;
          letters = h.letters;
          there = subst (λ t. IsRestOf t letters) (text_is lists after (LatchPart latch ∷ []) pushed) h.there;
        };
        later = record {
          lists = only_parts lists after (LatchPart latch ∷ []) pushed;
          tables = ap (λ ps. filter_map table_in ps ++ tables) parts ∙ other table_in lists.parts (LatchPart latch) tables refl;
          latches = ap (λ ps. filter_map latch_in ps ++ more) parts ∙ own latch_in lists.parts (LatchPart latch) latch more refl
              ∙ ap (λ ls. filter_map latch_in lists.parts ++ ls) (sym is);
          instances = ap (λ ps. filter_map instance_in ps ++ instances) parts ∙ other instance_in lists.parts (LatchPart latch) instances refl;
          letters = λ rest e. e;
        };
      };
      fewer = omega (arith, ap length is);
    }

-- an instance more
pub instance-next : (lists after : OpenLists) (tables : List TableData) (latches : List Latch) (instances more : List InstanceData) (letters : List ℕ) (instance : InstanceData)
    → instances ≡ instance ∷ more → IsPushing (state lists tables latches instances letters) → after ≡ with_parts lists (InstancePart instance ∷ [])
    → IsNext (state lists tables latches instances letters) (state after tables latches more letters)
instance-next lists after tables latches instances more letters instance is h pushed =
    let parts = parts_are lists after (InstancePart instance ∷ []) pushed in
    record {
      reached = record {
        pushing = record {
          words = ap (λ (l : OpenLists). l.words) pushed ∙ h.words;
          rows = ap (λ (l : OpenLists). l.rows) pushed ∙ h.rows;
          good = h.good;
          letters = h.letters;
          there = subst (λ t. IsRestOf t letters) (text_is lists after (InstancePart instance ∷ []) pushed) h.there;
        };
        later = record {
          lists = only_parts lists after (InstancePart instance ∷ []) pushed;
          tables = ap (λ ps. filter_map table_in ps ++ tables) parts ∙ other table_in lists.parts (InstancePart instance) tables refl;
          latches = ap (λ ps. filter_map latch_in ps ++ latches) parts ∙ other latch_in lists.parts (InstancePart instance) latches refl;
          instances = ap (λ ps. filter_map instance_in ps ++ more) parts ∙ own instance_in lists.parts (InstancePart instance) instance more refl
              ∙ ap (λ is. filter_map instance_in lists.parts ++ is) (sym is);
          letters = λ rest e. e;
        };
      };
      fewer = omega (arith, ap length is);
    }

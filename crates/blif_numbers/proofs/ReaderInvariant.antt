-- What was made of some lines of a text, and the answer that follows from it.
use Rattle.std.proofs.Common.{◌≡◌, ◌≢◌, ℕ, ◌≤◌, ◌+◌, Bool, true, false, cond, ◌==◌, not, if◌then◌else◌, List, [], ◌∷◌, ◌++◌, reverse, length, refl, sym, ap, ◌∙◌, subst, arith, append-nil, Some, None, inl, inr, Result, Err}
use Rattle.std.specs.Prelude.{Option, ◌&&◌, nat_lt, codes}
use Rattle.std.specs.List.{list_any, list_all}
use Rattle.dom_base.specs.Lines.{lines, is_control}
use Rattle.dom_base.specs.Cuts.{NumbersFit}
use Rattle.dom_base.proofs.Bools.{and_both}
use Rattle.dom_base.specs.FaultKinds.{IsSmallest}
use Rattle.dom_base.proofs.Lists.{reverse-cons, reverse-onto}
use Rattle.blif_ast.specs.BlifFileData.{BlifFileData}
use Rattle.blif_ast.specs.BlifModelData.{BlifModelData}
use Rattle.blif_ast.specs.TableData.{TableData}
use Rattle.blif_ast.specs.declared.letter.Letter.{Letter}
use Rattle.blif_ast.specs.declared.card.Card.{Card}
use Rattle.blif_ast.specs.declared.card.Card.TheVariants.{Model, Inputs, Outputs, Names, Latch, Subckt, Clock, End}
use Rattle.blif_ast.specs.declared.kind.BlifKind.{BlifKind}
use Rattle.blif_ast.specs.declared.kind.BlifKind.TheVariants.{ControlByte, BadCard, RowOutsideTable, BadRow, MixedCover, TooWide, NoModel}
use Rattle.blif_ast.specs.LogicalLines.{LogicalLine, logical_lines, logical_lines_from}
use Rattle.blif_ast.specs.Cards.{card_of, is_card, is_form, is_row_form, is_value, is_letter, last_letter, table_inputs}
use Rattle.blif_ast.specs.Faults.{has_blif_fault, blif_kind_number}
use Rattle.blif_ast.specs.Models.{models_of, row_letters}
use Rattle.blif_ast.specs.Reading.{IsBlifFault, IsBlifFaultAt, IsFaultOfLine, IsFileOf}
use Rattle.blif_numbers.specs.declared.fault.BlifFault.{BlifFault}
use Rattle.blif_numbers.specs.declared.fault.BlifFault.TheVariants.{At}
use Rattle.blif_numbers.specs.Build.{Built, built_by, built_after, closed_models, context_in, finished, first_letter_in, has_model, model_after_card, new_model, on_after, opened_by, table_after_card, table_with_row}
use Rattle.blif_numbers.specs.Steps.{Context, OpenTable, card_fault, context_of, formed_card_fault, differs, context_fault, letter_after, row_fault, with_letter}
use Rattle.blif_numbers.proofs.BuiltModels.{finished-line, finished-none}
use Rattle.blif_numbers.proofs.LineNumbers.{Rises, logical_lines_from-rise}
use Rattle.blif_numbers.proofs.KnownWords.{one_of-all}
use Rattle.blif_numbers.proofs.FaultKinds.{smallest_kind}
use Rattle.blif_numbers.proofs.LineContexts.{context_after_row, context_after_card, opened, opens, row_no_card}
use Rattle.blif_numbers.proofs.LineFaults.{FaultIn, fault_in, rising-fault, passed}
use Rattle.blif_numbers.proofs.SmallestFault.{context_fault-smallest}

-- the fault that the context gives, and no fault where it gives none
smallest_is : (before : List LogicalLine) (line : LogicalLine) (context : Context) (found : Option BlifKind) → context_of before ≡ context → found ≡ context_fault context line
    → IsSmallest blif_kind_number (λ kind. has_blif_fault kind before line) found
smallest_is before line context found is by =
    subst (IsSmallest blif_kind_number (λ kind. has_blif_fault kind before line)) (sym (by ∙ ap (λ c. context_fault c line) (sym is) ∙ context_fault-smallest before line)) (smallest_kind (λ kind. has_blif_fault kind before line))

-- A line without fault is a row of the open table or a card that is known, and the built parts say of the next line what the lines do.

-- the fault of a line without control bytes
pub clean_by : (context : Context) (line : LogicalLine) → None ≡ context_fault context line
    → None ≡ cond (is_card line) (card_fault context.model (card_of line) line.words) (row_fault context.table line.words)
clean_by context line clean = by (list_any (list_any is_control) line.words) clean
  where
    by : (control : Bool) → None ≡ cond control (Some ControlByte) (cond (is_card line) (card_fault context.model (card_of line) line.words) (row_fault context.table line.words))
        → None ≡ cond (is_card line) (card_fault context.model (card_of line) line.words) (row_fault context.table line.words)
    by true e = absurd (cc)
    by false e = e

-- a row and its open table, or a card
pub data Readable (context : Context) (line : LogicalLine) : Type 0 where
  Row : is_card line ≡ false → card_of line ≡ None → None ≡ row_fault context.table line.words → Readable context line
  Known : (card : Card) → card_of line ≡ Some card → None ≡ card_fault context.model (Some card) line.words → Readable context line

readable : (context : Context) (line : LogicalLine) → None ≡ context_fault context line → Readable context line
readable context line clean = by (is_card line) refl (clean_by context line clean)
  where
    known : (o : Option Card) → card_of line ≡ o → None ≡ card_fault context.model o line.words → Readable context line
    known None e f = absurd (cc)
    known (Some card) e f = Known card e f

    by : (b : Bool) → is_card line ≡ b → None ≡ cond b (card_fault context.model (card_of line) line.words) (row_fault context.table line.words) → Readable context line
    by true e f = known (card_of line) refl f
    by false e f = Row e (row_no_card line e) f

-- the last letter of a row in its form is `1` or `0`
value_letter : (word : List ℕ) → is_value word ≡ true → last_letter (word ∷ []) ≡ (if last_letter (word ∷ []) == 49 then 49 else 48)
value_letter word is = one_of-all (λ w. last_letter (w ∷ []) ≡ (if last_letter (w ∷ []) == 49 then 49 else 48)) (codes "0" ∷ codes "1" ∷ []) word (refl, (refl, tt)) is

row_letter_value : (width : ℕ) (words : List (List ℕ)) → is_row_form width words ≡ true → last_letter words ≡ (if last_letter words == 49 then 49 else 48)
row_letter_value width [] form = absurd (cc)
row_letter_value width (value ∷ []) form = value_letter value (and_both (width == 0) (is_value value) form).1
row_letter_value width (letters ∷ value ∷ []) form =
    value_letter value (and_both (nat_lt 0 width && (length letters == width) && list_all is_letter letters) (is_value value) form).1
row_letter_value width (a ∷ b ∷ c ∷ more) form = absurd (cc)

-- a row without a fault is in its form
pub in_form : (table : OpenTable) (words : List (List ℕ)) → None ≡ row_fault (Some table) words → is_row_form table.width words ≡ true
in_form table words clean = by (is_row_form table.width words) clean
  where
    by : (form : Bool) → None ≡ cond (not form) (Some BadRow) (cond (differs table.letter (last_letter words)) (Some MixedCover) None) → form ≡ true
    by true e = refl
    by false e = absurd (cc)

first_letter-row : (rows : List (List Letter)) (on : Bool) (letter : ℕ) (row : List Letter) → letter ≡ (if letter == 49 then 49 else 48)
    → first_letter_in (rows ++ row ∷ []) (on_after rows on letter) ≡ letter_after (first_letter_in rows on) letter
first_letter-row [] on letter row is = ap (λ l. Some l) (sym is)
first_letter-row (r ∷ rows) on letter row is = refl

-- the open table after a row
opened-row : (table : Option TableData) (words : List (List ℕ)) → None ≡ row_fault (opened_by table) words
    → opened_by (table_with_row table words) ≡ with_letter (opened_by table) (last_letter words)
opened-row None words clean = absurd (cc)
opened-row (Some t) words clean =
    let letter = row_letter_value (length t.inputs) words (in_form (record { width = length t.inputs; letter = first_letter_in t.rows t.on }) words clean) in
    ap (λ l. Some (record { width = length t.inputs; letter = l })) (first_letter-row t.rows t.on (last_letter words) (row_letters words) letter)

opened-card : (card : Card) (line : LogicalLine) → opened_by (table_after_card card line) ≡ opened card line
opened-card Model line = refl
opened-card Inputs line = refl
opened-card Outputs line = refl
opened-card Names line = refl
opened-card Latch line = refl
opened-card Subckt line = refl
opened-card Clock line = refl
opened-card End line = refl

has_model-card : (model : Option BlifModelData) (table : Option TableData) (card : Card) (line : LogicalLine) → has_model (model_after_card model table card line) ≡ has_model model
has_model-card None table card line = refl
has_model-card (Some m) table card line = refl

context_in-card : (b : Built) (card : Card) (line : LogicalLine) → context_in (built_by b (Some card) line) ≡ record { model = opens card (has_model b.model); table = opened card line }
context_in-card b Model line = refl
context_in-card b End line = refl
context_in-card b Inputs line = λ i. record { model = has_model-card b.model b.table Inputs line i; table = None }
context_in-card b Outputs line = λ i. record { model = has_model-card b.model b.table Outputs line i; table = None }
context_in-card b Names line = λ i. record { model = has_model-card b.model b.table Names line i; table = opened Names line }
context_in-card b Latch line = λ i. record { model = has_model-card b.model b.table Latch line i; table = None }
context_in-card b Subckt line = λ i. record { model = has_model-card b.model b.table Subckt line i; table = None }
context_in-card b Clock line = λ i. record { model = has_model-card b.model b.table Clock line i; table = None }

-- the built parts say of the next line what the lines do
context_after : (before : List LogicalLine) (b : Built) (line : LogicalLine) → context_of before ≡ context_in b → Readable (context_in b) line
    → context_of (line ∷ before) ≡ context_in (built_after b line)
context_after before b line is (Row row none clean) =
    context_after_row before line row
    ∙ ap (λ (c : Context). record { model = c.model; table = with_letter c.table (last_letter line.words) }) is
    ∙ (λ i. record { model = has_model b.model; table = sym (opened-row b.table line.words clean) i })
    ∙ ap (λ o. context_in (built_by b o line)) (sym none)
context_after before b line is (Known card known clean) =
    context_after_card before line card known
    ∙ ap (λ (c : Context). record { model = opens card c.model; table = opened card line }) is
    ∙ sym (context_in-card b card line)
    ∙ ap (λ o. context_in (built_by b o line)) (sym known)

-- the models at the end, if no line comes
abbrev pub closed : Built → List BlifModelData
closed b = closed_models b.models b.model b.table

closed_some : (models : List BlifModelData) (m : BlifModelData) (table : Option TableData) → closed_models models (Some m) table ≡ [] → ⊥
closed_some [] m table e = absurd (cc)
closed_some (x ∷ xs) m table e = absurd (cc)

closed-card : (models : List BlifModelData) (model : Option BlifModelData) (table other : Option TableData) (card : Card) (line : LogicalLine)
    → closed_models models (model_after_card model table card line) other ≡ [] → closed_models models model table ≡ []
closed-card models None table other card line e = e
closed-card models (Some m) table other card line e = absurd (closed_some models _ other e)

closed-table : (models : List BlifModelData) (model : Option BlifModelData) (table other : Option TableData) → closed_models models model other ≡ [] → closed_models models model table ≡ []
closed-table models None table other e = e
closed-table models (Some m) table other e = absurd (closed_some models m other e)

-- models stay
closed-stays : (b : Built) (o : Option Card) (line : LogicalLine) → closed (built_by b o line) ≡ [] → closed b ≡ []
closed-stays b None line e = closed-table b.models b.model b.table (table_with_row b.table line.words) e
closed-stays b (Some Model) line e = absurd (closed_some (closed b) (new_model line) None e)
closed-stays b (Some End) line e = e
closed-stays b (Some Inputs) line e = closed-card b.models b.model b.table None Inputs line e
closed-stays b (Some Outputs) line e = closed-card b.models b.model b.table None Outputs line e
closed-stays b (Some Names) line e = closed-card b.models b.model b.table _ Names line e
closed-stays b (Some Latch) line e = closed-card b.models b.model b.table None Latch line e
closed-stays b (Some Subckt) line e = closed-card b.models b.model b.table None Subckt line e
closed-stays b (Some Clock) line e = closed-card b.models b.model b.table None Clock line e

-- the first line without fault is a card `.model`
no_model_fault : (card : Card) (words : List (List ℕ)) → None ≡ card_fault false (Some card) words → card ≡ Model
no_model_fault card words clean = by card (is_form card words) clean
  where
    too_wide : (wide : Bool) → None ≡ cond wide (Some TooWide) (Some NoModel) → ⊥
    too_wide true e = absurd (cc)
    too_wide false e = absurd (cc)

    by : (c : Card) (form : Bool) → None ≡ cond (not form) (Some BadCard) (formed_card_fault false c words) → c ≡ Model
    by c false e = absurd (cc)
    by Model true e = refl
    by Inputs true e = absurd (cc)
    by Outputs true e = absurd (cc)
    by Names true e = absurd (too_wide (nat_lt 4096 (length (table_inputs words))) e)
    by Latch true e = absurd (cc)
    by Subckt true e = absurd (cc)
    by Clock true e = absurd (cc)
    by End true e = absurd (cc)

opens_model : (b : Built) (line : LogicalLine) → context_in b ≡ context_of [] → Readable (context_in b) line → closed (built_after b line) ≡ [] → ⊥
opens_model b line is (Row row none clean) e =
    let outside : None ≡ Some RowOutsideTable = clean ∙ ap (λ (c : Context). row_fault c.table line.words) is in absurd (cc)
opens_model b line is (Known card known clean) e =
    let model : card ≡ Model = no_model_fault card line.words (clean ∙ ap (λ (c : Context). card_fault c.model (Some card) line.words) is) in
    closed_some (closed b) (new_model line) None (sym (ap (λ o. closed (built_by b o line)) (known ∙ ap (λ c. Some c) model)) ∙ e)

-- what holds after some lines: this was made of them, and the reader stands at these bytes
pub record Reads (text : List ℕ) (built : Built) (number : ℕ) (rest : List ℕ) : Type 0 where
  pub before : List LogicalLine
  pub context_is : context_of before ≡ context_in built
  pub fit : NumbersFit number rest
  pub count : number + length (lines rest) ≡ 1 + length (lines text)
  pub split : logical_lines text ≡ reverse before ++ logical_lines_from number (lines rest)
  pub faults : (n : ℕ) (kind : BlifKind) → FaultIn [] (logical_lines text) n kind → FaultIn before (logical_lines_from number (lines rest)) n kind
  pub built_is : models_of (logical_lines text) ≡ finished built (logical_lines_from number (lines rest))
  -- there is a model as soon as there is a line
  pub no_model : before ≡ [] → closed built ≡ []
  pub no_line : closed built ≡ [] → before ≡ []

-- the next line is cut off
pub record Cuts (number : ℕ) (rest : List ℕ) (line : LogicalLine) (next : ℕ) (more : List ℕ) : Type 0 where
  pub lines_are : logical_lines_from number (lines rest) ≡ line ∷ logical_lines_from next (lines more)
  pub fit : NumbersFit next more
  pub count : next + length (lines more) ≡ number + length (lines rest)

pub starts : (text : List ℕ) → NumbersFit 1 text → Reads text (record { models = []; model = None; table = None }) 1 text
starts text fit = record {
  before = [];
  context_is = refl;
  fit = fit;
  count = refl;
  split = refl;
  faults = λ n kind fault. fault;
  built_is = refl;
  no_model = λ _. refl;
  no_line = λ _. refl;
}

not_empty : (xs : List LogicalLine) (line : LogicalLine) (more : List LogicalLine) → xs ++ line ∷ more ≢ []
not_empty [] line more is = absurd (omega (arith, ap length is))
not_empty (x ∷ xs) line more is = absurd (omega (arith, ap length is))

row_unless_known : (context : Context) (line : LogicalLine) → Readable context line → card_of line ≡ None → is_card line ≡ false
row_unless_known context line (Row row none clean) e = row
row_unless_known context line (Known card known clean) e = let never : Some card ≡ None = sym known ∙ e in absurd (cc)

module _ {text : List ℕ} {built : Built} {number : ℕ} {rest : List ℕ} {line : LogicalLine} {next : ℕ} {more : List ℕ} where
  -- a line without a fault
  pub reads-next : Reads text built number rest → Cuts number rest line next more → None ≡ context_fault (context_in built) line
      → Reads text (built_after built line) next more
  reads-next r cut clean = record {
    before = line ∷ r.before;
    context_is = context_after r.before built line r.context_is line_is;
    fit = cut.fit;
    count = cut.count ∙ r.count;
    split = r.split ∙ ap (λ l. reverse r.before ++ l) cut.lines_are ∙ sym (reverse-onto line r.before (logical_lines_from next (lines more)));
    faults = λ n kind fault. passed r.before line (logical_lines_from next (lines more)) (smallest_is r.before line (context_in built) None r.context_is clean) n kind
        (subst (λ l. FaultIn r.before l n kind) cut.lines_are (r.faults n kind fault));
    built_is = r.built_is ∙ ap (finished built) cut.lines_are ∙ sym (finished-line built line (logical_lines_from next (lines more)) (row_unless_known (context_in built) line line_is));
    no_model = λ none. absurd (cc);
    no_line = λ none. absurd (opens_model built line (sym r.context_is ∙ ap context_of (r.no_line (closed-stays built (card_of line) line none))) line_is none);
  }
    where
      line_is : Readable (context_in built) line
      line_is = readable (context_in built) line clean

  -- a line with a fault
  pub reads-fault : Reads text built number rest → Cuts number rest line next more → (kind : BlifKind) → Some kind ≡ context_fault (context_in built) line → IsBlifFaultAt text line.number kind
  reads-fault r cut kind by =
      let behind = logical_lines_from next (lines more) in
      let least = smallest_is r.before line (context_in built) (Some kind) r.context_is by in
      let whole : logical_lines text ≡ reverse r.before ++ line ∷ logical_lines_from next (lines more) = r.split ∙ ap (λ l. reverse r.before ++ l) cut.lines_are in
      let rising : Rises number (line ∷ logical_lines_from next (lines more)) = subst (Rises number) cut.lines_are (logical_lines_from-rise number (lines rest)) in
      let all : (n : ℕ) (k : BlifKind) → FaultIn [] (logical_lines text) n k → FaultIn r.before (line ∷ logical_lines_from next (lines more)) n k = λ n k f. subst (λ l. FaultIn r.before l n k) cut.lines_are (r.faults n k f) in
      let no_end : logical_lines text ≢ [] = λ none. not_empty (reverse r.before) line (logical_lines_from next (lines more)) (sym whole ∙ none) in
      record {
        fault = inl (record { before = r.before; line = line; after = behind; lines_are = whole; number_is = refl; fault = least.0 });
        first = λ other any f. elim f as (λ _. line.number ≤ other) [ inl g ↦ rising-fault line.number r.before (line ∷ behind) other any (omega arith, rising.1) (all other any (fault_in (logical_lines text) other any g)) | inr e ↦ absurd (no_end e.empty) ];
        smallest = λ other f. elim f as (λ _. blif_kind_number kind ≤ blif_kind_number other) [
          | inl g ↦ elim (all line.number other (fault_in (logical_lines text) line.number other g)) as (λ _. blif_kind_number kind ≤ blif_kind_number other)
              [ inl here ↦ least.1 other here.1 | inr later ↦ absurd (omega (arith, rising-fault (line.number + 1) (line ∷ r.before) behind line.number other rising.1 later)) ]
          | inr e ↦ absurd (no_end e.empty)
        ];
      }

reverse_none : (before : List LogicalLine) → reverse before ≡ [] → before ≡ []
reverse_none [] e = refl
reverse_none (x ∷ xs) e = absurd (not_empty (reverse xs) x [] (sym (reverse-cons x xs) ∙ e))

module _ {text : List ℕ} {built : Built} {number : ℕ} {rest : List ℕ} where
  -- the end of a text that has lines
  pub reads-file : Reads text built number rest → logical_lines_from number (lines rest) ≡ [] → (file : BlifFileData) → (file.models ≡ closed built) × (file.models ≢ []) → IsFileOf text file
  reads-file r none file is = record {
    no_fault = no_fault;
    file_is = ap (λ ms. record { models = ms }) (is.0 ∙ sym (r.built_is ∙ ap (finished built) none ∙ finished-none built));
  }
    where
      all_are : logical_lines text ≡ reverse r.before
      all_are = r.split ∙ ap (λ l. reverse r.before ++ l) none ∙ append-nil (reverse r.before)

      no_fault : (n : ℕ) (kind : BlifKind) → IsBlifFault text n kind → ⊥
      no_fault n kind (inl g) = subst (λ l. FaultIn r.before l n kind) none (r.faults n kind (fault_in (logical_lines text) n kind g))
      no_fault n kind (inr e) = is.1 (is.0 ∙ r.no_model (reverse_none r.before (sym all_are ∙ e.empty)))

  -- the end of a text without lines
  pub reads-nothing : Reads text built number rest → logical_lines_from number (lines rest) ≡ [] → (next : ℕ) (more : List ℕ) → next + length (lines more) ≡ number + length (lines rest) → more ≡ [] → closed built ≡ []
      → IsBlifFaultAt text next NoModel
  reads-nothing r none next more count no_more no_model =
      let before : r.before ≡ [] = r.no_line no_model in
      let whole : logical_lines text ≡ [] = r.split ∙ ap (λ b. reverse b ++ logical_lines_from number (lines rest)) before ∙ none in
      let place : next ≡ length (lines text) + 1 = omega (arith, count, r.count, ap (λ m. length (lines m)) no_more) in
      let no_fault : (n : ℕ) (k : BlifKind) → IsFaultOfLine (logical_lines text) n k → ⊥ = λ n k g. subst (λ l. FaultIn [] l n k) whole (fault_in (logical_lines text) n k g) in
      record {
        fault = inr (record { empty = whole; number_is = place; kind_is = refl });
        first = λ other any f. elim f as (λ _. next ≤ other) [ inl g ↦ absurd (no_fault other any g) | inr e ↦ omega (arith, place, e.number_is) ];
        smallest = λ other f. elim f as (λ _. 8 ≤ blif_kind_number other) [ inl g ↦ absurd (no_fault next other g) | inr e ↦ omega (arith, ap blif_kind_number e.kind_is) ];
      }

-- a fault by another name of its line and its kind
pub same_fault : (text : List ℕ) (n m : ℕ) (kind other : BlifKind) → n ≡ m → kind ≡ other → IsBlifFaultAt text m other → IsBlifFaultAt text n kind
same_fault text n m kind other place is fault = subst (λ l. IsBlifFaultAt text l kind) (sym place) (subst (λ k. IsBlifFaultAt text m k) (sym is) fault)

-- the line and the kind of a fault
abbrev pub line_of_fault : {T : Type 0} → Result T BlifFault → ℕ
line_of_fault (Err (At n k)) = n
line_of_fault _ = 0

abbrev pub kind_of_fault : {T : Type 0} → Result T BlifFault → BlifKind
kind_of_fault (Err (At n k)) = k
kind_of_fault _ = NoModel

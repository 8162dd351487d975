-- Models that are appended to a file by numbers: those that are there, and those that are to come.
use Rattle.std.proofs.Common.{◌≡◌, ℕ, List, [], ◌∷◌, ◌++◌, All, refl, sym, ap, ◌∙◌, subst, append_assoc, append-nil}
use Rattle.std.specs.Prelude.{Option}
use Rattle.std.specs.List.{filter_map}
use Rattle.std.proofs.lemmas.List.Elements.{All-head, All-tail}
use Rattle.blif_ast.specs.BlifModelData.{BlifModelData}
use Rattle.blif_ast.specs.Good.{IsGoodModel}
use Rattle.file_copies.specs.FileLetters.{models_letters, tables_letters}
use Rattle.numbered_file.specs.Numbered.{Part, instance_in, latch_in, table_in}
use Rattle.numbered_file.specs.OpenLists.{OpenLists, no_lists, with_inputs, with_model, with_outputs, IsClosed}
use Rattle.blif_lines.specs.TextPlaces.{IsFrontOf, IsRestOf}
use Rattle.file_copies.specs.Pushing.{IsPushing, IsReached, model_added, state}

-- a model whose inputs and outputs are there
module _ (lists opened filled : OpenLists) (m : BlifModelData) (closed : IsClosed lists)
    (inputs : opened ≡ with_inputs lists m.inputs) (outputs : filled ≡ with_outputs opened m.outputs) where
  filled_is : filled ≡ with_outputs (with_inputs lists m.inputs) m.outputs
  filled_is = outputs ∙ ap (λ l. with_outputs l m.outputs) inputs

  pub model-pushing : (letters : List ℕ) → IsGoodModel m → IsFrontOf (tables_letters m.tables) letters → IsRestOf lists.text letters
      → IsPushing (state filled m.tables m.latches m.instances letters)
  model-pushing letters good front there = record {
    words = ap (λ (l : OpenLists). l.words) filled_is ∙ closed.words;
    rows = ap (λ (l : OpenLists). l.rows) filled_is ∙ closed.rows;
    good = good.tables;
    letters = front;
    there = subst (λ t. IsRestOf t letters) (sym (ap (λ (l : OpenLists). l.text) filled_is)) there;
  }

  -- a model whose parts are there too
  module _ (parted : OpenLists) (letters left : List ℕ) (reached : IsReached (state filled m.tables m.latches m.instances letters) (state parted [] [] [] left)) where
    kind : {X : Type 0} (part_in : Part → Option X) (items : List X) → filter_map part_in parted.parts ++ [] ≡ filter_map part_in filled.parts ++ items
        → filter_map part_in parted.parts ≡ items
    kind part_in items is =
        sym (append-nil (filter_map part_in parted.parts)) ∙ is
        ∙ ap (λ ps. filter_map part_in ps ++ items) (ap (λ (l : OpenLists). l.parts) filled_is ∙ closed.parts)

    parted_is : parted ≡ record (with_outputs (with_inputs lists m.inputs) m.outputs) { parts = parted.parts }
    parted_is = reached.later.lists ∙ ap (λ (l : OpenLists). record l { parts = parted.parts }) filled_is

    pub model-pushed : (done : OpenLists) (name : List ℕ) (line : ℕ) → name ≡ m.name → line ≡ m.line → done ≡ with_model parted name line
        → done ≡ model_added lists m
    model-pushed done name line name_is line_is pushed =
        pushed ∙ ap (λ l. with_model l name line) parted_is
        ∙ (λ i. record lists {
          models = lists.models ++ record {
            name = name_is i;
            inputs = closed.inputs i ++ m.inputs;
            outputs = closed.outputs i ++ m.outputs;
            tables = kind table_in m.tables reached.later.tables i;
            latches = kind latch_in m.latches reached.later.latches i;
            instances = kind instance_in m.instances reached.later.instances i;
            line = line_is i;
          } ∷ [];
          inputs = sym closed.inputs i;
          outputs = sym closed.outputs i;
          parts = sym closed.parts i;
        })

    pub model-left : (more : List ℕ) → letters ≡ tables_letters m.tables ++ more → left ≡ more
    model-left more is = reached.later.letters more is

    pub model-there : IsRestOf lists.text left
    model-there = subst (λ t. IsRestOf t left) (ap (λ (l : OpenLists). l.text) parted_is) reached.pushing.there

-- the first models are there
pub record IsAdding (now : OpenLists) (models rest : List BlifModelData) (text left : List ℕ) : Type 0 where
  pub closed : IsClosed now
  pub same_text : now.text ≡ text
  pub models_are : now.models ++ rest ≡ models
  pub letters : left ≡ models_letters rest
  pub there : IsRestOf text left
  pub good : All IsGoodModel rest

pub adding-starts : (now : OpenLists) (models : List BlifModelData) (text : List ℕ) → now ≡ no_lists text → All IsGoodModel models → text ≡ models_letters models
    → IsAdding now models models text text
adding-starts now models text new good letters = record {
  closed = record {
    inputs = ap (λ (l : OpenLists). l.inputs) new;
    outputs = ap (λ (l : OpenLists). l.outputs) new;
    parts = ap (λ (l : OpenLists). l.parts) new;
    words = ap (λ (l : OpenLists). l.words) new;
    rows = ap (λ (l : OpenLists). l.rows) new;
  };
  same_text = ap (λ (l : OpenLists). l.text) new;
  models_are = ap (λ (l : OpenLists). l.models ++ models) new;
  letters = letters;
  there = ([], refl);
  good = good;
}

module _ (now : OpenLists) (models : List BlifModelData) (m : BlifModelData) (more : List BlifModelData) (rest : List BlifModelData) (text left : List ℕ)
    (is : rest ≡ m ∷ more) (a : IsAdding now models rest text left) where
  letters_are : left ≡ tables_letters m.tables ++ models_letters more
  letters_are = a.letters ∙ ap models_letters is

  pub adding-front : IsFrontOf (tables_letters m.tables) left
  adding-front = (models_letters more, letters_are)

  pub adding-good : IsGoodModel m
  adding-good = All-head IsGoodModel m more (subst (All IsGoodModel) is a.good)

  pub adding-there : IsRestOf now.text left
  adding-there = subst (λ t. IsRestOf t left) (sym a.same_text) a.there

  pub adding-step : (after : OpenLists) (behind : List ℕ) → after ≡ model_added now m
      → ((others : List ℕ) → left ≡ tables_letters m.tables ++ others → behind ≡ others) → IsRestOf now.text behind
      → IsAdding after models more text behind
  adding-step after behind added letters there = record {
    closed = record {
      inputs = ap (λ (l : OpenLists). l.inputs) added ∙ a.closed.inputs;
      outputs = ap (λ (l : OpenLists). l.outputs) added ∙ a.closed.outputs;
      parts = ap (λ (l : OpenLists). l.parts) added ∙ a.closed.parts;
      words = ap (λ (l : OpenLists). l.words) added ∙ a.closed.words;
      rows = ap (λ (l : OpenLists). l.rows) added ∙ a.closed.rows;
    };
    same_text = ap (λ (l : OpenLists). l.text) added ∙ a.same_text;
    models_are = ap (λ (l : OpenLists). l.models ++ more) added ∙ append_assoc now.models (m ∷ []) more ∙ ap (λ ms. now.models ++ ms) (sym is) ∙ a.models_are;
    letters = letters (models_letters more) letters_are;
    there = subst (λ t. IsRestOf t behind) a.same_text there;
    good = All-tail IsGoodModel m more (subst (All IsGoodModel) is a.good);
  }

pub adding-ends : (now : OpenLists) (models rest : List BlifModelData) (text left : List ℕ) → IsAdding now models rest text left → rest ≡ [] → now.models ≡ models
adding-ends now models rest text left a none = sym (append-nil now.models) ∙ ap (λ l. now.models ++ l) (sym none) ∙ a.models_are

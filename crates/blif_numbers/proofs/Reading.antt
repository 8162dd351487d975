-- What holds of the reader after some lines, and of its answer.
use Rattle.std.proofs.Common.{◌≡◌, ◌≢◌, ℕ, ◌+◌, List, [], length, refl, sym, ap, ◌∙◌, subst, Some, None}
use Rattle.dom_base.specs.Lines.{first_word, lines}
use Rattle.dom_base.specs.Cuts.{NumbersFit}
use Rattle.blif_ast.specs.BlifFileData.{BlifFileData}
use Rattle.blif_ast.specs.declared.kind.BlifKind.{BlifKind}
use Rattle.blif_ast.specs.declared.kind.BlifKind.TheVariants.{NoModel}
use Rattle.blif_ast.specs.LogicalLines.{LogicalLine, logical_lines_from}
use Rattle.blif_ast.specs.Reading.{IsBlifFaultAt, IsFileOf}
use Rattle.blif_numbers.specs.Build.{built_after, context_in}
use Rattle.blif_lines.specs.Cuts.{numbered_line}
use Rattle.blif_numbers.specs.Steps.{context_fault}
use Rattle.blif_numbers.proofs.ReaderInvariant.{Cuts, Reads as ReadsBuilt, reads-fault, reads-file, reads-next, reads-nothing, starts}
use Rattle.blif_numbers.specs.BuilderData.{BuilderData, built_in, built_of, model_closed, table_closed, IsBuilder}
use Rattle.numbered_file.specs.OpenLists.{OpenLists, no_lists, open_lists}
use Rattle.blif_lines.specs.TextPlaces.{IsRestOf, StandsAt}
use Rattle.blif_numbers.proofs.Builds.{models-closed}

-- what holds after some lines: the reader of the text has made this of them, and stands at these bytes
pub record Reads (text : List ℕ) (b : BuilderData) (whole : List ℕ) (number : ℕ) (rest : List ℕ) : Type 0 where
  pub builder : IsBuilder b
  pub file_text : b.file.text ≡ text
  pub whole_is : whole ≡ text
  pub rest_is : IsRestOf whole rest
  pub reads : ReadsBuilt text (built_in b) number rest

pub begins : (text : List ℕ) (b : BuilderData) → open_lists b.file ≡ no_lists text → b.open_model ≡ None → IsBuilder b → NumbersFit 1 text → Reads text b text 1 text
begins text b new none builder fit = record {
  builder = builder;
  file_text = ap (λ (l : OpenLists). l.text) new;
  whole_is = refl;
  rest_is = ([], refl);
  reads = subst (λ built. ReadsBuilt text built 1 text) (λ i. built_of b.file.names (sym new i) (sym none i)) (starts text fit);
}

module _ {text : List ℕ} {b : BuilderData} {whole : List ℕ} {number : ℕ} {rest : List ℕ} (r : Reads text b whole number rest) where
  module _ {line : LogicalLine} {next : ℕ} {more : List ℕ} (cut : Cuts number rest line next more) where
    -- a line without a fault
    pub takes : {still : List ℕ} → None ≡ context_fault (context_in (built_in b)) line → still ≡ whole → IsRestOf still more → (after : BuilderData)
        → built_in after ≡ built_after (built_in b) line → IsBuilder after → after.file.text ≡ b.file.text → Reads text after still next more
    takes clean same_whole rest_is after built builder same_text = record {
      builder = builder;
      file_text = same_text ∙ r.file_text;
      whole_is = same_whole ∙ r.whole_is;
      rest_is = rest_is;
      reads = subst (λ x. ReadsBuilt text x next more) (sym built) (reads-next r.reads cut clean);
    }

    -- a line with a fault
    pub refuses : (kind : BlifKind) → Some kind ≡ context_fault (context_in (built_in b)) line → IsBlifFaultAt text line.number kind
    refuses kind found = reads-fault r.reads cut kind found

  module _ (none : logical_lines_from number (lines rest) ≡ []) where
    -- the end of a text that has lines
    pub ends : (file : BlifFileData) → (file.models ≡ (model_closed (table_closed (built_in b))).models) × (file.models ≢ []) → IsFileOf text file
    ends file is = reads-file r.reads none file (is.0 ∙ sym (models-closed (built_in b)), is.1)

    -- the end of a text without lines
    pub has_nothing : (next : ℕ) (more : List ℕ) → next + length (lines more) ≡ number + length (lines rest) → more ≡ []
        → (model_closed (table_closed (built_in b))).models ≡ [] → IsBlifFaultAt text next NoModel
    has_nothing next more count no_more no_model = reads-nothing r.reads none next more count no_more
        (models-closed (built_in b) ∙ no_model)

  -- the first word of a line, where it stands in the text of the file
  pub stands : (place : ℕ) (words : List (List ℕ)) (line : LogicalLine) → line ≡ numbered_line line.number words → StandsAt whole place (first_word words)
      → StandsAt b.file.text place (first_word line.words)
  stands place words line is there =
      subst (λ t. StandsAt t place (first_word line.words)) (r.whole_is ∙ sym r.file_text)
      (subst (λ (l : LogicalLine). StandsAt whole place (first_word l.words)) (sym is) there)

-- The text of a good file is accepted, and its file is that one in all but lines.
use Rattle.std.proofs.Common.{◌≡◌, ◌≢◌, ℕ, inl, inr, true, false, suc, List, [], ◌∷◌, length, map, refl, ap, sym, subst, ◌∙◌}
use Rattle.std.specs.List.{flat_map}
use Rattle.std.proofs.lemmas.List.Elements.{recursion_from_All}
use Rattle.blif_ast.specs.BlifModelData.{BlifModelData}
use Rattle.blif_ast.specs.Good.{IsGoodModel}
use Rattle.blif_ast.specs.Printed.{model_lines, printed}
use Rattle.blif_ast.specs.declared.kind.BlifKind.{BlifKind}
use Rattle.blif_ast.specs.LogicalLines.{LogicalLine, logical_lines}
use Rattle.blif_ast.specs.Models.{models_of}
use Rattle.blif_ast.specs.Reading.{IsBlifFault}
use Rattle.blif_read.specs.ReadsBack.{model_unlined, PrintedReadsBack}
use Rattle.blif_read.proofs.AcceptedIsGoodLines.{Free}
use Rattle.blif_numbers.proofs.LineFaults.{FaultIn, fault_in}
use Rattle.blif_read.proofs.PrintReadsBackLines.{numbered, printed_lines}
use Rattle.blif_read.proofs.PrintReadsBackNames.{models_names}
use Rattle.blif_read.proofs.PrintReadsBackModels.{models_back}
use Rattle.blif_read.proofs.PrintReadsBackUnlined.{numbered-zeros, models_of-unnumbered}
use Rattle.blif_read.proofs.PrintReadsBackRows.{models_free}

Free-none : (before all : List LogicalLine) (number : ℕ) (kind : BlifKind) → Free before all → FaultIn before all number kind → ⊥
Free-none before [] number kind free h = h
Free-none before (line ∷ more) number kind free (inl here) = let never : true ≡ false = sym here.1 ∙ free.0 kind in cc
Free-none before (line ∷ more) number kind free (inr later) = Free-none (line ∷ before) more number kind free.1 later

some_lines : (models : List BlifModelData) → models ≢ [] → numbered 1 (flat_map model_lines models) ≡ [] → ⊥
some_lines [] some e = some refl
some_lines (m ∷ models) some e = let never : suc _ ≡ 0 = ap (λ (l : List LogicalLine). length l) e in cc

pub reads_back : PrintedReadsBack
reads_back file good =
    let models = recursion_from_All IsGoodModel file.models good.models in
    let lines_are : logical_lines (printed file) ≡ numbered 1 (flat_map model_lines file.models) = printed_lines (flat_map model_lines file.models) (models_names file.models models) in
    let all = numbered 1 (flat_map model_lines file.models) in
    let free = subst (Free []) (sym lines_are) (models_free file.models models [] 1) in
    let same : map model_unlined (models_of (logical_lines (printed file))) ≡ map model_unlined file.models =
    ap (λ l. map model_unlined (models_of l)) lines_are ∙ sym (models_of-unnumbered all)
    ∙ ap models_of (numbered-zeros 1 (flat_map model_lines file.models)) ∙ models_back file.models models in (
      record { models = models_of (logical_lines (printed file)) },
      record { no_fault = no_fault free lines_are; file_is = refl },
      λ k. record { models = same k },
    )
  where
    no_fault : Free [] (logical_lines (printed file)) → logical_lines (printed file) ≡ numbered 1 (flat_map model_lines file.models)
        → (number : ℕ) (kind : BlifKind) → IsBlifFault (printed file) number kind → ⊥
    no_fault free is number kind (inl f) = Free-none [] (logical_lines (printed file)) number kind free (fault_in (logical_lines (printed file)) number kind f)
    no_fault free is number kind (inr e) = some_lines file.models good.some (sym is ∙ e.empty)

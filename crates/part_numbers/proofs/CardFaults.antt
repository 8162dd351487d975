-- Refusals at the cards of parts: their lines and names are those of the ends of the expanded list.
use Rattle.std.proofs.Common.{◌≡◌, ℕ, zero, suc, ◌<◌, List, [], length, Option, Some, None, refl, ap, sym, ◌∙◌, subst, arith}
use Rattle.std.specs.Prelude.{IsSome, IsSomeAnd, option_and_then, option_map, slice_get, slice_index_or}
use Rattle.std.proofs.lemmas.List.{length-map}
use Rattle.std.proofs.lemmas.Option.{slice_get-get_or, slice_get_read, slice_get_within}
use Rattle.std.proofs.lemmas.Bool.{true≢false}
use Rattle.blif_ast.specs.BlifFileData.{BlifFileData}
use Rattle.blif_ast.specs.InstanceData.{InstanceData}
use Rattle.blif_ast.specs.declared.latch.Control.{Control}
use Rattle.model_calls.specs.declared.fault.FlatFault.{FlatFault}
use Rattle.model_calls.specs.declared.fault.FlatFault.TheVariants.{At, TooMany, Memory}
use Rattle.model_calls.specs.declared.fault.FlatKind.{FlatKind}
use Rattle.part_numbers.specs.CheckOutcomes.{IsAtControlOf, IsAtInput, IsAtOutput, IsFaultOf, IsLineAt}
use Rattle.model_calls.specs.Ends.{End, driven_end, end_at, read_ends}
use Rattle.model_calls.specs.Expanded.{BodyCard, LatchPart, PlacedPart, TablePart, card_line, expanded}
use Rattle.part_numbers.specs.NumberedFiles.{IsNumberedFile, NumberedFileData, NumberedPartData, PartBySignals, card_at, card_of_part, control_of_part, model_at}
use Rattle.part_numbers.specs.PartCards.{card_control, card_inputs, card_output}
use Rattle.model_calls.specs.SignalFaults.{signals}
use Rattle.model_calls.specs.Signals.{Signal, signal_of}
use Rattle.network.proofs.Lists.{get_map, get_of_map}
use Rattle.part_numbers.proofs.NumberedEnds.{number_at, part_at, reads_number}

pub IsFaultOf-weaker : (kind : FlatKind) (P Q : ℕ → List ℕ → Type 0) → ((line : ℕ) (name : List ℕ) → P line name → Q line name) → (fault : FlatFault) → IsFaultOf kind P fault → IsFaultOf kind Q fault
IsFaultOf-weaker kind P Q to (At line k name) h = (h.0, to line name h.1)
IsFaultOf-weaker kind P Q to (TooMany limit count) h = h
IsFaultOf-weaker kind P Q to Memory h = h

line_of_output : (x : PlacedPart) → card_line (card_of_part x) ≡ (driven_end x).line
line_of_output (TablePart t) = refl
line_of_output (LatchPart l) = refl

name_of_output : (x : PlacedPart) → card_output (card_of_part x) ≡ (driven_end x).name
name_of_output (TablePart t) = refl
name_of_output (LatchPart l) = refl

-- the end where a part reads a name
record IsReadEnd (x : PlacedPart) (read : ℕ) (name : List ℕ) : Type 0 where
  end : End
  there : slice_get (read_ends x) read ≡ Some end
  line_is : card_line (card_of_part x) ≡ end.line
  name_is : name ≡ end.name

read_end : (x : PlacedPart) (read : ℕ) (name : List ℕ) → slice_get (card_inputs (card_of_part x)) read ≡ Some name → IsReadEnd x read name
read_end (TablePart t) read name at = record {
  end = end_at t.path t.table.line name;
  there = get_map (end_at t.path t.table.line) t.table.inputs read name at;
  line_is = refl;
  name_is = refl;
}
read_end (LatchPart l) zero name at = record { end = end_at l.path l.latch.line l.latch.input; there = refl; line_is = refl; name_is = cc }
read_end (LatchPart l) (suc read) name at = absurd cc

as_many : (x : PlacedPart) → length (card_inputs (card_of_part x)) ≡ length (read_ends x)
as_many (TablePart t) = sym (length-map t.table.inputs (end_at t.path t.table.line))
as_many (LatchPart l) = refl

some_is : {X : Type 0} (o : Option X) (x : X) → o ≡ Some x → IsSome o
some_is o x e = subst IsSome (sym e) refl

pub part_there : (all parts : List NumberedPartData) (k : ℕ) (p : NumberedPartData) → parts ≡ all → k < length all → p ≡ slice_index_or parts k p → slice_get all k ≡ Some p
part_there all parts k p same l e = slice_get_read all (length all) k p refl l (e ∙ ap (λ ps. slice_index_or ps k p) same)

pub there_at : (all : List NumberedPartData) (k read : ℕ) → IsSomeAnd (slice_get all k) (λ p. read < length p.reads) → k < length all
there_at all k read h = by (slice_get all k) refl h
  where
    by : (o : Option NumberedPartData) → slice_get all k ≡ o → IsSomeAnd o (λ p. read < length p.reads) → k < length all
    by None e h = absurd h
    by (Some p) e h = slice_get_within all k p e

pub read_there : (all : List NumberedPartData) (k read : ℕ) (p : NumberedPartData) → slice_get all k ≡ Some p → IsSomeAnd (slice_get all k) (λ q. read < length q.reads) → read < length p.reads
read_there all k read p at h = subst (λ o. IsSomeAnd o (λ (q : NumberedPartData). read < length q.reads)) at h

pub controlled_at : (all : List NumberedPartData) (k : ℕ) → IsSomeAnd (slice_get all k) (λ p. IsSome p.control) → k < length all
controlled_at all k h = by (slice_get all k) refl h
  where
    by : (o : Option NumberedPartData) → slice_get all k ≡ o → IsSomeAnd o (λ p. IsSome p.control) → k < length all
    by None e h = absurd h
    by (Some p) e h = slice_get_within all k p e

pub control_some : (all : List NumberedPartData) (k : ℕ) (p : NumberedPartData) → slice_get all k ≡ Some p → IsSomeAnd (slice_get all k) (λ q. IsSome q.control) → IsSome p.control
control_some all k p at h = subst (λ o. IsSomeAnd o (λ (q : NumberedPartData). IsSome q.control)) at h

module _ (f : BlifFileData) (all : List Signal) (n : NumberedFileData) (is : IsNumberedFile f all n) (k : ℕ) (p : NumberedPartData) (at : slice_get n.parts k ≡ Some p) where
  abbrev x : PlacedPart
  x = (part_at f all n is k p at).0

  x_there : slice_get (expanded f) k ≡ Some x
  x_there = (part_at f all n is k p at).1

  card_is : card_at (model_at f p.model) p.card ≡ Some (card_of_part x)
  card_is = ap (λ (b : PartBySignals). b.card) (part_at f all n is k p at).2

  pub card_there : IsSome (card_at (model_at f p.model) p.card)
  card_there = some_is (card_at (model_at f p.model) p.card) (card_of_part x) card_is

  of_card : {Y : Type 0} (g : BodyCard → Y) (y : Y) → option_map g (card_at (model_at f p.model) p.card) ≡ Some y → y ≡ g (card_of_part x)
  of_card g y e = let d : Some (g (card_of_part x)) ≡ Some y = sym (ap (option_map g) card_is) ∙ e in cc

  pub input_there : (read : ℕ) → read < length p.reads → IsSomeAnd (card_at (model_at f p.model) p.card) (λ c. read < length (card_inputs c))
  input_there read l =
      let y : slice_get p.reads read ≡ Some (slice_index_or p.reads read 0) = slice_get-get_or p.reads read 0 l in
      let s = number_at all p.reads (signals (read_ends x)) read (slice_index_or p.reads read 0) (reads_number f all n is p x (part_at f all n is k p at).2) y in
      let e = get_of_map (λ (e : End). e.signal) (read_ends x) read s.0 s.1 in
      let few : read < length (card_inputs (card_of_part x)) = omega (arith, as_many x, slice_get_within (read_ends x) read e.0 e.1) in
      subst (λ o. IsSomeAnd o (λ c. read < length (card_inputs c))) (sym card_is) few

  pub output_fault : (kind : FlatKind) (line : ℕ) (name : List ℕ) (fault : FlatFault)
      → option_map card_line (card_at (model_at f p.model) p.card) ≡ Some line → option_map card_output (card_at (model_at f p.model) p.card) ≡ Some name
      → IsFaultOf kind (λ l m. (l ≡ line) × (m ≡ name)) fault → IsFaultOf kind (IsAtOutput f k) fault
  output_fault kind line name fault e d h = IsFaultOf-weaker kind (λ l m. (l ≡ line) × (m ≡ name)) (IsAtOutput f k)
      (λ l m both. record {
        part = x;
        there = x_there;
        line_is = both.0 ∙ of_card card_line line e ∙ line_of_output x;
        name_is = both.1 ∙ of_card card_output name d ∙ name_of_output x;
      }) fault h

  pub input_fault : (kind : FlatKind) (read line : ℕ) (name : List ℕ) (fault : FlatFault)
      → option_map card_line (card_at (model_at f p.model) p.card) ≡ Some line
      → option_map (λ c. slice_get (card_inputs c) read) (card_at (model_at f p.model) p.card) ≡ Some (Some name)
      → IsFaultOf kind (λ l m. (l ≡ line) × (m ≡ name)) fault → IsFaultOf kind (IsAtInput f k read) fault
  input_fault kind read line name fault e d h =
      let r = read_end x read name (sym (of_card (λ c. slice_get (card_inputs c) read) (Some name) d)) in
      IsFaultOf-weaker kind (λ l m. (l ≡ line) × (m ≡ name)) (IsAtInput f k read)
      (λ l m both. record {
        part = x;
        there = x_there;
        end = r.end;
        read_there = r.there;
        line_is = both.0 ∙ of_card card_line line e ∙ r.line_is;
        name_is = both.1 ∙ r.name_is;
      }) fault h

  control_by_name : (path : List InstanceData) (number : Option ℕ) (name : Option (List ℕ)) → option_map (slice_get all) number ≡ option_map Some (option_map (signal_of path) name) → IsSome number → IsSome name
  control_by_name path None name e some = absurd (true≢false (sym some))
  control_by_name path (Some s) None e some = absurd cc
  control_by_name path (Some s) (Some w) e some = refl

  named_control : (y : PlacedPart) → option_map (slice_get all) p.control ≡ option_map Some (control_of_part y) → IsSome p.control → IsSome (card_control (card_of_part y))
  named_control (TablePart t) e some = control_by_name [] p.control None e some
  named_control (LatchPart l) e some = control_by_name l.path p.control (option_and_then (λ (c : Control). c.signal) l.latch.control) e some

  pub control_there : IsSome p.control → IsSome (option_and_then card_control (card_at (model_at f p.model) p.card))
  control_there some = subst (λ o. IsSome (option_and_then card_control o)) (sym card_is) (named_control x (ap (λ (b : PartBySignals). b.control) (part_at f all n is k p at).2) some)

  pub line_at : (line : ℕ) → option_map card_line (card_at (model_at f p.model) p.card) ≡ Some line → IsLineAt f k line
  line_at line e = record { part = x; there = x_there; line_is = of_card card_line line e ∙ line_of_output x }

  pub control_fault : (kind : FlatKind) (IsLine : ℕ → Type 0) (line : ℕ) (name : List ℕ) (fault : FlatFault) → IsLine line
      → option_and_then card_control (card_at (model_at f p.model) p.card) ≡ Some name
      → IsFaultOf kind (λ l m. (l ≡ line) × (m ≡ name)) fault → IsFaultOf kind (IsAtControlOf f k IsLine) fault
  control_fault kind IsLine line name fault is_line e h = IsFaultOf-weaker kind (λ l m. (l ≡ line) × (m ≡ name)) (IsAtControlOf f k IsLine)
      (λ l m both. record {
        part = x;
        there = x_there;
        line_is = subst IsLine (sym both.0) is_line;
        name_is = sym (ap (option_and_then card_control) card_is) ∙ e ∙ ap Some (sym both.1);
      }) fault h

-- What is so after some lines of a stimulus.
use Rattle.std.proofs.Common.{◌≡◌, ℕ, suc, ◌<◌, ◌+◌, ◌*◌, Bool, true, List, [], ◌∷◌, ◌++◌, length, map, All, refl, sym, ap, ◌∙◌, subst, arith, append_assoc, append-nil}
use Rattle.std.proofs.lemmas.List.Elements.{All-nil, All-push}
use Rattle.std.proofs.Math.Nat.{suc-mul, zero-mul}
use Rattle.std.proofs.lemmas.List.{length-append}
use Rattle.dom_base.specs.Cuts.{IsCut, NumbersFit}
use Rattle.dom_base.specs.Lines.{lines, is_word}
use Rattle.dom_base.proofs.Lists.{map-push}
use Rattle.stim_text.specs.declared.fault.StimKind.{StimKind}
use Rattle.stim_text.specs.CycleLines.{pin_letters}
use Rattle.stim_text.specs.Stimuli.{letters_of, lettered_from, lettered_lines, IsStimulusOf, IsStimFaultAt}
use Rattle.stim_text.proofs.OneAnswer.{none_from_good}
use Rattle.stim_text.specs.LinesRead.{IsPinsOf, IsLineRead, IsLineFault, is_good}
use Rattle.stim_text.specs.Rows.{rows}
use Rattle.stim_text.proofs.Rows.{rows-push}

-- the reader stands at these bytes and has these cycles
pub record Reads (width : ℕ) (text : List ℕ) (number : ℕ) (rest : List ℕ) (cycles : List (List Bool)) : Type 0 where
  pub before : List (ℕ × List ℕ)
  pub fit : NumbersFit number rest
  pub split : lettered_lines text ≡ before ++ lettered_from number (lines rest)
  pub good : All (λ line. is_good width line.1 ≡ true) before
  pub letters_are : map (λ line. line.1) before ≡ map pin_letters cycles
  pub widths : All (λ pins. length pins ≡ width) cycles

pub start : (width : ℕ) (text : List ℕ) → NumbersFit 1 text → Reads width text 1 text []
start width text fit = record {
  before = [];
  fit = fit;
  split = refl;
  good = All-nil (λ (line : ℕ × List ℕ). is_good width line.1 ≡ true);
  letters_are = refl;
  widths = All-nil (λ (pins : List Bool). length pins ≡ width);
}

lettered-none : (number : ℕ) (line : List ℕ) (all : List (List ℕ)) → letters_of line ≡ [] → lettered_from number (line ∷ all) ≡ lettered_from (number + 1) all
lettered-none number line all none = rw none refl

lettered-some : (number : ℕ) (line : List ℕ) (all : List (List ℕ)) → is_word (letters_of line) ≡ true → lettered_from number (line ∷ all) ≡ (number, letters_of line) ∷ lettered_from (number + 1) all
lettered-some number line all some = rw some refl

pushed : (width : ℕ) (text : List ℕ) (number : ℕ) (rest line more : List ℕ) (cycles : List (List Bool)) (pins : List Bool)
    → Reads width text number rest cycles → IsCut rest line more → is_word (letters_of line) ≡ true
    → is_good width (letters_of line) ≡ true → IsPinsOf width (letters_of line) pins → Reads width text (number + 1) more (cycles ++ pins ∷ [])
pushed width text number rest line more cycles pins reads cut some good is =
    let before = reads.before in
    let here : ℕ × List ℕ = (number, letters_of line) in
    let letters = reads.letters_are in
    record {
      before = before ++ here ∷ [];
      fit = omega (arith, reads.fit, cut.shorter);
      split = reads.split ∙ ap (λ l. before ++ lettered_from number l) cut.lines_are ∙ ap (λ l. before ++ l) (lettered-some number line (lines more) some)
          ∙ sym (append_assoc before (here ∷ []) (lettered_from (number + 1) (lines more)));
      good = All-push (λ (l : ℕ × List ℕ). is_good width l.1 ≡ true) before here reads.good good;
      letters_are = map-push (λ (l : ℕ × List ℕ). l.1) before here ∙ ap (λ l. l ++ letters_of line ∷ []) letters
          ∙ ap (λ l. map pin_letters cycles ++ l ∷ []) (sym is.letters_are) ∙ sym (map-push pin_letters cycles pins);
      widths = All-push (λ (p : List Bool). length p ≡ width) cycles pins reads.widths is.width_is;
    }

skipped : (width : ℕ) (text : List ℕ) (number : ℕ) (rest line more : List ℕ) (cycles : List (List Bool))
    → Reads width text number rest cycles → IsCut rest line more → letters_of line ≡ [] → Reads width text (number + 1) more cycles
skipped width text number rest line more cycles reads cut none = record {
  before = reads.before;
  fit = omega (arith, reads.fit, cut.shorter);
  split = reads.split ∙ ap (λ l. reads.before ++ lettered_from number l) cut.lines_are ∙ ap (λ l. reads.before ++ l) (lettered-none number line (lines more) none);
  good = reads.good;
  letters_are = reads.letters_are;
  widths = reads.widths;
}

-- the reader has these bits of so many cycles
pub record ReadsBits (width : ℕ) (text : List ℕ) (number : ℕ) (rest : List ℕ) (count : ℕ) (bits : List Bool) : Type 0 where
  pub reads : Reads width text number rest (rows width count bits)
  pub long : length bits ≡ count * width
  pub few : count < number

pub start_bits : (width : ℕ) (text : List ℕ) (bits : List Bool) → NumbersFit 1 text → bits ≡ [] → ReadsBits width text 1 text 0 bits
start_bits width text bits fit none = record { reads = start width text fit; long = ap length none ∙ sym (zero-mul width); few = omega arith }

-- one line more
pub step : (width : ℕ) (text : List ℕ) (number : ℕ) (rest line more : List ℕ) (count : ℕ) (bits : List Bool) (cycles : ℕ) (after : List Bool)
    → ReadsBits width text number rest count bits → IsCut rest line more → IsLineRead width (letters_of line) bits cycles after
    → ReadsBits width text (number + 1) more (count + cycles) after
step width text number rest line more count bits cycles after reads cut read = by (letters_of line) refl read
  where
    by : (letters : List ℕ) → letters_of line ≡ letters → IsLineRead width letters bits cycles after → ReadsBits width text (number + 1) more (count + cycles) after
    by [] is (none, same) =
        let all : count ≡ count + cycles = omega (arith, none) in
        subst (λ n. ReadsBits width text (number + 1) more n after) all (subst (ReadsBits width text (number + 1) more count) (sym same) (record {
          reads = skipped width text number rest line more (rows width count bits) reads.reads cut is;
          long = reads.long;
          few = omega (arith, reads.few);
        }))
    by (b ∷ bs) is (good, one, pushed_pins) =
        let pins = pushed_pins.0 in
        let are = pushed_pins.1 in
        let pushes = pushed_pins.2 in
        let all : count + 1 ≡ count + cycles = omega (arith, one) in
        let pins_are = subst (λ l. IsPinsOf width l pins) (sym is) are in
        subst (λ n. ReadsBits width text (number + 1) more n after) all (subst (ReadsBits width text (number + 1) more (count + 1)) (sym pushes) (record {
          reads = subst (Reads width text (number + 1) more) (sym (rows-push width count bits pins reads.long pins_are.width_is))
              (pushed width text number rest line more (rows width count bits) pins reads.reads cut (ap is_word is) (ap (is_good width) is ∙ good) pins_are);
          long = length-append bits pins ∙ let n : length bits + length pins ≡ (count + 1) * width = omega (arith, reads.long, pins_are.width_is, suc-mul count width, let s : count + 1 ≡ suc count = omega arith in ap (λ n. n * width) s) in n;
          few = omega (arith, reads.few);
        }))

-- all lines are read
pub accepted : (width : ℕ) (text : List ℕ) (number : ℕ) (rest : List ℕ) (cycles : List (List Bool)) → Reads width text number rest cycles → rest ≡ [] → IsStimulusOf width text cycles
accepted width text number rest cycles reads none = record {
  letters_are = ap (map (λ line. line.1)) (reads.split ∙ ap (λ l. reads.before ++ lettered_from number (lines l)) none ∙ append-nil reads.before) ∙ reads.letters_are;
  widths_are = reads.widths;
}

-- the line has a fault
pub refused : (width : ℕ) (text : List ℕ) (number : ℕ) (rest line more : List ℕ) (cycles : List (List Bool)) (kind : StimKind)
    → Reads width text number rest cycles → IsCut rest line more → IsLineFault width (letters_of line) kind → IsStimFaultAt width text number kind
refused width text number rest line more cycles kind reads cut fault = record {
  before = reads.before;
  letters = letters_of line;
  after = lettered_from (number + 1) (lines more);
  lines_are = reads.split ∙ ap (λ l. reads.before ++ lettered_from number l) cut.lines_are ∙ ap (λ l. reads.before ++ l) (lettered-some number line (lines more) fault.some);
  fault = fault.fault;
  none_before = none_from_good width reads.before reads.good;
}

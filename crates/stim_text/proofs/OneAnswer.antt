-- A text is the stimulus of one list of cycles or is refused for one fault.
use Rattle.std.proofs.Common.{◌≡◌, ℕ, ◌⊎◌, inl, inr, Bool, true, false, not, List, [], ◌∷◌, ◌++◌, length, map, All, slice_index_or, refl, sym, ap, ◌∙◌, subst, arith}
use Rattle.std.proofs.lemmas.Bool.{false≢true, false_from_ne_true}
use Rattle.std.proofs.lemmas.List.Elements.{All-nil, All-cons, All-head, All-tail}
use Rattle.dom_base.specs.Answers.{HasOneAnswer}
use Rattle.stim_text.specs.declared.fault.StimKind.{StimKind}
use Rattle.stim_text.specs.declared.fault.StimKind.TheVariants.{BadLetter, BadLength}
use Rattle.stim_text.specs.CycleLines.{pin_letters}
use Rattle.stim_text.specs.Stimuli.{lettered_lines, are_letters, has_width, has_stim_fault, IsStimulusOf, IsStimFaultAt}
use Rattle.stim_text.specs.LinesRead.{is_good}
use Rattle.dom_base.proofs.Bools.{and_both}
use Rattle.dom_base.proofs.Lists.{head_same, tail_same}
use Rattle.stim_text.proofs.PinLetters.{pins_of, good_of, cycles-injective}

-- a line by its number and its letters
abbrev Line : Type 0
Line = ℕ × List ℕ

abbrev Good : ℕ → Line → Type 0
Good width line = is_good width line.1 ≡ true

-- letters are good or have exactly one fault
pub fault_of : (width : ℕ) (letters : List ℕ) → (is_good width letters ≡ true) ⊎ ((kind : StimKind) × (has_stim_fault width kind letters ≡ true))
fault_of width letters = by (are_letters width letters) refl (has_width width letters) refl
  where
    by : (a : Bool) → are_letters width letters ≡ a → (l : Bool) → has_width width letters ≡ l → (is_good width letters ≡ true) ⊎ ((kind : StimKind) × (has_stim_fault width kind letters ≡ true))
    by true e true f = inl (rw (e, f) refl)
    by true e false f = inr (BadLength, rw (e, f) refl)
    by false e l f = inr (BadLetter, rw e refl)

no_fault : (width : ℕ) (kind : StimKind) (letters : List ℕ) → is_good width letters ≡ true → has_stim_fault width kind letters ≡ true → ⊥
no_fault width BadLetter letters good fault = let p = and_both (are_letters width letters) (has_width width letters) good in false≢true (sym (ap not p.0) ∙ fault)
no_fault width BadLength letters good fault =
    let p = and_both (are_letters width letters) (has_width width letters) good in
    let q = and_both (are_letters width letters) (not (has_width width letters)) fault in
    false≢true (sym (ap not p.1) ∙ q.1)

no_fault-false : (width : ℕ) (kind : StimKind) (letters : List ℕ) → is_good width letters ≡ true → has_stim_fault width kind letters ≡ false
no_fault-false width kind letters good = false_from_ne_true (has_stim_fault width kind letters) (no_fault width kind letters good)

good_from : (width : ℕ) (letters : List ℕ) → has_stim_fault width BadLetter letters ≡ false → has_stim_fault width BadLength letters ≡ false → is_good width letters ≡ true
good_from width letters f g = by (fault_of width letters)
  where
    by : (is_good width letters ≡ true) ⊎ ((kind : StimKind) × (has_stim_fault width kind letters ≡ true)) → is_good width letters ≡ true
    by (inl good) = good
    by (inr (BadLetter, fault)) = absurd (false≢true (sym f ∙ fault))
    by (inr (BadLength, fault)) = absurd (false≢true (sym g ∙ fault))

-- lines without fault are good lines
pub none_from_good : (width : ℕ) (before : List Line) → All (Good width) before → (any : StimKind) → All (λ line. has_stim_fault width any line.1 ≡ false) before
none_from_good width before good any = λ k d lt. no_fault-false width any (slice_index_or before k d).1 (good k d lt)

good_from_none : (width : ℕ) (before : List Line) → ((any : StimKind) → All (λ line. has_stim_fault width any line.1 ≡ false) before) → All (Good width) before
good_from_none width before none = λ k d lt. good_from width (slice_index_or before k d).1 (none BadLetter k d lt) (none BadLength k d lt)

one_kind : (width : ℕ) (kind any : StimKind) (letters : List ℕ) → has_stim_fault width kind letters ≡ true → has_stim_fault width any letters ≡ true → any ≡ kind
one_kind width BadLetter BadLetter letters f g = refl
one_kind width BadLength BadLength letters f g = refl
one_kind width BadLetter BadLength letters f g = let q = and_both (are_letters width letters) (not (has_width width letters)) g in absurd (false≢true (sym (ap not q.0) ∙ f))
one_kind width BadLength BadLetter letters f g = let q = and_both (are_letters width letters) (not (has_width width letters)) f in absurd (false≢true (sym (ap not q.0) ∙ g))

-- the first line with a fault
pub record IsFirst (width : ℕ) (all : List Line) (number : ℕ) (kind : StimKind) : Type 0 where
  pub before : List Line
  pub letters : List ℕ
  pub after : List Line
  pub lines_are : all ≡ before ++ (number, letters) ∷ after
  pub fault : has_stim_fault width kind letters ≡ true
  pub good_before : All (Good width) before

first_of : (width : ℕ) (all : List Line) → All (Good width) all ⊎ ((number : ℕ) × (kind : StimKind) × IsFirst width all number kind)
first_of width [] = inl (All-nil (Good width))
first_of width (line ∷ all) = by (fault_of width line.1) (first_of width all)
  where
    by : (is_good width line.1 ≡ true) ⊎ ((kind : StimKind) × (has_stim_fault width kind line.1 ≡ true)) → All (Good width) all ⊎ ((number : ℕ) × (kind : StimKind) × IsFirst width all number kind)
        → All (Good width) (line ∷ all) ⊎ ((number : ℕ) × (kind : StimKind) × IsFirst width (line ∷ all) number kind)
    by (inr (kind, fault)) later = inr (line.0, kind, record { before = []; letters = line.1; after = all; lines_are = refl; fault = fault; good_before = All-nil (Good width) })
    by (inl good) (inl rest) = inl (All-cons (Good width) line all good rest)
    by (inl good) (inr (number, kind, f)) = inr (
      number,
      kind,
      record {
        before = line ∷ f.before;
        letters = f.letters;
        after = f.after;
        lines_are = ap (λ l. line ∷ l) f.lines_are;
        fault = f.fault;
        good_before = All-cons (Good width) line f.before good f.good_before;
      },
    )

-- two first lines with a fault are one
same_line : (width : ℕ) (before other : List Line) (line any : Line) (after rest : List Line) (kind kind' : StimKind)
    → before ++ line ∷ after ≡ other ++ any ∷ rest → All (Good width) before → All (Good width) other
    → has_stim_fault width kind line.1 ≡ true → has_stim_fault width kind' any.1 ≡ true → any ≡ line
same_line width [] [] line any after rest kind kind' e g h f k = sym (head_same e)
same_line width [] (x ∷ other) line any after rest kind kind' e g h f k =
    absurd (no_fault width kind x.1 (All-head (Good width) x other h) (subst (λ (l : Line). has_stim_fault width kind l.1 ≡ true) (head_same e) f))
same_line width (x ∷ before) [] line any after rest kind kind' e g h f k =
    absurd (no_fault width kind' x.1 (All-head (Good width) x before g) (subst (λ (l : Line). has_stim_fault width kind' l.1 ≡ true) (sym (head_same e)) k))
same_line width (x ∷ before) (y ∷ other) line any after rest kind kind' e g h f k =
    same_line width before other line any after rest kind kind' (tail_same e) (All-tail (Good width) x before g) (All-tail (Good width) y other h) f k

-- cycles of good lines
cycles_of : (width : ℕ) (all : List Line) → All (Good width) all → (cycles : List (List Bool)) × (map (λ (line : Line). line.1) all ≡ map pin_letters cycles) × All (λ pins. length pins ≡ width) cycles
cycles_of width [] good = ([], refl, All-nil (λ (pins : List Bool). length pins ≡ width))
cycles_of width (line ∷ all) good =
    let rest = cycles_of width all (All-tail (Good width) line all good) in
    let here = pins_of width line.1 (All-head (Good width) line all good) in
    let first = here.1.letters_are in
    let others = rest.1 in
    (here.0 ∷ rest.0, cc, All-cons (λ (pins : List Bool). length pins ≡ width) here.0 rest.0 here.1.width_is rest.2)

-- lines that are the letters of cycles are good
all_good : (width : ℕ) (all : List Line) (cycles : List (List Bool)) → map (λ (line : Line). line.1) all ≡ map pin_letters cycles → All (λ pins. length pins ≡ width) cycles → All (Good width) all
all_good width [] cycles e h = All-nil (Good width)
all_good width (line ∷ all) [] e h = absurd (omega (arith, ap length e))
all_good width (line ∷ all) (pins ∷ cycles) e h =
    let here : line.1 ≡ pin_letters pins = head_same e in
    let later : map (λ (l : Line). l.1) all ≡ map pin_letters cycles = tail_same e in
    let long = All-head (λ (p : List Bool). length p ≡ width) pins cycles h in
    All-cons (Good width) line all (ap (is_good width) here ∙ good_of width pins long)
    (all_good width all cycles later (All-tail (λ (p : List Bool). length p ≡ width) pins cycles h))

at_bad : (width : ℕ) (kind : StimKind) (before after : List Line) (line : Line) → All (Good width) (before ++ line ∷ after) → has_stim_fault width kind line.1 ≡ true → ⊥
at_bad width kind [] after line good fault = no_fault width kind line.1 (All-head (Good width) line after good) fault
at_bad width kind (x ∷ before) after line good fault = at_bad width kind before after line (All-tail (Good width) x (before ++ line ∷ after) good) fault

never_both : (width : ℕ) (text : List ℕ) (cycles : List (List Bool)) (number : ℕ) (kind : StimKind) → IsStimulusOf width text cycles → IsStimFaultAt width text number kind → ⊥
never_both width text cycles number kind is f =
    at_bad width kind f.before f.after (number, f.letters)
    (subst (All (Good width)) f.lines_are (all_good width (lettered_lines text) cycles is.letters_are is.widths_are))
    f.fault

-- a text that is the stimulus of one list of cycles, or is refused for one fault
abbrev Once : ℕ → List ℕ → Type 0
Once width text = HasOneAnswer (IsStimulusOf width text) (IsStimFaultAt width text) (IsStimFaultAt width text)

accepted_once : (width : ℕ) (text : List ℕ) → All (Good width) (lettered_lines text) → Once width text
accepted_once width text good =
    let found = cycles_of width (lettered_lines text) good in
    let is : IsStimulusOf width text found.0 = record { letters_are = found.1; widths_are = found.2 } in
    inl (
      found.0,
      record {
        is_answer = is;
        one_answer = λ other so. cycles-injective other found.0 (sym so.letters_are ∙ found.1);
        no_fault = λ number kind f. never_both width text found.0 number kind is f;
      },
    )

two_faults : (width : ℕ) (text : List ℕ) (number other : ℕ) (kind any : StimKind) → IsStimFaultAt width text number kind → IsStimFaultAt width text other any → (other ≡ number) × (any ≡ kind)
two_faults width text number other kind any f g =
    let same = same_line width f.before g.before (number, f.letters) (other, g.letters) f.after g.after kind any (sym f.lines_are ∙ g.lines_are) (good_from_none width f.before f.none_before) (good_from_none width g.before g.none_before) f.fault g.fault in
    (ap (λ (l : Line). l.0) same, one_kind width kind any f.letters f.fault (subst (λ (l : List ℕ). has_stim_fault width any l ≡ true) (ap (λ (l : Line). l.1) same) g.fault))

refused_once : (width : ℕ) (text : List ℕ) (number : ℕ) (kind : StimKind) → IsStimFaultAt width text number kind → Once width text
refused_once width text number kind f = inr (
  number,
  kind,
  record {
    is_refused = f;
    one_line = λ other any g. (two_faults width text number other kind any f g).0;
    one_kind = λ other any g. (two_faults width text number other kind any f g).1;
    no_answer = λ cycles is. never_both width text cycles number kind is f;
  },
)

pub one_answer : (width : ℕ) (text : List ℕ) → Once width text
one_answer width text = by (first_of width (lettered_lines text))
  where
    by : All (Good width) (lettered_lines text) ⊎ ((number : ℕ) × (kind : StimKind) × IsFirst width (lettered_lines text) number kind) → Once width text
    by (inl good) = accepted_once width text good
    by (inr (number, kind, f)) = refused_once width text number kind (record {
      before = f.before;
      letters = f.letters;
      after = f.after;
      lines_are = f.lines_are;
      fault = f.fault;
      none_before = none_from_good width f.before f.good_before;
    })

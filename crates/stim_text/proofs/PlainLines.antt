-- A line that is its letters: neither blank nor comment is in it.
use Rattle.std.proofs.Common.{◌≡◌, ℕ, zero, suc, Bool, true, false, ◌||◌, ◌&&◌, ◌==◌, List, [], ◌∷◌, filter, not, refl, sym, ap, ◌∙◌, subst, arith, eqb-true}
use Rattle.std.proofs.lemmas.Bool.{false≢true}
use Rattle.dom_base.specs.Lines.{is_blank}
use Rattle.std.specs.List.{AllByRecursion}
use Rattle.dom_base.proofs.Bools.{and_both}
use Rattle.dom_base.proofs.Lists.{before_first-none}
use Rattle.stim_text.specs.LinesRead.{ArePinsPushed, IsLineRead, is_good}
use Rattle.stim_text.proofs.PinLetters.{positive}
use Rattle.stim_text.specs.Stimuli.{are_letters, has_width, is_pin_letter, letters_of}

abbrev IsPlain : ℕ → Type 0
IsPlain b = ((b == 35) ≡ false) × (is_blank b ≡ false)

plain_byte : (zero one dash : Bool) (b : ℕ) → (b == 48) ≡ zero → (b == 49) ≡ one → (b == 45) ≡ dash → (none : Bool)
    → (zero || one || (none && dash)) ≡ true → IsPlain b
plain_byte true one dash b is _ _ none h = subst IsPlain (sym (eqb-true b 48 is)) (refl, refl)
plain_byte false true dash b _ is _ none h = subst IsPlain (sym (eqb-true b 49 is)) (refl, refl)
plain_byte false false true b _ _ is none h = subst IsPlain (sym (eqb-true b 45 is)) (refl, refl)
plain_byte false false false b _ _ _ true h = absurd (false≢true h)
plain_byte false false false b _ _ _ false h = absurd (false≢true h)

plain : (width b : ℕ) → is_pin_letter width b ≡ true → IsPlain b
plain width b h = plain_byte (b == 48) (b == 49) (b == 45) b refl refl refl (width == 0) h

no_comment : (width : ℕ) (line : List ℕ) → are_letters width line ≡ true → AllByRecursion (λ b. (b == 35) ≡ false) line
no_comment width [] h = tt
no_comment width (b ∷ bs) h =
    let p = and_both (is_pin_letter width b) (are_letters width bs) h in
    ((plain width b p.0).0, no_comment width bs p.1)

no_blank : (width : ℕ) (line : List ℕ) → are_letters width line ≡ true → filter (λ b. not (is_blank b)) line ≡ line
no_blank width [] h = refl
no_blank width (b ∷ bs) h =
    let p = and_both (is_pin_letter width b) (are_letters width bs) h in
    let blank = (plain width b p.0).1 in
    let rest = no_blank width bs p.1 in
    rw blank (ap (λ letters. b ∷ letters) rest)

plain_letters : (width : ℕ) (line : List ℕ) → are_letters width line ≡ true → letters_of line ≡ line
plain_letters width line h = ap (filter (λ b. not (is_blank b))) (before_first-none (λ b. b == 35) line (no_comment width line h))
    ∙ no_blank width line h

no_letters : (width : ℕ) → has_width width [] ≡ true → ⊥
no_letters zero long = false≢true long
no_letters (suc n) long =
    let flag = positive (suc n) (omega arith) in
    let test : has_width (suc n) [] ≡ (0 == suc n) = rw flag refl in
    let none = eqb-true 0 (suc n) (sym test ∙ long) in
    absurd (omega (arith, none))

read_letters : (width : ℕ) (line : List ℕ) (before after : List Bool) → is_good width line ≡ true → ArePinsPushed width line before after
    → IsLineRead width line before 1 after
read_letters width [] before after good pushed = absurd (no_letters width (and_both (are_letters width []) (has_width width []) good).1)
read_letters width (b ∷ bs) before after good pushed = (good, refl, pushed)

pub read_plain : (width : ℕ) (line : List ℕ) (before after : List Bool) → is_good width line ≡ true → ArePinsPushed width line before after
    → IsLineRead width (letters_of line) before 1 after
read_plain width line before after good pushed =
    subst (λ letters. IsLineRead width letters before 1 after) (sym (plain_letters width line (and_both (are_letters width line) (has_width width line) good).0))
    (read_letters width line before after good pushed)

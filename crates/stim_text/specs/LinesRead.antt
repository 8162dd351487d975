-- What the reader makes of one line.
use Rattle.std.specs.Prelude.{ℕ, ◌≡◌, ◌&&◌, Bool, true, List, [], ◌∷◌, ◌++◌, length}
use Rattle.dom_base.specs.Lines.{is_word}
use Rattle.stim_text.specs.CycleLines.{pin_letters}
use Rattle.stim_text.specs.declared.fault.StimKind.{StimKind}
use Rattle.stim_text.specs.Stimuli.{are_letters, has_width, has_stim_fault}

-- a line without fault
abbrev pub is_good : ℕ → List ℕ → Bool
is_good width letters = are_letters width letters && has_width width letters

-- the bits of letters that are good for this number of pins
pub record IsPinsOf (width : ℕ) (letters : List ℕ) (pins : List Bool) : Type 0 where
  pub letters_are : pin_letters pins ≡ letters
  pub width_is : length pins ≡ width

-- the bits of letters are appended
abbrev pub ArePinsPushed : ℕ → List ℕ → List Bool → List Bool → Type 0
ArePinsPushed width letters before after = (pins : List Bool) × IsPinsOf width letters pins × (after ≡ before ++ pins)

-- a line with these letters was read: where it has letters they are good, it is one cycle, and its bits are appended
abbrev pub IsLineRead : ℕ → List ℕ → List Bool → ℕ → List Bool → Type 0
IsLineRead width [] before cycles after = (cycles ≡ 0) × (after ≡ before)
IsLineRead width (b ∷ bs) before cycles after = (is_good width (b ∷ bs) ≡ true) × (cycles ≡ 1) × ArePinsPushed width (b ∷ bs) before after

-- a line with these letters has letters, and a fault of this kind
pub record IsLineFault (width : ℕ) (letters : List ℕ) (kind : StimKind) : Type 0 where
  pub some : is_word letters ≡ true
  pub fault : has_stim_fault width kind letters ≡ true

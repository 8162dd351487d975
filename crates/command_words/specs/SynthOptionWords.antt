-- The options of synthesis on the command line, and what they give.
use Rattle.std.specs.Prelude.{ℕ, ◌≤◌, ◌≡◌, ◌==◌, Bool, ◌&&◌, true, false, not, nat_lt, List, [], ◌∷◌, ◌++◌, Option, Some, None, codes, if◌then◌else◌}
use Rattle.std.specs.Option.{option_and_then, option_map}
use Rattle.deck_form.specs.declared.options.SynthOptions.{SynthOptions}
use Rattle.deck_form.specs.declared.version.DeckVersion.{DeckVersion}
use Rattle.deck_form.specs.declared.version.DeckVersion.TheVariants.{One as VersionOne, Two as VersionTwo}
use Rattle.domino_cell.specs.declared.style.Style.{Style}
use Rattle.domino_cell.specs.declared.style.Style.TheVariants.{Keeper as WithKeeper, Precharge as WithPrecharge}
use Rattle.command_words.specs.Given.{flag_given, given, with_four}
use Rattle.command_words.specs.NumberWords.{number_from}
use Rattle.command_words.specs.Written.{Written, is_same, values_of}
use Rattle.command_words.specs.declared.command.Method.{Method}
use Rattle.command_words.specs.declared.command.Method.TheVariants.{Compound, Exact, Plain, Skew}

abbrev pub synth_option_names : List (List ℕ)
synth_option_names = codes "--width" ∷ codes "--height" ∷ codes "--phases" ∷ codes "--style" ∷ []

-- a width of 2 to 8 and a height of 2 to 6, 4 where none is given, 1 to 4 clocks, one where none is given, and a style, with keepers where
-- none is given
abbrev pub width_of : List Written → Option ℕ
width_of words = given (number_from 2 8) 4 (values_of (codes "--width") words)

abbrev pub height_of : List Written → Option ℕ
height_of words = given (number_from 2 6) 4 (values_of (codes "--height") words)

abbrev pub phases_of : List Written → Option ℕ
phases_of words = given (number_from 1 4) 1 (values_of (codes "--phases") words)

-- the style that a word names
abbrev pub style_named : List ℕ → Option Style
style_named word =
    if is_same word (codes "keeper") then Some WithKeeper
    else (if is_same word (codes "precharge") then Some WithPrecharge else None)

abbrev pub style_of : List Written → Option Style
style_of words = given style_named WithKeeper (values_of (codes "--style") words)

abbrev pub synth_options_with : (width height phases : ℕ) → Style → SynthOptions
synth_options_with width height phases style = record { bounds = record { w = width; h = height }; phases = phases; style = style }

abbrev pub synth_options : List Written → Option SynthOptions
synth_options words = with_four synth_options_with (width_of words) (height_of words) (phases_of words) (style_of words)

-- the options of a deck that is written: these, and the version of its text
abbrev pub deck_option_names : List (List ℕ)
deck_option_names = synth_option_names ++ codes "--deck" ∷ []

abbrev pub deck_flag_names : List (List ℕ)
deck_flag_names = codes "--exact" ∷ codes "--skew" ∷ codes "--compound" ∷ []

abbrev pub exact_of : List Written → Option Bool
exact_of words = flag_given (codes "--exact") words

abbrev pub skew_of : List Written → Option Bool
skew_of words = flag_given (codes "--skew") words

abbrev pub compound_of : List Written → Option Bool
compound_of words = flag_given (codes "--compound") words

-- version 1 or 2, 1 where none is given
abbrev pub version_numbered : ℕ → DeckVersion
version_numbered number = if number == 2 then VersionTwo else VersionOne

abbrev pub version_of : List Written → Option DeckVersion
version_of words = option_map version_numbered (given (number_from 1 2) 1 (values_of (codes "--deck") words))

-- the style has keepers
abbrev pub has_keepers : Style → Bool
has_keepers WithKeeper = true
has_keepers WithPrecharge = false

-- clocks may overlap where there are several, and cells have keepers
abbrev pub may_overlap : SynthOptions → Bool
may_overlap options = not (nat_lt options.phases 2) && has_keepers options.style

-- exact signs, clocks that overlap and compound cells have no version but version 1, and no two of them are asked for; compound cells
-- have no keepers
abbrev pub method_for : SynthOptions → (exact skew compound : Bool) → DeckVersion → Option Method
method_for options false false false version = Some (Plain version)
method_for options true false false VersionOne = Some Exact
method_for options false true false VersionOne = if may_overlap options then Some Skew else None
method_for options false false true VersionOne = if not (has_keepers options.style) then Some Compound else None
method_for options _ _ _ _ = None

-- the plain method where none is named
abbrev pub method_of : SynthOptions → List Written → Option Method
method_of options words =
    option_and_then (λ exact. option_and_then (λ skew. option_and_then (λ compound. option_and_then (method_for options exact skew compound)
    (version_of words)) (compound_of words)) (skew_of words)) (exact_of words)

-- options within the ranges of their values
pub record AreGoodOptions (options : SynthOptions) : Type 0 where
  pub some_width : 2 ≤ options.bounds.w
  pub few_wide : options.bounds.w ≤ 8
  pub some_height : 2 ≤ options.bounds.h
  pub few_high : options.bounds.h ≤ 6
  pub some_phase : 1 ≤ options.phases
  pub few_phases : options.phases ≤ 4

-- options that suit a method: clocks that overlap are two to four, and the cells have keepers; compound cells have none
abbrev pub SuitsMethod : Method → SynthOptions → Type 0
SuitsMethod (Plain version) options = Unit {0}
SuitsMethod Exact options = Unit {0}
SuitsMethod Skew options = (2 ≤ options.phases) × (options.phases ≤ 4) × (options.style ≡ WithKeeper)
SuitsMethod Compound options = options.style ≡ WithPrecharge

-- The options of the domino deck of a network.
use Rattle.domino_cell.specs.declared.style.Style.{Style}
use Rattle.std.specs.Prelude.{ℕ}

-- trees within this width and height, on so many clocks, in cells of this style
pub record DeckOptions : Type 0 where
  pub width : ℕ
  pub height : ℕ
  pub phases : ℕ
  pub style : Style

pub mod OneAnswer
pub mod PinLetters
pub mod PlainLines
pub mod ReadLines
pub mod Rows

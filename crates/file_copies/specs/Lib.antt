pub mod Copied
pub mod FileLetters
pub mod Pushing

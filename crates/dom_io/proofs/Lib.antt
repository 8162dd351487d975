pub mod AskedLemmas
pub mod PieceLemmas

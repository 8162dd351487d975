pub mod IndexedLists
pub mod ListPools
pub mod Lists
pub mod TablePools

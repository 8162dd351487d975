pub mod NeverRose

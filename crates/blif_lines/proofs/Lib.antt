pub mod ByteTables
pub mod JoinByte
pub mod JoinedLines
pub mod PieceEnds
pub mod Pieces

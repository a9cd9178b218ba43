pub mod PieceByPiece
pub mod Passed

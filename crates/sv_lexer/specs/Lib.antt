pub mod Bytes
pub mod Spans
pub mod Literals
pub mod Tables
pub mod Groups
pub mod Pieces
pub mod Lexing
pub mod Facts

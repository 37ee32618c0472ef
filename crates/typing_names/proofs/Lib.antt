pub mod Painting
pub mod Uses
pub mod Before
pub mod Outwards

pub mod Layout
pub mod Sheets
pub mod Margins
pub mod Pages
pub mod Writing

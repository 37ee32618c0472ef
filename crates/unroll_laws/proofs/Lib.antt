pub mod Longs
pub mod Lists
pub mod Shapes
pub mod Loops
pub mod Counting
pub mod Never

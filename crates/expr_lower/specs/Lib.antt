pub mod Leaves
pub mod Elements
pub mod Numbers
pub mod Lowering
pub mod Specials
pub mod Insides
pub mod Logarithms
pub mod Paths

pub mod Assembling
pub mod Besides
pub mod Inside
pub mod Lowered
pub mod Naming
pub mod Preparing
pub mod Choosing

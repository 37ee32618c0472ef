pub mod Aligned
pub mod Swept
pub mod Places
pub mod PlaneBits
pub mod Results
pub mod Packed
pub mod Inverted
pub mod Compared

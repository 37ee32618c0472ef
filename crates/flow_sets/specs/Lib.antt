pub mod Bits
pub mod Uses
pub mod Ends
pub mod Flows

pub mod Firsts
pub mod Streams
pub mod Members

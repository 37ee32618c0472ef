pub mod Tables
pub mod Covers
pub mod Forms
pub mod Members

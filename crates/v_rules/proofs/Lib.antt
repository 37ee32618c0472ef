pub mod NamesExact
pub mod ModulesExact
pub mod Tabling

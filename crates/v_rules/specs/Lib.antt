pub mod ModuleNames
pub mod Tables
pub mod Items
pub mod Plain

pub mod Giving
pub mod Walking
pub mod Cells
pub mod Naming
pub mod Rooms
pub mod Changing
pub mod Owning

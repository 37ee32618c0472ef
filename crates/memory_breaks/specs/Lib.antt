pub mod Marks
pub mod Names
pub mod Bodies
pub mod Processes
pub mod Memories
pub mod Wide

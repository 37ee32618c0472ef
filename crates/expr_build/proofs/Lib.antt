pub mod Depths
mod Numbers

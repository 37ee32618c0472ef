pub mod Netlists

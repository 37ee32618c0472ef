pub mod Tokens
pub mod source
pub mod Translation
pub mod Headline
pub mod Endings
pub mod Promises

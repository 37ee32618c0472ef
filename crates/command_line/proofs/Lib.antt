pub mod Drafted
pub mod FewFiles

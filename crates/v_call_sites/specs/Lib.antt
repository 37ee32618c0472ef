pub mod Sites
pub mod StmtSites

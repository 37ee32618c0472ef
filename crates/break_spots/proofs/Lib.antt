pub mod InExprs
pub mod StmtLevels
pub mod InStmts
pub mod InDesigns

pub mod Labels
pub mod Walking
pub mod ExprAdds
pub mod StmtAdds
pub mod Links
pub mod Whole
pub mod Numbering

pub mod Statements
pub mod EvalRuns
pub mod EvalForms
pub mod EvalStmts

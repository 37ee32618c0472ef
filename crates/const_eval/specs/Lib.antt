pub mod Numbers
pub mod Values
pub mod EvalRuns
pub mod EvalStmts
pub mod EvalForms

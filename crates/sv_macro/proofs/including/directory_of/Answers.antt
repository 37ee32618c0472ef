use Rattle.std.proofs.Common.{sym, ◌∙◌, arith}
use Rattle.sv_macro.proofs.Directories.{shorter_directory, whole_directory}
use Rattle.sv_macro.proofs.including.directory_of.Goals as goal

pub returns-then-last-eq47 : goal.returns-then-last-eq47
returns-then-last-eq47 c =
    sym (whole_directory c.loop-directory.directory.now (omega arith) c.if-last-eq47.true) ∙ c.loop-directory.invariant

pub loop-directory-preserved : goal.loop-directory-preserved
loop-directory-preserved c =
    shorter_directory c.loop-directory.directory.now (omega arith) c.if-last-eq47.false ∙ c.loop-directory.invariant

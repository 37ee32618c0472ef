use Rattle.std.proofs.Common.{subst}
use Rattle.sv_types.specs.declared.frame.Frame.{Frame}
use Rattle.frame_texts.specs.Frames as means
use Rattle.typing_steps.specs.Steps.{TypesTo}
use Rattle.typing_stmts.specs.Frames.{with_functions}
use Rattle.typing_stmts.proofs.frames.stmt_with.Goals as goal

pub returns-clause-value : goal.returns-clause-value
returns-clause-value c =
    let fs = c.args.known.now.functions in
    subst (λ (f : Frame). TypesTo c.type_stmt.result (means.type_stmt c.args.source.now.tree.now c.args.source.now.names.now (with_functions f fs) c.args.at c.args.s.now) c.type_stmt.new.known.functions) c.new-things.ensures c.type_stmt.ensures.value

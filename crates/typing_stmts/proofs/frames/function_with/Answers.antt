use Rattle.std.proofs.Common.{subst}
use Rattle.sv_types.specs.declared.frame.Frame.{Frame}
use Rattle.frame_texts.specs.Frames as means
use Rattle.typing_steps.specs.Steps.{TypesTo}
use Rattle.typing_stmts.specs.Frames.{with_functions}
use Rattle.typing_stmts.proofs.frames.function_with.Goals as goal

pub returns-clause-value : goal.returns-clause-value
returns-clause-value c =
    let fs = c.args.known.now.functions in
    subst (λ (f : Frame). TypesTo c.type_function.result (means.type_function c.args.source.now.tree.now c.args.source.now.names.now (with_functions f fs) c.args.declaration) c.type_function.new.known.functions) c.new-things.ensures c.type_function.ensures.value

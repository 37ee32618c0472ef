use Rattle.std.proofs.Common.{List, Err, ap, sym, ◌∙◌, subst}
use Rattle.std.specs.Option.{option_copied}
use Rattle.std.proofs.lemmas.Result.{err_from_is_err_and}
use Rattle.sv_types.specs.declared.frame.Frame.{Frame}
use Rattle.sv_types.specs.declared.statement.Function.{Function}
use Rattle.sv_types.specs.declared.expression.Expr as T
use Rattle.frame_texts.specs.Frames as means
use Rattle.routine_fits.specs.Sound.{AllSoundFunctions}
use Rattle.typing_fits.specs.Sound.{Extends}
use Rattle.typing_parts.proofs.Keeping.{extends-same}
use Rattle.typing_stmts.specs.Frames.{with_functions}
use Rattle.typing_stmts.proofs.Framed.{all-kept, all-sound, answered, nothing-answered, same-else, still-around}
use Rattle.typing_stmts.proofs.frames.expr_of.Goals as goal

-- where memory is wanted, the frame is as it was
pub returns-in_err-known-clause-value : goal.returns-in_err-known-clause-value
returns-in_err-known-clause-value c =
    let e = err_from_is_err_and c.from_residual.result c.from_residual.ensures.1 in
    nothing-answered c.args.source.now.tree.now.tokens (means.type_expr c.args.source.now.tree.now c.args.source.now.names.now c.args.frame.now c.args.at c.args.e.now (option_copied c.args.want)) c.known_of.new.functions c.from_residual.result (e.1 ∙ ap Err e.2)

pub returns-in_err-known-clause-functions : goal.returns-in_err-known-clause-functions
returns-in_err-known-clause-functions c = subst AllSoundFunctions (sym c.in_err-known.ensures.left) c.requires.functions

pub returns-in_err-known-clause-keeps : goal.returns-in_err-known-clause-keeps
returns-in_err-known-clause-keeps c =
    subst (λ (fs : List Function). Extends c.args.frame.now.functions fs) (sym c.in_err-known.ensures.left) (extends-same c.args.frame.now.functions)

-- what is typed, and the frame behind it
pub expr_with-typed-requires-clause-sound : goal.expr_with-typed-requires-clause-sound
expr_with-typed-requires-clause-sound c = still-around c.args.source.now.tree.now c.args.frame.now c.known_of.new.functions c.requires.sound

pub returns-clause-value : goal.returns-clause-value
returns-clause-value c =
    let typed = λ (x : Frame). means.type_expr c.args.source.now.tree.now c.args.source.now.names.now x c.args.at c.args.e.now (option_copied c.args.want) in
    let f = c.args.frame.now in
    let gs = c.expr_with-typed.new.known.functions in
    answered f c.put_back.new.frame gs c.put_back.ensures T.Expr c.args.source.now.tree.now.tokens c.in_ok-known.known.functions c.answer.result typed c.in_ok-known.ensures.functions
    (c.answer.ensures (typed (with_functions f c.in_ok-known.known.functions)) gs c.expr_with-typed.ensures.value)

pub returns-clause-functions : goal.returns-clause-functions
returns-clause-functions c = all-sound c.args.frame.now c.put_back.new.frame c.expr_with-typed.new.known.functions c.put_back.ensures c.expr_with-typed.ensures.ready.sound

pub returns-clause-keeps : goal.returns-clause-keeps
returns-clause-keeps c =
    all-kept c.args.frame.now c.put_back.new.frame c.expr_with-typed.new.known.functions c.put_back.ensures c.in_ok-known.known.functions c.in_ok-known.ensures.functions c.expr_with-typed.ensures.keeps

pub returns-clause-same : goal.returns-clause-same
returns-clause-same c = same-else c.args.frame.now c.put_back.new.frame c.expr_with-typed.new.known.functions c.put_back.ensures

use Rattle.std.proofs.Common.{[], cond, Ok, Err, ap, sym, ◌∙◌, subst}
use Rattle.std.specs.Prelude.{Result}
use Rattle.std.proofs.lemmas.Result.{err_from_is_err_and}
use Rattle.expr_type.specs.declared.halt.Halt.{Halt}
use Rattle.expr_type.specs.Answers.{Gives}
use Rattle.expr_type.specs.Functions.{formal_found}
use Rattle.typing_scopes.specs.Ahead.{mapped}
use Rattle.typing_declarations.specs.declared.formal_types.FormalFound.{FormalFound}
use Rattle.typing_declarations.specs.Formals.{formal_of}
use Rattle.typing_declarations.proofs.FormalUnder.{narrow-found}
use Rattle.typing_declarations.proofs.formal_types.narrow_formal.Goals as goal

pub returns-in_err-of : goal.returns-in_err-of
returns-in_err-of c k =
    let f = c.args.typed.0 in
    let names = cond c.args.declares f.names [] in
    let e = err_from_is_err_and c.from_residual.result c.from_residual.ensures.1 in
    subst (λ (r : Result FormalFound Halt). Gives (mapped (formal_of k) r) (formal_found k c.args.way f c.args.at c.args.typed.1 names)) (sym (e.1 ∙ ap Err e.2))
    (narrow-found k c.args.way f c.args.at c.args.typed.1 names (Err c.in_err-of.field-0.0) (c.in_err-of.ensures.value k.source))

pub returns : goal.returns
returns c k =
    let f = c.args.typed.0 in
    narrow-found k c.args.way f c.args.at c.args.typed.1 (cond c.args.declares f.names []) (Ok c.in_ok-of.of) (c.in_ok-of.ensures.value k.source)

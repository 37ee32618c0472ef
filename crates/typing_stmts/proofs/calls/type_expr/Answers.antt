use Rattle.std.proofs.Common.{length, ap, sym, ◌∙◌, subst}
use Rattle.std.specs.Option.{option_copied}
use Rattle.expr_type.specs.Expressions.{typed_expr}
use Rattle.package_scope.specs.declared.table.Table.{Table}
use Rattle.expr_type.specs.Names.{Context}
use Rattle.routine_fits.specs.Sound.{AllSoundFunctions}
use Rattle.typing_names.specs.Texts.{context_of}
use Rattle.typing_steps.specs.Steps.{TypesTo}
use Rattle.typing_walks.specs.Keeps.{Surrounded}
use Rattle.typing_stmts.specs.Around.{around}
use Rattle.typing_stmts.proofs.Surrounding.{around-frame, at-full-depth, knows}
use Rattle.typing_stmts.proofs.calls.type_expr.Goals as goal

pub type_expr-requires-clause-needs : goal.type_expr-requires-clause-needs
type_expr-requires-clause-needs c =
    let tree = c.args.source.now.tree.now in
    let names = c.args.source.now.names.now in
    let f = c.args.frame.frame.now in
    knows _ _ _ _ (context_of c.new-text.result) (around tree names f c.args.at) c.len-depth.result (at-full-depth tree names f c.args.at c.len-depth.result (context_of c.new-text.result) c.new-text.ensures (c.len-depth.ensures ∙ ap (λ (x : Table). length x.declared) c.table.ensures)) (λ n k is. (c.requires.sound, is))
    (λ n s r u p. p.0) (λ n s r u p. p.1.0) (λ n s r u p. p.1.1)

pub type_expr-requires-clause-names : goal.type_expr-requires-clause-names
type_expr-requires-clause-names c =
    subst (λ (z : Context). Surrounded AllSoundFunctions z) (sym c.new-text.ensures) (around-frame c.args.source.now.tree.now c.args.source.now.names.now c.args.frame.frame.now c.args.at c.requires.sound)

pub returns-clause-value : goal.returns-clause-value
returns-clause-value c =
    subst (λ (z : Context). TypesTo c.type_expr.result (typed_expr z c.args.e.now (option_copied c.args.want) c.args.known.now.functions) c.type_expr.new.known.functions) c.new-text.ensures c.type_expr.ensures.value

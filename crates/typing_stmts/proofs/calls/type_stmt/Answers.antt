use Rattle.std.proofs.Common.{length, ap, sym, ◌∙◌, subst}
use Rattle.package_scope.specs.declared.table.Table.{Table}
use Rattle.expr_type.specs.Names.{Context}
use Rattle.expr_type.specs.Statements.{typed_stmt}
use Rattle.routine_fits.specs.Sound.{AllSoundFunctions}
use Rattle.typing_names.specs.Texts as texts
use Rattle.typing_scopes.specs.Scopes.{context_of}
use Rattle.typing_steps.specs.Steps.{TypesTo}
use Rattle.typing_walks.specs.Keeps.{Surrounded}
use Rattle.typing_stmts.specs.Around.{around}
use Rattle.typing_stmts.proofs.Surrounding.{around-frame, at-full-depth, knows}
use Rattle.typing_stmts.proofs.calls.type_stmt.Goals as goal

pub statement-requires-clause-needs : goal.statement-requires-clause-needs
statement-requires-clause-needs c =
    let tree = c.args.source.now.tree.now in
    let names = c.args.source.now.names.now in
    let f = c.args.frame.frame.now in
    let j = context_of texts.context_of c.over-names.result in
    knows _ _ _ _ j (around tree names f c.args.at) c.len-depth.result (at-full-depth tree names f c.args.at c.len-depth.result j (c.over-names.ensures.context ∙ c.new-text.ensures) (c.len-depth.ensures ∙ ap (λ (x : Table). length x.declared) c.table.ensures)) (λ n k is. (c.requires.sound, is))
    (λ n s r u p. p.0) (λ n s r u p. p.1.0) (λ n s r u p. p.1.1)

pub statement-requires-clause-names : goal.statement-requires-clause-names
statement-requires-clause-names c =
    subst (λ (z : Context). Surrounded AllSoundFunctions z) (sym (c.over-names.ensures.context ∙ c.new-text.ensures)) (around-frame c.args.source.now.tree.now c.args.source.now.names.now c.args.frame.frame.now c.args.at c.requires.sound)

pub returns-clause-value : goal.returns-clause-value
returns-clause-value c =
    subst (λ (z : Context). TypesTo c.statement.result (typed_stmt z c.args.s.now c.args.known.now.functions) c.statement.new.known.functions) (c.over-names.ensures.context ∙ c.new-text.ensures) c.statement.ensures.value

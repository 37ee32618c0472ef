use Rattle.std.proofs.Common.{◌≡◌, ◌++◌, [], None, sym, ap, ◌∙◌}
use Rattle.built_forms.specs.declared.forms.Stmt.TheVariants as T
use Rattle.sv2v_top.specs.source.Statements.{Parts, parts}
use Rattle.sv2v_top.proofs.Names.{append-nil}
use Rattle.sv2v_top.proofs.Levels.{alone-parts}
use Rattle.sv2v_top.proofs.Checks.{in-none}
use Rattle.sv2v_top.proofs.elab_build.rules.+always.Goals as goal

pub add_always-returns-in-None : goal.add_always-returns-in-None
add_always-returns-in-None t c =
    let is : c.args.stmt.now ≡ T.If c.in-If.on c.in-If.body None = c.in-If.is ∙ ap (T.If c.in-If.on c.in-If.body) c.in-None.is in
    let nothing : (parts c.args.stmt.now).always ≡ [] = ap (λ s. (parts s).always) is ∙ ap (λ (p : Parts). p.always) (alone-parts c.in-If.on c.in-If.body) ∙ in-none (parts c.in-If.body).always in
    sym (ap (λ ws. c.args.to.now ++ ws) nothing ∙ append-nil c.args.to.now)

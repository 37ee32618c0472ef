use Rattle.std.proofs.Common.{ap, ◌∙◌, subst}
use Rattle.b4_core.specs.Vectors.{ext}
use Rattle.sv_types.specs.Functions.{parameter}
use Rattle.sv_types.specs.Meanings.{wide}
use Rattle.sv_types.specs.Expressions.{meaning}
use Rattle.eval_parts.specs.Steps.{is_held}
use Rattle.eval_stmts.specs.Environments.{standing, updates, Written}
use Rattle.eval_stmts.specs.Parts.{Adds}
use Rattle.eval_runs.proofs.Handing.{copies}
use Rattle.eval_runs.proofs.outputs.copy_out.Goals as goal

pub returns : goal.returns
returns g c =
    let m = meaning c.args.e.now in
    let v = c.args.last.now in
    copies c.args.scope (parameter c.args.formal.now) m v c.in_ok-given.given c.collect_in.new.to.items c.args.env.now c.collect_in.new.env c.write_all.new.env
    (c.in_ok-given.ensures ∙ ap (λ w. ext w c.is_signed.result v) c.own_width.ensures ∙ ap (λ b. ext (wide m) b v) c.is_signed.ensures) c.in_ok-collect_in.ensures.same
    (subst (λ us. Adds (m.puts (standing c.args.scope c.args.env.now) c.in_ok-given.given) (is_held c.args.env.now.signals.items) us c.collect_in.new.to.items) c.new-updates.ensures.items c.in_ok-collect_in.ensures.gives.0) c.in_ok-collect_in.ensures.gives.1
    (subst (λ us. Written c.collect_in.new.env c.write_all.new.env (updates us)) c.deref.ensures.value c.in_ok-write_all.ensures)

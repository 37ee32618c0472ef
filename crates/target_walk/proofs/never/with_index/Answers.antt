use Rattle.std.proofs.Common.{refl, sym, subst, IfOk}
use Rattle.v_meaning.specs.Values.{meaning}
use Rattle.target_walk.specs.declared.given.Given.{Given}
use Rattle.target_walk.specs.Naming.{NamesAlso}
use Rattle.target_walk.proofs.Mentions.{besides-names}
use Rattle.target_walk.proofs.never.with_index.Goals as goal

pub returns-in-Lowered : goal.returns-in-Lowered
returns-in-Lowered c =
    subst (λ (g : Given). IfOk c.besides.result (λ m. NamesAlso (meaning c.args.guard) g (meaning m))) (sym c.in-Lowered.is)
    (besides-names (meaning c.args.guard) _ (meaning c.in-Lowered.index.expr) c.besides.result (λ sc. refl) c.besides.ensures)

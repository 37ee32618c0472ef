use Rattle.std.proofs.Common.{◌∷◌, []}
use Rattle.eval_forms.specs.Callees.{formals_in}
use Rattle.expr_flows.specs.Known.{sight}
use Rattle.stmt_flows.proofs.Scoping as S
use Rattle.design_breaks.specs.Unrolling.{start_of}
use Rattle.loop_laws.specs.Walks.{see}
use Rattle.loop_rules.proofs.Seeing as K
use Rattle.loop_rules.proofs.Unrolling.{gives}
use Rattle.loop_rules.proofs.walks.see_start.Goals as goal

pub see_one-requires-clause-fits : goal.see_one-requires-clause-fits
see_one-requires-clause-fits c = S.start-fits c.args.l.now c.in-Some.e (formals_in c.args.known.functions.now) c.in-Some.is c.requires.fits

pub see_one-requires-clause-full : goal.see_one-requires-clause-full
see_one-requires-clause-full c = S.start-full c.args.l.now c.in-Some.e (formals_in c.args.known.functions.now) c.in-Some.is c.requires.full

pub returns-in-None : goal.returns-in-None
returns-in-None c = K.starts-none c.args.l.now (sight c.args.known) c.args.so_far c.in-None.is

pub returns-in-Some : goal.returns-in-Some
returns-in-Some c =
    let k = sight c.args.known in
    let l = c.args.l.now in
    gives c.see_one.result (see (c.in-Some.e ∷ []) k c.args.so_far) (see (start_of l) k c.args.so_far) (K.starts-some l c.in-Some.e k c.args.so_far c.in-Some.is) c.see_one.ensures

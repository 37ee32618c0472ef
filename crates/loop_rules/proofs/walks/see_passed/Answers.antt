use Rattle.std.proofs.Common.{◌≡◌, map, min, length, take, arith, ap, sym, ◌∙◌, subst}
use Rattle.std.proofs.lemmas.List.{length-map}
use Rattle.sv_types.specs.Functions.{parameter}
use Rattle.eval_forms.specs.Callees.{formals_in}
use Rattle.eval_parts.specs.Limits.{AllFit}
use Rattle.expr_flows.specs.Known.{sight}
use Rattle.design_breaks.specs.Actions.{passed_to}
use Rattle.loop_laws.specs.Walks.{see}
use Rattle.loop_rules.proofs.Seeing as K
use Rattle.loop_rules.proofs.Unrolling.{gives}
use Rattle.loop_rules.proofs.walks.see_passed.Goals as goal

pub see_all-requires-clause-fits : goal.see_all-requires-clause-fits
see_all-requires-clause-fits c =
    let fs = formals_in c.args.known.functions.now in
    let ps = map parameter c.args.formals.now in
    let es = c.args.actuals.now in
    let count : c.min-count.result ≡ min (length ps) (length es) = omega (arith, c.min-count.ensures, length-map c.args.formals.now parameter) in
    subst (λ n. AllFit (take n es) fs) (sym count) (K.passed-fit ps es fs c.requires.fits)

pub see_all-requires-clause-full : goal.see_all-requires-clause-full
see_all-requires-clause-full c = K.front-full (formals_in c.args.known.functions.now) c.min-count.result c.args.actuals.now c.requires.full

pub returns : goal.returns
returns c =
    let k = sight c.args.known in
    let u = c.args.so_far in
    let ps = map parameter c.args.formals.now in
    let es = c.args.actuals.now in
    let count : c.min-count.result ≡ min (length ps) (length es) = omega (arith, c.min-count.ensures, length-map c.args.formals.now parameter) in
    gives c.see_all.result (see (take c.min-count.result es) k u) (see (passed_to ps es) k u) (ap (λ m. see (take m es) k u) count ∙ ap (λ xs. see xs k u) (K.passed-are ps es)) c.see_all.ensures

use Rattle.std.proofs.Common.{◌≡◌, true, false, List, map, Option, None, sym, ap, subst, ◌∙◌, arith}
use Rattle.std.specs.Prelude.{MatchOption}
use Rattle.sv_core.specs.declared.design.Signal.{Signal}
use Rattle.sv2v_top.specs.source.Names.{declared, signal_names, first_undeclared}
use Rattle.sv2v_top.specs.source.Lookup.{Numbers}
use Rattle.sv2v_top.specs.source.Rules.{input_paths, signal_of, ranges_hold, elaborates}
use Rattle.sv2v_top.specs.source.Answers.{UndeclaredGives}
use Rattle.sv2v_top.proofs.Checks.{inputs-named}
use Rattle.sv2v_top.proofs.Built.{elaborated-few}
use Rattle.sv2v_top.proofs.elab_build.elaborate_module.Goals as goal

pub module_fits-requires-clause-inputs : goal.module_fits-requires-clause-inputs
module_fits-requires-clause-inputs c =
    let source = c.args.source.now in
    let held = subst (λ (r : Option (List Signal)). MatchOption r (ranges_hold (declared source) ≡ false) (λ signals. (ranges_hold (declared source) ≡ true) × (signals ≡ map signal_of (declared source)))) c.in-Some.is c.in_ok-signals.ensures in
    subst (λ ns. Numbers c.in_ok-inputs.inputs ns) (ap input_paths (c.as_slice.ensures ∙ held.1) ∙ inputs-named (declared source)) c.in_ok-inputs.ensures

pub module_is_built-requires-clause-inputs : goal.module_is_built-requires-clause-inputs
module_is_built-requires-clause-inputs c =
    let source = c.args.source.now in
    let held = subst (λ (r : Option (List Signal)). MatchOption r (ranges_hold (declared source) ≡ false) (λ signals. (ranges_hold (declared source) ≡ true) × (signals ≡ map signal_of (declared source)))) c.in-Some.is c.in_ok-signals.ensures in
    subst (λ ns. Numbers c.in_ok-inputs.inputs ns) (ap input_paths (c.as_slice.ensures ∙ held.1) ∙ inputs-named (declared source)) c.in_ok-inputs.ensures

pub module_is_built-requires-clause-few : goal.module_is_built-requires-clause-few
module_is_built-requires-clause-few c =
    let source = c.args.source.now in
    let fits : elaborates source ≡ true = sym c.in_ok-module_fits.ensures ∙ c.if-not-branch.false in
    let few = elaborated-few source fits in
    let named : (first_undeclared source ≡ None) × Numbers c.in-Ok.names (signal_names source) = subst (UndeclaredGives source) c.in-Ok.is c.in_ok-names.ensures in
    let count = named.1.count in
    omega arith

pub processes-requires : goal.processes-requires
processes-requires c =
    let source = c.args.source.now in
    let fits : elaborates source ≡ true = sym c.in_ok-module_fits.ensures ∙ c.if-not-branch.false in
    let few = elaborated-few source fits in
    let named : (first_undeclared source ≡ None) × Numbers c.in-Ok.names (signal_names source) = subst (UndeclaredGives source) c.in-Ok.is c.in_ok-names.ensures in
    let count = named.1.count in
    omega arith

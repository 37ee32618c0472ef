use Rattle.std.proofs.Common.{◌≤◌, map, refl, sym, subst}
use Rattle.v_eval.specs.Limits.{limits_of_sel, most_of_sels}
use Rattle.v_eval.specs.Paths.{named_or_not}
use Rattle.v_eval.specs.Scopes.{scope_of}
use Rattle.v_constants.proofs.Prefixes.{leading-narrow}
use Rattle.v_writes.proofs.Uses.{use-found, nothing-held}
use Rattle.v_writes.proofs.targets.name_writes.Goals as goal

pub path-requires-clause-narrow : goal.path-requires-clause-narrow
path-requires-clause-narrow g c =
    let sc = scope_of c.args.scope in
    subst (λ xs. most_of_sels (map limits_of_sel xs) sc ≤ 128) (sym c.constant_prefix-known.ensures) (leading-narrow sc sc c.args.sels.now 128 c.requires.narrow)

pub returns : goal.returns
returns g c =
    use-found (record { number = c.number_of.result; low = c.in_ok-path.path.window.low; high = c.in_ok-path.path.window.high }) (named_or_not c.args.named) c.args.sels.now c.constant_prefix-known.result.now c.in_ok-path.path _
    (scope_of c.args.scope) c.constant_prefix-known.ensures nothing-held c.number_of.ensures refl refl c.in_ok-path.ensures.path

use Rattle.std.proofs.Common.{rules, ◌≡◌, take, map, length, ap, sym, ◌∙◌, subst}
use Rattle.v_meaning.specs.Runs.{assign_now, cleared}
use Rattle.v_eval.specs.Names.{local_named}
use Rattle.v_run.specs.Standing.{Stands}
use Rattle.v_exec.proofs.Running.{own-names, own-long}
use Rattle.v_exec.proofs.statements.entered.Goals as goal

pub slice_bounds-clears-end : goal.slice_bounds-clears-end
slice_bounds-clears-end c =
    let same : c.as_slice.result.now ≡ c.in_ok-all.all = search rules in
    let ls = c.args.locals.now in
    own-long c.in_ok-all.all (map local_named c.args.scope.locals.now) c.args.scope.next ls c.in_ok-all.ensures ∙ ap (λ xs. length (take (length ls) xs)) (sym same)

pub returns : goal.returns
returns c =
    let same : c.as_slice.result.now ≡ c.in_ok-all.all = search rules in
    let ls = c.args.locals.now in
    record {
      names = c.in_ok-all.ensures;
      stands = λ v r st.
          subst (λ x. Stands v (assign_now x r) c.assign.new.state)
          (c.in_ok-own.ensures.changes ∙ ap (λ xs. cleared (map local_named (take (length ls) xs))) same ∙ ap cleared (own-names c.in_ok-all.all (map local_named c.args.scope.locals.now) c.args.scope.next ls c.in_ok-all.ensures))
          (c.in_ok-assign.ensures v r st);
    }

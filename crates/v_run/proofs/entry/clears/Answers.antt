use Rattle.std.proofs.Common.{◌≡◌, ◌+◌, [], drop, map, arith, ap, sym, ◌∙◌, subst}
use Rattle.std.proofs.Math.ListN.{drop_of_length-le}
use Rattle.row_machine.specs.Steps.{then_changes}
use Rattle.v_meaning.specs.Runs.{cleared}
use Rattle.v_eval.specs.Names.{local_named}
use Rattle.v_eval.proofs.Loops.{at-front}
use Rattle.v_run.specs.Changes.{changes_of}
use Rattle.v_run.proofs.Clearing.{clear-next}
use Rattle.v_run.proofs.Targeted.{near-next}
use Rattle.v_run.proofs.entry.clears.Goals as goal

pub loop-local-preserved : goal.loop-local-preserved
loop-local-preserved c =
    let ls = c.args.locals.now in
    let i = c.loop-local.local-index in
    let x = c.local-item.result in
    let all = cleared (map local_named ls) in
    let front = at-front ls i x (omega arith) c.local-item.is in
    let before = subst (λ xs. then_changes (changes_of c.loop-local.pieces) (cleared (map local_named xs)) ≡ all) front c.loop-local.invariant.changes in
    record {
      changes = clear-next c.loop-local.pieces c.push.new.self c.in_ok-clear.field-0 (local_named x) (map local_named (drop (i + 1) ls)) all c.in_ok-push.ensures.ok c.in_ok-clear.ensures.change before;
      near = near-next c.loop-local.pieces c.push.new.self c.in_ok-clear.field-0 c.in_ok-push.ensures.ok c.loop-local.invariant.near c.in_ok-clear.ensures.near;
    }

pub returns-clause-changes : goal.returns-clause-changes
returns-clause-changes c =
    let ls = c.args.locals.now in
    let none : drop c.loop-local.local-index ls ≡ [] = drop_of_length-le ls (omega arith) in
    ap (λ xs. then_changes (changes_of c.loop-local.pieces) (cleared (map local_named xs))) (sym none) ∙ c.loop-local.invariant.changes

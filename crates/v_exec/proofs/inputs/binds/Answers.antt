use Rattle.std.proofs.Common.{rules, ◌≡◌, ◌+◌, ◌<◌, ◌∷◌, min, drop, length, map, arith, subst}
use Rattle.std.proofs.lemmas.List.{length-map, length-drop}
use Rattle.row_machine.specs.Steps.{then_changes}
use Rattle.v_meaning.specs.Functions.{bound}
use Rattle.v_eval.specs.Names.{local_named}
use Rattle.v_eval.proofs.Loops.{at-front}
use Rattle.v_run.specs.Changes.{changes_of}
use Rattle.v_run.proofs.Targeted.{near-next}
use Rattle.v_exec.proofs.Binding.{bind-next, bind-end}
use Rattle.v_exec.proofs.inputs.binds.Goals as goal

pub loop-i-preserved : goal.loop-i-preserved
loop-i-preserved c =
    let ns = c.args.inputs.now in
    let args = c.args.args.now in
    let i = c.loop-i.i in
    let n = c.index-inputs-i.result in
    let a = c.index-args-i.result in
    let there : i < length ns = search rules in
    let given : i < length args = search rules in
    let all = bound (map local_named ns) args in
    let first = at-front ns i n there c.index-inputs-i.is in
    let second = at-front args i a given c.index-args-i.is in
    let made = c.loop-i.pieces in
    let before = subst (λ xs. then_changes (changes_of made) (bound (map local_named xs) (drop i args)) ≡ all) first c.loop-i.invariant.changes in
    record {
      changes = bind-next made c.push.new.self c.in_ok-bind.field-0 (local_named n) (map local_named (drop (i + 1) ns)) a (drop (i + 1) args) all c.in_ok-push.ensures.ok c.in_ok-bind.ensures.change
          (subst (λ xs. then_changes (changes_of made) (bound (map local_named (n ∷ drop (i + 1) ns)) xs) ≡ all) second before);
      near = near-next made c.push.new.self c.in_ok-bind.field-0 c.in_ok-push.ensures.ok c.loop-i.invariant.near c.in_ok-bind.ensures.near;
    }

pub returns-clause-changes : goal.returns-clause-changes
returns-clause-changes c =
    let ns = c.args.inputs.now in
    let args = c.args.args.now in
    let i = c.loop-i.i in
    let m : c.min-i-end.result ≡ min (length ns) (length args) = search rules in
    let f = length-map (drop i ns) local_named in
    bind-end (map local_named (drop i ns)) (drop i args) c.loop-i.pieces (bound (map local_named ns) args)
    (let e : min (length (map local_named (drop i ns))) (length (drop i args)) ≡ 0 = omega (arith, f, m, length-drop i ns, length-drop i args, c.loop-i-test.false) in e) c.loop-i.invariant.changes

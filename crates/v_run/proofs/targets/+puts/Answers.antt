use Rattle.std.proofs.Common.{rules, ◌≡◌, ◌+◌, ◌-◌, ◌<◌, ◌≤◌, refl, [], drop, map, length, arith, ap, sym, ◌∙◌, subst}
use Rattle.std.proofs.lemmas.List.{take_all, length-drop}
use Rattle.std.proofs.Math.ListN.{drop_of_length-le}
use Rattle.row_machine.specs.Steps.{then_changes}
use Rattle.v_tree.specs.declared.statements.VLval.TheVariants as L
use Rattle.v_meaning.specs.Statements.{target, parts_width, puts_parts}
use Rattle.eval_store.proofs.Storing.{on-ok}
use Rattle.v_eval.specs.Holding.{holds}
use Rattle.v_eval.specs.Scopes.{scope_of}
use Rattle.v_eval.proofs.Loops.{at-front}
use Rattle.v_run.specs.Changes.{changes_of}
use Rattle.v_run.specs.Limits.{target_most, most_of_parts}
use Rattle.v_run.specs.declared.pieces.Piece.{Piece}
use Rattle.v_run.proofs.Targeted as T
use Rattle.v_run.proofs.targets.+puts.Goals as goal

pub put-returns-in_ok-from_slice-in-Name-clause-writes : goal.put-returns-in_ok-from_slice-in-Name-clause-writes
put-returns-in_ok-from_slice-in-Name-clause-writes g t c =
    let sels : c.as_slice.result.now ≡ c.in-Name.sels = search rules in
    let same : c.in_ok-from_slice-in-Name.field-0 ≡ c.args.bits.now = search rules in
    let p : Piece = record { number = c.number_of.result; window = c.in_ok-path-in-Name.path.window; bits = c.in_ok-from_slice-in-Name.field-0 } in
    on-ok
    (λ more. T.put-name c.args.to.now c.push.new.self p c.args.lval.now c.in-Name.name c.as_slice.result.now c.find-named.result c.in_ok-path-in-Name.path c.args.around.scope (holds c.args.around.held) c.args.bits.now
    (c.in-Name.is ∙ ap (L.Name c.in-Name.name) (sym sels)) more c.number_of.ensures refl same c.find-named.ensures c.in_ok-path-in-Name.ensures.path)
    c.push.result c.push.ensures.ok

pub put-returns-in_ok-from_slice-in-Name-clause-near : goal.put-returns-in_ok-from_slice-in-Name-clause-near
put-returns-in_ok-from_slice-in-Name-clause-near g t c =
    let p : Piece = record { number = c.number_of.result; window = c.in_ok-path-in-Name.path.window; bits = c.in_ok-from_slice-in-Name.field-0 } in
    on-ok (λ more. T.near-next c.args.to.now c.push.new.self p more c.requires.near c.in_ok-path-in-Name.ensures.short.near) c.push.result c.push.ensures.ok

pub put-returns-in-Concat-clause-writes : goal.put-returns-in-Concat-clause-writes
put-returns-in-Concat-clause-writes g t c =
    let parts : c.as_slice-in-Concat.result.now ≡ c.in-Concat.parts = search rules in
    on-ok
    (T.put-concat c.args.to.now c.put_parts.new.to c.args.lval.now c.as_slice-in-Concat.result.now (scope_of c.args.around.scope) (holds c.args.around.held) c.args.bits.now (c.in-Concat.is ∙ ap L.Concat (sym parts)))
    c.put_parts.result c.put_parts.ensures.writes

pub put_parts-loop-i-preserved : goal.put_parts-loop-i-preserved
put_parts-loop-i-preserved g t c =
    let parts = c.args.parts.now in
    let i = c.loop-i.i in
    let x = c.index-parts-i.result in
    let sc = scope_of c.args.around.scope in
    let v = holds c.args.around.held in
    let all = then_changes (changes_of c.args.to.now) (puts_parts (map target parts) sc v c.args.bits.now) in
    let inside : i < length parts = search rules in
    let front = at-front parts i x inside c.index-parts-i.is in
    let wide : c.in_ok-low.low ≡ parts_width (map target (drop (i + 1) parts)) sc =
    c.in_ok-low.ensures ∙ ap (λ xs. parts_width (map target xs) sc) (take_all (length parts - (i + 1)) (drop (i + 1) parts) (omega (arith, length-drop (i + 1) parts))) in
    let before = subst (λ xs. then_changes (changes_of c.loop-i.to) (puts_parts (map target xs) sc v c.loop-i.rest) ≡ all) front c.loop-i.invariant.writes in
    let narrow = subst (λ xs. most_of_parts (map target_most xs) sc ≤ 128) front c.loop-i.invariant.narrow in
    record {
      writes = T.parts-next (target x) (map target (drop (i + 1) parts)) sc v c.in_ok-low.low c.loop-i.to c.put.new.to c.loop-i.rest c.in_ok-own.own c.in_ok-rest-2.rest all wide c.in_ok-own.ensures c.in_ok-rest-2.ensures c.in_ok-put.ensures.writes
          before;
      near = c.in_ok-put.ensures.near;
      narrow = omega (arith, narrow);
    }

pub put_parts-returns-clause-writes : goal.put_parts-returns-clause-writes
put_parts-returns-clause-writes g t c =
    let sc = scope_of c.args.around.scope in
    let v = holds c.args.around.held in
    let past : length c.args.parts.now ≤ c.loop-i.i = search rules in
    let none : drop c.loop-i.i c.args.parts.now ≡ [] = drop_of_length-le c.args.parts.now past in
    ap (λ xs. then_changes (changes_of c.loop-i.to) (puts_parts (map target xs) sc v c.loop-i.rest)) (sym none) ∙ c.loop-i.invariant.writes

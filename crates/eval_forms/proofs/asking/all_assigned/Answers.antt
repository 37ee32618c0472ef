use Rattle.std.proofs.Common.{◌∷◌, [], max, map, drop, ap, ◌∙◌, arith}
use Rattle.std.proofs.lemmas.List.{map-append}
use Rattle.sv_types.specs.Layouts.{layout, width_of}
use Rattle.sv_types.specs.Meanings.{wide}
use Rattle.sv_types.specs.Expressions.{meaning}
use Rattle.eval_parts.specs.Targets.{marks_of}
use Rattle.eval_forms.specs.Asked.{asked, bits_asked}
use Rattle.eval_forms.proofs.Narrowness.{narrow-at}
use Rattle.eval_forms.proofs.Turns.{assigned-ends, assigned-all, assigned-next}
use Rattle.eval_forms.proofs.asking.all_assigned.Goals as goal

pub returns-in_default : goal.returns-in_default
returns-in_default c = assigned-ends (marks_of c.args.places.now) c.loop-i.i (drop c.loop-i.i c.args.es.now) _ _ c.in_default.ensures c.loop-i.invariant.made

pub loop-i-preserved : goal.loop-i-preserved
loop-i-preserved c =
    let e = c.index-es-i.result in
    let es = c.args.es.now in
    let t = c.in-Some.t.now in
    let l = c.loop-i in
    record {
      narrow = (narrow-at (marks_of c.args.places.now) l.i es e (layout t).two_state (omega arith) c.index-es-i.is c.in-Some.ensures.0 l.invariant.narrow).1;
      made = assigned-next (marks_of c.args.places.now) l.i es e (layout t).two_state (asked c.bits.result) (map asked l.all.items) _ _ (omega arith) c.index-es-i.is c.in-Some.ensures.0
          (
          c.bits.ensures ∙ ap (λ n. bits_asked e n c.own_sign.result) (c.max.ensures ∙ ap (λ n. max n c.own_width.result) c.width.ensures.bits ∙ ap (λ n. max (width_of t) n) c.own_width.ensures)
          ∙ ap (λ b. bits_asked e (max (width_of t) (wide (meaning e))) b) c.own_sign.ensures
          )
          (ap (map asked) c.in_ok-push.ensures.items ∙ map-append asked l.all.items (c.bits.result ∷ []))
          l.invariant.made;
    }

pub returns : goal.returns
returns c = assigned-all (drop c.loop-i.i (marks_of c.args.places.now)) c.loop-i.i c.args.es.now _ _ (omega arith) c.loop-i.invariant.made

pub own_width-requires : goal.own_width-requires
own_width-requires c =
    (narrow-at (marks_of c.args.places.now) c.loop-i.i c.args.es.now c.index-es-i.result (layout c.in-Some.t.now).two_state (omega arith) c.index-es-i.is c.in-Some.ensures.0 c.loop-i.invariant.narrow).0

use Rattle.std.proofs.Common.{ℕ, Bool, List, ◌∷◌, ◌++◌, ◌+◌, [], drop, length, ap, ◌∙◌, arith, sym, subst}
use Rattle.sv_types.specs.Layouts.{layout, stored}
use Rattle.sv_types.specs.Expressions.{meaning}
use Rattle.eval_parts.specs.Targets.{marks_of}
use Rattle.eval_forms.specs.Assigned.{GivenBy, IsGivenFrom}
use Rattle.eval_forms.proofs.Placing.{here-fits, place-there, place-given, place-next, turn-ends, turn-all, turn-next}
use Rattle.eval_forms.proofs.assigned.assigned_bits.Goals as goal

pub returns-in_default : goal.returns-in_default
returns-in_default c = turn-ends (marks_of c.args.places.now) c.args.es.now c.args.values.now c.loop-i.i c.loop-i.all.items c.in_default.ensures c.loop-i.invariant.turn

pub returns : goal.returns
returns c = turn-all (marks_of c.args.places.now) c.args.es.now c.args.values.now c.loop-i.i c.loop-i.all.items (omega arith) c.loop-i.invariant.turn

pub bounds-values-i : goal.bounds-values-i
bounds-values-i c =
    let ps = marks_of c.args.places.now in
    let es = c.args.es.now in
    let vs = c.args.values.now in
    let i = c.loop-i.i in
    let e = c.index-es-i.result in
    let p = (layout c.in-Some.t.now).two_state in
    let here = here-fits ps es vs i e p (omega arith) c.index-es-i.is c.in-Some.ensures.0 c.loop-i.invariant.fit in
    place-there p (drop (i + 1) ps) e (drop (i + 1) es) vs i here

pub given_bits-requires : goal.given_bits-requires
given_bits-requires c =
    let ps = marks_of c.args.places.now in
    let es = c.args.es.now in
    let vs = c.args.values.now in
    let i = c.loop-i.i in
    let e = c.index-es-i.result in
    let p = (layout c.in-Some.t.now).two_state in
    let v = c.index-values-i.result in
    let here = here-fits ps es vs i e p (omega arith) c.index-es-i.is c.in-Some.ensures.0 c.loop-i.invariant.fit in
    subst (λ n. IsGivenFrom (meaning e) n v) (sym c.width.ensures.bits) (place-given p (drop (i + 1) ps) e (drop (i + 1) es) vs i v here c.index-values-i.is)

pub loop-i-preserved : goal.loop-i-preserved
loop-i-preserved c =
    let ps = marks_of c.args.places.now in
    let es = c.args.es.now in
    let vs = c.args.values.now in
    let i = c.loop-i.i in
    let e = c.index-es-i.result in
    let p = (layout c.in-Some.t.now).two_state in
    let v = c.index-values-i.result in
    let g = c.in_ok-given.given in
    let here = here-fits ps es vs i e p (omega arith) c.index-es-i.is c.in-Some.ensures.0 c.loop-i.invariant.fit in
    record {
      fit = place-next p (drop (i + 1) ps) e (drop (i + 1) es) vs i v here c.index-values-i.is;
      turn = turn-next ps es vs i c.loop-i.all.items _ e p v g (omega arith) c.index-es-i.is c.in-Some.ensures.0 (place-there p (drop (i + 1) ps) e (drop (i + 1) es) vs i here) c.index-values-i.is
          (subst (λ n. GivenBy (meaning e) n v g) c.width.ensures.bits c.in_ok-given.ensures) (c.in_ok-push.ensures.items ∙ ap (λ b. c.loop-i.all.items ++ b ∷ []) c.in_ok-store.ensures) c.loop-i.invariant.turn;
    }

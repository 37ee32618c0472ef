use Rattle.std.proofs.Common.{◌≡◌, ◌+◌, ◌&&◌, map, drop, arith, ap, sym, ◌∙◌, subst}
use Rattle.std.proofs.Math.Bool.{and-true}
use Rattle.std.proofs.Math.ListN.{drop_of_length-le}
use Rattle.std.proofs.lemmas.Bool.{and_parts}
use Rattle.sv_types.specs.Meanings.{wide}
use Rattle.sv_types.specs.Expressions.{meaning}
use Rattle.eval_parts.proofs.Nodes as N
use Rattle.eval_parts.proofs.PathLimits as L
use Rattle.eval_forms.specs.Asked.{asked, AllFitAsked}
use Rattle.eval_forms.specs.Callees.{formals_in}
use Rattle.eval_forms.proofs.AskedLaws.{AllFewer}
use Rattle.eval_exprs.proofs.Operators as O
use Rattle.eval_exprs.proofs.Turns.{at-front}
use Rattle.eval_runs.proofs.Knots.{all-fit}
use Rattle.expr_flows.specs.Known.{sight}
use Rattle.expr_flows.specs.Full.{is_full}
use Rattle.expr_flows.proofs.FullLevels as U
use Rattle.expr_flows.proofs.Operands as Q
use Rattle.expr_flows.proofs.Operands.{AllFull, all_constant, asks}
use Rattle.design_breaks.specs.Indices.{lesser}
use Rattle.loop_laws.specs.Operands.{all_long}
use Rattle.loop_laws.proofs.Constants as C
use Rattle.loop_laws.proofs.Lesser.{lesser-none}
use Rattle.loop_laws.proofs.LongOperands as G
use Rattle.loop_laws.proofs.SaidLevels as S
use Rattle.bound_values.specs.declared.looks.Look.{Look}
use Rattle.bound_values.proofs.Looking as K
use Rattle.bound_values.proofs.looks.+looks.Goals as goal

pub look_within-path_look-requires : goal.look_within-path_look-requires
look_within-path_look-requires t c =
    (omega (arith, c.decreases), (c.requires.functions, (c.in-Some.ensures.step, (L.path-fits c.args.e.now c.in-Some.step (formals_in c.args.known.functions.now) c.args.width c.in-Some.ensures.step c.requires.fits, c.requires.full))))

pub path_look-returns-in-Signal : goal.path_look-returns-in-Signal
path_look-returns-in-Signal t c =
    let e = c.args.e.now in
    let n = c.in-Signal.n in
    let is = rw c.in-Signal.is at c.requires.step in
    K.root-looks c.root.result c.args.known e n c.root.ensures (C.constant-Signal e n is) (S.long-Signal e n is)

pub path_look-returns-in-Local : goal.path_look-returns-in-Local
path_look-returns-in-Local t c =
    let e = c.args.e.now in
    let n = c.in-Local.n in
    let is = rw c.in-Local.is at c.requires.step in
    K.root-looks c.root-in-Local.result c.args.known e _ c.root-in-Local.ensures (C.constant-Local e n is) (S.long-Local e n is)

pub path_look-look_at-requires : goal.path_look-look_at-requires
path_look-look_at-requires t c =
    let e = c.args.e.now in
    let x = c.in-Member.from.now in
    let fs = formals_in c.args.known.functions.now in
    let is = rw c.in-Member.is at c.requires.step in
    (omega (arith, c.decreases, N.nodes-Member e x c.in-Member.field-1 is), (c.requires.functions, (L.member-fits e x c.in-Member.field-1 fs (wide (meaning e)) is c.requires.fits, sym (U.full-Member fs e x c.in-Member.field-1 is) ∙ c.requires.full)))

pub path_look-returns-in-Member : goal.path_look-returns-in-Member
path_look-returns-in-Member t c =
    let e = c.args.e.now in
    let x = c.in-Member.from.now in
    let is = rw c.in-Member.is at c.requires.step in
    K.relook c.look_at.result c.args.known x e (C.constant-Member e x c.in-Member.field-1 is) (S.long-Member e x c.in-Member.field-1 is) c.look_at.ensures

pub path_look-look_at-requires-in-Part : goal.path_look-look_at-requires-in-Part
path_look-look_at-requires-in-Part t c =
    let e = c.args.e.now in
    let x = c.in-Part.from.now in
    let fs = formals_in c.args.known.functions.now in
    let is = rw c.in-Part.is at c.requires.step in
    (omega (arith, c.decreases, N.nodes-Part e x c.in-Part.left c.in-Part.right is), (c.requires.functions, (L.part-fits e x c.in-Part.left c.in-Part.right fs (wide (meaning e)) is c.requires.fits, sym (U.full-Part fs e x c.in-Part.left c.in-Part.right is) ∙ c.requires.full)))

pub path_look-returns-in-Part : goal.path_look-returns-in-Part
path_look-returns-in-Part t c =
    let e = c.args.e.now in
    let x = c.in-Part.from.now in
    let is = rw c.in-Part.is at c.requires.step in
    K.relook c.look_at-in-Part.result c.args.known x e (C.constant-Part e x c.in-Part.left c.in-Part.right is) (S.long-Part e x c.in-Part.left c.in-Part.right is) c.look_at-in-Part.ensures

pub path_look-indexed_look-requires : goal.path_look-indexed_look-requires
path_look-indexed_look-requires t c =
    let e = c.args.e.now in
    let x = c.in-Index.from.now in
    let i = c.in-Index.i.now in
    let fs = formals_in c.args.known.functions.now in
    let is = rw c.in-Index.is at c.requires.step in
    let p = and_parts (is_full fs x) (is_full fs i) (sym (U.full-Index fs e x i is) ∙ c.requires.full) in (
      omega (arith, c.decreases, N.nodes-Index e x i is),
      (c.requires.functions, (L.index-fits-x e x i fs (wide (meaning e)) is c.requires.fits, (p.0, (L.index-fits-y e x i fs (wide (meaning e)) is c.requires.fits, p.1)))),
    )

pub path_look-returns-in-Index : goal.path_look-returns-in-Index
path_look-returns-in-Index t c =
    let e = c.args.e.now in
    let x = c.in-Index.from.now in
    let i = c.in-Index.i.now in
    let is = rw c.in-Index.is at c.requires.step in
    K.relook-both c.indexed_look.result c.args.known x i e (C.constant-Index e x i is) (S.long-Index e x i is) c.indexed_look.ensures

pub path_look-indexed_look-requires-in-Slide : goal.path_look-indexed_look-requires-in-Slide
path_look-indexed_look-requires-in-Slide t c =
    let e = c.args.e.now in
    let x = c.in-Slide.from.now in
    let i = c.in-Slide.base.now in
    let n = c.in-Slide.width in
    let up = c.in-Slide.up in
    let fs = formals_in c.args.known.functions.now in
    let is = rw c.in-Slide.is at c.requires.step in
    let p = and_parts (is_full fs x) (is_full fs i) (sym (U.full-Slide fs e x i n up is) ∙ c.requires.full) in (
      omega (arith, c.decreases, N.nodes-Slide e x i n up is),
      (c.requires.functions, (L.slide-fits-x e x i n up fs (wide (meaning e)) is c.requires.fits, (p.0, (L.slide-fits-y e x i n up fs (wide (meaning e)) is c.requires.fits, p.1)))),
    )

pub path_look-returns-in-Slide : goal.path_look-returns-in-Slide
path_look-returns-in-Slide t c =
    let e = c.args.e.now in
    let x = c.in-Slide.from.now in
    let i = c.in-Slide.base.now in
    let is = rw c.in-Slide.is at c.requires.step in
    K.relook-both c.indexed_look-in-Slide.result c.args.known x i e (C.constant-Slide e x i c.in-Slide.width c.in-Slide.up is) (S.long-Slide e x i c.in-Slide.width c.in-Slide.up is) c.indexed_look-in-Slide.ensures

-- operands
pub operands_look-operands-requires-clause-functions : goal.operands_look-operands-requires-clause-functions
operands_look-operands-requires-clause-functions t c = all-fit c.args.known.functions.now (formals_in c.args.known.functions.now) c.requires.functions

pub operands_look-operands-requires-clause-some : goal.operands_look-operands-requires-clause-some
operands_look-operands-requires-clause-some t c = O.some-bits c.args.e.now (formals_in c.args.known.functions.now) c.args.width c.requires.fits

pub operands_look-loop-operand-init : goal.operands_look-loop-operand-init
operands_look-loop-operand-init t c =
    let e = c.args.e.now in
    let fs = formals_in c.args.known.functions.now in
    let w = c.args.width in
    let s = c.args.signed in
    let qs = map asked c.deref-operand-items.result.now in
    let is : qs ≡ asks e fs w s = ap (map asked) c.deref-operand-items.ensures.value ∙ c.in_ok-asks.ensures in
    let laws = O.parts c.args.called e c.requires.kind c.requires.called in
    record {
      fits = subst (AllFitAsked fs) (sym is) (laws.fits fs w s c.requires.fits);
      fewer = subst (AllFewer (N.nodes e)) (sym is) (laws.fewer fs w s);
      full = subst (AllFull fs) (sym is) ((Q.operated e c.requires.kind).full fs w s c.requires.full);
      here = is;
      known = λ h sure. ap (all_constant h) is;
      longest = ap (all_long (sight c.args.known)) is;
    }

pub operands_look-loop-operand-preserved : goal.operands_look-loop-operand-preserved
operands_look-loop-operand-preserved t c =
    let k = c.args.known in
    let fs = formals_in k.functions.now in
    let items = c.deref-operand-items.result.now in
    let l = c.loop-operand in
    let i = l.operand-index in
    let q = asked c.operand-item.result in
    let qs = map asked (drop (i + 1) items) in
    let here = ap (map asked) (at-front items i c.operand-item.result (omega arith) c.operand-item.is) in
    let all = asks c.args.e.now fs c.args.width c.args.signed in
    let one = c.in_ok-one.one in
    record {
      fits = (subst (AllFitAsked fs) here l.invariant.fits).1;
      fewer = (subst (AllFewer (N.nodes c.args.e.now)) here l.invariant.fewer).1;
      full = (subst (AllFull fs) here l.invariant.full).1;
      here = l.invariant.here;
      known = λ h sure.
          ap (λ (x : Look). x.constant && all_constant h qs) c.both-seen.ensures
          ∙ K.known-next h q qs l.seen one (all_constant h all) (c.in_ok-one.ensures.known h sure) (subst (λ ps. (l.seen.constant && all_constant h ps) ≡ all_constant h all) here (l.invariant.known h sure));
      longest =
          ap (λ (x : Look). lesser x.long (all_long (sight k) qs)) c.both-seen.ensures
          ∙ K.longest-next (sight k) q qs l.seen one (all_long (sight k) all) c.in_ok-one.ensures.longest (subst (λ ps. lesser l.seen.long (all_long (sight k) ps) ≡ all_long (sight k) all) here l.invariant.longest);
    }

pub operands_look-returns : goal.operands_look-returns
operands_look-returns t c =
    let e = c.args.e.now in
    let k = c.args.known in
    let fs = formals_in k.functions.now in
    let w = c.args.width in
    let s = c.args.signed in
    let l = c.loop-operand in
    let ended = drop_of_length-le c.deref-operand-items.result.now (omega arith) in
    let all = asks e fs w s in
    record {
      known = λ h sure.
          sym (and-true l.seen.constant) ∙ subst (λ xs. (l.seen.constant && all_constant h (map asked xs)) ≡ all_constant h all) ended (l.invariant.known h sure)
          ∙ sym ((Q.operated e c.requires.kind).reads fs w s h c.requires.full).constant;
      longest =
          sym (lesser-none l.seen.long) ∙ subst (λ xs. lesser l.seen.long (all_long (sight k) (map asked xs)) ≡ all_long (sight k) all) ended l.invariant.longest
          ∙ sym (G.operated e c.requires.kind fs w s (sight k) (K.few fs e c.requires.full));
    }

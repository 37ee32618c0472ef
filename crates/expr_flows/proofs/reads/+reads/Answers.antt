use Rattle.std.proofs.Common.{◌≡◌, inl, true, ◌+◌, ◌&&◌, map, drop, Err, refl, arith, ap, sym, ◌∙◌, subst, rules}
use Rattle.std.proofs.lemmas.Bool.{and_parts}
use Rattle.std.proofs.lemmas.Result.{err_from_is_err_and}
use Rattle.std.proofs.Math.Bool.{and-true}
use Rattle.sv_types.specs.Meanings.{wide}
use Rattle.sv_types.specs.Windows.{whole, between}
use Rattle.sv_types.specs.Layouts.{layout}
use Rattle.sv_types.specs.Paths.{narrowed}
use Rattle.sv_types.specs.Expressions.{meaning}
use Rattle.eval_parts.proofs.Lists.{own-narrow}
use Rattle.eval_parts.proofs.Nodes as N
use Rattle.eval_parts.proofs.PathLimits as L
use Rattle.eval_parts.proofs.TypeKinds.{wide-is}
use Rattle.eval_forms.specs.Asked.{asked, AllFitAsked}
use Rattle.eval_forms.specs.Callees.{formals_in}
use Rattle.eval_forms.proofs.AskedLaws.{AllFewer}
use Rattle.eval_exprs.proofs.Operators as O
use Rattle.eval_exprs.proofs.Turns.{at-front}
use Rattle.eval_runs.proofs.Knots.{all-fit}
use Rattle.expr_flows.specs.Known.{sight}
use Rattle.expr_flows.specs.Full.{is_full}
use Rattle.row_machine.specs.Valuation.{Member}
use Rattle.std.proofs.Math.ListN.{drop_of_length-le}
use Rattle.expr_flows.specs.Reads.{ReadsGive, TraceGives, IndexGives}
use Rattle.expr_flows.specs.Traces.{Adds, prefix_of}
use Rattle.expr_flows.proofs.Adding as D
use Rattle.expr_flows.proofs.FullLevels as U
use Rattle.expr_flows.proofs.Longs as F
use Rattle.expr_flows.proofs.Operands as Q
use Rattle.expr_flows.proofs.Operands.{AllFull, all_reads, all_constant, asks}
use Rattle.expr_flows.proofs.Paths as P
use Rattle.expr_flows.proofs.Reading as R
use Rattle.expr_flows.proofs.reads.+reads.Goals as goal

pub reads_at-path_reads-requires : goal.reads_at-path_reads-requires
reads_at-path_reads-requires t c =
    (omega (arith, c.decreases), (c.requires.functions, (c.in-Some.ensures.step, (L.path-fits c.args.e.now c.in-Some.step (formals_in c.args.known.functions.now) c.args.width c.in-Some.ensures.step c.requires.fits, c.requires.full))))

-- indices
pub add_index-returns-in_err-constant : goal.add_index-returns-in_err-constant
add_index-returns-in_err-constant t c =
    let p = err_from_is_err_and c.from_residual.result c.from_residual.ensures.1 in
    subst (λ r. IndexGives r c.args.known c.args.i.now c.args.to.now c.reads_at.new.to) (sym (p.1 ∙ ap Err p.2)) (F.reads-fail c.in_err-constant.field-0.0 c.args.known c.args.i.now c.in_err-constant.ensures)

-- whole signals and locals
pub follow-returns-in-Signal : goal.follow-returns-in-Signal
follow-returns-in-Signal t c =
    let e = c.args.e.now in
    let is = rw c.in-Signal.is at c.requires.step in
    let w = c.whole_root.ensures in
    let traces = P.traced-signal e c.in-Signal.n c.whole_root.result c.args.known is w.root (w.prefix ∙ ap (λ (n : _). record { window = whole n; exact = true }) (c.own_width.ensures ∙ wide-is e)) w.base w.near in
    (traces.0, D.at c.args.to.now c.args.to.now _ _ (sym traces.1) (D.none c.args.to.now))

pub follow-returns-in-Local : goal.follow-returns-in-Local
follow-returns-in-Local t c =
    let e = c.args.e.now in
    let is = rw c.in-Local.is at c.requires.step in
    let w = c.whole_root-in-Local.ensures in
    let traces = P.traced-local e c.in-Local.n c.whole_root-in-Local.result c.args.known is w.root (w.prefix ∙ ap (λ (n : _). record { window = whole n; exact = true }) (c.own_width-in-Local.ensures ∙ wide-is e)) w.base w.near in
    (traces.0, D.at c.args.to.now c.args.to.now _ _ (sym traces.1) (D.none c.args.to.now))

-- members
pub follow-trace-requires : goal.follow-trace-requires
follow-trace-requires t c =
    let e = c.args.e.now in
    let x = c.in-Member.from.now in
    let fs = formals_in c.args.known.functions.now in
    let is = rw c.in-Member.is at c.requires.step in
    (omega (arith, c.decreases, N.nodes-Member e x c.in-Member.k is), (c.requires.functions, (L.member-fits e x c.in-Member.k fs (wide (meaning e)) is c.requires.fits, sym (U.full-Member fs e x c.in-Member.k is) ∙ c.requires.full)))

pub follow-returns-in_err-traced-in-Member : goal.follow-returns-in_err-traced-in-Member
follow-returns-in_err-traced-in-Member t c =
    let e = c.args.e.now in
    let x = c.in-Member.from.now in
    let is = rw c.in-Member.is at c.requires.step in
    let p = err_from_is_err_and c.from_residual.result c.from_residual.ensures.1 in
    subst (λ r. TraceGives r c.args.known e c.args.to.now c.trace.new.to) (sym (p.1 ∙ ap Err p.2))
    (F.operand-fails c.in_err-traced-in-Member.field-0.0 c.args.known e x (F.member-operand e x c.in-Member.k is) c.in_err-traced-in-Member.ensures)

pub follow-member-requires-clause-narrow : goal.follow-member-requires-clause-narrow
follow-member-requires-clause-narrow t c =
    let e = c.args.e.now in
    let x = c.in-Member.from.now in
    let fs = formals_in c.args.known.functions.now in
    let is = rw c.in-Member.is at c.requires.step in
    own-narrow x fs (wide (meaning x)) (L.member-fits e x c.in-Member.k fs (wide (meaning e)) is c.requires.fits)

pub follow-returns-in_ok-traced-in-Member : goal.follow-returns-in_ok-traced-in-Member
follow-returns-in_ok-traced-in-Member t c =
    let e = c.args.e.now in
    let x = c.in-Member.from.now in
    let is = rw c.in-Member.is at c.requires.step in
    let h = c.in_ok-traced-in-Member.ensures in
    let w = c.member.ensures in
    let traces = P.traced-member e x c.in-Member.k c.in_ok-traced-in-Member.traced c.member.result c.args.known _ is (h.0, refl) (record { root = w.root; base = w.base; near = w.near }) w.prefix in
    (traces.0, D.at c.args.to.now c.trace.new.to _ _ (sym traces.1) h.1)

-- parts
pub follow-trace-requires-in-Part : goal.follow-trace-requires-in-Part
follow-trace-requires-in-Part t c =
    let e = c.args.e.now in
    let x = c.in-Part.from.now in
    let fs = formals_in c.args.known.functions.now in
    let is = rw c.in-Part.is at c.requires.step in (
      omega (arith, c.decreases, N.nodes-Part e x c.in-Part.left c.in-Part.right is),
      (c.requires.functions, (L.part-fits e x c.in-Part.left c.in-Part.right fs (wide (meaning e)) is c.requires.fits, sym (U.full-Part fs e x c.in-Part.left c.in-Part.right is) ∙ c.requires.full)),
    )

pub follow-returns-in_err-traced-in-Part : goal.follow-returns-in_err-traced-in-Part
follow-returns-in_err-traced-in-Part t c =
    let e = c.args.e.now in
    let x = c.in-Part.from.now in
    let is = rw c.in-Part.is at c.requires.step in
    let p = err_from_is_err_and c.from_residual-in_err-traced-in-Part.result c.from_residual-in_err-traced-in-Part.ensures.1 in
    subst (λ r. TraceGives r c.args.known e c.args.to.now c.trace-in-Part.new.to) (sym (p.1 ∙ ap Err p.2))
    (F.operand-fails c.in_err-traced-in-Part.field-0.0 c.args.known e x (F.part-operand e x c.in-Part.left c.in-Part.right is) c.in_err-traced-in-Part.ensures)

pub follow-part-requires-clause-narrow : goal.follow-part-requires-clause-narrow
follow-part-requires-clause-narrow t c =
    let e = c.args.e.now in
    let x = c.in-Part.from.now in
    let fs = formals_in c.args.known.functions.now in
    let is = rw c.in-Part.is at c.requires.step in
    own-narrow x fs (wide (meaning x)) (L.part-fits e x c.in-Part.left c.in-Part.right fs (wide (meaning e)) is c.requires.fits)

pub follow-returns-in_ok-traced-in-Part : goal.follow-returns-in_ok-traced-in-Part
follow-returns-in_ok-traced-in-Part t c =
    let e = c.args.e.now in
    let x = c.in-Part.from.now in
    let is = rw c.in-Part.is at c.requires.step in
    let h = c.in_ok-traced-in-Part.ensures in
    let w = c.part.ensures in
    let prefix : prefix_of c.part.result ≡ narrowed (between (layout x.of) c.in-Part.left c.in-Part.right) (prefix_of c.in_ok-traced-in-Part.traced) = search rules in
    let traces = P.traced-part e x c.in-Part.left c.in-Part.right c.in_ok-traced-in-Part.traced c.part.result c.args.known _ is (h.0, refl) (record { root = w.root; base = w.base; near = w.near }) prefix in
    (traces.0, D.at c.args.to.now c.trace-in-Part.new.to _ _ (sym traces.1) h.1)

-- elements
pub follow-trace-requires-in-Index : goal.follow-trace-requires-in-Index
follow-trace-requires-in-Index t c =
    let e = c.args.e.now in
    let x = c.in-Index.from.now in
    let i = c.in-Index.i.now in
    let fs = formals_in c.args.known.functions.now in
    let is = rw c.in-Index.is at c.requires.step in (
      omega (arith, c.decreases, N.nodes-Index e x i is),
      (c.requires.functions, (L.index-fits-x e x i fs (wide (meaning e)) is c.requires.fits, (and_parts (is_full fs x) (is_full fs i) (sym (U.full-Index fs e x i is) ∙ c.requires.full)).0)),
    )

pub follow-returns-in_err-traced-in-Index : goal.follow-returns-in_err-traced-in-Index
follow-returns-in_err-traced-in-Index t c =
    let e = c.args.e.now in
    let x = c.in-Index.from.now in
    let is = rw c.in-Index.is at c.requires.step in
    let p = err_from_is_err_and c.from_residual-in_err-traced-in-Index.result c.from_residual-in_err-traced-in-Index.ensures.1 in
    subst (λ r. TraceGives r c.args.known e c.args.to.now c.trace-in-Index.new.to) (sym (p.1 ∙ ap Err p.2))
    (F.operand-fails c.in_err-traced-in-Index.field-0.0 c.args.known e x (F.index-operand e x c.in-Index.i.now is) c.in_err-traced-in-Index.ensures)

pub follow-add_index-requires : goal.follow-add_index-requires
follow-add_index-requires t c =
    let e = c.args.e.now in
    let x = c.in-Index.from.now in
    let i = c.in-Index.i.now in
    let fs = formals_in c.args.known.functions.now in
    let is = rw c.in-Index.is at c.requires.step in (
      omega (arith, c.decreases, N.nodes-Index e x i is),
      (
        c.requires.functions,
        (
          L.index-fits-y e x i fs (wide (meaning e)) is c.requires.fits,
          (L.index-short e x i fs (wide (meaning e)) is c.requires.fits, (and_parts (is_full fs x) (is_full fs i) (sym (U.full-Index fs e x i is) ∙ c.requires.full)).1),
        ),
      ),
    )

pub follow-returns-in_err-index-in-Index : goal.follow-returns-in_err-index-in-Index
follow-returns-in_err-index-in-Index t c =
    let e = c.args.e.now in
    let is = rw c.in-Index.is at c.requires.step in
    let p = err_from_is_err_and c.from_residual-in_err-index-in-Index.result c.from_residual-in_err-index-in-Index.ensures.1 in
    subst (λ r. TraceGives r c.args.known e c.args.to.now c.add_index.new.to) (sym (p.1 ∙ ap Err p.2))
    (F.fails-by-index c.in_err-index-in-Index.field-0.0 c.args.known e c.in-Index.from.now c.in-Index.i.now is c.in_err-index-in-Index.ensures)

pub follow-element-requires-clause-narrow : goal.follow-element-requires-clause-narrow
follow-element-requires-clause-narrow t c =
    let e = c.args.e.now in
    let x = c.in-Index.from.now in
    let fs = formals_in c.args.known.functions.now in
    let is = rw c.in-Index.is at c.requires.step in
    own-narrow x fs (wide (meaning x)) (L.index-fits-x e x c.in-Index.i.now fs (wide (meaning e)) is c.requires.fits)

pub follow-returns-in_ok-index-in-Index : goal.follow-returns-in_ok-index-in-Index
follow-returns-in_ok-index-in-Index t c =
    let e = c.args.e.now in
    let is = rw c.in-Index.is at c.requires.step in
    let h = c.in_ok-traced-in-Index.ensures in
    let g = c.in_ok-index-in-Index.ensures in
    let w = c.element.ensures in
    let traces = P.traced-index e c.in-Index.from.now c.in-Index.i.now c.in_ok-traced-in-Index.traced c.element.result c.in_ok-index-in-Index.index c.args.known _ is (h.0, refl) g.0 (record { root = w.root; base = w.base; near = w.near }) w.prefix in
    (traces.0, D.at c.args.to.now c.add_index.new.to _ _ (sym traces.1) (D.both c.args.to.now c.trace-in-Index.new.to c.add_index.new.to _ _ h.1 g.2))

-- indexed part-selects
pub follow-trace-requires-in-Slide : goal.follow-trace-requires-in-Slide
follow-trace-requires-in-Slide t c =
    let e = c.args.e.now in
    let x = c.in-Slide.from.now in
    let i = c.in-Slide.base.now in
    let n = c.in-Slide.width in
    let up = c.in-Slide.up in
    let fs = formals_in c.args.known.functions.now in
    let is = rw c.in-Slide.is at c.requires.step in (
      omega (arith, c.decreases, N.nodes-Slide e x i n up is),
      (c.requires.functions, (L.slide-fits-x e x i n up fs (wide (meaning e)) is c.requires.fits, (and_parts (is_full fs x) (is_full fs i) (sym (U.full-Slide fs e x i n up is) ∙ c.requires.full)).0)),
    )

pub follow-returns-in_err-traced-in-Slide : goal.follow-returns-in_err-traced-in-Slide
follow-returns-in_err-traced-in-Slide t c =
    let e = c.args.e.now in
    let x = c.in-Slide.from.now in
    let is = rw c.in-Slide.is at c.requires.step in
    let p = err_from_is_err_and c.from_residual-in_err-traced-in-Slide.result c.from_residual-in_err-traced-in-Slide.ensures.1 in
    subst (λ r. TraceGives r c.args.known e c.args.to.now c.trace-in-Slide.new.to) (sym (p.1 ∙ ap Err p.2))
    (F.operand-fails c.in_err-traced-in-Slide.field-0.0 c.args.known e x (F.slide-operand e x c.in-Slide.base.now c.in-Slide.width c.in-Slide.up is) c.in_err-traced-in-Slide.ensures)

pub follow-add_index-requires-in-Slide : goal.follow-add_index-requires-in-Slide
follow-add_index-requires-in-Slide t c =
    let e = c.args.e.now in
    let x = c.in-Slide.from.now in
    let i = c.in-Slide.base.now in
    let n = c.in-Slide.width in
    let up = c.in-Slide.up in
    let fs = formals_in c.args.known.functions.now in
    let is = rw c.in-Slide.is at c.requires.step in (
      omega (arith, c.decreases, N.nodes-Slide e x i n up is),
      (
        c.requires.functions,
        (
          L.slide-fits-y e x i n up fs (wide (meaning e)) is c.requires.fits,
          (L.slide-short e x i n up fs (wide (meaning e)) is c.requires.fits, (and_parts (is_full fs x) (is_full fs i) (sym (U.full-Slide fs e x i n up is) ∙ c.requires.full)).1),
        ),
      ),
    )

pub follow-returns-in_err-index-in-Slide : goal.follow-returns-in_err-index-in-Slide
follow-returns-in_err-index-in-Slide t c =
    let e = c.args.e.now in
    let is = rw c.in-Slide.is at c.requires.step in
    let p = err_from_is_err_and c.from_residual-in_err-index-in-Slide.result c.from_residual-in_err-index-in-Slide.ensures.1 in
    subst (λ r. TraceGives r c.args.known e c.args.to.now c.add_index-in-Slide.new.to) (sym (p.1 ∙ ap Err p.2))
    (F.fails-by-slide c.in_err-index-in-Slide.field-0.0 c.args.known e c.in-Slide.from.now c.in-Slide.base.now c.in-Slide.width c.in-Slide.up is c.in_err-index-in-Slide.ensures)

pub follow-elements-requires-clause-narrow : goal.follow-elements-requires-clause-narrow
follow-elements-requires-clause-narrow t c =
    let e = c.args.e.now in
    let x = c.in-Slide.from.now in
    let fs = formals_in c.args.known.functions.now in
    let is = rw c.in-Slide.is at c.requires.step in
    own-narrow x fs (wide (meaning x)) (L.slide-fits-x e x c.in-Slide.base.now c.in-Slide.width c.in-Slide.up fs (wide (meaning e)) is c.requires.fits)

pub follow-returns-in_ok-index-in-Slide : goal.follow-returns-in_ok-index-in-Slide
follow-returns-in_ok-index-in-Slide t c =
    let e = c.args.e.now in
    let is = rw c.in-Slide.is at c.requires.step in
    let h = c.in_ok-traced-in-Slide.ensures in
    let g = c.in_ok-index-in-Slide.ensures in
    let w = c.elements.ensures in
    let traces = P.traced-slide e c.in-Slide.from.now c.in-Slide.base.now c.in-Slide.width c.in-Slide.up c.in_ok-traced-in-Slide.traced c.elements.result c.in_ok-index-in-Slide.index c.args.known _ is (h.0, refl) g.0 (record { root = w.root; base = w.base; near = w.near }) w.prefix in
    (traces.0, D.at c.args.to.now c.add_index-in-Slide.new.to _ _ (sym traces.1) (D.both c.args.to.now c.trace-in-Slide.new.to c.add_index-in-Slide.new.to _ _ h.1 g.2))

-- values
pub trace-returns-in_ok-constant-in-None : goal.trace-returns-in_ok-constant-in-None
trace-returns-in_ok-constant-in-None t c =
    let e = c.args.e.now in
    let m = meaning e in
    let k = sight c.args.known in
    let fs = formals_in c.args.known.functions.now in
    let w = c.whole_value.ensures in
    let h = c.in_ok-constant-in-None.ensures in
    let by = (Q.operated e c.in-None.ensures.plain).reads fs 0 true k c.requires.full in
    let traces = R.value-traced m c.whole_value.result c.args.known c.own_width-width.result c.in_ok-constant-in-None.constant c.in-None.ensures.step.root by.prefix c.own_width-width.ensures h.constant w.root w.prefix w.base w.near in
    (traces.0, D.at c.args.to.now c.reads_at.new.to _ _ (sym traces.1) h.adds)

-- operands
pub asked_reads-returns-in-Again : goal.asked_reads-returns-in-Again
asked_reads-returns-in-Again t c = R.asked-again c.args.known (asked c.args.operand) c.in-Again.field-0 c.in-Again.field-1 c.args.to.now c.in-Again.is

pub operand_reads-operands-requires-clause-functions : goal.operand_reads-operands-requires-clause-functions
operand_reads-operands-requires-clause-functions t c = all-fit c.args.known.functions.now (formals_in c.args.known.functions.now) c.requires.functions

pub operand_reads-operands-requires-clause-some : goal.operand_reads-operands-requires-clause-some
operand_reads-operands-requires-clause-some t c = O.some-bits c.args.e.now (formals_in c.args.known.functions.now) c.args.width c.requires.fits

pub operand_reads-loop-operand-init : goal.operand_reads-loop-operand-init
operand_reads-loop-operand-init t c =
    let e = c.args.e.now in
    let fs = formals_in c.args.known.functions.now in
    let w = c.args.width in
    let s = c.args.signed in
    let qs = map asked c.deref-operand-items.result.now in
    let is : qs ≡ asks e fs w s = ap (map asked) c.deref-operand-items.ensures.value ∙ c.in_ok-asks.ensures in
    let laws = O.parts c.args.called e c.requires.kind c.requires.called in
    record {
      fits = subst (AllFitAsked fs) (sym is) (laws.fits fs w s c.requires.fits);
      fewer = subst (AllFewer (N.nodes e)) (sym is) (laws.fewer fs w s);
      full = subst (AllFull fs) (sym is) ((Q.operated e c.requires.kind).full fs w s c.requires.full);
      here = is;
      constant = ap (all_constant (sight c.args.known)) is;
      adds = λ final h. D.at c.args.to.now final _ _ (ap (all_reads (sight c.args.known)) is) h;
    }

pub operand_reads-loop-operand-preserved : goal.operand_reads-loop-operand-preserved
operand_reads-loop-operand-preserved t c =
    let k = c.args.known in
    let fs = formals_in k.functions.now in
    let items = c.deref-operand-items.result.now in
    let l = c.loop-operand in
    let i = l.operand-index in
    let q = asked c.operand-item.result in
    let qs = map asked (drop (i + 1) items) in
    let here = ap (map asked) (at-front items i c.operand-item.result (omega arith) c.operand-item.is) in
    let all = asks c.args.e.now fs c.args.width c.args.signed in
    record {
      fits = (subst (AllFitAsked fs) here l.invariant.fits).1;
      fewer = (subst (AllFewer (N.nodes c.args.e.now)) here l.invariant.fewer).1;
      full = (subst (AllFull fs) here l.invariant.full).1;
      here = l.invariant.here;
      constant = R.constant-next k q qs l.constant c.in_ok-one.one c.both-constant.result (all_constant (sight k) all) c.in_ok-one.ensures.0 c.both-constant.ensures (subst (λ ps. (l.constant && all_constant (sight k) ps) ≡ all_constant (sight k) all) here l.invariant.constant);
      adds = R.adds-next k q qs l.to c.asked_reads.new.to (λ final. Adds c.args.to.now final (all_reads (sight k) all)) c.in_ok-one.ensures.1 (λ final h. l.invariant.adds final (subst (λ ps. Adds l.to final (all_reads (sight k) ps)) (sym here) h));
    }

pub operand_reads-returns-in_err-one : goal.operand_reads-returns-in_err-one
operand_reads-returns-in_err-one t c =
    let e = c.args.e.now in
    let k = c.args.known in
    let fs = formals_in k.functions.now in
    let items = c.deref-operand-items.result.now in
    let i = c.loop-operand.operand-index in
    let x = c.operand-item.result in
    let p = err_from_is_err_and c.from_residual-in_err-one.result c.from_residual-in_err-one.ensures.1 in
    let there : Member items x = F.from-drop i items x (subst (λ xs. Member xs x) (sym (at-front items i x (omega arith) c.operand-item.is)) (inl refl)) in
    let here = subst (λ qs. Member qs (asked x)) c.loop-operand.invariant.here (F.mapped asked items x there) in
    subst (λ r. ReadsGive r k e c.args.to.now c.asked_reads.new.to) (sym (p.1 ∙ ap Err p.2))
    (F.operand-fails c.in_err-one.field-0.0 k e x.of.now (F.asked-operand e fs c.args.width c.args.signed (asked x) here) c.in_err-one.ensures)

pub operand_reads-returns : goal.operand_reads-returns
operand_reads-returns t c =
    let e = c.args.e.now in
    let k = c.args.known in
    let fs = formals_in k.functions.now in
    let l = c.loop-operand in
    let ended = drop_of_length-le c.deref-operand-items.result.now (omega arith) in
    let all = asks e fs c.args.width c.args.signed in
    let by = (Q.operated e c.requires.kind).reads fs c.args.width c.args.signed (sight k) c.requires.full in
    record {
      constant = sym (and-true l.constant) ∙ subst (λ xs. (l.constant && all_constant (sight k) (map asked xs)) ≡ all_constant (sight k) all) ended l.invariant.constant ∙ sym by.constant;
      adds = D.at c.args.to.now l.to _ _ (sym by.reads) (l.invariant.adds l.to (subst (λ xs. Adds l.to l.to (all_reads (sight k) (map asked xs))) (sym ended) (D.none l.to)));
    }

pub path_reads-returns : goal.path_reads-returns
path_reads-returns t c =
    R.path-done c.args.e.now c.args.step c.args.known c.in_ok-traced.traced c.is_sure-sure.result c.args.to.now c.add_unsure.new.to c.append.new.self c.new-indices.result c.follow.new.to c.is_constant.result c.requires.step c.in_ok-traced.ensures.0
    c.is_sure-sure.ensures c.in_ok-add_unsure.ensures c.new-indices.ensures c.in_ok-traced.ensures.1 c.in_ok-append.ensures c.is_constant.ensures

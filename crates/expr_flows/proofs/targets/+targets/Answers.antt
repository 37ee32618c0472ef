use Rattle.std.proofs.Common.{◌≡◌, inl, ◌+◌, true, map, drop, Err, refl, arith, ap, sym, ◌∙◌, subst}
use Rattle.std.proofs.lemmas.Bool.{and_parts}
use Rattle.std.proofs.lemmas.Result.{err_from_is_err_and}
use Rattle.std.proofs.Math.ListN.{drop_of_length-le}
use Rattle.row_machine.specs.Valuation.{Member}
use Rattle.sv_types.specs.Flows.{all_indices, all_writes}
use Rattle.sv_types.specs.Meanings.{wide, total}
use Rattle.sv_types.specs.Expressions.{meaning}
use Rattle.eval_parts.specs.Limits.{AllFit}
use Rattle.eval_parts.proofs.Nodes.{nodes}
use Rattle.eval_forms.specs.Callees.{formals_in}
use Rattle.eval_exprs.proofs.Turns.{at-front}
use Rattle.expr_flows.specs.Known.{sight}
use Rattle.expr_flows.specs.Full.{is_full, all_full}
use Rattle.expr_flows.specs.Traces.{Adds}
use Rattle.expr_flows.specs.Targets.{Writes, TargetsGive}
use Rattle.expr_flows.proofs.Adding as D
use Rattle.expr_flows.proofs.Longs as F
use Rattle.expr_flows.proofs.Parting as G
use Rattle.expr_flows.proofs.Paths as P
use Rattle.expr_flows.proofs.Writing as W
use Rattle.expr_flows.proofs.targets.+targets.Goals as goal

pub add_target-returns-in_ok-add_write-in-Some : goal.add_target-returns-in_ok-add_write-in-Some
add_target-returns-in_ok-add_write-in-Some t c =
    let e = c.args.e.now in
    let s = c.in-Some.step in
    let h = c.in_ok-traced-in-Some.ensures in
    record {
      reads = D.at c.args.reads.now c.follow.new.to _ _ (sym (P.indices-are e s (sight c.args.known) c.in-Some.ensures.step)) h.1;
      writes = W.at c.args.writes.now c.add_write.new.to _ _ (G.path-writes e s c.args.known c.in_ok-traced-in-Some.traced c.in-Some.ensures.step h.0) c.in_ok-add_write-in-Some.ensures;
    }

pub add_other-add_targets-requires : goal.add_other-add_targets-requires
add_other-add_targets-requires t c =
    let e = c.args.e.now in
    let fs = formals_in c.args.known.functions.now in
    let p = G.parted e c.in-Some.es.now c.in-Some.ensures in
    (omega (arith, c.decreases, p.nodes), (c.requires.functions, (p.fits fs (wide (meaning e)) c.requires.fits, p.full fs c.requires.full)))

pub add_other-returns-in-Some : goal.add_other-returns-in-Some
add_other-returns-in-Some t c =
    G.parts-give c.add_targets.result c.args.known c.args.e.now c.in-Some.es.now c.args.reads.now c.add_targets.new.reads c.args.writes.now c.add_targets.new.writes c.in-Some.ensures c.add_targets.ensures

pub add_other-returns-in_ok-_constant-in-None : goal.add_other-returns-in_ok-_constant-in-None
add_other-returns-in_ok-_constant-in-None t c =
    let whole = c.in-None.ensures c.requires.kind in
    record {
      reads = D.at c.args.reads.now c.add_reads.new.to _ _ (sym (whole.indices (sight c.args.known))) c.in_ok-_constant-in-None.ensures.adds;
      writes = W.at c.args.writes.now c.args.writes.now _ _ (sym (whole.writes (sight c.args.known))) (W.none c.args.writes.now);
    }

pub add_targets-returns-in_err-add_target : goal.add_targets-returns-in_err-add_target
add_targets-returns-in_err-add_target t c =
    let es = c.args.es.now in
    let i = c.loop-e.e-index in
    let x = c.e-item.result in
    let p = err_from_is_err_and c.from_residual.result c.from_residual.ensures.1 in
    let there : Member es x = F.from-drop i es x (subst (λ xs. Member xs x) (sym (at-front es i x (omega arith) c.e-item.is)) (inl refl)) in
    subst (λ r. TargetsGive r c.args.known es c.args.reads.now c.add_target.new.reads c.args.writes.now c.add_target.new.writes) (sym (p.1 ∙ ap Err p.2))
    (G.some-fails c.in_err-add_target.field-0.0 c.args.known es x there c.in_err-add_target.ensures)

pub add_targets-loop-e-preserved : goal.add_targets-loop-e-preserved
add_targets-loop-e-preserved t c =
    let fs = formals_in c.args.known.functions.now in
    let k = sight c.args.known in
    let es = c.args.es.now in
    let l = c.loop-e in
    let x = c.e-item.result in
    let rest = drop (l.e-index + 1) es in
    let here = at-front es l.e-index x (omega arith) c.e-item.is in
    let one = c.in_ok-add_target.ensures in
    record {
      fits = (subst (λ xs. AllFit xs fs) here l.invariant.fits).1;
      full = (and_parts (is_full fs x) (all_full fs rest) (subst (λ xs. all_full fs xs ≡ true) here l.invariant.full)).1;
      few = omega (arith, l.invariant.few, ap (λ xs. total (map nodes xs)) here);
      reads = λ final h. l.invariant.reads final
          (subst (λ xs. Adds l.reads final (all_indices (map meaning xs) k)) (sym here) (D.both l.reads c.add_target.new.reads final _ _ one.reads h));
      writes = λ final h. l.invariant.writes final
          (subst (λ xs. Writes l.writes final (all_writes (map meaning xs) k)) (sym here) (W.both l.writes c.add_target.new.writes final _ _ one.writes h));
    }

pub add_targets-returns : goal.add_targets-returns
add_targets-returns t c =
    let k = sight c.args.known in
    let l = c.loop-e in
    let ended = drop_of_length-le c.args.es.now (omega arith) in
    record {
      reads = l.invariant.reads l.reads (subst (λ xs. Adds l.reads l.reads (all_indices (map meaning xs) k)) (sym ended) (D.none l.reads));
      writes = l.invariant.writes l.writes (subst (λ xs. Writes l.writes l.writes (all_writes (map meaning xs) k)) (sym ended) (W.none l.writes));
    }

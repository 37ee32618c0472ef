use Rattle.std.proofs.Common.{◌≡◌, ◌∷◌, ◌++◌, [], length, arith, refl, ap, sym, ◌∙◌, subst}
use Rattle.v_meaning.specs.Values.{meaning}
use Rattle.v_build.specs.Trees.{meanings}
use Rattle.path_flatten.proofs.Helping.{grows-none, grows-both}
use Rattle.path_reads.specs.Running.{StoresMarks}
use Rattle.path_reads.proofs.Running.{NamesPieces, meanings-next, marks-none, marks-next, pieces-none, pieces-next, pieces-all}
use Rattle.path_reads.proofs.stored.stored_runs.Goals as goal

pub loop-high-init : goal.loop-high-init
loop-high-init c =
    let m = meaning c.args.of.now in
    let marks = c.args.marks.now in
    record {
      few = omega arith;
      grows = grows-none c.args.helpers.now;
      stores = subst (λ ms. StoresMarks m marks (length marks) c.args.helpers.now (meanings ms)) (sym c.new-made.ensures) (marks-none m marks (length marks) c.args.helpers.now refl);
      names = subst (λ ms. NamesPieces m (meanings ms) (length marks) (length marks)) (sym c.new-made.ensures) (pieces-none m (length marks) (length marks) refl);
    }

pub loop-high-preserved : goal.loop-high-preserved
loop-high-preserved c =
    let m = meaning c.args.of.now in
    let marks = c.args.marks.now in
    let old = c.loop-high.helpers in
    let hs = c.stored_run.new.helpers in
    let run = c.run_below-run.result in
    let below = c.run_below-run.ensures in
    let some = below.some in
    let few = c.loop-high.invariant.few in
    let push : c.push.new.self ≡ c.loop-high.made ++ c.in_ok-piece.piece ∷ [] = c.in_ok-push.ensures.ok in
    let made = sym (ap meanings push ∙ meanings-next c.loop-high.made c.in_ok-piece.piece) in
    record {
      few = omega arith;
      grows = grows-both c.args.helpers.now old hs c.loop-high.invariant.grows c.in_ok-piece.ensures.grows;
      stores = subst (λ ms. StoresMarks m marks run.low hs ms) made
          (marks-next m marks c.loop-high.high old hs (meanings c.loop-high.made) (meaning c.in_ok-piece.piece) run below few c.in_ok-piece.ensures.grows c.loop-high.invariant.stores c.in_ok-piece.ensures.stores);
      names = subst (λ ms. NamesPieces m ms (length marks) run.low) made
          (pieces-next m (meanings c.loop-high.made) (meaning c.in_ok-piece.piece) (length marks) run.low c.loop-high.high c.loop-high.invariant.names c.in_ok-piece.ensures.names);
    }

pub returns-clause-stores : goal.returns-clause-stores
returns-clause-stores c =
    let m = meaning c.args.of.now in
    let none : c.loop-high.high ≡ 0 = omega arith in
    subst (λ k. StoresMarks m c.args.marks.now k c.loop-high.helpers (meanings c.loop-high.made)) none c.loop-high.invariant.stores

pub returns-clause-names : goal.returns-clause-names
returns-clause-names c = pieces-all (meaning c.args.of.now) (meanings c.loop-high.made) (length c.args.marks.now) c.loop-high.high c.loop-high.invariant.names (omega arith)

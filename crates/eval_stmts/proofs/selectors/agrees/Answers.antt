use Rattle.std.proofs.Common.{◌≡◌, ◌≤◌, ◌⊎◌, length, true, false, arith, sym, ◌∙◌}
use Rattle.sv_types.specs.Runs.{match4}
use Rattle.eval_stmts.proofs.Matching as M
use Rattle.eval_stmts.proofs.selectors.agrees.Goals as goal

pub returns-then-not-matches_bit : goal.returns-then-not-matches_bit
returns-then-not-matches_bit c =
    let m : match4 c.args.kind c.at.result c.at-in-loop-i.result ≡ false = cc in
    sym (M.differ c.args.kind c.args.u.now c.args.v.now c.loop-i.i c.at.result c.at-in-loop-i.result (omega arith) (omega arith) c.at.ensures c.at-in-loop-i.ensures m) ∙ c.loop-i.invariant.is

pub loop-i-preserved : goal.loop-i-preserved
loop-i-preserved c =
    let m : match4 c.args.kind c.at.result c.at-in-loop-i.result ≡ true = cc in
    record {
      within = omega arith;
      is = M.agree-on c.args.kind c.args.u.now c.args.v.now c.loop-i.i c.at.result c.at-in-loop-i.result (omega arith) (omega arith) c.at.ensures c.at-in-loop-i.ensures m ∙ c.loop-i.invariant.is;
    }

pub returns : goal.returns
returns c =
    let ended : (length c.args.u.now ≤ c.loop-i.i) ⊎ (length c.args.v.now ≤ c.loop-i.i) = M.by-min (length c.args.u.now) (length c.args.v.now) c.loop-i.i (omega arith) in
    sym (M.all-agree c.args.kind c.args.u.now c.args.v.now c.loop-i.i ended) ∙ c.loop-i.invariant.is

use Rattle.std.proofs.Common.{ap, ◌∙◌, ◌-◌, length, arith, refl, ℕ, Option}
use Rattle.package_scope.specs.Rests.{end_in, end_or}
use Rattle.package_scope.proofs.Remaining.{head-put, head-none}
use Rattle.package_scope.proofs.rests.heads_of.Goals as goal

pub loop-at-init : goal.loop-at-init
loop-at-init c = record {
  ends = λ s. ap (λ (g : ℕ → Option ℕ). end_or (g s)) c.new-heads.ensures ∙ head-none c.args.list.now (length c.args.list.now) (omega arith) s;
  within = omega arith;
}

pub loop-at-preserved : goal.loop-at-preserved
loop-at-preserved c = record {
  ends = head-put (end_in c.loop-at.heads) (end_in c.put.new.self) c.args.list.now c.loop-at.at (c.loop-at.at - 1) _ (record { scope = 0; declared = 0 }) (omega arith) (omega arith) refl c.in_ok-put.ensures c.loop-at.invariant.ends;
  within = omega arith;
}

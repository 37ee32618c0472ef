use Rattle.std.proofs.Common.{◌<◌, [], ◌∷◌, ◌++◌, length, ap, ◌∙◌, sym, List, arith}
use Rattle.v_scopes.specs.Env.{found}
use Rattle.v_scopes.specs.declared.scope.Hidden.{Hidden}
use Rattle.v_scopes.proofs.Undoing.{leave-step}
use Rattle.v_scopes.proofs.scope.Scope.leave.Goals as goal

pub loop-self-preserved : goal.loop-self-preserved
loop-self-preserved c =
    let test = c.loop-self-test.true in
    let size = c.len.ensures in
    let more : c.args.mark < length c.loop-self.self.hidden = omega (arith, test, size) in
    let step = leave-step c.args.mark c.loop-self.self.hidden c.put.new.self.hidden c.in-Some.last (found c.loop-self.self) (found c.put.new.self) more
    (c.in-Some.ensures ∙ ap (λ (hs : List Hidden). hs ++ (c.in-Some.last ∷ [])) (sym c.put.ensures.kept)) c.in_ok-put-in-Some.ensures.puts in
    (step.0 ∙ c.loop-self.invariant.0, step.1 ∙ c.loop-self.invariant.1)

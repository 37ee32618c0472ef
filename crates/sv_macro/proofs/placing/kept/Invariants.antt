use Rattle.std.proofs.Common.{◌≡◌, ◌++◌, map, drop}
use Rattle.sv_macro.specs.Tokens.{moved}
use Rattle.sv_macro.specs.declared.coming.Coming.TheVariants.{Kept}
use Rattle.sv_macro.proofs.placing.kept.Given as goal

abbrev pub invariant-loop-token : goal.invariant-loop-token
invariant-loop-token l = l.items ++ map (λ t. Kept (moved l.at t)) (drop l.token-index l.tokens) ≡ map (λ t. Kept (moved l.at t)) l.tokens

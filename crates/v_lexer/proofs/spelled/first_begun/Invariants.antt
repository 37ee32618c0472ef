use Rattle.std.proofs.Common.{◌≡◌, map, drop, find}
use Rattle.v_tree.specs.Tokens.{begins}
use Rattle.v_lexer.proofs.spelled.first_begun.Given as goal

abbrev pub invariant-loop-place : goal.invariant-loop-place
invariant-loop-place l = find (λ m. begins m l.text) (map (λ w. w.now) (drop l.place l.words)) ≡ find (λ m. begins m l.text) (map (λ w. w.now) l.words)

use Rattle.std.proofs.Common.{◌≡◌, ◌+◌, map, drop}
use Rattle.v_tree.specs.Names.{position}
use Rattle.v_lexer.proofs.spelled.place_or_count.Given as goal

abbrev pub invariant-loop-place : goal.invariant-loop-place
invariant-loop-place l = l.place + position (map (λ w. w.now) (drop l.place l.words)) l.text ≡ position (map (λ w. w.now) l.words) l.text

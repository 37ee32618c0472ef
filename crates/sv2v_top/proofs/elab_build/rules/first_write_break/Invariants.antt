use Rattle.std.proofs.Common.{◌≡◌, drop}
use Rattle.sv2v_top.specs.source.Statements.{targets_in}
use Rattle.sv2v_top.specs.source.Rules.{writes_break}
use Rattle.sv2v_top.specs.source.Lookup.{holds}
use Rattle.sv2v_top.proofs.elab_build.rules.first_write_break.Given as goal

abbrev pub invariant-loop-item : goal.invariant-loop-item
invariant-loop-item l =
    writes_break (λ w. holds l.written w) (λ w. holds l.always w) (targets_in (drop l.item-index l.uses)) ≡ writes_break (λ w. holds l.written w) (λ w. holds l.always w) (targets_in l.uses)

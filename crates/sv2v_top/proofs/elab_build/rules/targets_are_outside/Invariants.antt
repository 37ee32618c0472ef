use Rattle.std.proofs.Common.{◌≡◌, not, drop}
use Rattle.std.specs.List.{list_all}
use Rattle.sv_source.specs.declared.token.Spot.{Spot}
use Rattle.sv2v_top.specs.source.Statements.{targets_in}
use Rattle.sv2v_top.specs.source.Lookup.{holds}
use Rattle.sv2v_top.proofs.elab_build.rules.targets_are_outside.Given as goal

abbrev pub invariant-loop-item : goal.invariant-loop-item
invariant-loop-item l = list_all (λ (s : Spot). not (holds l.names s.word)) (targets_in (drop l.item-index l.uses)) ≡ list_all (λ (s : Spot). not (holds l.names s.word)) (targets_in l.uses)

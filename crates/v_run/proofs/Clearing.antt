-- Locals that are made x, one by one.
use Rattle.std.proofs.Common.{◌≡◌, List, [], ◌∷◌, ◌++◌, ap, ◌∙◌}
use Rattle.row_machine.specs.Valuation.{Changes}
use Rattle.row_machine.specs.Steps.{then_changes}
use Rattle.v_meaning.specs.Scopes.{Named}
use Rattle.v_meaning.specs.Runs.{cleared}
use Rattle.v_run.specs.declared.pieces.Piece.{Piece}
use Rattle.v_run.specs.Changes.{change_of, changes_of, cleared_one}
use Rattle.v_run.proofs.Changed.{changes-more, then-assoc}
use Rattle.v_run.proofs.Targeted.{near-next}

pub clear-next : (made new : List Piece) (p : Piece) (n : Named) (ns : List Named) (all : Changes) → new ≡ made ++ p ∷ [] → change_of p ≡ cleared_one n → then_changes (changes_of made) (cleared (n ∷ ns)) ≡ all → then_changes (changes_of new) (cleared ns) ≡ all
clear-next made new p n ns all is one before =
    ap (λ ps. then_changes (changes_of ps) (cleared ns)) is ∙ ap (λ c. then_changes c (cleared ns)) (changes-more made p ∙ ap (then_changes (changes_of made)) one)
    ∙ then-assoc (changes_of made) (cleared_one n) (cleared ns) ∙ before

pub ruleset clearing = (near-next)

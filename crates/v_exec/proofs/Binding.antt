-- What inputs get, one by one.
use Rattle.std.proofs.Common.{◌≡◌, min, List, [], ◌∷◌, ◌++◌, length, refl, arith, ap, sym, ◌∙◌}
use Rattle.b4_core.specs.declared.bit.Bit4.{Bit4}
use Rattle.row_machine.specs.Valuation.{Changes}
use Rattle.row_machine.specs.Steps.{unchanged, then_changes}
use Rattle.v_meaning.specs.Scopes.{Named}
use Rattle.v_meaning.specs.Functions.{bound}
use Rattle.v_run.specs.declared.pieces.Piece.{Piece}
use Rattle.v_run.specs.Changes.{change_of, changes_of}
use Rattle.v_run.proofs.Changed.{changes-more, then-assoc}
use Rattle.v_run.proofs.Targeted.{near-next}
use Rattle.v_exec.specs.Modules.{bound_one}

pub bind-next : (made new : List Piece) (p : Piece) (n : Named) (ns : List Named) (a : List Bit4) (args : List (List Bit4)) (all : Changes) → new ≡ made ++ p ∷ [] → change_of p ≡ bound_one n a
    → then_changes (changes_of made) (bound (n ∷ ns) (a ∷ args)) ≡ all → then_changes (changes_of new) (bound ns args) ≡ all
bind-next made new p n ns a args all is one before =
    ap (λ ps. then_changes (changes_of ps) (bound ns args)) is ∙ ap (λ c. then_changes c (bound ns args)) (changes-more made p ∙ ap (then_changes (changes_of made)) one)
    ∙ then-assoc (changes_of made) (bound_one n a) (bound ns args) ∙ before

none-bound : (ns : List Named) (args : List (List Bit4)) → min (length ns) (length args) ≡ 0 → bound ns args ≡ unchanged
none-bound [] args h = refl
none-bound (n ∷ ns) [] h = refl
none-bound (n ∷ ns) (a ∷ args) h = absurd (omega (arith, h))

pub bind-end : (ns : List Named) (args : List (List Bit4)) (made : List Piece) (all : Changes) → min (length ns) (length args) ≡ 0 → then_changes (changes_of made) (bound ns args) ≡ all → changes_of made ≡ all
bind-end ns args made all h is = ap (then_changes (changes_of made)) (sym (none-bound ns args h)) ∙ is

pub ruleset binding = (near-next)

-- What an assignment writes.
use Rattle.std.proofs.Common.{◌≡◌, ℕ, List, [], ap, ◌∙◌}
use Rattle.b4_core.specs.declared.bit.Bit4.{Bit4}
use Rattle.row_machine.specs.Valuation.{Valuation}
use Rattle.row_machine.specs.Steps.{then_changes}
use Rattle.v_meaning.specs.Scopes.{Scope}
use Rattle.v_meaning.specs.Values.{Meaning, given}
use Rattle.v_meaning.specs.Statements.{Target, changes_of as assigned_changes}
use Rattle.v_eval.proofs.Loops.{given-is}
use Rattle.v_run.specs.declared.pieces.Piece.{Piece}
use Rattle.v_run.specs.Changes.{changes_of}
use Rattle.v_run.proofs.Changed.{none-first}

pub write-all-of : (old new : List Piece) (t : Target) (m : Meaning) (sc : Scope) (v : Valuation) (n : ℕ) (bits : List Bit4) → old ≡ [] → n ≡ t.width sc → bits ≡ given m n sc v → changes_of new ≡ then_changes (changes_of old) (t.puts sc v bits)
    → changes_of new ≡ assigned_changes t m sc v
write-all-of old new t m sc v n bits none wide value is =
    is ∙ ap (λ ps. then_changes (changes_of ps) (t.puts sc v bits)) none ∙ none-first (t.puts sc v bits) ∙ ap (t.puts sc v) (value ∙ ap (λ k. given m k sc v) wide)

pub ruleset assigning = (given-is, write-all-of)

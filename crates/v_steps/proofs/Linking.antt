-- What connections of ports write.
use Rattle.std.proofs.Common.{◌≡◌, ℕ, max, take, false, List, [], ◌∷◌, ◌++◌, ap, ◌∙◌}
use Rattle.b4_core.specs.declared.bit.Bit4.{Bit4}
use Rattle.b4_core.specs.Vectors.{ext}
use Rattle.row_machine.specs.Valuation.{Valuation}
use Rattle.row_machine.specs.Places.{vector_at}
use Rattle.picks.specs.Windows.{whole, written}
use Rattle.row_machine.specs.Steps.{then_changes}
use Rattle.v_tree.specs.declared.expressions.VExpr.{VExpr}
use Rattle.v_meaning.specs.Scopes.{Scope}
use Rattle.v_meaning.specs.Values.{meaning, given}
use Rattle.v_meaning.specs.Statements.{Target, changes_of as assigned_changes}
use Rattle.v_meaning.specs.Modules.{port_target, port_value}
use Rattle.v_eval.specs.Windows.{window_of}
use Rattle.v_eval.proofs.Reading.{tabulated-more}
use Rattle.v_exec.proofs.Copying.{read-result}
use Rattle.v_run.specs.declared.pieces.Piece.{Piece}
use Rattle.v_run.specs.Changes.{changes_of}
use Rattle.v_run.proofs.Changed.{none-first}
use Rattle.v_run.proofs.Targeted.{near-next}
use Rattle.v_processes.specs.declared.process.Port.{Port}
use Rattle.v_processes.specs.Processes.{port_named}

pub ruleset reading = (tabulated-more)

pub ruleset results = (read-result)

pub write-all-of : (old new : List Piece) (t : Target) (p : Port) (sc : Scope) (v : Valuation) (n : ℕ) (bits : List Bit4) → old ≡ [] → n ≡ t.width sc → bits ≡ take n (ext (max n p.bits) false (vector_at v p.number p.bits))
    → changes_of new ≡ then_changes (changes_of old) (t.puts sc v bits) → changes_of new ≡ assigned_changes t (port_value (port_named p)) sc v
write-all-of old new t p sc v n bits none wide value is =
    is ∙ ap (λ ps. then_changes (changes_of ps) (t.puts sc v bits)) none ∙ none-first (t.puts sc v bits)
    ∙ ap (t.puts sc v) (value ∙ ap (λ k. given (port_value (port_named p)) k sc v) wide)

pub ruleset giving = (write-all-of)

pub write-one-of : (old new : List Piece) (p : Port) (piece : Piece) (e : VExpr) (sc : Scope) (v : Valuation) (n : ℕ) → old ≡ [] → new ≡ old ++ piece ∷ [] → piece.number ≡ p.number → window_of piece.window ≡ whole p.bits
    → n ≡ p.bits → piece.bits ≡ given (meaning e) n sc v → changes_of new ≡ assigned_changes (port_target (port_named p)) (meaning e) sc v
write-one-of old new p piece e sc v n none is number window wide bits =
    ap changes_of (is ∙ ap (λ ps. ps ++ piece ∷ []) none) ∙ ap (λ k. written k (window_of piece.window) piece.bits) number ∙ ap (λ w. written p.number w piece.bits) window
    ∙ ap (λ b. written p.number (whole p.bits) b) (bits ∙ ap (λ k. given (meaning e) k sc v) wide)

pub ruleset taking = (near-next, write-one-of)

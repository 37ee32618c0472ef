-- Where all signals are held, any statement writes what is held.
use Rattle.std.proofs.Common.{◌≡◌, ℕ, Bool, true, false, cond, List, [], ◌∷◌, refl}
use Rattle.sv_types.specs.declared.statement.Stmt.{Stmt}
use Rattle.sv_types.specs.Surroundings.{Parameter, is_signal}
use Rattle.sv_types.specs.Statements.{doing}
use Rattle.eval_stmts.specs.Environments.{AllHeld}
use Rattle.eval_stmts.specs.Limits.{StmtFits}

either-way : (b : Bool) → cond b true true ≡ true
either-way true = refl
either-way false = refl

all-held : (ns : List ℕ) → AllHeld ns (λ n. true)
all-held [] = tt
all-held (n ∷ ns) = (either-way (is_signal n), all-held ns)

pub anywhere : (s : Stmt) (fs : ℕ → List Parameter) (holds : ℕ → Bool) → StmtFits s fs holds → StmtFits s fs (λ n. true)
anywhere s fs holds f = record { keeps = f.keeps; places = f.places; held = all-held ((doing s).targets fs) }

-- What processes may write, form by form.
use Rattle.std.proofs.Common.{◌≡◌, ℕ, Bool, true, false, List, [], ◌++◌, refl, ap, sym, ◌∙◌, subst, append-nil}
use Rattle.v_meaning.specs.Scopes.{Scope, Use}
use Rattle.v_meaning.specs.Values.{Meaning}
use Rattle.v_meaning.specs.Statements.{Target, assignment}
use Rattle.v_meaning.specs.Modules.{scope_of}
use Rattle.v_exec.specs.Modules.{scope_in}
use Rattle.v_modules.specs.declared.table.Table.{Table}
use Rattle.v_modules.specs.Tables.{items_of}
use Rattle.v_processes.specs.declared.process.Does.{Does}
use Rattle.v_processes.specs.Processes.{does_in}
use Rattle.v_steps.proofs.Stepping.{same-scope, narrow-here}
use Rattle.v_writes.specs.Writes.{made}

-- an assignment that is made at once leaves nothing for later
now-made : (t : Target) (m : Meaning) (sc : Scope) (old : List Use) → old ++ t.writes sc ≡ old ++ made false (assignment false t m) sc
unfolding assignment
now-made t m sc old = refl

later-made : (t : Target) (m : Meaning) (sc : Scope) (old : List Use) → old ++ [] ≡ old ++ made true (assignment false t m) sc
unfolding assignment
later-made t m sc old = refl

pub at-once : (t : Target) (m : Meaning) (sc : Scope) (l : Bool) (old new : List Use) → l ≡ false → new ≡ old ++ t.writes sc → new ≡ old ++ made l (assignment false t m) sc
at-once t m sc l old new now is = is ∙ now-made t m sc old ∙ ap (λ b. old ++ made b (assignment false t m) sc) (sym now)

pub none-later : (t : Target) (m : Meaning) (sc : Scope) (l : Bool) (old : List Use) → l ≡ true → old ≡ old ++ made l (assignment false t m) sc
none-later t m sc l old later = sym (append-nil old) ∙ later-made t m sc old ∙ ap (λ b. old ++ made b (assignment false t m) sc) (sym later)

pub ruleset forms = (at-once, none-later)

-- in an instance of a module, whose table this is
pub here : (t : Table) (first : ℕ) (later : Bool) (d : Does) (old new : List Use) → new ≡ old ++ made later (does_in d (scope_in first t.functions t.names)).does (scope_in first t.functions t.names)
    → new ≡ old ++ made later (does_in d (scope_of first (items_of t))).does (scope_of first (items_of t))
here t first later d old new h = subst (λ sc. new ≡ old ++ made later (does_in d sc).does sc) (same-scope t first) h

pub ruleset scopes = (here, narrow-here)

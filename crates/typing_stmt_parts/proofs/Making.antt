-- Items of blocks and what may be left out, as they are made of what has been typed.
use Rattle.std.proofs.Common.{◌≡◌, List, Option, Some, refl, sym, subst}
use Rattle.std.specs.Prelude.{IfOk, Result, Ok, Err}
use Rattle.sv_types.specs.declared.statement.Function.{Function}
use Rattle.sv_types.specs.declared.statement.Stmt as R
use Rattle.expr_type.specs.declared.halt.Halt.{Halt}
use Rattle.expr_type.specs.Statements as D
use Rattle.expr_type.specs.Typings.{Typing, checked, whole}
use Rattle.stmt_laws.specs.Sound.{SoundDeclared}
use Rattle.typing_calls.specs.Lists.{as_meant}
use Rattle.typing_scopes.specs.declared.declared.Declared.{Declared}
use Rattle.typing_scopes.specs.Scopes.{means}
use Rattle.typing_steps.specs.Steps.{TypesTo}
use Rattle.typing_steps.proofs.Combining.{checked-fine, checked-stops}
use Rattle.typing_stmt_parts.specs.declared.parts.Part.{Part}
use Rattle.typing_stmt_parts.specs.declared.parts.Part.TheVariants as P
use Rattle.typing_stmt_parts.specs.Parts.{SoundIn, declared_part, part_meant, statement_part}

-- statements as items
abbrev from_statement : R.Stmt → Typing D.BlockPart
from_statement t = whole (D.IsStatement t)

statement-made : (s : Result R.Stmt Halt) (x : Typing R.Stmt) (fs gs : List Function) → TypesTo s (x fs) gs → TypesTo (as_meant part_meant (as_meant P.Statement s)) (statement_part x fs) gs
statement-made (Ok s) x fs gs p = checked-fine x from_statement fs gs gs s (Ok (D.IsStatement s)) p refl
statement-made (Err h) x fs gs p = checked-stops x from_statement fs gs h p

pub statement-types : (s : Result R.Stmt Halt) (r : Result Part Halt) (x : Typing R.Stmt) (fs gs : List Function) → r ≡ as_meant P.Statement s → TypesTo s (x fs) gs → TypesTo (as_meant part_meant r) (statement_part x fs) gs
statement-types s r x fs gs is p = subst (λ (q : Result Part Halt). TypesTo (as_meant part_meant q) (statement_part x fs) gs) (sym is) (statement-made s x fs gs p)

pub statement-sound : (s : Result R.Stmt Halt) (r : Result Part Halt) (gs : List Function) → r ≡ as_meant P.Statement s → IfOk r (SoundIn gs)
statement-sound s r gs is = subst (λ (q : Result Part Halt). IfOk q (SoundIn gs)) (sym is) (by s)
  where
    by : (s : Result R.Stmt Halt) → IfOk (as_meant P.Statement s) (SoundIn gs)
    by (Ok s) = tt
    by (Err h) = tt

-- declarations as items
abbrev from_declared : D.Declared → Typing D.BlockPart
from_declared d = whole (D.IsDeclared d)

declared-made : (d : Result Declared Halt) (x : Typing D.Declared) (fs gs : List Function) → TypesTo (as_meant means d) (x fs) gs → TypesTo (as_meant part_meant (as_meant P.Declared d)) (declared_part x fs) gs
declared-made (Ok d) x fs gs p = checked-fine x from_declared fs gs gs (means d) (Ok (D.IsDeclared (means d))) p refl
declared-made (Err h) x fs gs p = checked-stops x from_declared fs gs h p

pub declared-types : (d : Result Declared Halt) (r : Result Part Halt) (x : Typing D.Declared) (fs gs : List Function) → r ≡ as_meant P.Declared d → TypesTo (as_meant means d) (x fs) gs → TypesTo (as_meant part_meant r) (declared_part x fs) gs
declared-types d r x fs gs is p = subst (λ (q : Result Part Halt). TypesTo (as_meant part_meant q) (declared_part x fs) gs) (sym is) (declared-made d x fs gs p)

pub declared-sound : (d : Result Declared Halt) (r : Result Part Halt) (gs : List Function) → r ≡ as_meant P.Declared d → ((e : Declared) → d ≡ Ok e → SoundDeclared (means e) gs) → IfOk r (SoundIn gs)
declared-sound d r gs is sound = subst (λ (q : Result Part Halt). IfOk q (SoundIn gs)) (sym is) (by d sound)
  where
    by : (d : Result Declared Halt) → ((e : Declared) → d ≡ Ok e → SoundDeclared (means e) gs) → IfOk (as_meant P.Declared d) (SoundIn gs)
    by (Ok e) sound = sound e refl
    by (Err h) sound = tt

-- what stands behind `else`
abbrev as_some : R.Stmt → Typing (Option R.Stmt)
as_some u = whole (Some u)

some-made : (s : Result R.Stmt Halt) (x : Typing R.Stmt) (fs gs : List Function) → TypesTo s (x fs) gs → TypesTo (as_meant Some s) (checked x as_some fs) gs
some-made (Ok s) x fs gs p = checked-fine x as_some fs gs gs s (Ok (Some s)) p refl
some-made (Err h) x fs gs p = checked-stops x as_some fs gs h p

pub some-types : (s : Result R.Stmt Halt) (r : Result (Option R.Stmt) Halt) (x : Typing R.Stmt) (fs gs : List Function) → r ≡ as_meant Some s → TypesTo s (x fs) gs → TypesTo r (checked x (λ (u : R.Stmt). whole (Some u)) fs) gs
some-types s r x fs gs is p = subst (λ (q : Result (Option R.Stmt) Halt). TypesTo q (checked x as_some fs) gs) (sym is) (some-made s x fs gs p)

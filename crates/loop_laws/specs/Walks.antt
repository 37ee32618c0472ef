-- What statements add to an unrolled list, unless it stopped before.
use Rattle.std.specs.Prelude.{ℕ, List, [], ◌∷◌, map, flat_map, Option, Some, None}
use Rattle.sv_types.specs.declared.expression.Expr.{Expr}
use Rattle.sv_types.specs.declared.statement.Local.{Local}
use Rattle.sv_types.specs.declared.statement.Stmt.{Stmt}
use Rattle.sv_types.specs.declared.statement.CaseItem.{CaseItem}
use Rattle.sv_types.specs.Surroundings.{Parameter}
use Rattle.design_breaks.specs.declared.Unrolled.{Unrolled}
use Rattle.design_breaks.specs.Unrolling.{Unrolls, onward, one_less, in_turn, valuing, uncounted, starts_of}
use Rattle.design_breaks.specs.Actions.{actions}

abbrev pub Formals : Type 0
Formals = ℕ → List Parameter

-- one more statement
abbrev pub one_more : Unrolled → Unrolled
one_more u = record u { left = one_less u.left }

-- expressions
abbrev pub see : List Expr → Unrolls
see es = onward (valuing es)

-- a statement, statements in order, and one that may be left out
abbrev pub unrolls_of : Formals → Stmt → Unrolls
unrolls_of fs s = (actions s).unrolls fs

abbrev pub walk : Formals → Stmt → Unrolls
walk fs s = onward (unrolls_of fs s)

abbrev pub walk_all : Formals → List Stmt → Unrolls
walk_all fs ss = in_turn (map (unrolls_of fs) ss)

abbrev pub those : {A : Type 0} → Option A → List A
those None = []
those (Some x) = x ∷ []

abbrev pub bodies : List CaseItem → List Stmt
bodies is = map (λ (i : CaseItem). i.body) is

abbrev pub values : List CaseItem → List Expr
values is = flat_map (λ (i : CaseItem). i.values) is

-- what stands before the body of a replaced call
abbrev pub walk_before : Formals → List Local → List Stmt → Unrolls
walk_before fs ls ss = onward (uncounted (in_turn (valuing (starts_of ls) ∷ map (unrolls_of fs) ss)))

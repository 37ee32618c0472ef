-- What names stand for, as the code has it.
use Rattle.std.specs.Prelude.{◌≡◌, ℕ, Option, Some, None}
use Rattle.sv_types.specs.declared.frame.SignalId.{SignalId}
use Rattle.expr_type.specs.Names as N
use Rattle.expr_type.specs.Names.{RoutineText, formal_count}
use Rattle.typing_parts.specs.declared.names.Thing.{Thing}
use Rattle.typing_parts.specs.declared.names.Thing.TheVariants as T

abbrev pub StandsFor : Thing → N.Thing → Type 0
StandsFor (T.Signal n t) x = x ≡ N.Signal n t.now
StandsFor (T.Local n t) x = x ≡ N.Local n t.now
StandsFor (T.Constant t v) x = x ≡ N.Constant t.now v.now
StandsFor (T.TypeName t) x = x ≡ N.TypeName t.now
StandsFor (T.Interface n) x = x ≡ N.Interface n
StandsFor (T.Other n) x = x ≡ N.Other n
StandsFor T.Nothing x = x ≡ N.Nothing

abbrev pub Counts : Option ℕ → Option RoutineText → Type 0
Counts None t = t ≡ None
Counts (Some n) None = ⊥
Counts (Some n) (Some t) = n ≡ formal_count t

abbrev pub IsMember : {R : Type 0} → (R → SignalId) → Option R → Option SignalId → Type 0
IsMember of None m = m ≡ None
IsMember of (Some r) m = m ≡ Some (of r)

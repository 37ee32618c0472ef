-- How soon a thing is found of a declaration: locals before values, values before types, and types before the rest.
use Rattle.std.specs.Prelude.{ℕ}
use Rattle.expr_type.specs.Names as N
use Rattle.typing_parts.specs.declared.names.Thing.{Thing}
use Rattle.typing_parts.specs.declared.names.Thing.TheVariants as T

abbrev pub rank : N.Thing → ℕ
rank (N.Local n t) = 0
rank (N.Constant t v) = 1
rank (N.TypeName t) = 2
rank (N.Signal n t) = 3
rank (N.Interface n) = 3
rank (N.Other n) = 3
rank N.Nothing = 3

-- of a thing as the code has it
abbrev pub rank_of : Thing → ℕ
rank_of (T.Local n t) = 0
rank_of (T.Constant t v) = 1
rank_of (T.TypeName t) = 2
rank_of (T.Signal n t) = 3
rank_of (T.Interface n) = 3
rank_of (T.Other n) = 3
rank_of T.Nothing = 3

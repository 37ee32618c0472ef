-- What names stand for behind declarations.
use Rattle.std.specs.Prelude.{ℕ, List, [], ◌∷◌, Option, Some, None}
use Rattle.v_tree.specs.Names.{Name}
use Rattle.v_tree.specs.declared.items.VLocal.{VLocal}
use Rattle.v_scopes.specs.Env.{Env, given}
use Rattle.v_scopes.specs.declared.entry.Entry.{Entry}
use Rattle.v_scopes.specs.declared.entry.Entry.TheVariants.{Value, Part}
use Rattle.v_scopes.specs.declared.entry.Kind.TheVariants.{Local}

-- of two with one name the first one counts
abbrev pub parts_given : List Name → Env → Env
parts_given [] env = env
parts_given (n ∷ ns) env = given (parts_given ns env) n (Some Part)

abbrev pub locals_given : List VLocal → Env → Env
locals_given [] env = env
locals_given (l ∷ ls) env = given (locals_given ls env) l.name (Some (Value Local l.range))

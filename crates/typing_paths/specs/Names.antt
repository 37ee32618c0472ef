-- Names that are assigned to, over whole texts: the definitions of `expr_type`.
use Rattle.std.specs.Prelude.{ℕ, Bool, ◌&&◌, List, map, Ok}
use Rattle.sv_tree.specs.Extents.{qualified_first}
use Rattle.sv_tree.specs.declared.expressions.Select.{Select}
use Rattle.sv_tree.specs.declared.names.QualifiedName.{QualifiedName}
use Rattle.sv_types.specs.declared.expression.Form.TheVariants as F
use Rattle.sv_types.specs.declared.types.SvType.{SvType}
use Rattle.expr_type.specs.declared.operand.Valued.{Valued}
use Rattle.expr_type.specs.Expressions.{select_meaning}
use Rattle.expr_type.specs.Names.{Context, member_in, position, word}
use Rattle.expr_type.specs.Operators.{by_itself}
use Rattle.expr_type.specs.TargetNames.{interface_target, is_net_found, member_target, named_target}
use Rattle.expr_type.specs.Typings.{Checked, Typing, refused, rule, whole}
use Rattle.typing_paths.specs.Paths.{path_of}

-- a signal and a local by themselves, and with selects behind them
abbrev pub signal_target_of : Context → Bool → QualifiedName → ℕ → SvType → Checked Valued
signal_target_of k in_statement of n t =
    refused (in_statement && is_net_found k (k.finds of)) (position k.source (qualified_first of)) 501 (Ok (by_itself k.source (qualified_first of) t (F.Signal n)))

abbrev pub signal_path_of : Context → Bool → QualifiedName → ℕ → SvType → List Select → Typing Valued
signal_path_of k in_statement of n t ss = path_of k (rule (signal_target_of k in_statement of n t)) ss

abbrev pub local_path_of : Context → QualifiedName → ℕ → SvType → List Select → Typing Valued
local_path_of k of n t ss = path_of k (whole (by_itself k.source (qualified_first of) t (F.Local n))) ss

-- a member of an interface
abbrev pub member_target_of : Context → Bool → ℕ → ℕ → ℕ → Checked Valued
member_target_of k in_statement first interface at = member_target k in_statement first interface at (member_in interface (word k.source at) k.signals)

abbrev pub member_path_of : Context → Bool → ℕ → ℕ → List Select → Typing Valued
member_path_of k in_statement first interface ss = interface_target k in_statement first interface (map select_meaning ss)

-- a name with the selects behind it
abbrev pub named_target_of : Context → Bool → QualifiedName → List Select → Typing Valued
named_target_of k in_statement of ss = named_target k in_statement of (map select_meaning ss)

-- Targets over whole texts: the definitions of `expr_type`.
use Rattle.std.specs.Prelude.{ℕ, Bool, List, map}
use Rattle.sv_tree.specs.declared.expressions.Expr.{Expr}
use Rattle.sv_tree.specs.declared.expressions.Select.{Select}
use Rattle.sv_tree.specs.declared.operators.AssignmentOperator.{AssignmentOperator}
use Rattle.sv_tree.specs.declared.operators.StreamOperator.{StreamOperator}
use Rattle.sv_tree.specs.declared.statements.Lvalue.{Lvalue}
use Rattle.sv_types.specs.declared.statement.Stmt.{Stmt}
use Rattle.expr_type.specs.declared.operand.Valued.{Valued}
use Rattle.expr_type.specs.Expressions.{meaning}
use Rattle.expr_type.specs.Forms.{reverses}
use Rattle.expr_type.specs.Names.{Context}
use Rattle.expr_type.specs.Operands.{Operand}
use Rattle.expr_type.specs.Statements.{assignment}
use Rattle.expr_type.specs.Targets.{Target, TargetPart, ToPath, is_target_part, joined_target, simple_name, stream_target, target, whole_of}
use Rattle.expr_type.specs.Typings.{Typing, all, both, checked, rule, whole}
use Rattle.typing_paths.specs.Names.{named_target_of}

-- a name with the selects behind it
abbrev pub path_of_name : Context → Bool → ℕ → List Select → Typing Target
path_of_name k in_statement name ss = checked (named_target_of k in_statement (simple_name name) ss) (λ v. whole (ToPath v))

-- targets as parts of a concatenation
abbrev pub as_part : Context → Typing Target → Typing TargetPart
as_part k x = checked x (λ u. rule (is_target_part k u))

abbrev pub part_of : Context → Bool → Lvalue → Typing TargetPart
part_of k in_statement t = as_part k (target t k in_statement)

abbrev pub parts_of : Context → Bool → List Lvalue → Typing (List TargetPart)
parts_of k in_statement ts = all (map (part_of k in_statement) ts)

abbrev pub joined : Context → ℕ → Typing (List TargetPart) → Typing Target
joined k opening x = checked x (λ ps. rule (joined_target k opening ps))

-- and of a stream
abbrev pub as_whole : Typing Target → Typing Valued
as_whole x = checked x (λ u. whole (whole_of u))

abbrev pub whole_at : Context → Bool → Lvalue → Typing Valued
whole_at k in_statement t = as_whole (target t k in_statement)

abbrev pub wholes_of : Context → Bool → List Lvalue → Typing (List Valued)
wholes_of k in_statement ts = all (map (whole_at k in_statement) ts)

abbrev pub streamed : Context → ℕ → StreamOperator → Typing ℕ → Typing (List Valued) → Typing Target
streamed k opening operator x y = both x y (λ n vs. rule (stream_target k opening (reverses operator) n vs))

-- values as they are
abbrev pub as_itself : Valued → Valued
as_itself v = v

-- a value that is assigned to a target
abbrev pub assigned : Context → ℕ → AssignmentOperator → Typing Target → Typing Operand → Typing Stmt
assigned k at op x y = both x y (λ t o. rule (assignment k at op t o))

abbrev pub assigned_to : Context → Bool → Lvalue → ℕ → AssignmentOperator → Expr → Typing Stmt
assigned_to k in_statement to at op e = assigned k at op (target to k in_statement) ((meaning e).typed k)

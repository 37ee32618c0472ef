-- What is assigned to (IEEE 1800-2017 clauses 10.3, 10.4, 11.4.12 and 11.4.14).
use Rattle.std.specs.Prelude.{ℕ, ◌%◌, Bool, false, ◌&&◌, ◌||◌, ◌==◌, nat_lt, not, List, [], ◌∷◌, map, Option, Some, None, Ok, Err}
use Rattle.std.specs.List.{list_any}
use Rattle.sv_tree.specs.declared.expressions.SliceSize.{SliceSize}
use Rattle.sv_tree.specs.declared.names.QualifiedName.{QualifiedName}
use Rattle.sv_tree.specs.declared.statements.Lvalue.{Lvalue, Lvalue-F, fold-Lvalue}
use Rattle.sv_types.specs.declared.expression.Choice.{Choice-F}
use Rattle.sv_types.specs.declared.expression.Expr.{Expr, Expr-F, fold-Expr}
use Rattle.sv_types.specs.declared.expression.Form.{Form-F}
use Rattle.expr_type.specs.Breaks.{At}
use Rattle.expr_type.specs.Typings.{Checked, Typing, whole, rule, checked, both, all, lesser, where_whole, refused}
use Rattle.sv_types.specs.declared.types.SvType.{SvType}
use Rattle.expr_type.specs.Shapes.{is_enum, is_unpacked}
use Rattle.expr_type.specs.Names.{Context, Source, position}
use Rattle.expr_type.specs.declared.operand.Valued.{Valued}
use Rattle.expr_type.specs.Operands.{Operand, Plain, Pattern, Stream, given, width}
use Rattle.expr_type.specs.Operators.{concat_of, exprs, all_bits}
use Rattle.expr_type.specs.Forms.{reverses, stream_of}
use Rattle.expr_type.specs.Expressions.{select_meaning, slice_meaning}
use Rattle.expr_type.specs.TargetNames.{named_target}

-- A target: a path; a concatenation with its parts, and whether one of them is an enum; or a stream, with the bits of its slices where
-- it reverses them.
pub data Target : Type 0 where
  ToPath : Valued → Target
  ToParts : Valued → List Valued → Bool → Target
  ToStream : Valued → Target

abbrev pub whole_of : Target → Valued
whole_of (ToPath v) = v
whole_of (ToParts v vs e) = v
whole_of (ToStream v) = v

-- a part of a concatenated target has bits (E508), and is no stream (E512)
pub record TargetPart : Type 0 where
  pub of : Valued
  pub has_enum : Bool

abbrev pub is_target_part : Context → Target → Checked TargetPart
is_target_part k (ToPath v) =
    refused (is_unpacked v.expr.of) (position k.source v.first) 508 (Ok (record { of = v; has_enum = is_enum v.expr.of }))
is_target_part k (ToParts v vs e) = Ok (record { of = v; has_enum = e })
is_target_part k (ToStream v) = Err (At (position k.source v.first) 512)

abbrev pub joined_target : Context → ℕ → List TargetPart → Checked Target
joined_target k opening ps =
    let vs = map (λ (p : TargetPart). p.of) ps in
    where_whole (concat_of k.source opening (exprs vs)) (λ v. Ok (ToParts v vs (list_any (λ (p : TargetPart). p.has_enum) ps)))

-- a stream that reverses its slices has whole slices alone (E511)
abbrev pub stream_target : Context → ℕ → Bool → ℕ → List Valued → Checked Target
stream_target k opening reversed n vs =
    refused (reversed && not (all_bits (exprs vs) % n == 0)) (position k.source opening) 511
    (where_whole (stream_of k.source opening reversed n (exprs vs)) (λ v. Ok (ToStream v)))

abbrev pub TargetMeaning : Type 0
TargetMeaning = Context → Bool → Typing Target

abbrev pub simple_name : ℕ → QualifiedName
simple_name at = record { scope = None; name = at }

abbrev pub slice_or_one : Context → Option SliceSize → Typing ℕ
slice_or_one k None = whole 1
slice_or_one k (Some z) = slice_meaning z k

abbrev pub target_step : Lvalue-F TargetMeaning → TargetMeaning
target_step (Lvalue-F.Name name selects) k in_statement =
    checked (named_target k in_statement (simple_name name) (map select_meaning selects)) (λ v. whole (ToPath v))
target_step (Lvalue-F.Concatenation opening targets closing) k in_statement =
    checked (all (map (λ (t : TargetMeaning). checked (t k in_statement) (λ u. rule (is_target_part k u))) targets))
    (λ ps. rule (joined_target k opening ps))
target_step (Lvalue-F.Stream opening operator at size inner_opening targets inner_closing closing) k in_statement =
    both (slice_or_one k size) (all (map (λ (t : TargetMeaning). checked (t k in_statement) (λ u. whole (whole_of u))) targets))
    (λ n vs. rule (stream_target k opening (reverses operator) n vs))

-- a target, of a statement or not
abbrev pub target : Lvalue → TargetMeaning
target = fold-Lvalue TargetMeaning target_step

-- what an assignment writes, in order
abbrev pub parts_of : Target → List Expr
parts_of (ToPath v) = v.expr ∷ []
parts_of (ToParts v vs e) = exprs vs
parts_of (ToStream v) = v.expr ∷ []

-- A target stream takes no more bits than its value has (E501). What is given to another target is assigned to its bits.
abbrev pub has_enough : Context → Valued → Operand → Checked Expr
has_enough k v (Plain u) =
    refused (nat_lt (width u) (width v)) (position k.source v.first) 501 (refused (is_unpacked u.expr.of) (position k.source u.first) 501 (Ok u.expr))
has_enough k v (Pattern tick of) = Err (At (position k.source tick) 505)
has_enough k v (Stream u) = refused (nat_lt (width u) (width v)) (position k.source v.first) 501 (Ok u.expr)

-- An enum in a concatenated target is given plain bits (E503), but those of a stream are converted.
abbrev pub with_no_enum : Source → Bool → ℕ → Checked Expr → Checked Expr
with_no_enum k e first x = where_whole (lesser (refused e (position k first) 503 (Ok e)) x) (λ p. Ok p.1)

abbrev pub given_to_parts : Source → SvType → Bool → Operand → Checked Expr
given_to_parts k t e (Plain u) = with_no_enum k e u.first (given k t (Plain u))
given_to_parts k t e (Pattern tick of) = with_no_enum k e tick (of tick t)
given_to_parts k t e (Stream u) = given k t (Stream u)

abbrev pub assigned : Context → Target → Operand → Checked Expr
assigned k (ToPath v) o = given k.source v.expr.of o
assigned k (ToParts v vs e) o = given_to_parts k.source v.expr.of e o
assigned k (ToStream v) o = has_enough k v o

-- Whether an expression is an enum or a concatenation with one, and whether it is a concatenation with one.
abbrev pub choice_enum : Choice-F Bool Bool Bool → Bool
choice_enum c = false

abbrev pub form_enum : Form-F Bool Bool Bool → Bool
form_enum (Form-F.Concat es) = list_any (λ b. b) es
form_enum _ = false

abbrev pub expr_enum : Expr-F Bool Bool Bool → Bool
expr_enum e = is_enum e.of || e.form

abbrev pub has_enum : Expr → Bool
has_enum = fold-Expr Bool Bool Bool choice_enum form_enum expr_enum

abbrev pub has_enum_part : Expr → Bool
has_enum_part e = not (is_enum e.of) && has_enum e

-- Typed expressions as they stand in others: alone, or as what is given to a target.
use Rattle.std.specs.Prelude.{ℕ, ◌^◌, max, Bool, true, false, ◌&&◌, nat_lt, not, cond, ℤ, int_le, List, [], ◌∷◌, Option, Some, None, Ok, Err}
use Rattle.b4_core.specs.declared.bit.Bit4.TheVariants.{X}
use Rattle.b4_core.specs.Vectors.{known, number}
use Rattle.sv_types.specs.declared.expression.Expr.{Expr}
use Rattle.sv_types.specs.declared.statement.Function.{Function}
use Rattle.sv_types.specs.declared.types.SvType.{SvType}
use Rattle.sv_types.specs.declared.types.Value.{Value}
use Rattle.sv_types.specs.Expressions.{meaning}
use Rattle.sv_types.specs.Functions.{callees}
use Rattle.sv_types.specs.Layouts.{layout, width_of}
use Rattle.sv_types.specs.Meanings.{alone, signed}
use Rattle.sv_types.specs.Operators.{assigned_to}
use Rattle.sv_types.specs.Surroundings.{Around}
use Rattle.sv_types.specs.Values.{value_of_bits}
use Rattle.expr_type.specs.declared.operand.Number.{Number}
use Rattle.expr_type.specs.declared.operand.Valued.{Valued}
use Rattle.expr_type.specs.Breaks.{At}
use Rattle.expr_type.specs.Typings.{lesser, Checked, Typing, where_whole, refused, unless, at_all, checked, rule, by_functions}
use Rattle.expr_type.specs.Shapes.{most_arithmetic, most_bits, is_unpacked, is_assignable, is_plain_to_enum}
use Rattle.expr_type.specs.Uses.{holds_stream, names_any}
use Rattle.expr_type.specs.Names.{Source, position}

-- Operators do arithmetic and compare by order at up to 128 bits: those in an operand that are too wide in a context of a width. In
-- one of its own width none is.
abbrev pub too_wide : ℕ → List ℕ → List ℕ
too_wide w [] = []
too_wide w (at ∷ ats) = cond (nat_lt most_arithmetic w) (at ∷ ats) []

abbrev pub width : Valued → ℕ
width v = width_of v.expr.of

-- A value; a pattern by its tick, which is typed by the first token of the whole and the type that it is given to; or a stream.
pub data Operand : Type 0 where
  Plain : Valued → Operand
  Pattern : ℕ → (ℕ → SvType → Checked Expr) → Operand
  Stream : Valued → Operand

-- An operand that nothing is given to: a pattern there has no type (E505), and a stream can't stand there (E512).
abbrev pub is_value : Source → Operand → Checked Valued
is_value k (Plain v) = Ok v
is_value k (Pattern tick of) = Err (At (position k tick) 505)
is_value k (Stream v) = Err (At (position k v.first) 512)

-- in parentheses
abbrev pub parenthesized : ℕ → Operand → Operand
parenthesized opening (Plain v) = Plain (record v { begins = opening })
parenthesized opening (Pattern tick of) = Pattern tick of
parenthesized opening (Stream v) = Stream v

abbrev pub first_of : Operand → ℕ
first_of (Plain v) = v.first
first_of (Pattern tick of) = tick
first_of (Stream v) = v.first

abbrev pub value : Source → Typing Operand → Typing Valued
value k x = checked x (λ o. rule (is_value k o))

-- no operator does arithmetic on more than 128 bits (E502)
abbrev pub sized : {A : Type 0} → Source → ℕ → Valued → A → Checked A
sized k w v a = unless (at_all k.instance 502 (too_wide w v.arithmetic)) a

-- an operand of which the bits are wanted (E508)
abbrev pub has_bits : Source → Valued → Checked Valued
has_bits k v = refused (is_unpacked v.expr.of) (position k v.first) 508 (Ok v)

abbrev pub bits_in : Source → Typing Operand → Typing Valued
bits_in k x = checked (value k x) (λ v. rule (has_bits k v))

-- What is given to a target of a type (clauses 6.19.3, 10.8 and 11.4.14). An enum takes only its own type, but a stream is
-- converted by its bits.
abbrev pub is_plain : Source → SvType → Valued → Checked Expr
is_plain k t v = refused (is_plain_to_enum t v.expr.of) (position k v.first) 503 (Ok v.expr)

abbrev pub is_given : Source → SvType → Valued → Checked Expr
is_given k t v =
    refused (not (is_assignable t v.expr.of)) (position k v.first) 501
    (where_whole (lesser (is_plain k t v) (sized k (max (width_of t) (width v)) v v)) (λ p. Ok p.0))

abbrev pub is_streamed : Source → SvType → Valued → Checked Expr
is_streamed k t v =
    refused (nat_lt (width_of t) (width v)) (position k v.first) 501 (refused (nat_lt most_bits (width_of t)) (position k v.first) 701 (Ok v.expr))

-- an assignment
abbrev pub given : Source → SvType → Operand → Checked Expr
given k t (Plain v) = is_given k t v
given k t (Pattern tick of) = of tick t
given k t (Stream v) = is_streamed k t v

-- an item of a pattern, an actual, or what stands in the head of a loop: no stream can stand there
abbrev pub passed : Source → SvType → Operand → Checked Expr
passed k t (Plain v) = is_given k t v
passed k t (Pattern tick of) = of tick t
passed k t (Stream v) = Err (At (position k v.first) 512)

-- an operand where no stream can stand
abbrev pub no_stream : Source → Operand → Checked Operand
no_stream k (Plain v) = Ok (Plain v)
no_stream k (Pattern tick of) = Ok (Pattern tick of)
no_stream k (Stream v) = Err (At (position k v.first) 512)

abbrev pub unstreamed : Source → Typing Operand → Typing Operand
unstreamed k x = checked x (λ o. rule (no_stream k o))

-- Constants. They name no signal and no local (E406), call no function that holds a stream (E512), and are valued within
-- 65,536 turns of each loop and 2^20 statements (E608). Other rules on them stand between these.
abbrev pub nothing_held : List Function → Around
nothing_held fs = record { now = λ q. X; holds = λ n. false; callee = callees fs }

-- a stream as a constant
abbrev pub constant_stream : {A : Type 0} → Source → Valued → Checked A
constant_stream k v = refused (names_any v.expr) (position k v.first) 406 (Err (At (position k v.first) 512))

abbrev pub is_constant_value : Source → Operand → Checked Valued
is_constant_value k (Plain v) = Ok v
is_constant_value k (Pattern tick of) = Err (At (position k tick) 505)
is_constant_value k (Stream v) = constant_stream k v

abbrev pub constant_in : Source → Typing Operand → Typing Valued
constant_in k x = checked x (λ o. rule (is_constant_value k o))

abbrev pub stops : List Function → Expr → Bool
stops fs e = elim ((meaning e).values (nothing_held fs) (record { left = Some (2 ^ 20); stop = None })).stop [ None ↦ false | Some s ↦ true ]

abbrev pub calls_no_stream : Source → ℕ → List Function → Expr → Checked Expr
calls_no_stream k first fs e = refused (holds_stream fs e) (position k first) 512 (Ok e)

abbrev pub is_constant : {A : Type 0} → Source → ℕ → List Function → Expr → Checked A → Checked A
is_constant k first fs e other =
    refused (names_any e) (position k first) 406
    (where_whole (lesser other (calls_no_stream k first fs e)) (λ p. refused (stops fs e) (position k first) 608 (Ok p.0)))

-- the number of a constant, unless a bit of it is x or z
abbrev pub number_of : List Function → Expr → Option ℤ
number_of fs e =
    let v = alone (meaning e) (nothing_held fs) in
    cond (known v) (Some (number (signed (meaning e)) v)) None

abbrev pub in_range : ℤ → ℤ → Option ℤ → Option ℤ
in_range low high None = None
in_range low high (Some n) = cond (int_le low n && int_le n high) (Some n) None

abbrev pub number_or : Source → ℕ → Option ℤ → Checked Number
number_or k first None = Err (At (position k first) 411)
number_or k first (Some n) = Ok (record { first = first; number = n })

-- a constant number in a range (E411)
abbrev pub is_number_in : Source → ℤ → ℤ → Valued → List Function → Checked Number
is_number_in k low high v fs =
    where_whole (is_constant k v.first fs v.expr (has_bits k v)) (λ u. number_or k u.first (in_range low high (number_of fs u.expr)))

abbrev pub number_within : Source → ℤ → ℤ → Typing Operand → Typing Number
number_within k low high x = checked (constant_in k x) (λ v. by_functions (is_number_in k low high v))

-- a constant that is given to a type, and one that is a value of its own
abbrev pub constant_given : Source → SvType → Valued → List Function → Checked Expr
constant_given k t v fs = is_constant k v.first fs v.expr (is_given k t v)

abbrev pub constant_pattern : Source → ℕ → Checked Expr → List Function → Checked Expr
constant_pattern k tick x fs = where_whole x (λ e. is_constant k tick fs e (Ok e))

abbrev pub constant_of : Source → SvType → Operand → List Function → Checked Expr
constant_of k t (Plain v) fs = constant_given k t v fs
constant_of k t (Pattern tick of) fs = constant_pattern k tick (of tick t) fs
constant_of k t (Stream v) fs = constant_stream k v

abbrev pub constant_alone : Source → Valued → List Function → Checked Expr
constant_alone k v fs = is_constant k v.first fs v.expr (Ok v.expr)

-- the value of a constant of a type
abbrev pub value_by : List Function → SvType → Expr → Value
value_by fs t e = value_of_bits t (assigned_to (layout t).two_state (meaning e) (nothing_held fs))

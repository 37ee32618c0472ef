-- Numbers, names, casts, calls, system functions and streams as they are typed (IEEE 1800-2017 clauses 5.7, 6.24, 11.4.14, 13.4
-- and 20).
use Rattle.std.specs.Prelude.{ℕ, ◌^◌, Bool, true, false, ◌&&◌, ◌||◌, ◌==◌, nat_lt, nat_le, not, cond, codes, ℤ, pos, ◌-ℤ◌, unsigned_abs, List, [], ◌∷◌, length, map, zip, Option, Some, None, Ok, Err}
use Rattle.std.specs.Str.{bytes_eq}
use Rattle.b4_core.specs.Bits.{known4}
use Rattle.b4_core.specs.Vectors.{vec}
use Rattle.sv_tree.specs.declared.names.QualifiedName.{QualifiedName}
use Rattle.sv_tree.specs.declared.names.Signing.{Signing}
use Rattle.sv_tree.specs.declared.names.Signing.TheVariants.{Signed, Unsigned}
use Rattle.sv_tree.specs.declared.operators.StreamOperator.{StreamOperator}
use Rattle.sv_tree.specs.declared.operators.StreamOperator.TheVariants as D
use Rattle.sv_tree.specs.Extents.{qualified_first}
use Rattle.sv_types.specs.declared.expression.Expr.{Expr}
use Rattle.sv_types.specs.declared.expression.Form.TheVariants as F
use Rattle.sv_types.specs.declared.frame.SignalId.{SignalId}
use Rattle.sv_types.specs.declared.statement.Formal.{Formal}
use Rattle.sv_types.specs.declared.types.SvType.{SvType}
use Rattle.sv_types.specs.Layouts.{width_of}
use Rattle.sv_types.specs.Values.{value_of_bits}
use Rattle.expr_type.specs.Breaks.{Position, At, And, Quiet}
use Rattle.expr_type.specs.Typings.{Checked, Typing, where_whole, refused, all_of, whole, broken, rule, checked, both, all, from_token}
use Rattle.expr_type.specs.Shapes.{most_bits, integer, one_bit, vector, is_assignable, is_unpacked}
use Rattle.expr_type.specs.Literals as L
use Rattle.expr_type.specs.Names.{Called, Context, RoutineText, Source, formal_count, Thing, Signal, Local, Constant, TypeName, Interface, Other, Nothing, position, thing, word, member_in}
use Rattle.expr_type.specs.declared.operand.Valued.{Valued}
use Rattle.expr_type.specs.Operands.{Operand, Plain, Pattern, Stream, value, bits_in, passed, width, number_within}
use Rattle.expr_type.specs.Operators.{by_itself, all_bits, is_signed, not_too_long}
use Rattle.expr_type.specs.declared.step.Step.{Step}
use Rattle.expr_type.specs.Selects.{path}
use Rattle.expr_type.specs.KeywordTypes.{Dim, named_type}

abbrev pub most_of_literal : ℕ
most_of_literal = 128

abbrev pub unsized : Valued → Valued
unsized v = record v { is_unsized = true }

-- Numbers. One without a size has 32 bits (E411), one with a size at most 128 (E502).
abbrev pub decimal : Source → ℕ → Checked Valued
decimal k at =
    let n = L.decimal (word k at) in
    refused (nat_le (2 ^ 32) n) (position k at) 411 (Ok (unsized (by_itself k at (vector 32 true) (F.Literal (vec 32 (pos n)) false))))

abbrev pub based : Source → ℕ → Checked Valued
based k at =
    let b = L.based (word k at) in
    refused (not (L.fits_unsized b)) (position k at) 411
    (Ok (unsized (by_itself k at (vector 32 b.signed) (F.Literal (L.bits_in 32 b) (not b.signed && not (known4 (L.above b)))))))

abbrev pub sized_number : Source → ℕ → ℕ → Checked Valued
sized_number k size at =
    let n = L.decimal (word k size) in
    let b = L.based (word k at) in
    refused (n == 0) (position k size) 411
    (refused (nat_lt most_of_literal n) (position k size) 502 (Ok (by_itself k size (vector n b.signed) (F.Literal (L.bits_in n b) false))))

abbrev pub fill : Source → ℕ → Checked Valued
fill k at = Ok (by_itself k at one_bit (F.Fill (L.fill_digit (word k at))))

-- Names with the selects behind them. A member of an interface's instance or port is a signal (E405). What has a broken
-- declaration isn't whole, and breaks nothing here. So it is with a member that has more bits than all signals may have together (E702),
-- which is broken in the interface's own text.
abbrev pub most_of_signals : ℕ
most_of_signals = 4194304

abbrev pub where_narrow : {A : Type 0} → SvType → Checked A → Checked A
where_narrow t x = cond (nat_lt most_of_signals (width_of t)) (Err Quiet) x

abbrev pub member_signal : Source → ℕ → SignalId → Checked Valued
member_signal k first s = where_narrow s.of (Ok (by_itself k first s.of (F.Signal s.signal)))

abbrev pub signal_or : Source → ℕ → ℕ → Option SignalId → Checked Valued
signal_or k first at None = Err (At (position k at) 405)
signal_or k first at (Some s) = member_signal k first s

-- the member that the first select names
pub record SelectMeaning : Type 0 where
  pub member : Option ℕ
  pub step : Context → Typing Step
  pub dimension : Context → Typing Dim

abbrev pub steps : Context → List SelectMeaning → List (Typing Step)
steps k ss = map (λ (s : SelectMeaning). s.step k) ss

abbrev pub dimensions : Context → List SelectMeaning → Typing (List Dim)
dimensions k ss = all (map (λ (s : SelectMeaning). s.dimension k) ss)

abbrev pub of_interface : Context → ℕ → ℕ → List SelectMeaning → Typing Valued
of_interface k first n [] = broken Quiet
of_interface k first n (s ∷ ss) = elim s.member [
  | None ↦ broken Quiet
  | Some at ↦ path k.source (rule (signal_or k.source first at (member_in n (word k.source at) k.signals))) (steps k ss)
]

abbrev pub by_thing : Context → ℕ → List SelectMeaning → Thing → Typing Valued
by_thing k first ss (Signal n t) = path k.source (whole (by_itself k.source first t (F.Signal n))) (steps k ss)
by_thing k first ss (Local n t) = path k.source (whole (by_itself k.source first t (F.Local n))) (steps k ss)
by_thing k first ss (Constant t v) = path k.source (whole (by_itself k.source first t (F.Constant v))) (steps k ss)
by_thing k first ss (TypeName t) = broken Quiet
by_thing k first ss (Interface n) = of_interface k first n ss
by_thing k first ss (Other n) = broken Quiet
by_thing k first ss Nothing = broken Quiet

abbrev pub named : Context → QualifiedName → List SelectMeaning → Typing Valued
named k of ss = by_thing k (qualified_first of) ss (thing k of)

-- the type that a name stands for, if it stands for one
abbrev pub type_of_thing : Thing → Option SvType
type_of_thing (Signal n t) = None
type_of_thing (Local n t) = None
type_of_thing (Constant t v) = None
type_of_thing (TypeName t) = Some t
type_of_thing (Interface n) = None
type_of_thing (Other n) = None
type_of_thing Nothing = None

-- An unpacked type doesn't stand under packed dimensions (E404).
abbrev pub under : Source → SvType → List Dim → Checked SvType
under k t [] = Ok t
under k t (d ∷ ds) = refused (is_unpacked t) (position k d.opening) 404 (Ok (named_type t (d ∷ ds)))

abbrev pub dimensioned : Source → SvType → Typing (List Dim) → Typing SvType
dimensioned k t ds = checked ds (λ d. rule (under k t d))

-- What stands behind the tick of a cast: a value, or a pattern.
pub record Inside : Type 0 where
  pub tick : ℕ
  pub is_pattern : Bool
  pub of : Operand

-- A cast to a type converts as an assignment does, but an enum takes any value that has bits.
abbrev pub cast_expr : Source → ℕ → SvType → Expr → Valued
cast_expr k first t e = by_itself k first t (F.Cast e)

abbrev pub converted : Source → ℕ → ℕ → SvType → Operand → Checked Valued
converted k first tick t (Plain v) =
    not_too_long k tick (width_of t) (refused (not (is_assignable t v.expr.of)) (position k v.first) 501 (Ok (cast_expr k first t v.expr)))
converted k first tick t (Pattern other of) = where_whole (of other t) (λ e. not_too_long k tick (width_of t) (Ok (cast_expr k first t e)))
converted k first tick t (Stream v) = Err (At (position k v.first) 512)

abbrev pub pattern_of_type : Source → ℕ → SvType → Operand → Checked Valued
pattern_of_type k first t (Plain v) = Err Quiet
pattern_of_type k first t (Pattern tick of) = where_whole (of first t) (λ e. Ok (record { first = first; begins = first; is_unsized = false; expr = e; arithmetic = [] }))
pattern_of_type k first t (Stream v) = Err Quiet

abbrev pub type_cast : Source → ℕ → SvType → Inside → Checked Valued
type_cast k first t i = cond i.is_pattern (pattern_of_type k first t i.of) (converted k first i.tick t i.of)

-- A cast to a size keeps the sign, one to a sign the width. A pattern there has no type.
abbrev pub not_pattern : {A : Type 0} → Source → Inside → Typing A → Typing A
not_pattern k i x = cond i.is_pattern (broken (At (position k i.tick) 505)) x

abbrev pub bits_inside : Source → Typing Inside → Typing (ℕ × Valued)
bits_inside k x = checked x (λ i. not_pattern k i (checked (bits_in k (whole i.of)) (λ v. whole (i.tick, v))))

abbrev pub size_cast : Source → ℕ → ℕ → ℕ × Valued → Checked Valued
size_cast k first n i = not_too_long k i.0 n (Ok (by_itself k first (vector n (is_signed i.1)) (F.Cast i.1.expr)))

abbrev pub most_of_size : ℤ
most_of_size = pos (2 ^ 32) -ℤ pos 1

abbrev pub by_size : Source → ℕ → Typing Operand → Typing Inside → Typing Valued
by_size k first x i = both (number_within k (pos 1) most_of_size x) (bits_inside k i) (λ n p. rule (size_cast k first (unsigned_abs n.number) p))

abbrev pub written_size : Source → ℕ → Checked ℕ
written_size k at =
    let n = L.decimal (word k at) in
    refused (n == 0 || nat_le (2 ^ 32) n) (position k at) 411 (Ok n)

abbrev pub by_written_size : Source → ℕ → Typing Inside → Typing Valued
by_written_size k at i = both (rule (written_size k at)) (bits_inside k i) (λ n p. rule (size_cast k at n p))

abbrev pub is_signed_by : Signing → Bool
is_signed_by (Signed at) = true
is_signed_by (Unsigned at) = false

abbrev pub with_sign : Source → ℕ → Bool → Valued → Valued
with_sign k first s v = by_itself k first (vector (width v) s) (F.Cast v.expr)

abbrev pub by_sign : Source → ℕ → Bool → Typing Inside → Typing Valued
by_sign k first s i = checked (bits_inside k i) (λ p. whole (with_sign k first s p.1))

abbrev pub by_type : Source → ℕ → Typing SvType → Typing Inside → Typing Valued
by_type k first t i = both t i (λ u j. rule (type_cast k first u j))

-- System functions. `$bits` doesn't value what it is asked of.
abbrev pub bits_number : Source → ℕ → ℕ → Valued
bits_number k name w = by_itself k name integer (F.Constant (value_of_bits integer (vec 32 (pos w))))

abbrev pub bits_of : Source → ℕ → Option (Typing SvType) → Typing Operand → Typing Valued
bits_of k name (Some t) x = checked t (λ u. whole (bits_number k name (width_of u)))
bits_of k name None x = checked (value k x) (λ v. whole (bits_number k name (width v)))

abbrev pub is_word : Source → ℕ → List ℕ → Bool
is_word k at text = bytes_eq (word k at) text

abbrev pub system_call : Source → ℕ → Option (Typing SvType) → Typing Operand → Typing Valued
system_call k name t x =
    cond (is_word k name (codes "$bits")) (bits_of k name t x)
    (checked (bits_in k x) (λ v.
    cond (is_word k name (codes "$clog2")) (whole (by_itself k name integer (F.Clog2 v.expr)))
    (whole (with_sign k name (is_word k name (codes "$signed")) v))))

-- Calls. A function that isn't known is looked at from the call on.
abbrev pub needed : Context → ℕ → Option ℕ → Typing Called
needed k at None = broken Quiet
needed k at (Some n) = from_token (position k.source at) (k.routine n)

-- Its number of formals is there in its text. A call with another number of actuals breaks E405 at the name where these are whole, the
-- parts of which the rule speaks, whatever becomes of the function. Where they aren't, what breaks is the function, then the actuals.
abbrev pub has_count : Option RoutineText → ℕ → Bool
has_count None count = true
has_count (Some t) count = formal_count t == count

abbrev pub finds_count : Context → Option ℕ → ℕ → Bool
finds_count k None count = true
finds_count k (Some n) count = has_count (k.text n) count

abbrev pub miscounted : {A B : Type 0} → Position → Checked Called → Checked A → Checked B
miscounted p c (Ok os) = Err (At p 405)
miscounted p (Ok c) (Err b) = Err b
miscounted p (Err f) (Err b) = Err (And f b)

abbrev pub with_other_count : {A B : Type 0} → Position → Typing Called → Typing A → Typing B
with_other_count p x y fs = let r = x fs in record { result = miscounted p r.result (y fs).result; functions = r.functions }

abbrev pub passed_to : Source → Formal × Operand → Checked Expr
passed_to k p = passed k p.0.local.of p.1

abbrev pub call_of : Source → ℕ → ℕ → Called → List Operand → Checked Valued
call_of k first name c os =
    refused (not (length c.of.formals == length os)) (position k name) 405
    (where_whole (all_of (map (passed_to k) (zip c.of.formals os))) (λ es. Ok (by_itself k first c.of.of (F.Call c.place es))))

abbrev pub counted_call : Context → QualifiedName → List (Typing Operand) → Typing Valued
counted_call k of xs = both (needed k of.name (k.finds of)) (all xs) (λ c os. rule (call_of k.source (qualified_first of) of.name c os))

abbrev pub call : Context → QualifiedName → List (Typing Operand) → Typing Valued
call k of xs =
    cond (finds_count k (k.finds of) (length xs)) (counted_call k of xs)
    (with_other_count (position k.source of.name) (needed k of.name (k.finds of)) (all xs))

-- Streams. A part is any value, or a stream; a number there has a size (E501).
abbrev pub is_streamed_part : Source → Operand → Checked Valued
is_streamed_part k (Plain v) = refused v.is_unsized (position k v.first) 501 (Ok v)
is_streamed_part k (Pattern tick of) = Err (At (position k tick) 505)
is_streamed_part k (Stream v) = Ok v

abbrev pub streamed_part : Source → Typing Operand → Typing Valued
streamed_part k x = checked x (λ o. rule (is_streamed_part k o))

abbrev pub reverses : StreamOperator → Bool
reverses D.Left = true
reverses D.Right = false

abbrev pub stream_of : Source → ℕ → Bool → ℕ → List Expr → Checked Valued
stream_of k opening reversed n es =
    let w = all_bits es in
    not_too_long k opening w (Ok (by_itself k opening (vector w false) (F.Stream reversed n es)))

abbrev pub slice_of : Source → ℕ → ℕ → Checked ℕ
slice_of k at n = refused (n == 0 || nat_lt most_bits n) (position k at) 411 (Ok n)

abbrev pub slice_within : Source → Typing Operand → Typing ℕ
slice_within k x = checked (number_within k (pos 1) (pos most_bits) x) (λ n. whole (unsigned_abs n.number))

abbrev pub plain : Typing Valued → Typing Operand
plain x = checked x (λ v. whole (Plain v))

abbrev pub slice_by_name : Context → QualifiedName → Typing ℕ
slice_by_name k of = elim (type_of_thing (thing k of)) [
  | Some t ↦ rule (slice_of k.source (qualified_first of) (width_of t))
  | None ↦ slice_within k.source (plain (named k of []))
]

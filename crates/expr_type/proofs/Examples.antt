-- Small texts: the definitions compute. Texts are given by their layers, as the trees that they stand for.
use Rattle.std.proofs.Common.{◌≡◌, ℕ, suc, ◌+◌, Bool, true, false, List, [], ◌∷◌, map, max, refl, rules, ap, ◌∙◌, ◌&&◌, cond, Option, Some, None}
use Rattle.std.specs.Prelude.{nat_lt, not, pos, Ok, Err, codes, slice_get}
use Rattle.std.specs.Str.{bytes_eq}
use Rattle.sv_types.specs.SvSource.{Name}
use Rattle.sv_types.specs.SvSource.{Token}
use Rattle.sv_tree.specs.declared.expressions.Expr.{Expr-F}
use Rattle.sv_tree.specs.declared.expressions.Select.{Select-F}
use Rattle.sv_tree.specs.declared.operators.AssignmentOperator.TheVariants as A
use Rattle.sv_tree.specs.declared.operators.BinaryOperator.TheVariants as N
use Rattle.sv_types.specs.declared.frame.SignalId.{SignalId}
use Rattle.sv_types.specs.declared.types.SvType as X
use Rattle.sv_types.specs.declared.types.SvType.{SvType, the_lemmas}
use Rattle.sv_types.specs.declared.types.SvType.TheVariants.{Enum}
use Rattle.pattern_fit.specs.Same.{same_type}
use Rattle.expr_type.specs.Breaks.{Breaks, At, Key, first}
use Rattle.expr_type.specs.Typings.{Checked, Typing, all_of, both, broken, joined, where_whole, rule, whole, refused, unless, at_all}
use Rattle.expr_type.specs.Shapes.{is_plain_to_enum, one_bit, vector, sign_of}
use Rattle.expr_type.specs.Forms.{call_of, miscounted, most_of_signals, signal_or}
use Rattle.expr_type.specs.Selects.{is_index}
use Rattle.sv_types.specs.declared.expression.Expr.{Expr}
use Rattle.sv_types.specs.declared.statement.FunctionKind.TheVariants.{Plain}
use Rattle.sv_types.specs.declared.statement.Stmt.TheVariants as S
use Rattle.expr_type.specs.Names.{Called, Context, Source, Other, word_in, position}
use Rattle.expr_type.specs.declared.operand.Valued.{Valued}
use Rattle.expr_type.specs.Operands.{too_wide, Operand, Pattern, Stream, is_constant_value, is_value, is_streamed, value, width}
use Rattle.expr_type.specs.Uses.{names_any}
use Rattle.expr_type.specs.Operators.{by_itself, expr_at, valued, in_context, binary_of}
use Rattle.expr_type.proofs.Widths.{sign-vector, width-1, width-4, width-8, width-129}
use Rattle.b4_core.specs.declared.operators.BinOp.TheVariants as B
use Rattle.sv_types.specs.declared.expression.Form.{Form}
use Rattle.sv_types.specs.declared.expression.Form.TheVariants as F
use Rattle.sv_types.specs.Layouts.{width_of}
use Rattle.expr_type.specs.Expressions.{Meaning, is_count, expr_step, select_step}
use Rattle.expr_type.specs.Targets.{ToPath}
use Rattle.expr_type.specs.Patterns.{named_key}
use Rattle.expr_type.specs.Statements.{CaseFound, always, assignment, case_items, case_stmt, default_body, item_at, selector_at, whole_item, widened, widest}
use Rattle.sv_types.specs.declared.statement.CaseKind.TheVariants as C
use Rattle.b4_core.specs.Vectors.{vec}
use Rattle.expr_type.specs.TargetNames.{actual_target, named_target}

-- words as the tokens of a text, and signals by name
abbrev tokens : List (List ℕ) → List Token
tokens ws = map (λ w. record { kind = Name; text = w; place = record { file = 0; line = 1; col = 1 } }) ws

pub record Declares : Type 0 where
  name : List ℕ
  of : SvType

abbrev number_from : ℕ → List Declares → List ℕ → Option ℕ
number_from n [] w = None
number_from n (d ∷ ds) w = cond (bytes_eq d.name w) (Some n) (number_from (suc n) ds w)

abbrev signals_from : ℕ → List Declares → List SignalId
signals_from n [] = []
signals_from n (d ∷ ds) = record { decl = n; member = []; signal = n; of = d.of; input = false } ∷ signals_from (suc n) ds

abbrev text : List (List ℕ) → List Declares → Context
text ws ds = record {
  source = record { tokens = tokens ws; instance = 1 };
  values = [];
  types = [];
  signals = signals_from 0 ds;
  locals = [];
  finds = λ q. number_from 0 ds (word_in (slice_get (tokens ws) q.name));
  declared = λ at. 100 + at;
  is_interface = λ n. false;
  key_rule = λ n. None;
  is_net = λ n. false;
  is_net_member = λ n m. false;
  result = None;
  base = 100;
  text = λ n. None;
  home = λ n. record { instance = 1; path = [] };
  routine = λ n. broken Breaks.Quiet;
}

abbrev name : ℕ → Meaning
name at = expr_step (Expr-F.«Expr::Name» (record { scope = None; name = at }) [] None)

abbrev decimal : ℕ → Meaning
decimal at = expr_step (Expr-F.«Expr::Decimal» at)

abbrev first_break : {A : Type 0} → Typing A → Option Key
first_break x = elim (x []).result [ Ok a ↦ None | Err b ↦ first b ]

abbrev at : ℕ → ℕ → Option Key
at token rule = Some (record { turn = record { instance = 1; at = token } ∷ []; rule = rule })

-- the width and sign of an expression
abbrev type_of : Context → Meaning → Option (ℕ × Bool)
type_of k e = elim (value k.source (e.typed k) []).result [ Ok v ↦ Some (width v, sign_of v.expr.of) | Err b ↦ None ]

-- the assignment of an expression to a name
abbrev given_to : Context → ℕ → ℕ → Meaning → Option Key
given_to k to op e =
    first_break (both (named_target k true (record { scope = None; name = to }) []) (e.typed k) (λ t o. rule (assignment k op A.Assign (ToPath t) o)))

abbrev declares : List ℕ → SvType → Declares
declares n t = record { name = n; of = t }

-- `e = a` for an enum
abbrev colour : SvType
colour = Enum 7 (vector 2 false) []

abbrev enum_text : Context
enum_text =
    text (codes "e" ∷ codes "=" ∷ codes "a" ∷ [])
    (declares (codes "a") (vector 2 false) ∷ declares (codes "e") colour ∷ [])

enum-plain : given_to enum_text 0 1 (name 2) ≡ at 2 503
unfolding X.out-SvType denote.Hole.Carrier.out
enum-plain = refl

same-enum : (t : SvType) → same_type (Enum 7 t []) (Enum 7 t []) ≡ same_type t t
same-enum t = search (rules, the_lemmas)

same-bits : same_type (vector 2 false) (vector 2 false) ≡ true
same-bits = search (rules, the_lemmas)

enum-own : is_plain_to_enum colour colour ≡ false
unfolding X.out-SvType denote.Hole.Carrier.out
enum-own = ap not (same-enum (vector 2 false) ∙ same-bits)

-- `{a, 1}`
abbrev braces : Context
braces = text (codes "{" ∷ codes "a" ∷ codes "," ∷ codes "1" ∷ codes "}" ∷ []) (declares (codes "a") one_bit ∷ [])

unsized-part : first_break ((expr_step (Expr-F.Concatenation 0 (name 1 ∷ decimal 3 ∷ []) 4)).typed braces) ≡ at 3 501
unfolding X.out-SvType denote.Hole.Carrier.out
unsized-part = refl

-- Turns: with `localparam int P = f();` in front of `assign y = {a, 1};` a break in the function `f` comes first, though it stands
-- behind both; without it, the one in the assignment does.
calling : Context
calling = record braces { finds = λ q. Some 0; routine = λ n. broken (At (record { instance = 1; at = 35 }) 501) }

abbrev call_at : ℕ → Meaning
call_at n = expr_step (Expr-F.Call (record { scope = None; name = n }) n [] n None)

abbrev part_at : Typing Operand
part_at = (expr_step (Expr-F.Concatenation 0 (name 1 ∷ decimal 3 ∷ []) 4)).typed braces

first-needed : first_break (both ((call_at 0).typed calling) part_at (λ l r. whole l)) ≡ Some (record {
  turn = record { instance = 1; at = 0 } ∷ record { instance = 1; at = 35 } ∷ [];
  rule = 501;
})
unfolding X.out-SvType denote.Hole.Carrier.out calling
first-needed = refl

not-needed : first_break part_at ≡ at 3 501
unfolding X.out-SvType denote.Hole.Carrier.out
not-needed = refl

-- `y = a + b` with a signed `a` and an unsigned `b` of four bits: the sum has four bits and no sign, whatever `y` is.
abbrev signal : Source → ℕ → SvType → Valued
signal k n t = by_itself k n t (F.Signal n)

abbrev sum_type : SvType
sum_type = vector (max (width_of (vector 4 true)) (width_of (vector 4 false))) (sign_of (vector 4 true) && sign_of (vector 4 false))

is-sum : sum_type ≡ vector 4 false
is-sum =
    ap (λ n. vector (max n (width_of (vector 4 false))) (sign_of (vector 4 true) && sign_of (vector 4 false))) (width-4 true)
    ∙ ap (λ n. vector (max 4 n) (sign_of (vector 4 true) && sign_of (vector 4 false))) (width-4 false)
    ∙ ap (λ b. vector 4 (b && sign_of (vector 4 false))) (sign-vector 4 true)
    ∙ ap (λ b. vector 4 b) (sign-vector 4 false)

abbrev added : Source → Form
added k = F.Binary B.Add (signal k 2 (vector 4 true)).expr (signal k 4 (vector 4 false)).expr

abbrev plus_sign : List ℕ
plus_sign = 3 ∷ []

sum : (k : Source) → binary_of N.Add k 3 (signal k 2 (vector 4 true)) (signal k 4 (vector 4 false)) ≡ Ok (valued k 2 (vector 4 false) (added k) plus_sign)
unfolding X.out-SvType denote.Hole.Carrier.out
sum k =
    ap (λ t. in_context k 2 t (added k) plus_sign) is-sum
    ∙ ap (λ n. unless (at_all k.instance 502 (too_wide n plus_sign)) (valued k 2 (vector 4 false) (added k) plus_sign)) (width-4 false)

-- `a * b` on operands of 129 bits
abbrev wide_type : SvType
wide_type = vector (max (width_of (vector 129 false)) (width_of (vector 129 false))) (sign_of (vector 129 false) && sign_of (vector 129 false))

is-wide : width_of wide_type ≡ 129
is-wide =
    ap (λ n. width_of (vector (max n n) (sign_of (vector 129 false) && sign_of (vector 129 false)))) (width-129 false)
    ∙ width-129 (sign_of (vector 129 false) && sign_of (vector 129 false))

abbrev multiplied : Source → Form
multiplied k = F.Binary B.Mul (signal k 2 (vector 129 false)).expr (signal k 4 (vector 129 false)).expr

product : (k : Source) → binary_of N.Multiply k 3 (signal k 2 (vector 129 false)) (signal k 4 (vector 129 false)) ≡ Err (At (position k 3) 502)
unfolding X.out-SvType denote.Hole.Carrier.out
product k = ap (λ n. unless (at_all k.instance 502 (too_wide n plus_sign)) (valued k 2 wide_type (multiplied k) plus_sign)) is-wide

-- a count of zero
zero-times : (k : Source) → is_count k (record { first = 5; number = pos 0 }) ≡ Err (At (position k 5) 510)
zero-times k = refl

-- `y = {<<{a}}` with eight bits for four, at the `{`; and a stream that is an operand
stream-too-long : (k : Source) → is_streamed k (vector 4 false) (by_itself k 14 (vector 129 false) (F.Signal 0)) ≡ Err (At (position k 14) 501)
stream-too-long k =
    ap (λ n. refused (nat_lt n (width_of (vector 129 false))) (position k 14) 501 (rest k)) (width-4 false)
    ∙ ap (λ n. refused (nat_lt 4 n) (position k 14) 501 (rest k)) (width-129 false)
  where
    rest : Source → Checked Expr
    rest k =
        refused (nat_lt 65536 (width_of (vector 4 false))) (position k 14) 701 (Ok (by_itself k 14 (vector 129 false) (F.Signal 0)).expr)

stream-elsewhere : (k : Source) (v : Valued) → is_value k (Stream v) ≡ Err (At (position k v.first) 512)
stream-elsewhere k v = refl

-- a pattern that nothing is given to
pattern-alone : (k : Source) (tick : ℕ) (of : ℕ → SvType → Checked Expr) → is_value k (Pattern tick of) ≡ Err (At (position k tick) 505)
pattern-alone k tick of = refl

-- an index of 129 bits
long-index : (k : Source) → is_index k (by_itself k 6 (vector 129 false) (F.Signal 0)) ≡ Err (At (position k 6) 507)
long-index k = ap (λ n. refused (nat_lt 64 n) (position k 6) 507 (Ok (by_itself k 6 (vector 129 false) (F.Signal 0)))) (width-129 false)

-- a call with one actual for no formals
called : Called
called = record {
  place = 0;
  of = record {
    instance = 1;
    path = codes "f";
    spot = record { at = 20; place = record { file = 0; line = 1; col = 1 }; word = codes "f" };
    kind = Plain;
    of = vector 4 false;
    formals = [];
    body = S.Block [] [];
  };
}

too-many : (k : Source) (o : Operand) → call_of k 3 3 called (o ∷ []) ≡ Err (At (position k 3) 405)
unfolding called
too-many k o = refl

-- `(a) + b` begins with its parenthesis: for an enum it is broken there, and `(a)` at the `a`.
abbrev parentheses : Context
parentheses =
    text (codes "e" ∷ codes "=" ∷ codes "(" ∷ codes "a" ∷ codes ")" ∷ codes "+" ∷ codes "a" ∷ [])
    (declares (codes "a") (vector 2 false) ∷ declares (codes "e") colour ∷ [])

abbrev enclosed : Meaning
enclosed = expr_step (Expr-F.«Expr::Parenthesized» 2 (name 3) 4 None)

in-parentheses : given_to parentheses 0 1 enclosed ≡ at 3 503
unfolding X.out-SvType denote.Hole.Carrier.out
in-parentheses = refl

abbrev begins_in : Checked Valued → Option ℕ
begins_in (Ok v) = Some v.first
begins_in (Err b) = None

behind-parentheses : begins_in (value parentheses.source ((expr_step (Expr-F.Binary enclosed N.LogicalAnd 5 (name 6))).typed parentheses) []).result ≡ Some 2
unfolding X.out-SvType denote.Hole.Carrier.out
behind-parentheses = refl

-- The first value of a loop has the width of its variable: eight bits stand as an arm of a `?:` of 32 bits.
abbrev eight : Context → Expr
eight k = (by_itself k.source 5 (vector 8 false) (F.Signal 0)).expr

abbrev wide_arm : Context → Expr
wide_arm k =
    expr_at k.source 5 (vector 32 (sign_of (vector 8 false)))
    (F.Choose (always k 5) (eight k) (expr_at k.source 5 (vector 32 (sign_of (vector 8 false))) (F.Literal (vec 32 (pos 0)) false)))

first-widened : (k : Context) → widened k 5 32 (eight k) ≡ wide_arm k
first-widened k = ap (λ n. cond (nat_lt n 32) (wide_arm k) (eight k)) (width-8 false)

-- An operator in the selector of a `case` that a value makes too wide is broken also where a statement behind it is.
abbrev selector : Valued
selector = valued braces.source 1 one_bit (F.Signal 0) (2 ∷ [])

abbrev wide_value : Valued
wide_value = by_itself braces.source 3 (vector 129 false) (F.Signal 1)

abbrev broken_item : CaseFound
broken_item = record { is_default = false; values = Ok (wide_value ∷ []); body = Err (At (position braces.source 4) 501) }

in-widest : widest (Ok (selector, (wide_value ∷ []) ∷ [])) ≡ 129
in-widest = ap (λ n. max n (max (width_of (vector 129 false)) 0)) width-1 ∙ ap (λ n. max 1 (max n 0)) (width-129 false)

abbrev with_width : ℕ → Option Key
with_width w =
    first_break (rule (where_whole
    (joined (selector_at braces w (Ok selector)) (all_of (map whole_item (map (item_at braces w) (broken_item ∷ [])))))
    (λ p. Ok (S.Case C.Plain p.0.expr (case_items p.1) (default_body p.1)))))

case-by-values : first_break (rule (case_stmt braces C.Plain (Ok selector) (broken_item ∷ []))) ≡ at 2 502
unfolding X.out-SvType denote.Hole.Carrier.out
case-by-values = ap with_width in-widest

-- Keys in a pattern of an array: the name of a function, one of a signal in a function's text, and one whose declaration is broken.
key-of-function : named_key (record braces { key_rule = λ n. Some 404 }) 3 (Other 0) ≡ Err (At (position braces.source 3) 404)
key-of-function = refl

key-of-hidden : named_key (record braces { key_rule = λ n. Some 406 }) 3 (Other 0) ≡ Err (At (position braces.source 3) 406)
key-of-hidden = refl

key-of-broken : named_key braces 3 (Other 0) ≡ Err Breaks.Quiet
key-of-broken = refl

-- A call with another number of actuals: whole ones leave E405 at its name, also where the function is broken; one that is broken leaves
-- its own break, behind those of the function.
abbrev count_of : Checked Called → Checked (List Operand) → Option Key
count_of c os = first_break (rule {A = Valued} (miscounted (position braces.source 2) c os))

abbrev broken_function : Checked Called
broken_function = Err (Breaks.Behind (position braces.source 2) (At (position braces.source 0) 501))

abbrev broken_actual : Checked (List Operand)
broken_actual = Err (At (position braces.source 4) 501)

count-alone : count_of broken_function (Ok []) ≡ at 2 405
count-alone = refl

count-behind-actuals : (c : Called) → count_of (Ok c) broken_actual ≡ at 4 501
count-behind-actuals c = refl

count-behind-function : count_of broken_function broken_actual ≡ first (Breaks.Behind (position braces.source 2) (At (position braces.source 0) 501))
count-behind-function = refl

-- a member of an interface with more bits than all signals may have: it is there, and broken
wide-member : (k : Source) (first at : ℕ) (s : SignalId) → nat_lt most_of_signals (width_of s.of) ≡ true → signal_or k first at (Some s) ≡ Err Breaks.Quiet
wide-member k first at s h = ap (λ b. cond b (Err Breaks.Quiet) (Ok (by_itself k first s.of (F.Signal s.signal)))) h

-- a stream of a signal as a constant
constant-streamed : (k : Source) (v : Valued) → names_any v.expr ≡ true → is_constant_value k (Stream v) ≡ Err (At (position k v.first) 406)
constant-streamed k v h = ap (λ b. refused b (position k v.first) 406 (Err (At (position k v.first) 512))) h

-- `b.v` as the actual of an output, where `v` is a net of the interface `b`
abbrev at_interface : Context
at_interface = record braces { signals = []; finds = λ q. Some 0; is_interface = λ n. true; is_net_member = λ n m. true }

actual-net : first_break (actual_target at_interface (record { scope = None; name = 1 }) (select_step (Select-F.Member 2 3) ∷ [])) ≡ at 1 501
actual-net = refl

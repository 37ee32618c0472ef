-- What operators and other expressions that aren't paths mean (IEEE 1800-2017 clauses 5.7, 6.24, 10.9, 11 and 13.4).
use Rattle.std.specs.Prelude.{ℕ, zero, suc, ◌+◌, ◌-◌, ◌*◌, ◌^◌, max, Bool, true, false, ◌&&◌, ◌||◌, nat_le, cond, pos, List, [], ◌∷◌, ◌++◌, length, take, drop, map, flat_map, replicate, zip, None}
use Rattle.std.specs.List.{list_any}
use Rattle.b4_core.specs.declared.bit.Bit4.{Bit4}
use Rattle.b4_core.specs.declared.bit.Bit4.TheVariants.{Zero, One, X, Z}
use Rattle.b4_core.specs.declared.operators.UnOp.{UnOp}
use Rattle.b4_core.specs.declared.operators.UnOp.TheVariants as U
use Rattle.b4_core.specs.declared.operators.BinOp.{BinOp}
use Rattle.b4_core.specs.declared.operators.BinOp.TheVariants as B
use Rattle.b4_core.specs.declared.operators.RedOp.{RedOp}
use Rattle.b4_core.specs.declared.operators.ShiftOp.{ShiftOp}
use Rattle.b4_core.specs.declared.operators.OrdOp.{OrdOp}
use Rattle.b4_core.specs.declared.operators.OrdOp.TheVariants.{LessEqual, GreaterEqual}
use Rattle.b4_core.specs.declared.operators.EqOp.{EqOp}
use Rattle.b4_core.specs.declared.operators.EqOp.TheVariants.{Wild}
use Rattle.b4_core.specs.Bits.{and4, or4, not4, merge4}
use Rattle.b4_core.specs.Vectors.{known, unknown, num, vec, ext, bitwise}
use Rattle.b4_core.specs.Bitwise.{any4, truth_of}
use Rattle.b4_core.specs.Unary.{unary_value}
use Rattle.b4_core.specs.Binary.{binary_value}
use Rattle.b4_core.specs.Shift.{shift_value}
use Rattle.b4_core.specs.Power.{power_value}
use Rattle.b4_core.specs.Reduce.{reduction}
use Rattle.b4_core.specs.Compare.{order_value, equality}
use Rattle.picks.specs.RowMachine.{Changes}
use Rattle.picks.specs.RowMachine.{unchanged, then_changes}
use Rattle.sv_types.specs.declared.types.Value.{Value}
use Rattle.sv_types.specs.Values.{bits}
use Rattle.sv_types.specs.Layouts.{Layout, Part, stored, stacked, repeated, count_of}
use Rattle.sv_types.specs.Surroundings.{onward, Around, Tally, Parameter}
use Rattle.sv_types.specs.Meanings.{Meaning, Operand, wide, signed, alone, by_itself, in_context, at_width, plain, most, total, values_all}

abbrev pub no_arithmetic : ℕ → ℕ
no_arithmetic w = 0

-- a number; one whose first digit is x or z goes on with it
unfoldable pub literal : Layout → ℕ → Bool → List Bit4 → Meaning
literal of at goes_on v = plain of at (length v) of.signed no_arithmetic [] (λ w s a. ext w (goes_on || s) v)

-- `'0`, `'1`, `'x`, `'z`
unfoldable pub fill : Layout → ℕ → Bit4 → Meaning
fill of at b = plain of at 1 false no_arithmetic [] (λ w s a. replicate w b)

unfoldable pub constant : Layout → ℕ → Value → Meaning
constant of at v = plain of at (length (bits v)) of.signed no_arithmetic [] (λ w s a. ext w s (bits v))

-- the value of an operator is four-state
abbrev pub four_state : Meaning → Meaning
four_state m = record m { misfits = m.misfits + cond (list_any (λ b. b) m.of.two_state) 1 0 }

-- the operators that work by whole numbers
abbrev pub unary_arithmetic : UnOp → ℕ → ℕ
unary_arithmetic U.Not w = 0
unary_arithmetic U.Neg w = w

abbrev pub binary_arithmetic : BinOp → ℕ → ℕ
binary_arithmetic B.And w = 0
binary_arithmetic B.Or w = 0
binary_arithmetic B.Xor w = 0
binary_arithmetic B.Xnor w = 0
binary_arithmetic B.Add w = w
binary_arithmetic B.Sub w = w
binary_arithmetic B.Mul w = w
binary_arithmetic B.Div w = w
binary_arithmetic B.Rem w = w

unfoldable pub unary : Layout → ℕ → UnOp → Meaning → Meaning
unary of at op m =
    four_state (plain of at (wide m) (signed m) (unary_arithmetic op) (in_context m ∷ []) (λ w s a. unary_value op (m.value w s a)))

unfoldable pub binary : Layout → ℕ → BinOp → Meaning → Meaning → Meaning
binary of at op l r =
    four_state (plain of at (max (wide l) (wide r)) (signed l && signed r) (binary_arithmetic op) (in_context l ∷ in_context r ∷ [])
    (λ w s a. binary_value op s (l.value w s a) (r.value w s a)))

-- one bit in its context
abbrev pub one_bit : Layout → ℕ → (ℕ → ℕ) → List Operand → (Around → Bit4) → Meaning
one_bit of at own operands b = four_state (plain of at 1 false own operands (λ w s a. ext w s (b a ∷ [])))

unfoldable pub reduce : Layout → ℕ → RedOp → Meaning → Meaning
reduce of at op m = one_bit of at no_arithmetic (by_itself m ∷ []) (λ a. reduction op (alone m a))

abbrev pub truth : Meaning → Around → Bit4
truth m a = truth_of (alone m a)

-- `!`, `&&` and `||`
unfoldable pub negate : Layout → ℕ → Meaning → Meaning
negate of at m = one_bit of at no_arithmetic (by_itself m ∷ []) (λ a. not4 (truth m a))

unfoldable pub both : Layout → ℕ → Meaning → Meaning → Meaning
both of at l r = one_bit of at no_arithmetic (by_itself l ∷ by_itself r ∷ []) (λ a. and4 (truth l a) (truth r a))

unfoldable pub either : Layout → ℕ → Meaning → Meaning → Meaning
either of at l r = one_bit of at no_arithmetic (by_itself l ∷ by_itself r ∷ []) (λ a. or4 (truth l a) (truth r a))

unfoldable pub shift : Layout → ℕ → ShiftOp → Meaning → Meaning → Meaning
shift of at op l r =
    four_state (plain of at (wide l) (signed l) no_arithmetic (in_context l ∷ by_itself r ∷ []) (λ w s a. shift_value op s (l.value w s a) (alone r a)))

unfoldable pub power : Layout → ℕ → Meaning → Meaning → Meaning
power of at l r =
    four_state (plain of at (wide l) (signed l) (λ w. max w (wide r)) (in_context l ∷ by_itself r ∷ [])
    (λ w s a. power_value s (signed r) (l.value w s a) (alone r a)))

-- both operands of a comparison have the larger width, and a sign only if both have one
abbrev pub both_wide : Meaning → Meaning → ℕ
both_wide l r = max (wide l) (wide r)

abbrev pub both_signed : Meaning → Meaning → Bool
both_signed l r = signed l && signed r

abbrev pub compared : Meaning → Meaning → List Operand
compared l r = at_width (both_wide l r) l ∷ at_width (both_wide l r) r ∷ []

abbrev pub in_order : OrdOp → Meaning → Meaning → Around → Bit4
in_order op l r a =
    let w = both_wide l r in
    let s = both_signed l r in
    order_value op s (l.value w s a) (r.value w s a)

abbrev pub equals : EqOp → Meaning → Meaning → Around → Bit4
equals op l r a =
    let w = both_wide l r in
    let s = both_signed l r in
    equality op (l.value w s a) (r.value w s a)

unfoldable pub order : Layout → ℕ → OrdOp → Meaning → Meaning → Meaning
order of at op l r = one_bit of at (λ w. both_wide l r) (compared l r) (in_order op l r)

unfoldable pub equal : Layout → ℕ → EqOp → Bool → Meaning → Meaning → Meaning
equal of at op negated l r = one_bit of at no_arithmetic (compared l r) (λ a. cond negated (not4 (equals op l r a)) (equals op l r a))

-- the arm that a condition takes, or what both arms agree on
abbrev pub chosen : Bit4 → List Bit4 → List Bit4 → List Bit4
chosen One l r = l
chosen Zero l r = r
chosen X l r = bitwise merge4 l r
chosen Z l r = bitwise merge4 l r

unfoldable pub choose : Layout → ℕ → Meaning → Meaning → Meaning → Meaning
choose of at on l r =
    plain of at (max (wide l) (wide r)) (signed l && signed r) no_arithmetic (by_itself on ∷ in_context l ∷ in_context r ∷ [])
    (λ w s a. chosen (truth on a) (l.value w s a) (r.value w s a))

-- all parts, the first one on top
abbrev pub joined : List Meaning → Around → List Bit4
joined ms a = stacked (map (λ (m : Meaning). alone m a) ms)

abbrev pub width_of_all : List Meaning → ℕ
width_of_all ms = total (map (λ (m : Meaning). wide m) ms)

-- Writes through the parts of a target, in their order. Each part takes its bits from above those of the parts behind it.
abbrev pub puts_all : List Meaning → Around → List Bit4 → Changes
puts_all [] a v = unchanged
puts_all (m ∷ ms) a v = then_changes (m.puts a (take (wide m) (drop (width_of_all ms) v))) (puts_all ms a v)

abbrev pub places_all : List Meaning → Around → Tally → Tally
places_all [] a t = t
places_all (m ∷ ms) a t = onward (places_all ms a) (m.places a t)

-- an expression whose parts can be written
abbrev pub with_parts : List Meaning → (List Bit4 → List Bit4) → Meaning → Meaning
with_parts ms order m = record m {
  puts = λ a v. puts_all ms a (order v);
  places = places_all ms;
  indices = λ k. flat_map (λ (p : Meaning). p.indices k) ms;
  writes = λ k. flat_map (λ (p : Meaning). p.writes k) ms;
  index_names = flat_map (λ (p : Meaning). p.index_names) ms;
  roots = flat_map (λ (p : Meaning). p.roots) ms;
}

unfoldable pub concat : Layout → ℕ → List Meaning → Meaning
concat of at ms =
    with_parts ms (λ v. v) (four_state (plain of at (width_of_all ms) false no_arithmetic (map by_itself ms) (λ w s a. ext w s (joined ms a))))

unfoldable pub repeat : Layout → ℕ → ℕ → List Meaning → Meaning
repeat of at n ms =
    four_state (plain of at (n * width_of_all ms) false no_arithmetic (map by_itself ms) (λ w s a. ext w s (repeated n (joined ms a))))

-- what a value may be on the right of `inside`
pub data Alternative : Type 0 where
  Only : Meaning → Alternative
  From : Meaning → Meaning → Alternative

-- a value is compared by ==?, a range by both of its bounds
abbrev pub is_inside : Meaning → Around → Alternative → Bit4
is_inside m a (Only v) = equals Wild m v a
is_inside m a (From low high) = and4 (in_order GreaterEqual m low a) (in_order LessEqual m high a)

-- the width at which the left operand is compared, and the other operands
abbrev pub inside_width : Meaning → Alternative → ℕ
inside_width m (Only v) = both_wide m v
inside_width m (From low high) = max (both_wide m low) (both_wide m high)

abbrev pub inside_operands : Meaning → Alternative → List Operand
inside_operands m (Only v) = at_width (both_wide m v) v ∷ []
inside_operands m (From low high) = at_width (both_wide m low) low ∷ at_width (both_wide m high) high ∷ []

abbrev pub inside_arithmetic : Meaning → Alternative → ℕ
inside_arithmetic m (Only v) = 0
inside_arithmetic m (From low high) = max (both_wide m low) (both_wide m high)

unfoldable pub inside : Layout → ℕ → Meaning → List Alternative → Meaning
inside of at m cs =
    one_bit of at (λ w. most (map (inside_arithmetic m) cs)) (at_width (max (wide m) (most (map (inside_width m) cs))) m ∷ flat_map (inside_operands m) cs)
    (λ a. any4 (map (is_inside m a) cs))

-- The inside of a cast is valued alone, and then converts as an assignment does.
unfoldable pub cast : Layout → ℕ → Meaning → Meaning
cast of at m =
    plain of at (length of.two_state) of.signed no_arithmetic (by_itself m ∷ [])
    (λ w s a. ext w s (stored of.two_state (ext (length of.two_state) (signed m) (alone m a))))

-- the least k, from here on and within so many steps, with n at most 2 to the k
abbrev pub log_from : ℕ → ℕ → ℕ → ℕ
log_from zero k n = k
log_from (suc steps) k n = cond (nat_le n (2 ^ k)) k (log_from steps (suc k) n)

abbrev pub clog2_of : List Bit4 → List Bit4
clog2_of v = cond (known v) (vec 32 (pos (log_from (length v) 0 (num v)))) (unknown 32)

unfoldable pub clog2 : Layout → ℕ → Meaning → Meaning
clog2 of at m = four_state (plain of at 32 true no_arithmetic (by_itself m ∷ []) (λ w s a. ext w s (clog2_of (alone m a))))

-- what is assigned to a member, a formal or a local with these bits
abbrev pub assigned_to : List Bool → Meaning → Around → List Bit4
assigned_to two_state m a = stored two_state (m.given (length two_state) a)

-- what it is valued at
abbrev pub assigned_width : List Bool → Meaning → ℕ
assigned_width two_state m = max (length two_state) (wide m)

-- the members, or the elements
abbrev pub parts_of : Layout → List Part
parts_of of = elim of.members [ [] ↦ replicate (count_of of.left of.right) of.element | m ∷ ms ↦ m ∷ ms ]

-- each item is assigned to its member
unfoldable pub pattern : Layout → ℕ → List Meaning → Meaning
pattern of at ms =
    let items = zip (parts_of of) ms in
    plain of at (length of.two_state) of.signed no_arithmetic (map (λ p. at_width (assigned_width p.0.two_state p.1) p.1) items)
    (λ w s a. ext w s (stacked (map (λ p. assigned_to p.0.two_state p.1 a) items)))

-- what is passed to formals: each actual is assigned to its formal
abbrev pub passed : List Parameter → List Meaning → Around → List (List Bit4)
passed fs ms a = map (λ p. assigned_to p.0.two_state p.1 a) (zip fs ms)

abbrev pub unlimited : Tally
unlimited = record { left = None; stop = None }

-- a call runs the function once what is passed is valued
abbrev pub calls : ℕ → List Meaning → Around → Tally → Tally
calls f ms a t =
    let formals = (a.callee f).formals in
    onward ((a.callee f).effort (passed formals ms a)) (values_all (map (λ p. by_itself p.1) (zip formals ms)) a t)

unfoldable pub call : Layout → ℕ → ℕ → List Meaning → Meaning
call of at f ms =
    record (plain of at (length of.two_state) of.signed no_arithmetic (map by_itself ms)
    (λ w s a. ext w s ((a.callee f).run (passed (a.callee f).formals ms a)).result)) {
      values = calls f ms;
      places = calls f ms;
      arithmetic = λ fs c. most (map (λ p. p.1.arithmetic fs (assigned_width p.0.two_state p.1)) (zip (fs f) ms));
    }

-- a vector cut into slices from its low end on, the last one shorter if need be
abbrev pub slices : ℕ → ℕ → List Bit4 → List (List Bit4)
slices zero n v = []
slices (suc steps) n [] = []
slices (suc steps) n (b ∷ v) = take n (b ∷ v) ∷ slices steps n (drop n (b ∷ v))

-- `<<` puts the first slice on top, `>>` keeps the order (clause 11.4.14.2)
abbrev pub streamed : Bool → ℕ → List Bit4 → List Bit4
streamed true n v = stacked (slices (length v) n v)
streamed false n v = v

-- A stream is given to a target from the top on, and 0 fills the rest. As a target its bits are brought into the order of
-- its parts.
unfoldable pub stream : Layout → ℕ → Bool → ℕ → List Meaning → Meaning
stream of at reversed n ms =
    let w = width_of_all ms in
    record (with_parts ms (streamed reversed n) (plain of at w false no_arithmetic (map by_itself ms) (λ c s a. ext c false (streamed reversed n (joined ms a))))) {
      given = λ m a. replicate (m - w) Zero ++ drop (w - m) (streamed reversed n (joined ms a));
      streams = true;
    }

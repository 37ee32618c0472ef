-- What is kept of an expression, and how it is made of what is kept of its parts. Numbers of tokens saturate, and widths do
-- where the rules tell no greater ones apart.
use Rattle.std.specs.Prelude.{ℕ, suc, ◌+◌, ◌*◌, ◌-◌, ◌==◌, min, max, nat_lt, Bool, true, false, not, ◌&&◌, ◌||◌, List, length, Option, Some, None, is_some, if◌then◌else◌}
use Rattle.b4_core.specs.declared.bit.Bit4.{Bit4}
use Rattle.v_tree.specs.Scopes.{bits_of, has_range}
use Rattle.v_tree.specs.ExprRules.{Operation, arithmetic, power, shift, order, equality, bitwise, logical}
use Rattle.v_tree.specs.declared.expressions.VExtent.{VExtent}
use Rattle.v_tree.specs.declared.expressions.VExtent.TheVariants.{Down, Up}
use Rattle.v_tree.specs.declared.items.VLocal.{VLocal}
use Rattle.v_tree.specs.declared.operators.VUnaryOp.TheVariants as U
use Rattle.v_scopes.specs.declared.entry.Entry.{Entry}
use Rattle.v_scopes.specs.declared.entry.Entry.TheVariants as N
use Rattle.v_scopes.specs.declared.entry.Kind.{Kind}
use Rattle.v_scopes.specs.declared.entry.Kind.TheVariants as K
use Rattle.v_expr_rules.specs.declared.seen.Seen.{Seen}
use Rattle.v_expr_rules.specs.declared.sels.SelSeen.{SelSeen}
use Rattle.v_expr_rules.specs.declared.sels.SelsSeen.{SelsSeen}
use Rattle.v_expr_rules.specs.declared.lists.ListSeen.{ListSeen}

-- the greatest number of a token, and a width above which nothing more is told
abbrev pub last_token : ℕ
last_token = 4294967295

abbrev pub wide_bits : ℕ
wide_bits = 129

unfoldable pub plus : ℕ → ℕ → ℕ
plus a b = min (a + b) last_token

unfoldable pub bits_plus : ℕ → ℕ → ℕ
bits_plus a b = min (a + b) wide_bits

unfoldable pub bits_times : ℕ → ℕ → ℕ
bits_times count bits = min (count * bits) wide_bits

unfoldable pub bits_capped : ℕ → ℕ
bits_capped bits = min bits wide_bits

-- the lesser one of two tokens that may be missing
unfoldable pub earlier : Option ℕ → Option ℕ → Option ℕ
earlier None b = b
earlier (Some a) None = Some a
earlier (Some a) (Some b) = Some (min a b)

abbrev pub mark : Bool → ℕ → Option ℕ
mark b token = if b then Some token else None

abbrev pub is_wide : ℕ → Bool
is_wide bits = nat_lt 128 bits

-- the first token that breaks a rule in a context of over 128 bits, or of at most so many
abbrev pub in_context : Seen → Bool → Option ℕ
in_context s wide = if wide then s.wide else s.narrow

abbrev pub alone : Seen → Option ℕ
alone s = in_context s (is_wide s.width)

-- an operand that is no target
abbrev pub operand : ℕ → ℕ → Option ℕ → Option ℕ → Seen
operand size width narrow wide = record { size = size; width = width; narrow = narrow; wide = wide; is_target = false; driven = None }

abbrev pub number_seen : List Bit4 → Seen
number_seen bits = operand 1 (bits_capped (length bits)) None None

abbrev pub paren_seen : Seen → Seen
paren_seen inner = operand (plus 2 inner.size) inner.width inner.narrow inner.wide

abbrev pub sign_seen : Seen → Seen
sign_seen inner = operand (plus 3 inner.size) inner.width (alone inner) (alone inner)

-- selects
abbrev pub extent_tokens : Option VExtent → ℕ
extent_tokens None = 0
extent_tokens (Some extent) = 2

abbrev pub is_none : Option VExtent → Bool
is_none None = true
is_none (Some extent) = false

abbrev pub decimal_bits : ℕ → Option VExtent → ℕ
decimal_bits base None = 1
decimal_bits base (Some (Down right)) = suc base - right
decimal_bits base (Some (Up width)) = width

abbrev pub decimal_mark : ℕ → Option VExtent → ℕ → Option ℕ
decimal_mark base None at = None
decimal_mark base (Some (Down right)) at = mark (nat_lt base right) at
decimal_mark base (Some (Up width)) at = None

abbrev pub decimal_sel : ℕ → Option VExtent → ℕ → SelSeen
decimal_sel base extent at = record {
  size = 3 + extent_tokens extent;
  bits = bits_capped (decimal_bits base extent);
  is_index = is_none extent;
  is_decimal = true;
  first = decimal_mark base extent (plus at 1);
}

abbrev pub moving_bits : Option VExtent → ℕ
moving_bits None = 1
moving_bits (Some (Down right)) = 1
moving_bits (Some (Up width)) = width

abbrev pub moving_mark : Option VExtent → ℕ → Option ℕ
moving_mark None at = None
moving_mark (Some (Down right)) at = Some at
moving_mark (Some (Up width)) at = None

abbrev pub moving_sel : Seen → Option VExtent → ℕ → SelSeen
moving_sel base extent at = record {
  size = plus (2 + extent_tokens extent) base.size;
  bits = bits_capped (moving_bits extent);
  is_index = is_none extent;
  is_decimal = false;
  first = earlier (moving_mark extent (plus at 1)) (alone base);
}

abbrev pub no_sels : SelsSeen
no_sels = record { size = 0; first = None; moving = None; outer = None; inner = None }

abbrev pub first_sel : Option SelSeen → SelSeen → Option SelSeen
first_sel None s = Some s
first_sel (Some first) s = Some first

abbrev pub second_sel : Option SelSeen → Option SelSeen → SelSeen → Option SelSeen
second_sel None second s = None
second_sel (Some first) second s = first_sel second s

abbrev pub sel_added : SelsSeen → ℕ → SelSeen → SelsSeen
sel_added ss at s = record {
  size = plus ss.size s.size;
  first = earlier ss.first s.first;
  moving = earlier ss.moving (mark (not s.is_decimal) (plus at 1));
  outer = first_sel ss.outer s;
  inner = second_sel ss.outer ss.inner s;
}

abbrev pub behind_first : Option SelSeen → ℕ → ℕ
behind_first None at = at
behind_first (Some s) at = plus at s.size

abbrev pub sels_mark : Bool → SelsSeen → ℕ → Option ℕ
sels_mark ranged ss at = earlier (mark (is_some ss.outer && not ranged) at) (mark (is_some ss.inner) (behind_first ss.outer at))

abbrev pub is_indexed : Option SelSeen → Bool
is_indexed None = false
is_indexed (Some s) = s.is_index

abbrev pub memory_mark : Bool → SelsSeen → ℕ → Option ℕ
memory_mark ranged ss at =
    earlier (mark (not (is_indexed ss.outer)) at) (mark (is_some ss.inner && not ranged) (behind_first ss.outer (plus at 1)))

abbrev pub name_mark : Option Entry → SelsSeen → ℕ → Option ℕ
name_mark None ss at = Some at
name_mark (Some (N.Value kind left)) ss at = sels_mark (has_range left) ss (plus at 1)
name_mark (Some (N.Memory left)) ss at = memory_mark (has_range left) ss at
name_mark (Some (N.Function left item)) ss at = Some at
name_mark (Some (N.Result left item)) ss at = sels_mark (has_range left) ss (plus at 1)
name_mark (Some N.Part) ss at = Some at

abbrev pub range_bits : Option ℕ → ℕ
range_bits left = bits_capped (bits_of left)

abbrev pub selected : ℕ → Option SelSeen → ℕ
selected width None = width
selected width (Some s) = s.bits

abbrev pub name_bits : Option Entry → SelsSeen → ℕ
name_bits None ss = 0
name_bits (Some (N.Value kind left)) ss = selected (range_bits left) ss.outer
name_bits (Some (N.Memory left)) ss = selected (range_bits left) ss.inner
name_bits (Some (N.Function left item)) ss = 0
name_bits (Some (N.Result left item)) ss = selected (range_bits left) ss.outer
name_bits (Some N.Part) ss = 0

abbrev pub is_net_kind : Kind → Bool
is_net_kind K.Input = false
is_net_kind K.Net = true
is_net_kind K.Variable = false
is_net_kind K.Local = false

abbrev pub is_net : Option Entry → Bool
is_net None = false
is_net (Some (N.Value kind left)) = is_net_kind kind
is_net (Some (N.Memory left)) = false
is_net (Some (N.Function left item)) = false
is_net (Some (N.Result left item)) = false
is_net (Some N.Part) = false

abbrev pub name_seen : Option Entry → SelsSeen → ℕ → Seen
name_seen entry ss at =
    let first = earlier (name_mark entry ss at) ss.first in
    record {
      size = plus 1 ss.size;
      width = name_bits entry ss;
      narrow = first;
      wide = first;
      is_target = true;
      driven = earlier (mark (not (is_net entry)) at) ss.moving;
    }

-- lists with commas
abbrev pub no_items : ListSeen
no_items = record { size = 0; width = 0; first = None; is_target = true; driven = None }

abbrev pub commas : ℕ → ℕ → ℕ
commas i size = if i == 0 then 0 else plus size 1

abbrev pub input_wide : Option VLocal → Bool
input_wide None = false
input_wide (Some l) = is_wide (bits_of l.range)

abbrev pub item_added : Bool → ListSeen → ℕ → Seen → ListSeen
item_added wide l before s = record {
  size = plus before s.size;
  width = bits_plus l.width s.width;
  first = earlier l.first (in_context s (wide || is_wide s.width));
  is_target = l.is_target && s.is_target;
  driven = earlier l.driven s.driven;
}

abbrev pub concat_seen : ListSeen → Seen
concat_seen l = record { size = plus 2 l.size; width = l.width; narrow = l.first; wide = l.first; is_target = l.is_target; driven = l.driven }

abbrev pub repeat_seen : ℕ → ListSeen → ℕ → Seen
repeat_seen count l at =
    let first = earlier (mark (count == 0) (plus at 1)) l.first in operand (plus 5 l.size) (bits_times count l.width) first first

abbrev pub call_bits : Option Entry → ℕ
call_bits None = 0
call_bits (Some (N.Value kind left)) = 0
call_bits (Some (N.Memory left)) = 0
call_bits (Some (N.Function left item)) = range_bits left
call_bits (Some (N.Result left item)) = range_bits left
call_bits (Some N.Part) = 0

abbrev pub is_function : Option Entry → Bool
is_function None = false
is_function (Some (N.Value kind left)) = false
is_function (Some (N.Memory left)) = false
is_function (Some (N.Function left item)) = true
is_function (Some (N.Result left item)) = true
is_function (Some N.Part) = false

-- so many arguments for so many inputs
abbrev pub call_seen : Option Entry → ℕ → ℕ → ListSeen → ℕ → Seen
call_seen entry inputs args l at =
    let first = earlier (mark (not (is_function entry && (inputs == args))) at) l.first in operand (plus 3 l.size) (call_bits entry) first first

-- operations
abbrev pub operation_bits : Operation → ℕ → ℕ → ℕ
operation_bits arithmetic l r = max l r
operation_bits power l r = l
operation_bits shift l r = l
operation_bits order l r = 1
operation_bits equality l r = 1
operation_bits bitwise l r = max l r
operation_bits logical l r = 1

-- whether the operands are valued in over 128 bits, by whether the operation and each operand alone are
abbrev pub left_wide : Operation → Bool → Bool → Bool → Bool
left_wide arithmetic w l r = w
left_wide power w l r = w
left_wide shift w l r = w
left_wide order w l r = l || r
left_wide equality w l r = l || r
left_wide bitwise w l r = w
left_wide logical w l r = l

abbrev pub right_wide : Operation → Bool → Bool → Bool → Bool
right_wide arithmetic w l r = w
right_wide power w l r = r
right_wide shift w l r = r
right_wide order w l r = l || r
right_wide equality w l r = l || r
right_wide bitwise w l r = w
right_wide logical w l r = r

abbrev pub is_too_wide : Operation → Bool → Bool → Bool → Bool
is_too_wide arithmetic w l r = w
is_too_wide power w l r = w || r
is_too_wide shift w l r = false
is_too_wide order w l r = l || r
is_too_wide equality w l r = false
is_too_wide bitwise w l r = false
is_too_wide logical w l r = false

abbrev pub binary_first : Operation → Bool → Seen → Seen → ℕ → Option ℕ
binary_first o w a b token =
    let l = is_wide a.width in
    let r = is_wide b.width in
    earlier (in_context a (left_wide o w l r)) (earlier (mark (is_too_wide o w l r) token) (in_context b (right_wide o w l r)))

abbrev pub binary_seen : Operation → Seen → Seen → ℕ → Seen
binary_seen o a b at =
    let token = plus at a.size in
    operand (plus a.size (plus 1 b.size)) (operation_bits o a.width b.width) (binary_first o false a b token) (binary_first o true a b token)

abbrev pub unary_first : Bool → Bool → Bool → Seen → ℕ → Option ℕ
unary_first spread negative w a at = earlier (mark (negative && w) at) (in_context a (if spread then w else is_wide a.width))

abbrev pub unary_seen : Bool → Bool → Seen → ℕ → Seen
unary_seen spread negative a at =
    operand (plus 1 a.size) (if spread then a.width else 1) (unary_first spread negative false a at) (unary_first spread negative true a at)

abbrev pub choose_seen : Seen → Seen → Seen → Seen
choose_seen on a b =
    operand (plus on.size (plus (plus 1 a.size) (plus 1 b.size))) (max a.width b.width)
    (earlier (alone on) (earlier a.narrow b.narrow)) (earlier (alone on) (earlier a.wide b.wide))

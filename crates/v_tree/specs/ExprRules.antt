-- The rules that expressions keep, as the tokens at which they break one. Tokens are counted: a tree has the tokens of its text.
use Rattle.std.specs.Prelude.{ℕ, suc, ◌+◌, ◌*◌, ◌==◌, max, nat_lt, Bool, true, false, not, ◌&&◌, List, [], ◌∷◌, ◌++◌, map, flat_map, length, Option, Some, None, if◌then◌else◌}
use Rattle.std.specs.List.{list_all}
use Rattle.v_tree.specs.Names.{Name}
use Rattle.v_tree.specs.Scopes.{input, net, variable, local, Thing, value, memory, function, result, part, Scope, Selected, named_bits, called_bits}
use Rattle.v_tree.specs.declared.expressions.VExpr.{VExpr, VExpr-F, fold-VExpr}
use Rattle.v_tree.specs.declared.expressions.VExtent.{VExtent}
use Rattle.v_tree.specs.declared.expressions.VExtent.TheVariants.{Down, Up}
use Rattle.v_tree.specs.declared.expressions.VPrim.{VPrim-F}
use Rattle.v_tree.specs.declared.expressions.VSel.{VSel, VSel-F, fold-VSel}
use Rattle.v_tree.specs.declared.operators.VBinaryOp.{VBinaryOp}
use Rattle.v_tree.specs.declared.operators.VBinaryOp.TheVariants as B
use Rattle.v_tree.specs.declared.operators.VUnaryOp.{VUnaryOp}
use Rattle.v_tree.specs.declared.operators.VUnaryOp.TheVariants as U

abbrev pub only_if : Bool → ℕ → List ℕ
only_if true token = token ∷ []
only_if false token = []

-- Where an expression stands: what names stand for, and which functions lead back to the function that it is in.
pub record Around : Type 0 where
  pub scope : Scope
  pub leads_back : Name → Bool

-- What a select is: its number of tokens, what the rules see of it, and the tokens of its base that break a rule.
pub record SelRules : Type 0 where
  pub size : ℕ
  pub selected : Selected
  pub broken : Around → ℕ → List ℕ
  -- the functions that it calls
  pub calls : Around → List Name

-- What an expression is: its number of tokens, its width alone (table 5-22), the tokens that break a rule at the width of its
-- context and from its first token on; and as what an output is connected to: whether it is a target, and the tokens that
-- break a rule there.
pub record Rules : Type 0 where
  pub size : ℕ
  pub width : Around → ℕ
  pub broken : Around → ℕ → ℕ → List ℕ
  pub is_target : Bool
  pub driven : Around → ℕ → List ℕ
  -- the functions that it calls
  pub calls : Around → List Name

-- alone, at its own width
abbrev pub alone : Rules → Around → ℕ → List ℕ
alone r around at = r.broken around (r.width around) at

abbrev pub total : List ℕ → ℕ
total [] = 0
total (n ∷ ns) = n + total ns

-- the tokens of a list with commas
abbrev pub listed_size : List Rules → ℕ
listed_size [] = 0
listed_size (r ∷ []) = r.size
listed_size (r ∷ s ∷ rs) = r.size + suc (listed_size (s ∷ rs))

-- the items of such a list, each with its first token
abbrev pub each_from : (Rules → ℕ → List ℕ) → List Rules → ℕ → List ℕ
each_from f [] at = []
each_from f (r ∷ rs) at = f r at ++ each_from f rs (at + suc r.size)

abbrev pub widths : List Rules → Around → List ℕ
widths rs around = map (λ (r : Rules). r.width around) rs

abbrev pub calls_in : List Rules → Around → List Name
calls_in rs around = flat_map (λ (r : Rules). r.calls around) rs

abbrev pub calls_in_sels : List SelRules → Around → List Name
calls_in_sels ss around = flat_map (λ (s : SelRules). s.calls around) ss

abbrev pub sels_size : List SelRules → ℕ
sels_size ss = total (map (λ (s : SelRules). s.size) ss)

abbrev pub selected_of : List SelRules → List Selected
selected_of ss = map (λ (s : SelRules). s.selected) ss

-- selects one behind the other
abbrev pub sels_broken : List SelRules → Around → ℕ → List ℕ
sels_broken [] around at = []
sels_broken (s ∷ ss) around at = s.broken around at ++ sels_broken ss around (at + s.size)

-- the token of the second select
abbrev pub second_sel : List SelRules → ℕ → ℕ
second_sel [] at = at
second_sel (s ∷ ss) at = at + s.size

-- more selects than this
abbrev pub more_than : ℕ → List SelRules → Bool
more_than n ss = nat_lt n (length ss)

abbrev pub is_index : Selected → Bool
is_index s = by_extent s.extent
  where
    by_extent : Option VExtent → Bool
    by_extent None = true
    by_extent (Some extent) = false

-- a memory stands with an index, which is the first select, without an extent
abbrev pub has_index : List Selected → Bool
has_index [] = false
has_index (s ∷ ss) = is_index s

-- the selects of a name that has this range, or none (clause 5.2.1): from the first select's token on
abbrev pub sels_on : Bool → List SelRules → ℕ → List ℕ
sels_on ranged ss at = only_if (more_than 0 ss && not ranged) at ++ only_if (more_than 1 ss) (second_sel ss at)

-- A name with selects stands for a value: the tokens at which it doesn't, the name's first.
abbrev pub name_broken : Option Thing → List SelRules → ℕ → List ℕ
name_broken None ss at = at ∷ []
name_broken (Some (value kind width ranged)) ss at = sels_on ranged ss (suc at)
name_broken (Some (memory width ranged)) ss at =
    only_if (not (has_index (selected_of ss))) at ++ only_if (more_than 1 ss && not ranged) (second_sel ss (suc at))
name_broken (Some (function width inputs)) ss at = at ∷ []
name_broken (Some (result width ranged inputs)) ss at = sels_on ranged ss (suc at)
name_broken (Some part) ss at = at ∷ []

-- arguments are assigned to inputs
abbrev pub args_broken : List ℕ → List Rules → Around → ℕ → List ℕ
args_broken inputs [] around at = []
args_broken [] (r ∷ rs) around at = alone r around at ++ args_broken [] rs around (at + suc r.size)
args_broken (n ∷ ns) (r ∷ rs) around at = r.broken around (max n (r.width around)) at ++ args_broken ns rs around (at + suc r.size)

-- a call names a function and has its number of arguments (clause 10.4.3)
abbrev pub call_broken : Option Thing → List Rules → ℕ → List ℕ
call_broken (Some (function width inputs)) args at = only_if (not (length inputs == length args)) at
call_broken (Some (result width ranged inputs)) args at = only_if (not (length inputs == length args)) at
call_broken (Some (value kind width ranged)) args at = at ∷ []
call_broken (Some (memory width ranged)) args at = at ∷ []
call_broken (Some part) args at = at ∷ []
call_broken None args at = at ∷ []

abbrev pub inputs_of : Option Thing → List ℕ
inputs_of (Some (function width inputs)) = inputs
inputs_of (Some (result width ranged inputs)) = inputs
inputs_of (Some (value kind width ranged)) = []
inputs_of (Some (memory width ranged)) = []
inputs_of (Some part) = []
inputs_of None = []

-- the function that a call names, where the name stands for one
abbrev pub called : Option Thing → Name → List Name
called (Some (function width inputs)) name = name ∷ []
called (Some (result width ranged inputs)) name = name ∷ []
called (Some (value kind width ranged)) name = []
called (Some (memory width ranged)) name = []
called (Some part) name = []
called None name = []

-- an output may drive a net that is no input
abbrev pub is_net : Option Thing → Bool
is_net (Some (value net width ranged)) = true
is_net (Some (value input width ranged)) = false
is_net (Some (value variable width ranged)) = false
is_net (Some (value local width ranged)) = false
is_net (Some (memory width ranged)) = false
is_net (Some (function width inputs)) = false
is_net (Some (result width ranged inputs)) = false
is_net (Some part) = false
is_net None = false

-- selects whose index is no decimal number
abbrev pub moving : List SelRules → ℕ → List ℕ
moving [] at = []
moving (s ∷ ss) at = only_if (not (is_decimal_base s.selected.base)) (suc at) ++ moving ss (at + s.size)
  where
    is_decimal_base : Option ℕ → Bool
    is_decimal_base None = false
    is_decimal_base (Some n) = true

-- what may stand behind the base of a select: the bounds of `:` are decimal numbers, the left one not below the right one
abbrev pub decimal_extent : ℕ → Option VExtent → ℕ → List ℕ
decimal_extent base None at = []
decimal_extent base (Some (Down right)) at = only_if (nat_lt base right) at
decimal_extent base (Some (Up width)) at = []

abbrev pub moving_extent : Option VExtent → ℕ → List ℕ
moving_extent None at = []
moving_extent (Some (Down right)) at = at ∷ []
moving_extent (Some (Up width)) at = []

abbrev pub extent_size : Option VExtent → ℕ
extent_size None = 0
extent_size (Some extent) = 2

abbrev pub sel_rules : VSel-F Rules Rules SelRules → SelRules
sel_rules (VSel-F.Decimal base extent) = record {
  size = 3 + extent_size extent;
  selected = record { base = Some base; extent = extent };
  broken = λ around at. decimal_extent base extent (suc at);
  calls = λ around. [];
}
sel_rules (VSel-F.Expr base extent) = record {
  size = 2 + (base.size + extent_size extent);
  selected = record { base = None; extent = extent };
  broken = λ around at. moving_extent extent (suc at) ++ alone base around (suc at);
  calls = base.calls;
}

-- no target
abbrev pub untargeted : Around → ℕ → List ℕ
untargeted around at = []

abbrev pub prim_rules : VPrim-F Rules Rules SelRules → Rules
prim_rules (VPrim-F.Number bits) = record {
  size = 1;
  width = λ around. length bits;
  broken = λ around w at. [];
  is_target = false;
  driven = untargeted;
  calls = λ around. [];
}
prim_rules (VPrim-F.Paren inner) = record {
  size = 2 + inner.size;
  width = inner.width;
  broken = λ around w at. inner.broken around w (suc at);
  is_target = false;
  driven = untargeted;
  calls = inner.calls;
}
prim_rules (VPrim-F.Name name sels) = record {
  size = suc (sels_size sels);
  width = λ around. named_bits (around.scope name) (selected_of sels);
  broken = λ around w at. name_broken (around.scope name) sels at ++ sels_broken sels around (suc at);
  is_target = true;
  driven = λ around at. only_if (not (is_net (around.scope name))) at ++ moving sels (suc at);
  calls = calls_in_sels sels;
}
prim_rules (VPrim-F.Call name args) = record {
  size = 3 + listed_size args;
  width = λ around. called_bits (around.scope name);
  broken = λ around w at.
      call_broken (around.scope name) args at ++ (only_if (around.leads_back name) at ++ args_broken (inputs_of (around.scope name)) args around (at + 2));
  is_target = false;
  driven = untargeted;
  calls = λ around. called (around.scope name) name ++ calls_in args around;
}
prim_rules (VPrim-F.Repeat count items) = record {
  size = 5 + listed_size items;
  width = λ around. count * total (widths items around);
  broken = λ around w at. only_if (count == 0) (suc at) ++ each_from (λ r from. alone r around from) items (at + 3);
  is_target = false;
  driven = untargeted;
  calls = calls_in items;
}
prim_rules (VPrim-F.Concat items) = record {
  size = 2 + listed_size items;
  width = λ around. total (widths items around);
  broken = λ around w at. each_from (λ r from. alone r around from) items (suc at);
  is_target = list_all (λ (r : Rules). r.is_target) items;
  driven = λ around at. each_from (λ r from. r.driven around from) items (suc at);
  calls = calls_in items;
}
prim_rules (VPrim-F.Sign signed of) = record {
  size = 3 + of.size;
  width = of.width;
  broken = λ around w at. alone of around (at + 2);
  is_target = false;
  driven = untargeted;
  calls = of.calls;
}

-- the kinds of operators of table 5-22
pub data Operation : Type 0 where
  arithmetic : Operation
  power : Operation
  shift : Operation
  order : Operation
  equality : Operation
  bitwise : Operation
  logical : Operation

abbrev pub kind_of : VBinaryOp → Operation
kind_of B.Add = arithmetic
kind_of B.Sub = arithmetic
kind_of B.Mul = arithmetic
kind_of B.Div = arithmetic
kind_of B.Rem = arithmetic
kind_of B.Power = power
kind_of B.ShiftLeft = shift
kind_of B.ShiftRight = shift
kind_of B.ArithmeticLeft = shift
kind_of B.ArithmeticRight = shift
kind_of B.Less = order
kind_of B.LessEqual = order
kind_of B.Greater = order
kind_of B.GreaterEqual = order
kind_of B.Equal = equality
kind_of B.NotEqual = equality
kind_of B.CaseEqual = equality
kind_of B.CaseNotEqual = equality
kind_of B.And = bitwise
kind_of B.Or = bitwise
kind_of B.Xor = bitwise
kind_of B.Xnor = bitwise
kind_of B.LogicalAnd = logical
kind_of B.LogicalOr = logical

-- the width of an operation alone, by those of its operands
abbrev pub operation_width : Operation → ℕ → ℕ → ℕ
operation_width arithmetic l r = max l r
operation_width power l r = l
operation_width shift l r = l
operation_width order l r = 1
operation_width equality l r = 1
operation_width bitwise l r = max l r
operation_width logical l r = 1

-- the widths at which the operands are valued, where the operation is valued at w
abbrev pub left_width : Operation → ℕ → ℕ → ℕ → ℕ
left_width arithmetic w l r = w
left_width power w l r = w
left_width shift w l r = w
left_width order w l r = max l r
left_width equality w l r = max l r
left_width bitwise w l r = w
left_width logical w l r = l

abbrev pub right_width : Operation → ℕ → ℕ → ℕ → ℕ
right_width arithmetic w l r = w
right_width power w l r = r
right_width shift w l r = r
right_width order w l r = max l r
right_width equality w l r = max l r
right_width bitwise w l r = w
right_width logical w l r = r

-- arithmetic and order are done on 128 bits at most
abbrev pub too_wide : Operation → ℕ → ℕ → ℕ → Bool
too_wide arithmetic w l r = nat_lt 128 w
too_wide power w l r = nat_lt 128 (max w r)
too_wide shift w l r = false
too_wide order w l r = nat_lt 128 (max l r)
too_wide equality w l r = false
too_wide bitwise w l r = false
too_wide logical w l r = false

abbrev pub binary_rules : Operation → Rules → Rules → Rules
binary_rules o a b = record {
  size = a.size + suc b.size;
  width = λ around. operation_width o (a.width around) (b.width around);
  broken = λ around w at.
      let l = a.width around in
      let r = b.width around in
      a.broken around (left_width o w l r) at
      ++ (only_if (too_wide o w l r) (at + a.size) ++ b.broken around (right_width o w l r) (at + suc a.size));
  is_target = false;
  driven = untargeted;
  calls = λ around. a.calls around ++ b.calls around;
}

-- whether the operand takes the width of the context
abbrev pub spreads : VUnaryOp → Bool
spreads U.Not = true
spreads U.LogicalNot = false
spreads U.Neg = true
spreads U.And = false
spreads U.Nand = false
spreads U.Or = false
spreads U.Nor = false
spreads U.Xor = false
spreads U.Xnor = false

abbrev pub is_negative : VUnaryOp → Bool
is_negative U.Not = false
is_negative U.LogicalNot = false
is_negative U.Neg = true
is_negative U.And = false
is_negative U.Nand = false
is_negative U.Or = false
is_negative U.Nor = false
is_negative U.Xor = false
is_negative U.Xnor = false

abbrev pub expr_rules : VExpr-F Rules Rules SelRules → Rules
expr_rules (VExpr-F.Prim a) = a
expr_rules (VExpr-F.Unary op a) = record {
  size = suc a.size;
  width = λ around. if spreads op then a.width around else 1;
  broken = λ around w at.
      only_if (is_negative op && nat_lt 128 w) at ++ a.broken around (if spreads op then w else a.width around) (suc at);
  is_target = false;
  driven = untargeted;
  calls = a.calls;
}
expr_rules (VExpr-F.Binary op a b) = binary_rules (kind_of op) a b
expr_rules (VExpr-F.Choose on a b) = record {
  size = on.size + suc (a.size + suc b.size);
  width = λ around. max (a.width around) (b.width around);
  broken = λ around w at.
      alone on around at ++ (a.broken around w (at + suc on.size) ++ b.broken around w (at + (suc on.size + suc a.size)));
  is_target = false;
  driven = untargeted;
  calls = λ around. on.calls around ++ (a.calls around ++ b.calls around);
}

abbrev pub rules_of : VExpr → Rules
rules_of = fold-VExpr Rules Rules SelRules expr_rules prim_rules sel_rules

abbrev pub sel_rules_of : VSel → SelRules
sel_rules_of = fold-VSel Rules Rules SelRules expr_rules prim_rules sel_rules

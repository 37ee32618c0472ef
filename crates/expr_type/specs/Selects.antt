-- Selects (IEEE 1800-2017 clauses 7.2.1, 7.4.5, 7.4.6 and 11.5.1).
use Rattle.std.specs.Prelude.{ℕ, suc, ◌^◌, Bool, false, nat_lt, not, cond, ℤ, pos, neg_ℤ, ◌-ℤ◌, int_le, List, [], ◌∷◌, Option, Some, None, Ok, Err, unsigned_abs}
use Rattle.std.specs.Str.{bytes_eq}
use Rattle.sv_types.specs.declared.expression.Form.TheVariants as F
use Rattle.sv_types.specs.declared.types.Member as M
use Rattle.sv_types.specs.declared.types.SvType.{SvType}
use Rattle.sv_types.specs.declared.types.SvType.TheVariants.{PackedArray}
use Rattle.sv_types.specs.Layouts.{layout, width_of}
use Rattle.expr_type.specs.Breaks.{At}
use Rattle.expr_type.specs.Typings.{Checked, Typing, refused, checked, both, rule}
use Rattle.expr_type.specs.Shapes.{is_unpacked, is_indexed, element_of, members_of}
use Rattle.expr_type.specs.Names.{Source, position, word}
use Rattle.expr_type.specs.declared.operand.Number.{Number}
use Rattle.expr_type.specs.declared.operand.Valued.{Valued}
use Rattle.expr_type.specs.declared.step.Step.{Step}
use Rattle.expr_type.specs.declared.step.Step.TheVariants.{Member, Index, Part, Slide}
use Rattle.expr_type.specs.Operands.{Operand, width, bits_in, number_within}
use Rattle.expr_type.specs.Operators.{by_itself, not_too_long}

-- the member with a name, by its number and type
pub record Place : Type 0 where
  pub number : ℕ
  pub of : SvType

abbrev pub named : ℕ → List M.Member → List ℕ → Option Place
named n [] name = None
named n (m ∷ ms) name = cond (bytes_eq m.name name) (Some (record { number = n; of = m.of })) (named (suc n) ms name)

abbrev pub member_or : Source → ℕ → Valued → Option Place → Checked Valued
member_or k at v None = Err (At (position k at) 405)
member_or k at v (Some m) = not_too_long k at (width_of m.of) (Ok (by_itself k v.first m.of (F.Member v.expr m.number)))

-- `.name` (E405)
abbrev pub member_of : Source → ℕ → Valued → Checked Valued
member_of k at v = member_or k at v (named 0 (members_of v.expr.of) (word k at))

-- an index has at most 64 bits (E507)
abbrev pub most_of_index : ℕ
most_of_index = 64

abbrev pub is_index : Source → Valued → Checked Valued
is_index k v = refused (nat_lt most_of_index (width v)) (position k v.first) 507 (Ok v)

abbrev pub index_in : Source → Typing Operand → Typing Valued
index_in k x = checked (bits_in k x) (λ v. rule (is_index k v))

-- bounds of selects and dimensions are 64 bits wide, widths of selects 32
abbrev pub bound_in : Source → Typing Operand → Typing Number
bound_in k = number_within k (neg_ℤ (pos (2 ^ 63))) (pos (2 ^ 63) -ℤ pos 1)

abbrev pub width_in : Source → Typing Operand → Typing Number
width_in k = number_within k (pos 1) (pos (2 ^ 32) -ℤ pos 1)

-- `[index]`
abbrev pub element : Source → ℕ → Valued → Valued → Checked Valued
element k opening v i =
    let of = element_of v.expr.of in
    refused (not (is_indexed v.expr.of)) (position k opening) 508
    (not_too_long k opening (width_of of) (Ok (by_itself k v.first of (F.Index v.expr i.expr))))

-- whether bounds go the other way than those of what is selected from; equal ones go either way
abbrev pub falls : ℤ → ℤ → Bool
falls left right = int_le right left

abbrev pub goes_wrong : SvType → ℤ → ℤ → Bool
goes_wrong t left right = cond (falls (layout t).left (layout t).right) (not (falls left right)) (not (int_le left right))

-- a part-select is an unsigned array of the elements
abbrev pub part_type : SvType → ℤ → ℤ → SvType
part_type t left right = PackedArray left right false (element_of t)

-- `[left:right]`, of which the wrong direction breaks E411 at the left bound
abbrev pub part : Source → ℕ → Valued → Number → Number → Checked Valued
part k opening v left right =
    let of = part_type v.expr.of left.number right.number in
    refused (is_unpacked v.expr.of) (position k opening) 508
    (refused (goes_wrong v.expr.of left.number right.number) (position k left.first) 411
    (not_too_long k opening (width_of of) (Ok (by_itself k v.first of (F.Part v.expr left.number right.number)))))

-- `[base +: width]` and `[base -: width]`
abbrev pub slide : Source → ℕ → Bool → Valued → Valued → ℤ → Checked Valued
slide k opening up v i n =
    let of = part_type v.expr.of (n -ℤ pos 1) (pos 0) in
    refused (is_unpacked v.expr.of) (position k opening) 508
    (not_too_long k opening (width_of of) (Ok (by_itself k v.first of (F.Slide v.expr i.expr (unsigned_abs n) up))))

-- a step of a path, whose own parts are whole
abbrev pub stepped : Source → Valued → Step → Checked Valued
stepped k v (Member name) = member_of k name v
stepped k v (Index opening i) = element k opening v i
stepped k v (Part opening left right) = part k opening v left right
stepped k v (Slide opening up i n) = slide k opening up v i n.number

-- what selects behind it make of what stands before them
abbrev pub path : Source → Typing Valued → List (Typing Step) → Typing Valued
path k x [] = x
path k x (s ∷ ss) = path k (both x s (λ v t. rule (stepped k v t))) ss

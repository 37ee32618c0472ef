-- Names that are assigned to (IEEE 1800-2017 clauses 10.3, 10.4 and 25.5).
use Rattle.std.specs.Prelude.{ℕ, Bool, true, false, ◌&&◌, cond, List, [], ◌∷◌, Option, Some, None, Ok, Err}
use Rattle.sv_tree.specs.declared.names.QualifiedName.{QualifiedName}
use Rattle.sv_tree.specs.Extents.{qualified_first}
use Rattle.sv_types.specs.declared.expression.Form.TheVariants as F
use Rattle.sv_types.specs.declared.frame.SignalId.{SignalId}
use Rattle.expr_type.specs.Breaks.{At, Quiet}
use Rattle.expr_type.specs.Typings.{Checked, Typing, whole, broken, rule, checked, refused}
use Rattle.expr_type.specs.Shapes.{is_unpacked}
use Rattle.expr_type.specs.Names.{Context, Source, Thing, Signal, Local, Constant, TypeName, Interface, Other, Nothing, position, thing, word, member_in}
use Rattle.expr_type.specs.declared.operand.Valued.{Valued}
use Rattle.expr_type.specs.Operators.{by_itself}
use Rattle.expr_type.specs.Selects.{path}
use Rattle.expr_type.specs.Forms.{SelectMeaning, member_signal, steps}

-- Names. Statements assign to no net, of an interface either (E404), and nothing assigns to what a modport lists as input (E410).
-- An actual that is no variable can't be assigned (E501).
abbrev pub member_target : Context → Bool → ℕ → ℕ → ℕ → Option SignalId → Checked Valued
member_target k in_statement first n at None = Err (At (position k.source at) 405)
member_target k in_statement first n at (Some s) =
    refused (in_statement && k.is_net_member n (word k.source at)) (position k.source at) 404
    (refused s.input (position k.source at) 410 (member_signal k.source first s))

abbrev pub interface_target : Context → Bool → ℕ → ℕ → List SelectMeaning → Typing Valued
interface_target k in_statement first n [] = broken Quiet
interface_target k in_statement first n (s ∷ ss) = elim s.member [
  | None ↦ broken Quiet
  | Some at ↦ path k.source (rule (member_target k in_statement first n at (member_in n (word k.source at) k.signals))) (steps k ss)
]

abbrev pub is_net_found : Context → Option ℕ → Bool
is_net_found k None = false
is_net_found k (Some n) = k.is_net n

abbrev pub thing_target : Context → Bool → ℕ → Bool → List SelectMeaning → Thing → Typing Valued
thing_target k in_statement first net ss (Signal n t) =
    path k.source (rule (refused (in_statement && net) (position k.source first) 501 (Ok (by_itself k.source first t (F.Signal n))))) (steps k ss)
thing_target k in_statement first net ss (Local n t) = path k.source (whole (by_itself k.source first t (F.Local n))) (steps k ss)
thing_target k in_statement first net ss (Constant t v) = broken (At (position k.source first) 501)
thing_target k in_statement first net ss (TypeName t) = broken Quiet
thing_target k in_statement first net ss (Interface n) = interface_target k in_statement first n ss
thing_target k in_statement first net ss (Other n) = broken Quiet
thing_target k in_statement first net ss Nothing = broken Quiet

abbrev pub named_target : Context → Bool → QualifiedName → List SelectMeaning → Typing Valued
named_target k in_statement of ss = thing_target k in_statement (qualified_first of) (is_net_found k (k.finds of)) ss (thing k of)

-- an actual of an output: no net, of an interface either, can be assigned there (E501)
abbrev pub is_net_of : Context → ℕ → List SelectMeaning → Bool
is_net_of k n [] = false
is_net_of k n (s ∷ ss) = elim s.member [ None ↦ false | Some at ↦ k.is_net_member n (word k.source at) ]

abbrev pub is_net_thing : Context → List SelectMeaning → Thing → Bool
is_net_thing k ss (Signal n t) = false
is_net_thing k ss (Local n t) = false
is_net_thing k ss (Constant t v) = false
is_net_thing k ss (TypeName t) = false
is_net_thing k ss (Interface n) = is_net_of k n ss
is_net_thing k ss (Other n) = false
is_net_thing k ss Nothing = false

abbrev pub actual_target : Context → QualifiedName → List SelectMeaning → Typing Valued
actual_target k of ss =
    cond (is_net_thing k ss (thing k of)) (broken (At (position k.source (qualified_first of)) 501)) (named_target k true of ss)

-- a part of a concatenated target has bits (E508)
abbrev pub is_packed_target : Source → Valued → Checked Valued
is_packed_target k v = refused (is_unpacked v.expr.of) (position k v.first) 508 (Ok v)

abbrev pub packed_target : Source → Typing Valued → Typing Valued
packed_target k x = checked x (λ v. rule (is_packed_target k v))

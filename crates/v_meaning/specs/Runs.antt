-- What assignments and other statements do (IEEE 1364-2005 clauses 9.2, 9.4, 9.5 and 9.8). A run goes over a fixed valuation,
-- with what it has written so far.
use Rattle.std.specs.Prelude.{ℕ, max, Bool, true, false, ◌&&◌, ◌||◌, not, List, [], ◌∷◌, replicate, zip}
use Rattle.std.specs.List.{list_any, list_all}
use Rattle.b4_core.specs.declared.bit.Bit4.{Bit4}
use Rattle.b4_core.specs.declared.bit.Bit4.TheVariants.{Zero, One, X, Z}
use Rattle.b4_core.specs.Bits.{known4, is_one, same4}
use Rattle.row_machine.specs.Valuation.{Valuation, Changes, put}
use Rattle.row_machine.specs.Steps.{unchanged, then_changes}
use Rattle.picks.specs.Windows.{whole, written}
use Rattle.v_tree.specs.declared.statements.VCaseKind.{VCaseKind}
use Rattle.v_tree.specs.declared.statements.VCaseKind.TheVariants as K
use Rattle.v_meaning.specs.Scopes.{Named, Scope, all_bits}
use Rattle.v_meaning.specs.Values.{Meaning, truth}

-- what a run has written by blocking assignments, and what is pending of its nonblocking ones
pub record State : Type 0 where
  pub written : Changes
  pub pending : Changes

abbrev pub begun : State
begun = record { written = unchanged; pending = unchanged }

abbrev pub Run : Type 0
Run = Scope → Valuation → State → State

-- what signals and locals hold at some point of a run
abbrev pub current : Valuation → State → Valuation
current v s = put s.written v

abbrev pub idle : Run
idle sc v s = s

abbrev pub one_of : Bool → Run → Run → Run
one_of true r o = r
one_of false r o = o

-- a condition is true where a bit of it is 1; an unknown one isn't (clause 9.4)
abbrev pub is_true : Meaning → Scope → Valuation → Bool
is_true m sc v = is_one (truth m sc v)

abbrev pub branch : Meaning → Run → Run → Run
branch on then other sc v s = one_of (is_true on sc (current v s)) then other sc v s

abbrev pub assign_now : Changes → State → State
assign_now c s = record s { written = then_changes s.written c }

abbrev pub assign_later : Changes → State → State
assign_later c s = record s { pending = then_changes s.pending c }

abbrev pub assign_as : Bool → Changes → State → State
assign_as true = assign_later
assign_as false = assign_now

-- locals hold x when their block or function is entered
abbrev pub cleared : List Named → Changes
cleared [] = unchanged
cleared (n ∷ ns) = then_changes (written n.number (whole (all_bits n)) (replicate (all_bits n) X)) (cleared ns)

-- whether a bit of a selector and one of an item match (clause 9.5.1)
abbrev pub is_z : Bit4 → Bool
is_z Zero = false
is_z One = false
is_z X = false
is_z Z = true

abbrev pub match4 : VCaseKind → Bit4 → Bit4 → Bool
match4 K.Plain p q = same4 p q
match4 K.Z p q = same4 p q || (is_z p || is_z q)
match4 K.X p q = same4 p q || not (known4 p && known4 q)

abbrev pub agree : VCaseKind → List Bit4 → List Bit4 → Bool
agree kind u v = list_all (λ p. match4 kind p.0 p.1) (zip u v)

-- the selector and all items have the largest width, and a sign only if all have one
abbrev pub widest : List Meaning → Scope → ℕ
widest [] sc = 0
widest (m ∷ ms) sc = max (m.width sc) (widest ms sc)

abbrev pub all_signed : List Meaning → Bool
all_signed ms = list_all (λ (m : Meaning). m.signed) ms

-- a selector as it is compared
pub record Selector : Type 0 where
  pub kind : VCaseKind
  pub width : ℕ
  pub signed : Bool
  pub value : List Bit4

abbrev pub selector : VCaseKind → Meaning → List Meaning → Scope → Valuation → Selector
selector kind on values sc v =
    let w = widest (on ∷ values) sc in
    let s = all_signed (on ∷ values) in
    record { kind = kind; width = w; signed = s; value = on.value w s sc v }

abbrev pub matches : Selector → Scope → Valuation → Meaning → Bool
matches on sc v m = agree on.kind on.value (m.value on.width on.signed sc v)

-- an item of a `case` that isn't its `default`: its values and what it runs
pub record ItemRun : Type 0 where
  pub values : List Meaning
  pub run : Run

-- the first item of which a value matches, and else the `default`
abbrev pub first_match : Selector → List ItemRun → Run → Run
first_match on [] other sc v s = other sc v s
first_match on (i ∷ is) other sc v s = one_of (list_any (matches on sc (current v s)) i.values) i.run (first_match on is other) sc v s

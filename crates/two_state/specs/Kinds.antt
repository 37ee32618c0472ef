-- What each helper function gives (IEEE 1800-2017 clauses 6.3.2, 6.24, 7.4.6 and 11.4.6), and the expressions that they are made of.
use Rattle.std.specs.Prelude.{◌≡◌, ℕ, zero, suc, ◌-◌, ◌<◌, true, false, List, [], ◌∷◌, replicate, None, Some}
use Rattle.b4_core.specs.declared.bit.Bit4.TheVariants.{One, X}
use Rattle.b4_core.specs.declared.operators.BinOp.TheVariants as B
use Rattle.b4_core.specs.declared.operators.EqOp.TheVariants.{Case}
use Rattle.b4_core.specs.declared.operators.RedOp.TheVariants as R
use Rattle.b4_core.specs.declared.operators.UnOp.TheVariants as U
use Rattle.v_tree.specs.Names.{Name}
use Rattle.v_tree.specs.declared.expressions.VExtent.TheVariants.{Up}
use Rattle.v_tree.specs.declared.items.VFunction.{VFunction}
use Rattle.v_tree.specs.declared.items.VLocal.{VLocal}
use Rattle.v_tree.specs.declared.names.HelperKind.{HelperKind}
use Rattle.v_tree.specs.declared.names.HelperKind.TheVariants.{Cast, TwoState, Select, WildEq}
use Rattle.v_meaning.specs.Scopes.{Callee}
use Rattle.v_meaning.specs.Statements.{doing, assignment, name_target}
use Rattle.v_meaning.specs.Values.{Meaning, reference, literal, concatenation, unary, binary, reduce, equal, signing, decimal_base, expression_base}
use Rattle.lowering_laws.specs.Helpers.{Stores, Slices, Matches}

-- a helper of a kind for vectors of w bits
abbrev pub Helps : HelperKind → ℕ → Callee → Type 0
Helps Cast w f = Stores (replicate w false) f
Helps TwoState w f = Stores (replicate w true) f
Helps (Select part index) w f = Slices part w index f
Helps WildEq w f = Matches w f

-- its sizes are at least 1
abbrev pub HasBits : HelperKind → Type 0
HasBits Cast = Unit {0}
HasBits TwoState = Unit {0}
HasBits (Select part index) = (0 < part) × (0 < index)
HasBits WildEq = Unit {0}

-- the inputs: the vector, and an offset or a second vector
abbrev pub vector : Name
vector = 118 ∷ []

abbrev pub other : Name
other = 111 ∷ []

-- an input of so many bits, which has a range also where it has one bit, so that it has selects
abbrev pub input_of : Name → ℕ → VLocal
input_of name w = record { range = Some (w - 1); name = name }

-- a function of such inputs whose result has n bits and is this expression
abbrev pub Gives : VFunction → Name → ℕ → List VLocal → Meaning → Type 0
Gives f name n inputs m =
    (f.name ≡ name) × (f.range ≡ Some (n - 1)) × (f.inputs ≡ inputs) × (f.locals ≡ []) × (doing f.body ≡ assignment false (name_target name []) m)

abbrev pub bit : Name → ℕ → Meaning
bit name i = reference name (decimal_base i None ∷ [])

-- one for each bit, the most significant first
abbrev pub each : (ℕ → Meaning) → ℕ → List Meaning
each f zero = []
each f (suc n) = f n ∷ each f n

-- `v[i] === 1'b1`
abbrev pub is_set : ℕ → Meaning
is_set i = equal Case (bit vector i) (literal (One ∷ []))

-- `((~o[i]) === 1'bx) | (v[i] ~^ o[i])`
abbrev pub matching : ℕ → Meaning
matching i = binary B.Or (equal Case (unary U.Not (bit other i)) (literal (X ∷ []))) (binary B.Xnor (bit vector i) (bit other i))

-- the result of a helper of each kind
abbrev pub value_of : HelperKind → ℕ → Meaning
value_of Cast w = reference vector []
value_of TwoState w = concatenation (each is_set w)
value_of (Select part index) w = reference vector (expression_base (signing true (reference other [])) (Some (Up part)) ∷ [])
value_of WildEq w = reduce R.And (concatenation (each matching w))

-- how many bits it has, and the inputs
abbrev pub result_width : HelperKind → ℕ → ℕ
result_width Cast w = w
result_width TwoState w = w
result_width (Select part index) w = part
result_width WildEq w = 1

abbrev pub inputs_for : HelperKind → ℕ → List VLocal
inputs_for Cast w = input_of vector w ∷ []
inputs_for TwoState w = input_of vector w ∷ []
inputs_for (Select part index) w = input_of vector w ∷ input_of other index ∷ []
inputs_for WildEq w = input_of vector w ∷ input_of other w ∷ []

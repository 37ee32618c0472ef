-- The expressions of the target that place, guard and read a select path.
use Rattle.std.specs.Prelude.{ℕ, ◌+◌, ◌-◌, true, ℤ, pos, [], ◌∷◌, Option, Some, None}
use Rattle.b4_core.specs.declared.operators.BinOp.TheVariants.{Add, Sub, Mul}
use Rattle.b4_core.specs.declared.operators.OrdOp.TheVariants.{LessEqual, GreaterEqual}
use Rattle.b4_core.specs.Vectors.{digits, vec}
use Rattle.v_tree.specs.declared.expressions.VExtent.TheVariants.{Up, Down}
use Rattle.v_meaning.specs.Selects.{SelMeaning}
use Rattle.v_meaning.specs.Values.{Meaning, literal, concatenation, binary, both, order, choose, signing, decimal_base, expression_base}

-- a number of w bits, unsigned and signed
abbrev pub number_of_bits : ℕ → ℕ → Meaning
number_of_bits w n = literal (digits w n)

abbrev pub bound : ℕ → ℤ → Meaning
bound w n = signing true (literal (vec w n))

-- an operand in braces, which is unsigned and valued alone
abbrev pub braced : Meaning → Meaning
braced y = concatenation (y ∷ [])

-- a condition that an unsigned index isn't behind the last one, and one that a signed index lies between two bounds
abbrev pub at_most : Meaning → ℕ → ℕ → Meaning
at_most y w last = order LessEqual y (number_of_bits w last)

abbrev pub between : Meaning → ℕ → ℤ → ℤ → Meaning
between z w low high = both (order GreaterEqual z (bound w low)) (order LessEqual z (bound w high))

-- how far a signed index lies above a bound, or under it
abbrev pub above : Meaning → ℕ → ℤ → Meaning
above z w n = braced (binary Sub z (bound w n))

abbrev pub under : Meaning → ℕ → ℤ → Meaning
under z w n = braced (binary Sub (bound w n) z)

-- so many items, of a difference that is read as a signed number
abbrev pub scaled : Meaning → ℕ → ℕ → Meaning
scaled r item w = binary Mul (signing true r) (bound w (pos item))

-- two guards as one
abbrev pub and_guard : Option Meaning → Option Meaning → Option Meaning
and_guard None h = h
and_guard (Some g) None = Some g
and_guard (Some g) (Some h) = Some (both g h)

-- an offset that is moved by so many bits, or by so many items
abbrev pub advanced : Meaning → ℕ → ℕ → Meaning
advanced o below w = binary Add o (number_of_bits w below)

abbrev pub moved : Meaning → Meaning → ℕ → ℕ → Meaning
moved o r item w = binary Add o (binary Mul r (number_of_bits w item))

-- `[o +: n]`, `[o]`, `[low + n - 1:low]` and `[low]`
abbrev pub slide : Meaning → ℕ → SelMeaning
slide o n = expression_base o (Some (Up n))

abbrev pub bit_at_offset : Meaning → SelMeaning
bit_at_offset o = expression_base o None

abbrev pub range : ℕ → ℕ → SelMeaning
range low n = decimal_base (low + n - 1) (Some (Down low))

abbrev pub bit_at_number : ℕ → SelMeaning
bit_at_number low = decimal_base low None

-- an expression, and under a guard another one where it doesn't hold
abbrev pub guarded : Option Meaning → Meaning → Meaning → Meaning
guarded None m d = m
guarded (Some g) m d = choose g m d

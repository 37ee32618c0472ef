-- What the names in a module, a function or a block stand for (IEEE 1364-2005 clause 12.7).
use Rattle.std.specs.Prelude.{ℕ, ◌+◌, ◌*◌, ◌^◌, nat_lt, Bool, List, [], ◌∷◌, Option, Some, None, cond}
use Rattle.std.specs.Str.{bytes_eq}
use Rattle.b4_core.specs.declared.bit.Bit4.{Bit4}
use Rattle.row_machine.specs.Valuation.{Valuation}
use Rattle.v_tree.specs.Names.{Name}

-- A declared name: the number of its signal or local, its bits, or those of a word, and how many words it has if it is a
-- memory. Word i of a memory of w bits each is its bits from w * i on.
pub record Named : Type 0 where
  pub name : Name
  pub number : ℕ
  pub width : ℕ
  pub words : Option ℕ

-- Signals and locals have one numbering: the locals stand behind all signals, whose numbers are below 2^32.
abbrev pub local_number : ℕ → ℕ
local_number n = 2 ^ 32 + n

abbrev pub is_signal : ℕ → Bool
is_signal n = nat_lt n (2 ^ 32)

-- `[left:0]` has left + 1 bits, and a name without a range has one (clause 4.3.1)
abbrev pub bits_of_range : Option ℕ → ℕ
bits_of_range (Some left) = left + 1
bits_of_range None = 1

-- a read or a write: the bits from low up to, but not including, high of a signal or local
pub record Use : Type 0 where
  pub number : ℕ
  pub low : ℕ
  pub high : ℕ

-- a function: the bits of its result and of its inputs, what it gives for what the module's signals and the inputs hold,
-- and the names of the module that it reads
pub record Callee : Type 0 where
  pub width : ℕ
  pub inputs : List ℕ
  pub run : Valuation → List (List Bit4) → List Bit4
  pub reads : List Use

-- The names that can be used at some place, the innermost first, the number of the next local, and the functions of the
-- module.
pub record Scope : Type 0 where
  pub names : List Named
  pub next : ℕ
  pub callee : Name → Callee

-- all bits of a name, those of all words of a memory
abbrev pub all_bits : Named → ℕ
all_bits n = elim n.words [ None ↦ n.width | Some count ↦ count * n.width ]

-- a name that isn't declared stands for nothing; no such text is a design
abbrev pub undeclared : Named
undeclared = record { name = []; number = 0; width = 0; words = None }

abbrev pub named : List Named → Name → Named
named [] name = undeclared
named (n ∷ ns) name = cond (bytes_eq n.name name) n (named ns name)

abbrev pub absent : Callee
absent = record { width = 0; inputs = []; run = λ v args. []; reads = [] }

-- What names stand for where they are used (IEEE 1364-2005 clauses 4, 10.4 and 12.7), and how many bits they have.
use Rattle.std.specs.Prelude.{ℕ, suc, ◌+◌, ◌-◌, Bool, true, false, List, [], ◌∷◌, Option, Some, None, if◌then◌else◌}
use Rattle.std.specs.Str.{bytes_eq}
use Rattle.v_tree.specs.Names.{Name}
use Rattle.v_tree.specs.declared.expressions.VExtent.{VExtent}
use Rattle.v_tree.specs.declared.expressions.VExtent.TheVariants.{Down, Up}

-- an input, another net, a variable of the module, or a variable of a function or block
pub data Kind : Type 0 where
  input : Kind
  net : Kind
  variable : Kind
  local : Kind

-- What a name stands for. `ranged` says that it was declared with a range.
pub data Thing : Type 0 where
  value : (kind : Kind) (width : ℕ) (ranged : Bool) → Thing
  memory : (width : ℕ) (ranged : Bool) → Thing
  function : (width : ℕ) (inputs : List ℕ) → Thing
  -- a function in its own body, where its name holds its result
  result : (width : ℕ) (ranged : Bool) (inputs : List ℕ) → Thing
  -- an instance or a block
  part : Thing

-- a declared name, with its token
pub record Declared : Type 0 where
  pub name : Name
  pub token : ℕ
  pub thing : Thing

abbrev pub Scope : Type 0
Scope = Name → Option Thing

-- the first of these with the name, or else what it stands for outside
abbrev pub inside : List Declared → Scope → Scope
inside [] outer name = outer name
inside (d ∷ ds) outer name = if bytes_eq d.name name then Some d.thing else inside ds outer name

abbrev pub nowhere : Scope
nowhere name = None

-- the tokens of those that have the name of an earlier one
abbrev pub is_declared : List Declared → Name → Bool
is_declared [] name = false
is_declared (d ∷ ds) name = if bytes_eq d.name name then true else is_declared ds name

abbrev pub repeated : List Declared → List Declared → List ℕ
repeated before [] = []
repeated before (d ∷ ds) = if is_declared before d.name then d.token ∷ repeated (d ∷ before) ds else repeated (d ∷ before) ds

-- `[left:0]` has left + 1 bits, and one bit without a range (clause 4.3.1)
abbrev pub bits_of : Option ℕ → ℕ
bits_of (Some left) = left + 1
bits_of None = 1

abbrev pub has_range : Option ℕ → Bool
has_range (Some left) = true
has_range None = false

-- What a select is to the rules: whether its base is a decimal number, and which, and its extent.
pub record Selected : Type 0 where
  pub base : Option ℕ
  pub extent : Option VExtent

-- how many bits a select of bits takes; where its base is no decimal number, those of `:` are not told
abbrev pub part_bits : Selected → ℕ
part_bits s = by_extent s.base s.extent
  where
    by_extent : Option ℕ → Option VExtent → ℕ
    by_extent base None = 1
    by_extent base (Some (Up width)) = width
    by_extent (Some left) (Some (Down right)) = suc left - right
    by_extent None (Some (Down right)) = 1

-- the bits of a name with selects; the first select of a memory takes a word
abbrev pub selected_bits : ℕ → List Selected → ℕ
selected_bits width [] = width
selected_bits width (s ∷ ss) = part_bits s

abbrev pub word_bits : ℕ → List Selected → ℕ
word_bits width [] = width
word_bits width (index ∷ ss) = selected_bits width ss

abbrev pub named_bits : Option Thing → List Selected → ℕ
named_bits None ss = 0
named_bits (Some (value kind width ranged)) ss = selected_bits width ss
named_bits (Some (memory width ranged)) ss = word_bits width ss
named_bits (Some (function width inputs)) ss = 0
named_bits (Some (result width ranged inputs)) ss = selected_bits width ss
named_bits (Some part) ss = 0

abbrev pub called_bits : Option Thing → ℕ
called_bits (Some (function width inputs)) = width
called_bits (Some (result width ranged inputs)) = width
called_bits (Some (value kind width ranged)) = 0
called_bits (Some (memory width ranged)) = 0
called_bits (Some part) = 0
called_bits None = 0

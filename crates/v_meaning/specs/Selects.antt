-- Selects of bits, parts and words (IEEE 1364-2005 clauses 4.9 and 5.2).
use Rattle.std.specs.Prelude.{ℕ, suc, ◌-◌, Bool, ◌&&◌, cond, ℤ, pos, ◌*ℤ◌, int_le, int_lt, List, [], ◌∷◌, Option, Some, None}
use Rattle.row_machine.specs.Valuation.{Valuation}
use Rattle.picks.specs.Windows.{Window, whole, nowhere, part}
use Rattle.v_tree.specs.declared.expressions.VExtent.{VExtent}
use Rattle.v_tree.specs.declared.expressions.VExtent.TheVariants.{Down, Up}
use Rattle.v_meaning.specs.Scopes.{Named, Scope, Use, all_bits}

-- A name with some of its selects: the bits that it names, how many they are, and how many words are still to be chosen
-- from, if it is a memory.
pub record Path : Type 0 where
  pub window : Window
  pub width : ℕ
  pub words : Option ℕ

abbrev pub start : Named → Path
start n = record { window = whole (all_bits n); width = n.width; words = n.words }

-- a name without selects names all its bits, those of a memory too
abbrev pub bits_named : Path → ℕ → ℕ
bits_named p w = elim p.words [ None ↦ p.width | Some count ↦ w ]

-- a word of a memory, or nothing at an index that is out of range
abbrev pub word : ℕ → ℤ → Path → Window
word count k p = cond (int_le (pos 0) k && int_lt k (pos count)) (part (k *ℤ pos p.width) p.width p.window) nowhere

-- How many bits `[base]`, `[base:right]` and `[base+:width]` take. The base of the second is a decimal number.
abbrev pub taken : Option ℕ → Option VExtent → ℕ
taken decimal None = 1
taken (Some left) (Some (Down right)) = suc left - right
taken None (Some (Down right)) = 1
taken decimal (Some (Up width)) = width

-- at which bit they begin, for the number of the base
abbrev pub lowest : Option VExtent → ℤ → ℤ
lowest None base = base
lowest (Some (Down right)) base = pos right
lowest (Some (Up width)) base = base

-- What a select means: its extent, its base where it is a decimal number, the number of the base, which is nothing where it
-- has x or z, whether the base is a constant, and what valuing it reads.
pub record SelMeaning : Type 0 where
  pub extent : Option VExtent
  pub decimal : Option ℕ
  pub base : Scope → Valuation → Option ℤ
  pub constant : Scope → Bool
  pub names : Scope → List ℕ
  pub reads : Scope → List Use

-- a select of bits: those out of range are nowhere, and so are all at an unknown base
abbrev pub bits_at : SelMeaning → Option ℤ → Path → Path
bits_at s base p =
    let w = taken s.decimal s.extent in
    record { window = elim base [ None ↦ nowhere | Some k ↦ part (lowest s.extent k) w p.window ]; width = w; words = None }

-- the first select on a memory is the index of a word
abbrev pub word_at : ℕ → Option ℤ → Path → Path
word_at count base p = record { window = elim base [ None ↦ nowhere | Some k ↦ word count k p ]; width = p.width; words = None }

abbrev pub select : SelMeaning → Option ℤ → Path → Path
select s base p = elim p.words [ None ↦ bits_at s base p | Some count ↦ word_at count base p ]

-- the path of a name with its selects
abbrev pub path_from : Scope → Valuation → List SelMeaning → Path → Path
path_from sc v [] p = p
path_from sc v (s ∷ ss) p = path_from sc v ss (select s (s.base sc v) p)

-- how many bits it names, whatever the bases are
abbrev pub width_from : List SelMeaning → Path → Path
width_from [] p = p
width_from (s ∷ ss) p = width_from ss (select s None p)

-- the longest prefix whose bases are constants
abbrev pub prefix_from : Scope → Valuation → List SelMeaning → Path → Window
prefix_from sc v [] p = p.window
prefix_from sc v (s ∷ ss) p = cond (s.constant sc) (prefix_from sc v ss (select s (s.base sc v) p)) p.window

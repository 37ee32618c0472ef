-- Paths in words of memories that are written (IEEE 1364-2005 clauses 4.9 and 5.2).
use Rattle.std.specs.Prelude.{◌≡◌, ℕ, ◌+◌, ◌*◌, ◌<◌, ℤ, pos, ◌-ℤ◌, true, false, List, [], ◌∷◌, map, length, Option, Some, None}
use Rattle.b4_core.specs.declared.bit.Bit4.{Bit4}
use Rattle.row_machine.specs.Valuation.{Place, Valuation, Changes}
use Rattle.picks.specs.Windows.{Window, picked, written}
use Rattle.sv_types.specs.Layouts.{Layout, count_of}
use Rattle.sv_types.specs.Windows.{rank}
use Rattle.sv_types.specs.Surroundings.{Around}
use Rattle.sv_types.specs.Meanings as S
use Rattle.v_tree.specs.Names.{Name}
use Rattle.v_meaning.specs.Scopes.{Named, Scope, named}
use Rattle.v_meaning.specs.Selects.{SelMeaning}
use Rattle.v_meaning.specs.Statements.{Target, name_target}
use Rattle.v_meaning.specs.Values as T
use Rattle.lowering_laws.specs.Images.{NamesNone}
use Rattle.lowering_laws.specs.Placed.{holds, NoRank}
use Rattle.lowering_laws.specs.Reached.{Piece, pieces_put, AreWide, AreBelow}
use Rattle.lowering_laws.specs.Terms.{and_guard}
use Rattle.lowering_laws.specs.Words.{lower, HasWord, BehindAll}

-- a name of the target that is a memory of so many words of so many bits
pub record IsMemoryOf (name : Name) (count width : ℕ) (sc : Scope) : Type 0 where
  pub words : (named sc.names name).words ≡ Some count
  pub bits : (named sc.names name).width ≡ width

-- A target for some bits of a value in a word: the condition under which it is written, if there is one, the selects behind
-- that of the word, and which bits of the value it gets.
pub record Inner : Type 0 where
  pub guard : Option T.Meaning
  pub sels : List SelMeaning
  pub low : ℕ
  pub width : ℕ

-- a word of w bits alone, as a vector
abbrev pub word_alone : ℕ → Named
word_alone w = record { name = []; number = 0; width = w; words = None }

abbrev pub alone_target : ℕ → List SelMeaning → Target
alone_target w sels = record {
  width = λ sc. T.width_of (word_alone w) sels;
  puts = λ sc v bits. written 0 (T.path_of (word_alone w) sels sc v).window bits;
  writes = λ sc. [];
  names = T.sel_names sels;
  reads = T.sel_reads sels;
}

abbrev pub alone_piece : ℕ → Inner → Piece
alone_piece w x = record { guard = x.guard; to = alone_target w x.sels; low = x.low; width = x.width }

abbrev pub alone_pieces : ℕ → List Inner → List Piece
alone_pieces w xs = map (alone_piece w) xs

-- the same in the word of a memory that a select names where a guard holds
abbrev pub word_piece : Name → Option T.Meaning → SelMeaning → Inner → Piece
word_piece name g s x = record { guard = and_guard g x.guard; to = name_target name (s ∷ x.sels); low = x.low; width = x.width }

abbrev pub word_pieces : Name → Option T.Meaning → SelMeaning → List Inner → List Piece
word_pieces name g s xs = map (word_piece name g s) xs

-- a base is the number of the word of an index, or of none, where no element has the index
pub data NamesWord (of : Layout) (i base : Option ℤ) : Type 0 where
  there : (x : ℕ) → HasWord of i x → base ≡ Some (pos x) → NamesWord of i base
  behind : (x : ℕ) → BehindAll of i x → base ≡ Some (pos x) → NamesWord of i base
  lost : NoRank of i → base ≡ None → NamesWord of i base

-- a select names the word of an index where a guard holds; elsewhere no element has the index
pub record SelectsWord (of : Layout) (i : Option ℤ) (g : Option T.Meaning) (s : SelMeaning) (sc : Scope) (v : Valuation) : Type 0 where
  pub yes : holds g sc v ≡ true → NamesWord of i (s.base sc v)
  pub no : holds g sc v ≡ false → NoRank of i

-- Pieces that write n bits to a memory as a write through a path of n bits does to the array whose elements its words hold:
-- each bit of an element that is in range to the same bit of the element's word, and nothing else.
pub record IsWrittenInWords (of : Layout) (path : Window) (n image : ℕ) (ps : List Piece) (sc : Scope) (v : Valuation) : Type 0 where
  pub wide : AreWide ps sc
  pub below : AreBelow n ps
  pub puts : (bits : List Bit4) → length bits ≡ n → (r x q j : ℕ) (k : ℤ) → k -ℤ lower of ≡ pos x → x < count_of of.left of.right → rank of k ≡ pos q → j < length of.element.two_state
      → pieces_put ps sc v bits (record { signal = image; bit = x * length of.element.two_state + j })
      ≡ written r path bits (record { signal = r; bit = q * length of.element.two_state + j })
  pub other : (bits : List Bit4) (q : Place) → (q.signal ≡ image → ⊥) → pieces_put ps sc v bits q ≡ None

-- A select path in a word of w bits names these bits of it where a guard holds, and none of its bits is in range elsewhere.
pub record NamesInWord (e : S.Meaning) (a : Around) (w : ℕ) (g : Option T.Meaning) (sels : List SelMeaning) (sc : Scope) (v : Valuation) : Type 0 where
  pub width : T.width_of (word_alone w) sels ≡ S.wide e
  pub yes : holds g sc v ≡ true → (j : ℕ) → j < S.wide e → picked (e.window a) j ≡ picked (T.path_of (word_alone w) sels sc v).window j
  pub no : holds g sc v ≡ false → NamesNone e a

-- A memory holds in the words of its image what an array holds in its elements.
abbrev pub HoldWords : Layout → ℕ → ℕ → Valuation → Valuation → Type 0
HoldWords of image r v now = (x q j : ℕ) (k : ℤ) → k -ℤ lower of ≡ pos x → x < count_of of.left of.right → rank of k ≡ pos q → j < length of.element.two_state
    → v (record { signal = image; bit = x * length of.element.two_state + j }) ≡ now (record { signal = r; bit = q * length of.element.two_state + j })

-- it changes as an array does
abbrev pub ChangeWords : Layout → ℕ → ℕ → Changes → Changes → Type 0
ChangeWords of image r d c = (x q j : ℕ) (k : ℤ) → k -ℤ lower of ≡ pos x → x < count_of of.left of.right → rank of k ≡ pos q → j < length of.element.two_state
    → d (record { signal = image; bit = x * length of.element.two_state + j }) ≡ c (record { signal = r; bit = q * length of.element.two_state + j })

-- Operators on the bits of vectors that other operators share.
use Rattle.std.specs.Prelude.{Bool, List, map, fold, zip}
use Rattle.std.specs.List.{list_all}
use Rattle.b4_core.specs.declared.bit.Bit4.{Bit4}
use Rattle.b4_core.specs.declared.bit.Bit4.TheVariants.{Zero, One, X, Z}
use Rattle.b4_core.specs.declared.bit.Edge.{Edge}
use Rattle.b4_core.specs.declared.bit.Edge.TheVariants.{Pos, Neg, None}
use Rattle.b4_core.specs.Bits.{and4, or4, xor4, two_state4, same4}

-- the & of all bits, 1 where there is none
abbrev pub all4 : List Bit4 → Bit4
all4 v = fold and4 One v

-- the | of all bits, 0 where there is none
abbrev pub any4 : List Bit4 → Bit4
any4 v = fold or4 Zero v

-- the ^ of all bits, 0 where there is none
abbrev pub parity4 : List Bit4 → Bit4
parity4 v = fold xor4 Zero v

-- the truth of a vector (clause 12.4): 1 where some bit is 1, 0 where all are 0, else x
abbrev pub truth_of : List Bit4 → Bit4
truth_of v = any4 v

-- exactly the same bits, in two vectors of one length
abbrev pub same_bits : List Bit4 → List Bit4 → Bool
same_bits a b = list_all (λ p. same4 p.0 p.1) (zip a b)

-- a vector as it is stored in a two-state type
abbrev pub two_state_of : List Bit4 → List Bit4
two_state_of v = map two_state4 v

-- the edge from one value of a bit to the next (clause 9.4.2, table 9-2)
abbrev pub edge_of : Bit4 → Bit4 → Edge
edge_of Zero Zero = None
edge_of Zero One = Pos
edge_of Zero X = Pos
edge_of Zero Z = Pos
edge_of One Zero = Neg
edge_of One One = None
edge_of One X = Neg
edge_of One Z = Neg
edge_of X Zero = Neg
edge_of X One = Pos
edge_of X X = None
edge_of X Z = None
edge_of Z Zero = Neg
edge_of Z One = Pos
edge_of Z X = None
edge_of Z Z = None

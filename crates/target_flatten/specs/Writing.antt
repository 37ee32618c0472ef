-- What targets of the target language write of a path (IEEE 1800-2017 clauses 10.4 and 11.5.1).
use Rattle.std.specs.Prelude.{◌≡◌, ℕ, ◌*◌, ◌≤◌, ◌<◌, ◌^◌, ◌==◌, cond, ℤ, List, [], ◌∷◌, map, length, Option, Some, None}
use Rattle.row_machine.specs.Valuation.{Valuation}
use Rattle.sv_types.specs.declared.types.SvType.{SvType}
use Rattle.sv_types.specs.Layouts.{layout, count_of}
use Rattle.sv_types.specs.Windows.{between}
use Rattle.sv_types.specs.Surroundings.{Around}
use Rattle.sv_types.specs.Meanings as S
use Rattle.v_tree.specs.declared.statements.VLval.{VLval, VLval-F, out-VLval}
use Rattle.v_meaning.specs.Scopes.{Scope, Named}
use Rattle.v_meaning.specs.Selects.{SelMeaning}
use Rattle.v_meaning.specs.Statements.{Target, target}
use Rattle.v_meaning.specs.Values as T
use Rattle.v_meaning.specs.Values.{meaning, sel_meaning}
use Rattle.eval_parts.specs.Places.{window_of}
use Rattle.eval_parts.specs.declared.paths.Window.{Window as Span}
use Rattle.lowering_laws.specs.Images.{NamesNone}
use Rattle.lowering_laws.specs.Reached.{Piece, IsWritten}
use Rattle.lowering_laws.specs.Terms as terms
use Rattle.path_flatten.specs.declared.places.Place.{Place}
use Rattle.path_flatten.specs.Guards.{guard_meaning}
use Rattle.path_flatten.specs.Placing.{IsPlaceOf}
use Rattle.path_flatten.specs.Reading.{StaysIn}
use Rattle.path_flatten.specs.Stepping.{IsStep}
use Rattle.target_flatten.specs.declared.spots.Spot.{Spot}
use Rattle.target_flatten.specs.declared.aims.Aim.{Aim}
use Rattle.target_flatten.specs.declared.writes.Write.{Write}
use Rattle.target_laws.specs.Seeing.{IsSeen}
use Rattle.target_flatten.specs.Spots.{IsSpot}
use Rattle.target_laws.specs.Standing.{IsKnown}
use Rattle.target_laws.specs.Vectors.{IsVector, vector_target}

-- a target under a guard, for so many bits of a value from bit low on
abbrev pub piece : Write → Piece
piece x = record { guard = guard_meaning x.guard; to = target x.to; low = x.low; width = x.width }

abbrev pub pieces : List Write → List Piece
pieces xs = map piece xs

-- The same with its selects on a vector, whatever the name: so a name that stands for a vector is written, and a word of a memory
-- by the same selects behind that of the word.
abbrev pub in_vector : Named → VLval → Target
in_vector vec to = elim (out-VLval to) [ VLval-F.Name name sels ↦ vector_target vec (map sel_meaning sels) | VLval-F.Concat parts ↦ target to ]

abbrev pub piece_in : Named → Write → Piece
piece_in vec x = record { guard = guard_meaning x.guard; to = in_vector vec x.to; low = x.low; width = x.width }

abbrev pub pieces_in : Named → List Write → List Piece
pieces_in vec xs = map (piece_in vec) xs

-- one for all bits of a value of n bits
abbrev pub aimed_in : Named → Aim → ℕ → Piece
aimed_in vec x n = record { guard = guard_meaning x.guard; to = in_vector vec x.to; low = 0; width = n }

-- these selects on each vector
abbrev pub Selects : VLval → List SelMeaning → Type 0
Selects to ss = (vec : Named) → in_vector vec to ≡ vector_target vec ss

-- they write a path that stands in a vector, a bit of a value to each of its bits that is in range, and no other bit
abbrev pub WritesPath : Named → S.Meaning → Around → List Piece → Scope → Valuation → Type 0
WritesPath vec e a ps sc v = IsWritten (e.window a) (S.wide e) vec.number ps sc v

-- a path of n bits in a vector of so many bits
pub record IsAimed (vec : Named) (bits n : ℕ) (e : S.Meaning) (a : Around) : Type 0 where
  pub wide : S.wide e ≡ n
  pub some : 1 ≤ n
  pub stays : StaysIn (e.window a) n
  pub vector : IsVector vec bits
  pub small : bits < 2 ^ 32

-- a target for one from a known bit on, for one with a place, and for one that stands somewhere
abbrev pub AimsKnown : ℕ → ℕ → ℕ → VLval → Type 0
AimsKnown bits low n to = (vec : Named) (e : S.Meaning) (a : Around) (sc : Scope) (v : Valuation) → IsAimed vec bits n e a → IsKnown e a low bits
    → WritesPath vec e a (record { guard = None; to = in_vector vec to; low = 0; width = n } ∷ []) sc v

abbrev pub AimsPlaced : ℕ → Place → ℕ → ℕ → Aim → Type 0
AimsPlaced bits p n w x = (vec : Named) (e : S.Meaning) (a : Around) (sc : Scope) (v : Valuation) → IsAimed vec bits n e a → n ≤ bits → IsPlaceOf p e a w bits sc v
    → WritesPath vec e a (aimed_in vec x n ∷ []) sc v

abbrev pub AimsAt : ℕ → Spot → ℕ → ℕ → Option Aim → Type 0
AimsAt bits s n w None = (e : S.Meaning) (a : Around) (sc : Scope) (v : Valuation) → IsSpot s e a w bits sc v → NamesNone e a
AimsAt bits s n w (Some x) = (vec : Named) (e : S.Meaning) (a : Around) (sc : Scope) (v : Valuation) → IsAimed vec bits n e a → 1 ≤ w → bits < 2 ^ w → IsSpot s e a w bits sc v
    → WritesPath vec e a (aimed_in vec x n ∷ []) sc v

-- what is written of a path that names some bits of one that stands somewhere
abbrev pub WritesInner : ℕ → Spot → Span → ℕ → List Write → Type 0
WritesInner bits s inner w xs = (vec : Named) (e from : S.Meaning) (a : Around) (sc : Scope) (v : Valuation) → IsVector vec bits → bits < 2 ^ 32 → 1 ≤ w → bits < 2 ^ w
    → IsSeen (e.window a) (from.window a) (window_of inner) → StaysIn (window_of inner) (S.wide e) → StaysIn (e.window a) (S.wide e) → inner.high ≤ S.wide from → S.wide e < 2 ^ 32
    → IsSpot s from a w bits sc v → WritesPath vec e a (pieces_in vec xs) sc v

-- all of a path
abbrev pub WritesWhole : ℕ → Spot → ℕ → ℕ → List Write → Type 0
WritesWhole bits s n w xs = (vec : Named) (e : S.Meaning) (a : Around) (sc : Scope) (v : Valuation) → IsVector vec bits → bits < 2 ^ 32 → 1 ≤ w → bits < 2 ^ w
    → S.wide e ≡ n → StaysIn (e.window a) (S.wide e) → IsSpot s e a w bits sc v → WritesPath vec e a (pieces_in vec xs) sc v

-- the elements between two bounds
abbrev pub WritesBetween : ℕ → Spot → SvType → ℤ → ℤ → ℕ → List Write → Type 0
WritesBetween bits s t left right w xs = (vec : Named) (e from : S.Meaning) (a : Around) (sc : Scope) (v : Valuation) → IsVector vec bits → bits < 2 ^ 32 → 1 ≤ w → bits < 2 ^ w
    → from.of ≡ layout t → IsStep e from a (between from.of left right) → S.wide e ≡ count_of left right * length from.of.element.two_state → S.wide e < 2 ^ 32
    → 1 ≤ S.wide from → StaysIn (from.window a) (S.wide from) → IsSpot s from a w bits sc v → WritesPath vec e a (pieces_in vec xs) sc v

-- the select of so many bits from an offset on; one of a bit has no width
abbrev pub select_at : T.Meaning → ℕ → SelMeaning
select_at o n = cond (n == 1) (terms.bit_at_offset o) (terms.slide o n)

-- one for all bits of a value of n bits, and the target of so many bits from bit low on, if there is one
abbrev pub aimed : Aim → ℕ → Piece
aimed x n = record { guard = guard_meaning x.guard; to = target x.to; low = 0; width = n }

abbrev pub MakesWrites : Option Aim → ℕ → ℕ → List Write → Type 0
MakesWrites None low n xs = pieces xs ≡ []
MakesWrites (Some x) low n xs = pieces xs ≡ record (aimed x n) { low = low } ∷ []

-- Types that one word names, with packed and unpacked dimensions (IEEE 1800-2017 clauses 6.11, 7.4.1 and 7.4.2).
use Rattle.std.specs.Prelude.{ℕ, Bool, true, false, ℤ, pos, ◌-ℤ◌, List, [], ◌∷◌, Option, Some, None}
use Rattle.sv_tree.specs.declared.names.Signing.{Signing}
use Rattle.sv_tree.specs.declared.names.Signing.TheVariants.{Signed, Unsigned}
use Rattle.sv_tree.specs.declared.types.KeywordType.{KeywordType}
use Rattle.sv_tree.specs.declared.types.TypeKeyword.{TypeKeyword}
use Rattle.sv_tree.specs.declared.types.TypeKeyword.TheVariants as T
use Rattle.sv_types.specs.declared.types.SvType.{SvType}
use Rattle.sv_types.specs.declared.types.SvType.TheVariants.{Scalar, PackedArray, UnpackedArray}

-- a dimension by its `[` and its bounds
pub record Dim : Type 0 where
  pub opening : ℕ
  pub left : ℤ
  pub right : ℤ

-- what a word says: whether bits are four-state, how many, if it isn't one bit, and whether it is signed
pub record Word : Type 0 where
  pub four : Bool
  pub bits : Option ℕ
  pub signed : Bool

abbrev pub word_of : TypeKeyword → Word
word_of T.Bit = record { four = false; bits = None; signed = false }
word_of T.Logic = record { four = true; bits = None; signed = false }
word_of T.Reg = record { four = true; bits = None; signed = false }
word_of T.Byte = record { four = false; bits = Some 8; signed = true }
word_of T.Shortint = record { four = false; bits = Some 16; signed = true }
word_of T.Int = record { four = false; bits = Some 32; signed = true }
word_of T.Longint = record { four = false; bits = Some 64; signed = true }
word_of T.Integer = record { four = true; bits = Some 32; signed = true }

abbrev pub signed_by : Bool → Option Signing → Bool
signed_by other None = other
signed_by other (Some (Signed at)) = true
signed_by other (Some (Unsigned at)) = false

-- the type of the word alone
abbrev pub plain : Bool → Option ℕ → Bool → SvType
plain four None signed = Scalar four signed
plain four (Some w) signed = PackedArray (pos w -ℤ pos 1) (pos 0) signed (Scalar four false)

-- Dimensions from the outermost on. The sign is that of the whole: an element is unsigned unless its type has a name.
abbrev pub packed : Bool → List Dim → (Bool → SvType) → SvType
packed signed [] of = of signed
packed signed (d ∷ ds) of = PackedArray d.left d.right signed (packed false ds of)

abbrev pub unpacked : List Dim → SvType → SvType
unpacked [] of = of
unpacked (d ∷ ds) of = UnpackedArray d.left d.right (unpacked ds of)

abbrev pub keyword_type : KeywordType → List Dim → SvType
keyword_type w ds =
    let of = word_of w.keyword in
    packed (signed_by of.signed w.signing) ds (plain of.four of.bits)

-- dimensions behind a named type, which keeps its own sign
abbrev pub named_type : SvType → List Dim → SvType
named_type t ds = packed false ds (λ s. t)

-- a type that isn't written, but for a sign and dimensions
abbrev pub implicit_type : Option Signing → List Dim → SvType
implicit_type s ds = packed (signed_by false s) ds (plain true None)

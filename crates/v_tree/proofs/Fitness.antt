-- The target table is of the class of tables that are read with one symbol of look-ahead, and what its heads begin with. Sets of
-- symbols are the ones of a number's bits, in the order of the heads' numbers.
use Rattle.std.proofs.Common.{◌≡◌, ℕ, ◌<◌, ◌==◌, Bool, true, false, List, [], ◌∷◌, length, get_or, eq-eqb, refl, sym, ◌∙◌, arith}
use Rattle.std.specs.List.{list_all}
use Rattle.std.proofs.lemmas.Bool.{false≢true}
use Rattle.ll_engine.specs.declared.table.Part.{Part}
use Rattle.ll_engine.specs.declared.table.Row.{Row}
use Rattle.ll_engine.specs.Class.{IsFit}
use Rattle.ll_engine.specs.Grammar.{Begins}
use Rattle.v_tree.specs.Table.{table}
use Rattle.std.specs.Int.{bit_at}
use Rattle.ll_engine.proofs.class.BitSets.{has}
use Rattle.ll_engine.proofs.class.Firsts as Firsts
use Rattle.ll_engine.proofs.class.Sets.{fits_is}

-- what each head begins with
abbrev pub first_of : List ℕ
first_of =
    32 ∷ 32 ∷ 1073741824 ∷ 8589934592 ∷ 32642 ∷ 17179870210 ∷ 566935683072 ∷ 17179869184 ∷ 549755813888 ∷ 68719476740 ∷
    8589934592 ∷ 128 ∷ 1024 ∷ 17179869184 ∷ 24 ∷ 4399120252928 ∷ 262144 ∷ 196608 ∷ 17592186044416 ∷ 8589934592 ∷
    17592186044416 ∷ 73075785730 ∷ 68780818434 ∷ 274877906944 ∷ 4194304 ∷ 58720256 ∷ 4496394008774924304390 ∷ 134217728 ∷
    4496394008774790086662 ∷ 134217728 ∷ 8589934592 ∷ 1649267441664 ∷ 68719476738 ∷ 8589934592 ∷ 17179869184 ∷
    17179869184 ∷ 4496394008774790086686 ∷ 35459249995776 ∷ 4496394008774790086662 ∷ 295147849104259809280 ∷
    70598524934 ∷ 18253611008 ∷ 4496394008774790086686 ∷ 805306368 ∷ 4496394008704191561728 ∷ 295147840308166787072 ∷ []

abbrev pub first : ℕ → ℕ
first h = get_or first_of h 0

-- a text can be empty
abbrev pub blank : ℕ → Bool
blank h = h == 0

pub firsts-closed : list_all (Firsts.row_fits table first blank) table ≡ true
firsts-closed = refl

pub table_length : length table ≡ 111
table_length = refl

pub table-fits : IsFit table
table-fits = fits_is table 4 46 refl

-- the symbol doesn't begin the parts
pub never : (ps : List Part) (a : ℕ) → has (Firsts.firsts table first blank ps) a ≡ false → Begins table ps a → ⊥
never ps a e b =
    false≢true (sym e ∙ eq-eqb (bit_at (Firsts.firsts table first blank ps) a) 1 (Firsts.begins-sound table first blank firsts-closed b))

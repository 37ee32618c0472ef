-- Select paths that are written, and where they stand (IEEE 1800-2017 clauses 7.2.1, 7.4.5 and 11.5.1).
use Rattle.std.specs.Prelude.{◌≡◌, ℕ, ◌<◌, ◌≤◌, ◌^◌, ℤ, pos, Bool, true, false, ◌&&◌, int_le, int_lt, List, [], ◌∷◌, ◌++◌, Option, Some, None, Result, Ok, Err}
use Rattle.row_machine.specs.Valuation.{Valuation}
use Rattle.std.specs.declared.alloc.AllocError.{AllocError}
use Rattle.sv_types.specs.declared.expression.Expr.{Expr}
use Rattle.sv_types.specs.declared.types.SvType.{SvType}
use Rattle.sv_types.specs.declared.expression.Form.TheVariants as V
use Rattle.sv_types.specs.Layouts.{Layout, layout, width_of}
use Rattle.sv_types.specs.Windows.{falls}
use Rattle.sv_types.specs.Surroundings.{Around}
use Rattle.sv_types.specs.Meanings as S
use Rattle.sv_types.specs.Paths as P
use Rattle.sv_types.specs.Expressions.{meaning}
use Rattle.v_meaning.specs.Scopes.{Scope, Named}
use Rattle.v_meaning.specs.Values as T
use Rattle.path_flatten.specs.Reading.{StaysIn}
use Rattle.target_laws.specs.Elements.{IsElementOf, IsPartOf, IsSlideOf, far_from}
use Rattle.target_laws.specs.Vectors.{IsVector}
use Rattle.target_flatten.specs.declared.spots.Spot.{Spot}
use Rattle.target_flatten.specs.declared.writes.Image.{Image}
use Rattle.target_flatten.specs.declared.writes.Write.{Write}
use Rattle.target_flatten.specs.Naming.{SpotNames, EachNames, NamesOn}
use Rattle.target_flatten.specs.Spots.{IsSpot, SpotsMember}
use Rattle.target_flatten.specs.Writing.{pieces, pieces_in, WritesPath}
use Rattle.target_walk.specs.declared.given.Given.{Given}
use Rattle.target_walk.specs.declared.given.Given.TheVariants as G
use Rattle.target_walk.specs.Giving.{IsGiven, all_names, moved_given, FitsAt}

-- A select path on a signal or local of so many bits, by the indices of its steps, the last step's first, and whether its last
-- step is a part-select. A part-select has no members, and has the type that the rules give it. Each index, also of each element
-- of a part-select, is fit for what it selects from, which is a part-select or not.
pub data Walked (F : Bool → Given → Layout → Type 0) (bits : ℕ) (a : Around) (sc : Scope) (v : Valuation) : Expr → List Given → Bool → Type 0 where
  of_signal : (e : Expr) (n : ℕ) → e.form ≡ V.Signal n → width_of e.of ≡ bits → Walked F bits a sc v e [] false
  of_local : (e : Expr) (n : ℕ) → e.form ≡ V.Local n → width_of e.of ≡ bits → Walked F bits a sc v e [] false
  of_member : (e from : Expr) (k : ℕ) (gs : List Given) → e.form ≡ V.Member from k → Walked F bits a sc v from gs false → Walked F bits a sc v e gs false
  of_index : (e from i : Expr) (g : Given) (gs : List Given) (part : Bool) → e.form ≡ V.Index from i → IsGiven g (P.index_of (meaning i) a) sc v → F part g (layout from.of) → Walked F bits a sc v from gs part
      → Walked F bits a sc v e (g ∷ gs) false
  of_part : (e from : Expr) (left right : ℤ) (gs : List Given) (part : Bool) → e.form ≡ V.Part from left right → IsPartOf (layout e.of) (layout from.of) left right → Walked F bits a sc v from gs part → Walked F bits a sc v e gs true
  of_slide : (e from i : Expr) (n : ℕ) (up : Bool) (g : Given) (gs : List Given) (part : Bool) → e.form ≡ V.Slide from i n up → IsGiven g (P.index_of (meaning i) a) sc v
      → IsSlideOf (layout e.of) (layout from.of) n
      → ((j : ℤ) → (int_le (pos 0) j && int_lt j (pos n)) ≡ true → F part (moved_given g (far_from (falls (layout from.of)) up n j)) (layout from.of)) → Walked F bits a sc v from gs part → Walked F bits a sc v e (g ∷ gs) true

-- offsets of w bits have room for the indices, and an index of a part-select is known
abbrev pub Indexed : ℕ → ℕ → Around → Scope → Valuation → Expr → List Given → Bool → Type 0
Indexed w = Walked (FitsAt w)

-- these are named where the element with an index stands, and nothing is left to name them where the index has x or z
abbrev pub NamesChosen : List ℕ → Given → Spot → Scope → Type 0
NamesChosen ns (G.Known None) s sc = (ms : List ℕ) → SpotNames ms s sc
NamesChosen ns (G.Known (Some k)) s sc = SpotNames ns s sc
NamesChosen ns (G.Lowered x d) s sc = SpotNames (ns ++ (T.meaning x.expr).names sc) s sc

-- where a path stands that is no part-select, or the element of a path with an index, and what is named there
abbrev pub StandsAt : Expr → List Given → Option Given → ℕ → Spot → Type 0
StandsAt e gs None w s = (a : Around) (sc : Scope) (v : Valuation) (bits : ℕ) → bits < 2 ^ 32 → bits < 2 ^ w → (meaning e).misfits ≡ 0 → Indexed w bits a sc v e gs false
    → IsSpot s (meaning e) a w bits sc v × SpotNames (all_names gs sc) s sc
StandsAt e gs (Some g) w s = (d : S.Meaning) (a : Around) (sc : Scope) (v : Valuation) (bits : ℕ) (part : Bool) (z : Option ℤ) → bits < 2 ^ 32 → bits < 2 ^ w → (meaning e).misfits ≡ 0
    → Indexed w bits a sc v e gs part → FitsAt w part g (layout e.of) → IsGiven g z sc v → IsElementOf d (meaning e) a z
    → IsSpot s d a w bits sc v × NamesChosen (all_names gs sc) g s sc

-- the element with an index of what stands somewhere, or all of that
abbrev pub Chooses : Spot → SvType → Option Given → ℕ → Spot → Type 0
Chooses old t None w s = s ≡ old
Chooses old t (Some g) w s = (d e : S.Meaning) (a : Around) (sc : Scope) (v : Valuation) (bits : ℕ) (z : Option ℤ) (ns : List ℕ) → bits < 2 ^ 32 → bits < 2 ^ w → e.of ≡ layout t
    → 1 ≤ S.wide e → StaysIn (e.window a) (S.wide e) → FitsAt w false g (layout t) → IsGiven g z sc v → IsElementOf d e a z → IsSpot old e a w bits sc v → SpotNames ns old sc
    → IsSpot s d a w bits sc v × NamesChosen ns g s sc

abbrev pub ChoosesFrom : Result Spot AllocError → SvType → Option Given → ℕ → Spot → Type 0
ChoosesFrom (Ok old) t g w s = Chooses old t g w s
ChoosesFrom (Err x) t g w s = ⊥

-- a member of what stands somewhere
abbrev pub IsMemberFrom : Result Spot AllocError → SvType → ℕ → Spot → Type 0
IsMemberFrom (Ok old) t k s = SpotsMember old t k s × NamesOn old s
IsMemberFrom (Err x) t k s = ⊥

-- whether the last step of a path is a part-select
abbrev pub TellsPart : Bool → Expr → Type 0
TellsPart b e = (w bits : ℕ) (a : Around) (sc : Scope) (v : Valuation) (gs : List Given) (part : Bool) → Indexed w bits a sc v e gs part → part ≡ b

-- targets write a path in a vector, and each of them names what its indices do
pub record Written (vec : Named) (e : Expr) (gs : List Given) (xs : List Write) (a : Around) (sc : Scope) (v : Valuation) : Type 0 where
  pub path : WritesPath vec (meaning e) a (pieces_in vec xs) sc v
  pub names : EachNames (all_names gs sc) (pieces xs) sc

-- the same of each path whose last step is a part-select, or isn't
abbrev pub WritesAs : Image → Expr → List Given → Bool → List Write → Type 0
WritesAs im e gs part xs = (vec : Named) (a : Around) (sc : Scope) (v : Valuation) → IsVector vec im.bits → im.bits < 2 ^ 32 → 1 ≤ im.room → im.bits < 2 ^ im.room → (meaning e).misfits ≡ 0
    → Indexed im.room im.bits a sc v e gs part → Written vec e gs xs a sc v

abbrev pub WritesAll : Image → Expr → List Given → List Write → Type 0
WritesAll im e gs xs = (part : Bool) → WritesAs im e gs part xs

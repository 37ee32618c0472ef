-- When an expression of the target language stands for one of an elaborated design (IEEE 1800-2017 clause 11.6, IEEE
-- 1364-2005 clause 5.4).
use Rattle.std.specs.Prelude.{◌≡◌, ℕ, ◌≤◌, max, Bool, false, ⊤, List, [], ◌∷◌, length}
use Rattle.b4_core.specs.declared.bit.Bit4.{Bit4}
use Rattle.b4_core.specs.Vectors.{ext}
use Rattle.row_machine.specs.Valuation.{Valuation}
use Rattle.sv_types.specs.Surroundings.{Around}
use Rattle.sv_types.specs.Meanings as S
use Rattle.v_meaning.specs.Scopes.{Scope}
use Rattle.v_meaning.specs.Values as T

-- The expression of the target stands for that of the source in a context of this width and sign: it is as wide as the
-- source's alone, or wider, but no wider than the context; it has the source's sign; and it has the value that the source
-- has in that context.
pub record Same (e : S.Meaning) (w : ℕ) (s : Bool) (a : Around) (m : T.Meaning) (sc : Scope) (v : Valuation) : Type 0 where
  pub least : S.wide e ≤ m.width sc
  pub most : m.width sc ≤ max w (S.wide e)
  pub sign : m.signed ≡ S.signed e
  pub value : m.value w s sc v ≡ e.value w s a

-- one that is valued alone
abbrev pub SameAlone : S.Meaning → Around → T.Meaning → Scope → Valuation → Type 0
SameAlone e a m sc v = Same e (S.wide e) (S.signed e) a m sc v

-- one by one, each alone
abbrev pub AllSame : List S.Meaning → Around → List T.Meaning → Scope → Valuation → Type 0
AllSame [] a [] sc v = ⊤
AllSame [] a (m ∷ ms) sc v = ⊥
AllSame (e ∷ es) a [] sc v = ⊥
AllSame (e ∷ es) a (m ∷ ms) sc v = SameAlone e a m sc v × AllSame es a ms sc v

-- An expression of the target that has these bits wherever it stands, and is unsigned: a number, or a number in pieces.
pub record HasBits (m : T.Meaning) (c : List Bit4) (sc : Scope) (v : Valuation) : Type 0 where
  pub width : m.width sc ≡ length c
  pub unsigned : m.signed ≡ false
  pub value : (w : ℕ) (s : Bool) → m.value w s sc v ≡ ext w s c

-- one by one
abbrev pub AllHaveBits : List T.Meaning → List (List Bit4) → Scope → Valuation → Type 0
AllHaveBits [] [] sc v = ⊤
AllHaveBits [] (c ∷ cs) sc v = ⊥
AllHaveBits (m ∷ ms) [] sc v = ⊥
AllHaveBits (m ∷ ms) (c ∷ cs) sc v = HasBits m c sc v × AllHaveBits ms cs sc v

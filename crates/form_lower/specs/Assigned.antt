-- What is cast, and what is assigned to members, elements and formals (IEEE 1800-2017 clauses 6.24, 10.7, 10.9 and 13.5).
use Rattle.std.specs.Prelude.{◌≡◌, ℕ, ◌+◌, ◌<◌, ◌≤◌, Bool, true, false, List, [], ◌∷◌, length}
use Rattle.b4_core.specs.declared.bit.Bit4.{Bit4}
use Rattle.b4_core.specs.declared.bit.Bit4.TheVariants.{Zero}
use Rattle.b4_core.specs.Vectors.{ext}
use Rattle.row_machine.specs.Valuation.{Valuation}
use Rattle.sv_types.specs.declared.types.SvType.{SvType}
use Rattle.sv_types.specs.Layouts.{layout, stored, width_of}
use Rattle.sv_types.specs.Surroundings.{Around}
use Rattle.sv_types.specs.Meanings as S
use Rattle.sv_types.specs.Operators as O
use Rattle.v_tree.specs.declared.names.Helper.{Helper}
use Rattle.v_tree.specs.declared.names.HelperKind.TheVariants.{Cast}
use Rattle.v_meaning.specs.Scopes.{Scope}
use Rattle.v_meaning.specs.Values as T
use Rattle.lowering_laws.specs.Same.{Same, SameAlone, HasBits}
use Rattle.path_flatten.specs.Helping.{EachHelps}
use Rattle.form_lower.specs.Calls.{NamesOf}

-- the helper that gives what it is passed
abbrev pub cutter : ℕ → Helper
cutter n = record { kind = Cast; width = n }

-- what an expression gives to a place with these marks, as it is stored there
pub record Assigns (two_state : List Bool) (m : T.Meaning) (hs : List Helper) (r : T.Meaning) : Type 0 where
  pub bits : (x : List Bit4) (sc : Scope) (v : Valuation) → EachHelps hs sc → T.given m (length two_state) sc v ≡ x → length x ≡ length two_state
      → HasBits r (stored two_state x) sc v
  pub names : NamesOf (m ∷ []) r

-- what an expression of as many bits as a type has, valued alone, is as the type stores it
pub record Keeps (t : SvType) (m : T.Meaning) (hs : List Helper) (r : T.Meaning) : Type 0 where
  pub bits : (c : List Bit4) (sc : Scope) (v : Valuation) → EachHelps hs sc → m.width sc ≡ length c → T.alone m sc v ≡ c → length c ≡ width_of t → 1 ≤ width_of t
      → HasBits r (stored (layout t).two_state c) sc v
  pub names : NamesOf (m ∷ []) r

-- an expression with so many zeros on top, which is unsigned and valued alone
abbrev pub padded : ℕ → T.Meaning → T.Meaning
padded n m = T.concatenation (T.repetition n (T.literal (Zero ∷ []) ∷ []) ∷ m ∷ [])

-- what an expression, valued alone, gives to a type that has so many bits more, with zeros on top
pub record Widens (n : ℕ) (t : SvType) (m : T.Meaning) (hs : List Helper) (r : T.Meaning) : Type 0 where
  pub bits : (c : List Bit4) (sc : Scope) (v : Valuation) → EachHelps hs sc → m.width sc ≡ length c → T.alone m sc v ≡ c → length c + n ≡ width_of t → 1 ≤ width_of t
      → HasBits r (stored (layout t).two_state (ext (width_of t) false c)) sc v
  pub names : NamesOf (m ∷ []) r

-- what an operand that is lowered alone gives to a place with these marks, by its own sign, as it is stored there
pub record Converts (e : S.Meaning) (two_state : List Bool) (m : T.Meaning) (hs : List Helper) (r : T.Meaning) : Type 0 where
  pub bits : (a : Around) (sc : Scope) (v : Valuation) → EachHelps hs sc → length (S.alone e a) ≡ S.wide e → SameAlone e a m sc v
      → HasBits r (stored two_state (ext (length two_state) (S.signed e) (S.alone e a))) sc v
  pub names : NamesOf (m ∷ []) r

-- what stands for a cast to a type, wherever the text has its helpers
pub record Casts (e : S.Meaning) (t : SvType) (m : T.Meaning) (hs : List Helper) (r : T.Meaning) : Type 0 where
  pub same : (at w : ℕ) (s : Bool) (a : Around) (sc : Scope) (v : Valuation) → EachHelps hs sc → length (S.alone e a) ≡ S.wide e → SameAlone e a m sc v
      → Same (O.cast (layout t) at e) w s a r sc v
  pub names : NamesOf (m ∷ []) r

-- Bits in a context: as they are where they are as many as a type's, and else those that the context takes.
pub record Fits (whole : Bool) (m : T.Meaning) (to : ℕ) (s : Bool) (hs : List Helper) (r : T.Meaning) : Type 0 where
  pub bits : (c : List Bit4) (n : ℕ) (sc : Scope) (v : Valuation) → EachHelps hs sc → HasBits m c sc v → (whole ≡ true → length c ≡ n) → 0 < to → n ≤ to
      → (d : List Bit4) × HasBits r d sc v × (n ≤ length d) × (length d ≤ to) × ((w : ℕ) → w ≤ to → ext w s d ≡ ext w s c)
  pub names : NamesOf (m ∷ []) r

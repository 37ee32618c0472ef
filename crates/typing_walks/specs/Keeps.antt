-- Typings that give what is sound, and leave the functions that are known as they are.
use Rattle.std.specs.Prelude.{◌≡◌, ⊤, ℕ, true, List, [], ◌∷◌, Some, Ok, ℤ, int_le}
use Rattle.sv_types.specs.declared.statement.Function.{Function}
use Rattle.sv_types.specs.declared.types.SvType.{SvType}
use Rattle.expr_type.specs.declared.operand.Number.{Number}
use Rattle.expr_type.specs.declared.operand.Valued.{Valued}
use Rattle.expr_type.specs.Typings.{Typed, Typing}
use Rattle.expr_type.specs.Names.{Context}
use Rattle.expr_type.specs.Operators.{Alternative, in_alternative}
use Rattle.expr_type.specs.Forms as R
use Rattle.expr_type.specs.Patterns.{Item, Parts}
use Rattle.expr_type.specs.Expressions.{Meaning}
use Rattle.typing_fits.specs.Types.{is_full}
use Rattle.typing_fits.specs.Sound.{Extends, AllSound}
use Rattle.typing_fits.specs.Operands.{SoundFixed, SoundOperand, KnownCall, SoundContext}
use Rattle.typing_fits.specs.Patterns.{AllSoundItems}
use Rattle.typing_fits.specs.Selects.{SoundStep}

-- What is typed where some functions are known: they keep their places, what holds of them holds of those that are known then, and
-- what is whole keeps what is said of it.
pub record Kept (A : Type 0) (Q : List Function → Type 0) (P : A → List Function → Type 0) (gs : List Function) (t : Typed A) : Type 0 where
  pub extends : Extends gs t.functions
  pub kept : Q t.functions
  pub sound : (a : A) → t.result ≡ Ok a → P a t.functions

abbrev pub Keeps : {A : Type 0} → (List Function → Type 0) → (A → List Function → Type 0) → Typing A → Type 0
Keeps {A = A} Q P x = (gs : List Function) → Q gs → Kept A Q P gs (x gs)

abbrev pub AllKeep : {A : Type 0} → (List Function → Type 0) → (A → List Function → Type 0) → List (Typing A) → Type 0
AllKeep Q P [] = ⊤
AllKeep Q P (x ∷ xs) = Keeps Q P x × AllKeep Q P xs

-- each of a list
abbrev pub AllHold : {A : Type 0} → (A → List Function → Type 0) → List A → List Function → Type 0
AllHold P [] gs = ⊤
AllHold P (a ∷ as') gs = P a gs × AllHold P as' gs

-- what holds where functions are known, holds where more are
abbrev pub Lasts : {A : Type 0} → (A → List Function → Type 0) → Type 0
Lasts {A = A} P = (a : A) (gs hs : List Function) → Extends gs hs → P a gs → P a hs

-- nothing is said of it
abbrev pub Anything : {A : Type 0} → A → List Function → Type 0
Anything a gs = ⊤

abbrev pub FullType : SvType → List Function → Type 0
FullType t gs = is_full t ≡ true

abbrev pub SoundInside : R.Inside → List Function → Type 0
SoundInside i gs = SoundOperand i.of gs

abbrev pub SoundParts : Parts → List Function → Type 0
SoundParts p gs = AllSoundItems p.items gs

abbrev pub SoundItem : Item → List Function → Type 0
SoundItem i gs = SoundOperand i.value gs

abbrev pub SoundRange : Alternative → List Function → Type 0
SoundRange a gs = AllSound (in_alternative a) gs

abbrev pub InRange : ℤ → ℤ → Number → List Function → Type 0
InRange low high n gs = (int_le low n.number ≡ true) × (int_le n.number high ≡ true)

-- a text whose names are sound, and whose functions can be called
pub record Surrounded (Q : List Function → Type 0) (k : Context) : Type 0 where
  pub context : SoundContext k
  pub routines : (n : ℕ) → Keeps Q KnownCall (k.routine n)

-- an expression of such a text: as a value, as a type and as a target
pub record SoundMeaning (Q : List Function → Type 0) (e : Meaning) : Type 0 where
  pub typed : (k : Context) → Surrounded Q k → Keeps Q SoundOperand (e.typed k)
  pub as_type : (k : Context) → Surrounded Q k → (x : Typing SvType) → e.as_type k ≡ Some x → Keeps Q FullType x
  pub as_target : (k : Context) → Surrounded Q k → (x : Typing Valued) → e.as_target k ≡ Some x → Keeps Q SoundFixed x

-- a select, by its step
pub record SoundSelect (Q : List Function → Type 0) (s : R.SelectMeaning) : Type 0 where
  pub step : (k : Context) → Surrounded Q k → Keeps Q SoundStep (s.step k)
  pub dimension : (k : Context) → Surrounded Q k → Keeps Q Anything (s.dimension k)

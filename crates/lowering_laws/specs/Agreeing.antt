-- When valuations, changes and runs of the target stand for those of the source.
use Rattle.std.specs.Prelude.{◌≡◌, ℕ, ◌<◌, Bool, ⊤, List, [], ◌∷◌, Some}
use Rattle.b4_core.specs.declared.bit.Bit4.{Bit4}
use Rattle.row_machine.specs.Valuation.{Valuation, Changes, put}
use Rattle.sv_types.specs.declared.statement.Outcome.TheVariants.{Normal}
use Rattle.sv_types.specs.Layouts.{stored_bit}
use Rattle.sv_types.specs.Surroundings.{Around}
use Rattle.sv_types.specs.Meanings as M
use Rattle.sv_types.specs.Runs as S
use Rattle.v_meaning.specs.Scopes.{Scope}
use Rattle.v_meaning.specs.Values as V
use Rattle.v_meaning.specs.Statements.{Doing}
use Rattle.v_meaning.specs.Runs as T
use Rattle.lowering_laws.specs.Same.{Same}

-- The number of the image of each signal and local, which bit of the image each of its bits is, how many bits it has, and which of
-- them are of a two-state type. What has no image here has no bits.
pub record Images : Type 0 where
  pub number : ℕ → ℕ
  pub place : ℕ → ℕ → ℕ
  pub width : ℕ → ℕ
  pub two_state : ℕ → ℕ → Bool

-- each bit of its image is the same bit as in the source
abbrev pub IsInOrder : Images → ℕ → Type 0
IsInOrder im n = (b : ℕ) → im.place n b ≡ b

-- no two things with bits have one image
abbrev pub AreDistinct : Images → Type 0
AreDistinct im = (n m : ℕ) → 0 < im.width n → 0 < im.width m → im.number n ≡ im.number m → n ≡ m

-- images hold what signals and locals hold, and two-state bits hold 0 or 1
pub record Agree (im : Images) (now v : Valuation) : Type 0 where
  pub same : (n b : ℕ) → b < im.width n → v (record { signal = im.number n; bit = im.place n b }) ≡ now (record { signal = n; bit = b })
  pub stored : (n b : ℕ) → b < im.width n → stored_bit (im.two_state n b) (now (record { signal = n; bit = b })) ≡ now (record { signal = n; bit = b })

-- images change as signals and locals do, and two-state bits get 0 or 1
pub record SameChanges (im : Images) (c d : Changes) : Type 0 where
  pub same : (n b : ℕ) → b < im.width n → d (record { signal = im.number n; bit = im.place n b }) ≡ c (record { signal = n; bit = b })
  pub stored : (n b : ℕ) (x : Bit4) → b < im.width n → c (record { signal = n; bit = b }) ≡ Some x → stored_bit (im.two_state n b) x ≡ x

-- A point of both runs, from which the source's goes on. What a block's locals held before the block is of no account, so that
-- what is held at this point agrees is said besides what was written.
pub record SameState (im : Images) (now v : Valuation) (s : S.State) (u : T.State) : Type 0 where
  pub written : SameChanges im s.written u.written
  pub pending : SameChanges im s.pending u.pending
  pub current : Agree im (put s.written now) (put u.written v)
  pub goes_on : s.outcome ≡ Normal

-- an expression of the target that stands for one of the source on all valuations that agree
abbrev pub Stands : Images → Around → Scope → M.Meaning → ℕ → Bool → V.Meaning → Type 0
Stands im a sc e w s m = (now v : Valuation) → Agree im now v → Same e w s (record a { now = now }) m sc v

-- a run of the target that does what one of the source does, from all points of both
abbrev pub SameRun : Images → Around → Scope → S.Run → T.Run → Type 0
SameRun im a sc r t = (now v : Valuation) (s : S.State) (u : T.State) → SameState im now v s u → SameState im now v (r (record a { now = now }) s) (t sc v u)

-- one by one
abbrev pub SameRuns : Images → Around → Scope → List S.Run → List Doing → Type 0
SameRuns im a sc [] [] = ⊤
SameRuns im a sc [] (d ∷ ds) = ⊥
SameRuns im a sc (r ∷ rs) [] = ⊥
SameRuns im a sc (r ∷ rs) (d ∷ ds) = SameRun im a sc r d.run × SameRuns im a sc rs ds

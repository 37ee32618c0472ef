-- The first of the processes that are stuck.
use Rattle.std.specs.Prelude.{◌≡◌, ℕ, false, ⊤, List, slice_get, Option, Some, None}
use Rattle.row_machine.specs.Valuation.{Member}
use Rattle.sv_source.specs.declared.token.Spot.{Spot}
use Rattle.sv_source.specs.declared.refusal.Refusal.{Refusal}
use Rattle.sv_source.specs.declared.refusal.Fail.{Fail}
use Rattle.sv_source.specs.declared.refusal.Fail.TheVariants.{Memory, Refused}
use Rattle.sv_types.specs.declared.design.Design.{Design}
use Rattle.sv_types.specs.declared.design.Process.{Process}
use Rattle.design_breaks.specs.declared.Break.{Break}
use Rattle.design_breaks.specs.Breaks.{is_less}
use Rattle.design_breaks.specs.Circles.{IsStuck, break_of}

abbrev pub refusal_at : Spot → Refusal
refusal_at s = record { rule = 602; place = s.place; word = s.word }

abbrev pub break_or_none : Option Process → Break
break_or_none None = record { instance = 0; at = 0; rule = 0 }
break_or_none (Some p) = break_of p

abbrev pub break_at : List Process → ℕ → Break
break_at ps n = break_or_none (slice_get ps n)

-- no break of those with these numbers comes before this one
pub record IsFirst (ps : List Process) (numbers : List ℕ) (n : ℕ) : Type 0 where
  pub there : Member numbers n
  pub first : (m : ℕ) → Member numbers m → is_less (break_at ps m) (break_at ps n) ≡ false

-- the refusal of the first of these
pub record IsRefusalOf (ps : List Process) (numbers : List ℕ) (r : Refusal) : Type 0 where
  pub number : ℕ
  pub is_first : IsFirst ps numbers number
  pub process : Process
  pub stands : slice_get ps number ≡ Some process
  pub is : r ≡ refusal_at process.spot

module _ (d : Design) where
  -- the refusal of the stuck process whose break is the least
  pub record IsFirstStuck (r : Refusal) : Type 0 where
    pub process : Process
    pub is_stuck : IsStuck d process
    pub first : (q : Process) → IsStuck d q → is_less (break_of q) (break_of process) ≡ false
    pub is : r ≡ refusal_at process.spot

  abbrev pub RefusesStuck : Fail → Type 0
  RefusesStuck Memory = ⊤
  RefusesStuck (Refused r) = IsFirstStuck r

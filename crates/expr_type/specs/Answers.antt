-- What the code answers: it stops at the first break.
use Rattle.std.specs.Prelude.{◌≡◌, ⊤, ℕ, Option, Some, None, Result, Ok, Err}
use Rattle.expr_type.specs.declared.halt.Halt.{Halt}
use Rattle.expr_type.specs.declared.halt.Halt.TheVariants as H
use Rattle.expr_type.specs.declared.source.Source as R
use Rattle.expr_type.specs.Breaks.{Breaks, At, And, Behind, Quiet}
use Rattle.expr_type.specs.Typings.{Checked}
use Rattle.expr_type.specs.Names.{Source}

-- a text as the code has it
abbrev pub source : R.Source → Source
source s = record { tokens = s.tokens.now; instance = s.instance }

-- a token that breaks a rule
pub record Break : Type 0 where
  pub at : ℕ
  pub rule : ℕ

abbrev pub or_next : Option Break → Option Break → Option Break
or_next None b = b
or_next (Some a) b = Some a

-- the token of the first break, by itself, and its rule
abbrev pub first_break : Breaks → Option Break
first_break (At p rule) = Some (record { at = p.at; rule = rule })
first_break (And a b) = or_next (first_break a) (first_break b)
first_break (Behind p b) = first_break b
first_break Quiet = None

-- why something isn't whole, if it isn't: its first break, if it has one
abbrev pub reason : {A : Type 0} → Checked A → Option (Option Break)
reason (Ok a) = None
reason (Err b) = Some (first_break b)

abbrev pub HaltsBy : Halt → Option (Option Break) → Type 0
HaltsBy H.Memory r = ⊤
HaltsBy (H.Breaks at rule) r = r ≡ Some (Some (record { at = at; rule = rule }))
HaltsBy H.Quiet r = r ≡ Some None

-- what is whole, or the first of its breaks, or want of memory
abbrev pub Gives : {A : Type 0} → Result A Halt → Checked A → Type 0
Gives (Ok a) m = m ≡ Ok a
Gives (Err h) m = HaltsBy h (reason m)

-- Functions that stay known: their places in one list are theirs in a longer one.
use Rattle.std.specs.Prelude.{List}
use Rattle.sv_types.specs.declared.statement.Function.{Function}
use Rattle.routine_fits.specs.TypingFits.{Extends}

-- where none is made known
pub extends-same : (fs : List Function) → Extends fs fs
extends-same fs = record { keeps = λ n f h. h }

-- one step and then another
pub extends-then : (fs gs hs : List Function) → Extends fs gs → Extends gs hs → Extends fs hs
extends-then fs gs hs p q = record { keeps = λ n f h. q.keeps n f (p.keeps n f h) }

pub ruleset keepings = (extends-same, extends-then)

-- Frames with the functions that are known, and what is answered of a whole frame.
use Rattle.std.specs.Prelude.{◌≡◌, ⊤, List, Option, Some, None, Result, Ok, Err, slice_get}
use Rattle.sv_source.specs.declared.refusal.Fail.{Fail}
use Rattle.sv_source.specs.declared.refusal.Fail.TheVariants.{Memory, Refused}
use Rattle.sv_source.specs.declared.refusal.Refusal.{Refusal}
use Rattle.sv_source.specs.declared.token.Token.{Token}
use Rattle.sv_types.specs.declared.frame.Frame.{Frame}
use Rattle.sv_types.specs.declared.statement.Function.{Function}
use Rattle.expr_type.specs.Answers.{Break, reason}
use Rattle.expr_type.specs.Names.{place_in, word_in}
use Rattle.expr_type.specs.Typings.{Typed}
use Rattle.typing_steps.specs.Steps.{IsQuiet}

-- a frame with other functions
abbrev pub with_functions : Frame → List Function → Frame
with_functions f fs = record f { functions = fs }

-- the refusal of a break, with the place and the word of its token
abbrev pub refusal_of : List Token → Break → Refusal
refusal_of ts b = record { rule = b.rule; place = place_in (slice_get ts b.at); word = word_in (slice_get ts b.at) }

-- the refusal of what isn't whole, if it has a break
abbrev pub refusal_by : List Token → Option (Option Break) → Option Refusal
refusal_by ts None = None
refusal_by ts (Some None) = None
refusal_by ts (Some (Some b)) = Some (refusal_of ts b)

-- What is typed is answered with the functions that are known then; or the refusal of its first break; or nothing, where it breaks no rule
-- and isn't whole, since it names what has a broken declaration.
abbrev pub AnswersTo : {A : Type 0} → List Token → Result (Option A) Fail → Typed A → List Function → Type 0
AnswersTo ts (Ok (Some a)) t fs = t ≡ record { result = Ok a; functions = fs }
AnswersTo ts (Ok None) t fs = IsQuiet t fs
AnswersTo ts (Err Memory) t fs = ⊤
AnswersTo ts (Err (Refused r)) t fs = refusal_by ts (reason t.result) ≡ Some r

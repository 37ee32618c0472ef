-- What operands answer.
use Rattle.std.specs.Prelude.{◌≡◌, Vec, ℕ, List, Option, Result, Ok, Err}
use Rattle.std.specs.Global.{Global}
use Rattle.b4_core.specs.declared.bit.Bit4.{Bit4}
use Rattle.sv_types.specs.Surroundings.{Around}
use Rattle.eval_parts.specs.declared.halt.Halt.{Halt}
use Rattle.eval_parts.specs.Surroundings.{running}
use Rattle.eval_parts.specs.Answers.{Halts}
use Rattle.eval_forms.specs.Asked.{Asked, bits_of, all_bits, effort_asked, values_asked}

abbrev pub AnswerGives : Result (List Bit4) Halt → Asked → Around → Option ℕ → Option ℕ → Type 0
AnswerGives (Ok v) q a old new = (v ≡ bits_of q a) × (effort_asked q.of q.ask a (running old) ≡ running new)
AnswerGives (Err halt) q a old new = Halts halt (effort_asked q.of q.ask a (running old))

abbrev pub AskedGive : Result (Vec (List Bit4) Global) Halt → List Asked → Around → Option ℕ → Option ℕ → Type 0
AskedGive (Ok vs) qs a old new = (vs.items ≡ all_bits qs a) × (values_asked qs a (running old) ≡ running new)
AskedGive (Err halt) qs a old new = Halts halt (values_asked qs a (running old))

-- Conditions.
use Rattle.std.proofs.Common.{◌≡◌, Bool, List, ap, ◌∙◌}
use Rattle.b4_core.specs.declared.bit.Bit4.{Bit4}
use Rattle.b4_core.specs.Bits.{is_one}
use Rattle.b4_core.specs.Bitwise.{truth_of}
use Rattle.row_machine.specs.Valuation.{Valuation}
use Rattle.v_meaning.specs.Scopes.{Scope}
use Rattle.v_meaning.specs.Values.{Meaning}
use Rattle.v_meaning.specs.Runs as R
use Rattle.v_eval.specs.declared.operators.Context.{Context}
use Rattle.v_eval.specs.Scopes.{own}
use Rattle.v_eval.proofs.Valued.{at}

pub decided : (b : Bool) (t : Bit4) (u : List Bit4) (m : Meaning) (c : Context) (sc : Scope) (v : Valuation) → c ≡ own m sc → u ≡ at m c sc v → t ≡ truth_of u → b ≡ is_one t → b ≡ R.is_true m sc v
decided b t u m c sc v of value truth is = is ∙ ap is_one (truth ∙ ap truth_of (value ∙ ap (λ d. at m d sc v) of))

pub ruleset deciding = (decided)

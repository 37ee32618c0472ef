-- What constants assign, and whether they are true.
use Rattle.std.proofs.Common.{◌≡◌, ℕ, max, Bool, true, List, length, ap, ◌∙◌}
use Rattle.b4_core.specs.declared.bit.Bit4.{Bit4}
use Rattle.b4_core.specs.Bits.{is_one}
use Rattle.b4_core.specs.Bitwise.{truth_of}
use Rattle.sv_types.specs.declared.expression.Expr.{Expr}
use Rattle.sv_types.specs.Layouts.{stored}
use Rattle.sv_types.specs.Meanings.{wide, signed, alone}
use Rattle.sv_types.specs.Operators.{assigned_to}
use Rattle.sv_types.specs.Runs as R
use Rattle.sv_types.specs.Expressions.{meaning}
use Rattle.eval_forms.specs.Assigned.{GivenBy}
use Rattle.expr_flows.specs.declared.known.Known.{Known}
use Rattle.expr_flows.specs.Known.{sight, unheld}
use Rattle.expr_flows.proofs.Values.{constant-value, constant-alone}

pub assigned-is : (k : Known) (e : Expr) (marks : List Bool) (n w : ℕ) (s : Bool) (value given r : List Bit4) → (meaning e).constant (sight k) ≡ true → n ≡ length marks → w ≡ max n (wide (meaning e)) → s ≡ signed (meaning e)
    → value ≡ (meaning e).value w s (unheld k) → GivenBy (meaning e) n value given → r ≡ stored marks given → r ≡ assigned_to marks (meaning e) (sight k).around
assigned-is k e marks n w s value given r constant width wider sign is by stores =
    let m = meaning e in
    let a = (sight k).around in
    let valued : value ≡ m.value (max n (wide m)) (signed m) a = is ∙ ap (λ x. m.value x s (unheld k)) wider ∙ ap (λ b. m.value (max n (wide m)) b (unheld k)) sign ∙ constant-value k e constant (max n (wide m)) (signed m) in
    stores ∙ ap (stored marks) (by.value a valued ∙ ap (λ x. m.given x a) width)

pub truth-is : (k : Known) (e : Expr) (v : List Bit4) (b : Bool) → (meaning e).constant (sight k) ≡ true → v ≡ alone (meaning e) (unheld k) → b ≡ is_one (truth_of v) → b ≡ R.is_true (meaning e) (sight k).around
truth-is k e v b constant is one = one ∙ ap (λ x. is_one (truth_of x)) (is ∙ constant-alone k e constant)

-- The values of constants: no signal counts for them.
use Rattle.std.proofs.Common.{◌≡◌, ℕ, ◌^◌, ◌≤◌, ℤ, Bool, true, cond, List, Option, Some, None, Result, Ok, Err, refl, ap, sym, ◌∙◌, subst}
use Rattle.std.specs.Prelude.{is_some, IfSome, unsigned_abs}
use Rattle.b4_core.specs.declared.bit.Bit4.{Bit4}
use Rattle.b4_core.specs.Vectors.{known, number}
use Rattle.sv_types.specs.declared.expression.Expr.{Expr}
use Rattle.sv_types.specs.Meanings.{wide, signed, alone}
use Rattle.sv_types.specs.Paths.{index_of}
use Rattle.sv_types.specs.Expressions.{meaning}
use Rattle.flow_laws.specs.Hangs.{Seen}
use Rattle.flow_laws.proofs.Agreeing as A
use Rattle.flow_laws.proofs.Hanging.{hangs}
use Rattle.flow_laws.proofs.Selects.{sees-itself}
use Rattle.eval_parts.specs.declared.halt.Halt.{Halt}
use Rattle.eval_parts.specs.declared.halt.Halt.TheVariants as H
use Rattle.eval_parts.specs.Answers.{Gives, Halts}
use Rattle.eval_parts.specs.Surroundings.{running}
use Rattle.eval_parts.proofs.PathLimits.{index-is}
use Rattle.expr_flows.specs.declared.fails.FlowFail.{FlowFail}
use Rattle.expr_flows.specs.declared.known.Known.{Known}
use Rattle.expr_flows.specs.Traces.{IsSmall}
use Rattle.expr_flows.specs.Known.{sight, unheld, IsFailOf, ValueFails, ValueGives, AloneGives}

seen : (k : Known) → Seen (sight k) (unheld k)
seen k = record { sure = λ n j h. refl; callee = refl }

-- a known value is the same where no signal is held
pub constant-value : (k : Known) (e : Expr) → (meaning e).constant (sight k) ≡ true → (w : ℕ) (s : Bool) → (meaning e).value w s (unheld k) ≡ (meaning e).value w s (sight k).around
constant-value k e is w s =
    let h = hangs e in
    (h.same (sight k) (unheld k) (sight k).around (seen k) (sees-itself (sight k)) (A.agree-none _ (unheld k) (sight k).around (h.constant (sight k) is))).value w s

pub constant-alone : (k : Known) (e : Expr) → (meaning e).constant (sight k) ≡ true → alone (meaning e) (unheld k) ≡ alone (meaning e) (sight k).around
constant-alone k e is = constant-value k e is (wide (meaning e)) (signed (meaning e))

-- the number of a known index
pub index-value : (k : Known) (i : Expr) (v : List Bit4) (b : Bool) (r : Option ℤ) → (meaning i).constant (sight k) ≡ true → v ≡ alone (meaning i) (unheld k) → b ≡ signed (meaning i) → r ≡ cond (known v) (Some (number b v)) None
    → r ≡ index_of (meaning i) (sight k).around
index-value k i v b r is values sign number = index-is (meaning i) (sight k).around v b r (values ∙ constant-alone k i is) sign number

-- what a run gives
stops : (h : Halt) (e : Expr) (k : Known) (f : FlowFail) → Halts h ((meaning e).values (unheld k) (running (Some 1048576))) → IsFailOf h e.spot.at f → ValueFails f k e
stops H.Memory e k f h is = subst (λ x. ValueFails x k e) (sym is) tt
stops (H.NotHeld n) e k f h is = subst (λ x. ValueFails x k e) (sym is) (refl, ap is_some h)
stops H.Turns e k f h is = subst (λ x. ValueFails x k e) (sym is) (refl, ap is_some h)

-- alone
pub alone-given : (r : Result (List Bit4) FlowFail) (e : Expr) (k : Known) (w : ℕ) (s : Bool) → w ≡ wide (meaning e) → s ≡ signed (meaning e) → ValueGives r k e w s → AloneGives r k e
alone-given (Ok v) e k w s width sign g = g ∙ ap (λ n. (meaning e).value n s (unheld k)) width ∙ ap (λ b. (meaning e).value (wide (meaning e)) b (unheld k)) sign
alone-given (Err f) e k w s width sign g = g

pub value-fails : (h : Halt) (e : Expr) (k : Known) (w : ℕ) (s : Bool) (new : Option ℕ) (f : FlowFail) → Gives (Err h) (meaning e) w s (unheld k) (Some 1048576) new → IsFailOf h e.spot.at f → ValueFails f k e
value-fails h e k w s new f g is = stops h e k f g is

-- the number of an index, as a step takes it
pub small : (o : Option ℤ) → IfSome o (λ k. unsigned_abs k ≤ 2 ^ 64) → IsSmall o
small None h = tt
small (Some k) h = h

-- The bits of constants, by what valuing them answers.
use Rattle.std.proofs.Common.{◌≡◌, ℕ, ℤ, Bool, true, false, ◌&&◌, List, Some, refl, sym, ap, ◌∙◌, subst}
use Rattle.std.specs.Prelude.{Ok, Err, not}
use Rattle.b4_core.specs.declared.bit.Bit4.{Bit4}
use Rattle.sv_types.specs.declared.statement.Function.{Function}
use Rattle.sv_types.specs.Expressions.{meaning}
use Rattle.sv_types.specs.Meanings.{signed}
use Rattle.sv_types.specs.Surroundings.{Stop}
use Rattle.eval_parts.specs.declared.halt.Halt as E
use Rattle.eval_parts.specs.declared.halt.Halt.TheVariants as V
use Rattle.eval_stmts.specs.declared.env.Env.{Env}
use Rattle.const_eval.specs.Numbers.{number_if_known}
use Rattle.const_eval.specs.Values.{AloneGives}
use Rattle.const_eval.proofs.Valuing.{alone-long}
use Rattle.expr_type.specs.declared.halt.Halt.{Halt}
use Rattle.expr_type.specs.declared.operand.Valued.{Valued}
use Rattle.expr_type.specs.Answers.{HaltsBy, reason}
use Rattle.expr_type.specs.declared.operand.Number.{Number}
use Rattle.expr_type.specs.Breaks.{Position}
use Rattle.expr_type.specs.Names.{Source, position}
use Rattle.expr_type.specs.Operands.{in_range, is_number_in, number_of, number_or, stops}
use Rattle.expr_type.specs.Shapes.{is_unpacked}
use Rattle.expr_type.specs.Types.{is_name_number}
use Rattle.expr_type.specs.Typings.{Checked, refused, where_whole}
use Rattle.expr_type.specs.Uses.{holds_stream, names_any}
use Rattle.constant_types.specs.Known.{HasNoSlots, constant_rules, known_number}
use Rattle.constant_types.proofs.Sizes.{constant-halts, constant-number, goes-on, has-stopped, the-number}
use Rattle.enum_values.specs.Constants.{HasBits, halt_for, name_rules}

-- a value of bits is a number as other constants are, and one that is unpacked breaks E501 where others break E508
module _ (p : Position) (v : Valued) (number : Valued → Checked Number) where
  abbrev rules : ℕ → Bool → Bool → Bool → Checked (Unit {0})
  rules r n u s = refused n p 406 (refused u p r (refused s p 512 (Ok tt)))

  abbrev given : Bool → Bool → Checked Number
  given n u = where_whole (refused (u && not n) p 501 (Ok v)) number

  packed : (n u s : Bool) → rules 501 n u s ≡ Ok tt → given n u ≡ number v
  packed true u s e = cc
  packed false true s e = cc
  packed false false s e = refl

  others : (n u s : Bool) → rules 501 n u s ≡ Ok tt → rules 508 n u s ≡ Ok tt
  others true u s e = cc
  others false true s e = cc
  others false false s e = e

  stops-by : (h : Halt) (n u s : Bool) → (HaltsBy h (reason (rules 508 n u s)) → HaltsBy h (reason (number v))) → HaltsBy h (reason (rules 501 n u s)) → HaltsBy h (reason (given n u))
  stops-by h true true s f x = f x
  stops-by h true false s f x = f x
  stops-by h false true s f x = x
  stops-by h false false s f x = f x

module _ (k : Source) (low high : ℤ) (v : Valued) (fs : List Function) where
  as-number : name_rules k v fs ≡ Ok tt → is_name_number k low high v fs ≡ is_number_in k low high v fs
  as-number = packed (position k v.first) v (λ u. is_number_in k low high u fs) (names_any v.expr) (is_unpacked v.expr.of) (holds_stream fs v.expr)

  as-constant : name_rules k v fs ≡ Ok tt → constant_rules k v fs ≡ Ok tt
  as-constant = others (position k v.first) v (λ u. is_number_in k low high u fs) (names_any v.expr) (is_unpacked v.expr.of) (holds_stream fs v.expr)

  name-number : name_rules k v fs ≡ Ok tt → is_name_number k low high v fs ≡ known_number k v.first low high fs v.expr
  name-number e = as-number e ∙ constant-number k low high v fs (as-constant e)

pub rules-stop : (h : Halt) (k : Source) (v : Valued) (fs : List Function) → HaltsBy h (reason (name_rules k v fs)) → HasBits (Err h) k v fs
rules-stop h k v fs s low high =
    stops-by (position k v.first) v (λ u. is_number_in k low high u fs) h (names_any v.expr) (is_unpacked v.expr.of) (holds_stream fs v.expr)
    (constant-halts h k low high v fs) s

pub bits-are : (k : Source) (v : Valued) (fs : List Function) (env : Env) (b : List Bit4) → name_rules k v fs ≡ Ok tt → HasNoSlots env → AloneGives (Ok b) v.expr fs env → HasBits (Ok b) k v fs
bits-are k v fs env b e h g low high =
    let known : number_of fs v.expr ≡ number_if_known (signed (meaning v.expr)) b =
    the-number v.expr fs env (number_if_known (signed (meaning v.expr)) b) h (ap (number_if_known (signed (meaning v.expr))) (sym g.0)) in
    name-number k low high v fs e
    ∙ ap (λ t. refused t (position k v.first) 608 (number_or k v.first (in_range low high (number_of fs v.expr)))) (goes-on v.expr fs env h g.1)
    ∙ ap (λ o. number_or k v.first (in_range low high o)) known

stopped : (k : Source) (v : Valued) (fs : List Function) (low high : ℤ) → name_rules k v fs ≡ Ok tt → stops fs v.expr ≡ true
    → reason (is_name_number k low high v fs) ≡ Some (Some (record { at = v.first; rule = 608 }))
stopped k v fs low high e s =
    ap reason (name-number k low high v fs e)
    ∙ ap (λ t. reason (refused t (position k v.first) 608 (number_or k v.first (in_range low high (number_of fs v.expr))))) s

pub run-stops : (k : Source) (v : Valued) (fs : List Function) (env : Env) (h : E.Halt) → name_rules k v fs ≡ Ok tt → HasNoSlots env → AloneGives (Err h) v.expr fs env
    → HasBits (Err (halt_for v.first h)) k v fs
run-stops k v fs env V.Memory e n g low high = tt
run-stops k v fs env (V.NotHeld at) e n g low high = stopped k v fs low high e (has-stopped v.expr fs env (Stop.NotHeld at) n g)
run-stops k v fs env V.Turns e n g low high = stopped k v fs low high e (has-stopped v.expr fs env Stop.Turns n g)

pub run-halts : (k : Source) (v : Valued) (fs : List Function) (env : Env) (h : E.Halt) (halt : Halt) → name_rules k v fs ≡ Ok tt → HasNoSlots env → AloneGives (Err h) v.expr fs env
    → halt ≡ halt_for v.first h → HasBits (Err halt) k v fs
run-halts k v fs env h halt e n g is = subst (λ (x : Halt). HasBits (Err x) k v fs) (sym is) (run-stops k v fs env h e n g)

pub ruleset constants = (rules-stop, bits-are, run-halts, alone-long)

-- The numbers of constants by what valuing them answers.
use Rattle.std.proofs.Common.{◌≡◌, ℕ, Bool, true, false, ◌&&◌, cond, ℤ, List, [], Option, Some, None, refl, sym, ap, ◌∙◌, subst, arith}
use Rattle.std.specs.Prelude.{Ok, Err, int_le, nat_lt, ◌||◌, ◌==◌}
use Rattle.std.proofs.lemmas.Bool.Decides.{nat_tests}
use Rattle.std.proofs.lemmas.Int.{ints}
use Rattle.std.proofs.Math.Path.{fun_ext}
use Rattle.b4_core.specs.declared.bit.Bit4.TheVariants.{X}
use Rattle.row_machine.specs.Valuation.{Valuation}
use Rattle.sv_types.specs.declared.expression.Expr.{Expr}
use Rattle.sv_types.specs.declared.statement.Function.{Function}
use Rattle.sv_types.specs.Expressions.{meaning}
use Rattle.sv_types.specs.Functions.{callees}
use Rattle.sv_types.specs.Meanings.{alone, signed}
use Rattle.sv_types.specs.Surroundings.{Around, Tally, Stop, is_signal}
use Rattle.eval_parts.specs.Insides.{Runs}
use Rattle.eval_parts.specs.Steps.{is_held}
use Rattle.eval_parts.specs.Surroundings.{now_of, running}
use Rattle.const_eval.specs.EvalStmts.{Env}
use Rattle.const_eval.specs.Numbers.{IsIn, IsOut, number_if_known}
use Rattle.const_eval.specs.declared.fails.EvalFail.TheVariants as V
use Rattle.const_eval.specs.declared.fails.SizeFail.{SizeFail}
use Rattle.const_eval.specs.declared.fails.SizeFail.TheVariants as S
use Rattle.const_eval.specs.Values.{SizeIs, bits_of, run_of, surroundings}
use Rattle.expr_type.specs.declared.halt.Halt.{Halt}
use Rattle.expr_type.specs.declared.halt.Halt.TheVariants as H
use Rattle.expr_type.specs.declared.operand.Number.{Number}
use Rattle.expr_type.specs.Answers.{Break, HaltsBy, reason}
use Rattle.expr_type.specs.declared.operand.Valued.{Valued}
use Rattle.expr_type.specs.Breaks.{Position, At, key_at, position_before, same_position}
use Rattle.expr_type.specs.Names.{Source, position}
use Rattle.expr_type.specs.Operands.{nothing_held, in_range, is_number_in, number_of, number_or, stops}
use Rattle.expr_type.specs.Shapes.{is_unpacked}
use Rattle.expr_type.specs.Typings.{Checked, first_before, lesser, refused, where_whole}
use Rattle.expr_type.specs.Uses.{holds_stream, names_any}
use Rattle.constant_types.specs.Known.{constant_rules, halt_for, known_number, HasNoSlots}

-- nothing is held
both-x : (b : Bool) → cond b X X ≡ X
both-x true = refl
both-x false = refl

nothing-now : now_of [] [] ≡ (λ q. X)
nothing-now = fun_ext (λ q. both-x (is_signal q.signal))

none-held : is_held [] ≡ (λ n. false)
none-held = fun_ext (λ n. refl)

around : (fs : List Function) (env : Env) → HasNoSlots env → surroundings fs env ≡ nothing_held fs
around fs env h =
    let a : now_of env.signals.items env.locals.items ≡ (λ q. X) =
    ap (λ s. now_of s env.locals.items) h.signals ∙ ap (λ s. now_of [] s) h.locals ∙ nothing-now in
    let b : is_held env.signals.items ≡ (λ n. false) = ap is_held h.signals ∙ none-held in
    ap (λ (now : Valuation). the_around now (is_held env.signals.items)) a ∙ ap (λ (holds : ℕ → Bool). the_around (λ q. X) holds) b
  where
    the_around : Valuation → (ℕ → Bool) → Around
    the_around now holds = record { now = now; holds = holds; callee = callees fs }

-- a run that goes on, or stops
abbrev has_stopped : Option Stop → Bool
has_stopped None = false
has_stopped (Some s) = true

pub goes-on : (e : Expr) (fs : List Function) (env : Env) → HasNoSlots env → Runs (meaning e) (surroundings fs env) env.budget → stops fs e ≡ false
goes-on e fs env h r =
    let a : (meaning e).values (nothing_held fs) (running (Some 1048576)) ≡ running r.left =
    subst (λ b. (meaning e).values (nothing_held fs) (running b) ≡ running r.left) h.budget
    (subst (λ k. (meaning e).values k (running env.budget) ≡ running r.left) (around fs env h) r.is) in
    ap (λ (t : Tally). has_stopped t.stop) a

pub has-stopped : (e : Expr) (fs : List Function) (env : Env) (s : Stop) → HasNoSlots env → (run_of e fs env).stop ≡ Some s → stops fs e ≡ true
has-stopped e fs env s h r =
    let a : ((meaning e).values (nothing_held fs) (running (Some 1048576))).stop ≡ Some s =
    subst (λ b. ((meaning e).values (nothing_held fs) (running b)).stop ≡ Some s) h.budget
    (subst (λ k. ((meaning e).values k (running env.budget)).stop ≡ Some s) (around fs env h) r) in
    ap has_stopped a

pub the-number : (e : Expr) (fs : List Function) (env : Env) (o : Option ℤ) → HasNoSlots env → number_if_known (signed (meaning e)) (bits_of e fs env) ≡ o → number_of fs e ≡ o
the-number e fs env o h n = subst (λ k. number_if_known (signed (meaning e)) (alone (meaning e) k) ≡ o) (around fs env h) n

within : (low high n : ℤ) → IsIn n low high → in_range low high (Some n) ≡ Some n
within low high n i =
    let t : (int_le low n && int_le n high) ≡ true = (let a = i.above in let b = i.below in grind (arith, ints)) in
    ap (λ b. cond b (Some n) None) t

out : (low high : ℤ) (o : Option ℤ) → IsOut o low high → in_range low high o ≡ None
out low high None i = refl
out low high (Some n) i =
    let t : (int_le low n && int_le n high) ≡ false = grind (arith, ints) in
    ap (λ b. cond b (Some n) None) t

-- the answers of `size`
pub size-ok : (k : Source) (first : ℕ) (low high : ℤ) (fs : List Function) (e : Expr) (env : Env) (n : ℤ) → HasNoSlots env → SizeIs (Ok n) e fs env low high
    → known_number k first low high fs e ≡ Ok (record { first = first; number = n })
size-ok k first low high fs e env n h s =
    ap (λ b. refused b (position k first) 608 (number_or k first (in_range low high (number_of fs e)))) (goes-on e fs env h s.2)
    ∙ ap (λ o. number_or k first (in_range low high o)) (the-number e fs env (Some n) h s.0)
    ∙ ap (number_or k first) (within low high n s.1)

ranged : (k : Source) (first : ℕ) (low high : ℤ) (fs : List Function) (e : Expr) (env : Env) → HasNoSlots env → (o : Option ℤ)
    → number_if_known (signed (meaning e)) (bits_of e fs env) ≡ o → IsOut o low high → Runs (meaning e) (surroundings fs env) env.budget
    → reason (known_number k first low high fs e) ≡ Some (Some (record { at = first; rule = 411 }))
ranged k first low high fs e env h o n i r =
    ap (λ b. reason (refused b (position k first) 608 (number_or k first (in_range low high (number_of fs e))))) (goes-on e fs env h r)
    ∙ ap (λ o. reason (number_or k first (in_range low high o))) (the-number e fs env o h n)
    ∙ ap (λ o. reason (number_or k first o)) (out low high o i)

stopped : (k : Source) (first : ℕ) (low high : ℤ) (fs : List Function) (e : Expr) (env : Env) (s : Stop) → HasNoSlots env → (run_of e fs env).stop ≡ Some s
    → reason (known_number k first low high fs e) ≡ Some (Some (record { at = first; rule = 608 }))
stopped k first low high fs e env s h r =
    ap (λ b. reason (refused b (position k first) 608 (number_or k first (in_range low high (number_of fs e))))) (has-stopped e fs env s h r)

pub size-err : (k : Source) (first : ℕ) (low high : ℤ) (fs : List Function) (e : Expr) (env : Env) (f : SizeFail) → HasNoSlots env → SizeIs (Err f) e fs env low high
    → HaltsBy (halt_for first f) (reason (known_number k first low high fs e))
size-err k first low high fs e env (S.Range at) h s = ranged k first low high fs e env h (number_if_known (signed (meaning e)) (bits_of e fs env)) refl s.1 s.2
size-err k first low high fs e env (S.Eval V.Memory) h s = tt
size-err k first low high fs e env (S.Eval (V.NotConstant at)) h s = stopped k first low high fs e env (Stop.NotHeld at) h s
size-err k first low high fs e env (S.Eval (V.Turns at)) h s = stopped k first low high fs e env Stop.Turns h s.0

-- the rules on a constant before its number
pub none-stops : (h : Halt) (r : Option (Option Break)) → HaltsBy h None → HaltsBy h r
none-stops H.Memory r s = tt
none-stops (H.Breaks at rule) r s = cc
none-stops H.Quiet r s = cc

not-before : (n : ℕ) → nat_lt n n ≡ false
not-before n = grind (arith, nat_tests)

pub itself : (p : Position) → position_before p p ≡ false
itself p =
    ap (λ b. b || ((p.instance == p.instance) && nat_lt p.at p.at)) (not-before p.instance)
    ∙ ap (λ b. (p.instance == p.instance) && b) (not-before p.at)
    ∙ and-false (p.instance == p.instance)
  where
    and-false : (b : Bool) → (b && false) ≡ false
    and-false true = refl
    and-false false = refl

-- E508 comes before E512 at one token
first-kept : (p : Position) → first_before (Some (key_at p 512)) (Some (key_at p 508)) ≡ false
first-kept p =
    ap (λ b. (b || (same_position p p && false)) || ((same_position p p && true) && false)) (itself p)
    ∙ rest (same_position p p)
  where
    rest : (b : Bool) → ((false || (b && false)) || ((b && true) && false)) ≡ false
    rest true = refl
    rest false = refl

module _ (p : Position) (v : Valued) (t : Bool) (f : Valued → Checked Number) where
  abbrev own-rules : Bool → Bool → Bool → Checked (Unit {0})
  own-rules n u s = refused n p 406 (refused u p 508 (refused s p 512 (Ok tt)))

  abbrev all-rules : Bool → Bool → Bool → Checked Number
  all-rules n u s =
      where_whole (refused n p 406 (where_whole (lesser (refused u p 508 (Ok v)) (refused s p 512 (Ok v.expr))) (λ q. refused t p 608 (Ok q.0)))) f

  behind : (b : Bool) → where_whole (refused b p 608 (Ok v)) f ≡ refused b p 608 (f v)
  behind true = refl
  behind false = refl

  whole-by : (n u s : Bool) → own-rules n u s ≡ Ok tt → all-rules n u s ≡ refused t p 608 (f v)
  whole-by true u s e = cc
  whole-by false true s e = cc
  whole-by false false true e = cc
  whole-by false false false e = behind t

  both-broken : (b : Bool) → b ≡ false → reason {A = Number} (Err (cond b (At p 512) (At p 508))) ≡ Some (Some (record { at = p.at; rule = 508 }))
  both-broken false e = refl
  both-broken true e = cc

  halts-by : (h : Halt) (n u s : Bool) → HaltsBy h (reason (own-rules n u s)) → HaltsBy h (reason (all-rules n u s))
  halts-by h true u s x = x
  halts-by h false true true x =
      subst (λ (r : Option (Option Break)). HaltsBy h r) (sym (both-broken (first_before (Some (key_at p 512)) (Some (key_at p 508))) (first-kept p))) x
  halts-by h false true false x = x
  halts-by h false false true x = x
  halts-by h false false false x = none-stops h (reason (all-rules false false false)) x

pub constant-number : (k : Source) (low high : ℤ) (v : Valued) (fs : List Function) → constant_rules k v fs ≡ Ok tt
    → is_number_in k low high v fs ≡ known_number k v.first low high fs v.expr
constant-number k low high v fs e =
    whole-by (position k v.first) v (stops fs v.expr) (λ u. number_or k u.first (in_range low high (number_of fs u.expr)))
    (names_any v.expr) (is_unpacked v.expr.of) (holds_stream fs v.expr) e

pub constant-halts : (h : Halt) (k : Source) (low high : ℤ) (v : Valued) (fs : List Function) → HaltsBy h (reason (constant_rules k v fs))
    → HaltsBy h (reason (is_number_in k low high v fs))
constant-halts h k low high v fs s =
    halts-by (position k v.first) v (stops fs v.expr) (λ u. number_or k u.first (in_range low high (number_of fs u.expr)))
    h (names_any v.expr) (is_unpacked v.expr.of) (holds_stream fs v.expr) s

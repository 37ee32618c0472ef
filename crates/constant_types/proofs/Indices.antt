-- Constant indices by what valuing them answers.
use Rattle.std.proofs.Common.{◌≡◌, ℕ, Bool, true, false, ◌&&◌, cond, ℤ, List, Option, Some, refl, sym, ap, ◌∙◌, subst}
use Rattle.std.specs.Prelude.{Result, Ok, Err, nat_lt, ◌||◌}
use Rattle.sv_types.specs.declared.expression.Expr.{Expr}
use Rattle.sv_types.specs.declared.statement.Function.{Function}
use Rattle.sv_types.specs.Layouts.{width_of}
use Rattle.sv_types.specs.Expressions.{meaning}
use Rattle.sv_types.specs.Meanings.{wide}
use Rattle.sv_types.specs.Surroundings.{Stop}
use Rattle.eval_parts.proofs.TypeKinds.{wide-is}
use Rattle.const_eval.specs.EvalStmts.{Env}
use Rattle.const_eval.specs.declared.fails.EvalFail.{EvalFail}
use Rattle.const_eval.specs.declared.fails.EvalFail.TheVariants as V
use Rattle.const_eval.specs.declared.fails.SizeFail.TheVariants as S
use Rattle.const_eval.specs.Values.{NumberIs, run_of}
use Rattle.expr_type.specs.declared.halt.Halt.{Halt}
use Rattle.expr_type.specs.Answers.{Break, Gives, HaltsBy, reason}
use Rattle.expr_type.specs.declared.operand.Valued.{Valued}
use Rattle.expr_type.specs.Breaks.{Position, At, key_at, same_position}
use Rattle.expr_type.specs.Expressions.{is_key}
use Rattle.expr_type.specs.Names.{Source, position}
use Rattle.expr_type.specs.Operands.{number_of, stops, width}
use Rattle.expr_type.specs.Selects.{is_index}
use Rattle.expr_type.specs.Shapes.{is_unpacked}
use Rattle.expr_type.specs.Typings.{Checked, first_before, lesser, refused, where_whole}
use Rattle.expr_type.specs.Uses.{holds_stream, names_any}
use Rattle.constant_types.specs.Known.{halt_for, HasNoSlots}
use Rattle.constant_types.specs.Indices.{key_rules, known_key}
use Rattle.constant_types.proofs.Sizes.{goes-on, has-stopped, the-number, none-stops, itself}

pub width-is : (e : Expr) (n : ℕ) → n ≡ wide (meaning e) → n ≡ width_of e.of
width-is e n h = h ∙ wide-is e

pub ruleset widths = (width-is)

-- the answers of `number`
pub number-ok : (k : Source) (first : ℕ) (fs : List Function) (e : Expr) (env : Env) (n : Option ℤ) → HasNoSlots env → NumberIs (Ok n) e fs env → Gives (Ok n) (known_key k first fs e)
number-ok k first fs e env n h s =
    ap (λ b. refused b (position k first) 608 (Ok (number_of fs e))) (goes-on e fs env h s.1)
    ∙ ap (λ (o : Option ℤ). Ok o) (the-number e fs env n h (sym s.0))

stopped : (k : Source) (first : ℕ) (fs : List Function) (e : Expr) (env : Env) (s : Stop) → HasNoSlots env → (run_of e fs env).stop ≡ Some s
    → reason (known_key k first fs e) ≡ Some (Some (record { at = first; rule = 608 }))
stopped k first fs e env s h r = ap (λ b. reason (refused b (position k first) 608 (Ok (number_of fs e)))) (has-stopped e fs env s h r)

pub number-err : (k : Source) (first : ℕ) (fs : List Function) (e : Expr) (env : Env) (f : EvalFail) (h : Halt) → HasNoSlots env → NumberIs (Err f) e fs env → h ≡ halt_for first (S.Eval f)
    → HaltsBy h (reason (known_key k first fs e))
number-err k first fs e env f h none s is = subst (λ g. HaltsBy g (reason (known_key k first fs e))) (sym is) (by f s)
  where
    by : (g : EvalFail) → NumberIs (Err g) e fs env → HaltsBy (halt_for first (S.Eval g)) (reason (known_key k first fs e))
    by V.Memory t = tt
    by (V.NotConstant at) t = stopped k first fs e env (Stop.NotHeld at) none t
    by (V.Turns at) t = stopped k first fs e env Stop.Turns none t.0

pub ruleset numbers = (number-ok, number-err)

-- E508 and E507 come before E512 at one token
earlier : (p : Position) → first_before (Some (key_at p 512)) (Some (key_at p 508)) ≡ false
earlier p = ap (λ b. (b || (same_position p p && false)) || ((same_position p p && true) && false)) (itself p) ∙ rest (same_position p p)
  where
    rest : (b : Bool) → ((false || (b && false)) || ((b && true) && false)) ≡ false
    rest true = refl
    rest false = refl

earlier-still : (p : Position) → first_before (Some (key_at p 512)) (Some (key_at p 507)) ≡ false
earlier-still p = ap (λ b. (b || (same_position p p && false)) || ((same_position p p && true) && false)) (itself p) ∙ rest (same_position p p)
  where
    rest : (b : Bool) → ((false || (b && false)) || ((b && true) && false)) ≡ false
    rest true = refl
    rest false = refl

module _ (p : Position) (v : Valued) (t : Bool) (f : Valued → Checked (Option ℤ)) where
  abbrev own-rules : Bool → Bool → Bool → Bool → Checked (Unit {0})
  own-rules n u w s = refused n p 406 (refused u p 508 (refused w p 507 (refused s p 512 (Ok tt))))

  abbrev all-rules : Bool → Bool → Bool → Bool → Checked (Option ℤ)
  all-rules n u w s =
      where_whole (refused n p 406 (where_whole (lesser (refused u p 508 (refused w p 507 (Ok v))) (refused s p 512 (Ok v.expr))) (λ q. refused t p 608 (Ok q.0)))) f

  behind : (b : Bool) → where_whole (refused b p 608 (Ok v)) f ≡ refused b p 608 (f v)
  behind true = refl
  behind false = refl

  whole-by : (n u w s : Bool) → own-rules n u w s ≡ Ok tt → all-rules n u w s ≡ refused t p 608 (f v)
  whole-by true u w s e = cc
  whole-by false true w s e = cc
  whole-by false false true s e = cc
  whole-by false false false true e = cc
  whole-by false false false false e = behind t

  both-broken : (b : Bool) (rule : ℕ) → b ≡ false → reason {A = Option ℤ} (Err (cond b (At p 512) (At p rule))) ≡ Some (Some (record { at = p.at; rule = rule }))
  both-broken false rule e = refl
  both-broken true rule e = cc

  halts-by : (h : Halt) (n u w s : Bool) → HaltsBy h (reason (own-rules n u w s)) → HaltsBy h (reason (all-rules n u w s))
  halts-by h true u w s x = x
  halts-by h false true w true x =
      subst (λ (r : Option (Option Break)). HaltsBy h r) (sym (both-broken (first_before (Some (key_at p 512)) (Some (key_at p 508))) 508 (earlier p))) x
  halts-by h false true w false x = x
  halts-by h false false true true x =
      subst (λ (r : Option (Option Break)). HaltsBy h r) (sym (both-broken (first_before (Some (key_at p 512)) (Some (key_at p 507))) 507 (earlier-still p))) x
  halts-by h false false true false x = x
  halts-by h false false false true x = x
  halts-by h false false false false x = none-stops h (reason (all-rules false false false false)) x

  -- bits first, and then their number
  bits-first : (u : Bool) (g : Valued → Checked Valued) → where_whole (refused u p 508 (Ok v)) g ≡ refused u p 508 (g v)
  bits-first true g = refl
  bits-first false g = refl

abbrev the_rules : Source → Valued → List Function → Checked (Option ℤ)
the_rules k v fs =
    all-rules (position k v.first) v (stops fs v.expr) (λ u. Ok (number_of fs u.expr)) (names_any v.expr) (is_unpacked v.expr.of) (nat_lt 64 (width v)) (holds_stream fs v.expr)

key-is : (k : Source) (v : Valued) (fs : List Function) → is_key k v fs ≡ the_rules k v fs
key-is k v fs =
    ap
    (λ (x : Checked Valued).
    where_whole
    (refused (names_any v.expr) (position k v.first) 406
    (where_whole (lesser x (refused (holds_stream fs v.expr) (position k v.first) 512 (Ok v.expr))) (λ q. refused (stops fs v.expr) (position k v.first) 608 (Ok q.0))))
    (λ u. Ok (number_of fs u.expr)))
    (bits-first (position k v.first) v (stops fs v.expr) (λ u. Ok (number_of fs u.expr)) (is_unpacked v.expr.of) (is_index k))

pub key-whole : (k : Source) (v : Valued) (fs : List Function) (r : Result (Option ℤ) Halt) → Gives (Ok tt) (key_rules k v fs) → Gives r (known_key k v.first fs v.expr) → Gives r (is_key k v fs)
key-whole k v fs r e g =
    subst (λ (m : Checked (Option ℤ)). Gives r m)
    (sym (key-is k v fs ∙ whole-by (position k v.first) v (stops fs v.expr) (λ u. Ok (number_of fs u.expr)) (names_any v.expr) (is_unpacked v.expr.of) (nat_lt 64 (width v)) (holds_stream fs v.expr) e)) g

pub key-halts : (k : Source) (v : Valued) (fs : List Function) (h : Halt) → HaltsBy h (reason (key_rules k v fs)) → HaltsBy h (reason (is_key k v fs))
key-halts k v fs h s =
    subst (λ (m : Checked (Option ℤ)). HaltsBy h (reason m)) (sym (key-is k v fs))
    (halts-by (position k v.first) v (stops fs v.expr) (λ u. Ok (number_of fs u.expr)) h (names_any v.expr) (is_unpacked v.expr.of) (nat_lt 64 (width v)) (holds_stream fs v.expr) s)

pub ruleset keys = (key-whole, key-halts)

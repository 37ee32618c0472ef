-- What valuing a constant answers, by what the code for it answers.
use Rattle.std.proofs.Common.{◌≡◌, ◌≤◌, ℕ, zero, suc, Bool, true, false, cond, List, [], ◌∷◌, length, Option, Some, refl, sym, ap, ◌∙◌, subst, arith, rules}
use Rattle.std.specs.Prelude.{Result, Ok, Err}
use Rattle.std.proofs.Math.Path.{fun_ext}
use Rattle.b4_core.specs.declared.bit.Bit4.{Bit4}
use Rattle.b4_core.specs.declared.bit.Bit4.TheVariants.{X}
use Rattle.row_machine.specs.Valuation.{Valuation}
use Rattle.sv_types.specs.declared.expression.Expr.{Expr}
use Rattle.sv_types.specs.declared.statement.Function.{Function}
use Rattle.sv_types.specs.declared.types.SvType.{SvType, the_lemmas}
use Rattle.sv_types.specs.declared.types.SvType.TheVariants as T
use Rattle.sv_types.specs.declared.types.Value.{Value, Value-F, fold-roll-Value}
use Rattle.sv_types.specs.declared.types.Value.TheVariants.{Bits, rolls-Bits}
use Rattle.sv_types.specs.Expressions.{meaning}
use Rattle.sv_types.specs.Functions.{callees}
use Rattle.sv_types.specs.Layouts.{Layout, layout, stored, width_of}
use Rattle.sv_types.specs.Meanings.{Meaning}
use Rattle.sv_types.specs.Operators.{assigned_to}
use Rattle.sv_types.specs.Surroundings.{Around, Stop, is_signal}
use Rattle.sv_types.specs.Values.{Shape, bits, flat, shape, value_of_bits, value_step}
use Rattle.sv_types.proofs.Lengths.{layout-Enum}
use Rattle.eval_parts.specs.declared.halt.Halt as E
use Rattle.eval_parts.specs.declared.halt.Halt.TheVariants as V
use Rattle.eval_parts.specs.Steps.{is_held}
use Rattle.eval_parts.specs.Surroundings.{now_of}
use Rattle.eval_stmts.specs.declared.env.Env.{Env}
use Rattle.eval_stmts.specs.Values.{AssignedTo}
use Rattle.const_eval.specs.declared.fails.EvalFail.{EvalFail}
use Rattle.const_eval.specs.declared.fails.EvalFail.TheVariants as F
use Rattle.const_eval.specs.Values.{ValueIs, run_of, surroundings}
use Rattle.constant_types.specs.Known.{HasNoSlots}
use Rattle.constant_types.proofs.Sizes.{goes-on, has-stopped}
use Rattle.expr_type.specs.declared.halt.Halt.{Halt}
use Rattle.expr_type.specs.Answers.{Gives, HaltsBy, reason}
use Rattle.expr_type.specs.Names.{Source, position}
use Rattle.expr_type.specs.Operands.{nothing_held, stops, value_by}
use Rattle.expr_type.specs.Typings.{Checked, refused}
use Rattle.stmt_laws.proofs.Values.{NoStream, value-has}
use Rattle.constant_values.specs.Valuing.{BitsGive, fail_halt, run_halt, runs_on, valued}

-- nothing is held
both-x : (b : Bool) → cond b X X ≡ X
both-x true = refl
both-x false = refl

no-slots : now_of [] [] ≡ (λ q. X)
no-slots = fun_ext (λ q. both-x (is_signal q.signal))

none-held : is_held [] ≡ (λ n. false)
none-held = fun_ext (λ n. refl)

nothing-around : (fs : List Function) (env : Env) → HasNoSlots env → surroundings fs env ≡ nothing_held fs
nothing-around fs env h =
    let a : now_of env.signals.items env.locals.items ≡ (λ q. X) =
    ap (λ s. now_of s env.locals.items) h.signals ∙ ap (λ s. now_of [] s) h.locals ∙ no-slots in
    let b : is_held env.signals.items ≡ (λ n. false) = ap is_held h.signals ∙ none-held in
    ap (λ (now : Valuation). the_around now (is_held env.signals.items)) a ∙ ap (λ (holds : ℕ → Bool). the_around (λ q. X) holds) b
  where
    the_around : Valuation → (ℕ → Bool) → Around
    the_around now holds = record { now = now; holds = holds; callee = callees fs }

-- a run that goes on, or stops
pub goes : (k : Source) (first : ℕ) (fs : List Function) (e : Expr) (env : Env) (v : Value) → HasNoSlots env → ValueIs (Ok v) e fs env → Gives (Ok tt) (runs_on k first fs e)
goes k first fs e env v h s = ap (λ b. refused {A = Unit {0}} b (position k first) 608 (Ok tt)) (goes-on e fs env h s.1)

halted : (k : Source) (first : ℕ) (fs : List Function) (e : Expr) → stops fs e ≡ true → reason (runs_on k first fs e) ≡ Some (Some (record { at = first; rule = 608 }))
halted k first fs e s = ap (λ b. reason (refused {A = Unit {0}} b (position k first) 608 (Ok tt))) s

pub fails : (k : Source) (first : ℕ) (fs : List Function) (e : Expr) (env : Env) (f : EvalFail) (h : Halt) → HasNoSlots env → ValueIs (Err f) e fs env → h ≡ fail_halt first f
    → HaltsBy h (reason (runs_on k first fs e))
fails k first fs e env f h none s is = subst (λ (g : Halt). HaltsBy g (reason (runs_on k first fs e))) (sym is) (by f s)
  where
    by : (g : EvalFail) → ValueIs (Err g) e fs env → HaltsBy (fail_halt first g) (reason (runs_on k first fs e))
    by F.Memory t = tt
    by (F.NotConstant at) t = halted k first fs e (has-stopped e fs env (Stop.NotHeld at) none t)
    by (F.Turns at) t = halted k first fs e (has-stopped e fs env Stop.Turns none t.0)

pub ruleset runs = (goes, fails)

-- the bits that are given to a type
pub bits-give : (r : Result (List Bit4) E.Halt) (t : SvType) (e : Expr) (fs : List Function) (env : Env) (a : Around) (new : Option ℕ) → HasNoSlots env → a ≡ surroundings fs env
    → AssignedTo r (layout t).two_state (meaning e) a env.budget new → BitsGive r t e fs
bits-give r t e fs env a new h same g = by r (subst (λ (b : Around). AssignedTo r (layout t).two_state (meaning e) b env.budget new) same g)
  where
    by : (s : Result (List Bit4) E.Halt) → AssignedTo s (layout t).two_state (meaning e) (surroundings fs env) env.budget new → BitsGive s t e fs
    by (Ok v) p =
        (subst (λ (b : Around). v ≡ assigned_to (layout t).two_state (meaning e) b) (nothing-around fs env h) p.0, goes-on e fs env h (record { left = new; is = p.1 }))
    by (Err V.Memory) p = tt
    by (Err (V.NotHeld n)) p = has-stopped e fs env (Stop.NotHeld n) h p
    by (Err V.Turns) p = has-stopped e fs env Stop.Turns h p

-- An enum over a type has the type's bits in one piece.
abbrev piece : SvType → SvType
piece t = T.Enum 0 t []

piece-marks : (t : SvType) → (layout (piece t)).two_state ≡ (layout t).two_state
piece-marks t = ap (λ (l : Layout). l.two_state) (layout-Enum 0 t [])

piece-shape : (t : SvType) → shape (piece t) ≡ flat (shape t).width
piece-shape t = search (rules, the_lemmas)

bits-Bits : (v : List Bit4) → bits (Bits v) ≡ v
bits-Bits v = ap bits (sym (rolls-Bits v)) ∙ fold-roll-Value (List Bit4) value_step (Value-F.Bits v)

piece-bits : (t : SvType) (v : List Bit4) → bits (value_of_bits (piece t) v) ≡ stored (layout (piece t)).two_state v
piece-bits t v = ap (λ (s : Shape). bits (s.value (stored (layout (piece t)).two_state v))) (piece-shape t) ∙ bits-Bits (stored (layout (piece t)).two_state v)

stored-most : (marks : List Bool) (v : List Bit4) → length (stored marks v) ≤ length marks
stored-most [] v = omega arith
stored-most (m ∷ marks) [] = omega arith
stored-most (m ∷ marks) (b ∷ v) = let h = stored-most marks v in omega arith

stored-least : (marks : List Bool) (v : List Bit4) → length (stored marks v) ≤ length v
stored-least [] v = omega arith
stored-least (m ∷ marks) [] = omega arith
stored-least (m ∷ marks) (b ∷ v) = let h = stored-least marks v in omega arith

pub given-long : (fs : List Function) (t : SvType) (e : Expr) → NoStream e → length (assigned_to (layout t).two_state (meaning e) (nothing_held fs)) ≡ width_of t
given-long fs t e free =
    let marks = (layout t).two_state in
    let whole : length (bits (value_by fs (piece t) e)) ≡ length (layout (piece t)).two_state = value-has fs (piece t) e free in
    let kept : length (stored (layout (piece t)).two_state (assigned_to (layout (piece t)).two_state (meaning e) (nothing_held fs))) ≡ length (layout (piece t)).two_state =
    sym (ap length (piece-bits t (assigned_to (layout (piece t)).two_state (meaning e) (nothing_held fs)))) ∙ whole in
    let same : length (stored marks (assigned_to marks (meaning e) (nothing_held fs))) ≡ length marks =
    subst (λ (ms : List Bool). length (stored ms (assigned_to ms (meaning e) (nothing_held fs))) ≡ length ms) (piece-marks t) kept in
    omega (arith, same, stored-least marks (assigned_to marks (meaning e) (nothing_held fs)), stored-most marks ((meaning e).given (length marks) (nothing_held fs)))

pub bits-long : (r : List Bit4) (fs : List Function) (t : SvType) (e : Expr) → BitsGive (Ok r) t e fs → NoStream e → length r ≡ width_of t
bits-long r fs t e g free = ap length g.0 ∙ given-long fs t e free

abbrev value_refused : Source → ℕ → Value → Bool → Checked Value
value_refused k first v b = refused b (position k first) 608 (Ok v)

pub values-give : (k : Source) (first : ℕ) (fs : List Function) (t : SvType) (e : Expr) (r : List Bit4) (v : Value) → BitsGive (Ok r) t e fs → v ≡ value_of_bits t r → Gives (Ok v) (valued k first fs t e)
values-give k first fs t e r v g is =
    let made : v ≡ value_by fs t e = is ∙ ap (value_of_bits t) g.0 in
    ap (value_refused k first (value_by fs t e)) g.1 ∙ ap (λ (x : Value). ok x) (sym made)
  where
    ok : Value → Checked Value
    ok x = Ok x

pub values-halt : (k : Source) (first : ℕ) (fs : List Function) (t : SvType) (e : Expr) (x : E.Halt) (h : Halt) → BitsGive (Err x) t e fs → h ≡ run_halt first x → HaltsBy h (reason (valued k first fs t e))
values-halt k first fs t e x h g is = subst (λ (y : Halt). HaltsBy y (reason (valued k first fs t e))) (sym is) (by x g)
  where
    by : (z : E.Halt) → BitsGive (Err z) t e fs → HaltsBy (run_halt first z) (reason (valued k first fs t e))
    by V.Memory p = tt
    by (V.NotHeld n) p = ap (λ b. reason (value_refused k first (value_by fs t e) b)) p
    by V.Turns p = ap (λ b. reason (value_refused k first (value_by fs t e) b)) p

pub ruleset values = (bits-long, values-give, values-halt)

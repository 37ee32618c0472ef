-- Constant indices have one number wherever the same functions are called.
use Rattle.std.proofs.Common.{◌≡◌, ℕ, ℤ, Bool, true, false, cond, List, length, Option, Some, None, Result, Ok, Err, refl, ap, sym, ◌∙◌, subst}
use Rattle.std.specs.Prelude.{is_some}
use Rattle.b4_core.specs.declared.bit.Bit4.{Bit4}
use Rattle.b4_core.specs.Vectors.{known, number}
use Rattle.sv_types.specs.declared.expression.Expr.{Expr}
use Rattle.sv_types.specs.declared.statement.Function.{Function}
use Rattle.sv_types.specs.Surroundings.{Around, Sight, Stop}
use Rattle.sv_types.specs.Meanings as S
use Rattle.sv_types.specs.Paths as P
use Rattle.sv_types.specs.Expressions.{meaning}
use Rattle.sv_types.specs.Functions.{callees}
use Rattle.sv_types.specs.Flows.{covered}
use Rattle.sv_types.proofs.ValueLengths.{length-value}
use Rattle.eval_parts.specs.declared.halt.Halt.{Halt}
use Rattle.eval_parts.specs.declared.halt.Halt.TheVariants as H
use Rattle.eval_parts.specs.Answers.{Gives}
use Rattle.eval_parts.specs.Surroundings.{running}
use Rattle.eval_exprs.proofs.Paths.{own-gives}
use Rattle.eval_parts.proofs.PathLimits.{index-is}
use Rattle.flow_laws.specs.Hangs.{Seen, Same}
use Rattle.flow_laws.proofs.Hanging.{hangs}
use Rattle.known_indices.specs.declared.known.IndexFail.{IndexFail}
use Rattle.known_indices.specs.declared.known.IndexFail.TheVariants as F
use Rattle.known_indices.specs.declared.known.KnownIndex.{KnownIndex}
use Rattle.constant_exprs.specs.Constants.{ConstantIf}
use Rattle.known_indices.specs.Known.{unheld, IsFailOf, BitsGive, NumberGives, IsKnown, IndexGives}

-- a sight in which nothing is sure
abbrev blind : List Function → Sight
blind fs = record { around = unheld fs; sure = λ q. false }

never : {A : Type 0} → false ≡ true → A
never h = absurd (cc)

seen-by : (fs : List Function) (a : Around) → a.callee ≡ callees fs → Seen (blind fs) a
seen-by fs a is = record { sure = λ n j h. never h; callee = is }

same-everywhere : (fs : List Function) (e : Expr) (a b : Around) → (meaning e).constant (blind fs) ≡ true → a.callee ≡ callees fs → b.callee ≡ callees fs → Same (meaning e) a b
same-everywhere fs e a b constant left right =
    let h = hangs e in
    h.same (blind fs) a b (seen-by fs a left) (seen-by fs b right) (λ q c. never (sym (ap (λ us. covered us q) (h.constant (blind fs) constant)) ∙ c))

number-everywhere : (fs : List Function) (e : Expr) (a b : Around) → (meaning e).constant (blind fs) ≡ true → a.callee ≡ callees fs → b.callee ≡ callees fs → P.index_of (meaning e) a ≡ P.index_of (meaning e) b
number-everywhere fs e a b constant left right =
    let i = meaning e in
    ap (λ v. cond (known v) (Some (number (S.signed i) v)) None) ((same-everywhere fs e a b constant left right).value (S.wide i) (S.signed i))

known-by : (fs : List Function) (e : Expr) (x : KnownIndex) → ConstantIf true (meaning e) → x.number ≡ P.index_of (meaning e) (unheld fs) → IsKnown fs e x.number
known-by fs e x h is = record {
  constant = h.constant;
  number = λ a callee. number-everywhere fs e a (unheld fs) (h.constant (blind fs) (λ q. refl)) callee refl ∙ sym is;
  none = h.none refl;
}

-- what valuing one gives
own-bits : (r : Result (List Bit4) Halt) (fs : List Function) (e : Expr) (new : Option ℕ) → Gives r (meaning e) (S.wide (meaning e)) (S.signed (meaning e)) (unheld fs) (Some 1048576) new → BitsGive r fs e
own-bits (Ok v) fs e new g = g.0
own-bits (Err h) fs e new g = g

pub bits-give : (r : Result (List Bit4) Halt) (fs : List Function) (e : Expr) (w : ℕ) (s : Bool) (new : Option ℕ) → w ≡ S.wide (meaning e) → s ≡ S.signed (meaning e) → Gives r (meaning e) w s (unheld fs) (Some 1048576) new
    → BitsGive r fs e
bits-give r fs e w s new width sign g = own-bits r fs e new (own-gives r e w s (unheld fs) (Some 1048576) new width sign g)

pub number-by : (fs : List Function) (e : Expr) (v : List Bit4) (b : Bool) (z : Option ℤ) → v ≡ S.alone (meaning e) (unheld fs) → b ≡ S.signed (meaning e) → z ≡ cond (known v) (Some (number b v)) None → z ≡ P.index_of (meaning e) (unheld fs)
number-by fs e v b z values sign is = index-is (meaning e) (unheld fs) v b z values sign is

pub bits-long : (fs : List Function) (e : Expr) (v : List Bit4) → v ≡ S.alone (meaning e) (unheld fs) → length v ≡ S.wide (meaning e)
bits-long fs e v values = ap length values ∙ length-value e (S.wide (meaning e)) (S.signed (meaning e)) (unheld fs)

stops : (fs : List Function) (e : Expr) (f : IndexFail) (s : Stop) → f ≡ F.TooLong e.spot.at → ((meaning e).values (unheld fs) (running (Some 1048576))).stop ≡ Some s → NumberGives (Err f) fs e
stops fs e f s is stop = subst (λ g. NumberGives (Err g) fs e) (sym is) (refl, ap is_some stop)

pub fails-by : (h : Halt) (fs : List Function) (e : Expr) (f : IndexFail) → IsFailOf h e.spot.at f → BitsGive (Err h) fs e → NumberGives (Err f) fs e
fails-by H.Memory fs e f is g = subst (λ x. NumberGives (Err x) fs e) (sym is) tt
fails-by (H.NotHeld n) fs e f is g = stops fs e f (Stop.NotHeld n) is g
fails-by H.Turns fs e f is g = stops fs e f Stop.Turns is g

-- what is answered
pub variable-by : (fs : List Function) (e : Expr) → ConstantIf false (meaning e) → IndexGives (Ok None) fs e
variable-by fs e h = h.constant

pub index-known : (fs : List Function) (e : Expr) (x : KnownIndex) → ConstantIf true (meaning e) → NumberGives (Ok x) fs e → IndexGives (Ok (Some x)) fs e
index-known fs e x h is = known-by fs e x h is

pub index-fails : (fs : List Function) (e : Expr) (f : IndexFail) → ConstantIf true (meaning e) → NumberGives (Err f) fs e → IndexGives (Err f) fs e
index-fails fs e F.Memory h g = tt
index-fails fs e (F.TooLong at) h g = record { constant = h.constant; place = g.0; long = g.1 }

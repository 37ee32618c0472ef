-- Which rule on what stands in a constant counts.
use Rattle.std.proofs.Common.{◌≡◌, ℕ, Bool, true, false, cond, List, Option, Some, refl, sym, ap, ◌∙◌, subst}
use Rattle.std.specs.Prelude.{Result, Ok, Err}
use Rattle.sv_types.specs.declared.expression.Expr.{Expr}
use Rattle.sv_types.specs.declared.statement.Function.{Function}
use Rattle.expr_type.specs.declared.halt.Halt.{Halt}
use Rattle.expr_type.specs.declared.halt.Halt.TheVariants as H
use Rattle.expr_type.specs.Answers.{Break, HaltsBy, reason}
use Rattle.expr_type.specs.Breaks.{At}
use Rattle.expr_type.specs.Names.{Source, position}
use Rattle.expr_type.specs.Operands.{stops}
use Rattle.expr_type.specs.Typings.{Checked, lesser, refused, where_whole}
use Rattle.expr_type.specs.Uses.{holds_stream, names_any}
use Rattle.given_types.specs.Admitting.{Admits}
use Rattle.pattern_laws.specs.Reasons.{Reason, lesser_reason}
use Rattle.pattern_laws.proofs.Order.{HereIf, lesser-reason}
use Rattle.pattern_laws.proofs.Reasons.{where-broken}
use Rattle.constant_values.specs.Rules.{IsFree, MayStand, ruled, stream_is_sooner, with_stream}

module _ (k : Source) (first : ℕ) (stop : Bool) (e : Expr) where
  abbrev at_stream : Break
  at_stream = record { at = first; rule = 512 }

  abbrev all_rules : Bool → Bool → Checked Expr → Checked Expr
  all_rules n s m =
      refused n (position k first) 406
      (where_whole (lesser m (refused {A = Expr} s (position k first) 512 (Ok e))) (λ q. refused stop (position k first) 608 (Ok q.0)))

  -- without a stream
  other-halts : (h : Halt) (m : Checked Expr) → HaltsBy h (reason m) → HaltsBy h (reason (all_rules false false m))
  other-halts H.Memory m a = tt
  other-halts (H.Breaks at n) (Ok x) a = absurd (cc)
  other-halts (H.Breaks at n) (Err b) a = a
  other-halts H.Quiet (Ok x) a = absurd (cc)
  other-halts H.Quiet (Err b) a = a

  -- with one
  by-reason : (m : Checked Expr) (b : Option Break) → HereIf k m → lesser_reason (reason m) (Some (Some at_stream)) ≡ Some b → reason (all_rules false true m) ≡ Some b
  by-reason m b here is =
      where-broken (lesser {B = Expr} m (Err (At (position k first) 512))) (λ q. refused stop (position k first) 608 (Ok q.0)) b
      (lesser-reason {B = Expr} k m (Err (At (position k first) 512)) here refl ∙ is)

  chosen : (at rule : ℕ) (m : Checked Expr) (b : Bool) → HereIf k m → reason m ≡ Some (Some (record { at = at; rule = rule })) → stream_is_sooner first at rule ≡ b
      → HaltsBy (cond b (H.Breaks first 512) (H.Breaks at rule)) (reason (all_rules false true m))
  chosen at rule m true here g s =
      by-reason m (Some at_stream) here (ap (λ r. lesser_reason r (Some (Some at_stream))) g ∙ ap (λ (c : Bool). by_test c) s)
    where
      by_test : Bool → Reason
      by_test c = Some (Some (cond c (record { at = first; rule = 512 }) (record { at = at; rule = rule })))
  chosen at rule m false here g s =
      by-reason m (Some (record { at = at; rule = rule })) here (ap (λ r. lesser_reason r (Some (Some at_stream))) g ∙ ap (λ (c : Bool). by_test c) s)
    where
      by_test : Bool → Reason
      by_test c = Some (Some (cond c (record { at = first; rule = 512 }) (record { at = at; rule = rule })))

  stream-halts : (other : Result (Unit {0}) Halt) (m : Checked Expr) → HereIf k m → Admits other e m → HaltsBy (with_stream first other) (reason (all_rules false true m))
  stream-halts (Ok u) m here a = by-reason m (Some at_stream) here (ap (λ (x : Checked Expr). lesser_reason (reason x) (Some (Some at_stream))) a)
  stream-halts (Err H.Memory) m here a = tt
  stream-halts (Err H.Quiet) m here a = by-reason m (Some at_stream) here (ap (λ r. lesser_reason r (Some (Some at_stream))) a)
  stream-halts (Err (H.Breaks at rule)) m here a = chosen at rule m (stream_is_sooner first at rule) here a refl

  halts : (n s : Bool) (other : Result (Unit {0}) Halt) (m : Checked Expr) (h : Halt) → HereIf k m → Admits other e m → ruled n s first other ≡ Err h → HaltsBy h (reason (all_rules n s m))
  halts true s other m h here a is = let i : H.Breaks first 406 ≡ h = cc in subst (λ (g : Halt). HaltsBy g (reason (all_rules true s m))) i refl
  halts false true other m h here a is = let i : with_stream first other ≡ h = cc in subst (λ (g : Halt). HaltsBy g (reason (all_rules false true m))) i (stream-halts other m here a)
  halts false false other m h here a is = other-halts h m (subst (λ (o : Result (Unit {0}) Halt). Admits o e m) is a)

record Frees (n s : Bool) (other : Result (Unit {0}) Halt) : Type 0 where
  pub names : n ≡ false
  pub stream : s ≡ false
  pub fine : other ≡ Ok tt

frees : (n s : Bool) (first : ℕ) (other : Result (Unit {0}) Halt) (u : Unit {0}) → ruled n s first other ≡ Ok u → Frees n s other
frees true s first other u is = absurd (cc)
frees false true first other u is = absurd (cc)
frees false false first other u is = record { names = refl; stream = refl; fine = is }

pub stands-by : (k : Source) (first : ℕ) (fs : List Function) (e : Expr) (other r : Result (Unit {0}) Halt) (n s : Bool) → r ≡ ruled n s first other → n ≡ names_any e → s ≡ holds_stream fs e
    → MayStand k first fs e other r
stands-by k first fs e other (Ok u) n s is a b =
    let f = frees n s first other u (sym is) in
    record { names = sym a ∙ f.names; stream = sym b ∙ f.stream; fine = f.fine }
stands-by k first fs e other (Err h) n s is a b = λ m here admits.
    subst (λ (x : Bool). HaltsBy h (reason (all_rules k first (stops fs e) e x (holds_stream fs e) m))) a
    (subst (λ (y : Bool). HaltsBy h (reason (all_rules k first (stops fs e) e n y m))) b (halts k first (stops fs e) e n s other m h here admits (sym is)))

pub ruleset standing = (stands-by)

-- The first of the operators that are too wide.
use Rattle.std.proofs.Common.{◌≡◌, ◌≤◌, ◌<◌, ℕ, Bool, true, false, cond, List, [], ◌∷◌, ◌++◌, Option, Some, None, refl, sym, ap, ◌∙◌, subst, arith}
use Rattle.std.specs.Prelude.{Ok, nat_lt, slice_get}
use Rattle.std.proofs.lemmas.Bool.Decides.{nat_tests}
use Rattle.expr_type.specs.declared.halt.Halt.{Halt}
use Rattle.expr_type.specs.declared.halt.Halt.TheVariants as H
use Rattle.expr_type.specs.Answers.{Break, HaltsBy, reason}
use Rattle.expr_type.specs.Breaks.{Breaks, Position}
use Rattle.expr_type.specs.Operands.{too_wide}
use Rattle.expr_type.specs.Operators.{over}
use Rattle.expr_type.specs.Typings.{and_at, at_all, unless}
use Rattle.operand_types.specs.Allowed.{reason_of}

-- of breaks at tokens in a row the first is at the first token
reason-first : (p : Position) (rule : ℕ) (o : Option Breaks) → reason_of (and_at p rule o) ≡ Some (Some (record { at = p.at; rule = rule }))
reason-first p rule None = refl
reason-first p rule (Some b) = refl

pub narrow-none : (i rule w : ℕ) (ats : List ℕ) → w ≤ 128 → at_all i rule (too_wide w ats) ≡ None
narrow-none i rule w [] h = refl
narrow-none i rule w (t ∷ ts) h = by (nat_lt 128 w) (grind (arith, nat_tests))
  where
    by : (b : Bool) → b ≡ false → at_all i rule (cond b (t ∷ ts) []) ≡ None
    by true e = cc
    by false e = refl

pub wide-first : (i rule w : ℕ) (ats : List ℕ) (at : ℕ) → 128 < w → Some at ≡ slice_get ats 0
    → reason_of (at_all i rule (too_wide w ats)) ≡ Some (Some (record { at = at; rule = rule }))
wide-first i rule w [] at h s = cc
wide-first i rule w (t ∷ ts) at h s = by (nat_lt 128 w) (grind (arith, nat_tests))
  where
    by : (b : Bool) → b ≡ true → reason_of (at_all i rule (cond b (t ∷ ts) [])) ≡ Some (Some (record { at = at; rule = rule }))
    by false e = cc
    by true e = let first = reason-first (record { instance = i; at = t }) rule (at_all i rule ts) in cc

pub wide-none : (i rule w : ℕ) (ats : List ℕ) → None ≡ slice_get ats 0 → at_all i rule (too_wide w ats) ≡ None
wide-none i rule w [] s = refl
wide-none i rule w (t ∷ ts) s = cc

pub ruleset allowing = (narrow-none, wide-first, wide-none)

-- where nothing breaks a rule something is whole, and else it stops there
pub unless-none : {A : Type 0} (o : Option Breaks) (a : A) → o ≡ None → unless o a ≡ Ok a
unless-none None a e = refl
unless-none (Some b) a e = cc

pub unless-halts : {A : Type 0} (h : Halt) (o : Option Breaks) (a : A) → HaltsBy h (reason_of o) → HaltsBy h (reason (unless o a))
unless-halts h None a s = s
unless-halts h (Some b) a s = s

pub ruleset allowed = (unless-none, unless-halts)

-- tokens behind others
pub none-append : (i rule : ℕ) (xs ys : List ℕ) → at_all i rule xs ≡ None → at_all i rule (xs ++ ys) ≡ at_all i rule ys
none-append i rule [] ys e = refl
none-append i rule (x ∷ xs) ys e = by (at_all i rule xs) e
  where
    by : (o : Option Breaks) → and_at (record { instance = i; at = x }) rule o ≡ None → at_all i rule (x ∷ (xs ++ ys)) ≡ at_all i rule ys
    by None e = cc
    by (Some b) e = cc

-- what stops at some tokens also stops where others stand behind them
none-stops : (h : Halt) (r : Option (Option Break)) → HaltsBy h None → HaltsBy h r
none-stops H.Memory r s = tt
none-stops (H.Breaks at rule) r s = cc
none-stops H.Quiet r s = cc

pub stops-append : (h : Halt) (i rule : ℕ) (xs ys : List ℕ) → HaltsBy h (reason_of (at_all i rule xs)) → HaltsBy h (reason_of (at_all i rule (xs ++ ys)))
stops-append h i rule [] ys s = none-stops h (reason_of (at_all i rule ys)) s
stops-append h i rule (x ∷ xs) ys s =
    let p : Position = record { instance = i; at = x } in
    subst (λ (r : Option (Option Break)). HaltsBy h r)
    (reason-first p rule (at_all i rule xs) ∙ sym (reason-first p rule (at_all i rule (xs ++ ys)))) s

pub over-none : (i rule at w : ℕ) → w ≤ 128 → at_all i rule (over at w) ≡ None
over-none i rule at w h = by (nat_lt 128 w) (grind (arith, nat_tests))
  where
    by : (b : Bool) → b ≡ false → at_all i rule (cond b (at ∷ []) []) ≡ None
    by true e = cc
    by false e = refl

pub over-first : (i rule at w : ℕ) → 128 < w → reason_of (at_all i rule (over at w)) ≡ Some (Some (record { at = at; rule = rule }))
over-first i rule at w h = by (nat_lt 128 w) (grind (arith, nat_tests))
  where
    by : (b : Bool) → b ≡ true → reason_of (at_all i rule (cond b (at ∷ []) [])) ≡ Some (Some (record { at = at; rule = rule }))
    by true e = refl
    by false e = cc

-- the operand of a power, and the power itself behind it
pub power-none : (i rule w at v : ℕ) (ats : List ℕ) → at_all i rule (too_wide w ats) ≡ None → v ≤ 128
    → at_all i rule (too_wide w ats ++ over at v) ≡ None
power-none i rule w at v ats e h = none-append i rule (too_wide w ats) (over at v) e ∙ over-none i rule at v h

pub power-over : (i rule w at v : ℕ) (ats : List ℕ) → at_all i rule (too_wide w ats) ≡ None → 128 < v
    → reason_of (at_all i rule (too_wide w ats ++ over at v)) ≡ Some (Some (record { at = at; rule = rule }))
power-over i rule w at v ats e h = ap reason_of (none-append i rule (too_wide w ats) (over at v) e) ∙ over-first i rule at v h

pub ruleset powers = (stops-append, power-none, power-over)

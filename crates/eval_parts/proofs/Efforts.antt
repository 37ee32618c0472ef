-- How runs of operands go on, and stop.
use Rattle.std.proofs.Common.{◌≡◌, ℕ, List, [], ◌∷◌, Option, Some, None, refl, ap, sym, ◌∙◌, subst}
use Rattle.sv_types.specs.Surroundings.{Around, Tally, Stop, onward}
use Rattle.sv_types.specs.Meanings.{Operand, values_all}
use Rattle.eval_parts.specs.declared.halt.Halt.{Halt}
use Rattle.eval_parts.specs.declared.halt.Halt.TheVariants as H
use Rattle.eval_parts.specs.Surroundings.{running}
use Rattle.eval_parts.specs.Answers.{Halts}

abbrev onward-by : Option Stop → (Tally → Tally) → Tally → Tally
onward-by o f t = elim o [ None ↦ f t | Some s ↦ t ]

stays-at : (f : Tally → Tally) (t : Tally) (o : Option Stop) (s : Stop) → o ≡ Some s → onward-by o f t ≡ t
stays-at f t None s is = absurd (cc)
stays-at f t (Some x) s is = refl

stays : (f : Tally → Tally) (t : Tally) (s : Stop) → t.stop ≡ Some s → (onward f t).stop ≡ Some s
stays f t s is = ap (λ (u : Tally). u.stop) (stays-at f t t.stop s is) ∙ is

-- a run that stops goes no further
pub halts-onward : (halt : Halt) (f : Tally → Tally) (t : Tally) → Halts halt t → Halts halt (onward f t)
halts-onward H.Memory f t h = h
halts-onward (H.NotHeld n) f t h = stays f t (Stop.NotHeld n) h
halts-onward H.Turns f t h = stays f t Stop.Turns h

-- and one that doesn't goes on
pub goes-on : (f : Tally → Tally) (t : Tally) (left : Option ℕ) → t ≡ running left → onward f t ≡ f (running left)
goes-on f t left is = ap (onward f) is

-- the first of several operands
pub first-on : (p : Operand) (ps : List Operand) (a : Around) (t : Tally) (left : Option ℕ) → p.of.values a t ≡ running left
    → values_all (p ∷ ps) a t ≡ values_all ps a (running left)
first-on p ps a t left is = goes-on (values_all ps a) (p.of.values a t) left is

pub first-halts : (halt : Halt) (p : Operand) (ps : List Operand) (a : Around) (t : Tally) → Halts halt (p.of.values a t) → Halts halt (values_all (p ∷ ps) a t)
first-halts halt p ps a t h = halts-onward halt (values_all ps a) (p.of.values a t) h

pub second-halts : (halt : Halt) (p q : Operand) (ps : List Operand) (a : Around) (t : Tally) (x : Option ℕ) → p.of.values a t ≡ running x
    → Halts halt (q.of.values a (running x)) → Halts halt (values_all (p ∷ q ∷ ps) a t)
second-halts halt p q ps a t x is h = subst (Halts halt) (sym (first-on p (q ∷ ps) a t x is)) (first-halts halt q ps a (running x) h)

pub third-halts : (halt : Halt) (p q r : Operand) (ps : List Operand) (a : Around) (t : Tally) (x y : Option ℕ) → p.of.values a t ≡ running x
    → q.of.values a (running x) ≡ running y → Halts halt (r.of.values a (running y)) → Halts halt (values_all (p ∷ q ∷ r ∷ ps) a t)
third-halts halt p q r ps a t x y is also h = subst (Halts halt) (sym (first-on p (q ∷ r ∷ ps) a t x is)) (second-halts halt q r ps a (running x) y also h)

pub one-on : (p : Operand) (a : Around) (t : Tally) (x : Option ℕ) → p.of.values a t ≡ running x → values_all (p ∷ []) a t ≡ running x
one-on p a t x is = first-on p [] a t x is

pub two-on : (p q : Operand) (a : Around) (t : Tally) (x y : Option ℕ) → p.of.values a t ≡ running x → q.of.values a (running x) ≡ running y
    → values_all (p ∷ q ∷ []) a t ≡ running y
two-on p q a t x y is also = first-on p (q ∷ []) a t x is ∙ one-on q a (running x) y also

pub three-on : (p q r : Operand) (a : Around) (t : Tally) (x y z : Option ℕ) → p.of.values a t ≡ running x → q.of.values a (running x) ≡ running y
    → r.of.values a (running y) ≡ running z → values_all (p ∷ q ∷ r ∷ []) a t ≡ running z
three-on p q r a t x y z is also last = first-on p (q ∷ r ∷ []) a t x is ∙ two-on q r a (running x) y z also last

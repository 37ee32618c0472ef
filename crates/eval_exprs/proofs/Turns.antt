-- From operand to operand.
use Rattle.std.proofs.Common.{◌≡◌, ℕ, zero, suc, ◌+◌, ◌<◌, List, [], ◌∷◌, ◌++◌, drop, length, get_or, Option, ap, sym, ◌∙◌, subst, append_assoc, append-nil}
use Rattle.std.proofs.Math.Seq.{drop-cons}
use Rattle.std.proofs.Math.Numerals.{add-one}
use Rattle.b4_core.specs.declared.bit.Bit4.{Bit4}
use Rattle.sv_types.specs.declared.expression.Expr.{Expr}
use Rattle.sv_types.specs.Surroundings.{Around, Tally}
use Rattle.sv_types.specs.Meanings.{Meaning}
use Rattle.sv_types.specs.Expressions.{meaning}
use Rattle.eval_parts.specs.declared.halt.Halt.{Halt}
use Rattle.eval_parts.specs.Surroundings.{running}
use Rattle.eval_parts.specs.Answers.{Halts}
use Rattle.eval_parts.specs.Insides.{Runs}
use Rattle.eval_parts.proofs.Efforts.{goes-on, halts-onward}
use Rattle.eval_forms.specs.declared.asked.Ask.{Ask}
use Rattle.eval_forms.specs.declared.asked.Ask.TheVariants as A
use Rattle.eval_forms.specs.Asked.{Asked, bits_of, all_bits, effort_asked, values_asked}
use Rattle.eval_forms.specs.Repeats.{IsBits, IsAgainOf, AllAgainOf, OnlyFirstAgain, IsReady, AllReady}

-- What is known of the operands behind the i-th: before the first one that only it is asked again, and later that what is
-- asked again ran to its end.
abbrev pub StillReady : ℕ → List Asked → Around → Option ℕ → Option ℕ → Type 0
StillReady zero qs a start left = OnlyFirstAgain qs × (left ≡ start)
StillReady (suc i) qs a start left = AllReady qs a start

bits-ready : (k : Ask) (m : Meaning) (a : Around) (start : Option ℕ) → IsBits k → IsReady k m a start
bits-ready (A.Bits w s) m a start h = tt
bits-ready (A.Again w s) m a start h = absurd h
bits-ready A.Place m a start h = absurd h

pub ready-here : (i : ℕ) (q : Asked) (qs : List Asked) (a : Around) (start left : Option ℕ) → StillReady i (q ∷ qs) a start left → IsReady q.ask (meaning q.of) a start
ready-here zero q qs a start left r = bits-ready q.ask (meaning q.of) a start r.0.0
ready-here (suc i) q qs a start left r = r.0

again-ready : (k : Ask) (e x : Expr) (a : Around) (start : Option ℕ) → IsAgainOf k e x → Runs (meaning x) a start → IsReady k (meaning e) a start
again-ready (A.Bits w s) e x a start h runs = tt
again-ready (A.Again w s) e x a start h runs = subst (λ y. Runs (meaning y) a start) (sym h) runs
again-ready A.Place e x a start h runs = absurd h

all-ready : (x : Expr) (qs : List Asked) (a : Around) (start : Option ℕ) → AllAgainOf x qs → Runs (meaning x) a start → AllReady qs a start
all-ready x [] a start h runs = tt
all-ready x (q ∷ qs) a start h runs = (again-ready q.ask q.of x a start h.0 runs, all-ready x qs a start h.1 runs)

first-runs : (k : Ask) (x : Expr) (a : Around) (start new : Option ℕ) → IsBits k → effort_asked x k a (running start) ≡ running new → Runs (meaning x) a start
first-runs (A.Bits w s) x a start new h is = record { left = new; is = is }
first-runs (A.Again w s) x a start new h is = absurd h
first-runs A.Place x a start new h is = absurd h

later-ready : (i : ℕ) (q : Asked) (qs : List Asked) (a : Around) (start left new : Option ℕ) → StillReady i (q ∷ qs) a start left → effort_asked q.of q.ask a (running left) ≡ running new → AllReady qs a start
later-ready zero q qs a start left new r is =
    all-ready q.of qs a start r.0.1 (first-runs q.ask q.of a start new r.0.0 (ap (λ l. effort_asked q.of q.ask a (running l)) (sym r.1) ∙ is))
later-ready (suc i) q qs a start left new r is = r.1

pub ready-next : (i : ℕ) (q : Asked) (qs : List Asked) (a : Around) (start left new : Option ℕ) → StillReady i (q ∷ qs) a start left → effort_asked q.of q.ask a (running left) ≡ running new → StillReady (i + 1) qs a start new
ready-next i q qs a start left new r is = subst (λ k. StillReady k qs a start new) (sym (add-one i)) (later-ready i q qs a start left new r is)

pub made-next : (q : Asked) (qs : List Asked) (a : Around) (made new all : List (List Bit4)) (v : List Bit4) → v ≡ bits_of q a → new ≡ made ++ v ∷ [] → made ++ all_bits (q ∷ qs) a ≡ all → new ++ all_bits qs a ≡ all
made-next q qs a made new all v is more before =
    ap (λ m. m ++ all_bits qs a) more ∙ append_assoc made (v ∷ []) (all_bits qs a) ∙ ap (λ u. made ++ (u ∷ all_bits qs a)) is ∙ before

pub runs-next : (q : Asked) (qs : List Asked) (a : Around) (old new : Option ℕ) (all : Tally) → effort_asked q.of q.ask a (running old) ≡ running new → values_asked (q ∷ qs) a (running old) ≡ all → values_asked qs a (running new) ≡ all
runs-next q qs a old new all is before = sym (goes-on (values_asked qs a) (effort_asked q.of q.ask a (running old)) new is) ∙ before

pub halts-next : (h : Halt) (q : Asked) (qs : List Asked) (a : Around) (old : Option ℕ) (all : Tally) → Halts h (effort_asked q.of q.ask a (running old)) → values_asked (q ∷ qs) a (running old) ≡ all → Halts h all
halts-next h q qs a old all halts before = subst (Halts h) before (halts-onward h (values_asked qs a) (effort_asked q.of q.ask a (running old)) halts)

pub made-all : (a : Around) (made all : List (List Bit4)) → made ++ all_bits [] a ≡ all → made ≡ all
made-all a made all is = sym (append-nil made) ∙ is

pub at-front : {A : Type 0} (xs : List A) (i : ℕ) (x : A) → i < length xs → x ≡ get_or xs i x → drop i xs ≡ x ∷ drop (i + 1) xs
at-front xs i x h is = drop-cons xs i x h ∙ ap (λ y. y ∷ drop (suc i) xs) (sym is) ∙ ap (λ k. x ∷ drop k xs) (sym (add-one i))

-- The lesser of two tokens, and the rules on assignments.
use Rattle.std.proofs.Common.{◌≡◌, inl, inr, ℕ, min, true, false, List, ◌++◌, Option, Some, None, sym, subst, arith}
use Rattle.std.proofs.lemmas.Bool.{cases_lt}
use Rattle.row_machine.specs.Valuation.{Member}
use Rattle.row_machine.proofs.Members.{append-member, member-front, member-back}
use Rattle.sv_types.specs.declared.design.Design.{Design}
use Rattle.sv_types.specs.declared.design.Process.{Process}
use Rattle.design_breaks.specs.Actions.{actions}
use Rattle.design_breaks.specs.Memories.{is_edged}
use Rattle.design_breaks.specs.Breaks as B
use Rattle.least_breaks.specs.Least.{IsLeastToken, IsLeastTokenAt}
use Rattle.action_breaks.specs.declared.misuse.Misuse.{Misuse}
use Rattle.action_breaks.specs.Misuse.{blocking_in, passed_in, IsMisuse, IsWrong}

pub lesser-none : (xs ys : List ℕ) (b : Option ℕ) → IsLeastToken xs None → IsLeastToken ys b → IsLeastToken (xs ++ ys) b
lesser-none xs ys None h g = λ t m. elim (append-member xs ys t m) [ inl x ↦ h t x | inr y ↦ g t y ]
lesser-none xs ys (Some b) h g = record {
  there = member-back xs ys b g.there;
  least = λ t m. elim (append-member xs ys t m) [ inl x ↦ absurd (h t x) | inr y ↦ g.least t y ];
}

pub lesser-first : (xs ys : List ℕ) (a : ℕ) → IsLeastTokenAt xs a → IsLeastToken ys None → IsLeastTokenAt (xs ++ ys) a
lesser-first xs ys a h g = record {
  there = member-front xs ys a h.there;
  least = λ t m. elim (append-member xs ys t m) [ inl x ↦ h.least t x | inr y ↦ absurd (g t y) ];
}

pub lesser-both : (xs ys : List ℕ) (a b r : ℕ) → r ≡ min a b → IsLeastTokenAt xs a → IsLeastTokenAt ys b → IsLeastTokenAt (xs ++ ys) r
lesser-both xs ys a b r is h g = record {
  there = elim (cases_lt b a) [
    | inl low ↦ (let e : b ≡ r = omega (arith, is, low) in subst (Member (xs ++ ys)) e (member-back xs ys b g.there))
    | inr high ↦ (let e : a ≡ r = omega (arith, is, high) in subst (Member (xs ++ ys)) e (member-front xs ys a h.there))
  ];
  least = λ t m. elim (append-member xs ys t m) [
    | inl x ↦ (let le = h.least t x in omega (arith, le, is))
    | inr y ↦ (let le = g.least t y in omega (arith, le, is))
  ];
}

pub wrong-edged : (d : Design) (p : Process) (m : Misuse) (r : Option ℕ) → is_edged p.kind ≡ true → IsMisuse d p.body m
    → ((xs ys : List ℕ) → IsLeastToken xs m.blocking → IsLeastToken ys m.passed → IsLeastToken (xs ++ ys) r) → IsWrong d p (record { at_once = r; deferred = m.local_later })
wrong-edged d p m r edged is both = record {
  at_once = subst (λ b. IsLeastToken (B.only_if b (blocking_in d (actions p.body).assigns ++ passed_in d ((actions p.body).passes (B.formals d)))) r) (sym edged)
      (both (blocking_in d (actions p.body).assigns) (passed_in d ((actions p.body).passes (B.formals d))) is.blocking is.passed);
  deferred = subst (λ b. IsLeastToken (B.deferred d b p.body) m.local_later) (sym edged) is.local_later;
}

pub wrong-other : (d : Design) (p : Process) (m : Misuse) → is_edged p.kind ≡ false → IsMisuse d p.body m → IsWrong d p (record { at_once = None; deferred = m.later })
wrong-other d p m edged is = record {
  at_once = subst (λ b. IsLeastToken (B.only_if b (blocking_in d (actions p.body).assigns ++ passed_in d ((actions p.body).passes (B.formals d)))) None) (sym edged) (λ t x. x);
  deferred = subst (λ b. IsLeastToken (B.deferred d b p.body) m.later) (sym edged) is.later;
}

pub ruleset lesser_laws = (lesser-none)

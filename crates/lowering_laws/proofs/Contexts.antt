-- What a typed expression has as its width and sign, and what the target's contexts are then.
use Rattle.std.proofs.Common.{◌≡◌, ℕ, ◌+◌, max, Bool, true, false, cond, length, refl, arith, sym, ◌∙◌}
use Rattle.std.specs.Prelude.{◌==◌, ◌&&◌}
use Rattle.std.proofs.lemmas.Bool.Decides.{nat_tests}
use Rattle.row_machine.specs.Valuation.{Valuation}
use Rattle.sv_types.specs.Layouts.{Layout}
use Rattle.sv_types.specs.Surroundings.{Around}
use Rattle.sv_types.specs.Meanings as S
use Rattle.sv_types.specs.Meanings.{misfit, without_bits, same_sign}
use Rattle.v_meaning.specs.Scopes.{Scope}
use Rattle.v_meaning.specs.Values as T
use Rattle.lowering_laws.specs.Same.{Same, SameAlone}

-- a type of the width and sign that a rule gives
pub record Typed (of : Layout) (w : ℕ) (s : Bool) : Type 0 where
  pub width : length of.two_state ≡ w
  pub sign : of.signed ≡ s

same-sign : (b c : Bool) → same_sign b c ≡ true → b ≡ c
same-sign true true h = refl
same-sign true false h = sym h
same-sign false true h = h
same-sign false false h = refl

typed-by : (of : Layout) (w : ℕ) (s : Bool) (p q : Bool) → (length of.two_state == w) ≡ p → same_sign of.signed s ≡ q → cond {A = ℕ} (p && q) 0 1 ≡ 0 → Typed of w s
typed-by of w s true true is sign h = record { width = grind (arith, nat_tests); sign = same-sign of.signed s sign }
typed-by of w s true false is sign h = absurd (omega arith)
typed-by of w s false q is sign h = absurd (omega arith)

pub typed : (of : Layout) (w : ℕ) (s : Bool) (k : ℕ) → without_bits of + (misfit of w s + k) ≡ 0 → Typed of w s
typed of w s k h = typed-by of w s (length of.two_state == w) (same_sign of.signed s) refl refl (omega arith)

-- the same of an operator's value, which is four-state
pub typed-four : (of : Layout) (w : ℕ) (s : Bool) (k j : ℕ) → (without_bits of + (misfit of w s + k)) + j ≡ 0 → Typed of w s
typed-four of w s k j h = typed of w s k (omega arith)

-- one that is lowered alone is as wide as its source
pub alone-width : (e : S.Meaning) (a : Around) (m : T.Meaning) (sc : Scope) (v : Valuation) → SameAlone e a m sc v → m.width sc ≡ S.wide e
alone-width e a m sc v h = (let l = h.least in let u = h.most in omega arith)

-- and has its value alone
pub alone-value : (e : S.Meaning) (a : Around) (m : T.Meaning) (sc : Scope) (v : Valuation) → SameAlone e a m sc v → T.alone m sc v ≡ S.alone e a
alone-value e a m sc v h = (λ i. m.value (alone-width e a m sc v h i) (h.sign i) sc v) ∙ h.value

-- two that are lowered at the larger of their widths
pub larger-width : (l r : S.Meaning) (s : Bool) (a : Around) (m n : T.Meaning) (sc : Scope) (v : Valuation)
    → Same l (max (S.wide l) (S.wide r)) s a m sc v → Same r (max (S.wide l) (S.wide r)) s a n sc v → T.larger m n sc ≡ max (S.wide l) (S.wide r)
larger-width l r s a m n sc v h g = (let p = h.least in let q = h.most in let x = g.least in let y = g.most in omega arith)

-- What is answered of breaks is the token and the rule of the first.
use Rattle.std.proofs.Common.{◌≡◌, ℕ, Option, Some, None, refl, ap, ◌∙◌}
use Rattle.expr_type.specs.Answers as A
use Rattle.expr_type.specs.Answers.{Break, first_break}
use Rattle.expr_type.specs.Breaks as B
use Rattle.expr_type.specs.Breaks.{Position, Breaks, At, And, Behind, Quiet, Key, first}
use Rattle.least_laws.specs.Laws.{break_from, break_of}

next-told : (at : ℕ) (x y : Option Key) → A.or_next (break_from at x) (break_from at y) ≡ break_from at (B.or_next x y)
next-told at None y = refl
next-told at (Some k) y = refl

behind-told : (at : ℕ) (p : Position) (x : Option Key) → break_from p.at x ≡ break_from at (B.behind p x)
behind-told at p None = refl
behind-told at p (Some k) = refl

from-token : (b : Breaks) (at : ℕ) → first_break b ≡ break_from at (first b)
from-token (At p rule) at = refl
from-token (And a b) at = ap (λ (x : Option Break). A.or_next x (first_break b)) (from-token a at) ∙ ap (A.or_next (break_from at (first a))) (from-token b at) ∙ next-told at (first a) (first b)
from-token (Behind p b) at = from-token b p.at ∙ behind-told at p (first b)
from-token Quiet at = refl

pub told : (b : Breaks) → first_break b ≡ break_of (first b)
told b = from-token b 0

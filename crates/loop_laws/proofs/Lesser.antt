-- The lesser one of tokens.
use Rattle.std.proofs.Common.{◌≡◌, ℕ, Option, Some, None, refl, ap, arith}
use Rattle.std.specs.Prelude.{min}
use Rattle.design_breaks.specs.Indices.{lesser}

pub lesser-none : (a : Option ℕ) → lesser a None ≡ a
lesser-none None = refl
lesser-none (Some x) = refl

min-assoc : (x y z : ℕ) → min (min x y) z ≡ min x (min y z)
min-assoc x y z = omega arith

pub lesser-assoc : (a b c : Option ℕ) → lesser (lesser a b) c ≡ lesser a (lesser b c)
lesser-assoc None b c = refl
lesser-assoc (Some x) None c = refl
lesser-assoc (Some x) (Some y) None = refl
lesser-assoc (Some x) (Some y) (Some z) = ap (λ (n : ℕ). Some n) (min-assoc x y z)

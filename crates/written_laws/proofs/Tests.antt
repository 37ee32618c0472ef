-- Tests of lists and choices.
use Rattle.std.proofs.Common.{◌≡◌, Bool, true, false, ◌&&◌, refl, sym, subst}
use Rattle.std.specs.Prelude.{if◌then◌else◌}

pub both : {a b : Bool} → a ≡ true → b ≡ true → (a && b) ≡ true
both {a} {b} e f = subst (λ (x : Bool). (x && b) ≡ true) (sym e) f

pub left-of : (a b : Bool) → (a && b) ≡ true → a ≡ true
left-of true b e = refl
left-of false b e = e

pub right-of : (a b : Bool) → (a && b) ≡ true → b ≡ true
right-of true b e = e
right-of false b e = absurd (cc)

-- what holds of both choices, where the test says which one it is
pub by-test : {A : Type 0} (w : A → Bool) (b : Bool) (x y : A) → (b ≡ true → w x ≡ true) → (b ≡ false → w y ≡ true) → w (if b then x else y) ≡ true
by-test w true x y f g = f refl
by-test w false x y f g = g refl

pub by-either : {A : Type 0} (w : A → Bool) (b : Bool) (x y : A) → w x ≡ true → w y ≡ true → w (if b then x else y) ≡ true
by-either w b x y f g = by-test w b x y (λ e. f) (λ e. g)

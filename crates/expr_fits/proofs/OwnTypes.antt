-- The types that expressions have.
use Rattle.std.proofs.Common.{◌≡◌, ℕ, zero, suc, ◌<◌, ◌≤◌, Bool, true, false, ◌&&◌, ◌==◌, cond, not, ℤ, List, [], ◌∷◌, ◌++◌, length, replicate, refl, arith, ap, sym, ◌∙◌, subst}
use Rattle.std.specs.Prelude.{nat_lt, nat_le}
use Rattle.std.specs.List.{list_any}
use Rattle.std.proofs.lemmas.Bool.Decides.{nat_tests}
use Rattle.sv_types.specs.declared.types.SvType.{SvType}
use Rattle.sv_types.specs.declared.types.SvType.TheVariants.{Scalar, PackedArray}
use Rattle.sv_types.specs.declared.expression.Expr.{Expr}
use Rattle.sv_types.specs.Layouts.{Layout, layout, width_of, count_of, stacked, repeated}
use Rattle.sv_types.specs.Surroundings.{Parameter}
use Rattle.sv_types.specs.Meanings.{wide, misfit, without_bits, same_sign}
use Rattle.sv_types.specs.Expressions.{meaning}
use Rattle.sv_types.proofs.Lengths.{layout-Scalar, layout-PackedArray}
use Rattle.eval_parts.specs.Limits.{Fits}
use Rattle.eval_parts.proofs.Lists.{own-narrow}
use Rattle.eval_parts.proofs.TypeKinds.{wide-is}
use Rattle.expr_fits.specs.Results.{own_of, HasBits, IsResult, FourIf}

capped : (b : Bool) (n : ℕ) → nat_le n 4194304 ≡ b → n ≤ 4194304 → cond b n 0 ≡ n
capped true n is h = refl
capped false n is h = absurd (grind (arith, nat_tests))

pub own-then : (e : Expr) → width_of e.of ≤ 4194304 → own_of e ≡ width_of e.of
unfolding own_of
own-then e h = capped (nat_le (width_of e.of) 4194304) (width_of e.of) refl h

too-wide : (b : Bool) (n : ℕ) → nat_le n 4194304 ≡ b → (n ≤ 4194304 → ⊥) → cond b n 0 ≡ 0
too-wide true n is h = absurd (h (grind (arith, nat_tests)))
too-wide false n is h = refl

pub own-else : (e : Expr) → (width_of e.of ≤ 4194304 → ⊥) → own_of e ≡ 0
unfolding own_of
own-else e h = too-wide (nat_le (width_of e.of) 4194304) (width_of e.of) refl h

pub fits-own : (e : Expr) (fs : ℕ → List Parameter) (w : ℕ) → Fits (meaning e) fs w → own_of e ≡ wide (meaning e)
fits-own e fs w f = own-then e (own-narrow e fs w f) ∙ sym (wide-is e)

some-bits : (b : Bool) (n : ℕ) → nat_lt 0 n ≡ b → 0 < n → cond {A = ℕ} b 0 1 ≡ 0
some-bits true n is h = refl
some-bits false n is h = absurd (grind (arith, nat_tests))

pub made-bits : (t : SvType) → width_of t ≤ 4194304 → 0 < width_of t → HasBits (layout t)
made-bits t narrow some = record { some = some-bits (nat_lt 0 (width_of t)) (width_of t) refl some; narrow = narrow }

some-by : (b : Bool) (n : ℕ) → nat_lt 0 n ≡ b → cond {A = ℕ} b 0 1 ≡ 0 → 0 < n
some-by true n is h = grind (arith, nat_tests)
some-by false n is h = absurd (omega arith)

pub has-some : (of : Layout) → HasBits of → 0 < length of.two_state
has-some of h = some-by (nat_lt 0 (length of.two_state)) (length of.two_state) refl h.some

fit-by : (b : Bool) (n m : ℕ) → (n == m) ≡ b → n ≡ m → cond {A = ℕ} (b && true) 0 1 ≡ 0
fit-by true n m is h = refl
fit-by false n m is h = absurd (grind (arith, nat_tests))

sign-same : (s : Bool) → same_sign s s ≡ true
sign-same true = refl
sign-same false = refl

pub fitting : (of : Layout) (n : ℕ) → length of.two_state ≡ n → misfit of n of.signed ≡ 0
fitting of n h = ap (λ b. cond {A = ℕ} ((length of.two_state == n) && b) 0 1) (sign-same of.signed) ∙ fit-by (length of.two_state == n) (length of.two_state) n refl h

pub made-result : (t : SvType) (n : ℕ) (s : Bool) → width_of t ≤ 4194304 → 0 < width_of t → width_of t ≡ n → (layout t).signed ≡ s → IsResult (layout t) n s
made-result t n s narrow some is sign = record { bits = made-bits t narrow some; same = subst (λ b. misfit (layout t) n b ≡ 0) sign (fitting (layout t) n is) }

pub four-Scalar : (four s : Bool) → FourIf four (layout (Scalar four s))
four-Scalar true s = ap (λ (l : Layout). cond {A = ℕ} (list_any (λ b. b) l.two_state) 1 0) (layout-Scalar true s)
four-Scalar false s = tt

none-by : (b : Bool) → cond {A = ℕ} b 1 0 ≡ 0 → b ≡ false
none-by true h = absurd (omega arith)
none-by false h = refl

any-append : (xs ys : List Bool) → list_any (λ b. b) xs ≡ false → list_any (λ b. b) ys ≡ false → list_any (λ b. b) (xs ++ ys) ≡ false
any-append [] ys h k = k
any-append (true ∷ xs) ys h k = h
any-append (false ∷ xs) ys h k = any-append xs ys h k

any-stacked : (n : ℕ) (xs : List Bool) → list_any (λ b. b) xs ≡ false → list_any (λ b. b) (stacked (replicate n xs)) ≡ false
any-stacked zero xs h = refl
any-stacked (suc n) xs h = any-append (stacked (replicate n xs)) xs (any-stacked n xs h) h

any-repeated : (n : ℕ) (xs : List Bool) → list_any (λ b. b) xs ≡ false → list_any (λ b. b) (repeated n xs) ≡ false
unfolding repeated
any-repeated n xs h = any-stacked n xs h

pub four-PackedArray : (r : Bool) (left right : ℤ) (s : Bool) (item : SvType) → FourIf r (layout item) → FourIf r (layout (PackedArray left right s item))
four-PackedArray false left right s item h = tt
four-PackedArray true left right s item h =
    ap (λ (l : Layout). cond {A = ℕ} (list_any (λ b. b) l.two_state) 1 0) (layout-PackedArray left right s item)
    ∙ ap (λ b. cond {A = ℕ} b 1 0) (any-repeated (count_of left right) (layout item).two_state (none-by (list_any (λ b. b) (layout item).two_state) h))

pub ruleset caps = (own-then, own-else)

pub ruleset bits = (made-bits)

pub ruleset results = (made-result)

pub ruleset fours = (four-Scalar, four-PackedArray)

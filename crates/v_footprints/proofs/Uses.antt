-- Valuations that hold the same in the signals of uses.
use Rattle.std.proofs.Common.{◌≡◌, ℕ, zero, suc, ◌==◌, Bool, true, false, not, ◌||◌, List, [], ◌∷◌, ◌++◌, refl, sym, ap, ◌∙◌, true≢false, arith}
use Rattle.std.specs.Prelude.{filter, cond}
use Rattle.std.proofs.lemmas.Bool.Decides.{nat_tests}
use Rattle.row_machine.specs.Valuation.{Valuation, Changes, put, changed}
use Rattle.row_machine.specs.Places.{bits_from, vector_at}
use Rattle.v_meaning.specs.Scopes.{Use, is_signal}
use Rattle.v_footprints.specs.Footprints.{uses, Alike}

pub uses-both : (xs ys : List Use) (n : ℕ) → uses (xs ++ ys) n ≡ (uses xs n || uses ys n)
uses-both [] ys n = refl
uses-both (x ∷ xs) ys n = ap (λ b. (x.number == n) || b) (uses-both xs ys n) ∙ assoc (x.number == n) (uses xs n) (uses ys n)
  where
    assoc : (a b c : Bool) → (a || (b || c)) ≡ ((a || b) || c)
    assoc true b c = refl
    assoc false b c = refl

or-left : (a b c : Bool) → (a || b) ≡ true → (a || (b || c)) ≡ true
or-left true b c h = refl
or-left false true c h = refl
or-left false false c h = absurd (true≢false (sym h))

or-right : (a b c : Bool) → (a || c) ≡ true → (a || (b || c)) ≡ true
or-right true b c h = refl
or-right false true c h = refl
or-right false false c h = h

pub alike-left : (xs ys : List Use) (v w : Valuation) → Alike (xs ++ ys) v w → Alike xs v w
alike-left xs ys v w h = record {
  same = λ q e. h.same q (ap (λ b. not (is_signal q.signal) || b) (uses-both xs ys q.signal) ∙ or-left (not (is_signal q.signal)) (uses xs q.signal) (uses ys q.signal) e);
}

pub alike-right : (xs ys : List Use) (v w : Valuation) → Alike (xs ++ ys) v w → Alike ys v w
alike-right xs ys v w h = record {
  same = λ q e. h.same q (ap (λ b. not (is_signal q.signal) || b) (uses-both xs ys q.signal) ∙ or-right (not (is_signal q.signal)) (uses xs q.signal) (uses ys q.signal) e);
}

pub alike-first : (x : Use) (xs : List Use) (v w : Valuation) → Alike (x ∷ xs) v w → Alike (x ∷ []) v w
alike-first x xs v w h = alike-left (x ∷ []) xs v w h

pub alike-rest : (x : Use) (xs : List Use) (v w : Valuation) → Alike (x ∷ xs) v w → Alike xs v w
alike-rest x xs v w h = alike-right (x ∷ []) xs v w h

-- a signal that is used
used-here : (n : ℕ) (s : Bool) → (s || ((n == n) || false)) ≡ true
used-here n true = refl
used-here n false = grind (arith, nat_tests)

pub alike-at : (u : Use) (v w : Valuation) → Alike (u ∷ []) v w → (k : ℕ) → v (record { signal = u.number; bit = k }) ≡ w (record { signal = u.number; bit = k })
alike-at u v w h k = h.same (record { signal = u.number; bit = k }) (used-here u.number (not (is_signal u.number)))

bits-alike : (v w : Valuation) (n : ℕ) → ((k : ℕ) → v (record { signal = n; bit = k }) ≡ w (record { signal = n; bit = k })) → (k width : ℕ) → bits_from v n k width ≡ bits_from w n k width
bits-alike v w n h k zero = refl
bits-alike v w n h k (suc width) = λ i. h k i ∷ bits-alike v w n h (suc k) width i

pub vector-alike : (v w : Valuation) (n : ℕ) → ((k : ℕ) → v (record { signal = n; bit = k }) ≡ w (record { signal = n; bit = k })) → (width : ℕ) → vector_at v n width ≡ vector_at w n width
vector-alike v w n h width = bits-alike v w n h 0 width

-- behind the same writes
pub alike-now : (us : List Use) (c : Changes) (v w : Valuation) → Alike us v w → Alike us (put c v) (put c w)
alike-now us c v w h = record { same = λ q e. ap (changed (c q)) (h.same q e) }

-- of signals alone
signal-left : (us : List Use) (n : ℕ) → is_signal n ≡ true → uses us n ≡ true → uses (filter (λ (u : Use). is_signal u.number) us) n ≡ true
signal-left [] n s e = e
signal-left (u ∷ us) n s e = by (λ h. signal-left us n s h) (is_signal u.number) refl (u.number == n) refl
  where
    rest : List Use
    rest = filter (λ (x : Use). is_signal x.number) us

    there : (b c : Bool) → b ≡ true → (b || c) ≡ true
    there true c h = refl
    there false c h = absurd (true≢false (sym h))

    later : (b c : Bool) → b ≡ false → (b || c) ≡ true → c ≡ true
    later true c f h = absurd (true≢false f)
    later false c f h = h

    more : (b c : Bool) → c ≡ true → (b || c) ≡ true
    more true c h = refl
    more false c h = h

    number-is : (a b : ℕ) → (a == b) ≡ true → a ≡ b
    number-is a b h = grind (arith, nat_tests)

    by : (uses us n ≡ true → uses rest n ≡ true) → (b : Bool) → is_signal u.number ≡ b → (c : Bool) → (u.number == n) ≡ c → uses (cond b (u ∷ rest) rest) n ≡ true
    by go true is true f = there (u.number == n) (uses rest n) f
    by go true is false f = more (u.number == n) (uses rest n) (go (later (u.number == n) (uses us n) f e))
    by go false is true f = absurd (true≢false (sym s ∙ ap is_signal (sym (number-is u.number n f)) ∙ is))
    by go false is false f = go (later (u.number == n) (uses us n) f e)

pub alike-signals : (us : List Use) (v w : Valuation) → Alike (filter (λ (u : Use). is_signal u.number) us) v w → Alike us v w
alike-signals us v w h = record { same = λ q e. h.same q (kept q.signal (is_signal q.signal) refl e) }
  where
    kept : (n : ℕ) (s : Bool) → is_signal n ≡ s → (not s || uses us n) ≡ true → (not s || uses (filter (λ (u : Use). is_signal u.number) us) n) ≡ true
    kept n true is e = signal-left us n is e
    kept n false is e = refl

-- Tokens that stand in no attribute.
use Rattle.std.proofs.Common.{◌≡◌, ◌+◌, ◌≤◌, ℕ, zero, suc, nat_lt, Bool, true, false, not, ◌&&◌, List, [], ◌∷◌, ◌++◌, length, reverse, codes, append_assoc, refl, sym, ap, subst, ◌∙◌, arith}
use Rattle.std.specs.Prelude.{if◌then◌else◌}
use Rattle.std.proofs.lemmas.List.{reverse-append, append-nil}
use Rattle.sv_source.specs.declared.token.Token.{Token}
use Rattle.sv_build.specs.Attributes.{is_mark, closes, closings, next_is_parenthesis, opens, kept}

-- from the end on, the last token comes first
pub turned : (ts : List Token) (t : Token) → reverse (ts ++ t ∷ []) ≡ t ∷ reverse ts
turned ts t = reverse-append ts (t ∷ [])

some-behind : (b : Bool) (n : ℕ) → (if b then suc n else n) ≡ 0 → n ≡ 0
some-behind true n e = absurd (omega (arith, e))
some-behind false n e = e

never : (a b : Bool) → (a && b && false) ≡ false
never true true = refl
never true false = refl
never false true = refl
never false false = refl

opens-none : (a b : Bool) (n : ℕ) → n ≡ 0 → (a && b && nat_lt 0 n) ≡ false
opens-none a b zero e = never a b
opens-none a b (suc n) e = absurd (omega (arith, e))

opens-some : (a b : Bool) (n : ℕ) → (a && b && nat_lt 0 n) ≡ true → 1 ≤ n
opens-some a b zero e = (let f = never a b in cc)
opens-some a b (suc n) e = omega arith

-- where no token closes an attribute, all are kept
pub none-dropped : (ts : List Token) → closings ts ≡ 0 → kept false ts ≡ ts
none-dropped [] e = refl
none-dropped (t ∷ ts) e =
    let none : closings ts ≡ 0 = some-behind (closes t) (closings ts) e in
    let closed : opens t ts ≡ false = opens-none (is_mark (codes "(*") t) (not (next_is_parenthesis ts)) (closings ts) none in
    ap (λ (b : Bool). if b then kept true ts else t ∷ kept false ts) closed ∙ ap (λ (us : List Token). t ∷ us) (none-dropped ts none)

-- a last token that closes none is kept, so some token is
abbrev SomeKept : Bool → List Token → Type 0
SomeKept inside ts = 1 ≤ length (kept inside ts)

kept-behind : (b : Bool) (ts : List Token) → SomeKept false ts → SomeKept true ts → SomeKept (not b) ts
kept-behind true ts f t = f
kept-behind false ts f t = t

kept-open : (b : Bool) (t : Token) (ts : List Token) → (b ≡ true → SomeKept true ts) → 1 ≤ length (if b then kept true ts else t ∷ kept false ts)
kept-open true t ts h = h refl
kept-open false t ts h = omega arith

less-behind : (b : Bool) (n : ℕ) → b ≡ false → 1 ≤ (if b then suc n else n) → 1 ≤ n
less-behind true n e h = cc
less-behind false n e h = h

none-left : (b : Bool) → b ≡ false → 1 ≤ (if b then 1 else 0) → ⊥
none-left true e h = cc
none-left false e h = omega arith

some-kept : (xs : List Token) (e : Token) → closes e ≡ false → SomeKept false (xs ++ e ∷ []) × (1 ≤ closings (xs ++ e ∷ []) → SomeKept true (xs ++ e ∷ []))
some-kept [] e c =
    let closed : opens e [] ≡ false = opens-none (is_mark (codes "(*") e) true 0 refl in
    (subst (λ (b : Bool). 1 ≤ length (if b then kept true [] else e ∷ kept false [])) (sym closed) (omega arith), λ h. absurd (none-left (closes e) c h))
some-kept (x ∷ xs) e c =
    let rest : List Token = xs ++ e ∷ [] in
    let behind = some-kept xs e c in
    let by_open = kept-open (opens x rest) x rest (λ o. behind.1 (opens-some (is_mark (codes "(*") x) (not (next_is_parenthesis rest)) (closings rest) o)) in
    (by_open, λ h. by_close (closes x) refl rest behind h)
  where
    by_close : (b : Bool) → closes x ≡ b → (ts : List Token) → SomeKept false ts × (1 ≤ closings ts → SomeKept true ts) → 1 ≤ (if closes x then suc (closings ts) else closings ts) → SomeKept true (x ∷ ts)
    by_close true f ts behind h = subst (λ (b : Bool). SomeKept (not b) ts) (sym f) behind.0
    by_close false f ts behind h = subst (λ (b : Bool). SomeKept (not b) ts) (sym f) (behind.1 (less-behind (closes x) (closings ts) f h))

pub end-kept : (xs : List Token) (e : Token) → closes e ≡ false → 1 ≤ length (kept false (xs ++ e ∷ []))
end-kept xs e c = (some-kept xs e c).0

-- a step of turning tokens, and of keeping them
pub turn-step : (old new back after whole : List Token) (t : Token) → old ≡ new ++ t ∷ [] → after ≡ back ++ t ∷ [] → old ++ reverse back ≡ whole → new ++ reverse after ≡ whole
turn-step old new back after whole t e f g =
    ap (λ (ts : List Token). new ++ ts) (ap reverse f ∙ turned back t)
    ∙ sym (append_assoc new (t ∷ []) (reverse back))
    ∙ ap (λ (ts : List Token). ts ++ reverse back) (sym e)
    ∙ g

pub turn-done : (old back whole : List Token) → old ≡ [] → old ++ reverse back ≡ whole → reverse back ≡ whole
turn-done old back whole e g = ap (λ (ts : List Token). ts ++ reverse back) (sym e) ∙ g

pub left-step : (old new : List Token) (t : Token) (n : ℕ) → old ≡ new ++ t ∷ [] → n ≡ closings (reverse old) → n ≡ closings (t ∷ reverse new)
left-step old new t n e f = f ∙ ap (λ (ts : List Token). closings (reverse ts)) e ∙ ap closings (turned new t)

front : (inside : Bool) (old new out whole : List Token) (t : Token) → old ≡ new ++ t ∷ [] → out ++ kept inside (reverse old) ≡ whole → out ++ kept inside (t ∷ reverse new) ≡ whole
front inside old new out whole t e g = ap (λ (ts : List Token). out ++ kept inside ts) (sym (turned new t) ∙ ap reverse (sym e)) ∙ g

pub inside-step : (inside closing : Bool) (old new out whole : List Token) (t : Token) → inside ≡ true → old ≡ new ++ t ∷ [] → closing ≡ closes t
    → out ++ kept inside (reverse old) ≡ whole → out ++ kept (not closing) (reverse new) ≡ whole
inside-step inside closing old new out whole t i e f g =
    ap (λ (b : Bool). out ++ kept (not b) (reverse new)) f
    ∙ ap (λ (b : Bool). out ++ kept b (t ∷ reverse new)) (sym i)
    ∙ front inside old new out whole t e g

pub opens-step : (inside o : Bool) (old new out whole : List Token) (t : Token) → inside ≡ false → old ≡ new ++ t ∷ [] → o ≡ true → o ≡ opens t (reverse new)
    → out ++ kept inside (reverse old) ≡ whole → out ++ kept true (reverse new) ≡ whole
opens-step inside o old new out whole t i e h f g =
    let is : opens t (reverse new) ≡ true = sym f ∙ h in
    ap (λ (b : Bool). out ++ (if b then kept true (reverse new) else t ∷ kept false (reverse new))) (sym is)
    ∙ ap (λ (b : Bool). out ++ kept b (t ∷ reverse new)) (sym i)
    ∙ front inside old new out whole t e g

pub keeps-step : (inside o : Bool) (old new out after whole : List Token) (t : Token) → inside ≡ false → old ≡ new ++ t ∷ [] → o ≡ false → o ≡ opens t (reverse new)
    → after ≡ out ++ t ∷ [] → out ++ kept inside (reverse old) ≡ whole → after ++ kept inside (reverse new) ≡ whole
keeps-step inside o old new out after whole t i e h f a g =
    let is : opens t (reverse new) ≡ false = sym f ∙ h in
    ap (λ (ts : List Token). ts ++ kept inside (reverse new)) a
    ∙ append_assoc out (t ∷ []) (kept inside (reverse new))
    ∙ ap (λ (b : Bool). out ++ t ∷ kept b (reverse new)) i
    ∙ ap (λ (b : Bool). out ++ (if b then kept true (reverse new) else t ∷ kept false (reverse new))) (sym is)
    ∙ ap (λ (b : Bool). out ++ kept b (t ∷ reverse new)) (sym i)
    ∙ front inside old new out whole t e g

pub kept-done : (inside : Bool) (old out whole : List Token) → old ≡ [] → out ++ kept inside (reverse old) ≡ whole → out ≡ whole
kept-done inside old out whole e g =
    sym (append-nil out) ∙ ap (λ (ts : List Token). out ++ kept inside (reverse ts)) (sym e) ∙ g

pub ruleset steps = (turn-step, turn-done, left-step, inside-step, opens-step, keeps-step, kept-done)

-- Loops over the bytes of a text, a step at a time.
use Rattle.std.proofs.Common.{◌≡◌, ℕ, zero, suc, ◌+◌, ◌<◌, Bool, true, false, cond, ◌==◌, ◌&&◌, not, List, [], ◌∷◌, length, drop, get_or, refl, arith, add-one, drop-cons}
use Rattle.std.proofs.lemmas.Bool.Decides.{nat_tests}
use Rattle.sv_lexer.specs.Spans.{until, one_more}
use Rattle.sv_lexer.specs.Literals.{string_rest}

-- the test fails here, so one byte more stands before the place
pub until-goes : (stop : List ℕ → Bool) (bytes : List ℕ) (at : ℕ) → at < length bytes → stop (drop at bytes) ≡ false → until stop (drop at bytes) ≡ until stop (drop (at + 1) bytes) + 1
until-goes stop bytes at within fails =
    let next : drop at bytes ≡ get_or bytes at 0 ∷ drop (at + 1) bytes = rw (add-one, drop-cons bytes at 0 within) in
    let here : stop (get_or bytes at 0 ∷ drop (at + 1) bytes) ≡ false = rw next at fails in
    rw next (rw here)

-- the test passes here
pub until-stops : (stop : List ℕ → Bool) (bytes : List ℕ) → stop bytes ≡ true → until stop bytes ≡ 0
until-stops stop [] passes = refl
until-stops stop (c ∷ cs) passes = rw passes

-- a step of a loop that counts up to the first place where the test passes
pub until-step : (stop : List ℕ → Bool) (bytes rest : List ℕ) (at : ℕ) → at < length bytes → rest ≡ drop at bytes → stop rest ≡ false → at + until stop (drop at bytes) ≡ until stop bytes → at + 1 + until stop (drop (at + 1) bytes) ≡ until stop bytes
until-step stop bytes rest at within e fails so_far =
    let here : stop (drop at bytes) ≡ false = rw e at fails in
    omega (arith, until-goes stop bytes at within here)

-- so many bytes from here, where there are any
abbrev pub shifted : ℕ → ℕ → ℕ
shifted at n = cond (n == 0) 0 (at + n)

shifted-more : (at n : ℕ) → shifted at (one_more n) ≡ shifted (at + 1) n
shifted-more at zero = refl
shifted-more at (suc n) = grind (arith, nat_tests)

module _ (escaped : Bool) (bytes : List ℕ) (at : ℕ) (within : at < length bytes) where
  next : drop at bytes ≡ get_or bytes at 0 ∷ drop (at + 1) bytes
  next = rw (add-one, drop-cons bytes at 0 within)

  -- a newline ends the line without a quote
  pub string_rest-newline : get_or bytes at 0 == 10 ≡ true → string_rest escaped (drop at bytes) ≡ 0
  string_rest-newline newline = rw next (rw newline)

  -- a quote closes the string
  pub string_rest-closes : get_or bytes at 0 == 10 ≡ false → (get_or bytes at 0 == 34 && not escaped) ≡ true → string_rest escaped (drop at bytes) ≡ 1
  string_rest-closes goes closes = rw next (rw (goes, closes))

  -- any other byte belongs to the string
  pub string_rest-goes : get_or bytes at 0 == 10 ≡ false → (get_or bytes at 0 == 34 && not escaped) ≡ false →
      shifted at (string_rest escaped (drop at bytes)) ≡ shifted (at + 1) (string_rest (get_or bytes at 0 == 92 && not escaped) (drop (at + 1) bytes))
  string_rest-goes goes stays = rw next (rw (goes, stays) (shifted-more at _))

-- A loop over the bytes of a text that looks for a place.
use Rattle.std.proofs.Common.{◌≡◌, cond, sym, ap, ◌∙◌, ℕ, suc, ◌+◌, ◌<◌, Bool, true, false, List, [], ◌∷◌, length, drop, get_or, refl, arith, add-one, drop-cons}
use Rattle.v_tree.specs.Tokens.{until}

-- the test fails here, so one byte more stands before the place
pub until-goes : (stop : List ℕ → Bool) (bytes : List ℕ) (at : ℕ) → at < length bytes → stop (drop at bytes) ≡ false → until stop (drop at bytes) ≡ until stop (drop (at + 1) bytes) + 1
until-goes stop bytes at within fails =
    let next : drop at bytes ≡ get_or bytes at 0 ∷ drop (at + 1) bytes = rw (add-one, drop-cons bytes at 0 within) in
    ap (until stop) next ∙ ap (λ b. cond b 0 (suc (until stop (drop (at + 1) bytes)))) (ap stop (sym next) ∙ fails) ∙ sym (add-one (until stop (drop (at + 1) bytes)))

-- the test passes here
pub until-stops : (stop : List ℕ → Bool) (bytes : List ℕ) → stop bytes ≡ true → until stop bytes ≡ 0
until-stops stop [] passes = refl
until-stops stop (c ∷ cs) passes = rw passes

-- a step of the loop
pub until-step : (stop : List ℕ → Bool) (bytes rest : List ℕ) (at : ℕ) → at < length bytes → rest ≡ drop at bytes → stop rest ≡ false → at + until stop (drop at bytes) ≡ until stop bytes → at + 1 + until stop (drop (at + 1) bytes) ≡ until stop bytes
until-step stop bytes rest at within e fails so_far =
    let here : stop (drop at bytes) ≡ false = rw e at fails in
    omega (arith, until-goes stop bytes at within here)

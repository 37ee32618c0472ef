-- How large a number is, by powers of 2.
use Rattle.std.specs.Prelude.{◌≡◌, ⊤, ℕ, ◌+◌, ◌^◌, ◌<◌, ◌≤◌, Bool, cond}
use Rattle.eval_parts.specs.declared.powers.Log.{Log}
use Rattle.eval_parts.specs.declared.powers.Log.TheVariants as L

-- a number of so many bits
abbrev pub IsLog : Log → ℕ → ℕ → Type 0
IsLog L.Nothing n bits = n ≡ 0
IsLog (L.Power k) n bits = (n ≡ 2 ^ k) × (k + 1 ≤ bits)
IsLog (L.Above k) n bits = (2 ^ k < n) × (n < 2 ^ (k + 1)) × (k + 1 ≤ bits)

-- one that can have a further digit
abbrev pub HasRoom : Log → Type 0
HasRoom L.Nothing = ⊤
HasRoom (L.Power k) = k < 2 ^ 30
HasRoom (L.Above k) = k < 2 ^ 30

-- the same with one more digit at the low end
abbrev pub more : Log → Bool → Log
more L.Nothing one = cond one (L.Power 0) L.Nothing
more (L.Power k) one = cond one (L.Above (k + 1)) (L.Power (k + 1))
more (L.Above k) one = L.Above (k + 1)

-- the least power of 2 that isn't below the number
abbrev pub Ceils : Log → ℕ → Type 0
Ceils L.Nothing c = c ≡ 0
Ceils (L.Power k) c = c ≡ k
Ceils (L.Above k) c = c ≡ k + 1

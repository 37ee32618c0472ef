-- Padded values as stores.
use Rattle.std.proofs.Common.{◌≡◌, ℕ, zero, suc, List, [], ◌∷◌, ◌++◌, length, map, replicate, refl, ap, ◌∙◌}
use Rattle.std.specs.Prelude.{slice_index_or}
use Rattle.std.proofs.Math.Path.{fun_ext}
use Rattle.b4_core.specs.declared.bit.Bit4.{Bit4}
use Rattle.b4_core.specs.declared.bit.Bit4.TheVariants.{X}
use Rattle.row_machine.specs.Valuation.{Place}
use Rattle.round_runner.specs.Stores.{Holds, holding, widths}
use Rattle.v_meaning.specs.Modules.{Signal}
use Rattle.v_stores.specs.Stores.{padded, rooms, initially}

x-alone : (m k : ℕ) → slice_index_or (replicate m X) k X ≡ X
x-alone zero k = refl
x-alone (suc m) zero = refl
x-alone (suc m) (suc k) = x-alone m k

x-behind : (xs : List Bit4) (m k : ℕ) → slice_index_or (xs ++ replicate m X) k X ≡ slice_index_or xs k X
x-behind [] m k = x-alone m k
x-behind (x ∷ xs) m zero = refl
x-behind (x ∷ xs) m (suc k) = x-behind xs m k

at-place : (ss : List Signal) (n k : ℕ) → holding (map padded ss) (record { signal = n; bit = k }) ≡ initially ss (record { signal = n; bit = k })
at-place [] n k = refl
at-place (s ∷ ss) zero k = x-behind s.initial _ k
at-place (s ∷ ss) (suc n) k = at-place ss n k

all-widths : (ss : List Signal) → widths (map padded ss) ≡ rooms ss
all-widths [] = refl
all-widths (s ∷ ss) = ap (λ l. length (padded s) ∷ l) (all-widths ss)

pub stored : (ss : List Signal) (vs : List (List Bit4)) → vs ≡ map padded ss → Holds (rooms ss) (initially ss) vs
stored ss vs e = record { values = ap holding e ∙ fun_ext (λ (q : Place). at-place ss q.signal q.bit); shape = ap widths e ∙ all-widths ss }

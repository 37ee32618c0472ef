-- Bits of a type that has two-state and four-state ones are stored run by run.
use Rattle.std.proofs.Common.{◌≡◌, ℕ, zero, suc, ◌+◌, ◌-◌, ◌<◌, ◌≤◌, Bool, true, false, ◌&&◌, cond, pos, List, [], ◌∷◌, ◌++◌, append_assoc, append-nil, length, replicate, Some, None, refl, arith, ap, sym, ◌∙◌, subst}
use Rattle.std.specs.Prelude.{slice_index_or, int_le, int_lt}
use Rattle.std.proofs.lemmas.Bool.Decides.{nat_tests}
use Rattle.b4_core.specs.declared.bit.Bit4.{Bit4}
use Rattle.b4_core.specs.declared.bit.Bit4.TheVariants.{Zero, X}
use Rattle.row_machine.specs.Valuation.{Valuation}
use Rattle.picks.specs.Windows.{whole, part, picked, bit_at, tabulated}
use Rattle.sv_types.specs.Layouts.{stored, stacked}
use Rattle.sv_types.proofs.Picks.{picked-part, tabulated-same}
use Rattle.v_tree.specs.declared.names.Helper.{Helper}
use Rattle.v_meaning.specs.Scopes.{Scope}
use Rattle.v_meaning.specs.Values as T
use Rattle.lowering_laws.specs.Same.{HasBits, AllHaveBits}
use Rattle.lowering_laws.proofs.Pieces.{pieces-bits}
use Rattle.path_flatten.specs.Helping.{EachHelps, Grows}
use Rattle.path_flatten.specs.Reading.{slice_of}
use Rattle.path_flatten.specs.Storing.{stored_at, StoresRun, StoresFrom}
use Rattle.path_flatten.proofs.Helping.{helps-before}
use Rattle.path_flatten.proofs.Storing.{tabulated-cong, tabulated-split, stored-tabulated}

-- which bits are two-state, by what becomes of x
pub mark-four : (bs : List Bool) (j : ℕ) → slice_index_or (stored bs (replicate (length bs) X)) j X ≡ X → slice_index_or bs j false ≡ false
mark-four [] j h = refl
mark-four (true ∷ bs) zero h = absurd (cc)
mark-four (false ∷ bs) zero h = refl
mark-four (b ∷ bs) (suc j) h = mark-four bs j h

pub mark-two : (bs : List Bool) (j : ℕ) → slice_index_or (stored bs (replicate (length bs) X)) j X ≡ Zero → slice_index_or bs j false ≡ true
mark-two [] j h = absurd (cc)
mark-two (true ∷ bs) zero h = refl
mark-two (false ∷ bs) zero h = absurd (cc)
mark-two (b ∷ bs) (suc j) h = mark-two bs j h

-- a slice by its bits
pub slice-tabulated : (c : List Bit4) (w low n : ℕ) → low + n ≤ w → slice_of c w low n ≡ tabulated n (λ j. slice_index_or c (low + j) X)
slice-tabulated c w low n fits = tabulated-same n _ _ (λ j less. at j less)
  where
    at : (j : ℕ) → j < n → bit_at c (picked (part (pos low) n (whole w)) j) ≡ slice_index_or c (low + j) X
    at j less =
        let zero_more : (low + j) + 0 ≡ low + j = omega arith in
        let there : (int_le (pos 0) (pos (low + j)) && int_lt (pos (low + j)) (pos w)) ≡ true = (let t : low + j < w = omega arith in grind (arith, nat_tests)) in
        ap (bit_at c) (picked-part low n (whole w) j less) ∙ ap (λ k. bit_at c (cond (int_le (pos 0) (pos k) && int_lt (pos k) (pos w)) (Some k) None)) zero_more
        ∙ ap (λ b. bit_at c (cond b (Some (low + j)) None)) there

-- one more piece, below the others
have-more : (ms : List T.Meaning) (cs : List (List Bit4)) (p : T.Meaning) (y : List Bit4) (sc : Scope) (v : Valuation) → AllHaveBits ms cs sc v → HasBits p y sc v → AllHaveBits (ms ++ p ∷ []) (cs ++ y ∷ []) sc v
have-more [] [] p y sc v h one = (one, tt)
have-more [] (c ∷ cs) p y sc v h one = absurd h
have-more (m ∷ ms) [] p y sc v h one = absurd h
have-more (m ∷ ms) (c ∷ cs) p y sc v h one = (h.0, have-more ms cs p y sc v h.1 one)

stacked-more : (cs : List (List Bit4)) (y : List Bit4) → stacked (cs ++ y ∷ []) ≡ y ++ stacked cs
stacked-more [] y = sym (append-nil y)
stacked-more (c ∷ cs) y = ap (λ x. x ++ c) (stacked-more cs y) ∙ append_assoc y (stacked cs) c

pub from-none : (m : T.Meaning) (bs : List Bool) (n high : ℕ) (hs : List Helper) → high ≡ n → StoresFrom m bs n high hs []
from-none m bs n high hs is c sc v has long helps = (let none : n - high ≡ 0 = omega arith in ([], tt, sym (ap (λ k. tabulated k (λ j. stored_at bs c (high + j))) none)))

pub from-next : (m : T.Meaning) (bs : List Bool) (n low high : ℕ) (old hs : List Helper) (ms : List T.Meaning) (p : T.Meaning) → low < high → high ≤ n → Grows old hs
    → StoresFrom m bs n high old ms → StoresRun m bs n low (high - low) hs p → StoresFrom m bs n low hs (ms ++ p ∷ [])
from-next m bs n low high old hs ms p less few grows from one c sc v has long helps =
    let rest = from c sc v has long (helps-before old hs sc grows helps) in
    let y = tabulated (high - low) (λ j. stored_at bs c (low + j)) in
    let size : (high - low) + (n - high) ≡ n - low = omega arith in
    let at : low + (high - low) ≡ high = omega arith in
    let moved : (λ (j : ℕ). stored_at bs c (low + ((high - low) + j))) ≡ (λ j. stored_at bs c (high + j)) = (λ i j. stored_at bs c (shifted j i)) in (
      rest.0 ++ y ∷ [],
      have-more ms rest.0 p y sc v rest.1 (one c sc v has long helps),
      stacked-more rest.0 y ∙ ap (λ x. y ++ x) (rest.2 ∙ ap (tabulated (n - high)) (sym moved))
          ∙ sym (tabulated-split (high - low) (n - high) (λ j. stored_at bs c (low + j))) ∙ ap (λ k. tabulated k (λ j. stored_at bs c (low + j))) size,
    )
  where
    shifted : (j : ℕ) → low + ((high - low) + j) ≡ high + j
    shifted j = omega arith

pub from-all : (m : T.Meaning) (bs : List Bool) (n : ℕ) (hs : List Helper) (ms : List T.Meaning) (c : List Bit4) (sc : Scope) (v : Valuation) → length bs ≡ n → StoresFrom m bs n 0 hs ms
    → HasBits m c sc v → length c ≡ n → EachHelps hs sc → HasBits (T.concatenation ms) (stored bs c) sc v
from-all m bs n hs ms c sc v size from has long helps =
    let all = from c sc v has long helps in
    let none : n - 0 ≡ n = omega arith in
    let same : stacked all.0 ≡ stored bs c = all.2 ∙ ap (λ k. tabulated k (λ j. stored_at bs c (0 + j))) none
    ∙ tabulated-cong n (λ j. stored_at bs c (0 + j)) (stored_at bs c) (λ j less. ap (stored_at bs c) (omega arith)) ∙ sym (stored-tabulated bs c n size long) in
    subst (λ x. HasBits (T.concatenation ms) x sc v) same (pieces-bits ms all.0 sc v all.1)

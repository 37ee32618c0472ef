-- Copies, and bits that are read.
use Rattle.std.proofs.Common.{◌≡◌, ℕ, zero, suc, ◌+◌, List, [], ◌∷◌, ◌++◌, append_assoc, get_or, refl, arith, ap, ◌∙◌}
use Rattle.std.proofs.Math.Path.{fun_ext}
use Rattle.picks.specs.Windows.{tabulated}
use Rattle.row_machine.specs.Valuation.{Valuation}
use Rattle.row_machine.specs.Places.{vector_at, bits_from}
use Rattle.b4_core.specs.declared.bit.Bit4.{Bit4}
use Rattle.b4_core.specs.declared.bit.Bit4.TheVariants.{X}
use Rattle.v_eval.specs.declared.held.Slot.{Slot}
use Rattle.v_eval.specs.Holding.{bits_in, holding}
use Rattle.v_eval.proofs.Reading.{tabulated-more}

pub copy-next : {A : Type 0} (made new rest : List A) (x y : A) (all : List A) → new ≡ made ++ y ∷ [] → y ≡ x → made ++ x ∷ rest ≡ all → new ++ rest ≡ all
copy-next made new rest x y all is same before = ap (λ xs. xs ++ rest) is ∙ append_assoc made (y ∷ []) rest ∙ ap (λ z. made ++ z ∷ rest) same ∙ before

pub ruleset copying = (copy-next)

pub ruleset reading = (tabulated-more)

bits-tabulated : (v : Valuation) (n k w : ℕ) → tabulated w (λ j. v (record { signal = n; bit = k + j })) ≡ bits_from v n k w
bits-tabulated v n k zero = refl
bits-tabulated v n k (suc w) =
    let here : k + 0 ≡ k = omega arith in
    let behind : (j : ℕ) → k + suc j ≡ suc k + j = λ j. omega arith in
    ap (λ m. v (record { signal = n; bit = m }) ∷ tabulated w (λ j. v (record { signal = n; bit = k + suc j }))) here
    ∙ ap (λ f. v (record { signal = n; bit = k }) ∷ tabulated w f) (fun_ext (λ j. ap (λ m. v (record { signal = n; bit = m })) (behind j)))
    ∙ ap (λ bs. v (record { signal = n; bit = k }) ∷ bs) (bits-tabulated v n (suc k) w)

pub vector-tabulated : (v : Valuation) (n w : ℕ) → tabulated w (λ j. v (record { signal = n; bit = j })) ≡ vector_at v n w
vector-tabulated v n w = ap (tabulated w) (fun_ext (λ j. ap (λ m. v (record { signal = n; bit = m })) (let e : j ≡ 0 + j = omega arith in e))) ∙ bits-tabulated v n 0 w

pub read-result : (x bits : List Bit4) (signals : List (List Bit4)) (over : List Slot) (locals : List (List Bit4)) (n w : ℕ) → bits ≡ bits_in signals over locals n → x ≡ tabulated w (λ k. get_or bits k X)
    → x ≡ vector_at (holding signals over locals) n w
read-result x bits signals over locals n w same is =
    is ∙ ap (λ bs. tabulated w (λ k. get_or bs k X)) same ∙ vector-tabulated (holding signals over locals) n w

pub ruleset results = (read-result)

-- Cutting vectors up, and stacking what was cut.
use Rattle.std.proofs.Common.{◌≡◌, ℕ, zero, suc, ◌+◌, ◌-◌, ◌*◌, ◌/◌, ◌≤◌, ◌<◌, List, [], ◌∷◌, ◌++◌, length, map, take, drop, refl, arith, ap, sym, ◌∙◌, append_assoc, append-nil, rules}
use Rattle.std.proofs.lemmas.List.{length-take, take-append-drop}
use Rattle.sv_types.specs.declared.types.Value.TheVariants.{Items, rolls-Items}
use Rattle.sv_types.specs.declared.types.Value.{Value-F, fold-roll-Value}
use Rattle.sv_types.specs.declared.types.Member.{Member}
use Rattle.sv_types.specs.declared.types.SvType.{the_lemmas}
use Rattle.std.proofs.Math.Nat.{suc-mul, mul-div_cancel_left}
use Rattle.b4_core.specs.declared.bit.Bit4.{Bit4}
use Rattle.sv_types.specs.declared.types.Value.{Value}
use Rattle.sv_types.specs.Layouts.{stacked}
use Rattle.sv_types.specs.Values.{Shape, bits, value_step, shape, member_shape, total, cut, cut_evenly}

-- what comes behind lies below
pub stacked-push : (vs : List Value) (r : Value) → stacked (map bits (vs ++ r ∷ [])) ≡ bits r ++ stacked (map bits vs)
stacked-push [] r = sym (append-nil (bits r))
stacked-push (v ∷ vs) r = ap (λ s. s ++ bits v) (stacked-push vs r) ∙ append_assoc (bits r) (stacked (map bits vs)) (bits v)

pub none-left : {A : Type 0} (xs : List A) → length xs ≡ 0 → xs ≡ []
none-left [] h = refl
none-left (x ∷ xs) h = absurd (omega arith)

pub less_one : (n w : ℕ) → 0 < n → n * w - w ≡ (n - 1) * w
less_one zero w h = elim h [ ]
less_one (suc n) w h = let e : suc n - 1 ≡ n = omega arith in rw e (omega (arith, suc-mul n w))

pub one_fits : (n w : ℕ) → 0 < n → w ≤ n * w
one_fits zero w h = elim h [ ]
one_fits (suc n) w h = omega (arith, suc-mul n w)

pub cut_evenly-step : (n : ℕ) (item : Shape) (v : List Bit4) → 0 < n → length v ≡ n * item.width
    → cut_evenly n item v ≡ item.value (drop (length v - item.width) v) ∷ cut_evenly (n - 1) item (take (length v - item.width) v)
cut_evenly-step zero item v some same = elim some [ ]
cut_evenly-step (suc n) item v some same =
    let e : suc n - 1 ≡ n = omega arith in
    let at : n * item.width ≡ length v - item.width = omega (arith, suc-mul n item.width) in
    rw e (ap (λ k. item.value (drop k v) ∷ cut_evenly n item (take k v)) at)

-- the width of an element, from all of them
pub one_of_all : (n w k : ℕ) → 0 < n → k ≡ n * w → k / n ≡ w
one_of_all n w k some same = ap (λ j. j / n) same ∙ mul-div_cancel_left w some

-- an element more: the rest is shorter by it
pub array-left : (n i w : ℕ) (rest : List Bit4) → i < n → length rest ≡ (n - i) * w → length (take (length rest - w) rest) ≡ (n - (i + 1)) * w
array-left n i w rest h same =
    let e : (n - i) * w - w ≡ (n - i - 1) * w = less_one (n - i) w (omega arith) in
    let f : n - (i + 1) ≡ n - i - 1 = omega arith in
    rw f (length-take (length rest - w) rest ∙ omega (arith, e, same))

-- its value is the next one
pub array-items : (n i : ℕ) (item : Shape) (rest : List Bit4) (items new all : List Value) (r : Value) → i < n → length rest ≡ (n - i) * item.width
    → new ≡ items ++ r ∷ [] → r ≡ item.value (drop (length rest - item.width) rest) → items ++ cut_evenly (n - i) item rest ≡ all
    → new ++ cut_evenly (n - (i + 1)) item (take (length rest - item.width) rest) ≡ all
array-items n i item rest items new all r h same more is before =
    let f : n - (i + 1) ≡ n - i - 1 = omega arith in
    let k = length rest - item.width in
    let later = cut_evenly (n - (i + 1)) item (take k rest) in
    let step : cut_evenly (n - i) item rest ≡ item.value (drop k rest) ∷ later =
    cut_evenly-step (n - i) item rest (omega arith) same ∙ ap (λ j. item.value (drop k rest) ∷ cut_evenly j item (take k rest)) (sym f) in
    ap (λ vs. vs ++ later) more ∙ append_assoc items (r ∷ []) later ∙ ap (λ x. items ++ (x ∷ later)) is ∙ ap (λ vs. items ++ vs) (sym step) ∙ before

-- and it lies on top of the rest
pub cut-back : (k : ℕ) (rest v : List Bit4) (items new : List Value) (r : Value) → new ≡ items ++ r ∷ [] → bits r ≡ drop k rest
    → rest ++ stacked (map bits items) ≡ v → take k rest ++ stacked (map bits new) ≡ v
cut-back k rest v items new r more is before =
    ap (λ vs. take k rest ++ stacked (map bits vs)) more ∙ ap (λ vs. take k rest ++ vs) (stacked-push items r) ∙ ap (λ b. take k rest ++ (b ++ stacked (map bits items))) is
    ∙ sym (append_assoc (take k rest) (drop k rest) (stacked (map bits items))) ∙ ap (λ b. b ++ stacked (map bits items)) (take-append-drop k rest) ∙ before

-- at the end nothing is left
pub bits-Items : (vs : List Value) → bits (Items vs) ≡ stacked (map bits vs)
bits-Items vs = ap bits (sym (rolls-Items vs)) ∙ fold-roll-Value (List Bit4) value_step (Value-F.Items vs)

pub all-cut : (rest v : List Bit4) (vs xs : List Value) → xs ≡ vs → length rest ≡ 0 → rest ++ stacked (map bits vs) ≡ v → bits (Items xs) ≡ v
all-cut rest v vs xs same none before =
    ap (λ ys. bits (Items ys)) same ∙ bits-Items vs ∙ ap (λ r. r ++ stacked (map bits vs)) (sym (none-left rest none)) ∙ before

-- a member more
pub member-shape : (m : Member) → member_shape m ≡ shape m.of
member-shape m = search (rules, the_lemmas)

pub struct-items : (m : Member) (ms : List Member) (k : ℕ) (rest : List Bit4) (items new all : List Value) (r : Value) → k ≡ total (map member_shape ms)
    → new ≡ items ++ r ∷ [] → r ≡ (shape m.of).value (drop k rest) → items ++ cut (map member_shape (m ∷ ms)) rest ≡ all
    → new ++ cut (map member_shape ms) (take k rest) ≡ all
struct-items m ms k rest items new all r below more is before =
    let later = cut (map member_shape ms) (take k rest) in
    let step : cut (map member_shape (m ∷ ms)) rest ≡ (shape m.of).value (drop k rest) ∷ later =
    ap (λ j. (member_shape m).value (drop j rest) ∷ cut (map member_shape ms) (take j rest)) (sym below) ∙ ap (λ x. x.value (drop k rest) ∷ later) (member-shape m) in
    ap (λ vs. vs ++ later) more ∙ append_assoc items (r ∷ []) later ∙ ap (λ x. items ++ (x ∷ later)) is ∙ ap (λ vs. items ++ vs) (sym step) ∙ before

pub ruleset cuts = (none-left, one_of_all)

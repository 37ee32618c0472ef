-- Lists from their ends, and narrow formals.
use Rattle.std.proofs.Common.{◌≡◌, ◌⊎◌, inl, inr, ℕ, zero, suc, ◌+◌, ◌-◌, ◌<◌, ◌≤◌, min, List, [], ◌∷◌, ◌++◌, length, map, drop, get_or, reverse, append_assoc, refl, ap, sym, ◌∙◌, arith}
use Rattle.std.proofs.Math.Seq.{drop-cons}
use Rattle.std.proofs.Math.Numerals.{add-one}
use Rattle.std.proofs.Math.ListN.{get_or-map}
use Rattle.std.proofs.lemmas.List.{get_or-reverse, length-reverse, length-map, drop_all, append-nil}
use Rattle.bit_sets.specs.declared.span.Use.{Use}
use Rattle.sv_source.specs.declared.token.Spot.{Spot}
use Rattle.sv_types.specs.declared.types.Member.{Member}
use Rattle.function_breaks.specs.Owed.{local_use, member_uses}
use Rattle.sv_types.specs.declared.statement.Formal.{Formal}
use Rattle.sv_types.specs.Layouts.{width_of}
use Rattle.eval_parts.specs.Targets.{AllNarrow}

pub narrow-at : (fs : List Formal) (k : ℕ) (f : Formal) → f ≡ get_or fs k f → k < length fs → AllNarrow fs → width_of f.local.of ≤ 4194304
narrow-at [] k f is low h = absurd (omega arith)
narrow-at (g ∷ fs) zero f is low h = let e : width_of f.local.of ≡ width_of g.local.of = ap (λ (x : Formal). width_of x.local.of) is in let n = h.0 in omega (arith, e, n)
narrow-at (g ∷ fs) (suc k) f is low h = narrow-at fs k f is (omega arith) h.1

-- the element that far from the end comes next
pub from-end : {A : Type 0} (xs : List A) (k : ℕ) (x : A) → k < length xs → x ≡ get_or xs (length xs - 1 - k) x → drop k (reverse xs) ≡ x ∷ drop (k + 1) (reverse xs)
from-end xs k x low is =
    drop-cons (reverse xs) k x (omega (arith, low, length-reverse xs))
    ∙ ap (λ y. y ∷ drop (suc k) (reverse xs)) (get_or-reverse xs k x low ∙ sym is)
    ∙ ap (λ j. x ∷ drop j (reverse xs)) (sym (add-one k))

-- members of a struct from the last one on
abbrev pub widths : List Member → List ℕ
widths ms = map (λ (m : Member). width_of m.of) ms

member-step : (end low : ℕ) (ms : List Member) (ss : List Spot) (k : ℕ) (m : Member) (s : Spot) → k < length ms → k < length ss → m ≡ get_or ms (length ms - 1 - k) m → s ≡ get_or ss (length ss - 1 - k) s
    → member_uses end low (drop k (reverse (widths ms))) (drop k (reverse ss))
    ≡ local_use 0 low (min (low + width_of m.of) end) s.at ∷ member_uses end (min (low + width_of m.of) end) (drop (k + 1) (reverse (widths ms))) (drop (k + 1) (reverse ss))
member-step end low ms ss k m s lm ls im is =
    let w : Member → ℕ = λ (x : Member). width_of x.of in
    let same : length (widths ms) ≡ length ms = length-map ms w in
    let its : width_of m.of ≡ get_or (widths ms) (length (widths ms) - 1 - k) (width_of m.of) =
    ap w im ∙ sym (get_or-map w ms (length ms - 1 - k) m) ∙ sym (ap (λ n. get_or (widths ms) (n - 1 - k) (width_of m.of)) same) in
    ap (λ ws. member_uses end low ws (drop k (reverse ss))) (from-end (widths ms) k (width_of m.of) (omega (arith, same, lm)) its)
    ∙ ap (member_uses end low (width_of m.of ∷ drop (k + 1) (reverse (widths ms)))) (from-end ss k s ls is)

pub members-next : (uses new all : List Use) (ms : List Member) (ss : List Spot) (end low k high wide : ℕ) (m : Member) (s : Spot) (u : Use)
    → new ≡ uses ++ u ∷ [] → u ≡ local_use 0 low high s.at → high ≡ min (low + wide) end → wide ≡ width_of m.of
    → k < length ms → k < length ss → m ≡ get_or ms (length ms - 1 - k) m → s ≡ get_or ss (length ss - 1 - k) s
    → uses ++ member_uses end low (drop k (reverse (widths ms))) (drop k (reverse ss)) ≡ all
    → new ++ member_uses end high (drop (k + 1) (reverse (widths ms))) (drop (k + 1) (reverse ss)) ≡ all
members-next uses new all ms ss end low k high wide m s u pushed is top width lm ls im is_spot before =
    let ws = drop (k + 1) (reverse (widths ms)) in
    let rest = drop (k + 1) (reverse ss) in
    let its : high ≡ min (low + width_of m.of) end = top ∙ ap (λ n. min (low + n) end) width in
    ap (λ us. us ++ member_uses end high ws rest) pushed
    ∙ append_assoc uses (u ∷ []) (member_uses end high ws rest)
    ∙ ap (λ v. uses ++ v ∷ member_uses end high ws rest) is
    ∙ ap (λ h. uses ++ local_use 0 low h s.at ∷ member_uses end h ws rest) its
    ∙ ap (λ us. uses ++ us) (sym (member-step end low ms ss k m s lm ls im is_spot))
    ∙ before

no-widths : (end low : ℕ) (ss : List Spot) → member_uses end low [] ss ≡ []
no-widths end low [] = refl
no-widths end low (s ∷ ss) = refl

no-spots : (end low : ℕ) (ws : List ℕ) → member_uses end low ws [] ≡ []
no-spots end low ws = refl

pub members-end : (uses all : List Use) (ms : List Member) (ss : List Spot) (end low k : ℕ) → (length ms ≤ k) ⊎ (length ss ≤ k)
    → uses ++ member_uses end low (drop k (reverse (widths ms))) (drop k (reverse ss)) ≡ all → uses ≡ all
members-end uses all ms ss end low k (inl past) before =
    let w : Member → ℕ = λ (x : Member). width_of x.of in
    let same : length (widths ms) ≡ length ms = length-map ms w in
    let turned = length-reverse (widths ms) in
    let gone : drop k (reverse (widths ms)) ≡ [] = drop_all k (reverse (widths ms)) (omega (arith, past, same, turned)) in
    sym (append-nil uses) ∙ sym (ap (λ us. uses ++ us) (ap (λ ws. member_uses end low ws (drop k (reverse ss))) gone ∙ no-widths end low (drop k (reverse ss)))) ∙ before
members-end uses all ms ss end low k (inr past) before =
    let turned = length-reverse ss in
    let gone : drop k (reverse ss) ≡ [] = drop_all k (reverse ss) (omega (arith, past, turned)) in
    sym (append-nil uses) ∙ sym (ap (λ us. uses ++ us) (ap (member_uses end low (drop k (reverse (widths ms)))) gone ∙ no-spots end low (drop k (reverse (widths ms))))) ∙ before

pub ruleset narrow_laws = (narrow-at)

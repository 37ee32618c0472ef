-- Members one by one.
use Rattle.std.proofs.Common.{◌≡◌, ◌<◌, ◌+◌, ℕ, suc, Bool, true, false, ◌&&◌, List, [], ◌∷◌, length, map, drop, get_or, refl, ap, sym, rules, ◌∙◌, arith, add-one, drop-cons}
use Rattle.sv_types.specs.declared.types.SvType.{SvType}
use Rattle.sv_types.specs.declared.types.Member.{Member, the_lemmas}
use Rattle.pattern_fit.specs.Same.{same_members}
use Rattle.expr_type.specs.Shapes.{matches}
use Rattle.given_types.specs.Matching.{matching_member}

-- one more member
both-next : (f : SvType → Bool) (fs : List (SvType → Bool)) (m : Member) (ms : List Member) → same_members (f ∷ fs) (m ∷ ms) ≡ f m.of && same_members fs ms
both-next f fs m ms = refl

member-is : (m : Member) → matching_member m ≡ matches m.of
member-is m = search (rules, the_lemmas)

is-type : (m : Member) (t : SvType) → matching_member m t ≡ matches m.of t
is-type m t = ap (λ (f : SvType → Bool). f t) (member-is m)

pub step : (xs ys : List Member) (n : ℕ) (x y : Member) → n < length xs → length xs ≡ length ys → x ≡ get_or xs n x → y ≡ get_or ys n y
    → same_members (map matching_member (drop n xs)) (drop n ys) ≡ matches x.of y.of && same_members (map matching_member (drop (n + 1) xs)) (drop (n + 1) ys)
step xs ys n x y h e p q =
    let h2 : n < length ys = omega arith in
    let a : drop n xs ≡ x ∷ drop (n + 1) xs = rw (add-one, drop-cons xs n x h) (ap (λ z. z ∷ drop (suc n) xs) (sym p)) in
    let b : drop n ys ≡ y ∷ drop (n + 1) ys = rw (add-one, drop-cons ys n y h2) (ap (λ z. z ∷ drop (suc n) ys) (sym q)) in
    ap (λ zs. same_members (map matching_member zs) (drop n ys)) a
    ∙ ap (λ zs. same_members (map matching_member (x ∷ drop (n + 1) xs)) zs) b
    ∙ both-next (matching_member x) (map matching_member (drop (n + 1) xs)) y (drop (n + 1) ys)
    ∙ ap (λ c. c && same_members (map matching_member (drop (n + 1) xs)) (drop (n + 1) ys)) (is-type x y.of)

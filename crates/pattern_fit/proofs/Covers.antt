-- Items one after the other.
use Rattle.std.proofs.Common.{◌≡◌, ℕ, suc, List, [], ◌∷◌, ◌++◌, Option, Some, None, refl, ap, sym, ◌∙◌, append-nil, append_assoc}
use Rattle.sv_types.specs.declared.types.SvType.{SvType}
use Rattle.pattern_fit.specs.declared.pattern.PatternItem.{PatternItem}
use Rattle.pattern_fit.specs.declared.pattern.Rest.{Rest}
use Rattle.pattern_fit.specs.Fits.{covers, item_at, item_or, by_default, and_all, behind}

pub behind-one : (made : List PatternItem) (x : PatternItem) (rest : Option (List PatternItem)) → behind made (and_all (Some x) rest) ≡ behind (made ++ x ∷ []) rest
behind-one made x None = refl
behind-one made x (Some xs) = ap Some (sym (append_assoc made (x ∷ []) xs))

pub behind-none : (made : List PatternItem) (rest : Option (List PatternItem)) → behind made (and_all None rest) ≡ None
behind-none made rest = refl

pub behind-end : (made : List PatternItem) → behind made (Some []) ≡ Some made
behind-end made = ap Some (append-nil made)

pub behind-nothing : (rest : Option (List PatternItem)) → behind [] rest ≡ rest
behind-nothing None = refl
behind-nothing (Some xs) = refl

pub cover-some : (made : List PatternItem) (rest : Rest) (ks : List (Option ℕ)) (n : ℕ) (t : SvType) (ts : List SvType) (x : PatternItem) → item_or (item_at 0 ks n) (by_default rest t) ≡ Some x
    → behind made (covers rest ks n (t ∷ ts)) ≡ behind (made ++ x ∷ []) (covers rest ks (suc n) ts)
cover-some made rest ks n t ts x is = ap (λ o. behind made (and_all o (covers rest ks (suc n) ts))) is ∙ behind-one made x (covers rest ks (suc n) ts)

pub cover-none : (made : List PatternItem) (rest : Rest) (ks : List (Option ℕ)) (n : ℕ) (t : SvType) (ts : List SvType) → item_or (item_at 0 ks n) (by_default rest t) ≡ None
    → behind made (covers rest ks n (t ∷ ts)) ≡ None
cover-none made rest ks n t ts is = ap (λ o. behind made (and_all o (covers rest ks (suc n) ts))) is

pub ruleset covering = (behind-one, behind-none, behind-end, behind-nothing)

-- Parts of one kind taken away leave those of another.
use Rattle.std.proofs.Common.{◌≡◌, true, List, [], ◌∷◌, Option, Some, None, refl, sym, ap, ◌∙◌}
use Rattle.v_tree.specs.declared.parts.VPart.{VPart}
use Rattle.v_tree.specs.Parts.{first_of, all_of, second_of, second_in, with_first, or_else}
use Rattle.v_parts.specs.Taking.{is_there, left_behind, without, others}

module _ {A : Type 0} (kind : VPart → Option A) (p : VPart) (ps : List VPart) where
  pub without-some : (x : A) → kind p ≡ Some x → without kind (p ∷ ps) ≡ ps
  without-some x is = rw (is, without)

  pub without-none : kind p ≡ None → without kind (p ∷ ps) ≡ p ∷ without kind ps
  without-none is = rw (is, without)

-- a part of the one kind is not of the other
abbrev pub Apart : {A B : Type 0} → (VPart → Option A) → (VPart → Option B) → Type 0
Apart kind other = (p : VPart) → is_there (kind p) ≡ true → other p ≡ None

module _ {A B : Type 0} (kind : VPart → Option A) (other : VPart → Option B) (apart : Apart kind other) where
  no-other : (p : VPart) (x : A) → kind p ≡ Some x → other p ≡ None
  no-other p x is = apart p (ap is_there is)

  pub kept-first : (ps : List VPart) → first_of other (without kind ps) ≡ first_of other ps
  kept-first [] = refl
  kept-first (p ∷ ps) = by (kind p) refl (kept-first ps)
    where
      by : (o : Option A) → kind p ≡ o → first_of other (without kind ps) ≡ first_of other ps → first_of other (without kind (p ∷ ps)) ≡ first_of other (p ∷ ps)
      by (Some x) is more = ap (first_of other) (without-some kind p ps x is) ∙ sym (ap (λ o. or_else o (first_of other ps)) (no-other p x is))
      by None is more = ap (first_of other) (without-none kind p ps is) ∙ ap (or_else (other p)) more

  pub kept-all : (ps : List VPart) → all_of other (without kind ps) ≡ all_of other ps
  kept-all [] = refl
  kept-all (p ∷ ps) = by (kind p) refl (kept-all ps)
    where
      by : (o : Option A) → kind p ≡ o → all_of other (without kind ps) ≡ all_of other ps → all_of other (without kind (p ∷ ps)) ≡ all_of other (p ∷ ps)
      by (Some x) is more = ap (all_of other) (without-some kind p ps x is) ∙ sym (ap (λ o. with_first o (all_of other ps)) (no-other p x is))
      by None is more = ap (all_of other) (without-none kind p ps is) ∙ ap (with_first (other p)) more

  pub others-all : (ps : List VPart) → all_of other (others kind ps) ≡ all_of other ps
  others-all [] = refl
  others-all (p ∷ ps) = by (kind p) refl (others-all ps)
    where
      by : (o : Option A) → kind p ≡ o → all_of other (others kind ps) ≡ all_of other ps → all_of other (others kind (p ∷ ps)) ≡ all_of other (p ∷ ps)
      by (Some x) is more =
          ap (λ o. all_of other (left_behind o p (others kind ps))) is ∙ more ∙ sym (ap (λ o. with_first o (all_of other ps)) (no-other p x is))
      by None is more = ap (λ o. all_of other (left_behind o p (others kind ps))) is ∙ ap (with_first (other p)) more

module _ {A : Type 0} (kind : VPart → Option A) where
  first-all : (ps : List VPart) (x : A) → second_in (x ∷ all_of kind ps) ≡ first_of kind ps
  first-all [] x = refl
  first-all (p ∷ ps) x = by (kind p) (first-all ps x)
    where
      by : (o : Option A) → second_in (x ∷ all_of kind ps) ≡ first_of kind ps → second_in (x ∷ with_first o (all_of kind ps)) ≡ or_else o (first_of kind ps)
      by (Some y) more = refl
      by None more = more

  pub second-first : (ps : List VPart) → first_of kind (without kind ps) ≡ second_of kind ps
  second-first [] = refl
  second-first (p ∷ ps) = by (kind p) refl (second-first ps)
    where
      by : (o : Option A) → kind p ≡ o → first_of kind (without kind ps) ≡ second_of kind ps → first_of kind (without kind (p ∷ ps)) ≡ second_of kind (p ∷ ps)
      by (Some y) is more =
          ap (first_of kind) (without-some kind p ps y is) ∙ sym (first-all ps y) ∙ sym (ap (λ o. second_in (with_first o (all_of kind ps))) is)
      by None is more =
          ap (first_of kind) (without-none kind p ps is) ∙ ap (λ o. or_else o (first_of kind (without kind ps))) is ∙ more
          ∙ sym (ap (λ o. second_in (with_first o (all_of kind ps))) is)

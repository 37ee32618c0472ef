-- The first part of a kind, by its place.
use Rattle.std.proofs.Common.{◌≡◌, ℕ, ◌+◌, suc, cond, List, [], ◌∷◌, Option, Some, None, slice_get, refl, sym, ap, subst, ◌∙◌, arith}
use Rattle.std.specs.List.{position_from, remove}
use Rattle.std.proofs.lemmas.Option.{none-some, same_Some}
use Rattle.std.proofs.lemmas.Iterator.Adapters.{position_from-zero}
use Rattle.v_tree.specs.declared.parts.VPart.{VPart}
use Rattle.v_tree.specs.Parts.{first_of, or_else}
use Rattle.v_parts.specs.Taking.{is_there, place_of, without}
use Rattle.v_parts.proofs.Apart.{without-some, without-none}

-- the part in a place is the first one of the kind
pub record IsFirst {A : Type 0} (kind : VPart → Option A) (ps : List VPart) (at : ℕ) : Type 0 where
  pub value : (p : VPart) → slice_get ps at ≡ Some p → kind p ≡ first_of kind ps
  pub rest : remove ps at ≡ without kind ps

-- there is no part of the kind
pub record HasNone {A : Type 0} (kind : VPart → Option A) (ps : List VPart) : Type 0 where
  pub value : first_of kind ps ≡ None
  pub rest : without kind ps ≡ ps

-- the first one of the kind, where places count from n
pub record Later {A : Type 0} (kind : VPart → Option A) (n : ℕ) (ps : List VPart) (i : ℕ) : Type 0 where
  pub at : ℕ
  pub is : i ≡ n + at
  pub first : IsFirst kind ps at

module _ {A : Type 0} (kind : VPart → Option A) where
  abbrev from : ℕ → List VPart → Option ℕ
  from n ps = position_from (λ p. is_there (kind p)) n ps

  none-from : (n : ℕ) (ps : List VPart) → from n ps ≡ None → HasNone kind ps
  none-from n [] e = record { value = refl; rest = refl }
  none-from n (p ∷ ps) e = by (kind p) refl e (none-from (n + 1) ps)
    where
      by : (o : Option A) → kind p ≡ o → cond (is_there o) (Some n) (from (n + 1) ps) ≡ None → (from (n + 1) ps ≡ None → HasNone kind ps) → HasNone kind (p ∷ ps)
      by (Some x) is f more = absurd (none-some n (sym f))
      by None is f more = record {
        value = ap (λ o. or_else o (first_of kind ps)) is ∙ (more f).value;
        rest = without-none kind p ps is ∙ ap (λ qs. p ∷ qs) (more f).rest;
      }

  pub none-of : (ps : List VPart) → place_of kind ps ≡ None → HasNone kind ps
  none-of ps e = none-from 0 ps (sym (position_from-zero (λ p. is_there (kind p)) ps) ∙ e)

  first-from : (n : ℕ) (ps : List VPart) (i : ℕ) → from n ps ≡ Some i → Later kind n ps i
  first-from n [] i e = absurd (none-some i e)
  first-from n (p ∷ ps) i e = by (kind p) refl e (first-from (n + 1) ps i)
    where
      by : (o : Option A) → kind p ≡ o → cond (is_there o) (Some n) (from (n + 1) ps) ≡ Some i → (from (n + 1) ps ≡ Some i → Later kind (n + 1) ps i) → Later kind n (p ∷ ps) i
      by (Some x) is f more =
          let same : n ≡ i = same_Some n i f in
          record {
            at = 0;
            is = omega arith;
            first = record {
              value = λ q g. (let one : p ≡ q = same_Some p q g in ap kind (sym one) ∙ is ∙ sym (ap (λ o. or_else o (first_of kind ps)) is));
              rest = sym (without-some kind p ps x is);
            };
          }
      by None is f more =
          let m = more f in
          let k : ℕ = m.at in
          let far : i ≡ (n + 1) + k = m.is in
          record {
            at = suc k;
            is = omega arith;
            first = record {
              value = λ q g. m.first.value q g ∙ sym (ap (λ o. or_else o (first_of kind ps)) is);
              rest = ap (λ qs. p ∷ qs) m.first.rest ∙ sym (without-none kind p ps is);
            };
          }

  pub first-of : (ps : List VPart) (i : ℕ) → place_of kind ps ≡ Some i → IsFirst kind ps i
  first-of ps i e =
      let found = first-from 0 ps i (sym (position_from-zero (λ p. is_there (kind p)) ps) ∙ e) in
      let k : ℕ = found.at in
      let is : i ≡ 0 + k = found.is in
      let same : k ≡ i = omega arith in
      subst (λ n. IsFirst kind ps n) same found.first

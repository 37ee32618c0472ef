-- What paths and their steps name.
use Rattle.std.proofs.Common.{◌≡◌, ℕ, List, [], ◌∷◌, ◌++◌, append-nil, append_assoc, Option, Some, None, inl, inr, ap, sym, ◌∙◌, subst}
use Rattle.sv_types.specs.Meanings as S
use Rattle.sv_types.specs.Paths.{names_of_root}
use Rattle.lowering_laws.specs.NamedImages.{numbers, AreImages}
use Rattle.lowering_laws.proofs.Naming.{both-images}
use Rattle.path_flatten.specs.Naming.{SameNumbers}
use Rattle.path_flatten.proofs.Naming.{same-itself, same-by}
use Rattle.path_steps.specs.Stands.{stand_names}

-- other names of the same numbers have the same images, and other numbers that are the same are the images
pub images-of : (image : ℕ → ℕ) (xs ys : List S.Named) (us : List ℕ) → AreImages image xs us → SameNumbers (numbers xs) (numbers ys) → AreImages image ys us
images-of image xs ys us h g = record {
  all = λ n k. h.all n (g.back n k);
  only = λ q k. (let r = h.only q k in (r.0, g.there r.0 r.1, r.2));
}

pub images-like : (image : ℕ → ℕ) (xs : List S.Named) (us vs : List ℕ) → AreImages image xs us → SameNumbers us vs → AreImages image xs vs
images-like image xs us vs h g = record { all = λ n k. g.there (image n) (h.all n k); only = λ q k. h.only q (g.back q k) }

again : (r : Option ℕ) (ns ix : List S.Named) → SameNumbers (numbers (names_of_root r ns ++ ix)) (numbers (names_of_root r (names_of_root r ns ++ ix) ++ ix))
again None ns ix = same-itself (numbers ix)
again (Some n) (x ∷ ns) ix = same-itself (numbers (x ∷ ix))
again (Some n) [] [] = same-itself []
again (Some n) [] (y ∷ ix) = record { there = λ q k. inr k; back = λ q k. elim k [ inl e ↦ inl e | inr h ↦ h ] }

-- names of a path, its root's first
pub record IsNamed (e : S.Meaning) : Type 0 where
  pub root_names : List S.Named
  pub is : e.names ≡ names_of_root e.root root_names ++ e.index_names

pub stands-named : (e : S.Meaning) → IsNamed e → SameNumbers (numbers e.names) (numbers (stand_names e))
stands-named e h =
    subst (λ (l : List S.Named). SameNumbers (numbers l) (numbers (names_of_root e.root l ++ e.index_names))) (sym h.is) (again e.root h.root_names e.index_names)

-- A step names what the path before it does, and what its index does.
pub record NamedStep (e from : S.Meaning) (ix : List S.Named) : Type 0 where
  pub root : e.root ≡ from.root
  pub index : e.index_names ≡ from.index_names ++ ix
  pub names : e.names ≡ names_of_root from.root from.names ++ e.index_names

pub step-named : (e from : S.Meaning) (ix : List S.Named) → NamedStep e from ix → IsNamed e
step-named e from ix h = record { root_names = from.names; is = h.names ∙ ap (λ r. names_of_root r from.names ++ e.index_names) (sym h.root) }

pub step-images : (image : ℕ → ℕ) (e from : S.Meaning) (ix : List S.Named) (us vs ws : List ℕ) → NamedStep e from ix → AreImages image (stand_names from) us → AreImages image ix vs
    → SameNumbers (us ++ vs) ws → AreImages image (stand_names e) ws
step-images image e from ix us vs ws step h g same =
    let all : stand_names from ++ ix ≡ e.names =
    append_assoc (names_of_root from.root from.names) from.index_names ix ∙ ap (λ l. names_of_root from.root from.names ++ l) (sym step.index) ∙ sym step.names in
    let both = images-like image (stand_names from ++ ix) (us ++ vs) ws (both-images image (stand_names from) ix us vs h g) same in
    images-of image e.names (stand_names e) ws (subst (λ l. AreImages image l ws) all both) (stands-named e (step-named e from ix step))

-- a step without an index
pub fixed-images : (image : ℕ → ℕ) (e from : S.Meaning) (us : List ℕ) → NamedStep e from [] → AreImages image (stand_names from) us → AreImages image (stand_names e) us
fixed-images image e from us step h =
    step-images image e from [] us [] us step h (record { all = λ n k. absurd k; only = λ q k. absurd k }) (same-by (us ++ []) us (append-nil us))

-- Numbers and uses as sets.
use Rattle.std.proofs.Common.{◌≡◌, ℕ, ◌==◌, Bool, true, false, ◌||◌, List, [], ◌∷◌, ◌++◌, Result, Ok, Err, IfOk, refl, sym, ap, ◌∙◌}
use Rattle.v_meaning.specs.Scopes.{Use}
use Rattle.v_footprints.specs.Footprints.{uses}
use Rattle.v_footprints.proofs.Uses.{uses-both}
use Rattle.v_reads.specs.Reads.{is_among, Adds, AreOf}

pub or-assoc : (a b c : Bool) → ((a || b) || c) ≡ (a || (b || c))
or-assoc true b c = refl
or-assoc false b c = refl

pub or-none : (a : Bool) → a ≡ (a || false)
or-none true = refl
or-none false = refl

pub among-both : (xs ys : List ℕ) (n : ℕ) → is_among (xs ++ ys) n ≡ (is_among xs n || is_among ys n)
among-both [] ys n = refl
among-both (x ∷ xs) ys n = ap (λ b. (x == n) || b) (among-both xs ys n) ∙ sym (or-assoc (x == n) (is_among xs n) (is_among ys n))

pub adds-none : (old : List ℕ) (us : List Use) → us ≡ [] → Adds old old us
adds-none old us e = record { same = λ n. or-none (is_among old n) ∙ ap (λ l. is_among old n || uses l n) (sym e) }

-- numbers put behind a list
pub adds-list : (old new ns : List ℕ) (us : List Use) → new ≡ old ++ ns → AreOf ns us → Adds old new us
adds-list old new ns us e h = record { same = λ n. ap (λ l. is_among l n) e ∙ among-both old ns n ∙ ap (λ b. is_among old n || b) (h.same n) }

pub adds-one : (old new : List ℕ) (k : ℕ) (u : Use) → new ≡ old ++ k ∷ [] → k ≡ u.number → Adds old new (u ∷ [])
adds-one old new k u e is = adds-list old new (k ∷ []) (u ∷ []) e (record { same = λ n. ap (λ j. (j == n) || false) is })

pub adds-then : (old mid new : List ℕ) (xs ys : List Use) → Adds old mid xs → Adds mid new ys → Adds old new (xs ++ ys)
adds-then old mid new xs ys h g = record {
  same = λ n. g.same n ∙ ap (λ b. b || uses ys n) (h.same n) ∙ or-assoc (is_among old n) (uses xs n) (uses ys n) ∙ ap (λ b. is_among old n || b) (sym (uses-both xs ys n));
}

pub adds-same : (old new : List ℕ) (xs ys : List Use) → Adds old new xs → ((n : ℕ) → uses xs n ≡ uses ys n) → Adds old new ys
adds-same old new xs ys h e = record { same = λ n. h.same n ∙ ap (λ b. is_among old n || b) (e n) }

pub adds-equal : (old new : List ℕ) (xs ys : List Use) → Adds old new xs → xs ≡ ys → Adds old new ys
adds-equal old new xs ys h e = adds-same old new xs ys h (λ n. ap (λ l. uses l n) e)

pub unit : (us : List Use) → us ≡ us ++ []
unit [] = refl
unit (u ∷ us) = ap (λ l. u ∷ l) (unit us)

-- what is added so far, and what is left, are the whole
pub record Left (old now : List ℕ) (rest whole : List Use) : Type 0 where
  pub same : (n : ℕ) → (is_among now n || uses rest n) ≡ (is_among old n || uses whole n)

pub if-ok : {A E : Type 0} {P Q : A → Type 0} → ((x : A) → P x → Q x) → (r : Result A E) → IfOk r P → IfOk r Q
if-ok f (Ok x) h = f x h
if-ok f (Err e) h = tt

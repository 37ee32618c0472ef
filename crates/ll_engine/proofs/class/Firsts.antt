-- What the heads of a table begin with and which can be empty, from sets that a computation checks.
use Rattle.std.proofs.Common.{◌≡◌, ℕ, zero, suc, ◌^◌, Bool, true, false, not, cond, ◌&&◌, ◌||◌, List, [], ◌∷◌, slice_get, Some, refl, sym, subst}
use Rattle.std.specs.List.{list_all}
use Rattle.std.specs.Int.Bits.{bit_or}
use Rattle.std.proofs.lemmas.Bool.{and_parts, false≢true}
use Rattle.ll_engine.specs.declared.table.Part.{Part}
use Rattle.ll_engine.specs.declared.table.Part.TheVariants.{Term, Non, Maybe, Many, Chain}
use Rattle.ll_engine.specs.declared.table.Row.{Row}
use Rattle.ll_engine.specs.Grammar.{terminal, named, is_optional, IsBlank, Begins}
use Rattle.ll_engine.proofs.class.BitSets.{IsIn, are_within, in-left, in-right, in-own, in-within}

pub all-at : {A : Type 0} (test : A → Bool) (xs : List A) (i : ℕ) (x : A) → list_all test xs ≡ true → slice_get xs i ≡ Some x → test x ≡ true
all-at test [] i x e h = cc
all-at test (y ∷ ys) zero x e h = let same : y ≡ x = cc in subst (λ z. test z ≡ true) same (and_parts (test y) (list_all test ys) e).0
all-at test (y ∷ ys) (suc i) x e h = all-at test ys i x (and_parts (test y) (list_all test ys) e).1 h

pub implies : (a b : Bool) → (not a || b) ≡ true → a ≡ true → b ≡ true
implies true b e h = e
implies false b e h = absurd (false≢true h)

module _ (t : List Row) (first : ℕ → ℕ) (blank : ℕ → Bool) where
  -- whether the part may be left out, and whether all may
  abbrev pub skips : Part → Bool
  skips (Term a) = false
  skips (Non h) = blank h
  skips (Maybe h) = true
  skips (Many h) = true
  skips (Chain h) = true

  abbrev pub all_skip : List Part → Bool
  all_skip parts = list_all skips parts

  abbrev pub own_firsts : Part → ℕ
  own_firsts (Term a) = 2 ^ a
  own_firsts (Non h) = first h
  own_firsts (Maybe h) = first h
  own_firsts (Many h) = first h
  own_firsts (Chain h) = first h

  -- the symbols that the parts begin with
  abbrev pub firsts : List Part → ℕ
  firsts [] = 0
  firsts (p ∷ ps) = bit_or (own_firsts p) (cond (skips p) (firsts ps) 0)

  abbrev pub row_fits : Row → Bool
  row_fits r = are_within (firsts r.parts) (first r.head) && (not (all_skip r.parts) || blank r.head)

  module _ (closed : list_all row_fits t ≡ true) where
    optional-skips : (p : Part) → is_optional p ≡ true → skips p ≡ true
    optional-skips (Term a) e = absurd (false≢true e)
    optional-skips (Non h) e = absurd (false≢true e)
    optional-skips (Maybe h) e = refl
    optional-skips (Many h) e = refl
    optional-skips (Chain h) e = refl

    named-skips : (p : Part) (h : ℕ) → named p ≡ Some h → blank h ≡ true → skips p ≡ true
    named-skips (Term a) h e b = cc
    named-skips (Non g) h e b = let same : h ≡ g = cc in subst (λ k. blank k ≡ true) same b
    named-skips (Maybe g) h e b = refl
    named-skips (Many g) h e b = refl
    named-skips (Chain g) h e b = refl

    fits-at : (i : ℕ) (row : Row) → slice_get t i ≡ Some row
        → (are_within (firsts row.parts) (first row.head) ≡ true) × ((not (all_skip row.parts) || blank row.head) ≡ true)
    fits-at i row e = and_parts (are_within (firsts row.parts) (first row.head)) (not (all_skip row.parts) || blank row.head) (all-at row_fits t i row closed e)

    pub blank-sound : {ps : List Part} → IsBlank t ps → all_skip ps ≡ true
    blank-sound (IsBlank.nothing) = refl
    blank-sound (IsBlank.skipped {p} {ps} o h) = (λ i. optional-skips p o i && blank-sound h i)
    blank-sound (IsBlank.empty {p} {ps} {h} {i} {row} n r inner rest) =
        let b : blank h ≡ true = subst (λ k. blank k ≡ true) r.is_of (implies (all_skip row.parts) (blank row.head) (fits-at i row r.is_there).1 (blank-sound inner)) in
        (λ j. named-skips p h n b j && blank-sound rest j)

    of-term : (q : Part) (b : ℕ) → terminal q ≡ Some b → IsIn b (own_firsts q)
    of-term (Term c) b k = let same : c ≡ b = cc in subst (λ d. IsIn d (2 ^ c)) same (in-own c)
    of-term (Non h) b k = cc
    of-term (Maybe h) b k = cc
    of-term (Many h) b k = cc
    of-term (Chain h) b k = cc

    of-head : (q : Part) (g a : ℕ) → named q ≡ Some g → IsIn a (first g) → IsIn a (own_firsts q)
    of-head (Term c) g a k f = cc
    of-head (Non m) g a k f = let same : g ≡ m = cc in subst (λ d. IsIn a (first d)) same f
    of-head (Maybe m) g a k f = let same : g ≡ m = cc in subst (λ d. IsIn a (first d)) same f
    of-head (Many m) g a k f = let same : g ≡ m = cc in subst (λ d. IsIn a (first d)) same f
    of-head (Chain m) g a k f = let same : g ≡ m = cc in subst (λ d. IsIn a (first d)) same f

    pub begins-sound : {ps : List Part} {a : ℕ} → Begins t ps a → IsIn a (firsts ps)
    begins-sound (Begins.itself {p} {ps} {a} e) = in-left (own_firsts p) (cond (skips p) (firsts ps) 0) a (of-term p a e)
    begins-sound (Begins.inside {p} {ps} {a} {h} {i} {row} n r inner) =
        let f : IsIn a (first h) =
        subst (λ k. IsIn a (first k)) r.is_of (in-within (firsts row.parts) (first row.head) a (fits-at i row r.is_there).0 (begins-sound inner)) in
        in-left (own_firsts p) (cond (skips p) (firsts ps) 0) a (of-head p h a n f)
    begins-sound (Begins.behind {p} {ps} {a} b inner) =
        let s : skips p ≡ true = (and_parts (skips p) true (blank-sound b)).0 in
        in-right (own_firsts p) (cond (skips p) (firsts ps) 0) a
        (subst (λ k. IsIn a (cond k (firsts ps) 0)) (sym s) (begins-sound inner))

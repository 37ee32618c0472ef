-- What things write, and the pieces of it.
use Rattle.std.proofs.Common.{◌≡◌, ℕ, zero, suc, ◌+◌, ◌<◌, false, ◌&&◌, ◌||◌, ◌==◌, List, [], ◌∷◌, ◌++◌, map, refl, sym, ap, ◌∙◌, arith}
use Rattle.std.specs.Prelude.{slice_get}
use Rattle.std.specs.List.Sorted.{IsPermutation}
use Rattle.std.proofs.lemmas.List.Sorted.{list_any-IsPermutation}
use Rattle.std.proofs.lemmas.Bool.{eq-eqb, ne_eqb}
use Rattle.bit_sets.specs.declared.span.Span.{Span}
use Rattle.bit_sets.specs.Sets.{covers, in_spans}
use Rattle.bit_sets.proofs.Laws as L
use Rattle.bit_needs.specs.declared.footprints.Footprint.{Footprint}
use Rattle.bit_needs.specs.declared.writers.Written.{Written}
use Rattle.bit_needs.specs.Writers.{piece, pieces_from, tells, writes_it}

tells-append : (ws vs : List Written) (q n : ℕ) → tells (ws ++ vs) q n ≡ (tells ws q n || tells vs q n)
tells-append [] vs q n = refl
tells-append (w ∷ ws) vs q n =
    ap (λ b. ((w.by == q) && covers w.span n) || b) (tells-append ws vs q n) ∙ sym (L.or-assoc ((w.by == q) && covers w.span n) (tells ws q n) (tells vs q n))

tells-own : (k q n : ℕ) (ss : List Span) → k ≡ q → tells (map (piece k) ss) q n ≡ in_spans ss n
tells-own k q n [] e = sym (L.in-none n)
tells-own k q n (s ∷ ss) e =
    ap (λ b. (b && covers s n) || tells (map (piece k) ss) q n) (eq-eqb k q e) ∙ ap (λ b. covers s n || b) (tells-own k q n ss e) ∙ sym (L.in-more s ss n)

tells-other : (k q n : ℕ) (ss : List Span) → (k ≡ q → ⊥) → tells (map (piece k) ss) q n ≡ false
tells-other k q n [] ne = refl
tells-other k q n (s ∷ ss) ne = ap (λ b. (b && covers s n) || tells (map (piece k) ss) q n) (ne_eqb k q ne) ∙ tells-other k q n ss ne

-- nothing is said of things below the first one
tells-below : (k q n : ℕ) (fs : List Footprint) → q < k → tells (pieces_from k fs) q n ≡ false
tells-below k q n [] low = refl
tells-below k q n (f ∷ fs) low =
    tells-append (map (piece k) f.writes) (pieces_from (suc k) fs) q n ∙ ap (λ b. b || tells (pieces_from (suc k) fs) q n) (tells-other k q n f.writes (λ e. omega (arith, e, low)))
    ∙ tells-below (suc k) q n fs (omega arith)

tells-from : (k i n : ℕ) (fs : List Footprint) → tells (pieces_from k fs) (k + i) n ≡ writes_it (slice_get fs i) n
tells-from k i n [] = refl
tells-from k zero n (f ∷ fs) =
    tells-append (map (piece k) f.writes) (pieces_from (suc k) fs) (k + 0) n ∙ ap (λ b. b || tells (pieces_from (suc k) fs) (k + 0) n) (tells-own k (k + 0) n f.writes (omega arith))
    ∙ ap (λ b. in_spans f.writes n || b) (tells-below (suc k) (k + 0) n fs (omega arith)) ∙ L.or-false (in_spans f.writes n)
tells-from k (suc i) n (f ∷ fs) =
    tells-append (map (piece k) f.writes) (pieces_from (suc k) fs) (k + suc i) n ∙ ap (λ b. b || tells (pieces_from (suc k) fs) (k + suc i) n) (tells-other k (k + suc i) n f.writes (λ e. omega (arith, e)))
    ∙ ap (λ q. tells (pieces_from (suc k) fs) q n) (omega arith) ∙ tells-from (suc k) i n fs

-- the pieces in any order tell what the things write
pub tells-pieces : (fs : List Footprint) (ws : List Written) → IsPermutation (pieces_from 0 fs) ws → (q n : ℕ) → tells ws q n ≡ writes_it (slice_get fs q) n
tells-pieces fs ws same q n =
    sym (list_any-IsPermutation (λ (w : Written). (w.by == q) && covers w.span n) (pieces_from 0 fs) ws same)
    ∙ ap (λ p. tells (pieces_from 0 fs) p n) (omega arith) ∙ tells-from 0 q n fs

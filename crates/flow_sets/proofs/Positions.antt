-- Bits as numbers.
use Rattle.std.proofs.Common.{◌≡◌, ◌⊎◌, inl, inr, ℕ, ◌^◌, ◌<◌, ◌≤◌, Bool, true, false, ◌&&◌, ◌||◌, ◌==◌, cond, filter, List, [], ◌∷◌, ◌++◌, map, refl, ap, sym, ◌∙◌, subst, arith}
use Rattle.std.specs.Prelude.{nat_le, nat_lt}
use Rattle.std.proofs.lemmas.Bool.{le-leb, lt-leb, lt-ltb, le-ltb, and_left, and_right, eq-eqb, ne_eqb, cases_lt, cases_order}
use Rattle.row_machine.specs.Valuation.{Place}
use Rattle.bit_sets.specs.Sets.{covers, tokens_at}
use Rattle.bit_sets.proofs.Laws as L
use Rattle.sv_types.specs.Surroundings as S
use Rattle.sv_types.specs.Flows as F
use Rattle.flow_sets.specs.Bits.{position, number_of, span_of, use_of, write_of, AllShort, AreUses, AreWrites}
use Rattle.flow_sets.specs.Uses.{surely}
use Rattle.flow_sets.proofs.Early as E

le-same : (n low bit : ℕ) → nat_le (position n low) (position n bit) ≡ nat_le low bit
le-same n low bit = by (cases_lt bit low)
  where
    by : (bit < low) ⊎ (low ≤ bit) → nat_le (position n low) (position n bit) ≡ nat_le low bit
    by (inl h) = lt-leb (position n low) (position n bit) (omega (arith, h)) ∙ sym (lt-leb low bit h)
    by (inr h) = le-leb (position n low) (position n bit) (omega (arith, h)) ∙ sym (le-leb low bit h)

lt-same : (n bit high : ℕ) → nat_lt (position n bit) (position n high) ≡ nat_lt bit high
lt-same n bit high = by (cases_lt bit high)
  where
    by : (bit < high) ⊎ (high ≤ bit) → nat_lt (position n bit) (position n high) ≡ nat_lt bit high
    by (inl h) = lt-ltb (position n bit) (position n high) (omega (arith, h)) ∙ sym (lt-ltb bit high h)
    by (inr h) = le-ltb (position n bit) (position n high) (omega (arith, h)) ∙ sym (le-ltb bit high h)

covers-by : (n low high m bit : ℕ) → high < 2 ^ 32 → bit < 2 ^ 32
    → (nat_le (position n low) (position m bit) && nat_lt (position m bit) (position n high)) ≡ ((n == m) && (nat_le low bit && nat_lt bit high))
covers-by n low high m bit short small = by (cases_order n m)
  where
    same : (m : ℕ) → n ≡ m → (nat_le (position n low) (position m bit) && nat_lt (position m bit) (position n high)) ≡ ((n == m) && (nat_le low bit && nat_lt bit high))
    same m e =
        ap (λ k. nat_le (position n low) (position k bit) && nat_lt (position k bit) (position n high)) (sym e)
        ∙ ap (λ b. b && nat_lt (position n bit) (position n high)) (le-same n low bit) ∙ ap (λ b. nat_le low bit && b) (lt-same n bit high)
        ∙ ap (λ b. b && (nat_le low bit && nat_lt bit high)) (sym (eq-eqb n m e))

    apart : (m : ℕ) → (n ≡ m → ⊥) → (nat_le (position n low) (position m bit) && nat_lt (position m bit) (position n high)) ≡ false
        → (nat_le (position n low) (position m bit) && nat_lt (position m bit) (position n high)) ≡ ((n == m) && (nat_le low bit && nat_lt bit high))
    apart m ne none = none ∙ sym (ap (λ b. b && (nat_le low bit && nat_lt bit high)) (ne_eqb n m ne))

    by : (n ≡ m) ⊎ ((n < m) ⊎ (m < n)) → (nat_le (position n low) (position m bit) && nat_lt (position m bit) (position n high)) ≡ ((n == m) && (nat_le low bit && nat_lt bit high))
    by (inl e) = same m e
    by (inr (inl h)) = apart m (λ e. omega (arith, h, e)) (and_right (nat_le (position n low) (position m bit)) (nat_lt (position m bit) (position n high)) (le-ltb (position m bit) (position n high) (omega (arith, h, short))))
    by (inr (inr h)) = apart m (λ e. omega (arith, h, e)) (and_left (nat_le (position n low) (position m bit)) (nat_lt (position m bit) (position n high)) (lt-leb (position n low) (position m bit) (omega (arith, h, small))))

pub covers-is : (u : S.Use) (q : Place) → u.high < 2 ^ 32 → q.bit < 2 ^ 32 → covers (span_of u) (number_of q) ≡ F.covers u q
covers-is u q short small = covers-by u.number u.low u.high q.signal q.bit short small

-- no use, one more
pub short-none : AllShort []
unfolding AllShort
short-none = tt

pub short-more : (u : S.Use) (us : List S.Use) → AllShort (u ∷ us) → (u.high < 2 ^ 32) × AllShort us
unfolding AllShort
short-more u us h = h

pub short-from : (u : S.Use) (us : List S.Use) → u.high < 2 ^ 32 → AllShort us → AllShort (u ∷ us)
unfolding AllShort
short-from u us h rest = (h, rest)

pub short-append : (us vs : List S.Use) → AllShort us → AllShort vs → AllShort (us ++ vs)
short-append [] vs a b = b
short-append (u ∷ us) vs a b = let h = short-more u us a in short-from u (us ++ vs) h.0 (short-append us vs h.1 b)

map-append : {A B : Type 0} (f : A → B) (xs ys : List A) → map f xs ++ map f ys ≡ map f (xs ++ ys)
map-append f [] ys = refl
map-append f (x ∷ xs) ys = ap (λ zs. f x ∷ zs) (map-append f xs ys)

pub uses-append : (r a b : _) (us vs : List S.Use) → r ≡ a ++ b → AreUses a us → AreUses b vs → AreUses r (us ++ vs)
uses-append r a b us vs is h g = record {
  same = is ∙ ap (λ x. x ++ b) h.same ∙ ap (λ x. map use_of us ++ x) g.same ∙ map-append use_of us vs;
  short = short-append us vs h.short g.short;
}

pub writes-append : (r a b : _) (us vs : List S.Write) → r ≡ a ++ b → AreWrites a us → AreWrites b vs → AreWrites r (us ++ vs)
writes-append r a b us vs is h g = record {
  same = is ∙ ap (λ x. x ++ b) h.same ∙ ap (λ x. map write_of us ++ x) g.same ∙ map-append write_of us vs;
  short = subst AllShort (map-append (λ (w : S.Write). w.of) us vs) (short-append (F.uses_of us) (F.uses_of vs) h.short g.short);
}

pub no-uses : AreUses [] []
no-uses = record { same = refl; short = short-none }

pub no-writes : AreWrites [] []
no-writes = record { same = refl; short = short-none }

-- which tokens stand at a bit
kept : (b : Bool) (u : S.Use) (ts : List ℕ) (us : List S.Use) → ts ≡ map (λ (v : S.Use). v.at) us → cond b (u.at ∷ ts) ts ≡ map (λ (v : S.Use). v.at) (cond b (u ∷ us) us)
kept true u ts us is = ap (λ x. u.at ∷ x) is
kept false u ts us is = is

pub tokens-are : (us : List S.Use) (q : Place) → AllShort us → q.bit < 2 ^ 32 → tokens_at (map use_of us) (number_of q) ≡ map (λ (u : S.Use). u.at) (filter (λ u. F.covers u q) us)
tokens-are [] q short small = L.tokens-none (number_of q)
tokens-are (u ∷ us) q short small =
    let h = short-more u us short in
    L.tokens-more (use_of u) (map use_of us) (number_of q)
    ∙ ap (λ b. cond b (u.at ∷ tokens_at (map use_of us) (number_of q)) (tokens_at (map use_of us) (number_of q))) (covers-is u q h.0 small)
    ∙ kept (F.covers u q) u (tokens_at (map use_of us) (number_of q)) (filter (λ v. F.covers v q) us) (tokens-are us q h.1 small)

pub surely-are : (ws : List S.Write) (q : Place) → AllShort (F.uses_of ws) → q.bit < 2 ^ 32 → surely (map write_of ws) (number_of q) ≡ F.surely_written ws q
surely-are [] q short small = E.surely-none (number_of q)
surely-are (w ∷ ws) q short small =
    let h = short-more w.of (F.uses_of ws) short in
    E.surely-more (write_of w) (map write_of ws) (number_of q) ∙ ap (λ b. (w.exact && b) || surely (map write_of ws) (number_of q)) (covers-is w.of q h.0 small)
    ∙ ap (λ b. (w.exact && F.covers w.of q) || b) (surely-are ws q h.1 small)

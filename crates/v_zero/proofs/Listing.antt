-- The signals that a process names, in a list.
use Rattle.std.proofs.Common.{◌≡◌, ◌≢◌, ℕ, zero, suc, ◌+◌, ◌<◌, ◌≤◌, ◌==◌, Bool, true, false, not, ◌||◌, cond, filter, List, [], ◌∷◌, ◌++◌, length, map, refl, sym, ap, ◌∙◌, subst, arith, length-set, get_or-set_other, get_or-set_same}
use Rattle.std.specs.Prelude.{slice_index, slice_set}
use Rattle.std.specs.List.{list_any}
use Rattle.std.proofs.lemmas.Bool.Decides.{nat_tests}
use Rattle.b4_core.specs.Bits.{same4}
use Rattle.b4_core.specs.declared.bit.Bit4.{Bit4}
use Rattle.b4_core.specs.declared.bit.Bit4.TheVariants.{Zero, One, X, Z}
use Rattle.row_machine.specs.Places as P
use Rattle.row_machine.specs.Settle.{same_bit, differs}
use Rattle.row_machine.specs.Valuation.{Place, Valuation}
use Rattle.round_runner.specs.Stores.{holding, widths}
use Rattle.v_meaning.specs.Machine.{size, places_from, given, initial, names_of}
use Rattle.v_meaning.specs.Modules.{Signal}
use Rattle.v_stores.specs.Waits.{place, all_places, is_named, named_places}
use Rattle.v_zero.specs.Zero.{Once, Listed}
use Rattle.v_zero.specs.Laws.{NamesAreListed, TriggeredByListed}

-- bits of signals that are there
filter-first : (f g : Place → Bool) (n j w : ℕ) (xs ys : List Place) → ((k : ℕ) → f (place n k) ≡ g (place n k)) → filter f xs ≡ filter g ys → filter f (P.places_from n j w ++ xs) ≡ filter g (P.places_from n j w ++ ys)
filter-first f g n j zero xs ys h e = e
filter-first f g n j (suc w) xs ys h e =
    ap (λ b. cond b (place n j ∷ filter f (P.places_from n (suc j) w ++ xs)) (filter f (P.places_from n (suc j) w ++ xs))) (h j)
    ∙ ap (λ r. cond (g (place n j)) (place n j ∷ r) r) (filter-first f g n (suc j) w xs ys h e)

filter-there : (f g : Place → Bool) (n : ℕ) (ss : List Signal) → ((m k : ℕ) → m < n + length ss → f (place m k) ≡ g (place m k)) → filter f (places_from n ss) ≡ filter g (all_places n (map size ss))
filter-there f g n [] h = refl
filter-there f g n (s ∷ ss) h =
    filter-first f g n 0 (size s) (places_from (suc n) ss) (all_places (suc n) (map size ss)) (λ k. h n k (omega arith)) (filter-there f g (suc n) ss (λ m k l. h m k (omega (arith, l))))

pub names-listed : NamesAreListed
names-listed own d p listed h =
    filter-there (λ q. is_named (p.does.names p.scope) q.signal) (λ q. is_named listed q.signal) 0 d.signals (λ m k l. sym (h m (omega (arith, l))))

-- bits that differ
same-bits : (a b : Bit4) → same4 a b ≡ same_bit a b
same-bits Zero Zero = refl
same-bits Zero One = refl
same-bits Zero X = refl
same-bits Zero Z = refl
same-bits One Zero = refl
same-bits One One = refl
same-bits One X = refl
same-bits One Z = refl
same-bits X Zero = refl
same-bits X One = refl
same-bits X X = refl
same-bits X Z = refl
same-bits Z Zero = refl
same-bits Z One = refl
same-bits Z X = refl
same-bits Z Z = refl

any-differs : (v u : Valuation) (qs : List Place) → list_any (λ q. not (same4 (v q) (u q))) qs ≡ differs qs v u
any-differs v u [] = refl
any-differs v u (q ∷ qs) = ap (λ b. not b || list_any (λ q. not (same4 (v q) (u q))) qs) (same-bits (v q) (u q)) ∙ ap (λ b. not (same_bit (v q) (u q)) || b) (any-differs v u qs)

pub triggered-listed : TriggeredByListed
triggered-listed own d p listed now was h held before =
    any-differs (given own d) (initial own d) (names_of own d p)
    ∙ ap (λ qs. differs qs (given own d) (initial own d)) (names-listed own d p listed h ∙ ap (named_places listed) (sym before.shape))
    ∙ ap (λ v. differs (named_places listed (widths was)) v (initial own d)) (sym held.values)
    ∙ ap (λ u. differs (named_places listed (widths was)) (holding now) u) (sym before.values)

-- one name more
or-none : (b : Bool) → (b || false) ≡ b
or-none true = refl
or-none false = refl

or-joined : (a b c : Bool) → (a || (b || c)) ≡ ((a || b) || c)
or-joined true b c = refl
or-joined false b c = refl

named-more : (ns : List ℕ) (n m : ℕ) → is_named (ns ++ n ∷ []) m ≡ (is_named ns m || (n == m))
named-more [] n m = or-none (n == m)
named-more (x ∷ ns) n m = ap (λ b. (x == m) || b) (named-more ns n m) ∙ or-joined (x == m) (is_named ns m) (n == m)

same-number : (a b : ℕ) → (a == b) ≡ true → a ≡ b
same-number a b h = grind (arith, nat_tests)

other-number : (a b : ℕ) → (a == b) ≡ false → b ≢ a
other-number a b h = grind (arith, nat_tests)

or-right : (b c : Bool) → c ≡ true → (b || c) ≡ true
or-right true c e = refl
or-right false c e = e

or-left : (b c : Bool) → b ≡ true → (b || c) ≡ true
or-left true c e = refl
or-left false c e = absurd (cc)

or-no : (b c : Bool) → b ≡ false → c ≡ false → (b || c) ≡ false
or-no true c e h = absurd (cc)
or-no false c e h = h

or-either : (P : Type 0) (b c : Bool) → (b || c) ≡ true → (b ≡ true → P) → (c ≡ true → P) → P
or-either P true c h f g = f refl
or-either P false c h f g = g h

or-first : (b c : Bool) → (b || c) ≡ false → b ≡ false
or-first true c h = absurd (cc)
or-first false c h = refl

or-second : (b c : Bool) → (b || c) ≡ false → c ≡ false
or-second true c h = absurd (cc)
or-second false c h = h

once-more : (ns : List ℕ) (n : ℕ) → Once ns → is_named ns n ≡ false → Once (ns ++ n ∷ [])
once-more [] n h e = (refl, tt)
once-more (x ∷ ns) n h e = (
  named-more ns n x ∙ or-no (is_named ns x) (n == x) h.0 (turned x n (or-first (x == n) (is_named ns n) e)),
  once-more ns n h.1 (or-second (x == n) (is_named ns n) e),
)
  where
    turned : (a b : ℕ) → (a == b) ≡ false → (b == a) ≡ false
    turned a b h = grind (arith, nat_tests)

not-true : (b : Bool) → (b ≡ true → ⊥) → b ≡ false
not-true true h = absurd (h refl)
not-true false h = refl

set-same : (marks : List ℕ) (n mark m : ℕ) → n < length marks → n ≡ m → slice_index (slice_set marks n mark) m ≡ mark
set-same marks n mark m l e = ap (λ k. slice_index (slice_set marks n mark) k) (sym e) ∙ get_or-set_same marks n mark 0 l

set-other : (marks : List ℕ) (n mark m : ℕ) → m ≢ n → slice_index (slice_set marks n mark) m ≡ slice_index marks m
set-other marks n mark m e = get_or-set_other marks n m mark 0 e

-- a signal that is listed now
pub listed-new : (mark n : ℕ) (named marks listed : List ℕ) → n < length marks → slice_index marks n ≢ mark → Listed mark named marks listed → Listed mark (named ++ n ∷ []) (slice_set marks n mark) (listed ++ n ∷ [])
listed-new mark n named marks listed l fresh old = record {
  same = λ m h. named-more listed n m ∙ (ap (λ b. b || (n == m)) (old.same m (shorter m h)) ∙ sym (named-more named n m));
  there = λ m h. longer m (or-either (m < length marks) (is_named listed m) (n == m) (sym (named-more listed n m) ∙ h) (old.there m) (λ e. subst (λ k. k < length marks) (same-number n m e) l));
  once = once-more listed n old.once (not-true (is_named listed n) (λ e. fresh (old.is_marked n e)));
  newest = λ m h. newest m (shorter m h) (n == m) refl;
  is_marked = λ m h. or-either (slice_index (slice_set marks n mark) m ≡ mark) (is_named listed m) (n == m) (sym (named-more listed n m) ∙ h) (λ e. marked m e (n == m) refl) (λ e. set-same marks n mark m l (same-number n m e));
  is_listed = λ m h e. named-more listed n m ∙ there m (shorter m h) e (n == m) refl;
}
  where
    long : length (slice_set marks n mark) ≡ length marks
    long = length-set marks n mark

    shorter : (m : ℕ) → m < length (slice_set marks n mark) → m < length marks
    shorter m h = subst (λ k. m < k) long h

    longer : (m : ℕ) → m < length marks → m < length (slice_set marks n mark)
    longer m h = subst (λ k. m < k) (sym long) h

    newest : (m : ℕ) → m < length marks → (b : Bool) → (n == m) ≡ b → slice_index (slice_set marks n mark) m ≤ mark
    newest m h true e = let s = set-same marks n mark m l (same-number n m e) in omega (arith, s)
    newest m h false e = let s = set-other marks n mark m (other-number n m e) in let g = old.newest m h in omega (arith, s, g)

    marked : (m : ℕ) → is_named listed m ≡ true → (b : Bool) → (n == m) ≡ b → slice_index (slice_set marks n mark) m ≡ mark
    marked m h true e = set-same marks n mark m l (same-number n m e)
    marked m h false e = set-other marks n mark m (other-number n m e) ∙ old.is_marked m h

    there : (m : ℕ) → m < length marks → slice_index (slice_set marks n mark) m ≡ mark → (b : Bool) → (n == m) ≡ b → (is_named listed m || (n == m)) ≡ true
    there m h g true e = or-right (is_named listed m) (n == m) e
    there m h g false e = or-left (is_named listed m) (n == m) (old.is_listed m h (sym (set-other marks n mark m (other-number n m e)) ∙ g))

-- A table is of the class where sets say so that a computation checks: what each head begins with, what it can begin with where
-- all is left out that may be, what can follow it, and two ranks.
use Rattle.std.proofs.Common.{◌≡◌, ℕ, zero, suc, ◌<◌, ◌≤◌, ◌^◌, max, ◌==◌, nat_lt, Bool, true, false, not, cond, ◌&&◌, ◌||◌, List, [], ◌∷◌, drop, length, slice_get, Option, Some, None, inl, inr, eq-eqb, eqb-true, ltb-true, refl, sym, ap, subst, ◌∙◌, arith}
use Rattle.std.specs.List.{list_all, list_any}
use Rattle.std.specs.Int.Bits.{bit_or}
use Rattle.std.proofs.lemmas.Bool.{and_parts, or_cases, false≢true}
use Rattle.ll_engine.specs.declared.table.Part.{Part}
use Rattle.ll_engine.specs.declared.table.Part.TheVariants.{Term, Non, Maybe, Many, Chain}
use Rattle.ll_engine.specs.declared.table.Row.{Row}
use Rattle.ll_engine.specs.Grammar.{terminal, named, is_repeated, IsRowOf, HasPart, IsBlank, Begins, HasText}
use Rattle.ll_engine.specs.Class.{Leads, Follows, ComesAt, StartsWith, LeadsTo, IsFit}
use Rattle.ll_engine.proofs.class.BitSets.{IsIn, are_within, disjoint, in-left, in-right, in-own, in-within, apart}
use Rattle.ll_engine.proofs.class.Firsts.{all-at, implies}
use Rattle.ll_engine.proofs.class.Firsts as Firsts

contradicts : (a : Bool) → not a ≡ true → a ≡ true → ⊥
contradicts true e h = false≢true e
contradicts false e h = false≢true h

-- a test of each part with those behind it
abbrev pub each_part : (Part → List Part → Bool) → List Part → Bool
each_part test [] = true
each_part test (p ∷ ps) = test p ps && each_part test ps

part-at : (test : Part → List Part → Bool) (parts : List Part) (n : ℕ) (p : Part) (ps : List Part) → each_part test parts ≡ true → drop n parts ≡ p ∷ ps → test p ps ≡ true
part-at test [] zero p ps e h = cc
part-at test [] (suc n) p ps e h = cc
part-at test (q ∷ qs) zero p ps e h =
    let same : q ≡ p = cc in let rest : qs ≡ ps = cc in
    subst (λ x. test x ps ≡ true) same (subst (λ x. test q x ≡ true) rest (and_parts (test q qs) (each_part test qs) e).0)
part-at test (q ∷ qs) (suc n) p ps e h = part-at test qs n p ps (and_parts (test q qs) (each_part test qs) e).1 h

-- a test of each item with each behind it
abbrev pub each_pair : {A : Type 0} → (A → A → Bool) → List A → Bool
each_pair test [] = true
each_pair test (x ∷ xs) = list_all (test x) xs && each_pair test xs

pair-at : {A : Type 0} (test : A → A → Bool) (xs : List A) (i j : ℕ) (x y : A) → each_pair test xs ≡ true
    → slice_get xs i ≡ Some x → slice_get xs j ≡ Some y → i < j → test x y ≡ true
pair-at test [] i j x y e g h l = cc
pair-at test (z ∷ xs) zero zero x y e g h l = absurd (omega arith)
pair-at test (z ∷ xs) zero (suc j) x y e g h l =
    let same : z ≡ x = cc in
    subst (λ q. test q y ≡ true) same (all-at (test z) xs j y (and_parts (list_all (test z) xs) (each_pair test xs) e).0 h)
pair-at test (z ∷ xs) (suc i) zero x y e g h l = absurd (omega arith)
pair-at test (z ∷ xs) (suc i) (suc j) x y e g h l =
    let less : i < j = omega arith in
    pair-at test xs i j x y (and_parts (list_all (test z) xs) (each_pair test xs) e).1 g h less

-- an item that passes
record Passing {A : Type 0} (test : A → Bool) (xs : List A) : Type 0 where
  at : ℕ
  item : A
  is_there : slice_get xs at ≡ Some item
  passes : test item ≡ true

passing : {A : Type 0} (test : A → Bool) (xs : List A) → list_any test xs ≡ true → Passing test xs
passing test [] e = absurd (false≢true e)
passing test (x ∷ xs) e =
    elim (or_cases (test x) (list_any test xs) e) [
      | inl h ↦ record { at = zero; item = x; is_there = refl; passes = h }
      | inr h ↦ (let p = passing test xs h in record { at = suc p.at; item = p.item; is_there = p.is_there; passes = p.passes })
    ]

module _ (t : List Row) (first : ℕ → ℕ) (blank : ℕ → Bool) (lead follow rank size : ℕ → ℕ) where
  abbrev pub skips : Part → Bool
  skips p = Firsts.skips t first blank p

  abbrev pub all_skip : List Part → Bool
  all_skip ps = Firsts.all_skip t first blank ps

  abbrev pub firsts : List Part → ℕ
  firsts ps = Firsts.firsts t first blank ps

  -- the symbols that come first where each part is left out that may be
  abbrev pub leads : List Part → ℕ
  leads [] = 0
  leads (Term a ∷ ps) = 2 ^ a
  leads (Non h ∷ ps) = bit_or (lead h) (cond (blank h) (leads ps) 0)
  leads (Maybe h ∷ ps) = leads ps
  leads (Many h ∷ ps) = leads ps
  leads (Chain h ∷ ps) = leads ps

  abbrev pub above : Option ℕ → ℕ
  above None = 0
  above (Some h) = suc (rank h)

  -- a number above the ranks of the heads that the parts can start with
  abbrev pub starts_bound : List Part → ℕ
  starts_bound [] = 0
  starts_bound (p ∷ ps) = max (above (named p)) (cond (skips p) (starts_bound ps) 0)

  -- each head that the parts must be read by has a smaller text
  abbrev pub are_smaller : ℕ → List Part → Bool
  are_smaller n [] = true
  are_smaller n (Term a ∷ ps) = are_smaller n ps
  are_smaller n (Non h ∷ ps) = nat_lt (size h) n && are_smaller n ps
  are_smaller n (Maybe h ∷ ps) = are_smaller n ps
  are_smaller n (Many h ∷ ps) = are_smaller n ps
  are_smaller n (Chain h ∷ ps) = are_smaller n ps

  abbrev pub is_row : ℕ → Row → Bool
  is_row h r = r.head == h

  abbrev pub is_small_row : ℕ → Row → Bool
  is_small_row h r = is_row h r && are_smaller (size h) r.parts

  abbrev pub follow_test : ℕ → List Part → ℕ → Bool
  follow_test head ps h = are_within (leads ps) (follow h) && (not (all_skip ps) || are_within (follow head) (follow h))

  abbrev pub name_test : ℕ → Part → List Part → Option ℕ → Bool
  name_test head p ps None = true
  name_test head p ps (Some h) = list_any (is_row h) t && (follow_test head ps h && (not (is_repeated p) || not (blank h)))

  abbrev pub decided_test : ℕ → Part → List Part → Bool
  decided_test head p ps = not (skips p) || (disjoint (firsts (p ∷ [])) (leads ps) && (not (all_skip ps) || disjoint (firsts (p ∷ [])) (follow head)))

  abbrev pub part_test : ℕ → Part → List Part → Bool
  part_test head p ps = name_test head p ps (named p) && decided_test head p ps

  abbrev pub row_test : Row → Bool
  row_test r =
      are_within (leads r.parts) (lead r.head) && (nat_lt (starts_bound r.parts) (suc (rank r.head))
      && (list_any (is_small_row r.head) t && each_part (part_test r.head) r.parts))

  -- rows of one head begin apart, and no two of them can be empty
  abbrev pub pair_test : Row → Row → Bool
  pair_test r s = not (r.head == s.head) || (disjoint (firsts r.parts) (firsts s.parts) && not (all_skip r.parts && all_skip s.parts))

  module _ (closed : list_all (Firsts.row_fits t first blank) t ≡ true) (tested : list_all row_test t ≡ true) where
    -- what a row was tested for
    record Tested (row : Row) : Type 0 where
      leads_in : are_within (leads row.parts) (lead row.head) ≡ true
      ranked : nat_lt (starts_bound row.parts) (suc (rank row.head)) ≡ true
      text : list_any (is_small_row row.head) t ≡ true
      parts : each_part (part_test row.head) row.parts ≡ true

    tested-at : (i : ℕ) (row : Row) → slice_get t i ≡ Some row → Tested row
    tested-at i row e =
        let a = and_parts (are_within (leads row.parts) (lead row.head)) _ (all-at row_test t i row tested e) in
        let b = and_parts (nat_lt (starts_bound row.parts) (suc (rank row.head))) _ a.1 in
        let c = and_parts (list_any (is_small_row row.head) t) _ b.1 in
        record { leads_in = a.0; ranked = b.0; text = c.0; parts = c.1 }

    part-tested : (i : ℕ) (row : Row) → slice_get t i ≡ Some row → (n : ℕ) (p : Part) (ps : List Part) → HasPart row.parts n p ps
        → part_test row.head p ps ≡ true
    part-tested i row e n p ps h = part-at (part_test row.head) row.parts n p ps (tested-at i row e).parts h.cut

    skipped : (p : Part) → IsBlank t (p ∷ []) → skips p ≡ true
    skipped p b = (and_parts (skips p) true (Firsts.blank-sound t first blank closed b)).0

    lead-here : (p : Part) (ps : List Part) (h a : ℕ) → named p ≡ Some h → (IsBlank t (p ∷ []) → ⊥) → IsIn a (lead h) → IsIn a (leads (p ∷ ps))
    lead-here (Term b) ps h a e n k = cc
    lead-here (Non g) ps h a e n k =
        let same : h ≡ g = cc in
        in-left (lead g) (cond (blank g) (leads ps) 0) a (subst (λ x. IsIn a (lead x)) same k)
    lead-here (Maybe g) ps h a e n k = absurd (n (IsBlank.skipped refl IsBlank.nothing))
    lead-here (Many g) ps h a e n k = absurd (n (IsBlank.skipped refl IsBlank.nothing))
    lead-here (Chain g) ps h a e n k = absurd (n (IsBlank.skipped refl IsBlank.nothing))

    lead-behind : (p : Part) (ps : List Part) (a : ℕ) → skips p ≡ true → IsIn a (leads ps) → IsIn a (leads (p ∷ ps))
    lead-behind (Term b) ps a e k = absurd (false≢true e)
    lead-behind (Non g) ps a e k =
        in-right (lead g) (cond (blank g) (leads ps) 0) a (subst (λ b. IsIn a (cond b (leads ps) 0)) (sym e) k)
    lead-behind (Maybe g) ps a e k = k
    lead-behind (Many g) ps a e k = k
    lead-behind (Chain g) ps a e k = k

    lead-term : (p : Part) (ps : List Part) (a : ℕ) → terminal p ≡ Some a → IsIn a (leads (p ∷ ps))
    lead-term (Term b) ps a e = let same : b ≡ a = cc in subst (λ c. IsIn c (2 ^ b)) same (in-own b)
    lead-term (Non g) ps a e = cc
    lead-term (Maybe g) ps a e = cc
    lead-term (Many g) ps a e = cc
    lead-term (Chain g) ps a e = cc

    leads-sound : {ps : List Part} {a : ℕ} → Leads t ps a → IsIn a (leads ps)
    leads-sound (Leads.itself {p} {ps} {a} e) = lead-term p ps a e
    leads-sound (Leads.inside {p} {ps} {a} {h} {i} {row} n b r inner) =
        lead-here p ps h a n b
        (subst (λ k. IsIn a (lead k)) r.is_of (in-within (leads row.parts) (lead row.head) a (tested-at i row r.is_there).leads_in (leads-sound inner)))
    leads-sound (Leads.behind {p} {ps} {a} b inner) = lead-behind p ps a (skipped p b) (leads-sound inner)

    abbrev pub InFollow : ℕ → Option ℕ → Type 0
    InFollow h None = Unit {0}
    InFollow h (Some a) = IsIn a (follow h)

    -- what a part that names a head was tested for
    record Named (head h : ℕ) (p : Part) (ps : List Part) : Type 0 where
      known : list_any (is_row h) t ≡ true
      before : are_within (leads ps) (follow h) ≡ true
      last : all_skip ps ≡ true → are_within (follow head) (follow h) ≡ true
      repeats : is_repeated p ≡ true → not (blank h) ≡ true

    named-tested : (head h : ℕ) (p : Part) (ps : List Part) → part_test head p ps ≡ true → named p ≡ Some h → Named head h p ps
    named-tested head h p ps e n =
        let test : name_test head p ps (Some h) ≡ true =
        subst (λ o. name_test head p ps o ≡ true) n (and_parts (name_test head p ps (named p)) _ e).0 in
        let a = and_parts (list_any (is_row h) t) _ test in
        let b = and_parts (follow_test head ps h) _ a.1 in
        let c = and_parts (are_within (leads ps) (follow h)) _ b.0 in
        record {
          known = a.0;
          before = c.0;
          last = λ s. implies (all_skip ps) (are_within (follow head) (follow h)) c.1 s;
          repeats = λ r. implies (is_repeated p) (not (blank h)) b.1 r;
        }

    follow-more : (g h : ℕ) (x : Option ℕ) → are_within (follow g) (follow h) ≡ true → InFollow g x → InFollow h x
    follow-more g h None e k = tt
    follow-more g h (Some a) e k = in-within (follow g) (follow h) a e k

    follows-sound : {h : ℕ} {x : Option ℕ} → Follows t h x → InFollow h x
    follows-sound (Follows.at_end r) = tt
    follows-sound (Follows.before {h} {g} {i} {n} {a} {row} {p} {ps} r hp nm l) =
        let k = named-tested row.head h p ps (part-tested i row r.is_there n p ps hp) nm in
        in-within (leads ps) (follow h) a k.before (leads-sound l)
    follows-sound (Follows.last {h} {g} {i} {n} {x} {row} {p} {ps} r hp nm b f) =
        let k = named-tested row.head h p ps (part-tested i row r.is_there n p ps hp) nm in
        follow-more row.head h x (k.last (Firsts.blank-sound t first blank closed b)) (subst (λ q. InFollow q x) (sym r.is_of) (follows-sound f))

    below-left : (x y z : ℕ) → suc x ≤ z → suc x ≤ max z y
    below-left x y z h = omega arith

    below-right : (x y z : ℕ) → suc x ≤ y → suc x ≤ max z y
    below-right x y z h = omega arith

    named-below : (o : Option ℕ) (h : ℕ) → o ≡ Some h → suc (rank h) ≤ above o
    named-below None h e = cc
    named-below (Some g) h e = let same : g ≡ h = cc in subst (λ k. suc (rank h) ≤ suc (rank k)) (sym same) (omega arith)

    starts-below : {ps : List Part} {g : ℕ} → StartsWith t ps g → suc (rank g) ≤ starts_bound ps
    starts-below (StartsWith.first {p} {ps} {h} n) =
        below-left (rank h) (cond (skips p) (starts_bound ps) 0) (above (named p)) (named-below (named p) h n)
    starts-below (StartsWith.behind {p} {ps} {h} b inner) =
        below-right (rank h) (cond (skips p) (starts_bound ps) 0) (above (named p))
        (subst (λ k. suc (rank h) ≤ cond k (starts_bound ps) 0) (sym (skipped p b)) (starts-below inner))

    start-falls : (h g i : ℕ) (row : Row) → IsRowOf t h i row → StartsWith t row.parts g → rank g < rank h
    start-falls h g i row r s =
        let bound : starts_bound row.parts < suc (rank row.head) = ltb-true (starts_bound row.parts) (suc (rank row.head)) (tested-at i row r.is_there).ranked in
        let below : suc (rank g) ≤ starts_bound row.parts = starts-below s in
        subst (λ k. rank g < rank k) r.is_of (omega (arith, bound, below))

    leads-to-falls : {h g : ℕ} → LeadsTo t h g → rank g < rank h
    leads-to-falls (LeadsTo.directly {h} {g} {i} {row} r s) = start-falls h g i row r s
    leads-to-falls (LeadsTo.through {h} {m} {g} {i} {row} r s l) =
        let down = start-falls h m i row r s in
        let rest = leads-to-falls l in
        omega (arith, down, rest)

    -- a row of the head with a finite text
    record RowText (h : ℕ) : Type 0 where
      at : ℕ
      row : Row
      is_its : IsRowOf t h at row
      text : HasText t row.parts

    known-head : (h : ℕ) → list_any (is_row h) t ≡ true → (i : ℕ) × (r : Row) × IsRowOf t h i r
    known-head h e =
        let found = passing (is_row h) t e in
        (found.at, found.item, record { is_there = found.is_there; is_of = eqb-true found.item.head h found.passes })

    small-row : (h : ℕ) → list_any (is_row h) t ≡ true → list_any (is_small_row h) t ≡ true
    small-row h e =
        let k = known-head h e in
        subst (λ g. list_any (is_small_row g) t ≡ true) k.2.is_of (tested-at k.0 k.1 k.2.is_there).text

    parts-text : (n : ℕ) → ((h : ℕ) → size h < n → list_any (is_row h) t ≡ true → RowText h)
        → (head : ℕ) (ps : List Part) → each_part (part_test head) ps ≡ true → are_smaller n ps ≡ true → HasText t ps
    parts-text n each head [] k e = HasText.nothing
    parts-text n each head (Term a ∷ ps) k e = HasText.symbol refl (parts-text n each head ps (and_parts (part_test head (Term a) ps) _ k).1 e)
    parts-text n each head (Non h ∷ ps) k e =
        let tests = and_parts (part_test head (Non h) ps) (each_part (part_test head) ps) k in
        let less = and_parts (nat_lt (size h) n) (are_smaller n ps) e in
        let r = each h (ltb-true (size h) n less.0) (named-tested head h (Non h) ps tests.0 refl).known in
        HasText.row refl r.is_its r.text (parts-text n each head ps tests.1 less.1)
    parts-text n each head (Maybe h ∷ ps) k e = HasText.skipped refl (parts-text n each head ps (and_parts (part_test head (Maybe h) ps) _ k).1 e)
    parts-text n each head (Many h ∷ ps) k e = HasText.skipped refl (parts-text n each head ps (and_parts (part_test head (Many h) ps) _ k).1 e)
    parts-text n each head (Chain h ∷ ps) k e = HasText.skipped refl (parts-text n each head ps (and_parts (part_test head (Chain h) ps) _ k).1 e)

    head-text : (n h : ℕ) → size h < n → list_any (is_row h) t ≡ true → RowText h
    head-text zero h l e = absurd (omega arith)
    head-text (suc n) h l e =
        let found = passing (is_small_row h) t (small-row h e) in
        let parts = and_parts (is_row h found.item) (are_smaller (size h) found.item.parts) found.passes in
        record {
          at = found.at;
          row = found.item;
          is_its = record { is_there = found.is_there; is_of = eqb-true found.item.head h parts.0 };
          text = parts-text (size h) (λ g m k. head-text n g (omega (arith, l, m)) k) found.item.head found.item.parts
              (tested-at found.at found.item found.is_there).parts parts.1;
        }

    row-text : (i : ℕ) (row : Row) → slice_get t i ≡ Some row → HasText t (Non row.head ∷ [])
    row-text i row e =
        let found = passing (is_small_row row.head) t (tested-at i row e).text in
        let parts = and_parts (is_row row.head found.item) (are_smaller (size row.head) found.item.parts) found.passes in
        HasText.row refl (record { is_there = found.is_there; is_of = eqb-true found.item.head row.head parts.0 })
        (parts-text (size row.head) (λ g m k. head-text (size row.head) g m k) found.item.head found.item.parts
        (tested-at found.at found.item found.is_there).parts parts.1) HasText.nothing

    decided-sound : (head a : ℕ) (p : Part) (ps : List Part) → part_test head p ps ≡ true → IsBlank t (p ∷ []) → Begins t (p ∷ []) a
        → ComesAt t (Follows t head) ps (Some a) → ⊥
    decided-sound head a p ps e b begins comes =
        let test = (and_parts (name_test head p ps (named p)) (decided_test head p ps) e).1 in
        let both = implies (skips p) (disjoint (firsts (p ∷ [])) (leads ps) && (not (all_skip ps) || disjoint (firsts (p ∷ [])) (follow head))) test (skipped p b) in
        let parts = and_parts (disjoint (firsts (p ∷ [])) (leads ps)) (not (all_skip ps) || disjoint (firsts (p ∷ [])) (follow head)) both in
        let here : IsIn a (firsts (p ∷ [])) = Firsts.begins-sound t first blank closed begins in
        elim comes [
          | ComesAt.here l ↦ apart (firsts (p ∷ [])) (leads ps) a parts.0 here (leads-sound l)
          | ComesAt.later q f ↦
              apart (firsts (p ∷ [])) (follow head) a
              (implies (all_skip ps) (disjoint (firsts (p ∷ [])) (follow head)) parts.1 (Firsts.blank-sound t first blank closed q)) here (follows-sound f)
        ]

    module _ (pairs : each_pair pair_test t ≡ true) where
      pair-tested : (h i j : ℕ) (r s : Row) → IsRowOf t h i r → IsRowOf t h j s → i < j
          → (disjoint (firsts r.parts) (firsts s.parts) && not (all_skip r.parts && all_skip s.parts)) ≡ true
      pair-tested h i j r s a b l =
          implies (r.head == s.head) _ (pair-at pair_test t i j r s pairs a.is_there b.is_there l) (eq-eqb r.head s.head (a.is_of ∙ sym b.is_of))

      begin-apart : (h i j a : ℕ) (r s : Row) → IsRowOf t h i r → IsRowOf t h j s → i < j → Begins t r.parts a → Begins t s.parts a → ⊥
      begin-apart h i j a r s x y l b c =
          apart (firsts r.parts) (firsts s.parts) a (and_parts (disjoint (firsts r.parts) (firsts s.parts)) _ (pair-tested h i j r s x y l)).0
          (Firsts.begins-sound t first blank closed b) (Firsts.begins-sound t first blank closed c)

      blank-apart : (h i j : ℕ) (r s : Row) → IsRowOf t h i r → IsRowOf t h j s → i < j → IsBlank t r.parts → IsBlank t s.parts → ⊥
      blank-apart h i j r s x y l b c =
          contradicts (all_skip r.parts && all_skip s.parts) (and_parts (disjoint (firsts r.parts) (firsts s.parts)) _ (pair-tested h i j r s x y l)).1
          (λ k. Firsts.blank-sound t first blank closed b k && Firsts.blank-sound t first blank closed c k)

      same-or-apart : (i j : ℕ) → (i < j → ⊥) → (j < i → ⊥) → i ≡ j
      same-or-apart zero zero f g = refl
      same-or-apart zero (suc j) f g = absurd (f (omega arith))
      same-or-apart (suc i) zero f g = absurd (g (omega arith))
      same-or-apart (suc i) (suc j) f g = ap suc (same-or-apart i j (λ l. f (omega arith)) (λ l. g (omega arith)))

      pub fit : 0 < length t → IsFit t
      fit some = record {
        has_rows = some;
        keeps = λ at h row is_row. record {
          one_begins = λ i j a r s x y b c.
              same-or-apart i j (λ l. begin-apart row.head i j a r s x y l b c) (λ l. begin-apart row.head j i a s r y x l c b);
          one_blank = λ i j r s x y b c.
              same-or-apart i j (λ l. blank-apart row.head i j r s x y l b c) (λ l. blank-apart row.head j i s r y x l c b);
          repeats = λ n g p ps hp r nm b.
              contradicts (blank g) ((named-tested row.head g p ps (part-tested at row is_row.is_there n p ps hp) nm).repeats r) (skipped (Non g) b);
          not_left_recursive = λ l. (let down = leads-to-falls l in absurd (omega (arith, down)));
          has_text = row-text at row is_row.is_there;
          known = λ n g p ps hp nm. known-head g (named-tested row.head g p ps (part-tested at row is_row.is_there n p ps hp) nm).known;
          decided = λ n a p ps hp b begins comes. decided-sound row.head a p ps (part-tested at row is_row.is_there n p ps hp) b begins comes;
        };
      }

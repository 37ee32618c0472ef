-- The checks of the rows say that the table is of the class.
use Rattle.std.proofs.Common.{◌≡◌, ◌+◌, ◌<◌, ◌&&◌, ◌||◌, inl, inr, not, ℕ, zero, suc, List, [], ◌∷◌, Option, Some, None, Bool, true, false, cond, refl, sym, ◌∙◌, ap, subst, slice_get, get_or, drop, length, arith}
use Rattle.std.specs.Prelude.{nat_eq, is_none}
use Rattle.ll_engine.specs.declared.table.Part.{Part}
use Rattle.ll_engine.specs.declared.table.Part.TheVariants.{Term, Non, Maybe, Many, Chain}
use Rattle.ll_engine.specs.declared.table.Row.{Row}
use Rattle.ll_engine.specs.declared.tables.Head.{Head}
use Rattle.ll_engine.specs.declared.facts.Facts.{Facts}
use Rattle.ll_engine.specs.declared.facts.SymbolFacts.{SymbolFacts}
use Rattle.ll_engine.specs.Grammar.{terminal, named, is_repeated, HasPart, IsRowOf, IsBlank, Begins}
use Rattle.ll_engine.specs.Class.{Keeps, IsFit, BreaksAt, Follows, ComesAt}
use Rattle.ll_engine.specs.Knows.{Knows, row_begun, row_blank}
use Rattle.ll_engine.specs.Marks.{marked, Has}
use Rattle.ll_engine.specs.Rules.{may_skip, front}
use Rattle.ll_engine.specs.Facts.{AreFacts, AreHeads, width, begun, is_same, alone, blank_alone, apart, comes, decided, has_row, name_keeps, parts_keep, row_keeps, first_break}
use Rattle.ll_engine.proofs.Shapes.{symbol_only}
use Rattle.ll_engine.proofs.Members.{eq_true, true_eq, told, tells}
use Rattle.ll_engine.proofs.Starts.{skip_blank, blank_skip}
use Rattle.ll_engine.proofs.Tests.{if_then, then_if, not_both, both_not, and_parts, parts_and, all_from, all_tells, tells_all, short_get}
use Rattle.ll_engine.proofs.Known.{begins_below, row_below, blank_tells, text_tells, reach_tells, begun_tells, blank_parts, comes_tells, begun_found, begun_none, blank_found, blank_none, ranked}

same_some : (o : Option ℕ) (i : ℕ) → is_same o i ≡ true → o ≡ Some i
same_some None i e = cc
same_some (Some x) i e = ap Some (eq_true x i e)

some_same : (o : Option ℕ) (i : ℕ) → o ≡ Some i → is_same o i ≡ true
some_same None i e = cc
some_same (Some x) i e = let f : x ≡ i = cc in true_eq x i f

all_at : {A : Type 0} (test : ℕ → A → Bool) (xs : List A) → all_from test xs 0 ≡ true → (k : ℕ) (x : A) → slice_get xs k ≡ Some x → test k x ≡ true
all_at test xs e k x f = let z : 0 + k ≡ k = omega arith in subst (λ q. test q x ≡ true) z (all_tells test xs 0 e k x f)

at_all : {A : Type 0} (test : ℕ → A → Bool) (xs : List A) → ((k : ℕ) (x : A) → slice_get xs k ≡ Some x → test k x ≡ true) → all_from test xs 0 ≡ true
at_all test xs f = tells_all test xs 0 (λ k x e. let z : k ≡ 0 + k = omega arith in subst (λ q. test q x ≡ true) z (f k x e))

alone_is : (b : List Bool) (heads : List Head) (i h : ℕ) (parts : List Part) (ss : List SymbolFacts) (n : ℕ)
    → alone b heads i h parts ss n ≡ all_from (λ m s. not (begun b s.begins m parts) || is_same (row_begun heads h m) i) ss n
alone_is b heads i h parts [] n = refl
alone_is b heads i h parts (s ∷ ss) n =
    ap (λ q. (not (begun b s.begins n parts) || is_same (row_begun heads h n) i) && q) (alone_is b heads i h parts ss (n + 1))

apart_is : (f : Facts) (heads : List Head) (h : ℕ) (rows : List Row) (n : ℕ)
    → apart f heads h rows n ≡ all_from (λ m row. not (nat_eq row.head h) || (blank_alone f.blank heads m h row.parts && alone f.blank heads m h row.parts f.symbols 0)) rows n
apart_is f heads h [] n = refl
apart_is f heads h (row ∷ rows) n =
    ap (λ q. (not (nat_eq row.head h) || (blank_alone f.blank heads n h row.parts && alone f.blank heads n h row.parts f.symbols 0)) && q)
    (apart_is f heads h rows (n + 1))

decided_is : (b : List Bool) (h : ℕ) (p : Part) (ps : List Part) (ss : List SymbolFacts) (n : ℕ)
    → decided b h p ps ss n ≡ all_from (λ m s. not (begun b s.begins m (p ∷ []) && comes s m h (front b ps))) ss n
decided_is b h p ps [] n = refl
decided_is b h p ps (s ∷ ss) n =
    ap (λ q. not (begun b s.begins n (p ∷ []) && comes s n h (front b ps)) && q) (decided_is b h p ps ss (n + 1))

row_has : (t : List Row) (g : ℕ) → has_row t g ≡ true → (i : ℕ) × (r : Row) × IsRowOf t g i r
row_has [] g e = cc
row_has (row ∷ t) g e = go (nat_eq row.head g) refl e (row_has t g)
  where
    later : (i : ℕ) × (r : Row) × IsRowOf t g i r → (i : ℕ) × (r : Row) × IsRowOf (row ∷ t) g i r
    later m = (suc m.0, m.1, record { is_there = m.2.is_there; is_of = m.2.is_of })

    go : (b : Bool) → nat_eq row.head g ≡ b → (b || has_row t g) ≡ true → (has_row t g ≡ true → (i : ℕ) × (r : Row) × IsRowOf t g i r)
        → (i : ℕ) × (r : Row) × IsRowOf (row ∷ t) g i r
    go true q w rec = (0, row, record { is_there = refl; is_of = eq_true row.head g q })
    go false q w rec = later (rec w)

has_row_of : (t : List Row) (g i : ℕ) (r : Row) → slice_get t i ≡ Some r → r.head ≡ g → has_row t g ≡ true
has_row_of [] g i r e f = cc
has_row_of (row ∷ t) g zero r e f =
    let same : row ≡ r = cc in
    rw (true_eq row.head g (ap (λ q. q.head) same ∙ f)) refl
has_row_of (row ∷ t) g (suc i) r e f = or_right (nat_eq row.head g) (has_row t g) (has_row_of t g i r e f)
  where
    or_right : (b c : Bool) → c ≡ true → (b || c) ≡ true
    or_right true c m = refl
    or_right false c m = m

bool_false : (b : Bool) → (b ≡ true → ⊥) → not b ≡ true
bool_false true n = absurd (n refl)
bool_false false n = refl

not_true : (b : Bool) → not b ≡ true → b ≡ true → ⊥
not_true true e f = cc
not_true false e f = cc

module _ (t : List Row) (f : Facts) (af : AreFacts t f) (heads : List Head) (ah : AreHeads t f heads) where
  alone_says : (j h : ℕ) (r : Row) → slice_get t j ≡ Some r → alone f.blank heads j h r.parts f.symbols 0 ≡ true
      → (a : ℕ) → a < length f.symbols → Begins t r.parts a → row_begun heads h a ≡ Some j
  alone_says j h r e w a l m =
      let s = short_get f.symbols a l in
      let c = all_at (λ n s. not (begun f.blank s.begins n r.parts) || is_same (row_begun heads h n) j) f.symbols
      (sym (alone_is f.blank heads j h r.parts f.symbols 0) ∙ w) a s.0 s.1 in
      same_some (row_begun heads h a) j
      (if_then (begun f.blank s.0.begins a r.parts) (is_same (row_begun heads h a) j) c
      (told (begun f.blank s.0.begins a r.parts) (begun_tells t f af a s.0 s.1 r.parts) m))

  blank_says : (j h : ℕ) (r : Row) → blank_alone f.blank heads j h r.parts ≡ true → IsBlank t r.parts → row_blank heads h ≡ Some j
  blank_says j h r w m =
      same_some (row_blank heads h) j
      (if_then (is_none (front f.blank r.parts)) (is_same (row_blank heads h) j) w
      (told (is_none (front f.blank r.parts)) (blank_parts t f af r.parts) m))

  apart_at : (h : ℕ) → apart f heads h t 0 ≡ true → (j : ℕ) (r : Row) → IsRowOf t h j r
      → (blank_alone f.blank heads j h r.parts ≡ true) × (alone f.blank heads j h r.parts f.symbols 0 ≡ true)
  apart_at h w j r s =
      let c = all_at (λ n row. not (nat_eq row.head h) || (blank_alone f.blank heads n h row.parts && alone f.blank heads n h row.parts f.symbols 0)) t
      (sym (apart_is f heads h t 0) ∙ w) j r s.is_there in
      and_parts (blank_alone f.blank heads j h r.parts) (alone f.blank heads j h r.parts f.symbols 0)
      (if_then (nat_eq r.head h) (blank_alone f.blank heads j h r.parts && alone f.blank heads j h r.parts f.symbols 0) c (true_eq r.head h s.is_of))

  below_symbols : (j : ℕ) (r : Row) (a : ℕ) → slice_get t j ≡ Some r → Begins t r.parts a → a < length f.symbols
  below_symbols j r a e m =
      let b = begins_below t m (λ p x h g. row_below t 0 j r p x e h g) in
      let l = af.long in omega (arith, b, l)

  one_begins : (h : ℕ) → apart f heads h t 0 ≡ true → (i j a : ℕ) (r s : Row) → IsRowOf t h i r → IsRowOf t h j s
      → Begins t r.parts a → Begins t s.parts a → i ≡ j
  one_begins h w i j a r s x y m n =
      let p = alone_says i h r x.is_there (apart_at h w i r x).1 a (below_symbols i r a x.is_there m) m in
      let q = alone_says j h s y.is_there (apart_at h w j s y).1 a (below_symbols j s a y.is_there n) n in
      cc (p, q)

  one_blank : (h : ℕ) → apart f heads h t 0 ≡ true → (i j : ℕ) (r s : Row) → IsRowOf t h i r → IsRowOf t h j s
      → IsBlank t r.parts → IsBlank t s.parts → i ≡ j
  one_blank h w i j r s x y m n =
      let p = blank_says i h r (apart_at h w i r x).0 m in
      let q = blank_says j h s (apart_at h w j s y).0 n in
      cc (p, q)

  -- the other way
  begun_kept : (h : ℕ) → ((i j a : ℕ) (r s : Row) → IsRowOf t h i r → IsRowOf t h j s → Begins t r.parts a → Begins t s.parts a → i ≡ j)
      → (j a : ℕ) (r : Row) → IsRowOf t h j r → Begins t r.parts a → row_begun heads h a ≡ Some j
  begun_kept h one j a r s m = go (row_begun heads h a) refl
    where
      go : (o : Option ℕ) → row_begun heads h a ≡ o → row_begun heads h a ≡ Some j
      go None e = absurd (begun_none t f af heads ah h a j r e s m)
      go (Some i) e = let x = begun_found t f af heads ah h a i e in e ∙ ap Some (one i j a x.0 r x.1 s x.2 m)

  blank_kept : (h : ℕ) → ((i j : ℕ) (r s : Row) → IsRowOf t h i r → IsRowOf t h j s → IsBlank t r.parts → IsBlank t s.parts → i ≡ j)
      → (j : ℕ) (r : Row) → IsRowOf t h j r → IsBlank t r.parts → row_blank heads h ≡ Some j
  blank_kept h one j r s m = go (row_blank heads h) refl
    where
      go : (o : Option ℕ) → row_blank heads h ≡ o → row_blank heads h ≡ Some j
      go None e = absurd (blank_none t f af heads ah h j r e s m)
      go (Some i) e = let x = blank_found t f af heads ah h i e in e ∙ ap Some (one i j x.0 r x.1 s x.2 m)

  apart_by : (h : ℕ)
      → ((i j a : ℕ) (r s : Row) → IsRowOf t h i r → IsRowOf t h j s → Begins t r.parts a → Begins t s.parts a → i ≡ j)
      → ((i j : ℕ) (r s : Row) → IsRowOf t h i r → IsRowOf t h j s → IsBlank t r.parts → IsBlank t s.parts → i ≡ j)
      → apart f heads h t 0 ≡ true
  apart_by h one two = apart_is f heads h t 0
      ∙ at_all (λ n row. not (nat_eq row.head h) || (blank_alone f.blank heads n h row.parts && alone f.blank heads n h row.parts f.symbols 0)) t
      (λ j r e. then_if (nat_eq r.head h) (blank_alone f.blank heads j h r.parts && alone f.blank heads j h r.parts f.symbols 0)
      (λ w. both j r (record { is_there = e; is_of = eq_true r.head h w })))
    where
      both : (j : ℕ) (r : Row) → IsRowOf t h j r → (blank_alone f.blank heads j h r.parts && alone f.blank heads j h r.parts f.symbols 0) ≡ true
      both j r s = parts_and (blank_alone f.blank heads j h r.parts) (alone f.blank heads j h r.parts f.symbols 0)
          (then_if (is_none (front f.blank r.parts)) (is_same (row_blank heads h) j)
          (λ w. some_same (row_blank heads h) j (blank_kept h two j r s (tells (is_none (front f.blank r.parts)) (blank_parts t f af r.parts) w))))
          (alone_is f.blank heads j h r.parts f.symbols 0
          ∙ at_all (λ n s. not (begun f.blank s.begins n r.parts) || is_same (row_begun heads h n) j) f.symbols
          (λ a y e. then_if (begun f.blank y.begins a r.parts) (is_same (row_begun heads h a) j)
          (λ w. some_same (row_begun heads h a) j
          (begun_kept h one j a r s (tells (begun f.blank y.begins a r.parts) (begun_tells t f af a y e r.parts) w)))))

  -- a part that names a head begins with symbols below the width
  name_below : (p : Part) (g a : ℕ) → named p ≡ Some g → Begins t (p ∷ []) a → a < length f.symbols
  name_below p g a e m =
      let b = begins_below t m (λ q x h w. no_term q x h w) in
      let l = af.long in omega (arith, b, l)
    where
      no_term : (q : Part) (x : ℕ) → Has (p ∷ []) q → terminal q ≡ Some x → x < width t 0
      no_term q x (inl h) w = absurd (symbol_only p (ap terminal h ∙ w) e)
      no_term q x (inr h) w = absurd h

  decided_says : (h g : ℕ) (p : Part) (ps : List Part) → named p ≡ Some g → decided f.blank h p ps f.symbols 0 ≡ true
      → (a : ℕ) → Begins t (p ∷ []) a → ComesAt t (Follows t h) ps (Some a) → ⊥
  decided_says h g p ps e w a m c =
      let s = short_get f.symbols a (name_below p g a e m) in
      let d = all_at (λ n s. not (begun f.blank s.begins n (p ∷ []) && comes s n h (front f.blank ps))) f.symbols
      (sym (decided_is f.blank h p ps f.symbols 0) ∙ w) a s.0 s.1 in
      not_both (begun f.blank s.0.begins a (p ∷ [])) (comes s.0 a h (front f.blank ps)) d
      (told (begun f.blank s.0.begins a (p ∷ [])) (begun_tells t f af a s.0 s.1 (p ∷ [])) m)
      (told (comes s.0 a h (front f.blank ps)) (comes_tells t f af a s.0 s.1 h ps) c)

  decided_by : (h : ℕ) (p : Part) (ps : List Part)
      → ((a : ℕ) → Begins t (p ∷ []) a → ComesAt t (Follows t h) ps (Some a) → ⊥) → decided f.blank h p ps f.symbols 0 ≡ true
  decided_by h p ps n = decided_is f.blank h p ps f.symbols 0
      ∙ at_all (λ n s. not (begun f.blank s.begins n (p ∷ []) && comes s n h (front f.blank ps))) f.symbols
      (λ a s e. both_not (begun f.blank s.begins a (p ∷ [])) (comes s a h (front f.blank ps))
      (λ x y. n a (tells (begun f.blank s.begins a (p ∷ [])) (begun_tells t f af a s e (p ∷ [])) x)
      (tells (comes s a h (front f.blank ps)) (comes_tells t f af a s e h ps) y)))

  parts_at : (h : ℕ) (ps : List Part) → parts_keep t f h ps ≡ true → (n : ℕ) (p : Part) (qs : List Part) → drop n ps ≡ p ∷ qs
      → name_keeps t f h p qs (named p) ≡ true
  parts_at h [] w zero p qs e = cc
  parts_at h [] w (suc n) p qs e = cc
  parts_at h (x ∷ ps) w zero p qs e =
      let a : x ≡ p = cc in
      let b : ps ≡ qs = cc in
      let c = (and_parts (name_keeps t f h x ps (named x)) (parts_keep t f h ps) w).0 in
      subst (λ y. name_keeps t f h p y (named p) ≡ true) b (subst (λ y. name_keeps t f h y ps (named y) ≡ true) a c)
  parts_at h (x ∷ ps) w (suc n) p qs e = parts_at h ps (and_parts (name_keeps t f h x ps (named x)) (parts_keep t f h ps) w).1 n p qs e

  at_parts : (h : ℕ) (ps : List Part) → ((n : ℕ) (p : Part) (qs : List Part) → drop n ps ≡ p ∷ qs → name_keeps t f h p qs (named p) ≡ true)
      → parts_keep t f h ps ≡ true
  at_parts h [] k = refl
  at_parts h (x ∷ ps) k = parts_and (name_keeps t f h x ps (named x)) (parts_keep t f h ps) (k 0 x ps refl) (at_parts h ps (λ n p qs e. k (suc n) p qs e))

  -- what is known of a part that names a head
  record PartKeeps (h g : ℕ) (p : Part) (qs : List Part) : Type 0 where
    known : (i : ℕ) × (r : Row) × IsRowOf t g i r
    repeats : is_repeated p ≡ true → IsBlank t (Non g ∷ []) → ⊥
    decided : (a : ℕ) → IsBlank t (p ∷ []) → Begins t (p ∷ []) a → ComesAt t (Follows t h) qs (Some a) → ⊥

  part_of : (h g : ℕ) (p : Part) (qs : List Part) → named p ≡ Some g → name_keeps t f h p qs (Some g) ≡ true → PartKeeps h g p qs
  part_of h g p qs e w =
      let c = and_parts (has_row t g) (not (is_repeated p && marked f.blank g) && (not (may_skip f.blank p) || decided f.blank h p qs f.symbols 0)) w in
      let d = and_parts (not (is_repeated p && marked f.blank g)) (not (may_skip f.blank p) || decided f.blank h p qs f.symbols 0) c.1 in
      record {
        known = row_has t g c.0;
        repeats = λ x y. not_both (is_repeated p) (marked f.blank g) d.0 x (told (marked f.blank g) (blank_tells t f af g) y);
        decided = λ a x m n.
            decided_says h g p qs e
            (if_then (may_skip f.blank p) (decided f.blank h p qs f.symbols 0) d.1 (blank_skip t f.blank (blank_tells t f af) p x)) a m n;
      }

  of_part : (h g : ℕ) (p : Part) (qs : List Part) → PartKeeps h g p qs → name_keeps t f h p qs (Some g) ≡ true
  of_part h g p qs k =
      parts_and (has_row t g) (not (is_repeated p && marked f.blank g) && (not (may_skip f.blank p) || decided f.blank h p qs f.symbols 0))
      (has_row_of t g k.known.0 k.known.1 k.known.2.is_there k.known.2.is_of)
      (parts_and (not (is_repeated p && marked f.blank g)) (not (may_skip f.blank p) || decided f.blank h p qs f.symbols 0)
      (both_not (is_repeated p) (marked f.blank g) (λ x y. k.repeats x (tells (marked f.blank g) (blank_tells t f af g) y)))
      (then_if (may_skip f.blank p) (decided f.blank h p qs f.symbols 0)
      (λ x. decided_by h p qs (λ a m n. k.decided a (skip_blank t f.blank (blank_tells t f af) p x) m n))))

  no_name : (p : Part) (a : ℕ) → named p ≡ None → IsBlank t (p ∷ []) → ⊥
  no_name (Term x) a e (IsBlank.skipped o n) = cc
  no_name (Term x) a e (IsBlank.empty q s b n) = cc
  no_name (Non x) a e b = cc
  no_name (Maybe x) a e b = cc
  no_name (Many x) a e b = cc
  no_name (Chain x) a e b = cc

  pub keeps_of : (i : ℕ) (row : Row) → slice_get t i ≡ Some row → row_keeps t f heads i row ≡ true → Keeps t row
  keeps_of i row e w =
      let h = row.head in
      let a = and_parts (marked f.text h) (not (marked (get_or f.reaches i []) h) && (apart f heads h t 0 && parts_keep t f h row.parts)) w in
      let b = and_parts (not (marked (get_or f.reaches i []) h)) (apart f heads h t 0 && parts_keep t f h row.parts) a.1 in
      let c = and_parts (apart f heads h t 0) (parts_keep t f h row.parts) b.1 in
      record {
        one_begins = λ x y z r s. one_begins h c.0 x y z r s;
        one_blank = λ x y r s. one_blank h c.0 x y r s;
        repeats = λ n g p ps u o q m.
            (part_of h g p ps q (subst (λ y. name_keeps t f h p ps y ≡ true) q (parts_at h row.parts c.1 n p ps u.cut))).repeats o m;
        not_left_recursive = λ m. not_true (marked (get_or f.reaches i []) h) b.0 (told (marked (get_or f.reaches i []) h) (reach_tells t f af i row e h) m);
        has_text = tells (marked f.text h) (text_tells t f af h) a.0;
        known = λ n g p ps u q. (part_of h g p ps q (subst (λ y. name_keeps t f h p ps y ≡ true) q (parts_at h row.parts c.1 n p ps u.cut))).known;
        decided = λ n y p ps u m q x. decides n y p ps u c.1 m q x (named p) refl;
      }
    where
      decides : (n y : ℕ) (p : Part) (ps : List Part) → HasPart row.parts n p ps → parts_keep t f row.head row.parts ≡ true
          → IsBlank t (p ∷ []) → Begins t (p ∷ []) y → ComesAt t (Follows t row.head) ps (Some y)
          → (o : Option ℕ) → named p ≡ o → ⊥
      decides n y p ps u k m q x None z = no_name p y z m
      decides n y p ps u k m q x (Some g) z =
          (part_of row.head g p ps z (subst (λ v. name_keeps t f row.head p ps v ≡ true) z (parts_at row.head row.parts k n p ps u.cut))).decided y m q x

  pub of_keeps : (i : ℕ) (row : Row) → slice_get t i ≡ Some row → Keeps t row → row_keeps t f heads i row ≡ true
  of_keeps i row e k =
      let h = row.head in
      parts_and (marked f.text h) (not (marked (get_or f.reaches i []) h) && (apart f heads h t 0 && parts_keep t f h row.parts))
      (told (marked f.text h) (text_tells t f af h) k.has_text)
      (parts_and (not (marked (get_or f.reaches i []) h)) (apart f heads h t 0 && parts_keep t f h row.parts)
      (bool_false (marked (get_or f.reaches i []) h)
      (λ m. k.not_left_recursive (tells (marked (get_or f.reaches i []) h) (reach_tells t f af i row e h) m)))
      (parts_and (apart f heads h t 0) (parts_keep t f h row.parts)
      (apart_by h k.one_begins k.one_blank)
      (at_parts h row.parts (λ n p qs u. names n p qs u (named p) refl))))
    where
      names : (n : ℕ) (p : Part) (qs : List Part) → drop n row.parts ≡ p ∷ qs → (o : Option ℕ) → named p ≡ o → name_keeps t f row.head p qs o ≡ true
      names n p qs u None z = refl
      names n p qs u (Some g) z = of_part row.head g p qs (record {
        known = k.known n g p qs (record { cut = u }) z;
        repeats = λ x y. k.repeats n g p qs (record { cut = u }) x z y;
        decided = λ a x m c. k.decided n a p qs (record { cut = u }) x m c;
      })

  break_none : (rows : List Row) (n : ℕ) → first_break t f heads rows n ≡ None → (j : ℕ) (r : Row) → slice_get rows j ≡ Some r
      → row_keeps t f heads (n + j) r ≡ true
  break_none [] n e j r g = cc
  break_none (row ∷ rows) n e zero r g =
      let c = split (row_keeps t f heads n row) n (first_break t f heads rows (n + 1)) e in
      let same : row ≡ r = cc in
      let z : n ≡ n + 0 = omega arith in
      subst (λ q. row_keeps t f heads q r ≡ true) z (subst (λ q. row_keeps t f heads n q ≡ true) same c.0)
    where
      split : (b : Bool) (m : ℕ) (o : Option ℕ) → cond b o (Some m) ≡ None → (b ≡ true) × (o ≡ None)
      split true m o q = (refl, q)
      split false m o q = cc
  break_none (row ∷ rows) n e (suc j) r g =
      let c = split (row_keeps t f heads n row) n (first_break t f heads rows (n + 1)) e in
      let z : (n + 1) + j ≡ n + suc j = omega arith in
      subst (λ q. row_keeps t f heads q r ≡ true) z (break_none rows (n + 1) c.1 j r g)
    where
      split : (b : Bool) (m : ℕ) (o : Option ℕ) → cond b o (Some m) ≡ None → (b ≡ true) × (o ≡ None)
      split true m o q = (refl, q)
      split false m o q = cc

  record Breaks (rows : List Row) (n i : ℕ) : Type 0 where
    at : ℕ
    row : Row
    number : i ≡ n + at
    is_there : slice_get rows at ≡ Some row
    breaks : row_keeps t f heads (n + at) row ≡ false
    before : (j : ℕ) (r : Row) → j < at → slice_get rows j ≡ Some r → row_keeps t f heads (n + j) r ≡ true

  break_some : (rows : List Row) (n i : ℕ) → first_break t f heads rows n ≡ Some i → Breaks rows n i
  break_some [] n i e = cc
  break_some (row ∷ rows) n i e = go (row_keeps t f heads n row) refl e (break_some rows (n + 1) i)
    where
      zero_more : n ≡ n + 0
      zero_more = omega arith

      earlier : (b : Breaks rows (n + 1) i) → row_keeps t f heads n row ≡ true → (j : ℕ) (r : Row) → j < suc b.at → slice_get (row ∷ rows) j ≡ Some r
          → row_keeps t f heads (n + j) r ≡ true
      earlier b v zero r l s =
          let same : row ≡ r = cc in
          subst (λ q. row_keeps t f heads q r ≡ true) zero_more (subst (λ q. row_keeps t f heads n q ≡ true) same v)
      earlier b v (suc j) r l s =
          let z : (n + 1) + j ≡ n + suc j = omega arith in
          subst (λ q. row_keeps t f heads q r ≡ true) z (b.before j r (omega (arith, l)) s)

      later : Breaks rows (n + 1) i → row_keeps t f heads n row ≡ true → Breaks (row ∷ rows) n i
      later m w =
          let z : (n + 1) + m.at ≡ n + suc m.at = omega arith in
          record {
            at = suc m.at;
            row = m.row;
            number = m.number ∙ z;
            is_there = m.is_there;
            breaks = subst (λ y. row_keeps t f heads y m.row ≡ false) z m.breaks;
            before = earlier m w;
          }

      go : (b : Bool) → row_keeps t f heads n row ≡ b → cond b (first_break t f heads rows (n + 1)) (Some n) ≡ Some i
          → (first_break t f heads rows (n + 1) ≡ Some i → Breaks rows (n + 1) i) → Breaks (row ∷ rows) n i
      go false w q rec =
          let m : n ≡ i = cc in
          record {
            at = 0;
            row = row;
            number = sym m ∙ zero_more;
            is_there = refl;
            breaks = subst (λ y. row_keeps t f heads y row ≡ false) zero_more w;
            before = λ j r l s. absurd (omega (arith, l));
          }
      go true w q rec = later (rec q) w

  at_zero : (k i : ℕ) → i ≡ 0 + k → i ≡ k
  at_zero k i e = omega (arith, e)

  pub is_fit : 0 < length t → first_break t f heads t 0 ≡ None → IsFit t
  is_fit l e = record {
    has_rows = l;
    keeps = λ i h row s. keeps_of i row s.is_there
        (let z : 0 + i ≡ i = omega arith in subst (λ q. row_keeps t f heads q row ≡ true) z (break_none t 0 e i row s.is_there));
  }

  pub breaks_at : (i : ℕ) → first_break t f heads t 0 ≡ Some i → BreaksAt t i
  breaks_at i e =
      let b = break_some t 0 i e in
      let z : 0 + b.at ≡ b.at = omega arith in
      let at : b.at ≡ i = sym (at_zero b.at i b.number) in
      subst (λ q. BreaksAt t q) at
      (BreaksAt.at_row {h = b.row.head} {row = b.row} (own b.at b.row b.is_there)
      (λ k. let w = of_keeps b.at b.row b.is_there k in
      let v = subst (λ q. row_keeps t f heads q b.row ≡ false) z b.breaks in cc (w, v))
      (λ j g r l s. keeps_of j r s.is_there
      (let y : 0 + j ≡ j = omega arith in subst (λ q. row_keeps t f heads q r ≡ true) y (b.before j r l s.is_there))))
    where
      own : (j : ℕ) (r : Row) → slice_get t j ≡ Some r → IsRowOf t r.head j r
      own j r q = record { is_there = q; is_of = refl }

  pub knows : IsFit t → Knows t heads
  knows k = record {
    is_fit = k;
    begun = λ h a i e. begun_found t f af heads ah h a i e;
    not_begun = λ h a i row e s m. begun_none t f af heads ah h a i row e s m;
    blank = λ h i e. blank_found t f af heads ah h i e;
    not_blank = λ h i row e s m. blank_none t f af heads ah h i row e s m;
    ranked = λ h g i row s m. ranked t f af heads ah k h g i row s m;
  }

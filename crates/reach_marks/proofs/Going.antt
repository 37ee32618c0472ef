-- What holds while numbers are marked.
use Rattle.std.proofs.Common.{◌≡◌, ◌⊎◌, inl, inr, ℕ, zero, suc, ◌+◌, ◌-◌, ◌<◌, ◌≤◌, Bool, true, false, not, cond, List, [], ◌∷◌, ◌++◌, length, replicate, slice_index_or, slice_set, refl, ap, sym, ◌∙◌, subst, arith, length-append}
use Rattle.std.proofs.lemmas.Bool.{cases_eq, false≢true}
use Rattle.row_machine.specs.Valuation.{Member}
use Rattle.row_machine.proofs.Members.{append-member, member-front, member-back}
use Rattle.reach_marks.specs.declared.Reaching.{Reaching}
use Rattle.reach_marks.specs.Reach.{reaches, IsReached, list_at, visited, open_work, work}
use Rattle.reach_marks.proofs.Leading.{reaches-root, reaches-next, reaches-zero, reaches-suc, reaches-more}

-- how many are marked
abbrev pub marked_in : List Bool → ℕ
marked_in [] = 0
marked_in (m ∷ marks) = cond m 1 0 + marked_in marks

abbrev pub is_marked : List Bool → ℕ → Bool
is_marked marks n = slice_index_or marks n false

marked-most : (marks : List Bool) → marked_in marks ≤ length marks
marked-most [] = omega arith
marked-most (true ∷ marks) = let h = marked-most marks in omega (arith, h)
marked-most (false ∷ marks) = let h = marked-most marks in omega (arith, h)

none-marked : (count : ℕ) (n : ℕ) → is_marked (replicate count false) n ≡ false
none-marked zero n = refl
none-marked (suc count) zero = refl
none-marked (suc count) (suc n) = none-marked count n

length-none : (count : ℕ) → length (replicate count false) ≡ count
length-none zero = refl
length-none (suc count) = ap suc (length-none count)

-- a mark that is set
set-marked : (marks : List Bool) (n : ℕ) → slice_index_or marks n true ≡ false → marked_in (slice_set marks n true) ≡ suc (marked_in marks)
set-marked [] n open_ = absurd (false≢true (sym open_))
set-marked (false ∷ marks) zero open_ = omega arith
set-marked (true ∷ marks) zero open_ = absurd (false≢true (sym open_))
set-marked (m ∷ marks) (suc n) open_ = let h = set-marked marks n open_ in omega (arith, h)

set-here : (marks : List Bool) (n : ℕ) → slice_index_or marks n true ≡ false → is_marked (slice_set marks n true) n ≡ true
set-here [] n open_ = absurd (false≢true (sym open_))
set-here (m ∷ marks) zero open_ = refl
set-here (m ∷ marks) (suc n) open_ = set-here marks n open_

set-other : (marks : List Bool) (n k : ℕ) → (k ≡ n → ⊥) → is_marked (slice_set marks n true) k ≡ is_marked marks k
set-other [] n k other = refl
set-other (m ∷ marks) zero zero other = absurd (other refl)
set-other (m ∷ marks) zero (suc k) other = refl
set-other (m ∷ marks) (suc n) zero other = refl
set-other (m ∷ marks) (suc n) (suc k) other = set-other marks n k (λ e. other (ap suc e))

open-low : (marks : List Bool) (n : ℕ) → slice_index_or marks n true ≡ false → n < length marks
open-low [] n open_ = absurd (false≢true (sym open_))
open-low (m ∷ marks) zero open_ = omega arith
open-low (m ∷ marks) (suc n) open_ = let h = open-low marks n open_ in omega (arith, h)

shut-marked : (marks : List Bool) (n : ℕ) → slice_index_or marks n true ≡ true → (is_marked marks n ≡ true) ⊎ (length marks ≤ n)
shut-marked [] n shut = inr (omega arith)
shut-marked (m ∷ marks) zero shut = inl shut
shut-marked (m ∷ marks) (suc n) shut = elim (shut-marked marks n shut) [ inl h ↦ inl h | inr h ↦ inr (omega (arith, h)) ]

set-length : (marks : List Bool) (n : ℕ) → length (slice_set marks n true) ≡ length marks
set-length [] n = refl
set-length (m ∷ marks) zero = refl
set-length (m ∷ marks) (suc n) = ap suc (set-length marks n)

less-open : (marks : List Bool) (next : List (List ℕ)) (n : ℕ) → length marks ≡ length next → slice_index_or marks n true ≡ false
    → open_work (slice_set marks n true) next + suc (length (list_at next n)) ≡ open_work marks next
less-open [] next n same open_ = absurd (false≢true (sym open_))
less-open (m ∷ marks) [] n same open_ = absurd (omega (arith, same))
less-open (false ∷ marks) (ns ∷ next) zero same open_ = omega arith
less-open (true ∷ marks) (ns ∷ next) zero same open_ = absurd (false≢true (sym open_))
less-open (m ∷ marks) (ns ∷ next) (suc n) same open_ = let h = less-open marks next n (omega (arith, same)) open_ in omega (arith, h)

module _ (roots : List ℕ) (next : List (List ℕ)) where
  -- a number is marked, is to be marked, or has no mark
  abbrev pub Seen : Reaching → ℕ → Type 0
  Seen s n = (is_marked s.marks n ≡ true) ⊎ (Member s.todo n ⊎ (length next ≤ n))

  pub record Going (s : Reaching) : Type 0 where
    pub count : length s.marks ≡ length next
    pub todo : (n : ℕ) → Member s.todo n → reaches roots next (marked_in s.marks) n ≡ true
    pub marked : (n : ℕ) → is_marked s.marks n ≡ true → reaches roots next (marked_in s.marks) n ≡ true
    pub roots_seen : (n : ℕ) → Member roots n → Seen s n
    pub next_seen : (g n : ℕ) → is_marked s.marks g ≡ true → Member (list_at next g) n → Seen s n

  pub going-start : (marks : List Bool) (todo : List ℕ) → marks ≡ replicate (length next) false → todo ≡ roots → Going (record { marks = marks; todo = todo })
  going-start marks todo unmarked same = record {
    count = ap length unmarked ∙ length-none (length next);
    todo = λ n m. reaches-root roots next (marked_in marks) n (subst (λ ns. Member ns n) same m);
    marked = λ n h. absurd (false≢true (sym (ap (λ ms. is_marked ms n) unmarked ∙ none-marked (length next) n) ∙ h));
    roots_seen = λ n m. inr (inl (subst (λ ns. Member ns n) (sym same) m));
    next_seen = λ g n h m. absurd (false≢true (sym (ap (λ ms. is_marked ms g) unmarked ∙ none-marked (length next) g) ∙ h));
  }

  -- one number is taken from those that are to be marked
  module _ (marks : List Bool) (front : List ℕ) (n : ℕ) (going : Going (record { marks = marks; todo = front ++ n ∷ [] })) where
    before : (k : ℕ) → Member front k → Member (front ++ n ∷ []) k
    before k m = member-front front (n ∷ []) k m

    last : Member (front ++ n ∷ []) n
    last = member-back front (n ∷ []) n (inl refl)

    which : (k : ℕ) → Member (front ++ n ∷ []) k → Member front k ⊎ (k ≡ n)
    which k m = elim (append-member front (n ∷ []) k m) [ inl h ↦ inl h | inr h ↦ elim h [ inl is ↦ inr is | inr none ↦ elim none [ ] ] ]

    going-shut : slice_index_or marks n true ≡ true → Going (record { marks = marks; todo = front })
    going-shut shut = record {
      count = going.count;
      todo = λ k m. going.todo k (before k m);
      marked = going.marked;
      roots_seen = λ k m. again k (going.roots_seen k m);
      next_seen = λ g k h m. again k (going.next_seen g k h m);
    }
      where
        its : (k : ℕ) → k ≡ n → (is_marked marks n ≡ true) ⊎ (length marks ≤ n) → Seen (record { marks = marks; todo = front }) k
        its k is (inl h) = inl (ap (is_marked marks) is ∙ h)
        its k is (inr h) = let count = going.count in inr (inr (omega (arith, h, is, count)))

        again : (k : ℕ) → Seen (record { marks = marks; todo = front ++ n ∷ [] }) k → Seen (record { marks = marks; todo = front }) k
        again k (inl h) = inl h
        again k (inr (inl m)) = elim (which k m) [ inl h ↦ inr (inl h) | inr is ↦ its k is (shut-marked marks n shut) ]
        again k (inr (inr h)) = inr (inr h)

    abbrev next_marks : List Bool
    next_marks = slice_set marks n true

    abbrev next_todo : List ℕ
    next_todo = front ++ list_at next n

    going-open : slice_index_or marks n true ≡ false → Going (record { marks = next_marks; todo = next_todo })
    going-open open_ = record {
      count = set-length marks n ∙ going.count;
      todo = λ k m. elim (append-member front (list_at next n) k m) [
        | inl h ↦ later k (going.todo k (before k h))
        | inr h ↦ deeper k (reaches-next roots next (marked_in marks) n k (let low = open-low marks n open_ in let count = going.count in omega (arith, low, count)) (going.todo n last) h)
      ];
      marked = λ k h. elim (cases_eq k n) [
        | inl is ↦ later k (subst (λ j. reaches roots next (marked_in marks) j ≡ true) (sym is) (going.todo n last))
        | inr other ↦ later k (going.marked k (sym (set-other marks n k other) ∙ h))
      ];
      roots_seen = λ k m. again k (going.roots_seen k m);
      next_seen = λ g k h m. elim (cases_eq g n) [
        | inl is ↦ inr (inl (member-back front (list_at next n) k (subst (λ j. Member (list_at next j) k) is m)))
        | inr other ↦ again k (going.next_seen g k (sym (set-other marks n g other) ∙ h) m)
      ];
    }
      where
        deeper : (k : ℕ) → reaches roots next (suc (marked_in marks)) k ≡ true → reaches roots next (marked_in next_marks) k ≡ true
        deeper k h = subst (λ j. reaches roots next j k ≡ true) (sym (set-marked marks n open_)) h

        later : (k : ℕ) → reaches roots next (marked_in marks) k ≡ true → reaches roots next (marked_in next_marks) k ≡ true
        later k h = let at : 1 + marked_in marks ≡ suc (marked_in marks) = omega arith in deeper k (subst (λ j. reaches roots next j k ≡ true) at (reaches-more roots next 1 (marked_in marks) k h))

        still : (k : ℕ) → is_marked marks k ≡ true → is_marked next_marks k ≡ true
        still k h = elim (cases_eq k n) [
          | inl is ↦ ap (is_marked next_marks) is ∙ set-here marks n open_
          | inr other ↦ set-other marks n k other ∙ h
        ]

        again : (k : ℕ) → Seen (record { marks = marks; todo = front ++ n ∷ [] }) k → Seen (record { marks = next_marks; todo = next_todo }) k
        again k (inl h) = inl (still k h)
        again k (inr (inl m)) = elim (which k m) [
          | inl h ↦ inr (inl (member-front front (list_at next n) k h))
          | inr is ↦ inl (ap (is_marked next_marks) is ∙ set-here marks n open_)
        ]
        again k (inr (inr h)) = inr (inr h)

    going-by : (b : Bool) → slice_index_or marks n true ≡ b → Going (cond (not b) (record { marks = next_marks; todo = next_todo }) (record { marks = marks; todo = front }))
    going-by true is = going-shut is
    going-by false is = going-open is

    falls-by : (b : Bool) → slice_index_or marks n true ≡ b
        → work next (cond (not b) (record { marks = next_marks; todo = next_todo }) (record { marks = marks; todo = front })) < work next (record { marks = marks; todo = front ++ n ∷ [] })
    falls-by true is = let one = length-append front (n ∷ []) in omega (arith, one)
    falls-by false is =
        let one = length-append front (n ∷ []) in
        let more = length-append front (list_at next n) in
        let less = less-open marks next n going.count is in
        omega (arith, one, more, less)

    pub going-on : Going (visited next (record { marks = marks; todo = front }) n)
    going-on = going-by (slice_index_or marks n true) refl

    pub work-falls : work next (visited next (record { marks = marks; todo = front }) n) < work next (record { marks = marks; todo = front ++ n ∷ [] })
    work-falls = falls-by (slice_index_or marks n true) refl

  -- nothing is left to be marked
  module _ (marks : List Bool) (going : Going (record { marks = marks; todo = [] })) where
    seen-marked : (n : ℕ) → n < length next → Seen (record { marks = marks; todo = [] }) n → is_marked marks n ≡ true
    seen-marked n low (inl h) = h
    seen-marked n low (inr (inl m)) = elim m [ ]
    seen-marked n low (inr (inr h)) = absurd (omega (arith, low, h))

    all-marked : (depth n : ℕ) → n < length next → reaches roots next depth n ≡ true → is_marked marks n ≡ true
    all-marked zero n low h = seen-marked n low (going.roots_seen n (reaches-zero roots next n h))
    all-marked (suc depth) n low h = elim (reaches-suc roots next depth n h) [
      | inl root ↦ seen-marked n low (going.roots_seen n root)
      | inr r ↦ seen-marked n low (going.next_seen r.0 n (all-marked depth r.0 r.1 r.2) r.3)
    ]

    only-marked : (n : ℕ) → is_marked marks n ≡ true → reaches roots next (length next) n ≡ true
    only-marked n h =
        let most = marked-most marks in
        let count = going.count in
        let rest = length next - marked_in marks in
        let all : rest + marked_in marks ≡ length next = omega (arith, most, count) in
        subst (λ j. reaches roots next j n ≡ true) all (reaches-more roots next rest (marked_in marks) n (going.marked n h))

    same-test : (a b : Bool) → (a ≡ true → b ≡ true) → (b ≡ true → a ≡ true) → a ≡ b
    same-test true b f g = sym (f refl)
    same-test false true f g = g refl
    same-test false false f g = refl

    pub going-done : IsReached roots next marks
    going-done = record {
      count = going.count;
      each = λ n low. same-test (is_marked marks n) (reaches roots next (length next) n) (only-marked n) (all-marked (length next) n low);
    }

pub ruleset going_laws = (going-done)

-- Groups that are told of changes.
use Rattle.std.proofs.Common.{◌≡◌, ℕ, ◌+◌, ◌<◌, ◌≤◌, ◌==◌, ◌||◌, true, List, [], ◌∷◌, ◌++◌, length, take, All, Option, Some, None, slice_index_or, refl, sym, ap, ◌∙◌, subst, inl, inr, arith}
use Rattle.std.specs.Prelude.{IsPermutation}
use Rattle.std.proofs.Math.Bool.{or-false}
use Rattle.std.proofs.lemmas.Bool.{cases_Bool, eqb-true, eqb-false, eq-eqb, false≢true, or_cases, or_left, or_right}
use Rattle.std.proofs.lemmas.List.{take_all}
use Rattle.std.proofs.lemmas.List.Folds.{list_any-append}
use Rattle.std.proofs.lemmas.List.Sorted.{list_any-IsPermutation, All-permutation}
use Rattle.std.proofs.lemmas.List.Elements.{All-push, All-nil, All-append, All-weaker}
use Rattle.round_runner.specs.declared.plan.Plan.{Plan}
use Rattle.round_runner.specs.Plans.{is_in, under, ReadersThere, SameNumbers, AreTold, AllNumbers}
use Rattle.round_runner.proofs.Picking.{is_in_more}
use Rattle.round_runner.proofs.Groups.{is_in_push}

-- the first i numbers, each once, and the last of them
pub record Once (ns ms : List ℕ) (last : Option ℕ) (i : ℕ) : Type 0 where
  pub same : (k : ℕ) → is_in ms k ≡ is_in (take i ns) k
  pub there : (size : ℕ) → All (λ n. n < size) ns → All (λ n. n < size) ms
  pub is_last : (n : ℕ) → last ≡ Some n → is_in ms n ≡ true

pub once_at_start : (ns ms : List ℕ) → ms ≡ [] → Once ns ms None 0
once_at_start ns ms none = record {
  same = λ k. ap (λ xs. is_in xs k) none;
  there = λ size h. subst (All (λ n. n < size)) (sym none) (All-nil (λ n. n < size));
  is_last = λ n e. cc;
}

itself : (n : ℕ) → (n == n) ≡ true
itself n = eq-eqb n n refl

pub once_pushed : (ns ms next : List ℕ) (last : Option ℕ) (i n : ℕ) → i < length ns → n ≡ slice_index_or ns i 0 → next ≡ ms ++ n ∷ [] → Once ns ms last i → Once ns next (Some n) (i + 1)
once_pushed ns ms next last i n h is_n pushed once = record {
  same = λ k. here k ∙ ap (λ b. b || (n == k)) (once.same k) ∙ sym (is_in_more ns i k n h is_n);
  there = λ size all. subst (All (λ m. m < size)) (sym pushed) (All-push (λ m. m < size) ms n (once.there size all) (subst (λ m. m < size) (sym is_n) (all i 0 h)));
  is_last = λ k e. let same : n ≡ k = cc in here k ∙ or_right (is_in ms k) (n == k) (eq-eqb n k same);
}
  where
    here : (k : ℕ) → is_in next k ≡ (is_in ms k || (n == k))
    here k = ap (λ xs. is_in xs k) pushed ∙ is_in_push ms n k

pub once_passed : (ns ms : List ℕ) (last : Option ℕ) (i n : ℕ) → i < length ns → n ≡ slice_index_or ns i 0 → last ≡ Some n → Once ns ms last i → Once ns ms last (i + 1)
once_passed ns ms last i n h is_n was once = record {
  same = λ k. unchanged k ∙ ap (λ b. b || (n == k)) (once.same k) ∙ sym (is_in_more ns i k n h is_n);
  there = once.there;
  is_last = once.is_last;
}
  where
    unchanged : (k : ℕ) → is_in ms k ≡ (is_in ms k || (n == k))
    unchanged k =
        elim (cases_Bool (n == k)) [
          | inl same ↦ let there_is : is_in ms k ≡ true = ap (is_in ms) (sym (eqb-true n k same)) ∙ once.is_last n was in there_is ∙ sym (or_left (is_in ms k) (n == k) there_is)
          | inr other ↦ sym (or-false (is_in ms k)) ∙ ap (λ b. is_in ms k || b) (sym other)
        ]

pub all_once : (ns ms : List ℕ) (last : Option ℕ) (i : ℕ) → length ns ≤ i → Once ns ms last i → SameNumbers ns ms
all_once ns ms last i h once = record { same = λ k. once.same k ∙ ap (λ xs. is_in xs k) (take_all i ns h); there = once.there }

pub told_none : (plan : Plan) (ns gs : List ℕ) → gs ≡ [] → AreTold plan (take 0 ns) gs
told_none plan ns gs none = record { all = λ n g e f. absurd (false≢true e); there = subst (All (λ g. g < length plan.places)) (sym none) (All-nil (λ g. g < length plan.places)) }

pub told_more : (plan : Plan) (ns before after : List ℕ) (i n : ℕ) → ReadersThere plan → i < length ns → n ≡ slice_index_or ns i 0 → after ≡ before ++ under plan.readers n
    → AreTold plan (take i ns) before → AreTold plan (take (i + 1) ns) after
told_more plan ns before after i n readers h is_n more told = record {
  all = λ k g e f.
      let now_is : is_in after g ≡ (is_in before g || is_in (under plan.readers n) g) = ap (λ xs. is_in xs g) more ∙ list_any-append (λ m. m == g) before (under plan.readers n) in
      now_is ∙ elim (or_cases (is_in (take i ns) k) (n == k) (sym (is_in_more ns i k n h is_n) ∙ e)) [
        | inl l ↦ or_left (is_in before g) (is_in (under plan.readers n) g) (told.all k g l f)
        | inr r ↦ or_right (is_in before g) (is_in (under plan.readers n) g) (ap (λ m. is_in (under plan.readers m) g) (eqb-true n k r) ∙ f)
      ];
  there = subst (All (λ g. g < length plan.places)) (sym more) (All-append (λ g. g < length plan.places) before (under plan.readers n) told.there (readers.there n));
}

pub told_once : (plan : Plan) (ns all sorted gs : List ℕ) (i : ℕ) → length ns ≤ i → AreTold plan (take i ns) all → IsPermutation all sorted → SameNumbers sorted gs → AreTold plan ns gs
told_once plan ns all sorted gs i h told perm once = record {
  all = λ n g e f.
      once.same g ∙ sym (list_any-IsPermutation (λ m. m == g) all sorted perm)
      ∙ told.all n g (ap (λ xs. is_in xs n) (take_all i ns h) ∙ e) f;
  there = once.there (length plan.places) (All-permutation (λ g. g < length plan.places) all sorted perm told.there);
}

pub numbers_none : (ns : List ℕ) → ns ≡ [] → AllNumbers 0 ns
numbers_none ns none = record { all = λ k h. absurd (omega arith); there = subst (All (λ n. n < 0)) (sym none) (All-nil (λ n. n < 0)) }

pub numbers_more : (ns next : List ℕ) (n : ℕ) → next ≡ ns ++ n ∷ [] → AllNumbers n ns → AllNumbers (n + 1) next
numbers_more ns next n pushed numbers = record {
  all = λ k h.
      ap (λ xs. is_in xs k) pushed ∙ is_in_push ns n k
      ∙ elim (cases_Bool (n == k)) [
        | inl same ↦ or_right (is_in ns k) (n == k) same
        | inr other ↦ or_left (is_in ns k) (n == k) (numbers.all k (let apart = eqb-false n k other in below k h apart))
      ];
  there =
      subst (All (λ m. m < n + 1)) (sym pushed)
      (All-push (λ m. m < n + 1) ns n (All-weaker (λ m. m < n) (λ m. m < n + 1) (λ m l. omega arith) ns numbers.there) (omega arith));
}
  where
    below : (k : ℕ) → k < n + 1 → (n ≡ k → ⊥) → k < n
    below k h apart = omega arith

pub some_in : (ns : List ℕ) → (ns ≡ [] → ⊥) → (n : ℕ) × (is_in ns n ≡ true)
some_in [] h = absurd (h refl)
some_in (n ∷ ns) h = (n, or_left (n == n) (is_in ns n) (itself n))

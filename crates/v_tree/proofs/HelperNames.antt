-- Two helper functions have two names.
use Rattle.std.proofs.Common.{◌≡◌, ℕ, ◌<◌, ◌^◌, ◌==◌, Bool, true, false, ◌&&◌, List, [], ◌∷◌, ◌++◌, codes, decimal, drop, eq-eqb, refl, sym, ap, ◌∙◌, append_assoc, arith}
use Rattle.std.specs.Char.{is_ascii_digit}
use Rattle.std.specs.Str.{all_ascii_digits}
use Rattle.std.specs.Str.Parse.{digits_value}
use Rattle.std.proofs.lemmas.Bool.{and_parts, false≢true}
use Rattle.std.proofs.lemmas.Fmt.{digits_decimal, digits_value-decimal}
use Rattle.std.proofs.lemmas.List.{append-nil}
use Rattle.std.proofs.lemmas.Str.Parse.{IsNumeralModel, numerals_by_value, tells_all_ascii_digits}
use Rattle.v_tree.specs.declared.names.Helper.{Helper}
use Rattle.v_tree.specs.declared.names.HelperKind.{HelperKind}
use Rattle.v_tree.specs.declared.names.HelperKind.TheVariants.{Cast, TwoState, Select, WildEq}
use Rattle.v_tree.specs.Printing.{kind_text, IsKind, HelperNames}

own : IsNumeralModel (λ ds. all_ascii_digits ds ≡ true) (digits_value 10)
own = numerals_by_value (λ ds. all_ascii_digits ds ≡ true) tells_all_ascii_digits

wide : (n : ℕ) → n < 2 ^ 32 → n < 2 ^ 64
wide n h = omega (arith, h)

same-number : (m n : ℕ) → m < 2 ^ 32 → n < 2 ^ 32 → decimal m ≡ decimal n → m ≡ n
same-number m n low small e = sym (digits_value-decimal own m (wide m low)) ∙ ap (digits_value 10) e ∙ digits_value-decimal own n (wide n small)

-- digits in front of a mark that is no digit
pub record Cut (xs ys r s : List ℕ) : Type 0 where
  pub front : xs ≡ ys
  pub behind : r ≡ s

cut : (xs ys r s : List ℕ) → all_ascii_digits xs ≡ true → all_ascii_digits ys ≡ true → xs ++ (95 ∷ r) ≡ ys ++ (95 ∷ s) → Cut xs ys r s
cut [] [] r s d e h = record { front = refl; behind = cc }
cut [] (y ∷ ys) r s d e h =
    let same : 95 ≡ y = cc in
    let digit = (and_parts (is_ascii_digit y) (all_ascii_digits ys) e).0 in
    absurd (false≢true (ap is_ascii_digit same ∙ digit))
cut (x ∷ xs) [] r s d e h =
    let same : x ≡ 95 = cc in
    let digit = (and_parts (is_ascii_digit x) (all_ascii_digits xs) d).0 in
    absurd (false≢true (ap is_ascii_digit (sym same) ∙ digit))
cut (x ∷ xs) (y ∷ ys) r s d e h =
    let same : x ≡ y = cc in
    let rest : xs ++ (95 ∷ r) ≡ ys ++ (95 ∷ s) = cc in
    let more = cut xs ys r s (and_parts (is_ascii_digit x) (all_ascii_digits xs) d).1 (and_parts (is_ascii_digit y) (all_ascii_digits ys) e).1 rest in
    record { front = (λ i. same i ∷ more.front i); behind = more.behind }

digits : (n : ℕ) → n < 2 ^ 32 → all_ascii_digits (decimal n) ≡ true
digits n h = digits_decimal own n (wide n h)

abbrev a_helper : HelperKind → ℕ → Helper
a_helper kind width = record { kind = kind; width = width }

select-same : (p i w q j v : ℕ) → p < 2 ^ 32 → i < 2 ^ 32 → w < 2 ^ 32 → q < 2 ^ 32 → j < 2 ^ 32 → v < 2 ^ 32
    → (decimal p ++ (95 ∷ decimal i)) ++ (95 ∷ decimal w) ≡ (decimal q ++ (95 ∷ decimal j)) ++ (95 ∷ decimal v)
    → a_helper (Select p i) w ≡ a_helper (Select q j) v
select-same p i w q j v a b c d e f h =
    let first = cut (decimal p) (decimal q) (decimal i ++ (95 ∷ decimal w)) (decimal j ++ (95 ∷ decimal v)) (digits p a) (digits q d)
    (sym (append_assoc (decimal p) (95 ∷ decimal i) (95 ∷ decimal w)) ∙ h ∙ append_assoc (decimal q) (95 ∷ decimal j) (95 ∷ decimal v)) in
    let second = cut (decimal i) (decimal j) (decimal w) (decimal v) (digits i b) (digits j e) first.behind in
    (λ k. a_helper (Select (same-number p q a d first.front k) (same-number i j b e second.front k)) (same-number w v c f second.behind k))

abbrev first : List ℕ → ℕ
first [] = 0
first (c ∷ cs) = c

differ : {A : Type 0} (m n : ℕ) → m ≡ n → (m == n) ≡ false → A
differ m n e f = absurd (false≢true (sym f ∙ eq-eqb m n e))

by-kinds : (k l : HelperKind) (w v : ℕ) → IsKind k → IsKind l → w < 2 ^ 32 → v < 2 ^ 32 → kind_text k ++ (95 ∷ decimal w) ≡ kind_text l ++ (95 ∷ decimal v)
    → a_helper k w ≡ a_helper l v
by-kinds Cast Cast w v a b c d h = ap (a_helper Cast) (same-number w v c d (ap (drop 5) h))
by-kinds Cast TwoState w v a b c d h = differ _ _ (ap first h) refl
by-kinds Cast (Select q j) w v a b c d h = differ _ _ (ap first h) refl
by-kinds Cast WildEq w v a b c d h = differ _ _ (ap first h) refl
by-kinds TwoState Cast w v a b c d h = differ _ _ (ap first h) refl
by-kinds TwoState TwoState w v a b c d h = ap (a_helper TwoState) (same-number w v c d (ap (drop 10) h))
by-kinds TwoState (Select q j) w v a b c d h = differ _ _ (ap first h) refl
by-kinds TwoState WildEq w v a b c d h = differ _ _ (ap first h) refl
by-kinds (Select p i) Cast w v a b c d h = differ _ _ (ap first h) refl
by-kinds (Select p i) TwoState w v a b c d h = differ _ _ (ap first h) refl
by-kinds (Select p i) (Select q j) w v a b c d h = select-same p i w q j v a.0 a.1 c b.0 b.1 d (ap (drop 7) h)
by-kinds (Select p i) WildEq w v a b c d h = differ _ _ (ap first h) refl
by-kinds WildEq Cast w v a b c d h = differ _ _ (ap first h) refl
by-kinds WildEq TwoState w v a b c d h = differ _ _ (ap first h) refl
by-kinds WildEq (Select q j) w v a b c d h = differ _ _ (ap first h) refl
by-kinds WildEq WildEq w v a b c d h = ap (a_helper WildEq) (same-number w v c d (ap (drop 8) h))

pub helper_names : HelperNames
helper_names h k a b c d e = by-kinds h.kind k.kind h.width k.width a b c d (ap (drop 7) e)

pub ruleset appends = (append_assoc)

-- A list of spans and its halves.
use Rattle.std.proofs.Common.{◌≡◌, ℕ, ◌||◌, List, [], ◌∷◌, length, take, drop, slice_index_or, ap, sym, ◌∙◌, arith}
use Rattle.std.specs.Prelude.{Result, Ok, Err, IfOk}
use Rattle.std.proofs.lemmas.List.{take-append-drop}
use Rattle.bit_sets.specs.declared.span.Span.{Span}
use Rattle.bit_sets.specs.Sets.{covers, in_spans}
use Rattle.bit_sets.proofs.Laws as L

pub if-ok : {T E : Type 0} {P Q : T → Type 0} → ((x : T) → P x → Q x) → (r : Result T E) → IfOk r P → IfOk r Q
if-ok f (Ok x) h = f x h
if-ok f (Err e) h = h

pub single : (xs : List Span) (d : Span) (n : ℕ) → length xs ≡ 1 → covers (slice_index_or xs 0 d) n ≡ in_spans xs n
single [] d n h = absurd (omega (arith, h))
single (x ∷ []) d n h = sym (L.or-false (covers x n)) ∙ ap (λ b. covers x n || b) (sym (L.in-none n)) ∙ sym (L.in-more x [] n)
single (x ∷ y ∷ xs) d n h = absurd (omega (arith, h))

pub halves : (k n : ℕ) (xs front back : List Span) → front ≡ take k xs → back ≡ drop k xs → (in_spans front n || in_spans back n) ≡ in_spans xs n
halves k n xs front back first rest =
    ap (λ ys. in_spans ys n || in_spans back n) first ∙ ap (λ ys. in_spans (take k xs) n || in_spans ys n) rest
    ∙ sym (L.in-append (take k xs) (drop k xs) n) ∙ ap (λ ys. in_spans ys n) (take-append-drop k xs)

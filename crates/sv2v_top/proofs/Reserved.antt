-- What a source doesn't reserve, a target doesn't.
use Rattle.std.proofs.Common.{◌≡◌, ℕ, ◌==◌, Bool, true, false, nat_lt, List, [], ◌∷◌, refl, sym, subst, ◌∙◌, inl, inr, if◌then◌else◌}
use Rattle.std.specs.List.{list_all, list_any}
use Rattle.std.specs.Str.{bytes_eq}
use Rattle.std.proofs.lemmas.Bool.{and_parts, or_cases, false≢true}
use Rattle.std.proofs.lemmas.Slice.Eq.{bytes_eq-Decides}
use Rattle.sv_lexer.specs.Tables.{reserved_words as source_words, is_reserved as is_source_reserved}
use Rattle.v_tree.specs.Reserved.{words_of, words_to_f, words_to_m, words_to_s, words_to_x, words_with, is_reserved}

-- the words of a text are reserved in a source, but for an empty one
abbrev is_word_of_source : List ℕ → Bool
is_word_of_source [] = true
is_word_of_source (c ∷ cs) = is_source_reserved (c ∷ cs)

abbrev AllReserved : List ℕ → Type 0
AllReserved text = list_all is_word_of_source (words_of text) ≡ true

one-of : (b : Bool) (x y : List ℕ) → AllReserved x → AllReserved y → AllReserved (if b then x else y)
one-of true x y f g = f
one-of false x y f g = g

to-f : (c : ℕ) → AllReserved (words_to_f c)
unfolding words_to_f source_words
to-f c =
    one-of (c == 97) _ _ refl (one-of (c == 98) _ _ refl (one-of (c == 99) _ _ refl (one-of (c == 100) _ _ refl (one-of (c == 101) _ _ refl (one-of (c == 102) _ _ refl refl)))))

to-m : (c : ℕ) → AllReserved (words_to_m c)
unfolding words_to_m source_words
to-m c =
    one-of (c == 103) _ _ refl (one-of (c == 104) _ _ refl (one-of (c == 105) _ _ refl (one-of (c == 106) _ _ refl (one-of (c == 108) _ _ refl (one-of (c == 109) _ _ refl refl)))))

to-s : (c : ℕ) → AllReserved (words_to_s c)
unfolding words_to_s source_words
to-s c =
    one-of (c == 110) _ _ refl (one-of (c == 111) _ _ refl (one-of (c == 112) _ _ refl (one-of (c == 114) _ _ refl (one-of (c == 115) _ _ refl refl))))

to-x : (c : ℕ) → AllReserved (words_to_x c)
unfolding words_to_x source_words
to-x c =
    one-of (c == 116) _ _ refl (one-of (c == 117) _ _ refl (one-of (c == 118) _ _ refl (one-of (c == 119) _ _ refl (one-of (c == 120) _ _ refl refl))))

each : (c : ℕ) → AllReserved (words_with c)
unfolding words_with
each c = one-of (nat_lt c 103) _ _ (to-f c) (one-of (nat_lt c 110) _ _ (to-m c) (one-of (nat_lt c 116) _ _ (to-s c) (to-x c)))

-- so a reserved word of a target is one of a source
among-them : (c : ℕ) (cs : List ℕ) (words : List (List ℕ)) → list_all is_word_of_source words ≡ true → list_any (λ word. bytes_eq word (c ∷ cs)) words ≡ true → is_source_reserved (c ∷ cs) ≡ true
among-them c cs [] all e = absurd (false≢true e)
among-them c cs (w ∷ words) all e =
    let parts = and_parts (is_word_of_source w) (list_all is_word_of_source words) all in
    elim (or_cases (bytes_eq w (c ∷ cs)) (list_any (λ word. bytes_eq word (c ∷ cs)) words) e) [
      | inl h ↦ subst (λ x. is_word_of_source x ≡ true) ((bytes_eq-Decides w (c ∷ cs)).0 h) parts.0
      | inr h ↦ among-them c cs words parts.1 h
    ]

reserved-in-both : (name : List ℕ) → is_reserved name ≡ true → is_source_reserved name ≡ true
unfolding is_reserved
reserved-in-both [] e = absurd (false≢true e)
reserved-in-both (c ∷ cs) e = among-them c cs (words_of (words_with c)) (each c) e

pub unreserved : (name : List ℕ) → is_source_reserved name ≡ false → is_reserved name ≡ false
unreserved name e = by (is_reserved name) refl
  where
    by : (b : Bool) → is_reserved name ≡ b → is_reserved name ≡ false
    by true h = absurd (false≢true (sym e ∙ reserved-in-both name h))
    by false h = h

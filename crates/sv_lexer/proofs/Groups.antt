-- The groups of a table's words.
use Rattle.std.proofs.Common.{◌≡◌, ℕ, ◌+◌, ◌<◌, ◌≤◌, Bool, true, false, cond, ◌==◌, ◌^◌, ◌&&◌, ◌||◌, nat_lt, List, [], ◌∷◌, ◌++◌, map, length, take, drop, get_or, set, replicate, slice_range, refl, sym, ap, ◌∙◌, arith, length-append, length-take, Bor}
use Rattle.std.proofs.lemmas.Bool.Decides.{nat_tests}
use Rattle.std.proofs.lemmas.Bool.{eqb-true, eqb-false}
use Rattle.std.proofs.lemmas.Grind.{get_or-set_at}
use Rattle.std.proofs.lemmas.List.{map-append, get_or-set_other, get_or-replicate, length-replicate, length-set, take_more, take-append-drop, take-append-le, drop-append-le, take_all, drop_all}
use Rattle.std.proofs.lemmas.List.Folds.{list_any-append, drop_split}
use Rattle.std.specs.List.{list_any}
use Rattle.std.specs.Str.{bytes_eq}
use Rattle.sv_lexer.specs.declared.tables.Group.{Group}
use Rattle.sv_lexer.specs.Spans.{begins}
use Rattle.sv_lexer.specs.Tables.{longest_of, reserved_words, marks, is_reserved, mark_span}
use Rattle.sv_lexer.specs.Groups.{no_group, group_of, group_words, widened, with_word, has_first, any_begins, IsGroup, IsGrouped}
use Rattle.sv_lexer.proofs.Words.{list_any-now}

pub or-false : (a b : Bool) → (a || b) ≡ false → (a ≡ false) × (b ≡ false)
or-false false b e = (refl, e)
or-false true b e = absurd (let never : true ≡ false = e in cc)

and-false : (a : Bool) → (a && false) ≡ false
and-false true = refl
and-false false = refl

-- a word is not the name, if it begins with another byte
is-none : (c : ℕ) (cs word : List ℕ) → has_first c word ≡ false → bytes_eq word (c ∷ cs) ≡ false
is-none c cs [] other = refl
is-none c cs (d ∷ ds) other = rw other

any-none : (c : ℕ) (cs : List ℕ) (words : List (Bor (List ℕ))) → any_begins c words ≡ false → list_any (λ word. bytes_eq word.now (c ∷ cs)) words ≡ false
any-none c cs [] none = refl
any-none c cs (w ∷ words) none =
    let both = or-false (has_first c w.now) (any_begins c words) none in
    rw (is-none c cs w.now both.0, any-none c cs words both.1)

-- a text doesn't begin with it either
longer-none : (c : ℕ) (cs : List ℕ) (least : ℕ) (word : List ℕ) → has_first c word ≡ false → (nat_lt least (length word) && begins (c ∷ cs) word) ≡ false
longer-none c cs least [] other =
    let none : nat_lt least 0 ≡ false = grind (arith, nat_tests) in
    rw none
longer-none c cs least (d ∷ ds) other = rw other (and-false _)

pub longest_of-none : (c : ℕ) (cs : List ℕ) (least : ℕ) (words : List (List ℕ)) → list_any (has_first c) words ≡ false → longest_of (c ∷ cs) least words ≡ least
longest_of-none c cs least [] none = refl
longest_of-none c cs least (word ∷ words) none =
    let both = or-false (has_first c word) (list_any (has_first c) words) none in
    rw (longer-none c cs least word both.0) (longest_of-none c cs least words both.1)

longest_of-append : (bytes : List ℕ) (xs ys : List (List ℕ)) (least : ℕ) → longest_of bytes least (xs ++ ys) ≡ longest_of bytes (longest_of bytes least xs) ys
longest_of-append bytes [] ys least = refl
longest_of-append bytes (x ∷ xs) ys least = longest_of-append bytes xs ys (cond (nat_lt least (length x) && begins bytes x) (length x) least)

-- a table is what stands before a group, in it and behind it
cut : (words : List (Bor (List ℕ))) (start end : ℕ) → start ≤ end → words ≡ take start words ++ (slice_range words start end ++ drop end words)
cut words start end order = sym (take-append-drop start words) ∙ ap (λ ws. take start words ++ ws) (drop_split words start end order)

module _ (c : ℕ) (cs : List ℕ) (words : List (Bor (List ℕ))) (group : Group) (is : IsGroup words c group) where
  -- a name is among all words if it is in its group
  list_any-group : list_any (λ word. bytes_eq word.now (c ∷ cs)) (slice_range words group.start group.end) ≡ list_any (λ word. bytes_eq word.now (c ∷ cs)) words
  list_any-group =
      let test : Bor (List ℕ) → Bool = λ word. bytes_eq word.now (c ∷ cs) in
      let parts : list_any test words ≡ (list_any test (take group.start words) || (list_any test (slice_range words group.start group.end) || list_any test (drop group.end words))) =
      ap (list_any test) (cut words group.start group.end is.order)
      ∙ list_any-append test (take group.start words) _
      ∙ ap (λ b. list_any test (take group.start words) || b) (list_any-append test (slice_range words group.start group.end) _) in
      rw (parts, any-none c cs (take group.start words) is.before, any-none c cs (drop group.end words) is.behind) (or-none _)
    where
      or-none : (b : Bool) → b ≡ (b || false)
      or-none true = refl
      or-none false = refl

  -- and so is the longest that begins a text
  longest_of-group : longest_of (c ∷ cs) 0 (map (λ w. w.now) (slice_range words group.start group.end)) ≡ longest_of (c ∷ cs) 0 (map (λ w. w.now) words)
  longest_of-group =
      let now : List (Bor (List ℕ)) → List (List ℕ) = map (λ w. w.now) in
      let first : longest_of (c ∷ cs) 0 (now (take group.start words)) ≡ 0 = longest_of-none c cs 0 (now (take group.start words)) (list_any-now (has_first c) (take group.start words) ∙ is.before) in
      let parts : now words ≡ now (take group.start words) ++ (now (slice_range words group.start group.end) ++ now (drop group.end words)) =
      ap now (cut words group.start group.end is.order)
      ∙ map-append (λ w. w.now) (take group.start words) _
      ∙ ap (λ ws. now (take group.start words) ++ ws) (map-append (λ w. w.now) (slice_range words group.start group.end) _) in
      sym (ap (longest_of (c ∷ cs) 0) parts
      ∙ longest_of-append (c ∷ cs) (now (take group.start words)) _ 0
      ∙ ap (λ n. longest_of (c ∷ cs) n (now (slice_range words group.start group.end) ++ now (drop group.end words))) first
      ∙ longest_of-append (c ∷ cs) (now (slice_range words group.start group.end)) _ 0
      ∙ longest_of-none c cs _ (now (drop group.end words)) (list_any-now (has_first c) (drop group.end words) ∙ is.behind))

-- groups of no words
pub IsGrouped-none : IsGrouped [] (replicate 256 no_group)
IsGrouped-none = record {
  bytes = length-replicate 256 no_group;
  each = λ byte within. rw (get_or-replicate 256 byte no_group no_group within) (record { before = refl; behind = refl; order = omega arith; within = omega arith });
}

module _ (words : List (Bor (List ℕ))) (word : Bor (List ℕ)) (byte : ℕ) (group : Group) (is : IsGroup words byte group) where
  -- a word that begins with another byte
  IsGroup-stays : has_first byte word.now ≡ false → IsGroup (words ++ word ∷ []) byte group
  IsGroup-stays other = record {
    before = rw (take-append-le group.start words (word ∷ []) (omega (arith, is.order, is.within))) is.before;
    behind = rw (drop-append-le group.end words (word ∷ []) is.within, list_any-append, is.behind, other);
    order = is.order;
    within = omega (arith, is.within, length-append words (word ∷ []));
  }

  -- any word
  IsGroup-widened : IsGroup (words ++ word ∷ []) byte (widened group (length words))
  IsGroup-widened = record {
    before = first (group.end == 0) refl;
    behind = rw (drop_all (length words + 1) (words ++ word ∷ []) (omega (arith, length-append words (word ∷ []))));
    order = start (group.end == 0);
    within = omega (arith, length-append words (word ∷ []));
  }
    where
      start : (empty : Bool) → (cond {A = ℕ} empty (length words) group.start) ≤ length words + 1
      start true = omega arith
      start false = omega (arith, is.order, is.within)

      first : (empty : Bool) → group.end == 0 ≡ empty → any_begins byte (take (cond empty (length words) group.start) (words ++ word ∷ [])) ≡ false
      first false e = rw (take-append-le group.start words (word ∷ []) (omega (arith, is.order, is.within))) is.before
      first true e =
          let none : group.end ≡ 0 = eqb-true group.end 0 e in
          let all : any_begins byte words ≡ false = rw none at is.behind in
          rw (take-append-le (length words) words (word ∷ []) (omega arith), take_all (length words) words (omega arith)) all

-- one more word
pub IsGrouped-with_word : (words : List (Bor (List ℕ))) (groups : List Group) (word : Bor (List ℕ)) → IsGrouped words groups → IsGrouped (words ++ word ∷ []) (with_word groups word.now (length words))
IsGrouped-with_word words groups word grouped = by_text word.now refl
  where
    by_byte : (c : ℕ) (cs : List ℕ) (byte : ℕ) (same : Bool) → word.now ≡ c ∷ cs → byte < 256 → c == byte ≡ same →
        IsGroup (words ++ word ∷ []) byte (group_of (set groups c (widened (group_of groups c) (length words))) byte)
    by_byte c cs byte true e within same =
        let at : c ≡ byte = eqb-true c byte same in
        let here : group_of (set groups c (widened (group_of groups c) (length words))) byte ≡ widened (group_of groups c) (length words) =
        get_or-set_at groups c byte _ no_group (sym at) (omega (arith, grouped.bytes)) in
        rw (here, at) (IsGroup-widened words word byte (group_of groups byte) (grouped.each byte within))
    by_byte c cs byte false e within same =
        let other : byte ≡ c → ⊥ = λ is. eqb-false c byte same (sym is) in
        let differs : has_first byte word.now ≡ false = rw e same in
        rw (get_or-set_other groups c byte (widened (group_of groups c) (length words)) no_group other) (IsGroup-stays words word byte (group_of groups byte) (grouped.each byte within) differs)

    by_text : (text : List ℕ) → word.now ≡ text → IsGrouped (words ++ word ∷ []) (with_word groups text (length words))
    by_text [] e = record {
      bytes = grouped.bytes;
      each = λ byte within. IsGroup-stays words word byte (group_of groups byte) (grouped.each byte within) (rw e);
    }
    by_text (c ∷ cs) e = record {
      bytes = rw length-set grouped.bytes;
      each = λ byte within. by_byte c cs byte (c == byte) e within refl;
    }

-- a step of a loop over the words
pub IsGrouped-more : (words : List (Bor (List ℕ))) (at : ℕ) (word : Bor (List ℕ)) (groups next : List Group) → at < length words → IsGrouped (take at words) groups →
    word ≡ get_or words at word → next ≡ with_word groups word.now at → IsGrouped (take (at + 1) words) next
IsGrouped-more words at word groups next within grouped is e =
    let before : length (take at words) ≡ at = omega (arith, length-take at words) in
    let more : IsGrouped (take at words ++ word ∷ []) (with_word groups word.now at) = rw before at (IsGrouped-with_word (take at words) groups word grouped) in
    rw (take_more words at word within, ← is, e) more

-- the empty text is no reserved word and begins with no mark
longest_of-empty : (least : ℕ) (words : List (List ℕ)) → longest_of [] least words ≡ least
longest_of-empty least [] = refl
longest_of-empty least ([] ∷ words) =
    let none : nat_lt least 0 ≡ false = grind (arith, nat_tests) in
    rw none (longest_of-empty least words)
longest_of-empty least ((d ∷ ds) ∷ words) = rw (and-false (nat_lt least (length (d ∷ ds)))) (longest_of-empty least words)

pub is_reserved-empty : (name : List ℕ) → length name < 1 → false ≡ is_reserved name
unfolding reserved_words
is_reserved-empty [] none = refl
is_reserved-empty (c ∷ cs) none = absurd (omega arith)

pub mark_span-empty : (bytes : List ℕ) → length bytes < 1 → 0 ≡ mark_span bytes
mark_span-empty [] none = sym (longest_of-empty 0 marks)
mark_span-empty (c ∷ cs) none = absurd (omega arith)

-- a name is looked for in the group of its first byte
pub is_reserved-group : (name : List ℕ) (words group : List (Bor (List ℕ))) (groups : List Group) (result : Bool) → map (λ w. w.now) words ≡ reserved_words → IsGrouped words groups →
    1 ≤ length name → get_or name 0 0 < 2 ^ 8 → group ≡ group_words words groups (get_or name 0 0) → result ≡ list_any (λ word. bytes_eq word.now name) group → result ≡ is_reserved name
is_reserved-group [] words group groups result all grouped some byte e is = absurd (omega arith)
is_reserved-group (c ∷ cs) words group groups result all grouped some byte e is =
    is ∙ ap (list_any (λ word. bytes_eq word.now (c ∷ cs))) e ∙ list_any-group c cs words (group_of groups c) (grouped.each c byte)
    ∙ sym (list_any-now (λ word. bytes_eq word (c ∷ cs)) words) ∙ ap (list_any (λ word. bytes_eq word (c ∷ cs))) all

-- and the marks at the front of a text in the group of its first byte
pub mark_span-group : (bytes : List ℕ) (words group : List (Bor (List ℕ))) (groups : List Group) (result : ℕ) → map (λ w. w.now) words ≡ marks → IsGrouped words groups →
    1 ≤ length bytes → get_or bytes 0 0 < 2 ^ 8 → group ≡ group_words words groups (get_or bytes 0 0) → result ≡ longest_of bytes 0 (map (λ word. word.now) group) → result ≡ mark_span bytes
mark_span-group [] words group groups result all grouped some byte e is = absurd (omega arith)
mark_span-group (c ∷ cs) words group groups result all grouped some byte e is =
    is ∙ ap (λ ws. longest_of (c ∷ cs) 0 (map (λ w. w.now) ws)) e ∙ longest_of-group c cs words (group_of groups c) (grouped.each c byte) ∙ ap (longest_of (c ∷ cs) 0) all

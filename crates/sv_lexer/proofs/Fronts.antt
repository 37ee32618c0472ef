-- The longest piece of a text by its first byte, where only one kind begins with that byte.
use Rattle.std.proofs.Common.{◌≡◌, ℕ, ◌<◌, ◌≤◌, Bool, true, false, cond, ◌==◌, nat_lt, List, [], ◌∷◌, ◌++◌, length, take, drop, get_or, fold, refl, sym, ap, ◌∙◌, arith, length-take}
use Rattle.std.proofs.lemmas.Bool.Decides.{nat_tests}
use Rattle.std.proofs.lemmas.Bool.{eqb-true}
use Rattle.std.specs.List.{list_any}
use Rattle.sv_source.specs.declared.token.Kind.TheVariants.{Name, Decimal, Mark, Line, Bad}
use Rattle.sv_lexer.specs.declared.piece.Piece.{Piece}
use Rattle.sv_lexer.specs.Bytes.{is_white, is_letter, is_digit, opens_many}
use Rattle.sv_lexer.specs.Spans.{white_span, line_span, continued_span, line_comment_span, block_comment_span, cut_span, name_span, system_span, directive_span, paste_span, quote_span, decimal_span}
use Rattle.sv_lexer.specs.Literals.{based_span, fill_span, string_span}
use Rattle.sv_lexer.specs.Groups.{has_first}
use Rattle.sv_lexer.specs.Tables.{marks, mark_span}
use Rattle.sv_lexer.specs.Pieces.{gap, token, longer, pieces, longest}
use Rattle.sv_lexer.proofs.Groups.{or-false, longest_of-none}

abbrev Empties : List Piece → Type 0
Empties [] = Unit {0}
Empties (p ∷ ps) = p.len ≡ 0 × Empties ps

longer-empty : (a b : Piece) → b.len ≡ 0 → longer a b ≡ a
longer-empty a b none =
    let no_longer : nat_lt a.len b.len ≡ false = grind (arith, nat_tests) in
    rw no_longer

fold-empties : (first : Piece) (ps rest : List Piece) → Empties ps → fold longer first (ps ++ rest) ≡ fold longer first rest
fold-empties first [] rest none = refl
fold-empties first (p ∷ ps) rest none = ap (λ q. fold longer q (ps ++ rest)) (longer-empty first p none.0) ∙ fold-empties first ps rest none.1

longer-bad : (p : Piece) → 1 ≤ p.len → longer p (token Bad 1) ≡ p
longer-bad p some =
    let no_longer : nat_lt p.len 1 ≡ false = grind (arith, nat_tests) in
    rw no_longer

-- the first piece, where the others are empty
first-wins : (p : Piece) (after : List Piece) → 1 ≤ p.len → Empties after → fold longer p (after ++ token Bad 1 ∷ []) ≡ p
first-wins p after some none = fold-empties p after _ none ∙ longer-bad p some

-- the one piece that isn't empty
one-left : (first p : Piece) (before after : List Piece) → first.len ≡ 0 → Empties before → Empties after →
    fold longer first (before ++ p ∷ (after ++ token Bad 1 ∷ [])) ≡ longer (longer first p) (token Bad 1)
one-left first p before after empty none_before none_after = fold-empties first before _ none_before ∙ fold-empties (longer first p) after _ none_after

one-wins : (first p : Piece) (before after : List Piece) → first.len ≡ 0 → Empties before → 1 ≤ p.len → Empties after →
    fold longer first (before ++ p ∷ (after ++ token Bad 1 ∷ [])) ≡ p
one-wins first p before after empty none_before some none_after =
    let right : nat_lt first.len p.len ≡ true = grind (arith, nat_tests) in
    one-left first p before after empty none_before none_after ∙ rw right (longer-bad p some)

-- the test holds of one byte and not of the other
apart : (test : ℕ → Bool) (c k : ℕ) → test c ≡ true → test k ≡ false → c == k ≡ false
apart test c k is isnt = cases (c == k) refl
  where
    cases : (same : Bool) → c == k ≡ same → same ≡ false
    cases false e = refl
    cases true e =
        let both : test c ≡ test k = ap test (eqb-true c k e) in
        let never : true ≡ false = sym is ∙ both ∙ isnt in
        absurd (let no : true ≡ false = never in cc)

apart-back : (test : ℕ → Bool) (c k : ℕ) → test c ≡ true → test k ≡ false → k == c ≡ false
apart-back test c k is isnt =
    let e : c == k ≡ false = apart test c k is isnt in
    grind (arith, nat_tests)

abbrev starts : (ℕ → Bool) → List ℕ → Bool
starts test [] = false
starts test (d ∷ ds) = test d

-- no word begins with a byte of the class
first-none : (test : ℕ → Bool) (c : ℕ) (words : List (List ℕ)) → test c ≡ true → list_any (starts test) words ≡ false → list_any (has_first c) words ≡ false
first-none test c [] is none = refl
first-none test c ([] ∷ words) is none = first-none test c words is none
first-none test c ((d ∷ ds) ∷ words) is none =
    let both = or-false (test d) (list_any (starts test) words) none in
    rw (apart-back test c d is both.0) (first-none test c words is both.1)

mark-none : (test : ℕ → Bool) (c : ℕ) (cs : List ℕ) → test c ≡ true → list_any (starts test) marks ≡ false → mark_span (c ∷ cs) ≡ 0
mark-none test c cs is none = longest_of-none c cs 0 marks (first-none test c marks is none)

module _ (c : ℕ) (cs : List ℕ) where
  white-none : is_white c ≡ false → white_span (c ∷ cs) ≡ 0
  white-none e = rw e

  line_comment-none : 47 == c ≡ false → line_comment_span (c ∷ cs) ≡ 0
  line_comment-none e = rw e

  block_comment-none : 47 == c ≡ false → block_comment_span (c ∷ cs) ≡ 0
  block_comment-none e = rw e

  cut-none : 47 == c ≡ false → cut_span (c ∷ cs) ≡ 0
  cut-none e = rw e

  line-none : 10 == c ≡ false → line_span (c ∷ cs) ≡ 0
  line-none e = rw e

  continued-none : 92 == c ≡ false → continued_span (c ∷ cs) ≡ 0
  continued-none e = rw e

  name-none : is_letter c ≡ false → name_span (c ∷ cs) ≡ 0
  name-none e = rw e

  system-none : c == 36 ≡ false → system_span (c ∷ cs) ≡ 0
  system-none e = rw e

  decimal-none : is_digit c ≡ false → decimal_span (c ∷ cs) ≡ 0
  decimal-none e = rw e

  based-none : c == 39 ≡ false → based_span (c ∷ cs) ≡ 0
  based-none e = rw e

  fill-none : c == 39 ≡ false → fill_span (c ∷ cs) ≡ 0
  fill-none e = rw e

  string-none : c == 34 ≡ false → string_span (c ∷ cs) ≡ 0
  string-none e = rw e

  directive-none : c == 96 ≡ false → directive_span (c ∷ cs) ≡ 0
  directive-none e = rw e

  paste-none : 96 == c ≡ false → paste_span (c ∷ cs) ≡ 0
  paste-none e = rw e

  quote-none : 96 == c ≡ false → quote_span (c ∷ cs) ≡ 0
  quote-none e = rw e

white-no_letter : (c : ℕ) → is_white c ≡ true → is_letter c ≡ false
white-no_letter c is = grind (arith, nat_tests)

white-no_digit : (c : ℕ) → is_white c ≡ true → is_digit c ≡ false
white-no_digit c is = grind (arith, nat_tests)

letter-no_digit : (c : ℕ) → is_letter c ≡ true → is_digit c ≡ false
letter-no_digit c is = grind (arith, nat_tests)

-- bytes other than those with which tokens of several kinds begin
record Lone (c : ℕ) : Type 0 where
  slash : 47 == c ≡ false
  backslash : 92 == c ≡ false
  dollar : c == 36 ≡ false
  tick : c == 39 ≡ false
  quote : c == 34 ≡ false
  backquote : c == 96 ≡ false
  backquote_back : 96 == c ≡ false

lone-of : (test : ℕ → Bool) (c : ℕ) → test c ≡ true → test 47 ≡ false → test 92 ≡ false → test 36 ≡ false → test 39 ≡ false → test 34 ≡ false → test 96 ≡ false → Lone c
lone-of test c is slash backslash dollar tick quote backquote = record {
  slash = apart-back test c 47 is slash;
  backslash = apart-back test c 92 is backslash;
  dollar = apart test c 36 is dollar;
  tick = apart test c 39 is tick;
  quote = apart test c 34 is quote;
  backquote = apart test c 96 is backquote;
  backquote_back = apart-back test c 96 is backquote;
}

lone-other : (c : ℕ) → opens_many c ≡ false → Lone c
lone-other c e = record {
  slash = grind (arith, nat_tests);
  backslash = grind (arith, nat_tests);
  dollar = grind (arith, nat_tests);
  tick = grind (arith, nat_tests);
  quote = grind (arith, nat_tests);
  backquote = grind (arith, nat_tests);
  backquote_back = grind (arith, nat_tests);
}

Empties-append : (ps qs : List Piece) → Empties ps → Empties qs → Empties (ps ++ qs)
Empties-append [] qs none_left none_right = none_right
Empties-append (p ∷ ps) qs none_left none_right = (none_left.0, Empties-append ps qs none_left.1 none_right)

module _ (c : ℕ) (cs : List ℕ) (lone : Lone c) where
  -- before names
  lines-none : 10 == c ≡ false → Empties (take 5 (pieces (c ∷ cs)))
  lines-none newline = (line_comment-none c cs lone.slash, (block_comment-none c cs lone.slash, (cut-none c cs lone.slash, (line-none c cs newline, (continued-none c cs lone.backslash, tt)))))

  -- between decimals and marks
  literals-none : Empties (take 6 (drop 8 (pieces (c ∷ cs))))
  literals-none = (based-none c cs lone.tick, (fill-none c cs lone.tick, (string-none c cs lone.quote, (directive-none c cs lone.backquote, (paste-none c cs lone.backquote_back, (quote-none c cs lone.backquote_back, tt))))))

  -- behind decimals
  marks-none : mark_span (c ∷ cs) ≡ 0 → Empties (take 7 (drop 8 (pieces (c ∷ cs))))
  marks-none mark = Empties-append (take 6 (drop 8 (pieces (c ∷ cs)))) (token Mark (mark_span (c ∷ cs)) ∷ []) literals-none (mark, tt)

-- a byte of white space begins a gap
pub longest-white : (bytes : List ℕ) → 0 < length bytes → is_white (get_or bytes 0 0) ≡ true → longest bytes ≡ gap (white_span bytes)
unfolding longest marks
longest-white [] some is = absurd (omega arith)
longest-white (c ∷ cs) some is =
    let lone : Lone c = lone-of is_white c is refl refl refl refl refl refl in
    let white : 1 ≤ white_span (c ∷ cs) = rw is (omega (arith, length-take {A = ℕ})) in
    let lines : Empties (take 5 (pieces (c ∷ cs))) = lines-none c cs lone (apart-back is_white c 10 is refl) in
    let mark : mark_span (c ∷ cs) ≡ 0 = mark-none is_white c cs is refl in
    first-wins (gap (white_span (c ∷ cs))) (take 15 (pieces (c ∷ cs))) white
    (Empties-append (take 5 (pieces (c ∷ cs))) (take 10 (drop 5 (pieces (c ∷ cs)))) lines
    (name-none c cs (white-no_letter c is), (system-none c cs lone.dollar, (decimal-none c cs (white-no_digit c is), marks-none c cs lone mark))))

-- a letter begins a name
pub longest-name : (bytes : List ℕ) → 0 < length bytes → is_white (get_or bytes 0 0) ≡ false → is_letter (get_or bytes 0 0) ≡ true → longest bytes ≡ token Name (name_span bytes)
unfolding longest marks
longest-name [] some white is = absurd (omega arith)
longest-name (c ∷ cs) some white is =
    let lone : Lone c = lone-of is_letter c is refl refl refl refl refl refl in
    let name : 1 ≤ name_span (c ∷ cs) = rw is (omega arith) in
    let lines : Empties (take 5 (pieces (c ∷ cs))) = lines-none c cs lone (apart-back is_letter c 10 is refl) in
    let mark : mark_span (c ∷ cs) ≡ 0 = mark-none is_letter c cs is refl in
    one-wins (gap (white_span (c ∷ cs))) (token Name (name_span (c ∷ cs))) (take 5 (pieces (c ∷ cs))) (take 9 (drop 6 (pieces (c ∷ cs))))
    (white-none c cs white) lines name (system-none c cs lone.dollar, (decimal-none c cs (letter-no_digit c is), marks-none c cs lone mark))

-- a digit begins a number
pub longest-decimal : (bytes : List ℕ) → 0 < length bytes → is_white (get_or bytes 0 0) ≡ false → is_letter (get_or bytes 0 0) ≡ false → is_digit (get_or bytes 0 0) ≡ true →
    longest bytes ≡ token Decimal (decimal_span bytes)
unfolding longest marks
longest-decimal [] some white letter is = absurd (omega arith)
longest-decimal (c ∷ cs) some white letter is =
    let lone : Lone c = lone-of is_digit c is refl refl refl refl refl refl in
    let decimal : 1 ≤ decimal_span (c ∷ cs) = rw is (omega arith) in
    let lines : Empties (take 5 (pieces (c ∷ cs))) = lines-none c cs lone (apart-back is_digit c 10 is refl) in
    let mark : mark_span (c ∷ cs) ≡ 0 = mark-none is_digit c cs is refl in
    one-wins (gap (white_span (c ∷ cs))) (token Decimal (decimal_span (c ∷ cs))) (take 7 (pieces (c ∷ cs))) (take 7 (drop 8 (pieces (c ∷ cs)))) (white-none c cs white)
    (Empties-append (take 5 (pieces (c ∷ cs))) (take 2 (drop 5 (pieces (c ∷ cs)))) lines (name-none c cs letter, (system-none c cs lone.dollar, tt))) decimal (marks-none c cs lone mark)

-- a newline stands alone
line-alone : (cs : List ℕ) → longest (10 ∷ cs) ≡ token Line 1
unfolding longest marks
line-alone cs =
    let mark : mark_span (10 ∷ cs) ≡ 0 = mark-none (λ b. b == 10) 10 cs refl refl in
    one-wins (gap 0) (token Line 1) (take 3 (pieces (10 ∷ cs))) (take 11 (drop 4 (pieces (10 ∷ cs)))) refl (refl, (refl, (refl, tt))) (omega arith)
    (refl, (refl, (refl, (refl, (refl, (refl, (refl, (refl, (refl, (refl, (mark, tt)))))))))))

pub longest-line : (bytes : List ℕ) → 0 < length bytes → get_or bytes 0 0 ≡ 10 → longest bytes ≡ token Line 1
longest-line [] some is = absurd (omega arith)
longest-line (c ∷ cs) some is = ap (λ b. longest (b ∷ cs)) is ∙ line-alone cs

-- an empty piece before another and a byte alone
skip-first : (first p : Piece) → first.len ≡ 0 → longer (longer first p) (token Bad 1) ≡ longer p (token Bad 1)
skip-first first p empty = cases (nat_lt first.len p.len) refl
  where
    cases : (right : Bool) → nat_lt first.len p.len ≡ right → longer (cond right p first) (token Bad 1) ≡ longer p (token Bad 1)
    cases true e = refl
    cases false e =
        let bad_first : nat_lt first.len 1 ≡ true = grind (arith, nat_tests) in
        let bad : nat_lt p.len 1 ≡ true = grind (arith, nat_tests) in
        rw (bad_first, bad)

-- any other byte begins a mark or stands alone
pub longest-mark : (bytes : List ℕ) → 0 < length bytes → is_white (get_or bytes 0 0) ≡ false → is_letter (get_or bytes 0 0) ≡ false → is_digit (get_or bytes 0 0) ≡ false →
    (get_or bytes 0 0 ≡ 10 → ⊥) → opens_many (get_or bytes 0 0) ≡ false → longest bytes ≡ longer (token Mark (mark_span bytes)) (token Bad 1)
unfolding longest
longest-mark [] some white letter digit newline other = absurd (omega arith)
longest-mark (c ∷ cs) some white letter digit newline other =
    let lone : Lone c = lone-other c other in
    let first : white_span (c ∷ cs) ≡ 0 = white-none c cs white in
    let no_newline : 10 == c ≡ false = grind (arith, nat_tests) in
    let before : Empties (take 14 (pieces (c ∷ cs))) =
    Empties-append (take 5 (pieces (c ∷ cs))) (take 9 (drop 5 (pieces (c ∷ cs)))) (lines-none c cs lone no_newline)
    (name-none c cs letter, (system-none c cs lone.dollar, (decimal-none c cs digit, literals-none c cs lone))) in
    one-left (gap (white_span (c ∷ cs))) (token Mark (mark_span (c ∷ cs))) (take 14 (pieces (c ∷ cs))) [] first before tt
    ∙ skip-first (gap (white_span (c ∷ cs))) (token Mark (mark_span (c ∷ cs))) first

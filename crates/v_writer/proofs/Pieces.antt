-- Pieces are read as their tokens.
use Rattle.std.proofs.Common.{◌≡◌, ℕ, zero, suc, ◌<◌, ◌≤◌, ◌^◌, ◌==◌, ◌⊎◌, inl, inr, Bool, true, false, ◌&&◌, not, List, [], ◌∷◌, ◌++◌, drop, length, codes, decimal, Some, find, refl, sym, ap, subst, ◌∙◌, arith, leb-true}
use Rattle.std.specs.Prelude.{nat_le, if◌then◌else◌}
use Rattle.std.specs.List.{list_all}
use Rattle.std.specs.Str.{bytes_eq}
use Rattle.std.proofs.lemmas.Bool.{and_parts, or_cases, false≢true}
use Rattle.std.proofs.lemmas.Slice.Eq.{bytes_eq-Decides}
use Rattle.std.proofs.lemmas.Bool.Decides.{nat_tests}
use Rattle.std.proofs.lemmas.Fmt.{digits_decimal, decimal_nonempty}
use Rattle.b4_core.specs.declared.bit.Bit4.{Bit4}
use Rattle.v_tree.specs.declared.operators.VBinaryOp.{VBinaryOp}
use Rattle.v_tree.specs.declared.operators.VBinaryOp.TheVariants as B
use Rattle.v_tree.specs.declared.operators.VUnaryOp.{VUnaryOp}
use Rattle.v_tree.specs.declared.operators.VUnaryOp.TheVariants as U
use Rattle.v_tree.specs.Names.{among}
use Rattle.v_tree.specs.Reserved.{words_of, is_reserved, words_with, words_to_f, words_to_m, words_to_s, words_to_x}
use Rattle.v_tree.specs.Tokens.{Token, tokens, is_digit, is_letter, is_word, is_name, is_simple, begins, marks, mark_or_stray, first_cut}
use Rattle.v_tree.specs.Grammatical.{is_number}
use Rattle.v_writer.specs.Layout.{Piece, token, space, line, word, mark, name, number, whole, bytes_from, tokens_of, indentation, spelling, name_spelling, is_escaped_name, unary_mark, binary_mark, sign_word}
use Rattle.v_writer.proofs.Spelled.{Ends, name-read, escaped-read, is_keyword, keyword-read, number-read, decimal-read, all-digits, own, split, told, is-told, pick_false, not_true}

-- pieces are read as their tokens, directly behind an escaped identifier or not
abbrev pub IsRead : List Piece → Type 0
IsRead ps = (escaped : Bool) → tokens (bytes_from escaped ps) ≡ tokens_of ps

pub tokens-append : (ps qs : List Piece) → tokens_of (ps ++ qs) ≡ tokens_of ps ++ tokens_of qs
tokens-append [] qs = refl
tokens-append (token t ∷ ps) qs = ap (λ ts. t ∷ ts) (tokens-append ps qs)
tokens-append (space ∷ ps) qs = tokens-append ps qs
tokens-append (line n ∷ ps) qs = tokens-append ps qs

-- the byte ends a name, a word or a number
abbrev ends_byte : List ℕ → Bool
ends_byte [] = false
ends_byte (c ∷ cs) = not (is_word c) && not (39 == c)

abbrev pub ends_token : Token → Bool
ends_token (Token.name n) = false
ends_token (Token.word n) = false
ends_token (Token.number bits) = false
ends_token (Token.decimal n) = false
ends_token (Token.mark bytes) = ends_byte bytes
ends_token Token.stray = false

-- the pieces begin with white space, or with a mark that ends a name, a word or a number
abbrev pub ends : List Piece → Bool
ends [] = false
ends (token t ∷ ps) = ends_token t
ends (space ∷ ps) = true
ends (line n ∷ ps) = true

mark-ends : (bytes rest : List ℕ) → ends_byte bytes ≡ true → Ends (bytes ++ rest)
mark-ends [] rest e = absurd (false≢true e)
mark-ends (c ∷ cs) rest e =
    let parts = and_parts (not (is_word c)) (not (39 == c)) e in
    record { byte = c; behind = cs ++ rest; is_text = refl; no_word = not_true (is_word c) parts.0; no_tick = not_true (39 == c) parts.1 }

token-ends : (t : Token) (rest : List ℕ) → ends_token t ≡ true → Ends (spelling t ++ rest)
token-ends (Token.name n) rest e = absurd (false≢true e)
token-ends (Token.word n) rest e = absurd (false≢true e)
token-ends (Token.number bits) rest e = absurd (false≢true e)
token-ends (Token.decimal n) rest e = absurd (false≢true e)
token-ends (Token.mark bytes) rest e = mark-ends bytes rest e
token-ends Token.stray rest e = absurd (false≢true e)

pieces-end : (ps : List Piece) → ends ps ≡ true → Ends (bytes_from false ps)
pieces-end [] e = absurd (false≢true e)
pieces-end (token t ∷ ps) e = token-ends t _ e
pieces-end (space ∷ ps) e = record { byte = 32; behind = bytes_from false ps; is_text = refl; no_word = refl; no_tick = refl }
pieces-end (line n ∷ ps) e = record { byte = 10; behind = indentation n ++ bytes_from false ps; is_text = refl; no_word = refl; no_tick = refl }

indented : (n : ℕ) (text : List ℕ) → tokens (indentation n ++ text) ≡ tokens text
indented zero text = refl
indented (suc n) text = indented n text

pub line-on : (n : ℕ) (ps : List Piece) → IsRead ps → IsRead (line n ∷ ps)
line-on n ps h escaped = indented n (bytes_from false ps) ∙ h false

pub space-on : (ps : List Piece) → IsRead ps → IsRead (space ∷ ps)
space-on ps h true = h false
space-on ps h false = h false

pub name-on : (n : List ℕ) (ps : List Piece) → is_name n ≡ true → ends ps ≡ true → IsRead ps → IsRead (name n ∷ ps)
unfolding name_spelling is_escaped_name
name-on n ps s e h escaped = by-kind (is_simple n) refl
  where
    by-kind : (simple : Bool) → is_simple n ≡ simple → tokens (name_spelling n ++ bytes_from (is_escaped_name n) ps) ≡ Token.name n ∷ tokens_of ps
    by-kind true k =
        ap (λ b. tokens ((if b then n else 92 ∷ (n ++ 32 ∷ [])) ++ bytes_from (not b) ps)) k
        ∙ name-read n (bytes_from false ps) k (pieces-end ps e) ∙ ap (λ ts. Token.name n ∷ ts) (h false)
    by-kind false k =
        ap (λ b. tokens ((if b then n else 92 ∷ (n ++ 32 ∷ [])) ++ bytes_from (not b) ps)) k
        ∙ escaped-read n (bytes_from true ps) s ∙ ap (λ ts. Token.name n ∷ ts) (h true)

-- the words of the layout
abbrev keywords : List (List ℕ)
keywords = words_of (codes "module endmodule input output wire reg initial assign always function endfunction posedge negedge or begin end if else case casez casex endcase default")

keywords-are : list_all is_keyword keywords ≡ true
unfolding is_reserved words_with words_to_f words_to_m words_to_s words_to_x
keywords-are = refl

keyword-is : (ws : List (List ℕ)) (w : List ℕ) → list_all is_keyword ws ≡ true → among ws w ≡ true → is_keyword w ≡ true
keyword-is [] w all e = absurd (false≢true e)
keyword-is (v ∷ ws) w all e =
    let parts = and_parts (is_keyword v) (list_all is_keyword ws) all in
    elim (or_cases (bytes_eq v w) (among ws w) e) [
      | inl k ↦ subst (λ x. is_keyword x ≡ true) ((bytes_eq-Decides v w).0 k) parts.0
      | inr k ↦ keyword-is ws w parts.1 k
    ]

pub word-on : (w : List ℕ) (ps : List Piece) → among keywords w ≡ true → ends ps ≡ true → IsRead ps → IsRead (word w ∷ ps)
word-on w ps k e h escaped =
    keyword-read w (bytes_from false ps) (keyword-is keywords w keywords-are k) (pieces-end ps e) ∙ ap (λ ts. Token.word w ∷ ts) (h false)

is-number : (bits : List Bit4) → is_number bits ≡ true → (1 ≤ length bits) × (length bits ≤ 128)
is-number bits e =
    let parts = and_parts (nat_le 1 (length bits)) (nat_le (length bits) 128) e in
    (leb-true 1 (length bits) parts.0, leb-true (length bits) 128 parts.1)

pub number-on : (bits : List Bit4) (ps : List Piece) → is_number bits ≡ true → IsRead ps → IsRead (number bits ∷ ps)
number-on bits ps e h escaped =
    let fits = is-number bits e in
    number-read bits (bytes_from false ps) (omega (arith, fits.0)) fits.1 ∙ ap (λ ts. Token.number bits ∷ ts) (h false)

pub whole-on : (n : ℕ) (ps : List Piece) → n < 2 ^ 32 → ends ps ≡ true → IsRead ps → IsRead (whole n ∷ ps)
whole-on n ps small e h escaped = decimal-read n (bytes_from false ps) small (pieces-end ps e) ∙ ap (λ ts. Token.decimal n ∷ ts) (h false)

-- marks that no longer mark begins with
pub left-paren-on : (qs : List Piece) → IsRead qs → IsRead (mark (codes "(") ∷ qs)
left-paren-on qs h escaped = ap (λ ts. Token.mark (codes "(") ∷ ts) (h false)

pub right-paren-on : (qs : List Piece) → IsRead qs → IsRead (mark (codes ")") ∷ qs)
right-paren-on qs h escaped = ap (λ ts. Token.mark (codes ")") ∷ ts) (h false)

pub left-bracket-on : (qs : List Piece) → IsRead qs → IsRead (mark (codes "[") ∷ qs)
left-bracket-on qs h escaped = ap (λ ts. Token.mark (codes "[") ∷ ts) (h false)

pub right-bracket-on : (qs : List Piece) → IsRead qs → IsRead (mark (codes "]") ∷ qs)
right-bracket-on qs h escaped = ap (λ ts. Token.mark (codes "]") ∷ ts) (h false)

pub left-brace-on : (qs : List Piece) → IsRead qs → IsRead (mark (codes "{") ∷ qs)
left-brace-on qs h escaped = ap (λ ts. Token.mark (codes "{") ∷ ts) (h false)

pub right-brace-on : (qs : List Piece) → IsRead qs → IsRead (mark (codes "}") ∷ qs)
right-brace-on qs h escaped = ap (λ ts. Token.mark (codes "}") ∷ ts) (h false)

pub comma-on : (qs : List Piece) → IsRead qs → IsRead (mark (codes ",") ∷ qs)
comma-on qs h escaped = ap (λ ts. Token.mark (codes ",") ∷ ts) (h false)

pub semicolon-on : (qs : List Piece) → IsRead qs → IsRead (mark (codes ";") ∷ qs)
semicolon-on qs h escaped = ap (λ ts. Token.mark (codes ";") ∷ ts) (h false)

pub dot-on : (qs : List Piece) → IsRead qs → IsRead (mark (codes ".") ∷ qs)
dot-on qs h escaped = ap (λ ts. Token.mark (codes ".") ∷ ts) (h false)

pub at-mark-on : (qs : List Piece) → IsRead qs → IsRead (mark (codes "@") ∷ qs)
at-mark-on qs h escaped = ap (λ ts. Token.mark (codes "@") ∷ ts) (h false)

pub colon-on : (qs : List Piece) → IsRead qs → IsRead (mark (codes ":") ∷ qs)
colon-on qs h escaped = ap (λ ts. Token.mark (codes ":") ∷ ts) (h false)

pub signed-on : (signed : Bool) → (qs : List Piece) → IsRead qs → IsRead (word (sign_word signed) ∷ qs)
signed-on true qs h escaped = ap (λ ts. Token.word (codes "$signed") ∷ ts) (h false)
signed-on false qs h escaped = ap (λ ts. Token.word (codes "$unsigned") ∷ ts) (h false)

-- marks in front of a space
pub spaced-question-on : (qs : List Piece) → IsRead qs → IsRead (mark (codes "?") ∷ space ∷ qs)
spaced-question-on qs h escaped = ap (λ ts. Token.mark (codes "?") ∷ ts) (h false)

pub spaced-colon-on : (qs : List Piece) → IsRead qs → IsRead (mark (codes ":") ∷ space ∷ qs)
spaced-colon-on qs h escaped = ap (λ ts. Token.mark (codes ":") ∷ ts) (h false)

pub spaced-equals-on : (qs : List Piece) → IsRead qs → IsRead (mark (codes "=") ∷ space ∷ qs)
spaced-equals-on qs h escaped = ap (λ ts. Token.mark (codes "=") ∷ ts) (h false)

pub spaced-less-equal-on : (qs : List Piece) → IsRead qs → IsRead (mark (codes "<=") ∷ space ∷ qs)
spaced-less-equal-on qs h escaped = ap (λ ts. Token.mark (codes "<=") ∷ ts) (h false)

pub spaced-plus-colon-on : (qs : List Piece) → IsRead qs → IsRead (mark (codes "+:") ∷ space ∷ qs)
spaced-plus-colon-on qs h escaped = ap (λ ts. Token.mark (codes "+:") ∷ ts) (h false)

pub spaced-star-on : (qs : List Piece) → IsRead qs → IsRead (mark (codes "*") ∷ space ∷ qs)
spaced-star-on qs h escaped = ap (λ ts. Token.mark (codes "*") ∷ ts) (h false)

pub spaced-binary-on : (op : VBinaryOp) (qs : List Piece) → IsRead qs → IsRead (mark (binary_mark op) ∷ space ∷ qs)
spaced-binary-on B.Add qs h escaped = ap (λ ts. Token.mark (codes "+") ∷ ts) (h false)
spaced-binary-on B.Sub qs h escaped = ap (λ ts. Token.mark (codes "-") ∷ ts) (h false)
spaced-binary-on B.Mul qs h escaped = ap (λ ts. Token.mark (codes "*") ∷ ts) (h false)
spaced-binary-on B.Div qs h escaped = ap (λ ts. Token.mark (codes "/") ∷ ts) (h false)
spaced-binary-on B.Rem qs h escaped = ap (λ ts. Token.mark (codes "%") ∷ ts) (h false)
spaced-binary-on B.Power qs h escaped = ap (λ ts. Token.mark (codes "**") ∷ ts) (h false)
spaced-binary-on B.ShiftLeft qs h escaped = ap (λ ts. Token.mark (codes "<<") ∷ ts) (h false)
spaced-binary-on B.ShiftRight qs h escaped = ap (λ ts. Token.mark (codes ">>") ∷ ts) (h false)
spaced-binary-on B.ArithmeticLeft qs h escaped = ap (λ ts. Token.mark (codes "<<<") ∷ ts) (h false)
spaced-binary-on B.ArithmeticRight qs h escaped = ap (λ ts. Token.mark (codes ">>>") ∷ ts) (h false)
spaced-binary-on B.Less qs h escaped = ap (λ ts. Token.mark (codes "<") ∷ ts) (h false)
spaced-binary-on B.LessEqual qs h escaped = ap (λ ts. Token.mark (codes "<=") ∷ ts) (h false)
spaced-binary-on B.Greater qs h escaped = ap (λ ts. Token.mark (codes ">") ∷ ts) (h false)
spaced-binary-on B.GreaterEqual qs h escaped = ap (λ ts. Token.mark (codes ">=") ∷ ts) (h false)
spaced-binary-on B.Equal qs h escaped = ap (λ ts. Token.mark (codes "==") ∷ ts) (h false)
spaced-binary-on B.NotEqual qs h escaped = ap (λ ts. Token.mark (codes "!=") ∷ ts) (h false)
spaced-binary-on B.CaseEqual qs h escaped = ap (λ ts. Token.mark (codes "===") ∷ ts) (h false)
spaced-binary-on B.CaseNotEqual qs h escaped = ap (λ ts. Token.mark (codes "!==") ∷ ts) (h false)
spaced-binary-on B.And qs h escaped = ap (λ ts. Token.mark (codes "&") ∷ ts) (h false)
spaced-binary-on B.Or qs h escaped = ap (λ ts. Token.mark (codes "|") ∷ ts) (h false)
spaced-binary-on B.Xor qs h escaped = ap (λ ts. Token.mark (codes "^") ∷ ts) (h false)
spaced-binary-on B.Xnor qs h escaped = ap (λ ts. Token.mark (codes "~^") ∷ ts) (h false)
spaced-binary-on B.LogicalAnd qs h escaped = ap (λ ts. Token.mark (codes "&&") ∷ ts) (h false)
spaced-binary-on B.LogicalOr qs h escaped = ap (λ ts. Token.mark (codes "||") ∷ ts) (h false)

-- The text begins with a byte that makes no longer mark with a unary operator.
pub record Opens (text : List ℕ) : Type 0 where
  pub byte : ℕ
  pub behind : List ℕ
  pub is_text : text ≡ byte ∷ behind
  pub no_xor : (94 == byte) ≡ false
  pub no_and : (38 == byte) ≡ false
  pub no_or : (124 == byte) ≡ false
  pub no_equals : (61 == byte) ≡ false

letter-or-digit : (c : ℕ) (behind text : List ℕ) → text ≡ c ∷ behind → (is_letter c ≡ true) ⊎ (is_digit c ≡ true) → Opens text
letter-or-digit c behind text e (inl h) =
    record { byte = c; behind = behind; is_text = e; no_xor = grind (arith, nat_tests); no_and = grind (arith, nat_tests); no_or = grind (arith, nat_tests); no_equals = grind (arith, nat_tests) }
letter-or-digit c behind text e (inr h) =
    record { byte = c; behind = behind; is_text = e; no_xor = grind (arith, nat_tests); no_and = grind (arith, nat_tests); no_or = grind (arith, nat_tests); no_equals = grind (arith, nat_tests) }

simple-opens : (n r : List ℕ) → is_simple n ≡ true → Opens (n ++ r)
simple-opens [] r e = absurd (false≢true e)
simple-opens (c ∷ n) r e =
    let parts = and_parts (is_letter c && list_all is_word n) (not (is_reserved (c ∷ n))) e in
    let first = and_parts (is_letter c) (list_all is_word n) parts.0 in
    letter-or-digit c (n ++ r) (c ∷ (n ++ r)) refl (inl first.0)

pub name-opens : (n r : List ℕ) → Opens (name_spelling n ++ r)
unfolding name_spelling
name-opens n r = by-kind (is_simple n) refl
  where
    by-kind : (simple : Bool) → is_simple n ≡ simple → Opens (name_spelling n ++ r)
    by-kind true k = subst (λ b. Opens ((if b then n else 92 ∷ (n ++ 32 ∷ [])) ++ r)) (sym k) (simple-opens n r k)
    by-kind false k =
        subst (λ b. Opens ((if b then n else 92 ∷ (n ++ 32 ∷ [])) ++ r)) (sym k)
        (record { byte = 92; behind = _; is_text = refl; no_xor = refl; no_and = refl; no_or = refl; no_equals = refl })

pub decimal-opens : (n : ℕ) (r : List ℕ) → n < 2 ^ 64 → Opens (decimal n ++ r)
decimal-opens n r small =
    let cut_up = split (decimal n) (decimal_nonempty n small) in
    let good : list_all is_digit (cut_up.0 ∷ cut_up.1) ≡ true =
    subst (λ w. list_all is_digit w ≡ true) cut_up.2 (all-digits (decimal n) (digits_decimal own n small)) in
    letter-or-digit cut_up.0 (cut_up.1 ++ r) (decimal n ++ r) (ap (λ w. w ++ r) cut_up.2) (inr (and_parts (is_digit cut_up.0) (list_all is_digit cut_up.1) good).0)

later : (test : List ℕ → Bool) (m : List ℕ) (ms : List (List ℕ)) → test m ≡ false → find test (m ∷ ms) ≡ find test ms
later test m ms e = pick_false (test m) (Some m) (find test ms) e

unary-byte : (op : VUnaryOp) (text : List ℕ) → Opens text → tokens (unary_mark op ++ text) ≡ Token.mark (unary_mark op) ∷ tokens text
unary-byte U.Not text o =
    let test : List ℕ → Bool = λ m. begins m (126 ∷ o.byte ∷ o.behind) in
    let found : find test marks ≡ Some (codes "~") = later test (codes "~^") (words_of (codes "~& ~| +: ( ) [ ] { } ; , . : ? @ = + - * / % & | ^ ~ ! < >")) (ap (λ b. b && true) o.no_xor) ∙ later test (codes "~&") (words_of (codes "~| +: ( ) [ ] { } ; , . : ? @ = + - * / % & | ^ ~ ! < >")) (ap (λ b. b && true) o.no_and) ∙ later test (codes "~|") (words_of (codes "+: ( ) [ ] { } ; , . : ? @ = + - * / % & | ^ ~ ! < >")) (ap (λ b. b && true) o.no_or) in
    ap (λ w. tokens (126 ∷ w)) o.is_text
    ∙ is-told (first_cut 126 (o.byte ∷ o.behind)) (o.byte ∷ o.behind)
    ∙ ap (λ k. told (mark_or_stray k) (o.byte ∷ o.behind)) found
    ∙ ap (λ w. Token.mark (codes "~") ∷ tokens w) (sym o.is_text)
unary-byte U.LogicalNot text o =
    let test : List ℕ → Bool = λ m. begins m (33 ∷ o.byte ∷ o.behind) in
    let found : find test marks ≡ Some (codes "!") = later test (codes "!==") (words_of (codes "<= >= == != << >> ** && || ~^ ~& ~| +: ( ) [ ] { } ; , . : ? @ = + - * / % & | ^ ~ ! < >")) (ap (λ b. b && begins (codes "=") (drop 2 (33 ∷ o.byte ∷ o.behind))) o.no_equals) ∙ later test (codes "!=") (words_of (codes "<< >> ** && || ~^ ~& ~| +: ( ) [ ] { } ; , . : ? @ = + - * / % & | ^ ~ ! < >")) (ap (λ b. b && true) o.no_equals) in
    ap (λ w. tokens (33 ∷ w)) o.is_text
    ∙ is-told (first_cut 33 (o.byte ∷ o.behind)) (o.byte ∷ o.behind)
    ∙ ap (λ k. told (mark_or_stray k) (o.byte ∷ o.behind)) found
    ∙ ap (λ w. Token.mark (codes "!") ∷ tokens w) (sym o.is_text)
unary-byte U.Neg text o =
    let test : List ℕ → Bool = λ m. begins m (45 ∷ o.byte ∷ o.behind) in
    let found : find test marks ≡ Some (codes "-") = refl in
    ap (λ w. tokens (45 ∷ w)) o.is_text
    ∙ is-told (first_cut 45 (o.byte ∷ o.behind)) (o.byte ∷ o.behind)
    ∙ ap (λ k. told (mark_or_stray k) (o.byte ∷ o.behind)) found
    ∙ ap (λ w. Token.mark (codes "-") ∷ tokens w) (sym o.is_text)
unary-byte U.And text o =
    let test : List ℕ → Bool = λ m. begins m (38 ∷ o.byte ∷ o.behind) in
    let found : find test marks ≡ Some (codes "&") = later test (codes "&&") (words_of (codes "|| ~^ ~& ~| +: ( ) [ ] { } ; , . : ? @ = + - * / % & | ^ ~ ! < >")) (ap (λ b. b && true) o.no_and) in
    ap (λ w. tokens (38 ∷ w)) o.is_text
    ∙ is-told (first_cut 38 (o.byte ∷ o.behind)) (o.byte ∷ o.behind)
    ∙ ap (λ k. told (mark_or_stray k) (o.byte ∷ o.behind)) found
    ∙ ap (λ w. Token.mark (codes "&") ∷ tokens w) (sym o.is_text)
unary-byte U.Nand text o =
    let test : List ℕ → Bool = λ m. begins m (126 ∷ 38 ∷ o.byte ∷ o.behind) in
    let found : find test marks ≡ Some (codes "~&") = refl in
    ap (λ w. tokens (126 ∷ 38 ∷ w)) o.is_text
    ∙ is-told (first_cut 126 (38 ∷ o.byte ∷ o.behind)) (38 ∷ o.byte ∷ o.behind)
    ∙ ap (λ k. told (mark_or_stray k) (38 ∷ o.byte ∷ o.behind)) found
    ∙ ap (λ w. Token.mark (codes "~&") ∷ tokens w) (sym o.is_text)
unary-byte U.Or text o =
    let test : List ℕ → Bool = λ m. begins m (124 ∷ o.byte ∷ o.behind) in
    let found : find test marks ≡ Some (codes "|") = later test (codes "||") (words_of (codes "~^ ~& ~| +: ( ) [ ] { } ; , . : ? @ = + - * / % & | ^ ~ ! < >")) (ap (λ b. b && true) o.no_or) in
    ap (λ w. tokens (124 ∷ w)) o.is_text
    ∙ is-told (first_cut 124 (o.byte ∷ o.behind)) (o.byte ∷ o.behind)
    ∙ ap (λ k. told (mark_or_stray k) (o.byte ∷ o.behind)) found
    ∙ ap (λ w. Token.mark (codes "|") ∷ tokens w) (sym o.is_text)
unary-byte U.Nor text o =
    let test : List ℕ → Bool = λ m. begins m (126 ∷ 124 ∷ o.byte ∷ o.behind) in
    let found : find test marks ≡ Some (codes "~|") = refl in
    ap (λ w. tokens (126 ∷ 124 ∷ w)) o.is_text
    ∙ is-told (first_cut 126 (124 ∷ o.byte ∷ o.behind)) (124 ∷ o.byte ∷ o.behind)
    ∙ ap (λ k. told (mark_or_stray k) (124 ∷ o.byte ∷ o.behind)) found
    ∙ ap (λ w. Token.mark (codes "~|") ∷ tokens w) (sym o.is_text)
unary-byte U.Xor text o =
    let test : List ℕ → Bool = λ m. begins m (94 ∷ o.byte ∷ o.behind) in
    let found : find test marks ≡ Some (codes "^") = refl in
    ap (λ w. tokens (94 ∷ w)) o.is_text
    ∙ is-told (first_cut 94 (o.byte ∷ o.behind)) (o.byte ∷ o.behind)
    ∙ ap (λ k. told (mark_or_stray k) (o.byte ∷ o.behind)) found
    ∙ ap (λ w. Token.mark (codes "^") ∷ tokens w) (sym o.is_text)
unary-byte U.Xnor text o =
    let test : List ℕ → Bool = λ m. begins m (126 ∷ 94 ∷ o.byte ∷ o.behind) in
    let found : find test marks ≡ Some (codes "~^") = refl in
    ap (λ w. tokens (126 ∷ 94 ∷ w)) o.is_text
    ∙ is-told (first_cut 126 (94 ∷ o.byte ∷ o.behind)) (94 ∷ o.byte ∷ o.behind)
    ∙ ap (λ k. told (mark_or_stray k) (94 ∷ o.byte ∷ o.behind)) found
    ∙ ap (λ w. Token.mark (codes "~^") ∷ tokens w) (sym o.is_text)

pub unary-on : (op : VUnaryOp) (ps : List Piece) → Opens (bytes_from false ps) → IsRead ps → IsRead (mark (unary_mark op) ∷ ps)
unary-on op ps o h escaped = unary-byte op (bytes_from false ps) o ∙ ap (λ ts. Token.mark (unary_mark op) ∷ ts) (h false)

-- What the tokens of a text are made of.
use Rattle.std.proofs.Common.{◌≡◌, ◌≤◌, ◌+◌, ◌==◌, ℕ, zero, suc, cond, Bool, true, false, not, ◌&&◌, nat_le, nat_lt, if◌then◌else◌, List, [], ◌∷◌, map, take, drop, length, reverse, codes, find, Option, Some, None, refl, sym, ap, subst, ◌∙◌, arith, one-add}
use Rattle.std.proofs.lemmas.Bool.Decides.{nat_tests}
use Rattle.std.proofs.lemmas.List.{length-map, length-reverse, length-take-le}
use Rattle.std.proofs.lemmas.List.Sums.{prefix_len-le-length}
use Rattle.std.specs.List.{list_all, prefix_len}
use Rattle.std.specs.Str.Parse.{digits_value}
use Rattle.v_tree.specs.Grammatical.{is_number, is_decimal}
use Rattle.v_tree.specs.Reserved.{is_reserved}
use Rattle.v_tree.specs.Tokens.{Token, Cut, tokens, tokens_from, first_cut, until, is_name, is_printable, is_word, is_white, is_digit, is_letter, is_bit, named, word_cut, decimal_token, sized_cut, digit_cut, escaped_cut, system_cut, mark_cut, mark_or_stray, block_cut, comment_or_mark, bit_of, begins, marks}
use Rattle.v_tree.proofs.Induction.{Each}

-- what a token's value keeps
abbrev pub TokenFits : Token → Type 0
TokenFits (Token.name bytes) = is_name bytes ≡ true
TokenFits (Token.number bits) = is_number bits ≡ true
TokenFits (Token.decimal value) = is_decimal value ≡ true
TokenFits (Token.word bytes) = Unit {0}
TokenFits (Token.mark bytes) = Unit {0}
TokenFits Token.stray = Unit {0}

abbrev CutFits : Cut → Type 0
CutFits (Cut.gap further) = Unit {0}
CutFits (Cut.cut token further) = TokenFits token

-- either choice fits, where the test helps
if-fits : {A : Type 0} (P : A → Type 0) (b : Bool) (x y : A) → (b ≡ true → P x) → (b ≡ false → P y) → P (if b then x else y)
if-fits P true x y f g = f refl
if-fits P false x y f g = g refl

letter-prints : (c : ℕ) → is_letter c ≡ true → is_printable c ≡ true
letter-prints c h = grind (arith, nat_tests)

word-prints : (c : ℕ) → is_word c ≡ true → is_printable c ≡ true
word-prints c h = grind (arith, nat_tests)

both : (a b : Bool) → a ≡ true → b ≡ true → (a && b) ≡ true
both true b f g = g
both false b f g = f

-- what passes in front
passes-on : {A : Type 0} (p q : A → Bool) (x : A) (xs : List A) (b : Bool) → p x ≡ b → (b ≡ true → q x ≡ true) → list_all q (take (prefix_len p xs) xs) ≡ true
    → list_all q (take (cond b (1 + prefix_len p xs) 0) (x ∷ xs)) ≡ true
passes-on p q x xs true e f h = ap (λ n. list_all q (take n (x ∷ xs))) (one-add (prefix_len p xs)) ∙ both (q x) (list_all q (take (prefix_len p xs) xs)) (f refl) h
passes-on p q x xs false e f h = refl

front-passes : {A : Type 0} (p q : A → Bool) → ((x : A) → p x ≡ true → q x ≡ true) → (xs : List A) → list_all q (take (prefix_len p xs) xs) ≡ true
front-passes p q f [] = refl
front-passes p q f (x ∷ xs) = passes-on p q x xs (p x) refl (f x) (front-passes p q f xs)

named-fits : (bytes : List ℕ) → is_name bytes ≡ true → TokenFits (named bytes)
named-fits bytes h = if-fits TokenFits (is_reserved bytes) (Token.word bytes) (Token.name bytes) (λ e. tt) (λ e. h)

word-fits : (c : ℕ) (text : List ℕ) → is_letter c ≡ true → CutFits (word_cut c text)
word-fits c text h =
    named-fits (c ∷ take (prefix_len is_word text) text)
    (both (is_printable c) (list_all is_printable (take (prefix_len is_word text) text)) (letter-prints c h) (front-passes is_word is_printable word-prints text))

decimal-fits : (value : ℕ) → TokenFits (decimal_token value)
decimal-fits value = if-fits TokenFits (nat_lt value 4294967296) (Token.decimal value) Token.stray (λ e. e) (λ e. tt)

-- a number's bits
first-yes : (a b : Bool) → (a && b) ≡ true → a ≡ true
first-yes true b h = refl
first-yes false b h = h

rest-yes : (a b : Bool) → (a && b) ≡ true → b ≡ true
rest-yes true b h = h
rest-yes false b h = absurd (cc)

size-below : (size n : ℕ) → nat_le size n ≡ true → size ≤ n
size-below size n h = grind (arith, nat_tests)

bits-long : (size : ℕ) (text : List ℕ) → nat_le size (prefix_len is_bit text) ≡ true → length (reverse (map bit_of (take size text))) ≡ size
bits-long size text h =
    let most = size-below size (prefix_len is_bit text) h in
    let within = prefix_len-le-length is_bit text in
    length-reverse (map bit_of (take size text)) ∙ length-map (take size text) bit_of ∙ length-take-le size text (omega (arith, most, within))

bits-fit : (size : ℕ) (text : List ℕ) → nat_le 1 size ≡ true → nat_le size 128 ≡ true → nat_le size (prefix_len is_bit text) ≡ true
    → is_number (reverse (map bit_of (take size text))) ≡ true
bits-fit size text low high run = subst (λ n. (nat_le 1 n && nat_le n 128) ≡ true) (sym (bits-long size text run)) (both (nat_le 1 size) (nat_le size 128) low high)

number-fits : (tick low high run : Bool) (size : ℕ) (text : List ℕ) → low ≡ nat_le 1 size → high ≡ nat_le size 128 → run ≡ nat_le size (prefix_len is_bit text)
    → (tick && low && high && run) ≡ true → is_number (reverse (map bit_of (take size text))) ≡ true
number-fits tick low high run size text l h r e =
    let front = first-yes (tick && low && high) run e in
    bits-fit size text (sym l ∙ rest-yes tick low (first-yes (tick && low) high front)) (sym h ∙ rest-yes (tick && low) high front)
    (sym r ∙ rest-yes (tick && low && high) run e)

sized-fits : (n size : ℕ) (text : List ℕ) → CutFits (sized_cut n size text)
sized-fits n size text =
    let low = nat_le 1 size in
    let high = nat_le size 128 in
    let run = nat_le size (prefix_len is_bit (drop 2 text)) in
    if-fits CutFits (begins (codes "'b") text && low && high && run)
    (Cut.cut (Token.number (reverse (map bit_of (take size (drop 2 text))))) (n + (2 + size))) (Cut.cut (decimal_token size) n)
    (λ e. number-fits (begins (codes "'b") text) low high run size (drop 2 text) refl refl refl e)
    (λ e. decimal-fits size)

digit-fits : (c : ℕ) (text : List ℕ) → CutFits (digit_cut c text)
digit-fits c text =
    let n = prefix_len is_digit text in
    if-fits CutFits (c == 48) (Cut.cut (Token.decimal 0) 0) (sized_cut n (digits_value 10 (c ∷ take n text)) (drop n text)) (λ e. refl)
    (λ e. sized-fits n (digits_value 10 (c ∷ take n text)) (drop n text))

-- an escaped identifier
some-name : (text : List ℕ) (n : ℕ) → nat_lt 0 n ≡ true → n ≤ length text → list_all is_printable (take n text) ≡ true → is_name (take n text) ≡ true
some-name text zero l w h = absurd (cc)
some-name [] (suc n) l w h = absurd (omega (arith, w))
some-name (c ∷ text) (suc n) l w h = h

escaped-fits : (text : List ℕ) → CutFits (escaped_cut text)
escaped-fits text =
    let n = prefix_len is_printable text in
    if-fits CutFits (nat_lt 0 n && begins (codes " ") (drop n text)) (Cut.cut (Token.name (take n text)) (suc n)) (Cut.cut Token.stray 0)
    (λ e. some-name text n (first-yes (nat_lt 0 n) (begins (codes " ") (drop n text)) e) (prefix_len-le-length is_printable text) (front-passes is_printable is_printable (λ x h. h) text))
    (λ e. tt)

system-fits : (text : List ℕ) → CutFits (system_cut text)
system-fits text =
    if-fits CutFits (begins (codes "unsigned") text) (Cut.cut (Token.word (codes "$unsigned")) 8)
    (if begins (codes "signed") text then Cut.cut (Token.word (codes "$signed")) 6 else Cut.cut Token.stray 0) (λ e. tt)
    (λ e. if-fits CutFits (begins (codes "signed") text) (Cut.cut (Token.word (codes "$signed")) 6) (Cut.cut Token.stray 0) (λ e. tt) (λ e. tt))

mark-fits : (o : Option (List ℕ)) → CutFits (mark_or_stray o)
mark-fits (Some bytes) = tt
mark-fits None = tt

block-fits : (text : List ℕ) → CutFits (block_cut text)
block-fits text =
    let n = until (begins (codes "*/")) text in
    if-fits CutFits (nat_lt n (length text)) (Cut.gap (n + 3)) (Cut.cut Token.stray (n + 1)) (λ e. tt) (λ e. tt)

comment-fits : (c : ℕ) (text : List ℕ) → CutFits (comment_or_mark c text)
comment-fits c text =
    if-fits CutFits (begins (codes "//") (c ∷ text)) (Cut.gap (prefix_len (λ b. not (b == 10)) text))
    (if begins (codes "/*") (c ∷ text) then block_cut (drop 1 text) else mark_cut (c ∷ text)) (λ e. tt)
    (λ e. if-fits CutFits (begins (codes "/*") (c ∷ text)) (block_cut (drop 1 text)) (mark_cut (c ∷ text)) (λ e. block-fits (drop 1 text))
    (λ e. mark-fits (find (λ m. begins m (c ∷ text)) marks)))

first-fits : (c : ℕ) (text : List ℕ) → CutFits (first_cut c text)
first-fits c text =
    let marked = comment_or_mark c text in
    let system = if c == 36 then system_cut text else marked in
    let escaped = if c == 92 then escaped_cut text else system in
    let white = if is_white c then Cut.gap 0 else escaped in
    let digit = if is_digit c then digit_cut c text else white in
    if-fits CutFits (is_letter c) (word_cut c text) digit (word-fits c text)
    (λ e. if-fits CutFits (is_digit c) (digit_cut c text) white (λ e. digit-fits c text)
    (λ e. if-fits CutFits (is_white c) (Cut.gap 0) escaped (λ e. tt)
    (λ e. if-fits CutFits (c == 92) (escaped_cut text) system (λ e. escaped-fits text)
    (λ e. if-fits CutFits (c == 36) (system_cut text) marked (λ e. system-fits text) (λ e. comment-fits c text)))))

told-fit : (k : Cut) (text : List ℕ) → CutFits k → ((further : ℕ) → Each TokenFits (tokens_from further text))
    → Each TokenFits (elim k [ Cut.gap further ↦ tokens_from further text | Cut.cut token further ↦ token ∷ tokens_from further text ])
told-fit (Cut.gap further) text h rest = rest further
told-fit (Cut.cut token further) text h rest = (h, rest further)

tokens-from-fit : (text : List ℕ) (further : ℕ) → Each TokenFits (tokens_from further text)
tokens-from-fit [] further = tt
tokens-from-fit (c ∷ text) (suc further) = tokens-from-fit text further
tokens-from-fit (c ∷ text) zero = told-fit (first_cut c text) text (first-fits c text) (λ further. tokens-from-fit text further)

-- each token of a text keeps what its kind does
pub tokens-fit : (text : List ℕ) → Each TokenFits (tokens text)
tokens-fit text = tokens-from-fit text 0

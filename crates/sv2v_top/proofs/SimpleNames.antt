-- A name token of a source text is a simple name of a target text.
use Rattle.std.proofs.Common.{◌≡◌, ℕ, zero, suc, ◌+◌, ◌-◌, ◌<◌, inl, inr, Bool, true, false, not, cond, ◌&&◌, nat_lt, Option, Some, None, List, [], ◌∷◌, length, take, fold, refl, sym, ap, subst, ◌∙◌, add-one, arith}
use Rattle.std.specs.List.{list_all, take_while}
use Rattle.std.proofs.lemmas.List.Sums.{take_while-cons}
use Rattle.row_machine.specs.Valuation.{Member}
use Rattle.sv_source.specs.declared.token.Kind.{Kind}
use Rattle.sv_source.specs.declared.token.Kind.TheVariants.{Name, Reserved, Decimal, Based, Fill, Mark, System, Str, Directive, Paste, Quote, Line, Continued, Cut, Bad}
use Rattle.sv_source.specs.declared.token.Place.{Place}
use Rattle.sv_source.specs.declared.token.Token.{Token}
use Rattle.sv_lexer.specs.declared.piece.Piece.{Piece}
use Rattle.sv_lexer.specs.Spans.{white_span, name_span, run}
use Rattle.sv_lexer.specs.Pieces.{gap, longer, pieces, longest}
use Rattle.sv_lexer.specs.Tables.{is_reserved as is_source_reserved}
use Rattle.sv_lexer.specs.Lexing.{behind_byte, kind_of, token_of, tokens_from, tokens_of}
use Rattle.v_tree.specs.Reserved.{is_reserved}
use Rattle.v_tree.specs.Tokens.{is_letter, is_word, is_simple}
use Rattle.sv2v_top.proofs.Names.{member-split}
use Rattle.sv2v_top.proofs.Reserved.{unreserved}

-- a piece of the kind of a name has this length
abbrev NamesBy : ℕ → Piece → Type 0
NamesBy n p = p.kind ≡ Some Name → p.len ≡ n

abbrev EachNamesBy : ℕ → List Piece → Type 0
EachNamesBy n [] = Unit {0}
EachNamesBy n (p ∷ ps) = NamesBy n p × EachNamesBy n ps

longer-names : (n : ℕ) (a b : Piece) → NamesBy n a → NamesBy n b → NamesBy n (longer a b)
longer-names n a b of_a of_b = pick (nat_lt a.len b.len)
  where
    pick : (right : Bool) → NamesBy n (cond right b a)
    pick true = of_b
    pick false = of_a

fold-names : (n : ℕ) (first : Piece) (ps : List Piece) → NamesBy n first → EachNamesBy n ps → NamesBy n (fold longer first ps)
fold-names n first [] of_first of_each = of_first
fold-names n first (p ∷ ps) of_first of_each = fold-names n (longer first p) ps (longer-names n first p of_first of_each.0) of_each.1

no-gap : {n m : ℕ} → None ≡ Some Name → m ≡ n
no-gap e = cc

apart : {n m : ℕ} (k : Kind) → (k ≡ Name → ⊥) → Some k ≡ Some Name → m ≡ n
apart k other e = absurd (other (let same : Some k ≡ Some Name = e in cc))

-- the name's piece alone has the kind of a name
longest-names : (bytes : List ℕ) → NamesBy (name_span bytes) (longest bytes)
unfolding longest
longest-names bytes = fold-names (name_span bytes) (gap (white_span bytes)) (pieces bytes) no-gap
    (no-gap, (no-gap, (apart Cut (λ e. cc), (apart Line (λ e. cc), (apart Continued (λ e. cc), ((λ e. refl), (apart System (λ e. cc), (apart Decimal (λ e. cc), (apart Based (λ e. cc), (apart Fill (λ e. cc), (apart Str (λ e. cc), (apart Directive (λ e. cc), (apart Paste (λ e. cc), (apart Quote (λ e. cc), (apart Mark (λ e. cc), (apart Bad (λ e. cc), tt))))))))))))))))

-- a token has the kind of a name where its piece has it and its text isn't reserved
kind-name : (kind : Kind) (text : List ℕ) → kind_of kind text ≡ Name → (kind ≡ Name) × (is_source_reserved text ≡ false)
kind-name Name text e = (refl, pick (is_source_reserved text) e)
  where
    pick : (reserved : Bool) → cond reserved Reserved Name ≡ Name → reserved ≡ false
    pick true e = cc
    pick false e = refl
kind-name kind text e = absurd (cc)

-- a run of bytes passes the test
run-passes : (test : ℕ → Bool) (bytes : List ℕ) → list_all test (take (run test bytes) bytes) ≡ true
run-passes test [] = refl
run-passes test (c ∷ cs) = ap (λ (front : List ℕ). list_all test (take (length front) (c ∷ cs))) (take_while-cons test c cs) ∙ pick (test c) refl (run-passes test cs)
  where
    pick : (passes : Bool) → test c ≡ passes → list_all test (take (run test cs) cs) ≡ true → list_all test (take (length (cond passes (c ∷ take_while test cs) [])) (c ∷ cs)) ≡ true
    pick true e rest = ap (λ b. b && list_all test (take (run test cs) cs)) e ∙ rest
    pick false e rest = refl

simple-front : (c : ℕ) (cs : List ℕ) (text : List ℕ) → text ≡ take (name_span (c ∷ cs)) (c ∷ cs) → 0 < length text → is_reserved text ≡ false → is_simple text ≡ true
simple-front c cs text is some free = pick (is_letter c) refl is
  where
    pick : (letter : Bool) → is_letter c ≡ letter → text ≡ take (cond letter (run is_word cs + 1) 0) (c ∷ cs) → is_simple text ≡ true
    pick true e whole =
        let name : text ≡ c ∷ take (run is_word cs) cs = whole ∙ ap (λ n. take n (c ∷ cs)) (add-one (run is_word cs)) in
        let fresh : is_reserved (c ∷ take (run is_word cs) cs) ≡ false = subst (λ w. is_reserved w ≡ false) name free in
        subst (λ w. is_simple w ≡ true) (sym name)
        (ap (λ b. b && list_all is_word (take (run is_word cs) cs) && not (is_reserved (c ∷ take (run is_word cs) cs))) e
        ∙ ap (λ b. b && not (is_reserved (c ∷ take (run is_word cs) cs))) (run-passes is_word cs)
        ∙ ap not fresh)
    pick false e whole = absurd (none (subst (λ w. 0 < length w) whole some))
      where
        none : 0 < 0 → ⊥
        none h = omega arith

piece-simple : (kind : Option Kind) (n c : ℕ) (cs : List ℕ) (place : Place) (t : Token) → (kind ≡ Some Name → n ≡ name_span (c ∷ cs))
    → Member (token_of kind (take n (c ∷ cs)) place) t → 0 < length t.text → t.kind ≡ Name → is_simple t.text ≡ true
piece-simple None n c cs place t names m some e = elim m [ ]
piece-simple (Some kind) n c cs place t names (inl same) some e =
    let front : t.text ≡ take n (c ∷ cs) = ap (λ (u : Token). u.text) same in
    let parts = kind-name kind (take n (c ∷ cs)) (sym (ap (λ (u : Token). u.kind) same) ∙ e) in
    simple-front c cs t.text (front ∙ ap (λ k. take k (c ∷ cs)) (names (ap Some parts.0))) some
    (ap is_reserved front ∙ unreserved (take n (c ∷ cs)) parts.1)
piece-simple (Some kind) n c cs place t names (inr m) some e = elim m [ ]

from-simple : (inside : ℕ) (place : Place) (bytes : List ℕ) (t : Token) → Member (tokens_from inside place bytes) t → 0 < length t.text → t.kind ≡ Name → is_simple t.text ≡ true
from-simple inside place [] t m some e = elim m [ ]
from-simple (suc inside) place (c ∷ cs) t m some e = from-simple inside (behind_byte place c) cs t m some e
from-simple zero place (c ∷ cs) t m some e =
    elim (member-split (token_of (longest (c ∷ cs)).kind (take (longest (c ∷ cs)).len (c ∷ cs)) place) (tokens_from ((longest (c ∷ cs)).len - 1) (behind_byte place c) cs) t m) [
      | inl k ↦ piece-simple (longest (c ∷ cs)).kind (longest (c ∷ cs)).len c cs place t (longest-names (c ∷ cs)) k some e
      | inr k ↦ from-simple ((longest (c ∷ cs)).len - 1) (behind_byte place c) cs t k some e
    ]

-- each name of the source is a simple name of the target
pub name-is-simple : (file : ℕ) (bytes : List ℕ) (t : Token) → Member (tokens_of file bytes) t → 0 < length t.text → t.kind ≡ Name → is_simple t.text ≡ true
name-is-simple file bytes t m some e = from-simple 0 (record { file = file; line = 1; col = 1 }) bytes t m some e

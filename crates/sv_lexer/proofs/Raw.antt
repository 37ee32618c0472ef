-- What holds of every list of raw tokens.
use Rattle.std.proofs.Common.{◌≡◌, ◌≢◌, ℕ, zero, suc, ◌-◌, ◌<◌, ◌≤◌, Bool, true, false, nat_lt, cond, Option, Some, None, List, [], ◌∷◌, length, take, fold, All, refl, ap, arith, length-append, length-take}
use Rattle.std.proofs.lemmas.List.Elements.{All-nil, All-cons, All-append}
use Rattle.std.proofs.lemmas.Bool.Decides.{nat_tests}
use Rattle.sv_source.specs.declared.token.Kind.{Kind}
use Rattle.sv_source.specs.declared.token.Kind.TheVariants.{Name, Reserved, Decimal, Based, Fill, Mark, System, Str, Directive, Paste, Quote, Line, Continued, Cut, Bad, End}
use Rattle.sv_source.specs.declared.token.Place.{Place}
use Rattle.sv_lexer.specs.declared.piece.Piece.{Piece}
use Rattle.sv_lexer.specs.Spans.{white_span}
use Rattle.sv_lexer.specs.Pieces.{gap, longer, pieces, longest}
use Rattle.sv_lexer.specs.Tables.{is_reserved}
use Rattle.sv_lexer.specs.Lexing.{behind_byte, kind_of, token_of, tokens_from}
use Rattle.sv_lexer.specs.Facts.{IsRaw}

-- at most one token a byte
pub tokens_from-count : (inside : ℕ) (place : Place) (bytes : List ℕ) → length (tokens_from inside place bytes) ≤ length bytes
tokens_from-count inside place [] = omega arith
tokens_from-count (suc inside) place (c ∷ cs) = omega (arith, tokens_from-count inside (behind_byte place c) cs)
tokens_from-count zero place (c ∷ cs) =
    let one : length (token_of (longest (c ∷ cs)).kind (take (longest (c ∷ cs)).len (c ∷ cs)) place) ≤ 1 = token_of-count (longest (c ∷ cs)).kind _ place in
    let rest : length (tokens_from ((longest (c ∷ cs)).len - 1) (behind_byte place c) cs) ≤ length cs = tokens_from-count ((longest (c ∷ cs)).len - 1) (behind_byte place c) cs in
    rw length-append (omega arith)
  where
    token_of-count : (kind : Option Kind) (text : List ℕ) (place : Place) → length (token_of kind text place) ≤ 1
    token_of-count None text place = omega arith
    token_of-count (Some k) text place = omega arith

abbrev NoEnd : Piece → Type 0
NoEnd p = p.kind ≡ Some End → ⊥

longer-no_end : (a b : Piece) → NoEnd a → NoEnd b → NoEnd (longer a b)
longer-no_end a b no_a no_b = pick (nat_lt a.len b.len)
  where
    pick : (right : Bool) → NoEnd (cond right b a)
    pick true = no_b
    pick false = no_a

abbrev NoneEnds : List Piece → Type 0
NoneEnds [] = Unit {0}
NoneEnds (p ∷ ps) = NoEnd p × NoneEnds ps

fold-no_end : (first : Piece) (ps : List Piece) → NoEnd first → NoneEnds ps → NoEnd (fold longer first ps)
fold-no_end first [] no_first none = no_first
fold-no_end first (p ∷ ps) no_first none = fold-no_end (longer first p) ps (longer-no_end first p no_first none.0) none.1

apart : (k : Kind) → (k ≡ End → ⊥) → Some k ≡ Some End → ⊥
apart k other e = other (let same : Some k ≡ Some End = e in cc)

no_gap : None ≡ Some End → ⊥
no_gap e = cc

-- no piece is the end of all files
longest-no_end : (bytes : List ℕ) → NoEnd (longest bytes)
unfolding longest
longest-no_end bytes = fold-no_end (gap (white_span bytes)) (pieces bytes) no_gap
    (no_gap, (no_gap, (apart Cut (λ e. cc), (apart Line (λ e. cc), (apart Continued (λ e. cc), (apart Name (λ e. cc), (apart System (λ e. cc), (apart Decimal (λ e. cc), (apart Based (λ e. cc), (apart Fill (λ e. cc), (apart Str (λ e. cc), (apart Directive (λ e. cc), (apart Paste (λ e. cc), (apart Quote (λ e. cc), (apart Mark (λ e. cc), (apart Bad (λ e. cc), tt))))))))))))))))

longer-least : (a b : Piece) → b.len ≤ (longer a b).len
longer-least a b = pick (nat_lt a.len b.len) refl
  where
    pick : (right : Bool) → nat_lt a.len b.len ≡ right → b.len ≤ (cond right b a).len
    pick true e = omega arith
    pick false e = grind (arith, nat_tests)

abbrev LastHasSome : List Piece → Type 0
LastHasSome [] = ⊥
LastHasSome (p ∷ []) = 1 ≤ p.len
LastHasSome (p ∷ q ∷ ps) = LastHasSome (q ∷ ps)

fold-some : (first : Piece) (ps : List Piece) → LastHasSome ps → 1 ≤ (fold longer first ps).len
fold-some first [] some = absurd some
fold-some first (p ∷ []) some = omega (arith, some, longer-least first p)
fold-some first (p ∷ q ∷ ps) some = fold-some (longer first p) (q ∷ ps) some

-- every piece has some bytes
longest-some : (bytes : List ℕ) → 1 ≤ (longest bytes).len
unfolding longest
longest-some bytes = fold-some (gap (white_span bytes)) (pieces bytes) (omega arith)

kind_of-no_end : (kind : Kind) (text : List ℕ) → kind ≢ End → kind_of kind text ≢ End
kind_of-no_end Name text other = pick (is_reserved text)
  where
    pick : (reserved : Bool) → (cond reserved Reserved Name) ≢ End
    pick true = λ e. cc
    pick false = λ e. cc
kind_of-no_end kind text other = other

token_of-raw : (kind : Option Kind) (text : List ℕ) (place : Place) → (kind ≡ Some End → ⊥) → 0 < length text → All IsRaw (token_of kind text place)
token_of-raw None text place other some = All-nil _
token_of-raw (Some kind) text place other some =
    let no_end : kind_of kind text ≢ End = kind_of-no_end kind text (λ e. other (ap Some e)) in
    let raw : IsRaw (record { kind = kind_of kind text; text = text; place = place }) = record { some = some; no_end = no_end } in
    All-cons IsRaw _ [] raw (All-nil IsRaw)

-- what `IsRaw` says holds of all tokens
pub tokens_from-raw : (inside : ℕ) (place : Place) (bytes : List ℕ) → All IsRaw (tokens_from inside place bytes)
tokens_from-raw inside place [] = All-nil IsRaw
tokens_from-raw (suc inside) place (c ∷ cs) = tokens_from-raw inside (behind_byte place c) cs
tokens_from-raw zero place (c ∷ cs) =
    let some : 0 < length (take (longest (c ∷ cs)).len (c ∷ cs)) = omega (arith, length-take {A = ℕ} (longest (c ∷ cs)).len (c ∷ cs), longest-some (c ∷ cs)) in
    All-append IsRaw _ _ (token_of-raw (longest (c ∷ cs)).kind _ place (longest-no_end (c ∷ cs)) some)
    (tokens_from-raw ((longest (c ∷ cs)).len - 1) (behind_byte place c) cs)

-- Pieces that are read as their tokens, and derived by the target table, put together part by part with what they mean.
use Rattle.std.proofs.Common.{◌≡◌, ℕ, suc, ◌≤◌, Bool, true, false, not, List, [], ◌∷◌, ◌++◌, map, codes, slice_get, Option, Some, None, refl, sym, ap, subst, ◌∙◌, append_assoc, eq-eqb}
use Rattle.std.specs.Int.{bit_at}
use Rattle.std.proofs.lemmas.Bool.{false≢true}
use Rattle.std.proofs.lemmas.List.{append-nil}
use Rattle.ll_engine.specs.declared.table.Part.{Part}
use Rattle.ll_engine.specs.declared.table.Part.TheVariants.{Term, Non, Maybe, Many}
use Rattle.ll_engine.specs.declared.table.Row.{Row}
use Rattle.ll_engine.specs.Grammar.{terminal as symbol_at, is_optional, IsRowOf, Begins, IsBegun}
use Rattle.ll_engine.specs.Reading.{inside}
use Rattle.v_tree.specs.declared.parts.VPart.{VPart}
use Rattle.v_tree.specs.declared.parts.VPart.TheVariants as P
use Rattle.v_tree.specs.Symbols.{symbol}
use Rattle.v_tree.specs.Symbols as terminal
use Rattle.v_tree.specs.Table.{table, plain}
use Rattle.v_tree.specs.Tokens.{Token}
use Rattle.v_tree.specs.Meaning.{row_meanings, by_row, token_part}
use Rattle.v_tree.specs.Reading.{nesting_limit}
use Rattle.v_tree.proofs.Fitness.{first, blank, firsts-closed}
use Rattle.v_tree.proofs.Induction.{Each}
use Rattle.ll_engine.proofs.class.BitSets.{has}
use Rattle.ll_engine.proofs.class.Firsts as Firsts
use Rattle.v_writer.specs.Layout.{Piece, token, space, line, mark, tokens_of, further, listed}
use Rattle.v_writer.proofs.Phrases.{Phrase, Derived, front, ended, symbol-read, by-row, non-read, maybe-read, many-read, left-out, tokens-are}
use Rattle.v_writer.proofs.Pieces.{IsRead, ends, line-on, space-on, tokens-append, comma-on}

-- what follows what was read first
pub front-append : (ts us : List Token) (after : Option ℕ) → front (ts ++ us) after ≡ front ts (front us after)
front-append [] us after = refl
front-append (t ∷ ts) us after = refl

-- the symbol doesn't begin the parts
abbrev pub avoids : List Part → Option ℕ → Bool
avoids ps None = true
avoids ps (Some a) = not (has (Firsts.firsts table first blank ps) a)

avoided : (b : Bool) → not b ≡ true → b ≡ true → ⊥
avoided true e h = false≢true e
avoided false e h = false≢true h

pub stops : (ps : List Part) (x : Option ℕ) → avoids ps x ≡ true → IsBegun table ps x → ⊥
stops ps None e b = b
stops ps (Some a) e b =
    avoided (has (Firsts.firsts table first blank ps) a) e
    (eq-eqb (bit_at (Firsts.firsts table first blank ps) a) 1 (Firsts.begins-sound table first blank firsts-closed b))

-- what begins a row begins its head
begun-inside : {h i : ℕ} {row : Row} (ps : List Part) (x : Option ℕ) → IsRowOf table h i row → IsBegun table row.parts x → IsBegun table (Non h ∷ ps) x
begun-inside ps None is_row b = b
begun-inside ps (Some a) is_row b = Begins.inside refl is_row b

-- the pieces go on with what ends a name, a word or a number
abbrev pub Ended : List Piece → Type 0
Ended M = (qs : List Piece) → ends qs ≡ true → ends (M ++ qs) ≡ true

module _ (all : List Token) where
  -- The parts read the tokens of these pieces, in front of the symbol `after`, and mean `ms`.
  pub record Said (around turn : ℕ) (ps : List Part) (L : List Piece) (after : Option ℕ) (ms : List VPart) : Type 0 where
    pub phrase : Phrase all around turn ps (tokens_of L) after ms
    pub on : (qs : List Piece) → ends qs ≡ true → IsRead qs → IsRead (L ++ qs)

  -- A row of the head does, and means `m`.
  pub record Node (h around : ℕ) (L : List Piece) (after : Option ℕ) (m : VPart) : Type 0 where
    pub derived : Derived all h around (tokens_of L) after m
    pub on : (qs : List Piece) → ends qs ≡ true → IsRead qs → IsRead (L ++ qs)

  pub done : (around turn : ℕ) (after : Option ℕ) → Said around turn [] [] after []
  done around turn after = record { phrase = ended all around turn after; on = λ qs e h. h }

  -- a token that any pieces may follow
  pub mk : {around turn : ℕ} {p : Part} {ps : List Part} {L : List Piece} {after : Option ℕ} {ms : List VPart} (t : Token)
      → symbol_at p ≡ Some (symbol t) → around ≤ nesting_limit → ((qs : List Piece) → IsRead qs → IsRead (token t ∷ qs))
      → Said around around ps L after ms → Said around turn (p ∷ ps) (token t ∷ L) after (token_part (Some t) ∷ ms)
  mk {L = L} t is low read s = record {
    phrase = symbol-read all t is low s.phrase;
    on = λ qs e h. read (L ++ qs) (s.on qs e h);
  }

  -- a token that only what ends a word may follow
  pub wd : {around turn : ℕ} {p : Part} {ps : List Part} {L : List Piece} {after : Option ℕ} {ms : List VPart} (t : Token)
      → symbol_at p ≡ Some (symbol t) → around ≤ nesting_limit → ((qs : List Piece) → ends qs ≡ true → IsRead qs → IsRead (token t ∷ qs)) → Ended L
      → Said around around ps L after ms → Said around turn (p ∷ ps) (token t ∷ L) after (token_part (Some t) ∷ ms)
  wd {L = L} t is low read ended_by s = record {
    phrase = symbol-read all t is low s.phrase;
    on = λ qs e h. read (L ++ qs) (ended_by qs e) (s.on qs e h);
  }

  -- a token in front of a space
  pub spaced : {around turn : ℕ} {p : Part} {ps : List Part} {L : List Piece} {after : Option ℕ} {ms : List VPart} (t : Token)
      → symbol_at p ≡ Some (symbol t) → around ≤ nesting_limit → ((qs : List Piece) → IsRead qs → IsRead (token t ∷ space ∷ qs))
      → Said around around ps L after ms → Said around turn (p ∷ ps) (token t ∷ space ∷ L) after (token_part (Some t) ∷ ms)
  spaced {L = L} t is low read s = record {
    phrase = symbol-read all t is low s.phrase;
    on = λ qs e h. read (L ++ qs) (s.on qs e h);
  }

  pub sp : {around turn : ℕ} {ps : List Part} {L : List Piece} {after : Option ℕ} {ms : List VPart}
      → Said around turn ps L after ms → Said around turn ps (space ∷ L) after ms
  sp {L = L} s = record { phrase = s.phrase; on = λ qs e h. space-on (L ++ qs) (s.on qs e h) }

  pub ln : {around turn : ℕ} {ps : List Part} {L : List Piece} {after : Option ℕ} {ms : List VPart} (depth : ℕ)
      → Said around turn ps L after ms → Said around turn ps (line depth ∷ L) after ms
  ln {L = L} depth s = record { phrase = s.phrase; on = λ qs e h. line-on depth (L ++ qs) (s.on qs e h) }

  pub said-as : {around turn : ℕ} {ps : List Part} {L M : List Piece} {after : Option ℕ} {ms : List VPart} → L ≡ M
      → Said around turn ps L after ms → Said around turn ps M after ms
  said-as {around} {turn} {ps} {L} {M} {after} {ms} e s = subst (λ x. Said around turn ps x after ms) e s

  pub means-as : {around turn : ℕ} {ps : List Part} {L : List Piece} {after : Option ℕ} {ms ns : List VPart} → ms ≡ ns
      → Said around turn ps L after ms → Said around turn ps L after ns
  means-as {around} {turn} {ps} {L} {after} {ms} {ns} e s = subst (λ x. Said around turn ps L after x) e s

  pub node-as : {h around : ℕ} {L M : List Piece} {after : Option ℕ} {m : VPart} → L ≡ M → Node h around L after m → Node h around M after m
  node-as {h} {around} {L} {M} {after} {m} e n = subst (λ x. Node h around x after m) e n

  pub out : {around turn : ℕ} {p : Part} {ps : List Part} {L : List Piece} {after : Option ℕ} {ms : List VPart}
      → is_optional p ≡ true → avoids (p ∷ []) (front (tokens_of L) after) ≡ true → Said around around ps L after ms
      → Said around turn (p ∷ ps) L after ms
  out {p = p} {L = L} {after = after} o e s = record { phrase = left-out all o (stops (p ∷ []) (front (tokens_of L) after) e) s.phrase; on = s.on }

  joined-on : (L M qs : List Piece) → Ended M → ends qs ≡ true → IsRead (M ++ qs)
      → ((rs : List Piece) → ends rs ≡ true → IsRead rs → IsRead (L ++ rs)) → IsRead ((L ++ M) ++ qs)
  joined-on L M qs ended_by e h on = subst IsRead (sym (append_assoc L M qs)) (on (M ++ qs) (ended_by qs e) h)

  pub non : {around turn h : ℕ} {ps : List Part} {L M : List Piece} {after : Option ℕ} {n : VPart} {ms : List VPart}
      → Node h around L (front (tokens_of M) after) n → Ended M → Said around around ps M after ms → Said around turn (Non h ∷ ps) (L ++ M) after (n ∷ ms)
  non {L = L} {M = M} n ended_by s = record {
    phrase = tokens-are all (sym (tokens-append L M)) (non-read all n.derived s.phrase);
    on = λ qs e h. joined-on L M qs ended_by e (s.on qs e h) n.on;
  }

  pub may : {around turn h : ℕ} {ps : List Part} {L M : List Piece} {after : Option ℕ} {n : VPart} {ms : List VPart}
      → Node h around L (front (tokens_of M) after) n → Ended M → Said around around ps M after ms → Said around turn (Maybe h ∷ ps) (L ++ M) after (n ∷ ms)
  may {L = L} {M = M} n ended_by s = record {
    phrase = tokens-are all (sym (tokens-append L M)) (maybe-read all n.derived s.phrase);
    on = λ qs e h. joined-on L M qs ended_by e (s.on qs e h) n.on;
  }

  pub many : {around turn h : ℕ} {ps : List Part} {L M : List Piece} {after : Option ℕ} {n : VPart} {ms : List VPart}
      → Node h around L (front (tokens_of M) after) n → Ended M → Said around around (Many h ∷ ps) M after ms
      → Said around turn (Many h ∷ ps) (L ++ M) after (n ∷ ms)
  many {L = L} {M = M} n ended_by s = record {
    phrase = tokens-are all (sym (tokens-append L M)) (many-read all n.derived s.phrase);
    on = λ qs e h. joined-on L M qs ended_by e (s.on qs e h) n.on;
  }

  pub row : (around : ℕ) {h i : ℕ} {r : Row} {L : List Piece} {after : Option ℕ} {ms : List VPart} {m : VPart} → IsRowOf table h i r
      → IsBegun table r.parts (front (tokens_of L) after) → Said (inside suc r around) (inside suc r around) r.parts L after ms
      → by_row (slice_get row_meanings i) ms ≡ m → Node h around L after m
  row around is_row begun s means = record { derived = by-row all around is_row begun s.phrase means; on = s.on }

  pub begins : {h around : ℕ} {L : List Piece} {after : Option ℕ} {m : VPart} (ps : List Part) → Node h around L after m
      → IsBegun table (Non h ∷ ps) (front (tokens_of L) after)
  begins {L = L} {after = after} ps n = begun-inside ps (front (tokens_of L) after) n.derived.is_row n.derived.begun

  pub begins-more : {h around : ℕ} {L : List Piece} {m : VPart} (ps : List Part) (M : List Piece) (after : Option ℕ) → Node h around L (front (tokens_of M) after) m
      → IsBegun table (Non h ∷ ps) (front (tokens_of (L ++ M)) after)
  begins-more {h = h} {L = L} ps M after n =
      subst (IsBegun table (Non h ∷ ps)) (sym (ap (λ ts. front ts after) (tokens-append L M) ∙ front-append (tokens_of L) (tokens_of M) after)) (begins ps n)

  -- a row whose only part is another head
  pub passed : (around : ℕ) {h g i : ℕ} {L : List Piece} {after : Option ℕ} {m n : VPart} → IsRowOf table h i (plain h (Non g ∷ [])) → Node g around L after m
      → by_row (slice_get row_meanings i) (m ∷ []) ≡ n → Node h around L after n
  passed around {L = L} {after = after} is_row n means =
      node-as (append-nil L)
      (row around is_row (begins-more [] [] after n) (non n (λ qs e. e) (done around around after)) means)

  -- An item of a list that the part reads: in front of any parts, where the symbol behind it is as `Closing` says.
  abbrev pub Item : {A : Type 0} → (A → List Piece) → (A → VPart) → Part → (Option ℕ → Type 0) → ℕ → A → Type 0
  Item f part p Closing around x = (turn : ℕ) (ps : List Part) (M : List Piece) (after : Option ℕ) (ms : List VPart) → Closing (front (tokens_of M) after) → Ended M
      → Said around around ps M after ms → Said around turn (p ∷ ps) (f x ++ M) after (part x ∷ ms)

  further-ends : {A : Type 0} (f : A → List Piece) (xs : List A) (M : List Piece) → Ended M → Ended (further (map f xs) ++ M)
  further-ends f [] M ended_by qs e = ended_by qs e
  further-ends f (x ∷ xs) M ended_by qs e = refl

  further-front : {A : Type 0} (f : A → List Piece) (Closing : Option ℕ → Type 0) (xs : List A) (M : List Piece) (after : Option ℕ) → Closing (Some terminal.comma)
      → Closing (front (tokens_of M) after) → Closing (front (tokens_of (further (map f xs) ++ M)) after)
  further-front f Closing [] M after comma end = end
  further-front f Closing (x ∷ xs) M after comma end = comma

  module _ {A : Type 0} (f : A → List Piece) (part : A → VPart) (p : Part) (Closing : Option ℕ → Type 0) (at_comma : Closing (Some terminal.comma))
      (next i : ℕ) (is_next : IsRowOf table next i (plain next (Term terminal.comma ∷ p ∷ [])))
      (keeps : (x : A) → by_row (slice_get row_meanings i) (P.Nothing ∷ part x ∷ []) ≡ part x) (around : ℕ) (low : around ≤ nesting_limit) where
    -- `, b` for each of these
    pub commas : (xs : List A) → Each (Item f part p Closing around) xs → {turn : ℕ} {ps : List Part} {M : List Piece} {after : Option ℕ} {ms : List VPart}
        → Closing (front (tokens_of M) after) → avoids (Many next ∷ []) (front (tokens_of M) after) ≡ true → Ended M → Said around around ps M after ms
        → Said around turn (Many next ∷ ps) (further (map f xs) ++ M) after (map part xs ++ ms)
    commas [] each end other ended_by s = out refl other s
    commas (x ∷ xs) each {M = M} {after = after} end other ended_by s =
        let rest = further (map f xs) ++ M in
        let behind = front (tokens_of rest) after in
        said-as (ap (λ qs. mark (codes ",") ∷ space ∷ qs) (sym (append_assoc (f x) (further (map f xs)) M)))
        (many
        (node-as (ap (λ qs. mark (codes ",") ∷ space ∷ qs) (append-nil (f x)))
        (row around is_next (Begins.itself refl)
        (mk (Token.mark (codes ",")) refl low comma-on
        (sp (each.0 around [] [] behind [] (further-front f Closing xs M after at_comma end) (λ qs e. e) (done around around behind))))
        (keeps x)))
        (further-ends f xs M ended_by)
        (commas xs each.1 end other ended_by s))

    -- `a, b`
    pub separated : (x : A) (xs : List A) → Each (Item f part p Closing around) (x ∷ xs) → {turn : ℕ} {ps : List Part} {M : List Piece} {after : Option ℕ} {ms : List VPart}
        → Closing (front (tokens_of M) after) → avoids (Many next ∷ []) (front (tokens_of M) after) ≡ true → Ended M → Said around around ps M after ms
        → Said around turn (p ∷ Many next ∷ ps) (listed (map f (x ∷ xs)) ++ M) after (part x ∷ (map part xs ++ ms))
    separated x xs each {turn = turn} {ps = ps} {M = M} {after = after} {ms = ms} end other ended_by s =
        said-as (sym (append_assoc (f x) (further (map f xs)) M))
        (each.0 turn (Many next ∷ ps) (further (map f xs) ++ M) after (map part xs ++ ms) (further-front f Closing xs M after at_comma end) (further-ends f xs M ended_by)
        (commas xs each.1 end other ended_by s))

use Rattle.std.specs.Prelude.{◌≡◌, ◌≤◌, ◌<◌, ℕ, zero, suc, List, [], ◌∷◌, take, drop, map, length}
use Rattle.ll_engine.specs.declared.table.Part.TheVariants.{Non}
use Rattle.ll_engine.specs.declared.table.Row.{Row}
use Rattle.ll_engine.specs.declared.tree.Tree.{Tree}
use Rattle.ll_engine.specs.Grammar.{IsRowOf}
use Rattle.ll_engine.specs.Reading.{Nested, at_nesting, Reads}

abbrev pub symbol_of : Nested → ℕ
symbol_of (at_nesting s n) = s

-- the nesting passes the limit nowhere
abbrev pub Within : ℕ → List Nested → Type 0
Within limit [] = Unit {0}
Within limit (at_nesting s n ∷ w) = (n ≤ limit) × Within limit w

-- the list is a text of the table, and `tree` its derivation: a text of the head of the first row
pub record IsText (t : List Row) (w : List Nested) (tree : Tree) : Type 0 where
  pub head : ℕ
  pub row : Row
  pub is_first : IsRowOf t head 0 row
  pub to : ℕ
  pub reads : Reads t suc 0 0 (Non head ∷ []) 0 w (tree ∷ []) to []

-- the symbols have this derivation, with nesting at most `limit`
pub record IsReading (t : List Row) (symbols : List ℕ) (limit : ℕ) (tree : Tree) : Type 0 where
  pub text : List Nested
  pub is_text : IsText t text tree
  pub spells : map symbol_of text ≡ symbols
  pub within : Within limit text

-- The first `n` tokens of the text are those of the symbols. The end counts as one token behind all others.
abbrev pub Agrees : ℕ → List Nested → List ℕ → Type 0
Agrees zero w symbols = Unit {0}
Agrees (suc n) [] [] = Unit {0}
Agrees (suc n) [] (a ∷ symbols) = ⊥
Agrees (suc n) (at_nesting s d ∷ w) [] = ⊥
Agrees (suc n) (at_nesting s d ∷ w) (a ∷ symbols) = (s ≡ a) × Agrees n w symbols

-- some text begins with the first `n` tokens of the symbols, and passes the limit at none of them
pub record Front (t : List Row) (symbols : List ℕ) (limit n : ℕ) : Type 0 where
  pub text : List Nested
  pub tree : Tree
  pub is_text : IsText t text tree
  pub agrees : Agrees n text symbols
  pub within : Within limit (take n text)

-- The symbol `at`, or the end, is the failing token: a text begins with the tokens before it, none with it too.
pub record FailsAt (t : List Row) (symbols : List ℕ) (limit at : ℕ) : Type 0 where
  pub is_token : at ≤ length symbols
  pub front : Front t symbols limit at
  pub no_text : (w : List Nested) (tree : Tree) → IsText t w tree → Agrees (suc at) w symbols → ⊥

-- the nesting of the text passes the limit at the symbol `at`, and at none before
pub record PassesFirst (w : List Nested) (limit at : ℕ) : Type 0 where
  pub before : Within limit (take at w)
  pub symbol : ℕ
  pub nesting : ℕ
  pub rest : List Nested
  pub is_at : drop at w ≡ at_nesting symbol nesting ∷ rest
  pub passes : limit < nesting

-- Nesting first passes the limit at the symbol `at`: a text begins with the symbols up to it, and each such
-- text passes the limit there and not before.
pub record PassesAt (t : List Row) (symbols : List ℕ) (limit at : ℕ) : Type 0 where
  pub is_symbol : at < length symbols
  pub text : List Nested
  pub tree : Tree
  pub is_text : IsText t text tree
  pub agrees : Agrees (suc at) text symbols
  pub each : (w : List Nested) (x : Tree) → IsText t w x → Agrees (suc at) w symbols → PassesFirst w limit at

-- A list of symbols has at most one text, with one derivation.
abbrev pub OneText : List Row → Type 0
OneText t = (w v : List Nested) (x y : Tree) → map symbol_of w ≡ map symbol_of v → IsText t w x → IsText t v y
    → (w ≡ v) × (x ≡ y)

-- The symbols have a reading, a failing token or a place where nesting first passes the limit, and no two of these.
pub record OneAnswer (t : List Row) (symbols : List ℕ) (limit : ℕ) : Type 0 where
  pub reading : (x y : Tree) → IsReading t symbols limit x → IsReading t symbols limit y → x ≡ y
  pub reads_or_fails : (x : Tree) (i : ℕ) → IsReading t symbols limit x → FailsAt t symbols limit i → ⊥
  pub reads_or_passes : (x : Tree) (i : ℕ) → IsReading t symbols limit x → PassesAt t symbols limit i → ⊥
  pub fails : (i j : ℕ) → FailsAt t symbols limit i → FailsAt t symbols limit j → i ≡ j
  pub passes : (i j : ℕ) → PassesAt t symbols limit i → PassesAt t symbols limit j → i ≡ j
  pub fails_or_passes : (i j : ℕ) → FailsAt t symbols limit i → PassesAt t symbols limit j → ⊥

-- What a text begins with goes on to a text, and so does each shorter beginning.
abbrev pub FrontsBegin : List Row → Type 0
FrontsBegin t = (symbols : List ℕ) (limit n m : ℕ) → n ≤ m → Front t symbols limit m → Front t symbols limit n

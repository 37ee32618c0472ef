-- How a source text is read: its tokens, without attributes, have one derivation by the table of the grammar, or a failing token.
use Rattle.std.specs.Prelude.{◌≡◌, ℕ, ◌-◌, nat_lt, Bool, true, false, List, [], ◌∷◌, ◌++◌, map, take, length, Option, Some, None, if◌then◌else◌, Result, Ok, Err, slice_get, codes}
use Rattle.sv_source.specs.declared.token.Place.{Place}
use Rattle.sv_source.specs.declared.token.Kind.{Kind}
use Rattle.sv_source.specs.declared.token.Kind.TheVariants.{Bad, End}
use Rattle.sv_source.specs.declared.token.Token.{Token}
use Rattle.sv_source.specs.declared.refusal.Refusal.{Refusal}
use Rattle.sv_source.specs.declared.refusal.Fail.{Fail}
use Rattle.sv_source.specs.declared.refusal.Fail.TheVariants.{Memory, Refused}
use Rattle.ll_engine.specs.declared.tree.Tree.{Tree}
use Rattle.ll_engine.specs.Texts.{IsReading, FailsAt, PassesAt}
use Rattle.sv_tree.specs.declared.units.SourceTree.{SourceTree}
use Rattle.sv_tree.specs.Symbols.{symbol_of}
use Rattle.sv_tree.specs.Table.{table}
use Rattle.expr_build.specs.Expressions.{nesting_limit}
use Rattle.sv_build.specs.Attributes.{without_attributes}
use Rattle.sv_build.specs.Items.{units_of}

abbrev pub is_end : Kind → Bool
is_end End = true
is_end _ = false

-- the last token is the end token
pub record Ends (tokens : List Token) : Type 0 where
  pub before : List Token
  pub last : Token
  pub is : tokens ≡ before ++ last ∷ []
  pub ends : is_end last.kind ≡ true

-- the tokens of a text: those before the end token
abbrev pub text : List Token → List Token
text tokens = take (length tokens - 1) tokens

-- the symbols by which a text is read
abbrev pub symbols : List Token → List ℕ
symbols tokens = map symbol_of (text tokens)

-- Tokens without attributes read as this tree by their symbols: the symbols have a derivation by the table, within the limit of
-- nesting, that means the tree's descriptions; and the tree keeps the tokens.
pub record ReadsBy (tokens : List Token) (by : List ℕ) (tree : SourceTree) : Type 0 where
  pub derivation : Tree
  pub is_reading : IsReading table by nesting_limit derivation
  pub means : tree.units ≡ units_of derivation
  pub keeps : tree.tokens ≡ tokens

-- the tokens read as this tree
abbrev pub Reads : List Token → SourceTree → Type 0
Reads tokens tree = ReadsBy (without_attributes tokens) (symbols (without_attributes tokens)) tree

-- The rule of a failing token: E302; of a byte where no token begins E103 if it is above 127, and else E301.
abbrev pub is_bad : Kind → Bool
is_bad Bad = true
is_bad _ = false

abbrev pub byte_rule : List ℕ → ℕ
byte_rule [] = 301
byte_rule (c ∷ text) = if nat_lt 127 c then 103 else 301

abbrev pub failing_rule : Token → ℕ
failing_rule t = if is_bad t.kind then byte_rule t.text else 302

-- a rule is broken at a token; the word of the end token is `<end>`
abbrev pub word_of : Token → List ℕ
word_of t = if is_end t.kind then codes "<end>" else t.text

abbrev pub refusal_at : ℕ → Token → Refusal
refusal_at rule t = record { rule = rule; place = t.place; word = word_of t }

-- the refusal by a rule at the token in a place
abbrev pub at_token : (Token → Refusal) → Option Token → Option Refusal
at_token refused None = None
at_token refused (Some t) = Some (refused t)

abbrev pub fails_at : Token → Refusal
fails_at t = refusal_at (failing_rule t) t

abbrev pub nests_at : Token → Refusal
nests_at t = refusal_at 303 t

-- Why the tokens have no reading. E302, E301 or E103 stands at the failing token, or at the end token: a text begins with the
-- tokens before it, and none with it too. E303 stands where nesting first passes the limit, if that comes before a failing token.
pub data BreakBy (tokens : List Token) (by : List ℕ) (r : Refusal) : Type 0 where
  fails : (at : ℕ) → FailsAt table by nesting_limit at → at_token fails_at (slice_get tokens at) ≡ Some r → BreakBy tokens by r
  nests : (at : ℕ) → PassesAt table by nesting_limit at → at_token nests_at (slice_get tokens at) ≡ Some r → BreakBy tokens by r

abbrev pub SyntaxBreak : List Token → Refusal → Type 0
SyntaxBreak tokens r = BreakBy (without_attributes tokens) (symbols (without_attributes tokens)) r

-- the reading of tokens without attributes, or the one reason why there is none
abbrev pub SymbolsGive : List Token → List ℕ → Result SourceTree Fail → Type 0
SymbolsGive tokens by (Ok tree) = ReadsBy tokens by tree
SymbolsGive tokens by (Err Memory) = Unit {0}
SymbolsGive tokens by (Err (Refused r)) = BreakBy tokens by r

abbrev pub ReadingGives : List Token → Result SourceTree Fail → Type 0
ReadingGives tokens result = SymbolsGive (without_attributes tokens) (symbols (without_attributes tokens)) result

-- tokens read as one tree or have one break, and not both
pub record OneReading (tokens : List Token) : Type 0 where
  pub one_tree : (a b : SourceTree) → Reads tokens a → Reads tokens b → a ≡ b
  pub not_both : (a : SourceTree) (r : Refusal) → Reads tokens a → SyntaxBreak tokens r → ⊥
  pub one_break : (r s : Refusal) → SyntaxBreak tokens r → SyntaxBreak tokens s → r ≡ s

-- What the reader of a text answers, and where it refuses one.
use Rattle.std.specs.Prelude.{◌≡◌, ℕ, List, map, Some, None, Result, Ok, Err, slice_get}
use Rattle.ll_engine.specs.Texts.{FailsAt, PassesAt}
use Rattle.ll_engine.specs.declared.fails.ParseFail.{ParseFail}
use Rattle.ll_engine.specs.declared.fails.ParseFail.TheVariants as P
use Rattle.v_tree.specs.declared.items.VDesign.{VDesign}
use Rattle.v_tree.specs.Table.{table}
use Rattle.v_tree.specs.Tokens.{tokens}
use Rattle.v_tree.specs.Symbols.{symbol}
use Rattle.v_tree.specs.Reading.{nesting_limit, Spells, VReads}
use Rattle.v_tree.specs.Rules.{broken_tokens}
use Rattle.v_expr_rules.specs.Least.{least, first}
use Rattle.v_lexer.specs.Seen.{tokens_of}
use Rattle.v_parse.specs.Spots.{spot_of}
use Rattle.v_parse.specs.declared.spot.Spot.{Spot}
use Rattle.v_reader.specs.declared.fails.ReadFail.{ReadFail}
use Rattle.v_reader.specs.declared.fails.ReadFail.TheVariants as F
use Rattle.v_reader.specs.declared.reading.Stop.{Stop}
use Rattle.v_reader.specs.declared.reading.Stop.TheVariants as S

-- The text spells a design, and this is the least token at which that breaks a rule.
pub record BreaksAt (bytes : List ℕ) (token : ℕ) : Type 0 where
  pub design : VDesign
  pub spells : Spells bytes design
  pub first : least (broken_tokens design) ≡ Some token

-- Why a text is none of the language: at this token it fails by the grammar, nests too deep, or breaks a rule. The end counts as a
-- token behind all others.
pub data Broken (bytes : List ℕ) (token : ℕ) : Type 0 where
  fails : FailsAt table (map symbol (tokens bytes)) nesting_limit token → Broken bytes token
  nests : PassesAt table (map symbol (tokens bytes)) nesting_limit token → Broken bytes token
  breaks : BreaksAt bytes token → Broken bytes token

-- the number of the rule
abbrev pub rule_of : {bytes : List ℕ} {token : ℕ} → Broken bytes token → ℕ
rule_of (fails f) = 901
rule_of (nests p) = 902
rule_of (breaks b) = 902

-- A text is refused: it breaks this rule at the token that stands here.
pub record Refused (bytes : List ℕ) (rule line col : ℕ) (word : List ℕ) : Type 0 where
  pub token : ℕ
  pub broken : Broken bytes token
  pub number : rule_of broken ≡ rule
  pub stands : spot_of bytes (slice_get (tokens_of bytes) token) ≡ record { place = record { line = line; col = col }; word = word }

-- what the reader gives
abbrev pub ReadGives : List ℕ → Result VDesign ReadFail → Type 0
ReadGives bytes (Ok e) = VReads bytes e
ReadGives bytes (Err F.Memory) = Unit {0}
ReadGives bytes (Err (F.NotVerilog rule line col word)) = Refused bytes rule line col word

-- A text reads as one design, or is refused in one way; and not both.
pub record OneAnswer (bytes : List ℕ) : Type 0 where
  pub design : (e f : VDesign) → VReads bytes e → VReads bytes f → e ≡ f
  pub rule : (i j : ℕ) (a : Broken bytes i) (b : Broken bytes j) → rule_of a ≡ rule_of b
  pub token : (i j : ℕ) → Broken bytes i → Broken bytes j → i ≡ j
  pub read_or_refused : (e : VDesign) (i : ℕ) → VReads bytes e → Broken bytes i → ⊥

-- the same by the numbers of tokens that are kept, which end at 2^32 - 1: no text has so many
abbrev pub Keeping : VDesign → Result VDesign Stop → Type 0
Keeping e (Ok f) = (e ≡ f) × (first (broken_tokens e) ≡ None)
Keeping e (Err S.Memory) = Unit {0}
Keeping e (Err (S.Breaks why)) = (why.rule ≡ 902) × (first (broken_tokens e) ≡ Some why.token)

pub record StopsAt (bytes : List ℕ) (rule kept : ℕ) : Type 0 where
  pub token : ℕ
  pub broken : Broken bytes token
  pub number : rule_of broken ≡ rule
  pub same : slice_get (tokens_of bytes) token ≡ slice_get (tokens_of bytes) kept

abbrev pub TextRead : List ℕ → Result VDesign Stop → Type 0
TextRead bytes (Ok e) = VReads bytes e
TextRead bytes (Err S.Memory) = Unit {0}
TextRead bytes (Err (S.Breaks why)) = StopsAt bytes why.rule why.token

abbrev pub stop_of : ParseFail → Stop
stop_of P.Memory = S.Memory
stop_of (P.NoText at) = S.Breaks (record { rule = 901; token = at })
stop_of (P.Deep at) = S.Breaks (record { rule = 902; token = at })

abbrev pub refusal_at : Spot → ℕ → ReadFail
refusal_at spot rule = F.NotVerilog rule spot.place.line spot.place.col spot.word

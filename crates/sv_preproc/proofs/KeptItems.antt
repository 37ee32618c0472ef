-- A property of tokens that lexing and moving keep: of what comes.
use Rattle.std.proofs.Common.{ℕ, Bool, true, false, cond, List, [], ◌∷◌, ◌++◌, drop, Option, None, All}
use Rattle.std.specs.Option.{IfSome}
use Rattle.std.proofs.lemmas.List.Elements.{All-nil, All-cons, All-head, All-tail, All-append, All-drop}
use Rattle.sv_source.specs.declared.token.Place.{Place}
use Rattle.sv_source.specs.declared.token.Token.{Token}
use Rattle.sv_lexer.specs.Lexing.{tokens_of}
use Rattle.sv_macro.specs.Tokens.{is_continued, moved}
use Rattle.sv_macro.specs.Definitions.{ends_line, of_line, line_of, behind_line}
use Rattle.sv_macro.specs.Lines.{is_newline, behind_lines, raw_token, first_by}
use Rattle.sv_macro.specs.Shapes.{first_fits, is_joint, behind_joints, behind_shapes}
use Rattle.sv_macro.specs.declared.shapes.Shape.{Shape}
use Rattle.sv_macro.specs.declared.coming.Coming.{Coming}
use Rattle.sv_macro.specs.declared.coming.Coming.TheVariants.{Raw, Kept, FileEnd, UseEnd}

-- it holds of the tokens of every text, wherever they are moved
pub record Steady (K : Token → Type 0) : Type 0 where
  pub moves : (place : Place) (t : Token) → K t → K (moved place t)
  pub lexed : (file : ℕ) (bytes : List ℕ) → All K (tokens_of file bytes)

abbrev pub ItemKeeps : (Token → Type 0) → Coming → Type 0
ItemKeeps K (Raw t) = K t
ItemKeeps K (Kept t) = K t
ItemKeeps K FileEnd = Unit {0}
ItemKeeps K (UseEnd name) = Unit {0}

module _ (K : Token → Type 0) where
  -- the rest of a list, or the whole
  rest_keeps : (b : Bool) (item : Coming) (coming rest : List Coming) → All (ItemKeeps K) (item ∷ coming) → All (ItemKeeps K) rest →
      All (ItemKeeps K) (elim b as (λ _. List Coming) [ true ↦ rest | false ↦ item ∷ coming ])
  rest_keeps true item coming rest all r = r
  rest_keeps false item coming rest all r = all

  whole_keeps : (b : Bool) (item : Coming) (coming rest : List Coming) → All (ItemKeeps K) (item ∷ coming) → All (ItemKeeps K) rest →
      All (ItemKeeps K) (elim b as (λ _. List Coming) [ true ↦ item ∷ coming | false ↦ rest ])
  whole_keeps true item coming rest all r = all
  whole_keeps false item coming rest all r = r

  -- behind newlines
  lines_keep : (coming : List Coming) → All (ItemKeeps K) coming → All (ItemKeeps K) (behind_lines coming)
  lines_keep [] all = all
  lines_keep (item ∷ coming) all =
      rest_keeps (is_newline item) item coming (behind_lines coming) all (lines_keep coming (All-tail (ItemKeeps K) item coming all))

  pub next_keeps : (coming : List Coming) → All (ItemKeeps K) coming → All (ItemKeeps K) (drop 1 (behind_lines coming))
  next_keeps coming all = All-drop (ItemKeeps K) 1 (behind_lines coming) (lines_keep coming all)

  -- the token of a file behind newlines
  raw_token_keeps : (item : Coming) → ItemKeeps K item → IfSome (raw_token item) K
  raw_token_keeps (Raw t) k = k
  raw_token_keeps (Kept t) k = tt
  raw_token_keeps FileEnd k = tt
  raw_token_keeps (UseEnd name) k = tt

  first_keeps : (coming : List Coming) → All (ItemKeeps K) coming → IfSome (first_by raw_token coming) K
  first_keeps [] all = tt
  first_keeps (item ∷ coming) all = raw_token_keeps item (All-head (ItemKeeps K) item coming all)

  pub next_raw_keeps : (coming : List Coming) → All (ItemKeeps K) coming → IfSome (first_by raw_token (behind_lines coming)) K
  next_raw_keeps coming all = first_keeps (behind_lines coming) (lines_keep coming all)

  -- behind the logical line
  pub behind_line_keeps : (coming : List Coming) → All (ItemKeeps K) coming → All (ItemKeeps K) (behind_line coming)
  behind_line_keeps [] all = all
  behind_line_keeps (item ∷ coming) all =
      whole_keeps (ends_line item) item coming (behind_line coming) all (behind_line_keeps coming (All-tail (ItemKeeps K) item coming all))

  -- the tokens of that line
  unless_continued : (b : Bool) (t : Token) → K t → All K (cond {A = List Token} b [] (t ∷ []))
  unless_continued true t k = All-nil K
  unless_continued false t k = All-cons K t [] k (All-nil K)

  of_line_keeps : (item : Coming) → ItemKeeps K item → All K (of_line item)
  of_line_keeps (Raw t) k = unless_continued (is_continued t) t k
  of_line_keeps (Kept t) k = All-nil K
  of_line_keeps FileEnd k = All-nil K
  of_line_keeps (UseEnd name) k = All-nil K

  until_end : (b : Bool) (ts : List Token) → All K ts → All K (elim b as (λ _. List Token) [ true ↦ [] | false ↦ ts ])
  until_end true ts all = All-nil K
  until_end false ts all = all

  pub line_keeps : (coming : List Coming) → All (ItemKeeps K) coming → All K (line_of coming)
  line_keeps [] all = All-nil K
  line_keeps (item ∷ coming) all =
      until_end (ends_line item) (of_line item ++ line_of coming)
      (All-append K (of_line item) (line_of coming) (of_line_keeps item (All-head (ItemKeeps K) item coming all)) (line_keeps coming (All-tail (ItemKeeps K) item coming all)))

  -- behind tokens of the line, one of each shape
  joints_keep : (coming : List Coming) → All (ItemKeeps K) coming → All (ItemKeeps K) (behind_joints coming)
  joints_keep [] all = all
  joints_keep (item ∷ coming) all =
      rest_keeps (is_joint item) item coming (behind_joints coming) all (joints_keep coming (All-tail (ItemKeeps K) item coming all))

  by_fit : (b : Bool) (rest : Option (List Coming)) → IfSome rest (All (ItemKeeps K)) →
      IfSome (elim b as (λ _. Option (List Coming)) [ true ↦ rest | false ↦ None ]) (All (ItemKeeps K))
  by_fit true rest r = r
  by_fit false rest r = tt

  pub shapes_keep : (shapes : List Shape) (coming : List Coming) → All (ItemKeeps K) coming → IfSome (behind_shapes shapes coming) (All (ItemKeeps K))
  shapes_keep [] coming all = all
  shapes_keep (shape ∷ shapes) coming all =
      by_fit (first_fits shape (first_by raw_token (behind_joints coming))) (behind_shapes shapes (drop 1 (behind_joints coming)))
      (shapes_keep shapes (drop 1 (behind_joints coming)) (All-drop (ItemKeeps K) 1 (behind_joints coming) (joints_keep coming all)))

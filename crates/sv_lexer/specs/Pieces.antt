-- The longest piece of each kind at the front of a text, and the longest of them.
use Rattle.std.specs.Prelude.{ℕ, nat_lt, if◌then◌else◌, Some, None, List, [], ◌∷◌, fold}
use Rattle.sv_source.specs.declared.token.Kind.{Kind}
use Rattle.sv_source.specs.declared.token.Kind.TheVariants.{Name, Decimal, Based, Fill, Mark, System, Str, Directive, Paste, Quote, Line, Continued, Cut, Bad}
use Rattle.sv_lexer.specs.declared.piece.Piece.{Piece}
use Rattle.sv_lexer.specs.Spans.{white_span, line_span, continued_span, line_comment_span, block_comment_span, cut_span, name_span, system_span, directive_span, paste_span, quote_span, decimal_span}
use Rattle.sv_lexer.specs.Literals.{based_span, fill_span, string_span}
use Rattle.sv_lexer.specs.Tables.{mark_span}

-- white space or a comment of so many bytes, which is no token
abbrev pub gap : ℕ → Piece
gap len = record { kind = None; len = len }

abbrev pub token : Kind → ℕ → Piece
token kind len = record { kind = Some kind; len = len }

-- the longer one, and the first of two with one length
abbrev pub longer : Piece → Piece → Piece
longer a b = if nat_lt a.len b.len then b else a

-- one piece of each kind, of length 0 where the text begins with none; any byte alone is the last one
abbrev pub pieces : List ℕ → List Piece
pieces bytes =
    gap (line_comment_span bytes)
    ∷ gap (block_comment_span bytes)
    ∷ token Cut (cut_span bytes)
    ∷ token Line (line_span bytes)
    ∷ token Continued (continued_span bytes)
    ∷ token Name (name_span bytes)
    ∷ token System (system_span bytes)
    ∷ token Decimal (decimal_span bytes)
    ∷ token Based (based_span bytes)
    ∷ token Fill (fill_span bytes)
    ∷ token Str (string_span bytes)
    ∷ token Directive (directive_span bytes)
    ∷ token Paste (paste_span bytes)
    ∷ token Quote (quote_span bytes)
    ∷ token Mark (mark_span bytes)
    ∷ token Bad 1
    ∷ []

-- the longest piece at the front of a text
unfoldable pub longest : List ℕ → Piece
longest bytes = fold longer (gap (white_span bytes)) (pieces bytes)

-- Attributes (IEEE 1800-2017 clause 5.12) are dropped before a text is read.
use Rattle.std.specs.Prelude.{ℕ, suc, nat_lt, Bool, true, false, ◌&&◌, not, List, [], ◌∷◌, codes, if◌then◌else◌}
use Rattle.std.specs.Str.{bytes_eq}
use Rattle.sv_source.specs.declared.token.Kind.{Kind}
use Rattle.sv_source.specs.declared.token.Kind.TheVariants.{Mark}
use Rattle.sv_source.specs.declared.token.Token.{Token}

abbrev pub is_mark_kind : Kind → Bool
is_mark_kind Mark = true
is_mark_kind _ = false

abbrev pub is_mark : List ℕ → Token → Bool
is_mark text t = is_mark_kind t.kind && bytes_eq t.text text

-- `*)`
abbrev pub closes : Token → Bool
closes t = is_mark (codes "*)") t

-- how many of the tokens close an attribute
abbrev pub closings : List Token → ℕ
closings [] = 0
closings (t ∷ ts) = if closes t then suc (closings ts) else closings ts

-- the next token is `)`
abbrev pub next_is_parenthesis : List Token → Bool
next_is_parenthesis [] = false
next_is_parenthesis (t ∷ ts) = is_mark (codes ")") t

-- `(*`, where no `)` follows directly and some `*)` follows
abbrev pub opens : Token → List Token → Bool
opens t rest = is_mark (codes "(*") t && not (next_is_parenthesis rest) && nat_lt 0 (closings rest)

-- The tokens that stand in no attribute; `inside` says that the tokens begin in one. An attribute ends with its first `*)`.
abbrev pub kept : Bool → List Token → List Token
kept inside [] = []
kept true (t ∷ ts) = kept (not (closes t)) ts
kept false (t ∷ ts) = if opens t ts then kept true ts else t ∷ kept false ts

abbrev pub without_attributes : List Token → List Token
without_attributes tokens = kept false tokens

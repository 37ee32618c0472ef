-- Macros and their bodies (IEEE 1800-2017 clause 22.5.1).
use Rattle.std.specs.Prelude.{ℕ, ◌+◌, Bool, true, false, List, [], ◌∷◌, ◌++◌, map, length, slice_index_or, Option, Some, None, if◌then◌else◌}
use Rattle.std.specs.Option.{option_map, option_and_then}
use Rattle.std.specs.Str.{bytes_eq}
use Rattle.sv_source.specs.declared.token.Place.{Place}
use Rattle.sv_source.specs.declared.token.Kind.{Kind}
use Rattle.sv_source.specs.declared.token.Kind.TheVariants.{Paste}
use Rattle.sv_source.specs.declared.token.Token.{Token}
use Rattle.sv_lexer.specs.Lexing.{tokens_of}
use Rattle.sv_macro.specs.Tokens.{moved}
use Rattle.sv_macro.specs.declared.macros.Part.{Part}
use Rattle.sv_macro.specs.declared.macros.Part.TheVariants.{Plain, Formal, Join}
use Rattle.sv_macro.specs.declared.macros.Macro.{Macro}
use Rattle.sv_macro.specs.declared.coming.Placing.{Placing}
use Rattle.sv_macro.specs.declared.coming.Coming.{Coming}
use Rattle.sv_macro.specs.declared.coming.Coming.TheVariants.{Raw, Kept, FileEnd, UseEnd}

-- what each name stands for
abbrev pub Macros : Type 0
Macros = List ℕ → Option Macro

-- the name stands for this macro, and no longer for another
abbrev pub defined : Macros → List ℕ → Macro → Macros
defined macros name m = λ q. if bytes_eq name q then Some m else macros q

-- the name stands for nothing
abbrev pub undefined : Macros → List ℕ → Macros
undefined macros name = λ q. if bytes_eq name q then None else macros q

-- the expansion of the macro goes on, or no longer does
abbrev pub marked : Macros → List ℕ → Bool → Macros
marked macros name busy = marked_as (macros name)
  where
    marked_as : Option Macro → Macros
    marked_as None = macros
    marked_as (Some m) = defined macros name (record m { busy = busy })

-- a body: each token is a paste, a formal or itself
abbrev pub is_paste_kind : Kind → Bool
is_paste_kind Paste = true
is_paste_kind _ = false

abbrev pub formal_or_plain : Option ℕ → Token → Part
formal_or_plain None t = Plain t
formal_or_plain (Some i) t = Formal i

abbrev pub part_by : (List ℕ → Option ℕ) → Token → Part
part_by number t = if is_paste_kind t.kind then Join else formal_or_plain (number t.text) t

-- the number of a formal, from the given one on; of equal names the first counts
abbrev pub formal_number : ℕ → List (List ℕ) → List ℕ → Option ℕ
formal_number from [] name = None
formal_number from (formal ∷ formals) name = if bytes_eq formal name then Some from else formal_number (from + 1) formals name

abbrev pub parts_of : List (List ℕ) → List Token → List Part
parts_of formals body = map (part_by (formal_number 0 formals)) body

-- what stands in the place of a part of the body, at the place of the use
abbrev pub replaced : Place → List (List Token) → Part → List Coming
replaced at arguments (Plain t) = Raw (moved at t) ∷ []
replaced at arguments (Formal i) = map (λ t. Kept (moved at t)) (slice_index_or arguments i [])
replaced at arguments Join = []

-- how many tokens are placed, before pastes are made
abbrev pub part_count : List (List Token) → Part → ℕ
part_count arguments (Plain t) = 1
part_count arguments (Formal i) = length (slice_index_or arguments i [])
part_count arguments Join = 0

abbrev pub placed_count : List (List Token) → List Part → ℕ
placed_count arguments [] = 0
placed_count arguments (part ∷ parts) = part_count arguments part + placed_count arguments parts

abbrev pub text_of : Coming → List ℕ
text_of (Raw t) = t.text
text_of (Kept t) = t.text
text_of FileEnd = []
text_of (UseEnd name) = []

-- the one token of a pasted text, which is looked at for uses again
abbrev pub only_token : Place → List Token → Option Coming
only_token at (t ∷ []) = Some (Raw (moved at t))
only_token at _ = None

abbrev pub pasted : Place → List ℕ → Option Coming
pasted at text = only_token at (tokens_of 0 text)

-- two texts of tokens, the last token of the first joined with the first of the second; nothing joins nothing
abbrev pub joined : Place → List Coming → List Coming → Option (List Coming)
joined at xs [] = Some xs
joined at [] (y ∷ ys) = Some (y ∷ ys)
joined at (x ∷ []) (y ∷ ys) = option_map (λ t. t ∷ ys) (pasted at (text_of x ++ text_of y))
joined at (x ∷ z ∷ zs) (y ∷ ys) = option_map (λ rest. x ∷ rest) (joined at (z ∷ zs) (y ∷ ys))

-- a body that is placed in part goes on with a part
abbrev pub with_part : Place → List (List Token) → Placing → Part → Option Placing
with_part at arguments p Join = Some (record p { pasting = true })
with_part at arguments p part =
    if p.pasting
    then option_map (λ chain. record { complete = p.complete; chain = chain; pasting = false }) (joined at p.chain (replaced at arguments part))
    else Some (record { complete = p.complete ++ p.chain; chain = replaced at arguments part; pasting = false })

abbrev pub with_parts : Place → List (List Token) → List Part → Placing → Option Placing
with_parts at arguments [] p = Some p
with_parts at arguments (part ∷ parts) p = option_and_then (with_parts at arguments parts) (with_part at arguments p part)

-- the body with its formals replaced and its pastes made, or nothing where a pasted text isn't one token
abbrev pub placed : Place → List (List Token) → List Part → Option (List Coming)
placed at arguments parts =
    option_map (λ p. p.complete ++ p.chain) (with_parts at arguments parts (record { complete = []; chain = []; pasting = false }))

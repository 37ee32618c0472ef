-- Names among the tokens of an expansion are simple names of the target language.
use Rattle.std.proofs.Common.{◌≡◌, ℕ, ◌<◌, Bool, true, false, not, cond, ◌||◌, ◌&&◌, List, [], ◌∷◌, ◌++◌, length, Option, Some, None, inl, inr, refl, ap, subst}
use Rattle.std.specs.List.{All, flat_map, list_all}
use Rattle.std.proofs.lemmas.List.Elements.{All-nil, All-cons, All-append, All-head, All-tail}
use Rattle.sv_lexer.proofs.Raw.{tokens_from-raw}
use Rattle.row_machine.specs.Valuation.{Member}
use Rattle.sv_source.specs.declared.token.Kind.{Kind}
use Rattle.sv_source.specs.declared.token.Kind.TheVariants as Kinds
use Rattle.sv_source.specs.Loading.{Contents}
use Rattle.sv_source.specs.declared.token.Place.{Place}
use Rattle.sv_source.specs.declared.token.Token.{Token}
use Rattle.sv_lexer.specs.Facts.{IsRaw}
use Rattle.sv_lexer.specs.Lexing.{tokens_of}
use Rattle.sv_macro.specs.Tokens.{is_name_kind}
use Rattle.sv_preproc.specs.declared.settings.Define.{Define}
use Rattle.sv_preproc.specs.Runs.{expands, end_token, Comes}
use Rattle.sv_preproc.proofs.Kept.{kept}
use Rattle.command_line.specs.declared.part.Part.{Part}
use Rattle.command_line.specs.declared.words.Asked.{Asked}
use Rattle.command_line.specs.Words.{name_before, body_behind, is_simple_name, is_body, define_of, each, prepended, only_top, with_parts, asked_by, asked, are_few, part_of, joined, macro_in, directory_in, file_in, top_in, isnt_empty}
use Rattle.v_tree.specs.Tokens.{is_simple}
use Rattle.sv2v_top.specs.Tokens.{is_simply_named, NamesAreSimple, BodiesAreSimple}
use Rattle.sv2v_top.proofs.SimpleNames.{name-is-simple}

-- a token is simply named if it is no name or has a simple one
by-kind : (k : Kind) (simple : Bool) → (k ≡ Kinds.Name → simple ≡ true) → (not (is_name_kind k) || simple) ≡ true
by-kind Kinds.Name simple h = h refl
by-kind Kinds.Reserved simple h = refl
by-kind Kinds.Decimal simple h = refl
by-kind Kinds.Based simple h = refl
by-kind Kinds.Fill simple h = refl
by-kind Kinds.Mark simple h = refl
by-kind Kinds.System simple h = refl
by-kind Kinds.Str simple h = refl
by-kind Kinds.Directive simple h = refl
by-kind Kinds.Paste simple h = refl
by-kind Kinds.Quote simple h = refl
by-kind Kinds.Line simple h = refl
by-kind Kinds.Continued simple h = refl
by-kind Kinds.Cut simple h = refl
by-kind Kinds.Bad simple h = refl
by-kind Kinds.End simple h = refl

raw-named : (ts : List Token) → All IsRaw ts → ((t : Token) → Member ts t → 0 < length t.text → t.kind ≡ Kinds.Name → is_simple t.text ≡ true) → NamesAreSimple ts
raw-named [] a h = All-nil _
raw-named (t ∷ ts) a h =
    All-cons (λ (x : Token). is_simply_named x ≡ true) t ts (by-kind t.kind (is_simple t.text) (h t (inl refl) (All-head IsRaw t ts a).some)) (raw-named ts (All-tail IsRaw t ts a) (λ u m. h u (inr m)))

-- the tokens of each file are
pub file-named : (file : ℕ) (bytes : List ℕ) → NamesAreSimple (tokens_of file bytes)
file-named file bytes = raw-named (tokens_of file bytes) (tokens_from-raw 0 (record { file = file; line = 1; col = 1 }) bytes) (name-is-simple file bytes)

-- and those of the bodies of a request
define-named : (text : List ℕ) (d : Define) → define_of text ≡ Some d → NamesAreSimple d.body
define-named text d e = pick (is_simple_name (name_before text) && is_body (body_behind text)) e
  where
    pick : (holds : Bool) → cond holds (Some (record { name = name_before text; body = tokens_of 0 (body_behind text) })) None ≡ Some d → NamesAreSimple d.body
    pick true e =
        let same : record { name = name_before text; body = tokens_of 0 (body_behind text) } ≡ d = cc in
        subst (λ (x : Define). NamesAreSimple x.body) same (file-named 0 (body_behind text))
    pick false e = cc

defines-named : (texts : List (List ℕ)) (ds : List Define) → each define_of texts ≡ Some ds → BodiesAreSimple ds
defines-named [] ds e = (let same : [] ≡ ds = cc in subst BodiesAreSimple same (All-nil (λ (x : Define). NamesAreSimple x.body)))
defines-named (text ∷ texts) ds e = both (define_of text) (each define_of texts) refl refl (defines-named texts) e
  where
    both : (first : Option Define) (rest : Option (List Define)) → define_of text ≡ first → each define_of texts ≡ rest
        → ((others : List Define) → each define_of texts ≡ Some others → BodiesAreSimple others) → prepended first rest ≡ Some ds → BodiesAreSimple ds
    both None rest f g more e = cc
    both (Some d) None f g more e = cc
    both (Some d) (Some others) f g more e =
        let same : d ∷ others ≡ ds = cc in
        subst BodiesAreSimple same (All-cons (λ (x : Define). NamesAreSimple x.body) d others (define-named text d f) (more others g))

parts-named : (top : Option (List ℕ)) (defines : Option (List Define)) (dirs files : List (List ℕ)) (request : Asked)
    → with_parts top defines dirs files ≡ Some request → defines ≡ Some request.settings.defines
parts-named None defines dirs files request e = cc
parts-named (Some top) None dirs files request e = cc
parts-named (Some top) (Some defines) dirs files request e = pick (list_all isnt_empty dirs && isnt_empty files) e
  where
    pick : (holds : Bool) → cond holds (Some (record { top = top; settings = record { files = files; dirs = dirs; defines = defines } })) None ≡ Some request → Some defines ≡ Some request.settings.defines
    pick true e =
        let same : record { top = top; settings = record { files = files; dirs = dirs; defines = defines } } ≡ request = cc in
        ap (λ (x : Asked). Some x.settings.defines) same
    pick false e = cc

pub request-named : (words : List (List ℕ)) (request : Asked) → asked words ≡ Some request → BodiesAreSimple request.settings.defines
request-named words request e = few (are_few words) e
  where
    of_parts : (parts : Option (List Part)) → asked_by parts ≡ Some request → BodiesAreSimple request.settings.defines
    of_parts None e = cc
    of_parts (Some parts) e =
        defines-named (flat_map macro_in parts) request.settings.defines
        (parts-named (only_top (flat_map top_in parts)) (each define_of (flat_map macro_in parts)) (flat_map directory_in parts) (flat_map file_in parts) request e)

    few : (holds : Bool) → cond holds (asked_by (each part_of (joined words))) None ≡ Some request → BodiesAreSimple request.settings.defines
    few true e = of_parts (each part_of (joined words)) e
    few false e = cc

-- so are the tokens of its expansion
pub expansion-named : (request : Asked) → BodiesAreSimple request.settings.defines → (told : Option Contents) (front : List Token) (place : Place) (names : List (List ℕ))
    → Comes request.settings told (expands (front ++ end_token place ∷ []) names) → NamesAreSimple (front ++ end_token place ∷ [])
expansion-named request bodies told front place names comes =
    All-append (λ (t : Token). is_simply_named t ≡ true) front (end_token place ∷ [])
    (kept is_simply_named (λ at t holds. holds) file-named request.settings bodies told front place names comes)
    (All-cons (λ (t : Token). is_simply_named t ≡ true) (end_token place) [] refl (All-nil (λ (t : Token). is_simply_named t ≡ true)))

use Rattle.std.proofs.Common.{◌≡◌, ◌++◌, ◌∙◌, sym, arith, append_assoc}
use Rattle.std.proofs.lemmas.Grind.{common_steps}
use Rattle.sv_lexer.specs.Literals.{string_span}
use Rattle.sv_lexer.specs.Lexing.{tokens_from, token_of, behind_bytes, tokens_of}
use Rattle.sv_lexer.specs.Facts.{IsRaw}
use Rattle.std.proofs.lemmas.List.Elements.{All-same}
use Rattle.sv_lexer.proofs.Raw.{tokens_from-count, tokens_from-raw}
use Rattle.sv_lexer.proofs.Skips.{tokens_from-next}
use Rattle.sv_lexer.proofs.Unclosed.{no_string-span, no_string-next}
use Rattle.sv_lexer.proofs.lexing.lex.Goals as goal
use Rattle.sv_lexer.proofs.lexing.lex.Goals.{then-no_string, else-no_string}

pub loop-rest-preserved : goal.loop-rest-preserved
loop-rest-preserved c =
    let split : c.loop-rest.rest.now ≡ c.split_at.result.0.now ++ c.split_at.result.1.now = grind (arith, common_steps) in
    let string : c.if-no_string.string ≡ string_span c.loop-rest.rest.now =
    elim c.if-no_string.branch [ then-no_string w ↦ w.string-is ∙ sym (no_string-span c.loop-rest.rest.now (c.loop-rest.invariant.no_string w.if-no_string.true)) | else-no_string w ↦ w.string-is ∙ w.string_span-string.ensures.value ] in
    let next : tokens_from 0 c.loop-rest.place c.loop-rest.rest.now
    ≡ token_of c.longest-piece.result.kind c.split_at.result.0.now c.loop-rest.place ++ tokens_from 0 (behind_bytes c.loop-rest.place c.split_at.result.0.now) c.split_at.result.1.now =
    tokens_from-next c.loop-rest.place _ _ _ c.longest-piece.result split c.longest-piece.ensures.value c.longest-piece.ensures.some c.split_at.ensures.front_len in
    record {
      value = rw (c.in_ok-push_token.ensures, c.place_behind-next.ensures.value, append_assoc, ← next) c.loop-rest.invariant.value;
      line = omega arith;
      col = omega arith;
      col_least = omega arith;
      no_string = no_string-next c.loop-rest.place c.place_behind-next.result _ _ _ _ _ _ split c.place_behind-next.ensures.value string c.loop-rest.invariant.no_string c.stays_open-no_string.ensures;
    }

pub returns-clause-count : goal.returns-clause-count
returns-clause-count c =
    let done : c.loop-rest.tokens ≡ tokens_of c.args.file c.args.bytes.now = grind (arith, common_steps) in
    rw done (tokens_from-count 0 _ c.args.bytes.now)

pub returns-clause-raw : goal.returns-clause-raw
returns-clause-raw c =
    let done : c.loop-rest.tokens ≡ tokens_of c.args.file c.args.bytes.now = grind (arith, common_steps) in
    All-same IsRaw _ _ done (tokens_from-raw 0 _ c.args.bytes.now)

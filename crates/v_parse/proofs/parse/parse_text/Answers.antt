use Rattle.std.proofs.Common.{◌≡◌, length, ap, arith}
use Rattle.v_lexer.specs.Seen.{tokens_of}
use Rattle.v_parse.proofs.Parsing.{text-length, text-gives}
use Rattle.v_parse.proofs.parse.parse_text.Goals as goal

pub parse_tokens-requires : goal.parse_tokens-requires
parse_tokens-requires c =
    let is : c.as_slice.result.now ≡ tokens_of c.args.bytes.now = cc (c.in_ok-tokens.ensures) in
    let many : length c.as_slice.result.now ≡ length (tokens_of c.args.bytes.now) = ap length is in
    omega (arith, many, text-length c.args.bytes.now)

pub returns : goal.returns
returns c =
    let is : c.as_slice.result.now ≡ tokens_of c.args.bytes.now = cc (c.in_ok-tokens.ensures) in
    text-gives c.args.bytes.now c.as_slice.result.now c.parse_tokens.result is c.parse_tokens.ensures

use Rattle.std.proofs.Common.{sym, ◌∙◌, map, string_bytes}
use Rattle.sv2v_top.proofs.SourceNames.{request-named}
use Rattle.sv2v_top.proofs.Requests.{request-files}
use Rattle.sv2v_top.proofs.run.run.Goals as goal

pub expand_and_translate-requires-clause-bodies : goal.expand_and_translate-requires-clause-bodies
expand_and_translate-requires-clause-bodies g c =
    request-named (map string_bytes c.args.words.now) c.in-Some.asked (sym c.in_ok-read_words.ensures.answer ∙ c.in-Some.is)

pub expand_and_translate-requires-clause-some : goal.expand_and_translate-requires-clause-some
expand_and_translate-requires-clause-some g c =
    request-files (map string_bytes c.args.words.now) c.in-Some.asked (sym c.in_ok-read_words.ensures.answer ∙ c.in-Some.is)

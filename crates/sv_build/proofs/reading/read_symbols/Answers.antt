use Rattle.std.proofs.Common.{◌≡◌, ℕ, List, Err, slice_get, sym, ap, subst, ◌∙◌}
use Rattle.ll_engine.specs.declared.table.Row.{Row}
use Rattle.ll_engine.specs.Answers.{ParseGives}
use Rattle.ll_engine.specs.Texts.{FailsAt, PassesAt}
use Rattle.sv_source.specs.declared.token.Token.{Token}
use Rattle.sv_tree.specs.Table.{table}
use Rattle.sv_build.specs.Reading.{fails, nests, at_token, fails_at, nests_at}
use Rattle.sv_build.proofs.reading.read_symbols.Goals as goal

pub returns-in-Err-NoText : goal.returns-in-Err-NoText
returns-in-Err-NoText c =
    let reader : c.in_ok-reader.reader ≡ table = c.in_ok-reader.ensures in
    let at : ℕ = c.in-Err-NoText.at in
    let given : FailsAt c.in_ok-reader.reader c.args.symbols.now 256 at = subst (λ f. ParseGives c.in_ok-reader.reader c.args.symbols.now 256 (Err f)) c.in-Err-NoText.field-0-is c.in-Err-NoText.ensures in
    fails at (subst (λ (t : List Row). FailsAt t c.args.symbols.now 256 at) reader given)
    (ap (λ (ts : List Token). at_token fails_at (slice_get ts at)) (sym c.as_slice.ensures) ∙ c.in_ok-failing-in-Err-NoText.ensures)

pub returns : goal.returns
returns c =
    let reader : c.in_ok-reader.reader ≡ table = c.in_ok-reader.ensures in
    let at : ℕ = c.in-Err-Deep.at in
    let given : PassesAt c.in_ok-reader.reader c.args.symbols.now 256 at = subst (λ f. ParseGives c.in_ok-reader.reader c.args.symbols.now 256 (Err f)) c.in-Err-Deep.field-0-is c.in-Err-Deep.ensures in
    nests at (subst (λ (t : List Row). PassesAt t c.args.symbols.now 256 at) reader given)
    (ap (λ (ts : List Token). at_token nests_at (slice_get ts at)) (sym c.as_slice-in-Err-Deep.ensures) ∙ c.in_ok-nesting-in-Err-Deep.ensures)

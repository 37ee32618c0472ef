use Rattle.std.proofs.Common.{◌≡◌, ◌-◌, ℕ, List, length, sym, ap, subst, ◌∙◌, arith}
use Rattle.sv_source.specs.declared.token.Token.{Token}
use Rattle.sv_build.specs.Attributes.{without_attributes}
use Rattle.sv_build.specs.Reading.{symbols, SymbolsGive}
use Rattle.sv_build.proofs.Lengths.{few-kept, symbol-count, some-left}
use Rattle.sv_build.proofs.reading.read_source.Goals as goal

pub read_symbols-requires-clause-length : goal.read_symbols-requires-clause-length
read_symbols-requires-clause-length c =
    let kept : c.in_ok-tokens.tokens ≡ without_attributes c.args.tokens = c.in_ok-tokens.ensures in
    let by : c.as_slice.result.now ≡ symbols c.in_ok-tokens.tokens = c.as_slice.ensures.value ∙ c.in_ok-symbols.ensures in
    let n : length c.as_slice.result.now ≡ length (without_attributes c.args.tokens) - 1 = ap length by ∙ symbol-count c.in_ok-tokens.tokens ∙ ap (λ (ts : List Token). length ts - 1) kept in
    let few = few-kept c.args.tokens in
    omega (arith, n, few, c.requires.length)

pub read_symbols-requires-clause-ends : goal.read_symbols-requires-clause-ends
read_symbols-requires-clause-ends c =
    let kept : c.in_ok-tokens.tokens ≡ without_attributes c.args.tokens = c.in_ok-tokens.ensures in
    let by : c.as_slice.result.now ≡ symbols c.in_ok-tokens.tokens = c.as_slice.ensures.value ∙ c.in_ok-symbols.ensures in
    let n : length c.as_slice.result.now ≡ length (without_attributes c.args.tokens) - 1 = ap length by ∙ symbol-count c.in_ok-tokens.tokens ∙ ap (λ (ts : List Token). length ts - 1) kept in
    let m : length c.in_ok-tokens.tokens ≡ length (without_attributes c.args.tokens) = ap length kept in
    let some = some-left c.args.tokens c.requires.ends in
    omega (arith, n, m, some)

pub returns : goal.returns
returns c =
    let kept : c.in_ok-tokens.tokens ≡ without_attributes c.args.tokens = c.in_ok-tokens.ensures in
    let by : c.as_slice.result.now ≡ symbols (without_attributes c.args.tokens) = c.as_slice.ensures.value ∙ c.in_ok-symbols.ensures ∙ ap symbols kept in
    subst (λ (ts : List Token). SymbolsGive ts (symbols (without_attributes c.args.tokens)) c.read_symbols.result) kept
    (subst (λ (w : List ℕ). SymbolsGive c.in_ok-tokens.tokens w c.read_symbols.result) by c.read_symbols.ensures)

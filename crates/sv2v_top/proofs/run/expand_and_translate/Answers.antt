use Rattle.std.proofs.Common.{◌≡◌, List, ℕ, ◌++◌, ◌∷◌, [], Err, refl, sym, subst, arith}
use Rattle.sv_source.specs.declared.token.Token.{Token}
use Rattle.sv_source.specs.Faults.{NotRaised}
use Rattle.sv_preproc.specs.Runs.{expands, end_token, Comes}
use Rattle.sv_preproc.specs.Answers.{FailCause, Reaches}
use Rattle.sv_preproc.specs.declared.settings.ExpandFail.{ExpandFail}
use Rattle.sv_preproc.specs.declared.settings.ExpandFail.TheVariants.{Refused}
use Rattle.sv_preproc.proofs.Ending.{ends-with-end}
use Rattle.sv_preproc.proofs.Kept.{few-tokens}
use Rattle.sv2v_top.specs.Tokens.{NamesAreSimple}
use Rattle.sv2v_top.specs.Headline.{TokensGive, in_expansion}
use Rattle.sv2v_top.proofs.Runs.{from-tokens, from-cause}
use Rattle.sv2v_top.proofs.SourceNames.{expansion-named}
use Rattle.sv2v_top.proofs.run.expand_and_translate.Goals as goal

pub translated-requires-clause-few : goal.translated-requires-clause-few
translated-requires-clause-few g c =
    let few = few-tokens c.args.asked.now.settings (g.F.Files.contents c.args.files.now) c.in-Ok.expanded.tokens c.in-Ok.expanded.files c.in-Ok.ensures.comes in
    omega (arith, few)

pub translated-requires-clause-names : goal.translated-requires-clause-names
translated-requires-clause-names g c =
    let set = c.args.asked.now.settings in
    let told = g.F.Files.contents c.args.files.now in
    let files = c.in-Ok.expanded.files in
    let end = ends-with-end set told c.in-Ok.expanded.tokens files c.in-Ok.ensures.comes in
    let comes : Comes set told (expands (end.0 ++ end_token end.1 ∷ []) files) = subst (λ (ts : List Token). Comes set told (expands ts files)) end.2 c.in-Ok.ensures.comes in
    subst NamesAreSimple (sym end.2) (expansion-named c.args.asked.now c.requires.bodies told end.0 end.1 files comes)

pub translated-requires-clause-ends : goal.translated-requires-clause-ends
translated-requires-clause-ends g c =
    let end = ends-with-end c.args.asked.now.settings (g.F.Files.contents c.args.files.now) c.in-Ok.expanded.tokens c.in-Ok.expanded.files c.in-Ok.ensures.comes in
    record { before = end.0; last = end_token end.1; is = end.2; ends = refl }

pub returns-in-Ok-clause-gives : goal.returns-in-Ok-clause-gives
returns-in-Ok-clause-gives g c =
    let told = g.F.Files.contents c.args.files.now in
    let files = c.in-Ok.expanded.files in
    let tokens = c.in-Ok.expanded.tokens in
    let same : _ ≡ _ = c.in-Ok.ensures.cause in
    let calm : NotRaised _ _ = omega arith in
    from-tokens c.args.asked.now c.requires.some told _ _ tokens files c.translated.result c.in-Ok.ensures.comes calm
    (subst (λ (top : List ℕ). TokensGive top tokens files c.translated.result) c.as_bytes.ensures c.translated.ensures)

pub returns-in-Err-FileFault-clause-later : goal.returns-in-Err-FileFault-clause-later
returns-in-Err-FileFault-clause-later g c =
    (subst (λ (f : ExpandFail). FailCause f (g.F.Files.faults c.args.files.now) (g.F.Files.faults c.expand.new.files)) c.in-Err-FileFault.field-0-is c.in-Err-FileFault.ensures.cause).1

pub returns-in_ok-refused-in-Err-Refused-clause-gives : goal.returns-in_ok-refused-in-Err-Refused-clause-gives
returns-in_ok-refused-in-Err-Refused-clause-gives g c =
    let told = g.F.Files.contents c.args.files.now in
    let files = c.in-Err-Refused.files in
    let level : FailCause (Refused c.in-Err-Refused.refusal files) (g.F.Files.faults c.args.files.now) (g.F.Files.faults c.expand.new.files) =
    subst (λ (f : ExpandFail). FailCause f (g.F.Files.faults c.args.files.now) (g.F.Files.faults c.expand.new.files)) c.in-Err-Refused.field-0-is c.in-Err-Refused.ensures.cause in
    let comes : Reaches c.args.asked.now.settings told (Err (Refused c.in-Err-Refused.refusal files)) =
    subst (λ (f : ExpandFail). Reaches c.args.asked.now.settings told (Err f)) c.in-Err-Refused.field-0-is c.in-Err-Refused.ensures.comes in
    let calm : NotRaised (g.F.Files.faults c.args.files.now) (g.F.Files.faults c.expand.new.files) = omega (arith, level) in
    from-cause c.args.asked.now c.requires.some told _ _ files c.in-Err-Refused.refusal c.in_ok-refused-in-Err-Refused.field-0 c.in_ok-refused-in-Err-Refused.ensures
    (in_expansion comes) calm

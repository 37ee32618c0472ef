use Rattle.std.proofs.Common.{◌∙◌, sym, ap}
use Rattle.sv_source.specs.declared.token.Kind.TheVariants.{Name, Decimal}
use Rattle.sv_lexer.specs.Pieces.{gap, token}
use Rattle.sv_lexer.proofs.Fronts.{longest-white, longest-name, longest-decimal, longest-line, longest-mark}
use Rattle.sv_lexer.proofs.piece.longest.Goals as goal

pub returns-then-is_white-clause-value : goal.returns-then-is_white-clause-value
returns-then-is_white-clause-value c =
    c.gap.ensures.value ∙ ap gap c.white_span.ensures.value
    ∙ sym (longest-white _ c.requires.some (sym c.if-is_white.ensures))

pub returns-then-is_letter-clause-value : goal.returns-then-is_letter-clause-value
returns-then-is_letter-clause-value c =
    c.token.ensures.value ∙ ap (token Name) c.name_span.ensures.value
    ∙ sym (longest-name _ c.requires.some (sym c.if-is_white.ensures) (sym c.if-is_letter.ensures))

pub returns-then-is_digit-clause-value : goal.returns-then-is_digit-clause-value
returns-then-is_digit-clause-value c =
    c.token-then-is_digit.ensures.value ∙ ap (token Decimal) c.decimal_span.ensures.value
    ∙ sym (longest-decimal _ c.requires.some (sym c.if-is_white.ensures) (sym c.if-is_letter.ensures) (sym c.if-is_digit.ensures))

pub returns-then-first-eq10-clause-value : goal.returns-then-first-eq10-clause-value
returns-then-first-eq10-clause-value c = c.token-then-first-eq10.ensures.value ∙ sym (longest-line _ c.requires.some c.if-first-eq10.true)

pub returns-else-opens_many-clause-value : goal.returns-else-opens_many-clause-value
returns-else-opens_many-clause-value c =
    c.mark_or_bad.ensures.value
    ∙ sym (longest-mark _ c.requires.some (sym c.if-is_white.ensures) (sym c.if-is_letter.ensures) (sym c.if-is_digit.ensures) c.if-first-eq10.false (sym c.if-opens_many.ensures))

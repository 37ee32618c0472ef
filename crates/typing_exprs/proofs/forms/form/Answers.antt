use Rattle.std.proofs.Common.{◌≡◌, sym, ◌∙◌, subst}
use Rattle.sv_tree.specs.declared.expressions.Expr.{Expr-F}
use Rattle.sv_tree.specs.declared.expressions.Expr.TheVariants as X
use Rattle.expr_type.specs.Forms as N
use Rattle.expr_type.specs.Answers.{Gives}
use Rattle.expr_type.specs.Names.{Source}
use Rattle.expr_type.specs.Typings.{rule}
use Rattle.typing_steps.proofs.Combining.{rule-types}
use Rattle.typing_parts.specs.Operands.{as_operand}
use Rattle.typing_operators.specs.TypingValues.{in_dimensions, in_selects, in_slice}
use Rattle.typing_operators.specs.TypingValuesParts as P
use Rattle.typing_operators.specs.Joins as J
use Rattle.typing_operators.specs.Operators as O
use Rattle.typing_operators.specs.Children.{in_casts}
use Rattle.typing_operators.proofs.Many.{behind-can, front-can}
use Rattle.typing_exprs.proofs.Children.{level-can}
use Rattle.typing_exprs.proofs.FormMeanings as M
use Rattle.typing_exprs.proofs.Casting as K
use Rattle.typing_exprs.proofs.Parted.{arguments-written, selects-written}
use Rattle.typing_exprs.proofs.forms.form.Goals as goal

pub conditional-requires-clause-test : goal.conditional-requires-clause-test
conditional-requires-clause-test g c =
    let is : c.args.e.now ≡ X.Conditional c.get-test.result.now c.in-Conditional.question c.get-first.result.now c.in-Conditional.colon c.get-second.result.now = cc (c.in-Conditional.is, c.get-test.ensures, c.get-first.ensures, c.get-second.ensures) in
    (level-can _ _ _ _ _ _ _ c.args.e.now (Expr-F.Conditional c.get-test.result.now c.in-Conditional.question c.get-first.result.now c.in-Conditional.colon c.get-second.result.now) (is ∙ sym (X.rolls-Conditional c.get-test.result.now c.in-Conditional.question c.get-first.result.now c.in-Conditional.colon c.get-second.result.now)) c.requires.can).0

pub conditional-requires-clause-first : goal.conditional-requires-clause-first
conditional-requires-clause-first g c =
    let is : c.args.e.now ≡ X.Conditional c.get-test.result.now c.in-Conditional.question c.get-first.result.now c.in-Conditional.colon c.get-second.result.now = cc (c.in-Conditional.is, c.get-test.ensures, c.get-first.ensures, c.get-second.ensures) in
    (level-can _ _ _ _ _ _ _ c.args.e.now (Expr-F.Conditional c.get-test.result.now c.in-Conditional.question c.get-first.result.now c.in-Conditional.colon c.get-second.result.now) (is ∙ sym (X.rolls-Conditional c.get-test.result.now c.in-Conditional.question c.get-first.result.now c.in-Conditional.colon c.get-second.result.now)) c.requires.can).1.0

pub conditional-requires-clause-second : goal.conditional-requires-clause-second
conditional-requires-clause-second g c =
    let is : c.args.e.now ≡ X.Conditional c.get-test.result.now c.in-Conditional.question c.get-first.result.now c.in-Conditional.colon c.get-second.result.now = cc (c.in-Conditional.is, c.get-test.ensures, c.get-first.ensures, c.get-second.ensures) in
    (level-can _ _ _ _ _ _ _ c.args.e.now (Expr-F.Conditional c.get-test.result.now c.in-Conditional.question c.get-first.result.now c.in-Conditional.colon c.get-second.result.now) (is ∙ sym (X.rolls-Conditional c.get-test.result.now c.in-Conditional.question c.get-first.result.now c.in-Conditional.colon c.get-second.result.now)) c.requires.can).1.1.0

pub returns-in-Conditional-clause-value : goal.returns-in-Conditional-clause-value
returns-in-Conditional-clause-value g c =
    let k = g.S.Names.context c.args.names.now in
    let fs = c.args.known.now.functions in
    let gs = c.conditional.new.known.functions in
    let is : c.args.e.now ≡ X.Conditional c.get-test.result.now c.in-Conditional.question c.get-first.result.now c.in-Conditional.colon c.get-second.result.now = cc (c.in-Conditional.is, c.get-test.ensures, c.get-first.ensures, c.get-second.ensures) in
    M.conditional-meant k c.args.e.now c.get-test.result.now c.in-Conditional.question c.get-first.result.now c.in-Conditional.colon c.get-second.result.now fs gs (as_operand k.source c.plain_operand.result) is
    (c.plain_operand.ensures.value k.source (O.conditional k c.in-Conditional.question c.get-test.result.now c.get-first.result.now c.get-second.result.now) fs gs c.conditional.ensures.value)

pub binary-requires-clause-left : goal.binary-requires-clause-left
binary-requires-clause-left g c =
    let is : c.args.e.now ≡ X.Binary c.get-left.result.now c.in-Binary.operator c.in-Binary.at c.get-right.result.now = cc (c.in-Binary.is, c.get-left.ensures, c.get-right.ensures) in
    (level-can _ _ _ _ _ _ _ c.args.e.now (Expr-F.Binary c.get-left.result.now c.in-Binary.operator c.in-Binary.at c.get-right.result.now) (is ∙ sym (X.rolls-Binary c.get-left.result.now c.in-Binary.operator c.in-Binary.at c.get-right.result.now)) c.requires.can).0

pub binary-requires-clause-right : goal.binary-requires-clause-right
binary-requires-clause-right g c =
    let is : c.args.e.now ≡ X.Binary c.get-left.result.now c.in-Binary.operator c.in-Binary.at c.get-right.result.now = cc (c.in-Binary.is, c.get-left.ensures, c.get-right.ensures) in
    (level-can _ _ _ _ _ _ _ c.args.e.now (Expr-F.Binary c.get-left.result.now c.in-Binary.operator c.in-Binary.at c.get-right.result.now) (is ∙ sym (X.rolls-Binary c.get-left.result.now c.in-Binary.operator c.in-Binary.at c.get-right.result.now)) c.requires.can).1.0

pub returns-in-Binary-clause-value : goal.returns-in-Binary-clause-value
returns-in-Binary-clause-value g c =
    let k = g.S.Names.context c.args.names.now in
    let fs = c.args.known.now.functions in
    let gs = c.binary.new.known.functions in
    let is : c.args.e.now ≡ X.Binary c.get-left.result.now c.in-Binary.operator c.in-Binary.at c.get-right.result.now = cc (c.in-Binary.is, c.get-left.ensures, c.get-right.ensures) in
    M.binary-meant k c.args.e.now c.get-left.result.now c.in-Binary.operator c.in-Binary.at c.get-right.result.now fs gs (as_operand k.source c.plain_operand-in-Binary.result) is
    (c.plain_operand-in-Binary.ensures.value k.source (O.binary k c.in-Binary.operator c.in-Binary.at c.get-left.result.now c.get-right.result.now) fs gs c.binary.ensures.value)

pub inside-requires-clause-sought : goal.inside-requires-clause-sought
inside-requires-clause-sought g c =
    let is : c.args.e.now ≡ X.Inside c.get-sought.result.now c.in-Inside.keyword c.in-Inside.opening c.as_slice-ranges.result.now c.in-Inside.closing = cc (c.in-Inside.is, c.get-sought.ensures, c.as_slice-ranges.ensures) in
    (level-can _ _ _ _ _ _ _ c.args.e.now (Expr-F.Inside c.get-sought.result.now c.in-Inside.keyword c.in-Inside.opening c.as_slice-ranges.result.now c.in-Inside.closing) (is ∙ sym (X.rolls-Inside c.get-sought.result.now c.in-Inside.keyword c.in-Inside.opening c.as_slice-ranges.result.now c.in-Inside.closing)) c.requires.can).0

pub inside-requires-clause-can : goal.inside-requires-clause-can
inside-requires-clause-can g c =
    let is : c.args.e.now ≡ X.Inside c.get-sought.result.now c.in-Inside.keyword c.in-Inside.opening c.as_slice-ranges.result.now c.in-Inside.closing = cc (c.in-Inside.is, c.get-sought.ensures, c.as_slice-ranges.ensures) in
    (level-can _ _ _ _ _ _ _ c.args.e.now (Expr-F.Inside c.get-sought.result.now c.in-Inside.keyword c.in-Inside.opening c.as_slice-ranges.result.now c.in-Inside.closing) (is ∙ sym (X.rolls-Inside c.get-sought.result.now c.in-Inside.keyword c.in-Inside.opening c.as_slice-ranges.result.now c.in-Inside.closing)) c.requires.can).1

pub returns-in-Inside-clause-value : goal.returns-in-Inside-clause-value
returns-in-Inside-clause-value g c =
    let k = g.S.Names.context c.args.names.now in
    let fs = c.args.known.now.functions in
    let gs = c.inside.new.known.functions in
    let is : c.args.e.now ≡ X.Inside c.get-sought.result.now c.in-Inside.keyword c.in-Inside.opening c.as_slice-ranges.result.now c.in-Inside.closing = cc (c.in-Inside.is, c.get-sought.ensures, c.as_slice-ranges.ensures) in
    M.inside-meant k c.args.e.now c.get-sought.result.now c.in-Inside.keyword c.in-Inside.opening c.as_slice-ranges.result.now c.in-Inside.closing fs gs (as_operand k.source c.plain_operand-in-Inside.result) is
    (c.plain_operand-in-Inside.ensures.value k.source (P.inside k c.in-Inside.keyword c.get-sought.result.now c.as_slice-ranges.result.now) fs gs c.inside.ensures.value)

pub unary-requires-clause-can : goal.unary-requires-clause-can
unary-requires-clause-can g c =
    let is : c.args.e.now ≡ X.Unary c.in-Unary.operator c.in-Unary.at c.get-operand.result.now = cc (c.in-Unary.is, c.get-operand.ensures) in
    (level-can _ _ _ _ _ _ _ c.args.e.now (Expr-F.Unary c.in-Unary.operator c.in-Unary.at c.get-operand.result.now) (is ∙ sym (X.rolls-Unary c.in-Unary.operator c.in-Unary.at c.get-operand.result.now)) c.requires.can).0

pub returns-in-Unary-clause-value : goal.returns-in-Unary-clause-value
returns-in-Unary-clause-value g c =
    let k = g.S.Names.context c.args.names.now in
    let fs = c.args.known.now.functions in
    let gs = c.unary.new.known.functions in
    let is : c.args.e.now ≡ X.Unary c.in-Unary.operator c.in-Unary.at c.get-operand.result.now = cc (c.in-Unary.is, c.get-operand.ensures) in
    M.unary-meant k c.args.e.now c.in-Unary.operator c.in-Unary.at c.get-operand.result.now fs gs (as_operand k.source c.plain_operand-in-Unary.result) is
    (c.plain_operand-in-Unary.ensures.value k.source (O.unary k c.in-Unary.operator c.in-Unary.at c.get-operand.result.now) fs gs c.unary.ensures.value)

pub by_written_size-requires-clause-names : goal.by_written_size-requires-clause-names
by_written_size-requires-clause-names g c = c.requires.names.context

pub by_written_size-requires-clause-can : goal.by_written_size-requires-clause-can
by_written_size-requires-clause-can g c =
    let is : c.args.e.now ≡ X.SizeCast c.in-SizeCast.size c.get-sized.result.now = cc (c.in-SizeCast.is, c.get-sized.ensures) in
    (level-can _ _ _ _ _ _ _ c.args.e.now (Expr-F.SizeCast c.in-SizeCast.size c.get-sized.result.now) (is ∙ sym (X.rolls-SizeCast c.in-SizeCast.size c.get-sized.result.now)) c.requires.can)

pub returns-in-SizeCast-clause-value : goal.returns-in-SizeCast-clause-value
returns-in-SizeCast-clause-value g c =
    let k = g.S.Names.context c.args.names.now in
    let fs = c.args.known.now.functions in
    let gs = c.by_written_size.new.known.functions in
    let is : c.args.e.now ≡ X.SizeCast c.in-SizeCast.size c.get-sized.result.now = cc (c.in-SizeCast.is, c.get-sized.ensures) in
    M.size-cast-meant k c.args.e.now c.in-SizeCast.size c.get-sized.result.now fs gs (as_operand k.source c.plain_operand-in-SizeCast.result) is
    (c.plain_operand-in-SizeCast.ensures.value k.source (P.by_written_size k c.in-SizeCast.size c.get-sized.result.now) fs gs c.by_written_size.ensures.value)

pub parenthesized-requires-clause-names : goal.parenthesized-requires-clause-names
parenthesized-requires-clause-names g c = c.requires.names.context

pub parenthesized-requires-clause-value : goal.parenthesized-requires-clause-value
parenthesized-requires-clause-value g c =
    let is : c.args.e.now ≡ X.Parenthesized c.in-Parenthesized.opening c.get-inner.result.now c.in-Parenthesized.closing c.in-Parenthesized.cast = cc (c.in-Parenthesized.is, c.get-inner.ensures) in
    (level-can _ _ _ _ _ _ _ c.args.e.now (Expr-F.«Expr::Parenthesized» c.in-Parenthesized.opening c.get-inner.result.now c.in-Parenthesized.closing c.in-Parenthesized.cast) (is ∙ sym (X.rolls-Parenthesized c.in-Parenthesized.opening c.get-inner.result.now c.in-Parenthesized.closing c.in-Parenthesized.cast)) c.requires.can).0

pub parenthesized-requires-clause-can : goal.parenthesized-requires-clause-can
parenthesized-requires-clause-can g c =
    let is : c.args.e.now ≡ X.Parenthesized c.in-Parenthesized.opening c.get-inner.result.now c.in-Parenthesized.closing c.in-Parenthesized.cast = cc (c.in-Parenthesized.is, c.get-inner.ensures) in
    (level-can _ _ _ _ _ _ _ c.args.e.now (Expr-F.«Expr::Parenthesized» c.in-Parenthesized.opening c.get-inner.result.now c.in-Parenthesized.closing c.in-Parenthesized.cast) (is ∙ sym (X.rolls-Parenthesized c.in-Parenthesized.opening c.get-inner.result.now c.in-Parenthesized.closing c.in-Parenthesized.cast)) c.requires.can).1

pub returns-in-Parenthesized-clause-value : goal.returns-in-Parenthesized-clause-value
returns-in-Parenthesized-clause-value g c =
    let k = g.S.Names.context c.args.names.now in
    let fs = c.args.known.now.functions in
    let gs = c.parenthesized.new.known.functions in
    let is : c.args.e.now ≡ X.Parenthesized c.in-Parenthesized.opening c.get-inner.result.now c.in-Parenthesized.closing c.in-Parenthesized.cast = cc (c.in-Parenthesized.is, c.get-inner.ensures) in
    K.parenthesized-meant k c.args.e.now c.in-Parenthesized.opening c.get-inner.result.now c.in-Parenthesized.closing c.in-Parenthesized.cast fs gs (as_operand k.source c.parenthesized.result) is
    c.parenthesized.ensures.value

pub replication-requires-clause-times : goal.replication-requires-clause-times
replication-requires-clause-times g c =
    let is : c.args.e.now ≡ X.Replication c.in-Replication.opening c.get-times.result.now c.in-Replication.inner_opening c.as_slice-repeated.result.now c.in-Replication.inner_closing c.in-Replication.closing = cc (c.in-Replication.is, c.get-times.ensures, c.as_slice-repeated.ensures) in
    (level-can _ _ _ _ _ _ _ c.args.e.now (Expr-F.«Expr::Replication» c.in-Replication.opening c.get-times.result.now c.in-Replication.inner_opening c.as_slice-repeated.result.now c.in-Replication.inner_closing c.in-Replication.closing) (is ∙ sym (X.rolls-Replication c.in-Replication.opening c.get-times.result.now c.in-Replication.inner_opening c.as_slice-repeated.result.now c.in-Replication.inner_closing c.in-Replication.closing)) c.requires.can).0

pub replication-requires-clause-can : goal.replication-requires-clause-can
replication-requires-clause-can g c =
    let is : c.args.e.now ≡ X.Replication c.in-Replication.opening c.get-times.result.now c.in-Replication.inner_opening c.as_slice-repeated.result.now c.in-Replication.inner_closing c.in-Replication.closing = cc (c.in-Replication.is, c.get-times.ensures, c.as_slice-repeated.ensures) in
    (level-can _ _ _ _ _ _ _ c.args.e.now (Expr-F.«Expr::Replication» c.in-Replication.opening c.get-times.result.now c.in-Replication.inner_opening c.as_slice-repeated.result.now c.in-Replication.inner_closing c.in-Replication.closing) (is ∙ sym (X.rolls-Replication c.in-Replication.opening c.get-times.result.now c.in-Replication.inner_opening c.as_slice-repeated.result.now c.in-Replication.inner_closing c.in-Replication.closing)) c.requires.can).1

pub returns-in-Replication-clause-value : goal.returns-in-Replication-clause-value
returns-in-Replication-clause-value g c =
    let k = g.S.Names.context c.args.names.now in
    let fs = c.args.known.now.functions in
    let gs = c.replication.new.known.functions in
    let is : c.args.e.now ≡ X.Replication c.in-Replication.opening c.get-times.result.now c.in-Replication.inner_opening c.as_slice-repeated.result.now c.in-Replication.inner_closing c.in-Replication.closing = cc (c.in-Replication.is, c.get-times.ensures, c.as_slice-repeated.ensures) in
    M.replication-meant k c.args.e.now c.in-Replication.opening c.get-times.result.now c.in-Replication.inner_opening c.as_slice-repeated.result.now c.in-Replication.inner_closing c.in-Replication.closing fs gs (as_operand k.source c.plain_operand-in-Replication.result) is
    (c.plain_operand-in-Replication.ensures.value k.source (J.replication k c.in-Replication.opening c.get-times.result.now c.as_slice-repeated.result.now) fs gs c.replication.ensures.value)

pub concatenation-requires-clause-can : goal.concatenation-requires-clause-can
concatenation-requires-clause-can g c =
    let is : c.args.e.now ≡ X.Concatenation c.in-Concatenation.opening c.as_slice-parts.result.now c.in-Concatenation.closing = cc (c.in-Concatenation.is, c.as_slice-parts.ensures) in
    (level-can _ _ _ _ _ _ _ c.args.e.now (Expr-F.Concatenation c.in-Concatenation.opening c.as_slice-parts.result.now c.in-Concatenation.closing) (is ∙ sym (X.rolls-Concatenation c.in-Concatenation.opening c.as_slice-parts.result.now c.in-Concatenation.closing)) c.requires.can)

pub returns-in-Concatenation-clause-value : goal.returns-in-Concatenation-clause-value
returns-in-Concatenation-clause-value g c =
    let k = g.S.Names.context c.args.names.now in
    let fs = c.args.known.now.functions in
    let gs = c.concatenation.new.known.functions in
    let is : c.args.e.now ≡ X.Concatenation c.in-Concatenation.opening c.as_slice-parts.result.now c.in-Concatenation.closing = cc (c.in-Concatenation.is, c.as_slice-parts.ensures) in
    M.concatenation-meant k c.args.e.now c.in-Concatenation.opening c.as_slice-parts.result.now c.in-Concatenation.closing fs gs (as_operand k.source c.plain_operand-in-Concatenation.result) is
    (c.plain_operand-in-Concatenation.ensures.value k.source (J.concatenation k c.in-Concatenation.opening c.as_slice-parts.result.now) fs gs c.concatenation.ensures.value)

pub stream-requires-clause-names : goal.stream-requires-clause-names
stream-requires-clause-names g c = c.requires.names.context

pub stream-requires-clause-size : goal.stream-requires-clause-size
stream-requires-clause-size g c =
    let is : c.args.e.now ≡ X.Stream c.in-Stream.opening c.in-Stream.operator c.in-Stream.at c.in-Stream.size c.in-Stream.inner_opening c.as_slice-streamed.result.now c.in-Stream.inner_closing c.in-Stream.closing = cc (c.in-Stream.is, c.as_slice-streamed.ensures) in
    front-can _ _ _ _ _ _ _ (in_slice c.in-Stream.size) c.as_slice-streamed.result.now (level-can _ _ _ _ _ _ _ c.args.e.now (Expr-F.Stream c.in-Stream.opening c.in-Stream.operator c.in-Stream.at c.in-Stream.size c.in-Stream.inner_opening c.as_slice-streamed.result.now c.in-Stream.inner_closing c.in-Stream.closing) (is ∙ sym (X.rolls-Stream c.in-Stream.opening c.in-Stream.operator c.in-Stream.at c.in-Stream.size c.in-Stream.inner_opening c.as_slice-streamed.result.now c.in-Stream.inner_closing c.in-Stream.closing)) c.requires.can)

pub stream-requires-clause-can : goal.stream-requires-clause-can
stream-requires-clause-can g c =
    let is : c.args.e.now ≡ X.Stream c.in-Stream.opening c.in-Stream.operator c.in-Stream.at c.in-Stream.size c.in-Stream.inner_opening c.as_slice-streamed.result.now c.in-Stream.inner_closing c.in-Stream.closing = cc (c.in-Stream.is, c.as_slice-streamed.ensures) in
    behind-can _ _ _ _ _ _ _ (in_slice c.in-Stream.size) c.as_slice-streamed.result.now (level-can _ _ _ _ _ _ _ c.args.e.now (Expr-F.Stream c.in-Stream.opening c.in-Stream.operator c.in-Stream.at c.in-Stream.size c.in-Stream.inner_opening c.as_slice-streamed.result.now c.in-Stream.inner_closing c.in-Stream.closing) (is ∙ sym (X.rolls-Stream c.in-Stream.opening c.in-Stream.operator c.in-Stream.at c.in-Stream.size c.in-Stream.inner_opening c.as_slice-streamed.result.now c.in-Stream.inner_closing c.in-Stream.closing)) c.requires.can)

pub returns-in-Stream-clause-value : goal.returns-in-Stream-clause-value
returns-in-Stream-clause-value g c =
    let k = g.S.Names.context c.args.names.now in
    let fs = c.args.known.now.functions in
    let gs = c.stream.new.known.functions in
    let is : c.args.e.now ≡ X.Stream c.in-Stream.opening c.in-Stream.operator c.in-Stream.at c.in-Stream.size c.in-Stream.inner_opening c.as_slice-streamed.result.now c.in-Stream.inner_closing c.in-Stream.closing = cc (c.in-Stream.is, c.as_slice-streamed.ensures) in
    M.stream-meant k c.args.e.now c.in-Stream.opening c.in-Stream.operator c.in-Stream.at c.in-Stream.size c.in-Stream.inner_opening c.as_slice-streamed.result.now c.in-Stream.inner_closing c.in-Stream.closing fs gs (as_operand k.source c.as_stream.result) is
    (c.as_stream.ensures k.source (J.stream k c.in-Stream.opening c.in-Stream.operator c.in-Stream.size c.as_slice-streamed.result.now) fs gs c.stream.ensures.value)

pub pattern-requires-clause-names : goal.pattern-requires-clause-names
pattern-requires-clause-names g c = c.requires.names.context

pub pattern-requires-clause-can : goal.pattern-requires-clause-can
pattern-requires-clause-can g c =
    let is : c.args.e.now ≡ X.Pattern c.in-Pattern.tick c.in-Pattern.opening c.get-given.result.now c.in-Pattern.closing = cc (c.in-Pattern.is, c.get-given.ensures) in
    (level-can _ _ _ _ _ _ _ c.args.e.now (Expr-F.«Expr::Pattern» c.in-Pattern.tick c.in-Pattern.opening c.get-given.result.now c.in-Pattern.closing) (is ∙ sym (X.rolls-Pattern c.in-Pattern.tick c.in-Pattern.opening c.get-given.result.now c.in-Pattern.closing)) c.requires.can)

pub returns-in-Pattern-clause-value : goal.returns-in-Pattern-clause-value
returns-in-Pattern-clause-value g c =
    let k = g.S.Names.context c.args.names.now in
    let fs = c.args.known.now.functions in
    let gs = c.pattern.new.known.functions in
    let is : c.args.e.now ≡ X.Pattern c.in-Pattern.tick c.in-Pattern.opening c.get-given.result.now c.in-Pattern.closing = cc (c.in-Pattern.is, c.get-given.ensures) in
    M.pattern-meant k c.args.e.now c.in-Pattern.tick c.in-Pattern.opening c.get-given.result.now c.in-Pattern.closing fs gs (as_operand k.source c.pattern.result) is
    c.pattern.ensures.value

pub word-requires-clause-names : goal.word-requires-clause-names
word-requires-clause-names g c = c.requires.names.context

pub word-requires-clause-dimensions : goal.word-requires-clause-dimensions
word-requires-clause-dimensions g c =
    let is : c.args.e.now ≡ X.Type c.in-Type.of c.as_slice-packed.result.now c.in-Type.cast = cc (c.in-Type.is, c.as_slice-packed.ensures) in
    front-can _ _ _ _ _ _ _ (in_dimensions c.as_slice-packed.result.now) (in_casts c.in-Type.cast) (level-can _ _ _ _ _ _ _ c.args.e.now (Expr-F.Type c.in-Type.of c.as_slice-packed.result.now c.in-Type.cast) (is ∙ sym (X.rolls-Type c.in-Type.of c.as_slice-packed.result.now c.in-Type.cast)) c.requires.can)

pub word-requires-clause-can : goal.word-requires-clause-can
word-requires-clause-can g c =
    let is : c.args.e.now ≡ X.Type c.in-Type.of c.as_slice-packed.result.now c.in-Type.cast = cc (c.in-Type.is, c.as_slice-packed.ensures) in
    behind-can _ _ _ _ _ _ _ (in_dimensions c.as_slice-packed.result.now) (in_casts c.in-Type.cast) (level-can _ _ _ _ _ _ _ c.args.e.now (Expr-F.Type c.in-Type.of c.as_slice-packed.result.now c.in-Type.cast) (is ∙ sym (X.rolls-Type c.in-Type.of c.as_slice-packed.result.now c.in-Type.cast)) c.requires.can)

pub returns-in-Type-clause-value : goal.returns-in-Type-clause-value
returns-in-Type-clause-value g c =
    let k = g.S.Names.context c.args.names.now in
    let fs = c.args.known.now.functions in
    let gs = c.word.new.known.functions in
    let is : c.args.e.now ≡ X.Type c.in-Type.of c.as_slice-packed.result.now c.in-Type.cast = cc (c.in-Type.is, c.as_slice-packed.ensures) in
    K.type-meant k c.args.e.now c.in-Type.of c.as_slice-packed.result.now c.in-Type.cast fs gs (as_operand k.source c.word.result) is
    c.word.ensures.value

pub by_sign-requires-clause-names : goal.by_sign-requires-clause-names
by_sign-requires-clause-names g c = c.requires.names.context

pub by_sign-requires-clause-can : goal.by_sign-requires-clause-can
by_sign-requires-clause-can g c =
    let is : c.args.e.now ≡ X.SigningCast c.in-SigningCast.signing c.get-signed.result.now = cc (c.in-SigningCast.is, c.get-signed.ensures) in
    (level-can _ _ _ _ _ _ _ c.args.e.now (Expr-F.SigningCast c.in-SigningCast.signing c.get-signed.result.now) (is ∙ sym (X.rolls-SigningCast c.in-SigningCast.signing c.get-signed.result.now)) c.requires.can)

pub returns-in-SigningCast-clause-value : goal.returns-in-SigningCast-clause-value
returns-in-SigningCast-clause-value g c =
    let k = g.S.Names.context c.args.names.now in
    let fs = c.args.known.now.functions in
    let gs = c.by_sign.new.known.functions in
    let is : c.args.e.now ≡ X.SigningCast c.in-SigningCast.signing c.get-signed.result.now = cc (c.in-SigningCast.is, c.get-signed.ensures) in
    M.signing-cast-meant k c.args.e.now c.in-SigningCast.signing c.get-signed.result.now fs gs (as_operand k.source c.plain_operand-in-SigningCast.result) is
    (c.plain_operand-in-SigningCast.ensures.value k.source (P.by_sign k c.in-SigningCast.signing c.get-signed.result.now) fs gs c.by_sign.ensures.value)

pub system_call-requires-clause-can : goal.system_call-requires-clause-can
system_call-requires-clause-can g c =
    let is : c.args.e.now ≡ X.SystemCall c.in-SystemCall.of c.in-SystemCall.opening c.get-argument.result.now c.in-SystemCall.closing = cc (c.in-SystemCall.is, c.get-argument.ensures) in
    (level-can _ _ _ _ _ _ _ c.args.e.now (Expr-F.SystemCall c.in-SystemCall.of c.in-SystemCall.opening c.get-argument.result.now c.in-SystemCall.closing) (is ∙ sym (X.rolls-SystemCall c.in-SystemCall.of c.in-SystemCall.opening c.get-argument.result.now c.in-SystemCall.closing)) c.requires.can).0

pub system_call-requires-clause-dimensions : goal.system_call-requires-clause-dimensions
system_call-requires-clause-dimensions g c =
    let is : c.args.e.now ≡ X.SystemCall c.in-SystemCall.of c.in-SystemCall.opening c.get-argument.result.now c.in-SystemCall.closing = cc (c.in-SystemCall.is, c.get-argument.ensures) in
    (level-can _ _ _ _ _ _ _ c.args.e.now (Expr-F.SystemCall c.in-SystemCall.of c.in-SystemCall.opening c.get-argument.result.now c.in-SystemCall.closing) (is ∙ sym (X.rolls-SystemCall c.in-SystemCall.of c.in-SystemCall.opening c.get-argument.result.now c.in-SystemCall.closing)) c.requires.can).1

pub returns-in-SystemCall-clause-value : goal.returns-in-SystemCall-clause-value
returns-in-SystemCall-clause-value g c =
    let k = g.S.Names.context c.args.names.now in
    let fs = c.args.known.now.functions in
    let gs = c.system_call.new.known.functions in
    let is : c.args.e.now ≡ X.SystemCall c.in-SystemCall.of c.in-SystemCall.opening c.get-argument.result.now c.in-SystemCall.closing = cc (c.in-SystemCall.is, c.get-argument.ensures) in
    M.system-call-meant k c.args.e.now c.in-SystemCall.of c.in-SystemCall.opening c.get-argument.result.now c.in-SystemCall.closing fs gs (as_operand k.source c.plain_operand-in-SystemCall.result) is
    (c.plain_operand-in-SystemCall.ensures.value k.source (P.system_call k c.in-SystemCall.of c.get-argument.result.now) fs gs c.system_call.ensures.value)

pub called-requires-clause-arguments : goal.called-requires-clause-arguments
called-requires-clause-arguments g c =
    let is : c.args.e.now ≡ X.Call c.in-Call.of c.in-Call.opening c.as_slice-arguments.result.now c.in-Call.closing c.in-Call.cast = cc (c.in-Call.is, c.as_slice-arguments.ensures) in
    front-can _ _ _ _ _ _ _ c.as_slice-arguments.result.now (in_casts c.in-Call.cast) (level-can _ _ _ _ _ _ _ c.args.e.now (Expr-F.Call c.in-Call.of c.in-Call.opening c.as_slice-arguments.result.now c.in-Call.closing c.in-Call.cast) (is ∙ sym (X.rolls-Call c.in-Call.of c.in-Call.opening c.as_slice-arguments.result.now c.in-Call.closing c.in-Call.cast)) c.requires.can)

pub called-requires-clause-can : goal.called-requires-clause-can
called-requires-clause-can g c =
    let is : c.args.e.now ≡ X.Call c.in-Call.of c.in-Call.opening c.as_slice-arguments.result.now c.in-Call.closing c.in-Call.cast = cc (c.in-Call.is, c.as_slice-arguments.ensures) in
    behind-can _ _ _ _ _ _ _ c.as_slice-arguments.result.now (in_casts c.in-Call.cast) (level-can _ _ _ _ _ _ _ c.args.e.now (Expr-F.Call c.in-Call.of c.in-Call.opening c.as_slice-arguments.result.now c.in-Call.closing c.in-Call.cast) (is ∙ sym (X.rolls-Call c.in-Call.of c.in-Call.opening c.as_slice-arguments.result.now c.in-Call.closing c.in-Call.cast)) c.requires.can)

pub called-requires-clause-written : goal.called-requires-clause-written
called-requires-clause-written g c =
    let is : c.args.e.now ≡ X.Call c.in-Call.of c.in-Call.opening c.as_slice-arguments.result.now c.in-Call.closing c.in-Call.cast = cc (c.in-Call.is, c.as_slice-arguments.ensures) in
    arguments-written c.args.e.now c.in-Call.of c.in-Call.opening c.as_slice-arguments.result.now c.in-Call.closing c.in-Call.cast is c.requires.written

pub returns-in-Call-clause-value : goal.returns-in-Call-clause-value
returns-in-Call-clause-value g c =
    let k = g.S.Names.context c.args.names.now in
    let fs = c.args.known.now.functions in
    let gs = c.called.new.known.functions in
    let is : c.args.e.now ≡ X.Call c.in-Call.of c.in-Call.opening c.as_slice-arguments.result.now c.in-Call.closing c.in-Call.cast = cc (c.in-Call.is, c.as_slice-arguments.ensures) in
    K.call-meant k c.args.e.now c.in-Call.of c.in-Call.opening c.as_slice-arguments.result.now c.in-Call.closing c.in-Call.cast fs gs (as_operand k.source c.called.result) is
    c.called.ensures.value

pub name-requires-clause-selects : goal.name-requires-clause-selects
name-requires-clause-selects g c =
    let is : c.args.e.now ≡ X.Name c.in-Name.of c.as_slice-selects.result.now c.in-Name.cast = cc (c.in-Name.is, c.as_slice-selects.ensures) in
    front-can _ _ _ _ _ _ _ (in_selects c.as_slice-selects.result.now) (in_casts c.in-Name.cast) (level-can _ _ _ _ _ _ _ c.args.e.now (Expr-F.«Expr::Name» c.in-Name.of c.as_slice-selects.result.now c.in-Name.cast) (is ∙ sym (X.rolls-Name c.in-Name.of c.as_slice-selects.result.now c.in-Name.cast)) c.requires.can)

pub name-requires-clause-can : goal.name-requires-clause-can
name-requires-clause-can g c =
    let is : c.args.e.now ≡ X.Name c.in-Name.of c.as_slice-selects.result.now c.in-Name.cast = cc (c.in-Name.is, c.as_slice-selects.ensures) in
    behind-can _ _ _ _ _ _ _ (in_selects c.as_slice-selects.result.now) (in_casts c.in-Name.cast) (level-can _ _ _ _ _ _ _ c.args.e.now (Expr-F.«Expr::Name» c.in-Name.of c.as_slice-selects.result.now c.in-Name.cast) (is ∙ sym (X.rolls-Name c.in-Name.of c.as_slice-selects.result.now c.in-Name.cast)) c.requires.can)

pub name-requires-clause-written : goal.name-requires-clause-written
name-requires-clause-written g c =
    let is : c.args.e.now ≡ X.Name c.in-Name.of c.as_slice-selects.result.now c.in-Name.cast = cc (c.in-Name.is, c.as_slice-selects.ensures) in
    selects-written c.args.e.now c.in-Name.of c.as_slice-selects.result.now c.in-Name.cast is c.requires.written

pub returns-in-Name-clause-value : goal.returns-in-Name-clause-value
returns-in-Name-clause-value g c =
    let k = g.S.Names.context c.args.names.now in
    let fs = c.args.known.now.functions in
    let gs = c.name.new.known.functions in
    let is : c.args.e.now ≡ X.Name c.in-Name.of c.as_slice-selects.result.now c.in-Name.cast = cc (c.in-Name.is, c.as_slice-selects.ensures) in
    K.name-meant k c.args.e.now c.in-Name.of c.as_slice-selects.result.now c.in-Name.cast fs gs (as_operand k.source c.name.result) is
    c.name.ensures.value

pub returns-in-Decimal-clause-value : goal.returns-in-Decimal-clause-value
returns-in-Decimal-clause-value g c =
    let k = g.S.Names.context c.args.names.now in
    let fs = c.args.known.now.functions in
    M.decimal-meant k c.args.e.now c.in-Decimal.digits fs fs (as_operand k.source c.plain_operand-in-Decimal.result) c.in-Decimal.is
    (c.plain_operand-in-Decimal.ensures.value k.source (rule (N.decimal k.source c.in-Decimal.digits)) fs fs
    (rule-types c.decimal.result (N.decimal k.source c.in-Decimal.digits) fs (subst (λ (s : Source). Gives c.decimal.result (N.decimal s c.in-Decimal.digits)) c.text.ensures c.decimal.ensures.value)))

pub returns-in-Sized-clause-value : goal.returns-in-Sized-clause-value
returns-in-Sized-clause-value g c =
    let k = g.S.Names.context c.args.names.now in
    let fs = c.args.known.now.functions in
    M.sized-meant k c.args.e.now c.in-Sized.size c.in-Sized.digits fs fs (as_operand k.source c.plain_operand-in-Sized.result) c.in-Sized.is
    (c.plain_operand-in-Sized.ensures.value k.source (rule (N.sized_number k.source c.in-Sized.size c.in-Sized.digits)) fs fs
    (rule-types c.sized_number.result (N.sized_number k.source c.in-Sized.size c.in-Sized.digits) fs (subst (λ (s : Source). Gives c.sized_number.result (N.sized_number s c.in-Sized.size c.in-Sized.digits)) c.text-in-Sized.ensures c.sized_number.ensures.value)))

pub returns-in-Based-clause-value : goal.returns-in-Based-clause-value
returns-in-Based-clause-value g c =
    let k = g.S.Names.context c.args.names.now in
    let fs = c.args.known.now.functions in
    M.based-meant k c.args.e.now c.in-Based.digits fs fs (as_operand k.source c.plain_operand-in-Based.result) c.in-Based.is
    (c.plain_operand-in-Based.ensures.value k.source (rule (N.based k.source c.in-Based.digits)) fs fs
    (rule-types c.based_number.result (N.based k.source c.in-Based.digits) fs (subst (λ (s : Source). Gives c.based_number.result (N.based s c.in-Based.digits)) c.text-in-Based.ensures c.based_number.ensures.value)))

pub returns-in-Fill-clause-value : goal.returns-in-Fill-clause-value
returns-in-Fill-clause-value g c =
    let k = g.S.Names.context c.args.names.now in
    let fs = c.args.known.now.functions in
    M.fill-meant k c.args.e.now c.in-Fill.digit fs fs (as_operand k.source c.plain_operand-in-Fill.result) c.in-Fill.is
    (c.plain_operand-in-Fill.ensures.value k.source (rule (N.fill k.source c.in-Fill.digit)) fs fs
    (rule-types c.fill.result (N.fill k.source c.in-Fill.digit) fs (subst (λ (s : Source). Gives c.fill.result (N.fill s c.in-Fill.digit)) c.text-in-Fill.ensures c.fill.ensures.value)))

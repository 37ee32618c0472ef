use Rattle.std.proofs.Common.{List, Err, nat_lt, ap, sym, ◌∙◌, subst}
use Rattle.std.specs.Prelude.{Result}
use Rattle.std.proofs.lemmas.Result.{err_from_is_err_and}
use Rattle.sv_types.specs.declared.statement.Formal.{Formal}
use Rattle.expr_type.specs.declared.halt.Halt.{Halt}
use Rattle.routine_fits.specs.Sound.{AllFormalsNarrow}
use Rattle.typing_scopes.specs.Scopes.{context_of}
use Rattle.typing_declarations.specs.FormalRows.{HeadsTo, bits_out}
use Rattle.typing_declarations.proofs.Heading.{head-long, head-short, head-stopped, narrow-all}
use Rattle.typing_declarations.proofs.heads.head_formals.Goals as goal

pub is_too_long-requires : goal.is_too_long-requires
is_too_long-requires g c =
    let of = g.B.Names.context in
    subst AllFormalsNarrow (sym c.as_slice.ensures)
    (narrow-all (context_of of c.args.inner.now) (context_of of c.formals.new.inner) c.args.list.now c.args.known.now.functions c.formals.new.known.functions c.in_ok-made.made c.requires.names c.requires.written c.requires.ready.sound c.in_ok-made.ensures.value)

pub returns-in_err-made-clause-value : goal.returns-in_err-made-clause-value
returns-in_err-made-clause-value g c =
    let of = g.B.Names.context in
    let k = context_of of c.args.inner.now in
    let j = context_of of c.formals.new.inner in
    let xs = c.args.list.now in
    let fs = c.args.known.now.functions in
    let gs = c.formals.new.known.functions in
    let e = err_from_is_err_and c.from_residual.result c.from_residual.ensures.1 in
    subst (λ (r : Result (List Formal) Halt). HeadsTo r c.args.name j k xs fs gs) (sym (e.1 ∙ ap Err e.2)) (head-stopped k j xs fs gs c.in_err-made.field-0.0 c.args.name c.in_err-made.ensures.value)

pub returns-then-is_too_long-clause-value : goal.returns-then-is_too_long-clause-value
returns-then-is_too_long-clause-value g c =
    let of = g.B.Names.context in
    head-long (context_of of c.args.inner.now) c.args.list.now c.args.known.now.functions c.formals.new.known.functions c.in_ok-made.made (context_of of c.formals.new.inner) c.args.name c.in_ok-made.ensures.value
    (ap (λ (xs : List Formal). nat_lt 65536 (bits_out xs)) (sym c.as_slice.ensures) ∙ sym c.is_too_long.ensures ∙ c.if-is_too_long.true)

pub returns-clause-value : goal.returns-clause-value
returns-clause-value g c =
    let of = g.B.Names.context in
    head-short (context_of of c.args.inner.now) (context_of of c.formals.new.inner) c.args.list.now c.args.known.now.functions c.formals.new.known.functions c.in_ok-made.made c.in_ok-made.ensures.value
    (ap (λ (xs : List Formal). nat_lt 65536 (bits_out xs)) (sym c.as_slice.ensures) ∙ sym c.is_too_long.ensures ∙ c.if-is_too_long.false)

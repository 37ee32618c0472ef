use Rattle.typing_parts.proofs.Keeping.{extends-then}
use Rattle.typing_scopes.specs.Scopes.{context_of}
use Rattle.typing_scopes.proofs.Behind.{needs-alike}
use Rattle.typing_declarations.specs.Giving.{plain_result}
use Rattle.typing_declarations.proofs.Heading.{head-around, head-needs}
use Rattle.typing_stmts.proofs.Bodied.{names-in, parts-by, routine-in}
use Rattle.typing_stmts.proofs.bodies.with_result.Goals as goal

pub head_formals-made-requires-clause-needs : goal.head_formals-made-requires-clause-needs
head_formals-made-requires-clause-needs g c =
    let k = context_of g.B.Names.context c.args.outer.now in
    let i = context_of g.B.Names.context c.in_ok-inner.inner in
    needs-alike _ _ _ _ i k (routine-in k i c.args.name (plain_result c.args.plain c.args.of.now c.args.names) c.in_ok-inner.ensures) c.requires.needs

pub head_formals-made-requires-clause-names : goal.head_formals-made-requires-clause-names
head_formals-made-requires-clause-names g c =
    let k = context_of g.B.Names.context c.args.outer.now in
    let i = context_of g.B.Names.context c.in_ok-inner.inner in
    names-in k i c.args.name (plain_result c.args.plain c.args.of.now c.args.names) c.args.known.now.functions c.in_ok-inner.ensures c.requires.names c.requires.result

pub body_behind-requires-clause-behind : goal.body_behind-requires-clause-behind
body_behind-requires-clause-behind g c =
    let of = g.B.Names.context in
    let k = context_of of c.args.outer.now in
    let i = context_of of c.in_ok-inner.inner in
    head-needs _ _ _ _ c.args.name i (context_of of c.head_formals-made.new.inner) c.args.list.now c.args.known.now.functions c.head_formals-made.new.known.functions c.head_formals-made.result
    c.head_formals-made.ensures.value (needs-alike _ _ _ _ i k (routine-in k i c.args.name (plain_result c.args.plain c.args.of.now c.args.names) c.in_ok-inner.ensures) c.requires.needs)

pub body_behind-requires-clause-inside : goal.body_behind-requires-clause-inside
body_behind-requires-clause-inside g c =
    let of = g.B.Names.context in
    let k = context_of of c.args.outer.now in
    let i = context_of of c.in_ok-inner.inner in
    let fs = c.args.known.now.functions in
    let names = names-in k i c.args.name (plain_result c.args.plain c.args.of.now c.args.names) fs c.in_ok-inner.ensures c.requires.names c.requires.result in
    head-around c.args.name i (context_of of c.head_formals-made.new.inner) c.args.list.now fs c.head_formals-made.new.known.functions c.head_formals-made.result c.head_formals-made.ensures.value names c.requires.written
    c.requires.ready.sound

pub returns-clause-value : goal.returns-clause-value
returns-clause-value g c x fs is =
    let of = g.B.Names.context in
    parts-by (context_of of c.args.outer.now) c.args.name x c.args.list.now c.args.items.now (context_of of c.head_formals-made.new.inner) (context_of of c.in_ok-inner.inner) c.head_formals-made.result c.body_behind.result
    (plain_result c.args.plain c.args.of.now c.args.names) fs c.args.known.now.functions c.head_formals-made.new.known.functions c.body_behind.new.known.functions c.in_ok-inner.ensures is c.head_formals-made.ensures.value
    c.body_behind.ensures.value

pub returns-clause-keeps : goal.returns-clause-keeps
returns-clause-keeps g c =
    extends-then c.args.known.now.functions c.head_formals-made.new.known.functions c.body_behind.new.known.functions c.head_formals-made.ensures.keeps c.body_behind.ensures.keeps

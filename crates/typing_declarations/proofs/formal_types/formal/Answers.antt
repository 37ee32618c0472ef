use Rattle.std.proofs.Common.{◌≡◌}
use Rattle.sv_tree.specs.declared.ports.PortText.TheVariants as P
use Rattle.expr_type.specs.Functions.{type_before}
use Rattle.expr_type.specs.Types.{typed_text}
use Rattle.typing_parts.proofs.Keeping.{extends-then}
use Rattle.typing_scopes.specs.Ahead.{mapped}
use Rattle.typing_scopes.specs.Scopes.{context_of}
use Rattle.typing_declarations.specs.Formals.{before_of, formal_of}
use Rattle.typing_declarations.proofs.Arms.{bare-arm, bare-dims, typed-arm, typed-dims, typed-type}
use Rattle.typing_declarations.proofs.formal_types.formal.Goals as goal

pub typed_text-found-requires-clause-written : goal.typed_text-found-requires-clause-written
typed_text-found-requires-clause-written g c =
    let ds = c.as_slice-ds.result.now in
    let is : c.args.one.now.text ≡ P.Typed c.in-Typed.of c.in-Typed.name ds = cc (c.in-Typed.is, c.as_slice-ds.ensures) in
    typed-type c.args.one.now.text c.in-Typed.of c.in-Typed.name ds is c.requires.written

pub typed_formal-requires-clause-written : goal.typed_formal-requires-clause-written
typed_formal-requires-clause-written g c =
    let ds = c.as_slice-ds.result.now in
    let is : c.args.one.now.text ≡ P.Typed c.in-Typed.of c.in-Typed.name ds = cc (c.in-Typed.is, c.as_slice-ds.ensures) in
    typed-dims c.args.one.now.text c.in-Typed.of c.in-Typed.name ds is c.requires.written

pub returns-in-Typed-clause-value : goal.returns-in-Typed-clause-value
returns-in-Typed-clause-value g c =
    let k = context_of g.B.Names.context c.args.names.now in
    let one = c.args.one.now in
    let fs = c.args.known.now.functions in
    let gs = c.typed_formal.new.known.functions in
    let ds = c.as_slice-ds.result.now in
    let of = c.in-Typed.of in
    let is : c.args.one.now.text ≡ P.Typed c.in-Typed.of c.in-Typed.name ds = cc (c.in-Typed.is, c.as_slice-ds.ensures) in
    typed-arm k (before_of c.args.before) one.direction c.way_by-way.result one.text c.in-Typed.name ds (mapped (formal_of k) c.typed_formal.result) fs gs of is c.way_by-way.ensures
    (c.typed_formal.ensures.value (typed_text of k) fs c.typed_text-found.ensures.value)

pub returns-in-Typed-clause-keeps : goal.returns-in-Typed-clause-keeps
returns-in-Typed-clause-keeps g c = extends-then c.args.known.now.functions c.typed_text-found.new.known.functions c.typed_formal.new.known.functions c.typed_text-found.ensures.keeps c.typed_formal.ensures.keeps

pub typed_formal-requires-in-Bare-clause-written : goal.typed_formal-requires-in-Bare-clause-written
typed_formal-requires-in-Bare-clause-written g c =
    let ds = c.as_slice-ds-in-Bare.result.now in
    let is : c.args.one.now.text ≡ P.Bare c.in-Bare.name ds = cc (c.in-Bare.is, c.as_slice-ds-in-Bare.ensures) in
    bare-dims c.args.one.now.text c.in-Bare.name ds is c.requires.written

pub returns-in-Bare-clause-value : goal.returns-in-Bare-clause-value
returns-in-Bare-clause-value g c =
    let k = context_of g.B.Names.context c.args.names.now in
    let one = c.args.one.now in
    let b = before_of c.args.before in
    let fs = c.args.known.now.functions in
    let gs = c.typed_formal-in-Bare.new.known.functions in
    let ds = c.as_slice-ds-in-Bare.result.now in
    let is : c.args.one.now.text ≡ P.Bare c.in-Bare.name ds = cc (c.in-Bare.is, c.as_slice-ds-in-Bare.ensures) in
    bare-arm k b one.direction c.way_by-way.result one.text c.in-Bare.name ds (mapped (formal_of k) c.typed_formal-in-Bare.result) fs gs is c.way_by-way.ensures
    (c.typed_formal-in-Bare.ensures.value (type_before b one.direction) fs (c.type_before-found.ensures.value fs))

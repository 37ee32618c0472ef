use Rattle.std.proofs.Common.{◌≡◌, ◌+◌, Bool, true, List, map, drop, sym, ap, ◌∙◌, subst, rules}
use Rattle.std.specs.Prelude.{Result, Ok, Err, is_some}
use Rattle.std.proofs.lemmas.Result.{err_from_is_err_and}
use Rattle.sv_tree.specs.declared.types.DimensionedName.{DimensionedName}
use Rattle.sv_tree.specs.declared.types.Member.{out-Member, the_lemmas}
use Rattle.sv_tree.specs.declared.types.TypeText.TheVariants as X
use Rattle.sv_types.specs.declared.frame.ParamValue.{ParamValue}
use Rattle.expr_type.specs.declared.halt.Halt.{Halt}
use Rattle.expr_type.specs.Names.{Context, Source}
use Rattle.expr_type.specs.Types.{Fields, FieldsMeaning, TypeFound, all_fields, typed_text}
use Rattle.routine_fits.specs.Sound.{AllSoundFunctions}
use Rattle.typing_fits.specs.Operands.{AllValuesSound}
use Rattle.typing_walks.specs.Keeps.{Surrounded}
use Rattle.typing_walks.specs.WrittenTypes.{type_written}
use Rattle.typing_parts.proofs.Keeping.{extends-same, extends-then}
use Rattle.typing_scopes.specs.Scopes.{context_of, own_values}
use Rattle.typing_scopes.proofs.Behind.{needs-alike}
use Rattle.typing_steps.specs.Steps.{TypesTo}
use Rattle.typing_declarations.specs.Naming.{enum_of}
use Rattle.typing_declarations.specs.Texts.{FieldsAhead, fields_written, member_by, member_meaning, member_written, members_written, struct_by}
use Rattle.typing_declarations.proofs.FieldJoining.{fields-end, fields-quiet, fields-start, from-place}
use Rattle.typing_declarations.proofs.Levels.{enumeration-base, enumeration-dims, enumeration-meant, enumeration-names, implicit-meant, implicit-written, keyword-meant, keyword-written, member-meant, member-names, member-type, named-meant, named-written, structure-dims, structure-meant, structure-written}
use Rattle.typing_declarations.proofs.FieldRows.{each-written}
use Rattle.typing_declarations.proofs.walk.+types.Goals as goal

-- members of one type
pub member-typed_text-found-requires : goal.member-typed_text-found-requires
member-typed_text-found-requires g t c =
    let w : type_written (out-Member c.args.m.now).of ≡ true = member-type c.args.m.now c.requires.written in
    search (rules, the_lemmas)

pub member-member_of-requires-clause-written : goal.member-member_of-requires-clause-written
member-member_of-requires-clause-written g t c =
    subst (λ (ns : List DimensionedName). fields_written ns ≡ true) (sym c.as_slice-list.ensures) (member-names c.args.m.now c.requires.written)

pub member-returns-clause-value : goal.member-returns-clause-value
member-returns-clause-value g t c =
    let k = context_of g.B.Names.context c.args.names.now in
    let x = typed_text (out-Member c.args.m.now).of k in
    let fs = c.args.known.now.functions in
    let gs = c.member_of.new.known.functions in
    let b = c.args.inside_packed in
    member-meant k b c.args.m.now c.member_of.result fs gs
    (subst (λ (ns : List DimensionedName). TypesTo c.member_of.result (member_by k b x ns fs) gs) c.as_slice-list.ensures (c.member_of.ensures.value x fs c.typed_text-found.ensures.value))

pub member-returns-clause-keeps : goal.member-returns-clause-keeps
member-returns-clause-keeps g t c = extends-then c.args.known.now.functions c.typed_text-found.new.known.functions c.member_of.new.known.functions c.typed_text-found.ensures.keeps c.member_of.ensures.keeps

-- members in a row
pub members-loop-m-init : goal.members-loop-m-init
members-loop-m-init g t c =
    let j = context_of g.B.Names.context c.inside-inner.result in
    let k = context_of g.B.Names.context c.args.names.now in
    record {
      ahead = fields-start j k c.args.inside_packed c.none_made-made.result (own_values c.inside-inner.result) (map member_meaning c.args.list.now) c.args.known.now.functions c.inside-inner.ensures.context c.none_made-made.ensures c.inside-inner.ensures.own;
      around = subst (λ (x : Context). Surrounded AllSoundFunctions x) (sym c.inside-inner.ensures.context) c.requires.names;
      routine = ap (λ (x : Context). x.routine) c.inside-inner.ensures.context;
      own = subst (λ (vs : List ParamValue). AllValuesSound vs) (sym c.inside-inner.ensures.own) tt;
      ready = c.requires.ready;
      keeps = extends-same c.args.known.now.functions;
    }

pub members-member-found-requires : goal.members-member-found-requires
members-member-found-requires g t c =
    let j = context_of g.B.Names.context c.loop-m.inner in
    let k = context_of g.B.Names.context c.args.names.now in
    let w : member_written c.m-item.result ≡ true = each-written member_written c.args.list.now c.loop-m.m-index c.m-item.result c.m-item.result c.loop-m-test.true c.m-item.is c.requires.written in
    let n = needs-alike _ _ _ _ j k c.loop-m.invariant.routine c.requires.needs in
    search (rules, the_lemmas)

pub members-returns-in_err-put_members-clause-value : goal.members-returns-in_err-put_members-clause-value
members-returns-in_err-put_members-clause-value g t c =
    let of = g.B.Names.context in
    let b = c.args.inside_packed in
    let i = c.loop-m.m-index in
    let m = c.m-item.result in
    let ms = map member_meaning (drop (i + 1) c.args.list.now) in
    let hs = c.loop-m.known.functions in
    let gs = c.member-found.new.known.functions in
    let row = all_fields (context_of of c.args.names.now) b (map member_meaning c.args.list.now) c.args.known.now.functions in
    let so = subst (λ (xs : List FieldsMeaning). FieldsAhead (context_of of c.loop-m.inner) b c.loop-m.made (own_values c.loop-m.inner) xs row hs)
    (from-place member_meaning c.args.list.now i m m c.loop-m-test.true c.m-item.is) c.loop-m.invariant.ahead in
    let e = err_from_is_err_and c.from_residual.result c.from_residual.ensures.1 in
    subst (λ (r : Result Fields Halt). TypesTo r row gs) (sym (e.1 ∙ ap (λ (h : Halt). Err h) e.2))
    (c.in_err-put_members.ensures.value b (member_meaning m) ms row hs gs c.member-found.ensures.value so)

pub members-returns-in_err-put_members-clause-keeps : goal.members-returns-in_err-put_members-clause-keeps
members-returns-in_err-put_members-clause-keeps g t c = extends-then c.args.known.now.functions c.loop-m.known.functions c.member-found.new.known.functions c.loop-m.invariant.keeps c.member-found.ensures.keeps

pub members-loop-m-preserved : goal.members-loop-m-preserved
members-loop-m-preserved g t c =
    let of = g.B.Names.context in
    let b = c.args.inside_packed in
    let i = c.loop-m.m-index in
    let m = c.m-item.result in
    let ms = map member_meaning (drop (i + 1) c.args.list.now) in
    let hs = c.loop-m.known.functions in
    let gs = c.member-found.new.known.functions in
    let row = all_fields (context_of of c.args.names.now) b (map member_meaning c.args.list.now) c.args.known.now.functions in
    let so = subst (λ (xs : List FieldsMeaning). FieldsAhead (context_of of c.loop-m.inner) b c.loop-m.made (own_values c.loop-m.inner) xs row hs)
    (from-place member_meaning c.args.list.now i m m c.loop-m-test.true c.m-item.is) c.loop-m.invariant.ahead in
    record {
      ahead = c.in_ok-put_members.ensures.value b (member_meaning m) ms row hs gs c.member-found.ensures.value so;
      around = c.in_ok-put_members.ensures.names;
      routine = c.in_ok-put_members.ensures.routine ∙ c.loop-m.invariant.routine;
      own = c.in_ok-put_members.ensures.own;
      ready = c.member-found.ensures.ready;
      keeps = extends-then c.args.known.now.functions c.loop-m.known.functions c.member-found.new.known.functions c.loop-m.invariant.keeps c.member-found.ensures.keeps;
    }

pub members-returns-then-made-clause-value : goal.members-returns-then-made-clause-value
members-returns-then-made-clause-value g t c =
    let of = g.B.Names.context in
    let k = context_of of c.args.names.now in
    let row = all_fields k c.args.inside_packed (map member_meaning c.args.list.now) c.args.known.now.functions in
    fields-quiet member_meaning (context_of of c.loop-m.inner) c.args.inside_packed c.loop-m.made (own_values c.loop-m.inner) c.args.list.now c.loop-m.m-index row c.loop-m.known.functions
    c.loop-m-test.false c.loop-m.invariant.ahead c.if-made.true

pub members-returns-clause-value : goal.members-returns-clause-value
members-returns-clause-value g t c =
    let of = g.B.Names.context in
    let k = context_of of c.args.names.now in
    let row = all_fields k c.args.inside_packed (map member_meaning c.args.list.now) c.args.known.now.functions in
    let made = fields-end member_meaning (context_of of c.loop-m.inner) c.args.inside_packed c.loop-m.made (own_values c.loop-m.inner) c.args.list.now c.loop-m.m-index row c.loop-m.known.functions
    c.loop-m-test.false c.loop-m.invariant.ahead c.if-made.false in
    subst (λ (vs : List ParamValue). TypesTo (Ok (record { fields = c.loop-m.made.fields; names = vs })) row c.loop-m.known.functions) (sym c.into_values.ensures) made

pub members-returns-clause-sound : goal.members-returns-clause-sound
members-returns-clause-sound g t c = subst (λ (vs : List ParamValue). AllValuesSound vs) (sym c.into_values.ensures) c.loop-m.invariant.own

-- types in their forms
pub typed_text-keyword-found-requires-clause-written : goal.typed_text-keyword-found-requires-clause-written
typed_text-keyword-found-requires-clause-written g t c =
    let ds = c.as_slice-packed.result.now in
    let is : c.args.t.now ≡ X.Keyword c.in-Keyword.of ds = cc (c.in-Keyword.is, c.as_slice-packed.ensures) in
    keyword-written c.args.t.now c.requires.written c.in-Keyword.of ds is

pub typed_text-returns-in-Keyword-clause-value : goal.typed_text-returns-in-Keyword-clause-value
typed_text-returns-in-Keyword-clause-value g t c =
    let k = context_of g.B.Names.context c.args.names.now in
    let fs = c.args.known.now.functions in
    let gs = c.keyword-found.new.known.functions in
    let ds = c.as_slice-packed.result.now in
    let is : c.args.t.now ≡ X.Keyword c.in-Keyword.of ds = cc (c.in-Keyword.is, c.as_slice-packed.ensures) in
    subst (λ (r : Result TypeFound Halt). TypesTo r (typed_text c.args.t.now k fs) gs) (sym c.alone.ensures.value) (keyword-meant k c.args.t.now fs gs c.in-Keyword.of ds c.keyword-found.result is c.keyword-found.ensures.value)

pub typed_text-members-fields-requires : goal.typed_text-members-fields-requires
typed_text-members-fields-requires g t c =
    let ms = c.as_slice-list.result.now in
    let ds = c.as_slice-packed-in-Structure.result.now in
    let s = c.in-Structure in
    let is : c.args.t.now ≡ X.Structure s.aggregate s.packing s.opening ms s.closing ds = cc (s.is, c.as_slice-list.ensures, c.as_slice-packed-in-Structure.ensures) in
    let w : members_written ms ≡ true = structure-written c.args.t.now c.requires.written s.aggregate s.packing s.opening ms s.closing ds is in
    search (rules, the_lemmas)

pub typed_text-with_packed-requires-clause-written : goal.typed_text-with_packed-requires-clause-written
typed_text-with_packed-requires-clause-written g t c =
    let ms = c.as_slice-list.result.now in
    let ds = c.as_slice-packed-in-Structure.result.now in
    let s = c.in-Structure in
    let is : c.args.t.now ≡ X.Structure s.aggregate s.packing s.opening ms s.closing ds = cc (s.is, c.as_slice-list.ensures, c.as_slice-packed-in-Structure.ensures) in
    structure-dims c.args.t.now c.requires.written s.aggregate s.packing s.opening ms s.closing ds is

pub typed_text-returns-in-Structure-clause-value : goal.typed_text-returns-in-Structure-clause-value
typed_text-returns-in-Structure-clause-value g t c =
    let k = context_of g.B.Names.context c.args.names.now in
    let fs = c.args.known.now.functions in
    let hs = c.members-fields.new.known.functions in
    let gs = c.with_packed.new.known.functions in
    let ms = c.as_slice-list.result.now in
    let ds = c.as_slice-packed-in-Structure.result.now in
    let s = c.in-Structure in
    let b = is_some s.packing in
    let is : c.args.t.now ≡ X.Structure s.aggregate s.packing s.opening ms s.closing ds = cc (s.is, c.as_slice-list.ensures, c.as_slice-packed-in-Structure.ensures) in
    let x = all_fields k b (map member_meaning ms) in
    let fields = subst (λ (q : Bool). TypesTo c.members-fields.result (all_fields k q (map member_meaning ms) fs) hs) c.is_some-inside.ensures c.members-fields.ensures.value in
    let found = subst (λ (z : Source). TypesTo c.structure-found.result (struct_by z s.aggregate s.packing x fs) hs) c.text.ensures (c.structure-found.ensures.value x fs hs fields) in
    structure-meant k c.args.t.now fs gs s.aggregate s.packing s.opening ms s.closing ds c.with_packed.result is (c.with_packed.ensures.value (struct_by k.source s.aggregate s.packing x) fs found)

pub typed_text-returns-in-Structure-clause-keeps : goal.typed_text-returns-in-Structure-clause-keeps
typed_text-returns-in-Structure-clause-keeps g t c = extends-then c.args.known.now.functions c.members-fields.new.known.functions c.with_packed.new.known.functions c.members-fields.ensures.keeps c.with_packed.ensures.keeps

pub typed_text-enumeration-found-requires-clause-base : goal.typed_text-enumeration-found-requires-clause-base
typed_text-enumeration-found-requires-clause-base g t c =
    let ns = c.as_slice-list-in-Enumeration.result.now in
    let ds = c.as_slice-packed-in-Enumeration.result.now in
    let e = c.in-Enumeration in
    let is : c.args.t.now ≡ X.Enumeration e.word e.base e.opening ns e.closing ds = cc (e.is, c.as_slice-list-in-Enumeration.ensures, c.as_slice-packed-in-Enumeration.ensures) in
    enumeration-base c.args.t.now c.requires.written e.word e.base e.opening ns e.closing ds is

pub typed_text-enumeration-found-requires-clause-list : goal.typed_text-enumeration-found-requires-clause-list
typed_text-enumeration-found-requires-clause-list g t c =
    let ns = c.as_slice-list-in-Enumeration.result.now in
    let ds = c.as_slice-packed-in-Enumeration.result.now in
    let e = c.in-Enumeration in
    let is : c.args.t.now ≡ X.Enumeration e.word e.base e.opening ns e.closing ds = cc (e.is, c.as_slice-list-in-Enumeration.ensures, c.as_slice-packed-in-Enumeration.ensures) in
    enumeration-names c.args.t.now c.requires.written e.word e.base e.opening ns e.closing ds is

pub typed_text-with_packed-requires-in-Enumeration-clause-written : goal.typed_text-with_packed-requires-in-Enumeration-clause-written
typed_text-with_packed-requires-in-Enumeration-clause-written g t c =
    let ns = c.as_slice-list-in-Enumeration.result.now in
    let ds = c.as_slice-packed-in-Enumeration.result.now in
    let e = c.in-Enumeration in
    let is : c.args.t.now ≡ X.Enumeration e.word e.base e.opening ns e.closing ds = cc (e.is, c.as_slice-list-in-Enumeration.ensures, c.as_slice-packed-in-Enumeration.ensures) in
    enumeration-dims c.args.t.now c.requires.written e.word e.base e.opening ns e.closing ds is

pub typed_text-returns-in-Enumeration-clause-value : goal.typed_text-returns-in-Enumeration-clause-value
typed_text-returns-in-Enumeration-clause-value g t c =
    let k = context_of g.B.Names.context c.args.names.now in
    let fs = c.args.known.now.functions in
    let gs = c.with_packed-in-Enumeration.new.known.functions in
    let ns = c.as_slice-list-in-Enumeration.result.now in
    let ds = c.as_slice-packed-in-Enumeration.result.now in
    let e = c.in-Enumeration in
    let is : c.args.t.now ≡ X.Enumeration e.word e.base e.opening ns e.closing ds = cc (e.is, c.as_slice-list-in-Enumeration.ensures, c.as_slice-packed-in-Enumeration.ensures) in
    enumeration-meant k c.args.t.now fs gs e.word e.base e.opening ns e.closing ds c.with_packed-in-Enumeration.result is
    (c.with_packed-in-Enumeration.ensures.value (enum_of k e.word e.base ns) fs c.enumeration-found.ensures.value)

pub typed_text-returns-in-Enumeration-clause-keeps : goal.typed_text-returns-in-Enumeration-clause-keeps
typed_text-returns-in-Enumeration-clause-keeps g t c = extends-then c.args.known.now.functions c.enumeration-found.new.known.functions c.with_packed-in-Enumeration.new.known.functions c.enumeration-found.ensures.keeps c.with_packed-in-Enumeration.ensures.keeps

pub typed_text-named_with-found-requires-clause-written : goal.typed_text-named_with-found-requires-clause-written
typed_text-named_with-found-requires-clause-written g t c =
    let ds = c.as_slice-packed-in-Named.result.now in
    let is : c.args.t.now ≡ X.Named c.in-Named.of ds = cc (c.in-Named.is, c.as_slice-packed-in-Named.ensures) in
    named-written c.args.t.now c.requires.written c.in-Named.of ds is

pub typed_text-returns-in-Named-clause-value : goal.typed_text-returns-in-Named-clause-value
typed_text-returns-in-Named-clause-value g t c =
    let k = context_of g.B.Names.context c.args.names.now in
    let fs = c.args.known.now.functions in
    let gs = c.named_with-found.new.known.functions in
    let ds = c.as_slice-packed-in-Named.result.now in
    let is : c.args.t.now ≡ X.Named c.in-Named.of ds = cc (c.in-Named.is, c.as_slice-packed-in-Named.ensures) in
    subst (λ (r : Result TypeFound Halt). TypesTo r (typed_text c.args.t.now k fs) gs) (sym c.alone-in-Named.ensures.value) (named-meant k c.args.t.now fs gs c.in-Named.of ds c.named_with-found.result is c.named_with-found.ensures.value)

pub typed_text-implicit-found-requires-clause-written : goal.typed_text-implicit-found-requires-clause-written
typed_text-implicit-found-requires-clause-written g t c =
    let ds = c.as_slice-packed-in-Implicit.result.now in
    let is : c.args.t.now ≡ X.Implicit c.in-Implicit.signing ds = cc (c.in-Implicit.is, c.as_slice-packed-in-Implicit.ensures) in
    implicit-written c.args.t.now c.requires.written c.in-Implicit.signing ds is

pub typed_text-returns-in-Implicit-clause-value : goal.typed_text-returns-in-Implicit-clause-value
typed_text-returns-in-Implicit-clause-value g t c =
    let k = context_of g.B.Names.context c.args.names.now in
    let fs = c.args.known.now.functions in
    let gs = c.implicit-found.new.known.functions in
    let ds = c.as_slice-packed-in-Implicit.result.now in
    let is : c.args.t.now ≡ X.Implicit c.in-Implicit.signing ds = cc (c.in-Implicit.is, c.as_slice-packed-in-Implicit.ensures) in
    subst (λ (r : Result TypeFound Halt). TypesTo r (typed_text c.args.t.now k fs) gs) (sym c.alone-in-Implicit.ensures.value) (implicit-meant k c.args.t.now fs gs c.in-Implicit.signing ds c.implicit-found.result is c.implicit-found.ensures.value)

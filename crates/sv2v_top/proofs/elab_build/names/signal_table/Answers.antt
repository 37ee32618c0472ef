use Rattle.std.proofs.Common.{◌≡◌, ◌<◌, slice_index_or, ◌++◌, ◌+◌, ◌≤◌, length, List, Some, None, map, take, drop, sym, ap, subst, ◌∙◌, arith}
use Rattle.std.specs.Option.{option_map, option_copied}
use Rattle.built_forms.specs.declared.forms.Item.{Item}
use Rattle.sv2v_top.specs.declared.uses.Use.{Use}
use Rattle.sv2v_top.specs.source.Names.{port_names, name_of, variables, undeclared, undeclared_in, first_undeclared, signal_names}
use Rattle.sv2v_top.specs.source.Answers.{undeclared_refusal}
use Rattle.sv2v_top.specs.source.Statements.{item_parts}
use Rattle.sv2v_top.specs.source.Lookup.{Numbers}
use Rattle.sv2v_top.proofs.Checks.{unknown-uses, first-here, first-later, named-more, signals-named, take-past, drop-past}
use Rattle.sv2v_top.proofs.elab_build.names.signal_table.Goals as goal

pub returns-in-Some : goal.returns-in-Some
returns-in-Some c =
    let source = c.args.source.now in
    let i = c.loop-item.item-index in
    let ns = port_names source ++ map name_of (variables (take i source.items)) in
    let own = source.name.word in
    let uses : c.as_slice-in-loop-item.result.now ≡ (item_parts c.item-item.result).names = c.as_slice-in-loop-item.ensures ∙ c.in_ok-found.ensures.names in
    let unknown : option_copied c.first_unknown.result ≡ undeclared own ns (item_parts c.item-item.result).names =
    c.first_unknown.ensures ∙ unknown-uses c.loop-item.names ns c.loop-item.invariant.named own _ ∙ ap (undeclared own ns) uses in
    let items : c.as_slice-item-items.result.now ≡ source.items = c.as_slice-item-items.ensures in
    let below : i < length source.items = subst (λ (xs : List Item). i < length xs) items c.loop-item-test.true in
    let item : c.item-item.result ≡ slice_index_or source.items i c.item-item.result = subst (λ (xs : List Item). c.item-item.result ≡ slice_index_or xs i c.item-item.result) items c.item-item.is in
    let here : undeclared own ns (item_parts c.item-item.result).names ≡ Some c.in-Some.unknown.now = sym unknown ∙ ap option_copied c.in-Some.is in
    let first : first_undeclared source ≡ Some c.in-Some.unknown.now =
    sym c.loop-item.invariant.rest ∙ first-here own ns source.items i c.item-item.result c.in-Some.unknown.now below item here in
    ap (option_map (λ (u : Use). undeclared_refusal u.name)) first ∙ ap Some (sym c.in_ok-undeclared_name.ensures)

pub loop-item-preserved : goal.loop-item-preserved
loop-item-preserved c =
    let source = c.args.source.now in
    let i = c.loop-item.item-index in
    let ns = port_names source ++ map name_of (variables (take i source.items)) in
    let own = source.name.word in
    let x = c.item-item.result in
    let uses : c.as_slice-in-loop-item.result.now ≡ (item_parts x).names = c.as_slice-in-loop-item.ensures ∙ c.in_ok-found.ensures.names in
    let unknown : option_copied c.first_unknown.result ≡ undeclared own ns (item_parts x).names =
    c.first_unknown.ensures ∙ unknown-uses c.loop-item.names ns c.loop-item.invariant.named own _ ∙ ap (undeclared own ns) uses in
    let none : undeclared own ns (item_parts x).names ≡ None = sym unknown ∙ ap option_copied c.in_default.is in
    let items : c.as_slice-item-items.result.now ≡ source.items = c.as_slice-item-items.ensures in
    let below : i < length source.items = subst (λ (xs : List Item). i < length xs) items c.loop-item-test.true in
    let item : x ≡ slice_index_or source.items i x = subst (λ (xs : List Item). x ≡ slice_index_or xs i x) items c.item-item.is in
    let more = named-more (port_names source) source.items i x below item in
    record {
      named = subst (λ ws. Numbers c.add_declared.new.names ws) more (c.in_ok-add_declared.ensures ns c.loop-item.invariant.named);
      rest =
          ap (λ ws. undeclared_in own ws (drop (i + 1) source.items)) (sym more)
          ∙ sym (first-later own ns source.items i x below item none)
          ∙ c.loop-item.invariant.rest;
    }

pub returns : goal.returns
returns c =
    let source = c.args.source.now in
    let i = c.loop-item.item-index in
    let items : length c.as_slice-item-items.result.now ≡ length source.items = ap length c.as_slice-item-items.ensures in
    let past : length source.items ≤ i = omega arith in
    let all : port_names source ++ map name_of (variables (take i source.items)) ≡ signal_names source =
    ap (λ xs. port_names source ++ map name_of (variables xs)) (take-past source.items i past) ∙ signals-named source in
    let none : first_undeclared source ≡ None =
    sym c.loop-item.invariant.rest ∙ ap (undeclared_in source.name.word (port_names source ++ map name_of (variables (take i source.items)))) (drop-past source.items i past) in
    (none, subst (λ ws. Numbers c.loop-item.names ws) all c.loop-item.invariant.named)

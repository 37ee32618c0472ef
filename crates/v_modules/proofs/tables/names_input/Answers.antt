use Rattle.std.proofs.Common.{Bool, List, None, Some, slice_get, sym, ap, ◌∙◌}
use Rattle.v_meaning.specs.Modules.{signals}
use Rattle.v_modules.specs.Tables.{items_of}
use Rattle.v_modules.proofs.InputKinds.{no-signal, a-signal}
use Rattle.v_modules.proofs.tables.names_input.Goals as goal

pub returns-in-None : goal.returns-in-None
returns-in-None c =
    let t = c.args.table.now in
    no-signal t.names.signals.entries (signals (items_of t)) c.args.name.now t.named (sym c.in-None.ensures.value)

pub returns-in-None-at : goal.returns-in-None-at
returns-in-None-at c =
    let t = c.args.table.now in
    let k = c.in-Some.signal.now in
    a-signal t.names.signals.entries (signals (items_of t)) c.args.name.now k None t.named (sym c.in-Some.ensures.value)
    (c.in-None-at.ensures ∙ ap (λ (l : List Bool). slice_get l k.place) (c.as_slice.ensures ∙ t.inputs_are))

pub returns-in-Some-at : goal.returns-in-Some-at
returns-in-Some-at c =
    let t = c.args.table.now in
    let k = c.in-Some.signal.now in
    a-signal t.names.signals.entries (signals (items_of t)) c.args.name.now k (Some c.in-Some-at.input.now) t.named (sym c.in-Some.ensures.value)
    (c.in-Some-at.ensures ∙ ap (λ (l : List Bool). slice_get l k.place) (c.as_slice.ensures ∙ t.inputs_are))

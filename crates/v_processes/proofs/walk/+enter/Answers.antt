use Rattle.std.proofs.Common.{◌-◌, ◌+◌, ◌++◌, length, sym, ap, ◌∙◌, arith}
use Rattle.v_meaning.specs.Machine.{is_input}
use Rattle.v_meaning.specs.Modules as M
use Rattle.v_tree.specs.declared.items.VItem.{VItem}
use Rattle.std.proofs.Common.{List}
use Rattle.v_modules.specs.Tables.{items_of}
use Rattle.v_processes.specs.Processes.{processes_at, items_at}
use Rattle.v_processes.specs.Stems.{sources_at}
use Rattle.v_processes.specs.Walks.{initials_of}
use Rattle.v_processes.proofs.Kept.{where-ok}
use Rattle.v_processes.proofs.Entering.{absent-module, absent-initials, module-level, table-items, no-table, module-processes, module-initials, empty-processes, empty-initials, behind-is, absent-sources, module-source-level, all-sources, empty-sources}
use Rattle.v_processes.proofs.walk.+enter.Goals as goal

pub enter-returns-in-None-clause-processes : goal.enter-returns-in-None-clause-processes
enter-returns-in-None-clause-processes t c =
    absent-module c.args.depth (c.args.depth - 1) c.args.design.modules.now c.args.n c.args.name.now c.number_named.result (processes_at c.args.design.modules.now c.args.to.now.procs)
    (omega (arith, c.if-depth-eq0.false)) c.in-None.is c.number_named.ensures

pub enter-returns-in-None-clause-initials : goal.enter-returns-in-None-clause-initials
enter-returns-in-None-clause-initials t c =
    absent-initials c.args.depth (c.args.depth - 1) c.args.design.modules.now c.args.n c.args.name.now c.number_named.result (initials_of c.args.to.now.initials)
    (omega (arith, c.if-depth-eq0.false)) c.in-None.is c.number_named.ensures

pub enter-returns-in-Some-clause-processes : goal.enter-returns-in-Some-clause-processes
enter-returns-in-Some-clause-processes t c =
    let e = module-level c.args.depth (c.args.depth - 1) c.args.design.modules.now c.args.n c.in-Some.of c.args.name.now c.number_named.result (omega (arith, c.if-depth-eq0.false)) c.in-Some.is c.number_named.ensures in
    where-ok c.enter_module.result (λ h. h ∙ ap (λ (p : M.Parts). processes_at c.args.design.modules.now c.args.to.now.procs ++ p.processes) e) c.enter_module.ensures.processes

pub enter-returns-in-Some-clause-initials : goal.enter-returns-in-Some-clause-initials
enter-returns-in-Some-clause-initials t c =
    let e = module-level c.args.depth (c.args.depth - 1) c.args.design.modules.now c.args.n c.in-Some.of c.args.name.now c.number_named.result (omega (arith, c.if-depth-eq0.false)) c.in-Some.is c.number_named.ensures in
    where-ok c.enter_module.result (λ h. h ∙ ap (λ (p : M.Parts). initials_of c.args.to.now.initials ++ p.initials) e) c.enter_module.ensures.initials

pub enter_module-add_own-requires-clause-table : goal.enter_module-add_own-requires-clause-table
enter_module-add_own-requires-clause-table t c =
    table-items c.args.design.tables.now c.args.design.modules.now c.args.of c.in-Some.table.now c.requires.tables (sym c.in-Some.ensures)

pub enter_module-returns-in-None-clause-processes : goal.enter_module-returns-in-None-clause-processes
enter_module-returns-in-None-clause-processes t c =
    empty-processes c.args.depth c.args.design.modules.now c.args.n (items_at c.args.design.modules.now c.args.of) (processes_at c.args.design.modules.now c.args.to.now.procs)
    (no-table c.args.design.tables.now c.args.design.modules.now c.args.of c.requires.tables (sym c.in-None.ensures))

pub enter_module-returns-in-None-clause-initials : goal.enter_module-returns-in-None-clause-initials
enter_module-returns-in-None-clause-initials t c =
    empty-initials c.args.depth c.args.design.modules.now c.args.n (items_at c.args.design.modules.now c.args.of) (initials_of c.args.to.now.initials)
    (no-table c.args.design.tables.now c.args.design.modules.now c.args.of c.requires.tables (sym c.in-None.ensures))

pub enter_module-returns-in_ok-add_own-in-Some-clause-processes : goal.enter_module-returns-in_ok-add_own-in-Some-clause-processes
enter_module-returns-in_ok-add_own-in-Some-clause-processes t c =
    let ms = c.args.design.modules.now in
    let table = c.in-Some.table.now in
    let is = items_at ms c.args.of in
    let items = table-items c.args.design.tables.now ms c.args.of table c.requires.tables (sym c.in-Some.ensures) in
    let behind = behind-is c.args.n c.in_ok-behind-in-Some.behind c.len.result table.inputs (M.signals (items_of table)) (λ s. is_input s.kind) table.inputs_are c.len.ensures c.in_ok-behind-in-Some.ensures in
    where-ok c.enter_children.result
    (λ h. module-processes c.args.depth ms c.args.n c.in_ok-first-in-Some.first c.in_ok-behind-in-Some.behind is (items_of table) (processes_at ms c.args.to.now.procs) (processes_at ms c.add_own.new.to.procs)
    (processes_at ms c.enter_children.new.to.procs) c.in_ok-first-in-Some.ensures (behind ∙ ap (λ (l : List VItem). c.args.n + length (M.signals l)) items) items c.in_ok-add_own-in-Some.ensures.processes h)
    c.enter_children.ensures.processes

pub enter_module-returns-in_ok-add_own-in-Some-clause-initials : goal.enter_module-returns-in_ok-add_own-in-Some-clause-initials
enter_module-returns-in_ok-add_own-in-Some-clause-initials t c =
    let ms = c.args.design.modules.now in
    let table = c.in-Some.table.now in
    let is = items_at ms c.args.of in
    let items = table-items c.args.design.tables.now ms c.args.of table c.requires.tables (sym c.in-Some.ensures) in
    let behind = behind-is c.args.n c.in_ok-behind-in-Some.behind c.len.result table.inputs (M.signals (items_of table)) (λ s. is_input s.kind) table.inputs_are c.len.ensures c.in_ok-behind-in-Some.ensures in
    where-ok c.enter_children.result
    (λ h. module-initials c.args.depth ms c.args.n c.in_ok-first-in-Some.first c.in_ok-behind-in-Some.behind is (items_of table) (initials_of c.args.to.now.initials) (initials_of c.add_own.new.to.initials)
    (initials_of c.enter_children.new.to.initials) c.in_ok-first-in-Some.ensures (behind ∙ ap (λ (l : List VItem). c.args.n + length (M.signals l)) items) items c.in_ok-add_own-in-Some.ensures.initials h)
    c.enter_children.ensures.initials

pub enter-returns-in-None-clause-sources : goal.enter-returns-in-None-clause-sources
enter-returns-in-None-clause-sources t c =
    absent-sources c.args.depth (c.args.depth - 1) c.args.design.modules.now c.args.n c.args.name.now c.number_named.result (sources_at c.args.design.modules.now c.args.to.now.procs)
    (omega (arith, c.if-depth-eq0.false)) c.in-None.is c.number_named.ensures

pub enter-returns-in-Some-clause-sources : goal.enter-returns-in-Some-clause-sources
enter-returns-in-Some-clause-sources t c =
    let e = module-source-level c.args.depth (c.args.depth - 1) c.args.design.modules.now c.args.n c.in-Some.of c.args.name.now c.number_named.result (omega (arith, c.if-depth-eq0.false)) c.in-Some.is c.number_named.ensures in
    where-ok c.enter_module.result (λ h. h ∙ ap (λ l. sources_at c.args.design.modules.now c.args.to.now.procs ++ l) e) c.enter_module.ensures.sources

pub enter_module-returns-in-None-clause-sources : goal.enter_module-returns-in-None-clause-sources
enter_module-returns-in-None-clause-sources t c =
    empty-sources c.args.depth c.args.design.modules.now c.args.n (items_at c.args.design.modules.now c.args.of) (sources_at c.args.design.modules.now c.args.to.now.procs)
    (no-table c.args.design.tables.now c.args.design.modules.now c.args.of c.requires.tables (sym c.in-None.ensures))

pub enter_module-returns-in_ok-add_own-in-Some-clause-sources : goal.enter_module-returns-in_ok-add_own-in-Some-clause-sources
enter_module-returns-in_ok-add_own-in-Some-clause-sources t c =
    let ms = c.args.design.modules.now in
    let table = c.in-Some.table.now in
    let is = items_at ms c.args.of in
    let items = table-items c.args.design.tables.now ms c.args.of table c.requires.tables (sym c.in-Some.ensures) in
    let behind = behind-is c.args.n c.in_ok-behind-in-Some.behind c.len.result table.inputs (M.signals (items_of table)) (λ s. is_input s.kind) table.inputs_are c.len.ensures c.in_ok-behind-in-Some.ensures in
    where-ok c.enter_children.result
    (λ h. all-sources c.args.depth ms c.args.n c.in_ok-behind-in-Some.behind is (items_of table) (sources_at ms c.args.to.now.procs) (sources_at ms c.add_own.new.to.procs)
    (sources_at ms c.enter_children.new.to.procs) (behind ∙ ap (λ (l : List VItem). c.args.n + length (M.signals l)) items) items c.in_ok-add_own-in-Some.ensures.sources h)
    c.enter_children.ensures.sources

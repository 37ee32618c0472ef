use Rattle.std.proofs.Common.{map, sym, ap, ◌∙◌}
use Rattle.std.specs.Option.{option_copied}
use Rattle.eval_store.proofs.Storing.{on-ok}
use Rattle.v_writes.specs.Writes.{use_in}
use Rattle.v_drives.proofs.Together as T
use Rattle.v_drives.proofs.designs.add_writes.Goals as goal

pub returns-in-Some : goal.returns-in-Some
returns-in-Some c =
    on-ok
    (T.by-modules c.args.tables.now c.args.process.now c.in-Some.table.now c.args.later (map use_in c.args.to.now) (map use_in c.process_writes.new.to)
    (sym c.at.ensures ∙ ap option_copied c.in-Some.is))
    c.process_writes.result c.process_writes.ensures

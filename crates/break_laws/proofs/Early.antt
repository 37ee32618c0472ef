-- Processes that break no rule on early reads.
use Rattle.std.proofs.Common.{◌&&◌, not, flat_map, ap}
use Rattle.std.proofs.lemmas.Bool.{and_from, not_from_false}
use Rattle.row_machine.specs.Valuation.{Place}
use Rattle.row_machine.proofs.Basics.{has-member}
use Rattle.sv_types.specs.Flows.{covered, uses_of}
use Rattle.sv_types.specs.Machine.{parts, places}
use Rattle.flow_laws.specs.Runs.{some_token}
use Rattle.design_breaks.specs.Memories.{is_edged, flow}
use Rattle.design_breaks.specs.Breaks.{unrolls, only_if}
use Rattle.break_laws.specs.Laws.{NothingIsReadEarly}
use Rattle.break_laws.proofs.Lists.{none-of, none-if}

pub not-early : NothingIsReadEarly
not-early d p no_edges can early q there written =
    let f = flow d p in
    let tokens = λ (k : Place). only_if (covered (uses_of f.writes) k) (f.early k) in
    let all = none-if (unrolls d p.body && not (is_edged p.kind)) (flat_map tokens (places (parts d)))
    (and_from (unrolls d p.body) (not (is_edged p.kind)) can (not_from_false (is_edged p.kind) no_edges)) early in
    let here = none-of tokens (places (parts d)) q (has-member (places (parts d)) q there) all in
    ap some_token (none-if (covered (uses_of f.writes) q) (f.early q) written here)

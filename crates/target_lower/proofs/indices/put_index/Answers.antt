use Rattle.std.proofs.Common.{◌≡◌, List, [], ◌∷◌, ◌++◌, ap, ◌∙◌}
use Rattle.case_targets.specs.declared.indices.PathIndex.{PathIndex}
use Rattle.target_lower.specs.Made.{PutsIndex}
use Rattle.target_lower.proofs.Stepping.{on-one, puts-one}
use Rattle.target_lower.proofs.indices.put_index.Goals as goal

pub returns-clause-puts : goal.returns-clause-puts
returns-clause-puts c =
    let within = c.args.within in
    let names = c.args.names.now in
    let functions = c.args.functions.now in
    let hs = c.index_given.new.helpers in
    let i = c.args.i.now in
    let part = c.args.in_part in
    let g = c.in_ok-given.given in
    let old : List PathIndex = c.args.indices.now in
    let new : List PathIndex = c.push.new.self in
    on-one (new ≡ old ++ c.in_path.result ∷ []) (PutsIndex within names functions hs i part old new) c.push.result c.push.ensures.ok
    (λ is. puts-one within names functions hs i part g old new c.in_ok-given.ensures.made (is ∙ ap (λ (p : PathIndex). old ++ p ∷ []) c.in_path.ensures))

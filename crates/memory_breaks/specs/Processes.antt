-- What all processes name, mention and may write, marked.
use Rattle.std.specs.Prelude.{ℕ, false, cond, List, [], ◌∷◌, replicate, Option, Some, None}
use Rattle.sv_types.specs.declared.design.Process.{Process}
use Rattle.sv_types.specs.declared.statement.Function.{Function}
use Rattle.flow_sets.specs.declared.found.Found.{Found}
use Rattle.design_breaks.specs.Actions.{actions}
use Rattle.design_breaks.specs.Memories.{is_edged}
use Rattle.memory_breaks.specs.declared.processes.Written.{Written}
use Rattle.memory_breaks.specs.Marks.{Part, all_marked, writes_marked}
use Rattle.memory_breaks.specs.Bodies.{stmt_walk}

abbrev pub written_by : Process → Option Found → Written → Written
written_by p None t = t
written_by p (Some f) t =
    cond (is_edged p.kind) (record { edged = writes_marked f.later t.edged; other = t.other }) (record { edged = t.edged; other = writes_marked f.writes t.other })

abbrev pub none_written : ℕ → Written
none_written n = record { edged = replicate n false; other = replicate n false }

abbrev pub all_written : List Process → List (Option Found) → Written → Written
all_written [] fs t = t
all_written (p ∷ ps) [] t = t
all_written (p ∷ ps) (f ∷ fs) t = all_written ps fs (written_by p f t)

abbrev pub unsettled_by : List Function → Process → Option Found → Part
unsettled_by functions p None u = stmt_walk functions p.body u
unsettled_by functions p (Some f) u = u

abbrev pub all_unsettled : List Function → List Process → List (Option Found) → Part
all_unsettled functions [] fs u = u
all_unsettled functions (p ∷ ps) [] u = u
all_unsettled functions (p ∷ ps) (f ∷ fs) u = all_unsettled functions ps fs (unsettled_by functions p f u)

abbrev pub whole_in : Process → Part
whole_in p u = all_marked (actions p.body).said.whole u

abbrev pub all_whole : List Process → Part
all_whole [] u = u
all_whole (p ∷ ps) u = all_whole ps (whole_in p u)

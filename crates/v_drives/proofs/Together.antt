-- What the processes of a design may write, one by one.
use Rattle.std.proofs.Common.{◌≡◌, ◌<◌, ◌≤◌, ℕ, ◌+◌, Bool, List, ◌++◌, length, drop, slice_index_or, Some, slice_get, refl, ap, sym, ◌∙◌, append_assoc, append-nil}
use Rattle.v_tree.specs.declared.items.VModule.{VModule}
use Rattle.v_meaning.specs.Scopes.{Scope, Use}
use Rattle.v_meaning.specs.Modules.{scope_of}
use Rattle.v_modules.specs.declared.table.Table.{Table}
use Rattle.v_modules.specs.Tables.{items_of}
use Rattle.v_processes.specs.declared.process.Does.{Does}
use Rattle.v_processes.specs.declared.process.Does.TheVariants as D
use Rattle.v_processes.specs.declared.process.Proc.{Proc}
use Rattle.v_processes.specs.Processes.{does_in, process_at, processes_at}
use Rattle.v_steps.proofs.Instances.{process-by-table}
use Rattle.v_writes.specs.Writes.{made}
use Rattle.v_drives.specs.Designs.{process_made, all_made, ForModules}
use Rattle.v_drives.proofs.Numbering as N

does-scope : (d : Does) (sc : Scope) → (does_in d sc).scope ≡ sc
does-scope (D.Assign to value) sc = refl
does-scope (D.Star body) sc = refl
does-scope (D.Edges edges body) sc = refl
does-scope (D.Into port value) sc = refl
does-scope (D.From to port) sc = refl

-- by the table of its module a process writes what it does by the modules
pub by-modules : (ts : List Table) (p : Proc) (t : Table) (later : Bool) (old new : List Use) → slice_get ts p.of ≡ Some t
    → new ≡ old ++ made later (does_in p.does (scope_of p.first (items_of t))).does (scope_of p.first (items_of t)) → ForModules ts (λ ms. new ≡ old ++ process_made later (process_at ms p))
by-modules ts p t later old new there is ms same =
    let sc = scope_of p.first (items_of t) in
    is ∙ ap (λ s. old ++ made later (does_in p.does sc).does s) (sym (does-scope p.does sc)) ∙ ap (λ q. old ++ process_made later q) (process-by-table ts ms p t same there)

pub made-on : (later : Bool) (ms : List VModule) (ps : List Proc) (i : ℕ) (d : Proc) (old new all : List Use) → i < length ps → new ≡ old ++ process_made later (process_at ms (slice_index_or ps i d))
    → old ++ all_made later (processes_at ms (drop i ps)) ≡ all → new ++ all_made later (processes_at ms (drop (i + 1) ps)) ≡ all
made-on later ms ps i d old new all h is before =
    let rest = all_made later (processes_at ms (drop (i + 1) ps)) in
    ap (λ us. us ++ rest) is ∙ append_assoc old (process_made later (process_at ms (slice_index_or ps i d))) rest
    ∙ ap (λ (xs : List Proc). old ++ all_made later (processes_at ms xs)) (sym (N.at-front ps i d h)) ∙ before

pub made-all : (later : Bool) (ms : List VModule) (ps : List Proc) (i : ℕ) (old all : List Use) → length ps ≤ i → old ++ all_made later (processes_at ms (drop i ps)) ≡ all → old ≡ all
made-all later ms ps i old all h before =
    sym (append-nil old) ∙ ap (λ (xs : List Proc). old ++ all_made later (processes_at ms xs)) (sym (N.none-left ps i h)) ∙ before

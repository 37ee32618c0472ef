-- What processes read, form by form.
use Rattle.std.proofs.Common.{◌≡◌, ◌+◌, ◌≤◌, ℕ, false, ◌&&◌, ◌||◌, List, [], ◌∷◌, ◌++◌, length, refl, ap, ◌∙◌}
use Rattle.std.proofs.lemmas.List.{length-map}
use Rattle.v_meaning.specs.Scopes.{Named, Scope, is_signal}
use Rattle.v_meaning.specs.Values.{Meaning}
use Rattle.v_meaning.specs.Statements.{Target, assignment}
use Rattle.v_meaning.specs.Machine.{is_input}
use Rattle.v_meaning.specs.Modules.{Signal, signals, scope_of, port_target, port_value}
use Rattle.v_modules.specs.declared.table.Table.{Table}
use Rattle.v_modules.specs.Tables.{items_of}
use Rattle.v_footprints.specs.Footprints.{uses}
use Rattle.v_processes.specs.declared.process.Does.{Does}
use Rattle.v_processes.specs.Processes.{does_in}
use Rattle.v_reads.specs.Reads.{Adds, is_among}
use Rattle.v_reads.proofs.Sets.{adds-one, adds-then, adds-equal, unit}
use Rattle.v_stores.specs.Waits.{is_named}
use Rattle.v_hangs.specs.Hangs.{HangsOn, PortIsSignal}
use Rattle.v_hangs.proofs.Processes.{hangs_on_reads}

assigned-reads : (t : Target) (m : Meaning) (sc : Scope) → m.reads sc ++ t.reads sc ≡ (assignment false t m).reads sc
unfolding assignment
assigned-reads t m sc = refl

pub assigned : (old mid new : List ℕ) (t : Target) (m : Meaning) (sc : Scope) → Adds old mid (m.reads sc) → Adds mid new (t.reads sc) → Adds old new ((assignment false t m).reads sc)
assigned old mid new t m sc h g = adds-equal old new _ _ (adds-then old mid new (m.reads sc) (t.reads sc) h g) (assigned-reads t m sc)

pub gone-into : (old new : List ℕ) (port : Named) (m : Meaning) (sc : Scope) → Adds old new (m.reads sc) → Adds old new ((assignment false (port_target port) m).reads sc)
gone-into old new port m sc h = adds-equal old new _ _ h (unit (m.reads sc) ∙ assigned-reads (port_target port) m sc)

pub come-from : (old mid new : List ℕ) (port : Named) (t : Target) (sc : Scope) → mid ≡ old ++ port.number ∷ [] → Adds mid new (t.reads sc) → Adds old new ((assignment false t (port_value port)).reads sc)
come-from old mid new port t sc e h = assigned old mid new t (port_value port) sc (adds-one old mid port.number _ e refl) h

pub ruleset forms = (assigned, gone-into, come-from)

-- a table says of each signal whether it is an input
pub as-many : (t : Table) → length t.inputs ≡ length (signals (items_of t))
as-many t = ap length t.inputs_are ∙ length-map (signals (items_of t)) (λ (s : Signal). is_input s.kind)

pub ruleset counts = (as-many)

-- a process hangs on the signals among what it reads
pub hangs-on-listed : (t : Table) (first : ℕ) (d : Does) (sc : Scope) (old numbers seen ns : List ℕ) → sc ≡ scope_of first (items_of t) → first + length (signals (items_of t)) ≤ 4294967296 → PortIsSignal d → old ≡ []
    → Adds old numbers ((does_in d sc).does.reads sc) → seen ≡ numbers → ((n : ℕ) → is_named ns n ≡ (is_signal n && is_among seen n)) → HangsOn (does_in d (scope_of first (items_of t))) ns
hangs-on-listed t first d sc old numbers seen ns place few port none adds whole listed =
    hangs_on_reads d first (items_of t) few port ns
    (record {
      same = λ n.
          listed n
          ∙ ap (λ b. is_signal n && b)
          (ap (λ l. is_among l n) whole ∙ adds.same n ∙ ap (λ l. is_among l n || uses ((does_in d sc).does.reads sc) n) none ∙ ap (λ (s : Scope). uses ((does_in d s).does.reads s) n) place);
    })

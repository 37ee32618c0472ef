-- What statements run in.
use Rattle.std.specs.Prelude.{◌≡◌, ⊤, true, ℕ, Bool, List, [], ◌∷◌, Some}
use Rattle.row_machine.specs.Valuation.{Changes, put}
use Rattle.row_machine.specs.Steps.{unchanged, then_changes}
use Rattle.sv_types.specs.Surroundings.{Around}
use Rattle.sv_types.specs.Meanings.{written_at}
use Rattle.eval_parts.specs.Places.{window_of, number_of, IsNear}
use Rattle.eval_parts.specs.Steps.{is_held, can_read}
use Rattle.eval_parts.specs.Surroundings.{now_of}
use Rattle.eval_exprs.specs.declared.held.Scope.{Scope}
use Rattle.eval_exprs.specs.Held.{callees_in}
use Rattle.eval_stmts.specs.declared.env.Env.{Env}
use Rattle.eval_stmts.specs.declared.env.Update.{Update}

abbrev pub standing : Scope → Env → Around
standing sc env = record { now = now_of env.signals.items env.locals.items; holds = is_held env.signals.items; callee = callees_in sc }

-- what an update writes, and what updates write in their order
abbrev pub update_of : Update → Changes
update_of u = written_at (number_of u.to.root) (window_of u.to.window) u.bits

abbrev pub updates : List Update → Changes
updates [] = unchanged
updates (u ∷ us) = then_changes (update_of u) (updates us)

-- these can be written, where these signals are held
abbrev pub AllHeld : List ℕ → (ℕ → Bool) → Type 0
AllHeld [] holds = ⊤
AllHeld (n ∷ ns) holds = (can_read (Some n) holds ≡ true) × AllHeld ns holds

pub record IsReady (u : Update) (holds : ℕ → Bool) : Type 0 where
  pub near : IsNear u.to.window.shift
  pub held : can_read (number_of u.to.root) holds ≡ true

abbrev pub AllReady : List Update → (ℕ → Bool) → Type 0
AllReady [] holds = ⊤
AllReady (u ∷ us) holds = IsReady u holds × AllReady us holds

-- the same signals and locals, and the same updates
pub record SameSlots (old new : Env) : Type 0 where
  pub signals : new.signals.items ≡ old.signals.items
  pub locals : new.locals.items ≡ old.locals.items
  pub pending : new.pending.items ≡ old.pending.items

-- an environment after a write
pub record Written (old new : Env) (c : Changes) : Type 0 where
  pub now : now_of new.signals.items new.locals.items ≡ put c (now_of old.signals.items old.locals.items)
  pub holds : is_held new.signals.items ≡ is_held old.signals.items
  pub pending : new.pending.items ≡ old.pending.items
  pub budget : new.budget ≡ old.budget

-- an environment in which updates are pending
pub record Pends (old new : Env) (c : Changes) : Type 0 where
  pub signals : new.signals.items ≡ old.signals.items
  pub locals : new.locals.items ≡ old.locals.items
  pub pending : updates new.pending.items ≡ then_changes (updates old.pending.items) c

-- Statements and items one level deeper.
use Rattle.std.proofs.Common.{◌≡◌, ℕ, ◌+◌, Bool, List, Option, ap, ◌∙◌, add-one}
use Rattle.sv_tree.specs.declared.items.Item.{Item}
use Rattle.sv_tree.specs.declared.statements.Stmt.{Stmt}
use Rattle.name_events.specs.declared.context.Around.{Around}
use Rattle.name_events.specs.declared.events.Event.{Event}
use Rattle.name_events.specs.Items.{item_around, item_within}
use Rattle.name_events.specs.Statements.{stmt_around, stmt_within}

pub one-deeper : (depth inner : ℕ) (a : Around) (s : Stmt) (to : List Event) → depth ≡ inner + 1 → stmt_within depth a s to ≡ stmt_around (stmt_within inner) a s to
one-deeper depth inner a s to e = ap (λ d. stmt_within d a s to) (e ∙ add-one inner)

pub item-deeper : (depth inner : ℕ) (inside : Bool) (around : Option ℕ) (i : Item) (to : List Event) → depth ≡ inner + 1 → item_within depth inside around i to ≡ item_around (item_within inner inside) inside around i to
item-deeper depth inner inside around i to e = ap (λ d. item_within d inside around i to) (e ∙ add-one inner)

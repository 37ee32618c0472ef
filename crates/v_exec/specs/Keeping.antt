-- What arithmetic in a module stays narrow.
use Rattle.std.specs.Prelude.{◌≡◌, ◌≤◌, ℕ, List, [], ◌∷◌, Option, Some, None}
use Rattle.v_tree.specs.Names.{Name}
use Rattle.v_tree.specs.declared.expressions.VExpr.{VExpr}
use Rattle.v_tree.specs.declared.items.VConnection.{VConnection}
use Rattle.v_tree.specs.declared.items.VItem.{VItem}
use Rattle.v_tree.specs.declared.items.VModule.{VModule}
use Rattle.v_tree.specs.declared.items.VItem.TheVariants as I
use Rattle.v_tree.specs.declared.items.VProcess.TheVariants.{Assign, Always}
use Rattle.v_meaning.specs.Scopes as S
use Rattle.v_meaning.specs.Functions.{callees_within}
use Rattle.v_meaning.specs.Modules.{input_net, signals, functions, numbered, kind_of, items_of}
use Rattle.v_meaning.specs.Statements.{target}
use Rattle.v_eval.specs.Limits.{limits, most_given}
use Rattle.v_run.specs.Limits.{target_most}
use Rattle.v_exec.specs.Limits.{branch_most, functions_most}

-- what names stand for in an instance whose signals are numbered from n on, where calls go so deep
abbrev pub scope_at : ℕ → ℕ → List VItem → S.Scope
scope_at n depth items = record {
  names = numbered n (signals items);
  next = 0;
  callee = callees_within depth (numbered n (signals items)) (functions items);
}

-- neither does what is connected to an input of a child that has these items; an open port has nothing
abbrev pub LinkNarrow : S.Scope → List VItem → Option VExpr → Name → Type 0
LinkNarrow sc items None port = Unit {0}
LinkNarrow sc items (Some x) port =
    (n : ℕ) → kind_of (signals items) port ≡ input_net → most_given (S.all_bits (S.named (numbered n (signals items)) port)) (limits x) sc ≤ 128

abbrev pub LinksNarrow : S.Scope → List VItem → List VConnection → Type 0
LinksNarrow sc items [] = Unit {0}
LinksNarrow sc items (c ∷ cs) = LinkNarrow sc items c.value c.port × LinksNarrow sc items cs

-- the process that an item is, and what is connected to inputs of the child that it is, does no arithmetic on over 128 bits
abbrev pub ItemNarrow : List VModule → S.Scope → VItem → Type 0
ItemNarrow ms sc (I.Signal s) = Unit {0}
ItemNarrow ms sc (I.Initial i) = Unit {0}
ItemNarrow ms sc (I.Process (Assign to value)) = (target_most to sc ≤ 128) × (most_given ((target to).width sc) (limits value) sc ≤ 128)
ItemNarrow ms sc (I.Process (Always on body)) = branch_most body sc ≤ 128
ItemNarrow ms sc (I.Function f) = Unit {0}
ItemNarrow ms sc (I.Instance i) = LinksNarrow sc (items_of ms i.of) i.connections

abbrev pub ItemsNarrow : List VModule → S.Scope → List VItem → Type 0
ItemsNarrow ms sc [] = Unit {0}
ItemsNarrow ms sc (i ∷ is) = ItemNarrow ms sc i × ItemsNarrow ms sc is

-- neither do the functions of a module, its processes and what it connects
pub record ModuleNarrow (ms : List VModule) (n depth : ℕ) (items : List VItem) : Type 0 where
  pub functions : functions_most items (scope_at n depth items) ≤ 128
  pub processes : ItemsNarrow ms (scope_at n depth items) items

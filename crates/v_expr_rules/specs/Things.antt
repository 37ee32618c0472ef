-- What names stand for by the rules, where they stand for these entries in a module of these items.
use Rattle.std.specs.Prelude.{ℕ, false, List, map, Option, Some, None, slice_get}
use Rattle.v_tree.specs.Scopes.{Thing, value, memory, function, result, part, bits_of, has_range}
use Rattle.v_tree.specs.Scopes as S
use Rattle.v_tree.specs.ExprRules.{Around}
use Rattle.v_tree.specs.declared.items.VItem.{VItem}
use Rattle.v_tree.specs.declared.items.VLocal.{VLocal}
use Rattle.v_scopes.specs.Env.{Env}
use Rattle.v_scopes.specs.declared.entry.Entry.{Entry}
use Rattle.v_scopes.specs.declared.entry.Entry.TheVariants as N
use Rattle.v_scopes.specs.declared.entry.Kind.{Kind}
use Rattle.v_scopes.specs.declared.entry.Kind.TheVariants as K
use Rattle.v_expr_rules.specs.Walks.{inputs_in}

abbrev pub kind_of : Kind → S.Kind
kind_of K.Input = S.input
kind_of K.Net = S.net
kind_of K.Variable = S.variable
kind_of K.Local = S.local

abbrev pub widths_of : List VLocal → List ℕ
widths_of ls = map (λ (l : VLocal). bits_of l.range) ls

abbrev pub thing : List VItem → Entry → Thing
thing items (N.Value kind left) = value (kind_of kind) (bits_of left) (has_range left)
thing items (N.Memory left) = memory (bits_of left) (has_range left)
thing items (N.Function left item) = function (bits_of left) (widths_of (inputs_in (slice_get items item)))
thing items (N.Result left item) = result (bits_of left) (has_range left) (widths_of (inputs_in (slice_get items item)))
thing items N.Part = part

abbrev pub thing_in : List VItem → Option Entry → Option Thing
thing_in items None = None
thing_in items (Some e) = Some (thing items e)

-- no function leads back
abbrev pub around : Env → List VItem → Around
around env items = record { scope = λ name. thing_in items (env name); leads_back = λ name. false }

-- What is kept of a target, and how it is made of what is kept of its parts.
use Rattle.std.specs.Prelude.{ℕ, suc, Bool, true, false, not, ◌||◌, List, [], ◌∷◌, map, Option, Some, None}
use Rattle.v_tree.specs.StmtRules as R
use Rattle.v_tree.specs.declared.items.VItem.{VItem}
use Rattle.v_tree.specs.declared.statements.VLval.{VLval, VLval-F, fold-VLval}
use Rattle.v_scopes.specs.Env.{Env}
use Rattle.v_scopes.specs.declared.entry.Entry.{Entry}
use Rattle.v_scopes.specs.declared.entry.Entry.TheVariants as N
use Rattle.v_scopes.specs.declared.entry.Kind.{Kind}
use Rattle.v_scopes.specs.declared.entry.Kind.TheVariants as K
use Rattle.v_expr_rules.specs.declared.seen.Seen.{Seen}
use Rattle.v_expr_rules.specs.declared.sels.SelsSeen.{SelsSeen}
use Rattle.v_expr_rules.specs.Seen.{plus, bits_plus, earlier, mark, is_wide, in_context, commas, name_mark, name_bits, is_net, no_sels}
use Rattle.v_expr_rules.specs.Walks.{sel_seen, sels_from}
use Rattle.v_stmt_rules.specs.declared.targets.Procedure.{Procedure}
use Rattle.v_stmt_rules.specs.declared.targets.Procedure.TheVariants as P
use Rattle.v_stmt_rules.specs.declared.targets.TargetSeen.{TargetSeen}

abbrev pub procedure_of : Procedure → R.Procedure
procedure_of P.InFunction = R.in_function
procedure_of P.AtStar = R.at_star
procedure_of P.AtEdges = R.at_edges

abbrev pub is_written_kind : Kind → Bool
is_written_kind K.Input = false
is_written_kind K.Net = false
is_written_kind K.Variable = true
is_written_kind K.Local = true

abbrev pub is_written : Option Entry → Bool
is_written None = true
is_written (Some (N.Value kind left)) = is_written_kind kind
is_written (Some (N.Memory left)) = true
is_written (Some (N.Function left item)) = true
is_written (Some (N.Result left item)) = true
is_written (Some N.Part) = true

abbrev pub is_local_kind : Kind → Bool
is_local_kind K.Input = false
is_local_kind K.Net = false
is_local_kind K.Variable = false
is_local_kind K.Local = true

abbrev pub is_local : Option Entry → Bool
is_local None = false
is_local (Some (N.Value kind left)) = is_local_kind kind
is_local (Some (N.Memory left)) = false
is_local (Some (N.Function left item)) = false
is_local (Some (N.Result left item)) = true
is_local (Some N.Part) = false

abbrev pub name_target : Option Entry → SelsSeen → ℕ → TargetSeen
name_target entry ss at = record {
  size = plus 1 ss.size;
  width = name_bits entry ss;
  broken = earlier (name_mark entry ss at) ss.first;
  by_procedure = mark (not (is_written entry)) at;
  by_assign = earlier (mark (not (is_net entry)) at) ss.moving;
  has_signal = not (is_local entry);
}

abbrev pub no_parts : TargetSeen
no_parts = record { size = 0; width = 0; broken = None; by_procedure = None; by_assign = None; has_signal = false }

abbrev pub part_added : TargetSeen → ℕ → TargetSeen → TargetSeen
part_added ts before t = record {
  size = plus before t.size;
  width = bits_plus ts.width t.width;
  broken = earlier ts.broken t.broken;
  by_procedure = earlier ts.by_procedure t.by_procedure;
  by_assign = earlier ts.by_assign t.by_assign;
  has_signal = ts.has_signal || t.has_signal;
}

abbrev pub concat_target : TargetSeen → TargetSeen
concat_target ts = record {
  size = plus 2 ts.size;
  width = ts.width;
  broken = ts.broken;
  by_procedure = ts.by_procedure;
  by_assign = ts.by_assign;
  has_signal = ts.has_signal;
}

abbrev pub TargetWalk : Type 0
TargetWalk = Env → List VItem → ℕ → TargetSeen

abbrev pub parts_from : List TargetWalk → Env → List VItem → ℕ → ℕ → TargetSeen → TargetSeen
parts_from [] env items start i ts = ts
parts_from (w ∷ ws) env items start i ts =
    parts_from ws env items start (suc i) (part_added ts (commas i ts.size) (w env items (plus start (commas i ts.size))))

abbrev pub target_walk : VLval-F TargetWalk → TargetWalk
target_walk (VLval-F.Name name sels) env items at = name_target (env name) (sels_from (map sel_seen sels) env items (plus at 1) no_sels) at
target_walk (VLval-F.Concat parts) env items at = concat_target (parts_from parts env items (plus at 1) 0 no_parts)

abbrev pub target_seen : VLval → TargetWalk
target_seen = fold-VLval TargetWalk target_walk

abbrev pub assigned : TargetSeen → Seen → Option ℕ
assigned t s = in_context s (is_wide t.width || is_wide s.width)

abbrev pub assign_first : TargetSeen → Seen → Option ℕ
assign_first t s = earlier t.broken (earlier t.by_assign (assigned t s))

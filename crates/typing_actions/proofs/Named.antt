-- Targets that are a name with selects behind it.
use Rattle.std.proofs.Common.{ℕ, Bool, List, refl}
use Rattle.std.specs.Prelude.{Ok, Err}
use Rattle.sv_tree.specs.declared.expressions.Select.{Select}
use Rattle.sv_types.specs.declared.statement.Function.{Function}
use Rattle.expr_type.specs.declared.halt.Halt.{Halt}
use Rattle.expr_type.specs.declared.operand.Valued.{Valued}
use Rattle.expr_type.specs.Names.{Context}
use Rattle.expr_type.specs.Targets.{ToPath, simple_name}
use Rattle.expr_type.specs.Typings.{whole}
use Rattle.typing_steps.specs.Steps.{TypesTo}
use Rattle.typing_steps.proofs.Combining.{checked-fine, checked-stops}
use Rattle.typing_paths.specs.Names.{named_target_of}
use Rattle.typing_assigns.specs.declared.target.Target.TheVariants as T
use Rattle.typing_assigns.specs.Targets.{TargetsTo}
use Rattle.typing_actions.specs.Walks.{path_of_name}

pub path-types : (k : Context) (b : Bool) (name : ℕ) (ss : List Select) (v : Valued) (fs gs : List Function) → TypesTo (Ok v) (named_target_of k b (simple_name name) ss fs) gs
    → TargetsTo (Ok (T.Path v)) (path_of_name k b name ss fs) gs
path-types k b name ss v fs gs p = record {
  target = ToPath v;
  stands = refl;
  gives = checked-fine (named_target_of k b (simple_name name) ss) (λ u. whole (ToPath u)) fs gs gs v (Ok (ToPath v)) p refl;
}

pub path-stops : (k : Context) (b : Bool) (name : ℕ) (ss : List Select) (h : Halt) (fs gs : List Function) → TypesTo {A = Valued} (Err h) (named_target_of k b (simple_name name) ss fs) gs
    → TargetsTo (Err h) (path_of_name k b name ss fs) gs
path-stops k b name ss h fs gs p = checked-stops (named_target_of k b (simple_name name) ss) (λ u. whole (ToPath u)) fs gs h p

pub ruleset paths = (path-types, path-stops)

-- The variable of a loop as what is assigned to.
use Rattle.std.proofs.Common.{◌≡◌, ◌≤◌, ℕ, List, Some, None, refl, sym, ap, ◌∙◌, subst}
use Rattle.std.specs.Prelude.{Ok, Err}
use Rattle.sv_types.specs.declared.expression.Form.TheVariants as F
use Rattle.sv_types.specs.declared.statement.Function.{Function}
use Rattle.sv_types.specs.declared.types.SvType.{SvType}
use Rattle.sv_types.specs.Layouts.{width_of}
use Rattle.expr_type.specs.declared.halt.Halt.TheVariants as H
use Rattle.expr_type.specs.declared.operand.Valued.{Valued}
use Rattle.expr_type.specs.Names.{Context, Source}
use Rattle.expr_type.specs.Operators.{by_itself}
use Rattle.expr_type.specs.Statements.{loop_target}
use Rattle.expr_type.specs.Targets as D
use Rattle.expr_type.specs.Targets.{ToPath}
use Rattle.expr_type.specs.Typings.{Typed}
use Rattle.frame_things.specs.Finding.{local_id}
use Rattle.frame_things.specs.declared.things.NamedLocal.{NamedLocal}
use Rattle.operand_types.specs.Allowed.{IsNarrow}
use Rattle.typing_assigns.specs.declared.target.Target.TheVariants as T
use Rattle.typing_assigns.specs.Targets.{TargetsTo}
use Rattle.typing_fits.specs.Sound.{IsNarrowType}

abbrev as_target : List Function → Valued → Typed D.Target
as_target fs v = record { result = Ok (ToPath v); functions = fs }

pub variable-types : (k : Context) (s : Source) (l : NamedLocal) (name : ℕ) (t : SvType) (v : Valued) → s ≡ k.source → t ≡ l.of → v ≡ by_itself s name t (F.Local l.number)
    → (fs : List Function) → TargetsTo (Ok (T.Path v)) (loop_target k (Some (local_id l)) name fs) fs
variable-types k s l name t v e of is fs =
    let whole : v ≡ by_itself k.source name l.of (F.Local l.number) =
    is ∙ ap (λ (x : Source). by_itself x name t (F.Local l.number)) e ∙ ap (λ (u : SvType). by_itself k.source name u (F.Local l.number)) of in
    record { target = ToPath v; stands = refl; gives = ap (as_target fs) (sym whole) }

pub variable-narrow : (l : NamedLocal) (t : SvType) (v : Valued) → IsNarrowType l.of → t ≡ l.of → v.expr.of ≡ t → IsNarrow v
variable-narrow l t v n of is = subst (λ (u : SvType). width_of u ≤ 4194304) (sym (is ∙ of)) n.narrow

-- none is whole
pub none-quiet : (k : Context) (name : ℕ) (fs : List Function) → TargetsTo (Err H.Quiet) (loop_target k None name fs) fs
none-quiet k name fs = record { quiet = refl; functions = refl }

pub ruleset variables = (none-quiet, variable-narrow)

-- A formal that is put into a scope, and the scope of a body before its formals.
use Rattle.std.proofs.Common.{◌≡◌, List, [], ◌∷◌, Option, Some, None, Bool, true, false, cond, ℕ, refl, sym, ap, ◌∙◌, subst}
use Rattle.std.specs.Prelude.{Result, Ok, Err}
use Rattle.sv_types.specs.declared.frame.ParamValue.{ParamValue}
use Rattle.sv_types.specs.declared.statement.Formal.{Formal}
use Rattle.sv_types.specs.declared.statement.Function.{Function}
use Rattle.sv_types.specs.declared.statement.Way.{Way}
use Rattle.sv_types.specs.declared.types.SvType.{SvType}
use Rattle.expr_type.specs.declared.halt.Halt.{Halt}
use Rattle.expr_type.specs.declared.halt.Halt.TheVariants as H
use Rattle.expr_type.specs.Functions as F
use Rattle.expr_type.specs.Functions.{behind_formal, in_body}
use Rattle.expr_type.specs.Names.{Context, LocalId, local_id, with_locals, with_values}
use Rattle.expr_type.specs.Types.{TypeFound}
use Rattle.expr_type.specs.Typings.{Typed}
use Rattle.typing_scopes.specs.Ahead.{mapped}
use Rattle.typing_steps.specs.Steps.{StopsBy, TypesTo}
use Rattle.typing_declarations.specs.declared.formal_types.Before.{Before}
use Rattle.typing_declarations.specs.declared.formal_types.FormalFound.{FormalFound}
use Rattle.typing_declarations.specs.Formals.{IsPut, before_of, formal_at, formal_of}
use Rattle.typing_declarations.specs.Giving.{plain_result, with_result}
use Rattle.typing_declarations.specs.FormalRows.{IsFormal, IsNoFormal, formal_in}

abbrev with_before : Way → TypeFound → F.Before
with_before way f = record { way = way; of = Some f }

pub put-by : (k i j : Context) (x : FormalFound) (kept : TypeFound) (f : Formal) (b : Before) → kept ≡ x.found → i ≡ with_values (cond x.declares x.found.names []) k → f ≡ formal_at i x.way x.at x.of
    → j ≡ with_locals (local_id i x.at x.of ∷ []) i → before_of b ≡ with_before x.way kept → IsPut f b j k x
put-by k i j x kept f b same context formal behind before = record {
  formal = sym (formal ∙ ap (λ (q : Context). formal_at q x.way x.at x.of) context);
  before = sym (before ∙ ap (with_before x.way) same);
  behind = behind ∙ ap (λ (q : Context). with_locals (local_id q x.at x.of ∷ []) q) context;
}

pub turn-whole : (k j : Context) (o : Result FormalFound Halt) (x : FormalFound) (f : Formal) (b : Before) (t : Typed F.FormalFound) (gs : List Function) → o ≡ Ok x → TypesTo (mapped (formal_of k) o) t gs → IsPut f b j k x
    → IsFormal f (before_of b) j k t gs
turn-whole k j o x f b t gs is p put =
    let gives : TypesTo (Ok (formal_of k x)) t gs = subst (λ (z : Result FormalFound Halt). TypesTo (mapped (formal_of k) z) t gs) is p in
    record { found = formal_of k x; gives = gives; formal = put.formal; before = put.before; behind = put.behind }

pub turn-none : (k : Context) (o : Result FormalFound Halt) (way : Way) (b : F.Before) (t : Typed F.FormalFound) (gs : List Function) → o ≡ Err H.Quiet → b ≡ record { way = way; of = None } → TypesTo (mapped (formal_of k) o) t gs
    → IsNoFormal b way k k t gs
turn-none k o way b t gs is same p = record {
  quiet = subst (λ (z : Result FormalFound Halt). TypesTo (mapped (formal_of k) z) t gs) is p;
  before = same;
  behind = refl;
}

pub turn-breaks : (k : Context) (o : Result FormalFound Halt) (at n : ℕ) (t : Typed F.FormalFound) (gs : List Function) → o ≡ Err (H.Breaks at n) → TypesTo (mapped (formal_of k) o) t gs → StopsBy (H.Breaks at n) t gs
turn-breaks k o at n t gs is p = subst (λ (z : Result FormalFound Halt). TypesTo (mapped (formal_of k) z) t gs) is p

-- the scope of a body before its formals
pub in-none : (k j : Context) (name : ℕ) (plain : Bool) (of : SvType) (names : List ParamValue) → plain ≡ false → j ≡ with_values names k → record j { result = None } ≡ in_body k name (Some (plain_result plain of names))
in-none k j name plain of names is same =
    subst (λ (b : Bool). record j { result = None } ≡ in_body k name (Some (plain_result b of names))) (sym is) (ap (λ (q : Context). record q { result = None }) same)

abbrev named : ℕ → SvType → LocalId
named d t = record { decl = d; number = 0; of = t }

pub own-is : (k j : Context) (name d : ℕ) (t u : SvType) → d ≡ k.declared name → u ≡ t → j ≡ with_locals (record { decl = d; number = 0; of = u } ∷ []) k → record j { result = Some t } ≡ with_result k name t
own-is k j name d t u is same behind =
    ap (λ (q : Context). record q { result = Some t })
    (behind ∙ ap (λ (n : ℕ). with_locals (named n u ∷ []) k) is ∙ ap (λ (x : SvType). with_locals (named (k.declared name) x ∷ []) k) same)

pub in-plain : (k j : Context) (name : ℕ) (plain : Bool) (of : SvType) (names : List ParamValue) → plain ≡ true → j ≡ with_values names k → with_result j name of ≡ in_body k name (Some (plain_result plain of names))
in-plain k j name plain of names is same =
    subst (λ (b : Bool). with_result j name of ≡ in_body k name (Some (plain_result b of names))) (sym is) (ap (λ (q : Context). with_result q name of) same)

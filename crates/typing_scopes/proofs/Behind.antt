-- Declarations behind declarations.
use Rattle.std.proofs.Common.{◌≡◌, ℕ, List, ◌++◌, refl, sym, ap, subst, ◌∙◌, append_assoc}
use Rattle.std.specs.Prelude.{Result}
use Rattle.sv_types.specs.declared.frame.ParamType.{ParamType}
use Rattle.sv_types.specs.declared.frame.ParamValue.{ParamValue}
use Rattle.expr_type.specs.Names.{Called, Context, LocalId, with_values}
use Rattle.expr_type.specs.Statements.{Declared, and_then, behind, nothing}
use Rattle.expr_type.specs.Typings.{Typing}
use Rattle.expr_type.specs.declared.halt.Halt.{Halt}
use Rattle.typing_parts.specs.declared.known.Known.{Known}
use Rattle.typing_parts.specs.Typists.{CalledTo, MakesKnown}

-- a text with these lists
abbrev listed : Context → List ParamValue → List ParamType → List LocalId → Context
listed k vs ts ls = record k { values = vs; types = ts; locals = ls }

-- what stands behind declarations and those behind them, stands behind both
pub behind-joined : (k : Context) (d e : Declared) → behind (behind k d) e ≡ behind k (and_then d e)
behind-joined k d e =
    ap (λ vs. listed k vs (e.types ++ (d.types ++ k.types)) (e.ids ++ (d.ids ++ k.locals))) (sym (append_assoc e.values d.values k.values))
    ∙ ap (λ ts. listed k ((e.values ++ d.values) ++ k.values) ts (e.ids ++ (d.ids ++ k.locals))) (sym (append_assoc e.types d.types k.types))
    ∙ ap (λ ls. listed k ((e.values ++ d.values) ++ k.values) ((e.types ++ d.types) ++ k.types) ls) (sym (append_assoc e.ids d.ids k.locals))

-- no declarations change nothing
pub behind-nothing : (k : Context) → behind k nothing ≡ k
behind-nothing k = refl

-- values alone
pub behind-values : (k : Context) (vs : List ParamValue) → behind k (record nothing { values = vs }) ≡ with_values vs k
behind-values k vs = refl

pub values-joined : (k : Context) (vs ws : List ParamValue) → with_values ws (with_values vs k) ≡ with_values (ws ++ vs) k
values-joined k vs ws = ap (λ xs. record k { values = xs }) (sym (append_assoc ws vs k.values))

-- Declarations change neither the source nor the routines of a text, nor what a name finds in it.
pub routine-behind : (k : Context) (d : Declared) → (behind k d).routine ≡ k.routine
routine-behind k d = refl

pub source-behind : (k : Context) (d : Declared) → (behind k d).source ≡ k.source
source-behind k d = refl

-- what makes the functions of a text known, makes those of another text with the same routines known
pub needs-alike : (S : Type 0) (callable : Type 0) (held : S → Known) (post : ℕ → S → Result ℕ Halt → S → Type 0) (j k : Context) → j.routine ≡ k.routine → MakesKnown S callable held post k → MakesKnown S callable held post j
needs-alike S callable held post j k e m = record {
  always = m.always;
  gives = λ n s r t ready done. subst (λ (f : ℕ → Typing Called). CalledTo r (f n (held s).functions) (held t).functions) (sym e) (m.gives n s r t ready done);
  ready = m.ready;
  keeps = m.keeps;
}

-- so it makes known what is called behind declarations
pub needs-behind : (S : Type 0) (callable : Type 0) (held : S → Known) (post : ℕ → S → Result ℕ Halt → S → Type 0) (j k : Context) (d : Declared) → j ≡ behind k d → MakesKnown S callable held post k → MakesKnown S callable held post j
needs-behind S callable held post j k d e = needs-alike S callable held post j k (ap (λ (x : Context). x.routine) e)

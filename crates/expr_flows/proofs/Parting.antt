-- Targets that are concatenations or streams.
use Rattle.std.proofs.Common.{◌≡◌, inl, inr, ℕ, suc, Bool, true, ◌&&◌, List, [], ◌∷◌, map, Result, Ok, Err, refl, ap, sym, ◌∙◌, subst}
use Rattle.row_machine.specs.Valuation.{Member}
use Rattle.bit_sets.specs.declared.span.Use.{Use}
use Rattle.sv_types.specs.declared.expression.Expr.{Expr}
use Rattle.sv_types.specs.declared.expression.Form.{Form, Form-F, out-Form}
use Rattle.sv_types.specs.declared.expression.Form.TheVariants as V
use Rattle.sv_types.specs.Layouts.{Layout, layout}
use Rattle.sv_types.specs.Surroundings.{Parameter, Sight}
use Rattle.sv_types.specs.Meanings.{Meaning, total, use_of, writes_of}
use Rattle.sv_types.specs.Operators as O
use Rattle.sv_types.specs.Flows.{all_indices, all_writes}
use Rattle.sv_types.specs.Expressions.{meaning}
use Rattle.sv_types.proofs.Levels as L
use Rattle.eval_parts.specs.declared.path_steps.Step.{Step}
use Rattle.eval_parts.specs.Limits.{Fits, AllFit}
use Rattle.eval_parts.specs.Steps.{IsStep}
use Rattle.eval_parts.proofs.Lists as Q
use Rattle.eval_parts.proofs.Nodes as N
use Rattle.eval_parts.proofs.Nodes.{nodes}
use Rattle.eval_parts.proofs.Steps.{at-form}
use Rattle.eval_parts.proofs.Streaming as T
use Rattle.eval_forms.specs.Asked.{Asked, alone_asked, form_asked}
use Rattle.eval_forms.proofs.Strict as K
use Rattle.flow_sets.specs.declared.uses.Write.{Write}
use Rattle.expr_flows.specs.declared.fails.FlowFail.{FlowFail}
use Rattle.expr_flows.specs.declared.fails.FlowFail.TheVariants as F
use Rattle.expr_flows.specs.declared.known.Known.{Known}
use Rattle.expr_flows.specs.declared.traced.Traced.{Traced}
use Rattle.expr_flows.specs.Known.{sight}
use Rattle.expr_flows.specs.Full.{is_full, all_full, every}
use Rattle.expr_flows.specs.Traces.{IsTraced, prefix_of}
use Rattle.expr_flows.specs.Reads.{IsOperand, LongIndex, ReadFails}
use Rattle.expr_flows.specs.Targets.{IsJoined, TargetGives, TargetsGive, TargetsFail}
use Rattle.expr_flows.proofs.Adding as D
use Rattle.expr_flows.proofs.FullLevels as U
use Rattle.expr_flows.proofs.Paths as P
use Rattle.expr_flows.proofs.Writing as W

-- what is known of the parts
pub record Parted (e : Expr) (es : List Expr) : Type 0 where
  pub nodes : nodes e ≡ suc (total (map nodes es))
  pub fits : (fs : ℕ → List Parameter) (w : ℕ) → Fits (meaning e) fs w → AllFit es fs
  pub full : (fs : ℕ → List Parameter) → is_full fs e ≡ true → all_full fs es ≡ true
  pub indices : (k : Sight) → (meaning e).indices k ≡ all_indices (map meaning es) k
  pub writes : (k : Sight) → (meaning e).writes k ≡ all_writes (map meaning es) k
  pub operand : (x : Expr) → Member es x → IsOperand x e

every-mapped : (fs : ℕ → List Parameter) (es : List Expr) → every (map (is_full fs) es) ≡ all_full fs es
every-mapped fs [] = refl
every-mapped fs (e ∷ es) = ap (λ b. is_full fs e && b) (every-mapped fs es)

asked-alone : (es : List Expr) → map (λ (q : Asked). q.of) (map alone_asked es) ≡ es
asked-alone [] = refl
asked-alone (e ∷ es) = ap (λ xs. e ∷ xs) (asked-alone es)

no-formals : ℕ → List Parameter
no-formals n = []

operand-of : (e : Expr) (f : Form) (y : _) (es : List Expr) (x : Expr) → e.form ≡ f → out-Form f ≡ y → form_asked (layout e.of) no-formals 0 true y ≡ map alone_asked es → Member es x → IsOperand x e
operand-of e f y es x is out asks m = record {
  formals = no-formals;
  width = 0;
  signed = true;
  here = subst (λ qs. Member (map (λ (q : Asked). q.of) qs) x) (sym asks ∙ K.asked-by e f y no-formals 0 true is out) (subst (λ xs. Member xs x) (sym (asked-alone es)) m);
}

in-concat : (of : Layout) (at : ℕ) (ms : List Meaning) (k : Sight) → ((O.concat of at ms).indices k ≡ all_indices ms k) × ((O.concat of at ms).writes k ≡ all_writes ms k)
unfolding O.concat
in-concat of at ms k = (refl, refl)

in-stream : (of : Layout) (at : ℕ) (reversed : Bool) (n : ℕ) (ms : List Meaning) (k : Sight) → ((O.stream of at reversed n ms).indices k ≡ all_indices ms k) × ((O.stream of at reversed n ms).writes k ≡ all_writes ms k)
unfolding O.stream
in-stream of at reversed n ms k = (refl, refl)

parted-concat : (e : Expr) (es : List Expr) → e.form ≡ V.Concat es → Parted e es
parted-concat e es is =
    let at : meaning e ≡ O.concat (layout e.of) e.spot.at (map meaning es) = at-form e (V.Concat es) _ is (L.form-Concat es) in
    record {
      nodes = N.nodes-Concat e es is;
      fits = λ fs w f. Q.concat-fits e es fs w is f;
      full = λ fs h. sym (every-mapped fs es) ∙ sym (U.full-Concat fs e es is) ∙ h;
      indices = λ k. ap (λ (m : Meaning). m.indices k) at ∙ (in-concat (layout e.of) e.spot.at (map meaning es) k).0;
      writes = λ k. ap (λ (m : Meaning). m.writes k) at ∙ (in-concat (layout e.of) e.spot.at (map meaning es) k).1;
      operand = λ x m. operand-of e (V.Concat es) (Form-F.Concat es) es x is (K.out-Concat es) refl m;
    }

parted-stream : (e : Expr) (reversed : Bool) (n : ℕ) (es : List Expr) → e.form ≡ V.Stream reversed n es → Parted e es
parted-stream e reversed n es is =
    let at : meaning e ≡ O.stream (layout e.of) e.spot.at reversed n (map meaning es) = at-form e (V.Stream reversed n es) _ is (L.form-Stream reversed n es) in
    record {
      nodes = N.nodes-Stream e reversed n es is;
      fits = λ fs w f. T.stream-fits e reversed n es fs w is f;
      full = λ fs h. sym (every-mapped fs es) ∙ sym (U.full-Stream fs e reversed n es is) ∙ h;
      indices = λ k. ap (λ (m : Meaning). m.indices k) at ∙ (in-stream (layout e.of) e.spot.at reversed n (map meaning es) k).0;
      writes = λ k. ap (λ (m : Meaning). m.writes k) at ∙ (in-stream (layout e.of) e.spot.at reversed n (map meaning es) k).1;
      operand = λ x m. operand-of e (V.Stream reversed n es) (Form-F.Stream reversed n es) es x is (K.out-Stream reversed n es) refl m;
    }

pub parted : (e : Expr) (es : List Expr) → IsJoined es e → Parted e es
parted e es (inl is) = parted-concat e es is
parted e es (inr s) = parted-stream e s.0 s.1 es s.2

pub parts-give : (r : Result (Unit {0}) FlowFail) (k : Known) (e : Expr) (es : List Expr) (us vs : List Use) (ws xs : List Write) → IsJoined es e → TargetsGive r k es us vs ws xs → TargetGives r k e us vs ws xs
parts-give (Ok u) k e es us vs ws xs joined h =
    let p = parted e es joined in record { reads = D.at us vs _ _ (sym (p.indices (sight k))) h.reads; writes = W.at ws xs _ _ (sym (p.writes (sight k))) h.writes }
parts-give (Err F.Memory) k e es us vs ws xs joined h = tt
parts-give (Err (F.TooLong at)) k e es us vs ws xs joined h = LongIndex.Inside e h.expr at ((parted e es joined).operand h.expr h.stands) h.long

-- one of some targets
pub some-fails : (f : FlowFail) (k : Known) (es : List Expr) (x : Expr) → Member es x → ReadFails f k x → TargetsFail f k es
some-fails F.Memory k es x m h = tt
some-fails (F.TooLong at) k es x m h = record { expr = x; stands = m; long = h }

-- a select path
pub path-writes : (e : Expr) (s : Step) (k : Known) (t : Traced) → IsStep s e → IsTraced t k (meaning e) → writes_of t.exact (use_of t.root e.spot.at (prefix_of t)) ≡ (meaning e).writes (sight k)
path-writes e s k t step traced =
    let m = meaning e in
    ap (λ r. writes_of t.exact (use_of r e.spot.at (prefix_of t))) (sym traced.root) ∙ ap (λ p. writes_of p.exact (use_of m.root e.spot.at p)) (sym traced.prefix) ∙ sym (P.writes-are e s (sight k) step)

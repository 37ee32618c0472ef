-- What is known of select paths, step by step.
use Rattle.std.proofs.Common.{◌≡◌, ℕ, ℤ, Bool, true, false, ◌&&◌, cond, List, [], ◌++◌, length, Option, Some, None, refl, ap, sym, ◌∙◌, subst}
use Rattle.std.specs.Prelude.{slice_get}
use Rattle.std.proofs.Math.Bool.{and-true}
use Rattle.sv_types.specs.declared.expression.Expr.{Expr}
use Rattle.sv_types.specs.declared.expression.Form.TheVariants as V
use Rattle.sv_types.specs.Layouts.{Layout, layout}
use Rattle.sv_types.specs.Windows.{Window, whole, member_of, element_of, between, slide}
use Rattle.sv_types.specs.Surroundings.{Sight, Use, local_number}
use Rattle.sv_types.specs.Meanings.{Meaning, Path, Prefix, selected, root_sure, use_of, writes_of}
use Rattle.sv_types.specs.Paths as P
use Rattle.sv_types.specs.Paths.{reads_from, known_base, narrowed, fixed_step, indexed_step, index_of, root_path}
use Rattle.sv_types.specs.Expressions.{meaning}
use Rattle.sv_types.proofs.Heads.{heads}
use Rattle.eval_parts.specs.declared.path_steps.Step.{Step}
use Rattle.eval_parts.specs.Places.{IsNear}
use Rattle.eval_parts.specs.Steps.{IsStep}
use Rattle.eval_parts.proofs.Selecting as S
use Rattle.expr_flows.specs.declared.known.Known.{Known}
use Rattle.expr_flows.specs.declared.traced.Traced.{Traced}
use Rattle.expr_flows.specs.declared.traced.Index.{Index}
use Rattle.expr_flows.specs.declared.traced.Index.TheVariants as I
use Rattle.expr_flows.specs.Known.{sight}
use Rattle.expr_flows.specs.Traces.{IsTraced, IsIndex, prefix_of, stepped}

-- finding a path takes the reads of its indices
from-path : (r : Option ℕ) (of : Layout) (at : ℕ) (p : Path) (k : Sight) → p.root ≡ r → reads_from r (selected of at p) k ≡ p.indices k
from-path None of at p k is = ap (λ o. cond (root_sure o k) [] (use_of o at (p.prefix k)) ++ p.indices k) is
from-path (Some n) of at p k is = refl

-- a path reads what it takes to find it, and the bits that it names, unless they are sure
abbrev pub own_reads : Meaning → Sight → List Use
own_reads m k = cond (root_sure m.root k) [] (use_of m.root m.at (m.prefix k))

split : (m : Meaning) (of : Layout) (at : ℕ) (k : Sight) → S.Selects m of at → m.reads k ≡ cond (root_sure m.root k) [] (use_of m.root at (m.prefix k)) ++ reads_from m.root m k
split m of at k s =
    subst (λ (n : Meaning). n.reads k ≡ cond (root_sure n.root k) [] (use_of n.root at (n.prefix k)) ++ reads_from n.root n k) (sym s.is)
    (ap (λ us. cond (root_sure s.path.root k) [] (use_of s.path.root at (s.path.prefix k)) ++ us) (sym (from-path s.path.root of at s.path k refl)))

pub reads-split : (e : Expr) (s : Step) (k : Sight) → IsStep s e
    → (meaning e).reads k ≡ cond (root_sure (meaning e).root k) [] (use_of (meaning e).root e.spot.at ((meaning e).prefix k)) ++ reads_from (meaning e).root (meaning e) k
reads-split e s k step = split (meaning e) (layout e.of) e.spot.at k (S.selects s e step)

-- as a target it reads what it takes to find it, and writes the bits that it names
as-target : (m : Meaning) (of : Layout) (at : ℕ) (k : Sight) → S.Selects m of at → m.indices k ≡ reads_from m.root m k
as-target m of at k s = subst (λ (n : Meaning). n.indices k ≡ reads_from n.root n k) (sym s.is) (sym (from-path s.path.root of at s.path k refl))

pub indices-are : (e : Expr) (s : Step) (k : Sight) → IsStep s e → (meaning e).indices k ≡ reads_from (meaning e).root (meaning e) k
indices-are e s k step = as-target (meaning e) (layout e.of) e.spot.at k (S.selects s e step)

pub writes-are : (e : Expr) (s : Step) (k : Sight) → IsStep s e → (meaning e).writes k ≡ writes_of ((meaning e).prefix k).exact (use_of (meaning e).root e.spot.at ((meaning e).prefix k))
writes-are e s k step =
    let p = S.selects s e step in subst (λ (n : Meaning). n.writes k ≡ writes_of (n.prefix k).exact (use_of n.root e.spot.at (n.prefix k))) (sym p.is) refl

-- whole signals and locals
root-traced : (of : Layout) (at n : ℕ) (t : Traced) (k : Known) → t.root ≡ Some n → prefix_of t ≡ record { window = whole (length of.two_state); exact = true } → t.base ≡ true → IsNear t.window.shift
    → IsTraced t k (selected of at (root_path n of))
root-traced of at n t k root prefix base near = record {
  root = sym root;
  prefix = sym prefix;
  constant = sym (ap (λ (p : Prefix). p.exact && (t.base && root_sure (Some n) (sight k))) prefix ∙ ap (λ b. b && root_sure (Some n) (sight k)) base);
  near = near;
}

signal-at : (of : Layout) (at n : ℕ) (t : Traced) (k : Known) → t.root ≡ Some n → prefix_of t ≡ record { window = whole (length of.two_state); exact = true } → t.base ≡ true → IsNear t.window.shift
    → IsTraced t k (P.signal of at n) × (reads_from (P.signal of at n).root (P.signal of at n) (sight k) ≡ [])
unfolding P.signal
signal-at of at n t k root prefix base near = (root-traced of at n t k root prefix base near, refl)

local-at : (of : Layout) (at n : ℕ) (t : Traced) (k : Known) → t.root ≡ Some (local_number n) → prefix_of t ≡ record { window = whole (length of.two_state); exact = true } → t.base ≡ true → IsNear t.window.shift
    → IsTraced t k (P.local of at n) × (reads_from (P.local of at n).root (P.local of at n) (sight k) ≡ [])
unfolding P.local
local-at of at n t k root prefix base near = (root-traced of at (local_number n) t k root prefix base near, refl)

abbrev pub Traces : Traced → Known → Meaning → List Use → Type 0
Traces t k m us = IsTraced t k m × (reads_from m.root m (sight k) ≡ us)

pub traced-signal : (e : Expr) (n : ℕ) (t : Traced) (k : Known) → e.form ≡ V.Signal n → t.root ≡ Some n → prefix_of t ≡ record { window = whole (length (layout e.of).two_state); exact = true } → t.base ≡ true → IsNear t.window.shift → Traces t k (meaning e) []
traced-signal e n t k is root prefix base near = subst (λ m. Traces t k m []) (sym (S.same-Signal e n is)) (signal-at (layout e.of) e.spot.at n t k root prefix base near)

pub traced-local : (e : Expr) (n : ℕ) (t : Traced) (k : Known) → e.form ≡ V.Local n → t.root ≡ Some (local_number n) → prefix_of t ≡ record { window = whole (length (layout e.of).two_state); exact = true } → t.base ≡ true → IsNear t.window.shift
    → Traces t k (meaning e) []
traced-local e n t k is root prefix base near = subst (λ m. Traces t k m []) (sym (S.same-Local e n is)) (local-at (layout e.of) e.spot.at n t k root prefix base near)

-- whether what a step selects from is known
base-by : (r : Option ℕ) (k : Sight) (a b : Bool) → known_base r (a && (b && root_sure r k)) ≡ known_base r (a && b)
base-by None k a b = ap (λ c. a && c) (and-true b)
base-by (Some n) k a b = refl

-- what a further step is given: the same root, and what is known of what it selects from
pub record Further (from t : Traced) : Type 0 where
  pub root : t.root ≡ from.root
  pub base : t.base ≡ known_base from.root (from.exact && from.base)
  pub near : IsNear t.window.shift

base-is : (x : Meaning) (from t : Traced) (k : Known) → IsTraced from k x → Further from t → known_base x.root (x.constant (sight k)) ≡ t.base
base-is x from t k h f =
    ap (known_base x.root) h.constant ∙ base-by x.root (sight k) from.exact from.base ∙ ap (λ r. known_base r (from.exact && from.base)) h.root ∙ sym f.base

constant-is : (x : Meaning) (from t : Traced) (k : Known) (p : Prefix) → p ≡ prefix_of t → IsTraced from k x → Further from t
    → (p.exact && (known_base x.root (x.constant (sight k)) && root_sure x.root (sight k))) ≡ (t.exact && (t.base && root_sure x.root (sight k)))
constant-is x from t k p is h f =
    ap (λ (q : Prefix). q.exact && (known_base x.root (x.constant (sight k)) && root_sure x.root (sight k))) is ∙ ap (λ b. t.exact && (b && root_sure x.root (sight k))) (base-is x from t k h f)

fixed-traced : (of : Layout) (at : ℕ) (step : Window → Window) (misfits : ℕ) (x : Meaning) (from t : Traced) (k : Known) (us : List Use) → Traces from k x us → Further from t → prefix_of t ≡ narrowed step (prefix_of from)
    → Traces t k (selected of at (fixed_step step misfits x)) us
fixed-traced of at step misfits x from t k us h f prefix =
    let is = ap (narrowed step) h.0.prefix ∙ sym prefix in (
      record {
        root = h.0.root ∙ sym f.root;
        prefix = is;
        constant = constant-is x from t k (narrowed step (x.prefix (sight k))) is h.0 f;
        near = f.near;
      },
      from-path x.root of at (fixed_step step misfits x) (sight k) refl ∙ h.1,
    )

-- a step by an index
by-index : (index : Index) (step : Option ℤ → Window → Window) (i : Meaning) (k : Known) (p : Prefix) → IsIndex index k i
    → cond (i.constant (sight k)) (narrowed (step (index_of i (sight k).around)) p) (record { window = p.window; exact = false }) ≡ stepped step index p
by-index I.Variable step i k p h = ap (λ b. cond b (narrowed (step (index_of i (sight k).around)) p) (record { window = p.window; exact = false })) h
by-index (I.Fixed o) step i k p h =
    ap (λ b. cond b (narrowed (step (index_of i (sight k).around)) p) (record { window = p.window; exact = false })) h.0 ∙ ap (λ j. narrowed (step j) p) (sym h.1)

indexed-traced : (of : Layout) (at : ℕ) (step : Option ℤ → Window → Window) (misfits : ℕ) (x i : Meaning) (from t : Traced) (index : Index) (k : Known) (us : List Use) → Traces from k x us → IsIndex index k i → Further from t
    → prefix_of t ≡ stepped step index (prefix_of from) → Traces t k (selected of at (indexed_step step misfits x i)) (us ++ i.reads (sight k))
indexed-traced of at step misfits x i from t index k us h g f prefix =
    let is = by-index index step i k (x.prefix (sight k)) g ∙ ap (stepped step index) h.0.prefix ∙ sym prefix in (
      record {
        root = h.0.root ∙ sym f.root;
        prefix = is;
        constant = constant-is x from t k _ is h.0 f;
        near = f.near;
      },
      from-path x.root of at (indexed_step step misfits x i) (sight k) refl ∙ ap (λ vs. vs ++ i.reads (sight k)) h.1,
    )

member-at : (of : Layout) (at : ℕ) (x : Meaning) (n : ℕ) (from t : Traced) (k : Known) (us : List Use) → Traces from k x us → Further from t → prefix_of t ≡ narrowed (member_of (slice_get x.of.members n)) (prefix_of from) → Traces t k (P.member of at x n) us
unfolding P.member
member-at of at x n from t k us h f prefix = fixed-traced of at (member_of (slice_get x.of.members n)) _ x from t k us h f prefix

part-at : (of : Layout) (at : ℕ) (x : Meaning) (left right : ℤ) (from t : Traced) (k : Known) (us : List Use) → Traces from k x us → Further from t → prefix_of t ≡ narrowed (between x.of left right) (prefix_of from) → Traces t k (P.part_select of at x left right) us
unfolding P.part_select
part-at of at x left right from t k us h f prefix = fixed-traced of at (between x.of left right) _ x from t k us h f prefix

index-at : (of : Layout) (at : ℕ) (x i : Meaning) (from t : Traced) (index : Index) (k : Known) (us : List Use) → Traces from k x us → IsIndex index k i → Further from t → prefix_of t ≡ stepped (element_of x.of) index (prefix_of from)
    → Traces t k (P.index of at x i) (us ++ i.reads (sight k))
unfolding P.index
index-at of at x i from t index k us h g f prefix = indexed-traced of at (element_of x.of) _ x i from t index k us h g f prefix

slide-at : (of : Layout) (at : ℕ) (x i : Meaning) (n : ℕ) (up : Bool) (from t : Traced) (index : Index) (k : Known) (us : List Use) → Traces from k x us → IsIndex index k i → Further from t → prefix_of t ≡ stepped (slide x.of up n) index (prefix_of from)
    → Traces t k (P.sliding of at x i n up) (us ++ i.reads (sight k))
unfolding P.sliding
slide-at of at x i n up from t index k us h g f prefix = indexed-traced of at (slide x.of up n) _ x i from t index k us h g f prefix

-- the types of what is selected from are those of the expression
of-type : (x : Expr) → layout x.of ≡ (meaning x).of
of-type x = sym (heads x).kind

pub traced-member : (e x : Expr) (n : ℕ) (from t : Traced) (k : Known) (us : List Use) → e.form ≡ V.Member x n → Traces from k (meaning x) us → Further from t → prefix_of t ≡ narrowed (member_of (slice_get (layout x.of).members n)) (prefix_of from) → Traces t k (meaning e) us
traced-member e x n from t k us is h f prefix =
    subst (λ m. Traces t k m us) (sym (S.same-Member e x n is))
    (member-at (layout e.of) e.spot.at (meaning x) n from t k us h f (prefix ∙ ap (λ (l : Layout). narrowed (member_of (slice_get l.members n)) (prefix_of from)) (of-type x)))

pub traced-part : (e x : Expr) (left right : ℤ) (from t : Traced) (k : Known) (us : List Use) → e.form ≡ V.Part x left right → Traces from k (meaning x) us → Further from t → prefix_of t ≡ narrowed (between (layout x.of) left right) (prefix_of from) → Traces t k (meaning e) us
traced-part e x left right from t k us is h f prefix =
    subst (λ m. Traces t k m us) (sym (S.same-Part e x left right is))
    (part-at (layout e.of) e.spot.at (meaning x) left right from t k us h f (prefix ∙ ap (λ (l : Layout). narrowed (between l left right) (prefix_of from)) (of-type x)))

pub traced-index : (e x i : Expr) (from t : Traced) (index : Index) (k : Known) (us : List Use) → e.form ≡ V.Index x i → Traces from k (meaning x) us → IsIndex index k (meaning i) → Further from t → prefix_of t ≡ stepped (element_of (layout x.of)) index (prefix_of from)
    → Traces t k (meaning e) (us ++ (meaning i).reads (sight k))
traced-index e x i from t index k us is h g f prefix =
    subst (λ m. Traces t k m (us ++ (meaning i).reads (sight k))) (sym (S.same-Index e x i is))
    (index-at (layout e.of) e.spot.at (meaning x) (meaning i) from t index k us h g f (prefix ∙ ap (λ (l : Layout). stepped (element_of l) index (prefix_of from)) (of-type x)))

pub traced-slide : (e x i : Expr) (n : ℕ) (up : Bool) (from t : Traced) (index : Index) (k : Known) (us : List Use) → e.form ≡ V.Slide x i n up → Traces from k (meaning x) us → IsIndex index k (meaning i) → Further from t
    → prefix_of t ≡ stepped (slide (layout x.of) up n) index (prefix_of from) → Traces t k (meaning e) (us ++ (meaning i).reads (sight k))
traced-slide e x i n up from t index k us is h g f prefix =
    subst (λ m. Traces t k m (us ++ (meaning i).reads (sight k))) (sym (S.same-Slide e x i n up is))
    (slide-at (layout e.of) e.spot.at (meaning x) (meaning i) n up from t index k us h g f (prefix ∙ ap (λ (l : Layout). stepped (slide l up n) index (prefix_of from)) (of-type x)))

-- One flow after another: a monoid.
use Rattle.std.proofs.Common.{◌≡◌, ℕ, ◌+◌, Bool, true, false, ◌&&◌, ◌||◌, not, cond, List, [], ◌++◌, refl, arith, ap, ◌∙◌, append_assoc, append-nil}
use Rattle.std.proofs.Math.Path.{fun_ext}
use Rattle.std.proofs.Math.Bool.{and-true}
use Rattle.row_machine.specs.Valuation.{Place}
use Rattle.sv_types.specs.declared.statement.Outcome.{Outcome}
use Rattle.sv_types.specs.declared.statement.Outcome.TheVariants as O
use Rattle.sv_types.specs.Surroundings.{Use, Write}
use Rattle.sv_types.specs.Runs.{is_normal}
use Rattle.sv_types.specs.Flows.{Flow, nothing, and_then}

-- a flow by its fields
made : List Use → List Write → List Write → (Outcome → Bool) → (Outcome → Place → Bool) → (Place → List ℕ) → List ℕ → Bool → ℕ → Flow
made reads writes later ends slips early unset unrolls statements = record {
  reads = reads;
  writes = writes;
  later = later;
  ends = ends;
  slips = slips;
  early = early;
  unset = unset;
  unrolls = unrolls;
  statements = statements;
}

-- two flows with the same fields
pub record Alike (f g : Flow) : Type 0 where
  pub reads : f.reads ≡ g.reads
  pub writes : f.writes ≡ g.writes
  pub later : f.later ≡ g.later
  pub ends : (o : Outcome) → f.ends o ≡ g.ends o
  pub slips : (o : Outcome) (q : Place) → f.slips o q ≡ g.slips o q
  pub early : (q : Place) → f.early q ≡ g.early q
  pub unset : f.unset ≡ g.unset
  pub unrolls : f.unrolls ≡ g.unrolls
  pub statements : f.statements ≡ g.statements

pub same : (f g : Flow) → Alike f g → f ≡ g
unfolding made
same f g a =
    ap (λ x. made x f.writes f.later f.ends f.slips f.early f.unset f.unrolls f.statements) a.reads
    ∙ ap (λ x. made g.reads x f.later f.ends f.slips f.early f.unset f.unrolls f.statements) a.writes
    ∙ ap (λ x. made g.reads g.writes x f.ends f.slips f.early f.unset f.unrolls f.statements) a.later
    ∙ ap (λ x. made g.reads g.writes g.later x f.slips f.early f.unset f.unrolls f.statements) (fun_ext (λ o. a.ends o))
    ∙ ap (λ x. made g.reads g.writes g.later g.ends x f.early f.unset f.unrolls f.statements) (fun_ext (λ o. fun_ext (λ q. a.slips o q)))
    ∙ ap (λ x. made g.reads g.writes g.later g.ends g.slips x f.unset f.unrolls f.statements) (fun_ext (λ q. a.early q))
    ∙ ap (λ x. made g.reads g.writes g.later g.ends g.slips g.early x f.unrolls f.statements) a.unset
    ∙ ap (λ x. made g.reads g.writes g.later g.ends g.slips g.early g.unset x f.statements) a.unrolls
    ∙ ap (λ x. made g.reads g.writes g.later g.ends g.slips g.early g.unset g.unrolls x) a.statements

-- ends: one path and then another
through : Bool → (Outcome → Bool) → (Outcome → Bool) → Outcome → Bool
through goes first then_ o = (goes && then_ o) || (not (is_normal o) && first o)

-- nothing in front
or-false : (b : Bool) → (b || false) ≡ b
or-false true = refl
or-false false = refl

before-ends : (g : Outcome → Bool) (o : Outcome) → ((true && g o) || (not (is_normal o) && is_normal o)) ≡ g o
before-ends g O.Normal = or-false (g O.Normal)
before-ends g O.Break = or-false (g O.Break)
before-ends g O.Continue = or-false (g O.Continue)
before-ends g O.Return = or-false (g O.Return)

pub nothing-then : (f : Flow) → and_then nothing f ≡ f
nothing-then f = same (and_then nothing f) f (record {
  reads = refl;
  writes = refl;
  later = refl;
  ends = λ o. before-ends f.ends o;
  slips = λ o q. before-ends (λ j. f.slips j q) o;
  early = λ q. refl;
  unset = refl;
  unrolls = refl;
  statements = let e : 0 + f.statements ≡ f.statements = omega arith in e;
})

-- nothing behind
behind-ends : (f : Outcome → Bool) (o : Outcome) → ((f O.Normal && is_normal o) || (not (is_normal o) && f o)) ≡ f o
behind-ends f O.Normal = or-false (f O.Normal && true) ∙ and-true (f O.Normal)
behind-ends f O.Break = none (f O.Normal) (f O.Break)
  where
    none : (a b : Bool) → ((a && false) || b) ≡ b
    none true b = refl
    none false b = refl
behind-ends f O.Continue = none (f O.Normal) (f O.Continue)
  where
    none : (a b : Bool) → ((a && false) || b) ≡ b
    none true b = refl
    none false b = refl
behind-ends f O.Return = none (f O.Normal) (f O.Return)
  where
    none : (a b : Bool) → ((a && false) || b) ≡ b
    none true b = refl
    none false b = refl

same-either-way : {A : Type 0} (b : Bool) (x : A) → cond b x x ≡ x
same-either-way true x = refl
same-either-way false x = refl

pub then-nothing : (f : Flow) → and_then f nothing ≡ f
then-nothing f = same (and_then f nothing) f (record {
  reads = append-nil f.reads;
  writes = append-nil f.writes;
  later = append-nil f.later;
  ends = λ o. behind-ends f.ends o;
  slips = λ o q. behind-ends (λ j. f.slips j q) o;
  early = λ q. ap (λ ts. f.early q ++ ts) (same-either-way (f.slips O.Normal q) []) ∙ append-nil (f.early q);
  unset = ap (λ ts. f.unset ++ ts) (same-either-way (f.ends O.Normal) []) ∙ append-nil f.unset;
  unrolls = and-true f.unrolls;
  statements = let e : f.statements + 0 ≡ f.statements = omega arith in e;
})

-- three in a row
ends-row : (f g h : Outcome → Bool) (o : Outcome)
    → ((((f O.Normal && g O.Normal) || (not (is_normal O.Normal) && f O.Normal)) && h o) || (not (is_normal o) && ((f O.Normal && g o) || (not (is_normal o) && f o))))
    ≡ ((f O.Normal && ((g O.Normal && h o) || (not (is_normal o) && g o))) || (not (is_normal o) && f o))
ends-row f g h o = by (f O.Normal) (g O.Normal) (f o) (g o) (h o) (is_normal o)
  where
    by : (a b c d e n : Bool) → ((((a && b) || (false && a)) && e) || (not n && ((a && d) || (not n && c)))) ≡ ((a && ((b && e) || (not n && d))) || (not n && c))
    by true true c d true true = refl
    by true true c d false true = refl
    by true true c d true false = refl
    by true true c d false false = refl
    by true false c d e true = refl
    by true false c d e false = refl
    by false b c d e true = refl
    by false b c d e false = refl

tokens-row : (a b : Bool) (xs ys zs : List ℕ) → (xs ++ cond a ys []) ++ cond ((a && b) || (false && a)) zs [] ≡ xs ++ cond a (ys ++ cond b zs []) []
tokens-row true true xs ys zs = append_assoc xs ys zs
tokens-row true false xs ys zs = append_assoc xs ys []
tokens-row false b xs ys zs = append-nil (xs ++ [])

all-three : (a b c : Bool) → ((a && b) && c) ≡ (a && (b && c))
all-three true b c = refl
all-three false b c = refl

pub in-a-row : (f g h : Flow) → and_then (and_then f g) h ≡ and_then f (and_then g h)
in-a-row f g h = same (and_then (and_then f g) h) (and_then f (and_then g h)) (record {
  reads = append_assoc f.reads g.reads h.reads;
  writes = append_assoc f.writes g.writes h.writes;
  later = append_assoc f.later g.later h.later;
  ends = λ o. ends-row f.ends g.ends h.ends o;
  slips = λ o q. ends-row (λ j. f.slips j q) (λ j. g.slips j q) (λ j. h.slips j q) o;
  early = λ q. tokens-row (f.slips O.Normal q) (g.slips O.Normal q) (f.early q) (g.early q) (h.early q);
  unset = tokens-row (f.ends O.Normal) (g.ends O.Normal) f.unset g.unset h.unset;
  unrolls = all-three f.unrolls g.unrolls h.unrolls;
  statements = let e : (f.statements + g.statements) + h.statements ≡ f.statements + (g.statements + h.statements) = omega arith in e;
})

-- The items of a `case`, one after the other.
use Rattle.std.proofs.Common.{◌≡◌, ℕ, Bool, true, false, cond, ◌||◌, List, [], ◌∷◌, map, Option, refl, ap, sym, ◌∙◌, subst}
use Rattle.std.specs.List.{list_any}
use Rattle.b4_core.specs.declared.bit.Bit4.{Bit4}
use Rattle.sv_types.specs.declared.expression.Expr.{Expr}
use Rattle.sv_types.specs.declared.statement.CaseKind.{CaseKind}
use Rattle.sv_types.specs.declared.statement.CaseItem.{CaseItem}
use Rattle.sv_types.specs.declared.statement.Outcome.TheVariants.{Normal}
use Rattle.sv_types.specs.Surroundings.{Around, Parameter, onward}
use Rattle.sv_types.specs.Meanings.{Meaning}
use Rattle.sv_types.specs.Expressions.{meaning}
use Rattle.sv_types.specs.Runs as R
use Rattle.sv_types.specs.Runs.{State, current, matches, agree}
use Rattle.sv_types.specs.Efforts as E
use Rattle.sv_types.specs.Efforts.{Step, tried}
use Rattle.sv_types.specs.Statements.{doing}
use Rattle.eval_parts.specs.declared.halt.Halt.{Halt}
use Rattle.eval_parts.specs.Answers.{Halts}
use Rattle.eval_parts.specs.Surroundings.{running}
use Rattle.eval_parts.proofs.Efforts.{goes-on, halts-onward}
use Rattle.eval_exprs.specs.declared.held.Scope.{Scope}
use Rattle.eval_stmts.specs.declared.env.Env.{Env}
use Rattle.eval_stmts.specs.declared.selectors.Selector.{Selector}
use Rattle.eval_stmts.specs.Environments.{standing, SameSlots}
use Rattle.eval_stmts.specs.Stepping.{Stops, Resumes, step_of}
use Rattle.eval_stmts.specs.Targets.{values_of, runs_of, efforts_of, select_step, selector_of, AllFitWide, ItemsFitWide, AllNarrow, NarrowItems}
use Rattle.eval_stmts.proofs.Chains as C
use Rattle.eval_stmts.proofs.Branches.{tested_step}

-- the values of an item
pub tried-here : (on : R.Selector) (m : Meaning) (ms : List Meaning) (a : Around) (old new : Option ℕ) → m.values a (running old) ≡ running new → matches on a m ≡ true → tried on (m ∷ ms) a (running old) ≡ running new
tried-here on m ms a old new ran is =
    goes-on (λ u. cond (matches on a m) u (tried on ms a u)) (m.values a (running old)) new ran ∙ ap (λ b. cond b (running new) (tried on ms a (running new))) is

pub tried-next : (on : R.Selector) (m : Meaning) (ms : List Meaning) (a : Around) (old new : Option ℕ) → m.values a (running old) ≡ running new → matches on a m ≡ false → tried on (m ∷ ms) a (running old) ≡ tried on ms a (running new)
tried-next on m ms a old new ran is =
    goes-on (λ u. cond (matches on a m) u (tried on ms a u)) (m.values a (running old)) new ran ∙ ap (λ b. cond b (running new) (tried on ms a (running new))) is

pub tried-stops : (on : R.Selector) (m : Meaning) (ms : List Meaning) (a : Around) (old : Option ℕ) (h : Halt) → Halts h (m.values a (running old)) → Halts h (tried on (m ∷ ms) a (running old))
tried-stops on m ms a old h stops = halts-onward h (λ u. cond (matches on a m) u (tried on ms a u)) (m.values a (running old)) stops

pub any-here : (on : R.Selector) (m : Meaning) (ms : List Meaning) (a : Around) → matches on a m ≡ true → list_any (matches on a) (m ∷ ms) ≡ true
any-here on m ms a is = ap (λ b. b || list_any (matches on a) ms) is

pub any-next : (on : R.Selector) (m : Meaning) (ms : List Meaning) (a : Around) → matches on a m ≡ false → list_any (matches on a) (m ∷ ms) ≡ list_any (matches on a) ms
any-next on m ms a is = ap (λ b. b || list_any (matches on a) ms) is

-- items in order
abbrev pub first_step : R.Selector → List CaseItem → Step → Step
first_step on is other = record { run = R.first_match on (runs_of is) other.run; effort = E.first_match on (efforts_of is) other.effort }

abbrev pub item_step : R.Selector → CaseItem → List CaseItem → Step → Step
item_step on i is other = tested_step (λ e. list_any (matches on e) (map meaning i.values)) (λ e t. tried on (map meaning i.values) e t) (step_of (doing i.body)) (first_step on is other)

pub items-split : (on : R.Selector) (i : CaseItem) (is : List CaseItem) (other : Step) → first_step on (i ∷ is) other ≡ item_step on i is other
items-split on i is other = refl

-- the selector is valued once
pub selected : (sc : Scope) (kind : CaseKind) (on : Expr) (items : List CaseItem) (sel : Selector) (other : Step) (old new : Env) → SameSlots old new
    → selector_of sel ≡ R.selector kind (meaning on) (values_of items) (standing sc old) → (meaning on).values (standing sc old) (running old.budget) ≡ running new.budget
    → Resumes sc (first_step (selector_of sel) items other) (select_step kind (meaning on) items other) old new
selected sc kind on items sel other old new same is ran = record {
  holds = C.same-held old new same;
  at = λ a s i.
      let sel-is : R.selector kind (meaning on) (values_of items) (current a s) ≡ selector_of sel = ap (R.selector kind (meaning on) (values_of items)) (sym i.now) ∙ sym is in
      record {
        mid = s;
        is = C.same-at sc old new a s Normal same i;
        run = sym (ap (λ x. R.first_match x (runs_of items) other.run a s) sel-is);
        effort = sym (goes-on (E.first_match (selector_of sel) (efforts_of items) other.effort a s) ((meaning on).values (current a s) (running old.budget)) new.budget (ap (λ e. (meaning on).values e (running old.budget)) (sym i.now) ∙ ran))
            ∙ sym (ap (λ x. onward (E.first_match x (efforts_of items) other.effort a s) ((meaning on).values (current a s) (running old.budget))) sel-is);
      };
}

pub select-stops : (sc : Scope) (kind : CaseKind) (on : Expr) (items : List CaseItem) (other : Step) (old : Env) (h : Halt) → Halts h ((meaning on).values (standing sc old) (running old.budget))
    → Stops sc (select_step kind (meaning on) items other) old h
select-stops sc kind on items other old h stops = record {
  at = λ a s i.
      halts-onward h (E.first_match (R.selector kind (meaning on) (values_of items) (current a s)) (efforts_of items) other.effort a s) ((meaning on).values (current a s) (running old.budget))
      (subst (λ e. Halts h ((meaning on).values e (running old.budget))) i.now stops);
}

pub made-selector : (sc : Scope) (kind : CaseKind) (on : Expr) (items : List CaseItem) (w : ℕ) (b : Bool) (v : List Bit4) (old : Env) → w ≡ R.widest_of (meaning on ∷ values_of items) → b ≡ R.all_signed (meaning on ∷ values_of items)
    → v ≡ (meaning on).value w b (standing sc old) → (record { kind = kind; width = w; signed = b; value = v }) ≡ R.selector kind (meaning on) (values_of items) (standing sc old)
made-selector sc kind on items w b v old width sign value =
    let by : ℕ → Bool → List Bit4 → R.Selector = λ n c x. record { kind = kind; width = n; signed = c; value = x } in
    ap (by w b) value ∙ ap (λ n. by n b ((meaning on).value n b (standing sc old))) width
    ∙ ap (λ c. by (R.widest_of (meaning on ∷ values_of items)) c ((meaning on).value (R.widest_of (meaning on ∷ values_of items)) c (standing sc old))) sign

all-narrow : (es : List Expr) (fs : ℕ → List Parameter) (w : ℕ) → AllFitWide es fs w → AllNarrow es
all-narrow [] fs w f = tt
all-narrow (e ∷ es) fs w f = (f.0.narrow, all-narrow es fs w f.1)

pub items-narrow : (is : List CaseItem) (fs : ℕ → List Parameter) (w : ℕ) → ItemsFitWide is fs w → NarrowItems is
items-narrow [] fs w f = tt
items-narrow (i ∷ is) fs w f = (all-narrow i.values fs w f.0, items-narrow is fs w f.1)

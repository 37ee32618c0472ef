-- What the statements of a process or function say: their assignments, what they pass to outputs, what they mention, and the
-- loops whose bounds aren't known.
use Rattle.std.specs.Prelude.{ℕ, Bool, true, false, ◌&&◌, ◌==◌, not, cond, List, [], ◌∷◌, ◌++◌, map, flat_map, zip, Option, Some, None}
use Rattle.std.specs.List.{list_any}
use Rattle.sv_types.specs.declared.expression.Expr.{Expr}
use Rattle.sv_types.specs.declared.statement.Local.{Local}
use Rattle.sv_types.specs.declared.statement.Stmt.{Stmt, Stmt-F, fold-Stmt}
use Rattle.sv_types.specs.declared.statement.CaseItem.{CaseItem-F}
use Rattle.sv_types.specs.declared.statement.Way.{Way}
use Rattle.sv_types.specs.declared.statement.Way.TheVariants as W
use Rattle.sv_types.specs.Surroundings.{Parameter, Sight, local_number}
use Rattle.sv_types.specs.Operators.{assigned_to}
use Rattle.sv_types.specs.Expressions.{meaning}
use Rattle.sv_types.specs.Flows.{knowing}
use Rattle.design_breaks.specs.Unrolling as U
use Rattle.design_breaks.specs.Unrolling.{Control, Unrolls, starts_of}
use Rattle.design_breaks.specs.Mentions.{Mentions, all_mentions, both, all}

-- an assignment: its operator, whether it is nonblocking, and the signals and locals that its target names
pub record Assignment : Type 0 where
  pub at : ℕ
  pub later : Bool
  pub to : List ℕ

-- an actual of an output or inout: its first token, and the signals and locals that it names as a target
pub record Passed : Type 0 where
  pub at : ℕ
  pub to : List ℕ

pub record Actions : Type 0 where
  pub assigns : List Assignment
  pub passes : (ℕ → List Parameter) → List Passed
  pub said : Mentions
  -- all signals and locals that are assigned or passed to an output, and the variables of its loops
  pub targets : (ℕ → List Parameter) → List ℕ
  -- The loops whose bounds read more than constants and loop variables or whose variable is written in them, each looked at once
  -- whatever turns are made, by what is known before.
  pub unbounded : (ℕ → List Parameter) → Sight → List ℕ
  -- what they add to the unrolled list
  pub unrolls : (ℕ → List Parameter) → Unrolls

-- a statement that values these expressions
abbrev pub saying : List Expr → Actions
saying es = record {
  assigns = [];
  passes = λ fs. [];
  said = all_mentions es;
  targets = λ fs. [];
  unbounded = λ fs k. [];
  unrolls = λ fs. U.valuing es;
}

-- one that values them and then has these parts
abbrev pub unrolling : (ℕ → List Parameter) → List Actions → List Unrolls
unrolling fs as' = map (λ (a : Actions). a.unrolls fs) as'

abbrev pub together : List Expr → List Actions → Actions
together es as' = record {
  assigns = flat_map (λ (a : Actions). a.assigns) as';
  passes = λ fs. flat_map (λ (a : Actions). a.passes fs) as';
  said = both (all_mentions es) (all (map (λ (a : Actions). a.said) as'));
  targets = λ fs. flat_map (λ (a : Actions). a.targets fs) as';
  unbounded = λ fs k. flat_map (λ (a : Actions). a.unbounded fs k) as';
  unrolls = λ fs. U.in_turn (U.valuing es ∷ unrolling fs as');
}

abbrev pub counted : Actions → Actions
counted a = record a { unrolls = λ fs. U.counted (a.unrolls fs) }

abbrev pub none_or : Option Actions → List Actions
none_or None = []
none_or (Some a) = a ∷ []

abbrev pub roots_of : List Expr → List ℕ
roots_of es = flat_map (λ e. (meaning e).roots) es

abbrev pub assigning : List Expr → Expr → Bool → ℕ → Actions
assigning to value later at = record (saying (to ++ value ∷ [])) {
  assigns = record { at = at; later = later; to = roots_of to } ∷ [];
  targets = λ fs. roots_of to;
}

abbrev pub is_out : Way → Bool
is_out W.Input = false
is_out W.Output = true
is_out W.Inout = true

abbrev pub passed_out : List Parameter → List Expr → List Passed
passed_out [] es = []
passed_out (p ∷ ps) [] = []
passed_out (p ∷ ps) (e ∷ es) = cond (is_out p.way) (record { at = e.spot.at; to = (meaning e).roots } ∷ []) [] ++ passed_out ps es

-- what is passed to formals
abbrev pub passed_to : List Parameter → List Expr → List Expr
passed_to ps es = map (λ p. p.1) (zip ps es)

abbrev pub calling : ℕ → List Expr → Actions
calling f actuals =
    let m = all_mentions actuals in
    record (saying actuals) {
      said = record m { calls = f ∷ m.calls };
      passes = λ fs. passed_out (fs f) actuals;
      targets = λ fs. flat_map (λ (p : Passed). p.to) (passed_out (fs f) actuals);
      unrolls = λ fs. U.valuing (passed_to (fs f) actuals);
    }

-- what is known in the first turn of a loop
abbrev pub entered : Control → Sight → Sight
entered c k =
    let marks = (meaning c.first).of.two_state in
    knowing c.variable marks (assigned_to marks (meaning c.first) k.around) k

-- the bounds read nothing but constants and loop variables, and the variable isn't written in the loop
abbrev pub is_counted : Control → Actions → (ℕ → List Parameter) → Sight → Bool
is_counted c body fs k =
    ((meaning c.first).constant k && ((meaning c.test).constant (entered c k) && (meaning c.step).constant (entered c k)))
    && not (list_any (λ (m : ℕ). m == local_number c.variable) (body.targets fs))

abbrev pub unbounded_in : Control → Actions → (ℕ → List Parameter) → Sight → List ℕ
unbounded_in c body fs k = cond (is_counted c body fs k) [] (c.at ∷ []) ++ body.unbounded fs (entered c k)

abbrev pub looping : Control → Actions → Actions
looping c body = record (together (c.first ∷ c.test ∷ c.step ∷ []) (body ∷ [])) {
  targets = λ fs. local_number c.variable ∷ body.targets fs;
  unbounded = unbounded_in c body;
  unrolls = λ fs k. U.looping (is_counted c body fs k) c (body.unrolls fs) k;
}

-- What stands for a replaced call counts as its body, or as one statement.
abbrev pub made : List Local → List Actions → Option Actions → Actions
made ls before None = counted (record (together (starts_of ls) before) { unrolls = λ fs. U.uncounted (U.in_turn (U.valuing (starts_of ls) ∷ unrolling fs before)) })
made ls before (Some body) = record (together (starts_of ls) (before ++ body ∷ [])) {
  unrolls = λ fs. U.in_turn (U.uncounted (U.in_turn (U.valuing (starts_of ls) ∷ unrolling fs before)) ∷ body.unrolls fs ∷ []);
}

-- an item of a `case`
pub record Item : Type 0 where
  pub values : List Expr
  pub body : Actions

abbrev pub item_step : CaseItem-F Actions Item → Item
item_step i = record { values = i.values; body = i.body }

abbrev pub item_values : List Item → List Expr
item_values is = flat_map (λ (i : Item). i.values) is

abbrev pub item_bodies : List Item → List Actions
item_bodies is = map (λ (i : Item). i.body) is

abbrev pub stmt_step : Stmt-F Actions Item → Actions
stmt_step (Stmt-F.Block locals body) = counted (together (starts_of locals) body)
stmt_step (Stmt-F.If on body other) = counted (together (on ∷ []) (body ∷ none_or other))
stmt_step (Stmt-F.Case kind on items other) = counted (together (on ∷ item_values items) (item_bodies items ++ none_or other))
stmt_step (Stmt-F.Loop n first test step body spot) = looping (record { at = spot.at; variable = n; first = first; test = test; step = step }) body
stmt_step (Stmt-F.Assign to value later spot) = counted (assigning to value later spot.at)
stmt_step (Stmt-F.Call f actuals spot) = counted (calling f actuals)
stmt_step (Stmt-F.Made locals before body) = made locals before body
stmt_step Stmt-F.Break = counted (saying [])
stmt_step Stmt-F.Continue = counted (saying [])
stmt_step Stmt-F.Return = counted (saying [])

abbrev pub actions : Stmt → Actions
actions = fold-Stmt Actions Item stmt_step item_step

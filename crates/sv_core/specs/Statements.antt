-- What statements of an elaborated design read, write and do (IEEE 1800-2017 clauses 10.4, 10.7, 12.4 and 9.3.1).
use Rattle.std.specs.Prelude.{ℕ, max, Bool, true, false, List, [], ◌∷◌, ◌++◌, flat_map, map, slice_get, Option, Some, None, cond}
use Rattle.b4_core.specs.declared.bit.Bit4.{Bit4}
use Rattle.b4_core.specs.Bitwise.{truth_of}
use Rattle.b4_core.specs.Vectors.{ext}
use Rattle.row_machine.specs.Valuation.{Valuation, Changes}
use Rattle.row_machine.specs.Places.{vector_at, assigned}
use Rattle.row_machine.specs.Steps.{Progress, assign_now, assign_later, in_order, is_one}
use Rattle.sv_core.specs.declared.design.Signal.{Signal}
use Rattle.sv_core.specs.declared.design.Primary.{Primary}
use Rattle.sv_core.specs.declared.design.Primary.TheVariants as P
use Rattle.sv_core.specs.declared.design.Expr.{Expr}
use Rattle.sv_core.specs.declared.design.Expr.TheVariants.{Single, Binary}
use Rattle.sv_core.specs.declared.design.Stmt.{Stmt, Stmt-F, fold-Stmt}
use Rattle.sv_core.specs.Value.{width_alone, value_at}

abbrev pub width_or_zero : Option Signal → ℕ
width_or_zero (Some s) = s.width
width_or_zero None = 0

-- the width of the signal with a number, 0 where there is none
abbrev pub width_of : List Signal → ℕ → ℕ
width_of signals n = width_or_zero (slice_get signals n)

-- what the signals hold
abbrev pub held_at : List Signal → Valuation → ℕ → List Bit4
held_at signals v n = vector_at v n (width_of signals n)

-- the numbers of the signals that an expression reads
abbrev pub primary_signals : Primary → List ℕ
primary_signals (P.Signal n) = n ∷ []
primary_signals (P.Literal bits) = []

abbrev pub expr_signals : Expr → List ℕ
expr_signals (Single a) = primary_signals a.primary
expr_signals (Binary op a b) = primary_signals a.primary ++ primary_signals b.primary

-- the value that an assignment gives its target: the right side at the larger of both widths, cut to the target's
abbrev pub value_for : List Signal → ℕ → Expr → Valuation → List Bit4
value_for signals to value v =
    let w = width_of signals to in
    ext w false (value_at (held_at signals v) (max w (width_alone (width_of signals) value)) value)

-- the assignment of that value to the whole target
abbrev pub changes_of : List Signal → ℕ → Expr → Valuation → Changes
changes_of signals to value v = assigned to (width_of signals to) (value_for signals to value v)

-- a condition is true where a bit of it is 1; where none is and one is x or z, it is unknown (clause 12.4)
abbrev pub is_true : List Signal → Expr → Valuation → Bool
is_true signals on v = is_one (truth_of (value_at (held_at signals v) (width_alone (width_of signals) on) on))

-- What a statement means: the signals that its expressions read, the targets of its blocking and of its nonblocking
-- assignments, and what it does among the signals of its design.
pub record Doing : Type 0 where
  pub reads : List ℕ
  pub targets : List ℕ
  pub later_targets : List ℕ
  pub run : List Signal → Progress → Progress

-- nothing
abbrev pub idle : Doing
idle = record { reads = []; targets = []; later_targets = []; run = λ signals p. p }

abbrev pub doing_or_idle : Option Doing → Doing
doing_or_idle (Some d) = d
doing_or_idle None = idle

-- statements one after the other
abbrev pub sequence : List Doing → Doing
sequence ds = record {
  reads = flat_map (λ (d : Doing). d.reads) ds;
  targets = flat_map (λ (d : Doing). d.targets) ds;
  later_targets = flat_map (λ (d : Doing). d.later_targets) ds;
  run = λ signals. in_order (map (λ (d : Doing). d.run signals) ds);
}

-- the first where the condition is true, and the second where it is false or unknown
abbrev pub choice : Expr → Doing → Doing → Doing
choice on then other = record {
  reads = expr_signals on ++ (then.reads ++ other.reads);
  targets = then.targets ++ other.targets;
  later_targets = then.later_targets ++ other.later_targets;
  run = λ signals p. cond (is_true signals on p.now) (then.run signals p) (other.run signals p);
}

-- an assignment; a nonblocking one evaluates its value at once and is made later
abbrev pub assignment : ℕ → Expr → Bool → Doing
assignment to value true = record {
  reads = expr_signals value;
  targets = [];
  later_targets = to ∷ [];
  run = λ signals p. assign_later (changes_of signals to value p.now) p;
}
assignment to value false = record {
  reads = expr_signals value;
  targets = to ∷ [];
  later_targets = [];
  run = λ signals p. assign_now (changes_of signals to value p.now) p;
}

abbrev pub stmt_doing : Stmt-F Doing → Doing
stmt_doing (Stmt-F.Block ds) = sequence ds
stmt_doing (Stmt-F.If on body other) = choice on body (doing_or_idle other)
stmt_doing (Stmt-F.Assign to value later) = assignment to value later

abbrev pub doing : Stmt → Doing
doing = fold-Stmt Doing stmt_doing

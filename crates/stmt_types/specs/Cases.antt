-- Items of a `case` as the code has them.
use Rattle.std.specs.Prelude.{◌≡◌, ⊤, ℕ, Bool, true, false, ◌||◌, nat_lt, cond, List, [], ◌∷◌, ◌++◌, map, Option, Some, None, Result, Ok, Err, Vec}
use Rattle.std.specs.declared.alloc.Global.{Global}
use Rattle.sv_types.specs.declared.statement.Stmt.{Stmt}
use Rattle.sv_types.specs.Layouts.{width_of}
use Rattle.sv_types.specs.Meanings.{most}
use Rattle.expr_type.specs.declared.halt.Halt.{Halt}
use Rattle.expr_type.specs.declared.halt.Halt.TheVariants as H
use Rattle.expr_type.specs.declared.operand.Valued.{Valued}
use Rattle.expr_type.specs.Answers.{reason}
use Rattle.expr_type.specs.Breaks.{Breaks, At, Quiet}
use Rattle.expr_type.specs.Names.{Context, Source, position}
use Rattle.expr_type.specs.Operands.{width}
use Rattle.expr_type.specs.Statements as D
use Rattle.expr_type.specs.Typings.{Checked}
use Rattle.stmt_types.specs.Lists.{listed}
use Rattle.stmt_types.specs.declared.cases.CaseFound.{CaseFound}
use Rattle.stmt_types.specs.declared.cases.CaseItem.{CaseItem}

-- something that is whole, or its first break
abbrev pub break_of : Source → Halt → Breaks
break_of k H.Memory = Quiet
break_of k (H.Breaks at rule) = At (position k at) rule
break_of k H.Quiet = Quiet

abbrev pub found_by : {A : Type 0} → Source → Result A Halt → Checked A
found_by k (Ok a) = Ok a
found_by k (Err h) = Err (break_of k h)

abbrev pub item_found : Source → CaseFound → D.CaseFound
item_found k c = record { is_default = c.is_default; values = found_by k (listed c.values); body = found_by k c.body }

abbrev pub item_whole : Context → ℕ → CaseFound → Checked D.CaseItem
item_whole k w c = D.whole_item (D.item_at k w (item_found k.source c))

abbrev pub item_of : CaseItem → D.CaseItem
item_of c = record { is_default = c.is_default; values = c.values.items; body = c.body }

-- both of two things in the order of the text, or the first break in them
abbrev pub joins : {A B : Type 0} → Result A Halt → Result B Halt → Result (A × B) Halt
joins (Ok a) (Ok b) = Ok (a, b)
joins (Ok a) (Err h) = Err h
joins (Err H.Quiet) (Ok b) = Err H.Quiet
joins (Err H.Quiet) (Err h) = Err h
joins (Err H.Memory) b = Err H.Memory
joins (Err (H.Breaks at rule)) b = Err (H.Breaks at rule)

-- whether one of some values has more than 128 bits, where all of them are whole
abbrev pub wide_of : Result (List Valued) Halt → Option Bool
wide_of (Ok vs) = Some (nat_lt 128 (most (map width vs)))
wide_of (Err h) = None

abbrev pub or_wide : Bool → Option Bool → Option Bool
or_wide b None = None
or_wide b (Some c) = Some (b || c)

abbrev pub and_wide : Option Bool → Option Bool → Option Bool
and_wide None c = None
and_wide (Some b) c = or_wide b c

abbrev pub wides : List CaseFound → Option Bool
wides [] = Some false
wides (c ∷ cs) = and_wide (wide_of (listed c.values)) (wides cs)

abbrev pub if_wide : Bool → Option Bool → Bool
if_wide b None = false
if_wide b (Some c) = b || c

abbrev pub widest_found : Result Valued Halt → List CaseFound → Bool
widest_found (Ok v) cs = if_wide (nat_lt 128 (width v)) (wides cs)
widest_found (Err h) cs = false

-- the first operator that does arithmetic, and that of some values
abbrev pub first_operator : List ℕ → Option ℕ
first_operator [] = None
first_operator (at ∷ ats) = Some at

abbrev pub or_first : Option ℕ → Option ℕ → Option ℕ
or_first None b = b
or_first (Some a) b = Some a

abbrev pub first_in : List Valued → Option ℕ
first_in [] = None
first_in (v ∷ vs) = or_first (first_operator v.arithmetic) (first_in vs)

-- what stands at each `default`
abbrev pub default_bodies : List CaseItem → List Stmt
default_bodies [] = []
default_bodies (c ∷ cs) = cond c.is_default (c.body ∷ []) [] ++ default_bodies cs

-- Items of a text as the code finds them: no want of memory, and behind values that break a rule nothing is looked at.
abbrev pub Stops : {A : Type 0} → Result A Halt → Type 0 → Type 0
Stops (Ok a) further = further
Stops (Err H.Memory) further = ⊥
Stops (Err (H.Breaks at rule)) further = ⊤
Stops (Err H.Quiet) further = further

abbrev pub Found : {A : Type 0} → Result A Halt → Checked A → Type 0
Found (Ok a) m = m ≡ Ok a
Found (Err H.Memory) m = ⊥
Found (Err (H.Breaks at rule)) m = reason m ≡ Some (Some (record { at = at; rule = rule }))
Found (Err H.Quiet) m = reason m ≡ Some None

pub record IsFound (c : CaseFound) (d : D.CaseFound) : Type 0 where
  pub default : c.is_default ≡ d.is_default
  pub values : Found (listed c.values) d.values
  pub body : Stops (listed c.values) (Found c.body d.body)

abbrev pub AllFound : List CaseFound → List D.CaseFound → Type 0
AllFound [] [] = ⊤
AllFound [] (d ∷ ds) = ⊥
AllFound (c ∷ cs) [] = ⊥
AllFound (c ∷ cs) (d ∷ ds) = IsFound c d × Stops (listed c.values) (AllFound cs ds)

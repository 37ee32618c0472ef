-- Items of `case` statements as the code finds them.
use Rattle.std.specs.Prelude.{◌≡◌, ℕ, Bool, true, false, List, [], ◌∷◌, map, take, Option, Some, None, Result, Ok, Err, Vec}
use Rattle.std.specs.declared.alloc.Global.{Global}
use Rattle.sv_tree.specs.declared.expressions.Expr.{Expr}
use Rattle.sv_tree.specs.declared.statements.CaseItem as X
use Rattle.sv_tree.specs.declared.statements.CaseKeyword.{CaseKeyword}
use Rattle.sv_types.specs.declared.statement.Function.{Function}
use Rattle.sv_types.specs.declared.statement.Stmt as R
use Rattle.expr_type.specs.declared.halt.Halt.{Halt}
use Rattle.expr_type.specs.declared.halt.Halt.TheVariants as H
use Rattle.expr_type.specs.declared.operand.Valued.{Valued}
use Rattle.expr_type.specs.Names.{Context}
use Rattle.expr_type.specs.Statements as D
use Rattle.expr_type.specs.Statements.{CaseMeaning}
use Rattle.expr_type.specs.Typings.{Typed, Typing, all, both, looked_at, rule}
use Rattle.typing_stmt_parts.specs.Meanings.{case_meaning}
use Rattle.stmt_types.specs.Cases.{AllFound, IsFound, Stops}
use Rattle.stmt_types.specs.Lists.{listed}
use Rattle.stmt_types.specs.declared.cases.CaseFound.{CaseFound}

-- whether it breaks a rule or lacks memory
abbrev pub is_loud : {A : Type 0} → Result A Halt → Bool
is_loud (Ok a) = false
is_loud (Err H.Quiet) = false
is_loud (Err H.Memory) = true
is_loud (Err (H.Breaks at rule)) = true

abbrev pub GoesOn : {A : Type 0} → Result A Halt → Result (Result A Halt) Halt → Type 0
GoesOn (Ok a) r = r ≡ Ok (Ok a)
GoesOn (Err H.Quiet) r = r ≡ Ok (Err H.Quiet)
GoesOn (Err H.Memory) r = r ≡ Err H.Memory
GoesOn (Err (H.Breaks at rule)) r = r ≡ Err (H.Breaks at rule)

-- both of two things, or what the first of them stops by that isn't there
abbrev pub halt_of : {A B : Type 0} → Result A Halt → Result B Halt → Option Halt
halt_of (Ok a) (Ok b) = None
halt_of (Ok a) (Err h) = Some h
halt_of (Err h) b = Some h

abbrev pub Both : {A B : Type 0} → Result A Halt → Result B Halt → Result (A × B) Halt → Type 0
Both a b (Ok p) = (a ≡ Ok p.0) × (b ≡ Ok p.1)
Both a b (Err h) = halt_of a b ≡ Some h

abbrev pub NotLacking : {A : Type 0} → Result A Halt → Result (Unit {0}) Halt → Type 0
NotLacking (Ok a) r = r ≡ Ok tt
NotLacking (Err H.Quiet) r = r ≡ Ok tt
NotLacking (Err H.Memory) r = r ≡ Err H.Memory
NotLacking (Err (H.Breaks at rule)) r = r ≡ Ok tt

abbrev pub Unless : {A : Type 0} → Result (Unit {0}) Halt → A → Result A Halt → Type 0
Unless (Ok u) a r = r ≡ Ok a
Unless (Err h) a r = r ≡ Err h

-- the functions that are known behind a statement, and behind one that isn't whole
abbrev pub Kept : {A : Type 0} → Result A Halt → List Function → List Function → ℕ → Type 0
Kept (Ok a) fs gs n = gs ≡ fs
Kept (Err h) fs gs n = gs ≡ take n fs

-- an item whose values break a rule
abbrev pub Ends : Result (List Valued) Halt → Result CaseFound Halt → Type 0
Ends vs (Err h) = h ≡ H.Memory
Ends vs (Ok c) = (c.is_default ≡ false) × (listed c.values ≡ vs) × (c.body ≡ Err H.Quiet) × NotLacking vs (Ok tt)

-- an item of values and a statement that don't lack memory
abbrev pub IsItem : Bool → Result (Vec Valued Global) Halt → Result R.Stmt Halt → Result CaseFound Halt → Type 0
IsItem b vs s (Err h) = h ≡ H.Memory
IsItem b vs s (Ok c) = (c.is_default ≡ b) × (c.values ≡ vs) × (c.body ≡ s) × NotLacking s (Ok tt)

-- An item of a text as it is found, where these functions are known behind it: whatever they are, where its values break a rule.
pub record IsFoundTo (c : CaseFound) (t : Typed D.CaseFound) (fs : List Function) : Type 0 where
  pub of : D.CaseFound
  pub gives : t.result ≡ Ok of
  pub functions : Stops (listed c.values) (t.functions ≡ fs)
  pub found : IsFound c of

abbrev pub FoundTo : Result CaseFound Halt → Typed D.CaseFound → List Function → Type 0
FoundTo (Err h) t fs = h ≡ H.Memory
FoundTo (Ok c) t fs = IsFoundTo c t fs

-- items in a row, up to one whose values break a rule
abbrev pub AllGoOn : List CaseFound → Type 0 → Type 0
AllGoOn [] further = further
AllGoOn (c ∷ cs) further = Stops (listed c.values) (AllGoOn cs further)

pub record AreFoundTo (cs : List CaseFound) (t : Typed (List D.CaseFound)) (fs : List Function) : Type 0 where
  pub of : List D.CaseFound
  pub gives : t.result ≡ Ok of
  pub functions : AllGoOn cs (t.functions ≡ fs)
  pub found : AllFound cs of

abbrev pub AllFoundTo : Result (Vec CaseFound Global) Halt → Typed (List D.CaseFound) → List Function → Type 0
AllFoundTo (Err h) t fs = h ≡ H.Memory
AllFoundTo (Ok v) t fs = AreFoundTo v.items t fs

abbrev pub item_of : Context → X.CaseItem → Typing D.CaseFound
item_of k c = case_meaning c k

abbrev pub items_of : Context → List X.CaseItem → Typing (List D.CaseFound)
items_of k cs = all (map (item_of k) cs)

-- the values of an item
abbrev pub values_of : Context → List Expr → Typing (List Valued)
values_of k es = all (map (D.condition k) es)

-- the statement of a selector and items
abbrev pub cases_of : Context → CaseKeyword → Expr → List X.CaseItem → Typing R.Stmt
cases_of k keyword sought cs =
    both (looked_at (D.condition k sought)) (all (map (λ (c : CaseMeaning). c k) (map case_meaning cs))) (λ v ds. rule (D.case_stmt k (D.case_kind keyword) v ds))

-- Where a constant of a statement takes too long, by its form.
use Rattle.std.proofs.Common.{◌≡◌, ℕ, Bool, List, [], ◌∷◌, ◌++◌, Option, inl, inr}
use Rattle.sv_source.specs.declared.token.Spot.{Spot}
use Rattle.sv_types.specs.declared.expression.Expr.{Expr}
use Rattle.sv_types.specs.declared.statement.CaseKind.{CaseKind}
use Rattle.sv_types.specs.declared.statement.CaseItem.{CaseItem}
use Rattle.sv_types.specs.declared.statement.Local.{Local}
use Rattle.sv_types.specs.declared.statement.Stmt.{Stmt}
use Rattle.sv_types.specs.declared.statement.Stmt.TheVariants as V
use Rattle.sv_types.specs.Surroundings.{Sight}
use Rattle.stmt_flows.specs.Full.{written_starts}
use Rattle.stmt_flows.specs.Long.{LongIn, LongInOne, LongInTurn, SomeHoldLong, HasExprs, HasParts, Loop, those, item_values, item_bodies}
use Rattle.stmt_flows.specs.Statements.{LongInIf, LongInMade, LongInLoop}

own : (h : Sight) (s : Stmt) (es : List Expr) → HasExprs s es → (at : ℕ) → SomeHoldLong h es at → LongIn h s at
own h s es has at l = LongIn.Own h s at es has l

part : (h : Sight) (s : Stmt) (ss : List Stmt) → HasParts s ss → (at : ℕ) → LongInOne h ss at → LongIn h s at
part h s ss has at l = LongIn.Part h s at ss l.stmt has l.stands l.long

pub own-Block : (h : Sight) (s : Stmt) (ls : List Local) (ss : List Stmt) → s ≡ V.Block ls ss → (at : ℕ) → SomeHoldLong h (written_starts ls) at → LongIn h s at
own-Block h s ls ss is = own h s (written_starts ls) (HasExprs.OfBlock ls ss is)

pub part-Block : (h : Sight) (s : Stmt) (ls : List Local) (ss : List Stmt) → s ≡ V.Block ls ss → (at : ℕ) → LongInOne h ss at → LongIn h s at
part-Block h s ls ss is = part h s ss (HasParts.InBlock ls ss is)

pub long-If : (h : Sight) (s : Stmt) (on : Expr) (body : Stmt) (other : Option Stmt) → s ≡ V.If on body other → (at : ℕ) → LongInIf h on body other at → LongIn h s at
long-If h s on body other is at (inl l) = own h s (on ∷ []) (HasExprs.OfIf on body other is) at l
long-If h s on body other is at (inr l) = part h s (body ∷ those other) (HasParts.InIf on body other is) at l

pub own-Case : (h : Sight) (s : Stmt) (kind : CaseKind) (on : Expr) (is : List CaseItem) (other : Option Stmt) → s ≡ V.Case kind on is other → (at : ℕ) → SomeHoldLong h (on ∷ item_values is) at → LongIn h s at
own-Case h s kind on is other at = own h s (on ∷ item_values is) (HasExprs.OfCase kind on is other at)

pub part-Case : (h : Sight) (s : Stmt) (kind : CaseKind) (on : Expr) (is : List CaseItem) (other : Option Stmt) → s ≡ V.Case kind on is other → (at : ℕ) → LongInOne h (item_bodies is ++ those other) at → LongIn h s at
part-Case h s kind on is other at = part h s (item_bodies is ++ those other) (HasParts.InCase kind on is other at)

pub own-Assign : (h : Sight) (s : Stmt) (to : List Expr) (value : Expr) (later : Bool) (spot : Spot) → s ≡ V.Assign to value later spot → (at : ℕ) → SomeHoldLong h (value ∷ to) at → LongIn h s at
own-Assign h s to value later spot is = own h s (value ∷ to) (HasExprs.OfAssign to value later spot is)

pub own-Call : (h : Sight) (s : Stmt) (f : ℕ) (es : List Expr) (spot : Spot) → s ≡ V.Call f es spot → (at : ℕ) → SomeHoldLong h es at → LongIn h s at
own-Call h s f es spot is = own h s es (HasExprs.OfCall f es spot is)

pub long-Made : (h : Sight) (s : Stmt) (ls : List Local) (before : List Stmt) (body : Option Stmt) → s ≡ V.Made ls before body → (at : ℕ) → LongInMade h ls before body at → LongIn h s at
long-Made h s ls before body is at (inl l) = own h s (written_starts ls) (HasExprs.OfMade ls before body is) at l
long-Made h s ls before body is at (inr l) = part h s (before ++ those body) (HasParts.InMade ls before body is) at l

pub long-Loop : (h : Sight) (s : Stmt) (n : ℕ) (first test step : Expr) (body : Stmt) (spot : Spot) → s ≡ V.Loop n first test step body spot
    → (at : ℕ) → LongInLoop h (record { variable = n; first = first; test = test; step = step; body = body }) at → LongIn h s at
long-Loop h s n first test step body spot is at (inl (inl l)) = LongIn.First h s at (record { variable = n; first = first; test = test; step = step; body = body }) (spot, is) l
long-Loop h s n first test step body spot is at (inl (inr l)) = own h s (first ∷ []) (HasExprs.OfLoop n first test step body spot is) at l
long-Loop h s n first test step body spot is at (inr p) = by p.1.long
  where
    loop : Loop
    loop = record { variable = n; first = first; test = test; step = step; body = body }

    by : LongInTurn loop p.1.turn at → LongIn h s at
    by (inl l) = LongIn.Test h s at loop p.1.turn (spot, is) p.0 p.1.later l
    by (inr (makes, inl l)) = LongIn.Body h s at loop p.1.turn (spot, is) p.0 p.1.later makes l
    by (inr (makes, inr l)) = LongIn.Step h s at loop p.1.turn (spot, is) p.0 p.1.later makes l

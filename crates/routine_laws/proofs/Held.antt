-- Which signals statements write, form by form.
use Rattle.std.proofs.Common.{◌≡◌, ℕ, Bool, List, [], ◌∷◌, ◌++◌, map, flat_map, Option, Some, None, sym, subst}
use Rattle.std.specs.Prelude.{slice_get}
use Rattle.sv_source.specs.declared.token.Spot.{Spot}
use Rattle.sv_types.specs.declared.expression.Expr.{Expr}
use Rattle.sv_types.specs.declared.statement.CaseItem.{CaseItem}
use Rattle.sv_types.specs.declared.statement.CaseKind.{CaseKind}
use Rattle.sv_types.specs.declared.statement.Formal.{Formal}
use Rattle.sv_types.specs.declared.statement.Function.{Function}
use Rattle.sv_types.specs.declared.statement.Local.{Local}
use Rattle.sv_types.specs.declared.statement.Stmt.{Stmt}
use Rattle.sv_types.specs.declared.statement.Stmt.TheVariants as V
use Rattle.sv_types.specs.declared.statement.Outcome.TheVariants as O
use Rattle.sv_types.specs.Surroundings.{Parameter}
use Rattle.sv_types.specs.Expressions.{meaning}
use Rattle.sv_types.specs.Functions.{parameter}
use Rattle.sv_types.specs.Statements.{Doing, Item, doing, counted, scope, branching, selecting, looping, assigning, calling, jumping, none_or, roots_by_way, actual_roots}
use Rattle.sv_types.proofs.DoingLevels as D
use Rattle.sv_types.proofs.DoingLevels.{item_of, perhaps}
use Rattle.eval_stmts.specs.Environments.{AllHeld}
use Rattle.expr_type.specs.Names.{Called}
use Rattle.typing_fits.specs.Sound.{Knows}
use Rattle.typing_fits.proofs.Given.{knows-fewer}
use Rattle.typing_walks.specs.Keeps.{AllHold, Lasts}
use Rattle.routine_laws.specs.Sound.{WritesLocals}
use Rattle.routine_laws.proofs.Places.{none_held, held-append, local-held, roots_in}

pub writes-last : Lasts WritesLocals
writes-last s gs hs e x = record { held = λ fs k. x.held fs (knows-fewer gs hs fs e k) }

as-writes : (s : Stmt) (d : Doing) (gs : List Function) → doing s ≡ d → ((fs : ℕ → List Parameter) → Knows gs fs → AllHeld (d.targets fs) none_held) → WritesLocals s gs
as-writes s d gs is h = record { held = λ fs k. subst (λ (x : Doing). AllHeld (x.targets fs) none_held) (sym is) (h fs k) }

-- blocks
all-held : (ss : List Stmt) (gs : List Function) (fs : ℕ → List Parameter) → Knows gs fs → AllHold WritesLocals ss gs → AllHeld (flat_map (λ (d : Doing). d.targets fs) (map doing ss)) none_held
all-held [] gs fs k h = tt
all-held (s ∷ ss) gs fs k h = held-append ((doing s).targets fs) (flat_map (λ (d : Doing). d.targets fs) (map doing ss)) (h.0.held fs k) (all-held ss gs fs k h.1)

pub block-writes : (ls : List Local) (ss : List Stmt) (gs : List Function) → AllHold WritesLocals ss gs → WritesLocals (V.Block ls ss) gs
block-writes ls ss gs h = as-writes (V.Block ls ss) (counted (scope ls (map doing ss))) gs (D.doing-Block ls ss) (λ fs k. all-held ss gs fs k h)

-- choices
abbrev pub PerhapsWrites : Option Stmt → List Function → Type 0
PerhapsWrites None gs = Unit {0}
PerhapsWrites (Some s) gs = WritesLocals s gs

other-held : (o : Option Stmt) (gs : List Function) (fs : ℕ → List Parameter) → Knows gs fs → PerhapsWrites o gs → AllHeld (flat_map (λ (d : Doing). d.targets fs) (none_or (perhaps o))) none_held
other-held None gs fs k h = tt
other-held (Some s) gs fs k h = held-append ((doing s).targets fs) [] (h.held fs k) tt

pub if-writes : (on : Expr) (body : Stmt) (other : Option Stmt) (gs : List Function) → WritesLocals body gs → PerhapsWrites other gs → WritesLocals (V.If on body other) gs
if-writes on body other gs h g =
    as-writes (V.If on body other) (counted (branching (meaning on) (doing body) (perhaps other))) gs (D.doing-If on body other)
    (λ fs k. held-append ((doing body).targets fs) (flat_map (λ (d : Doing). d.targets fs) (none_or (perhaps other))) (h.held fs k) (other-held other gs fs k g))

abbrev pub BodyWrites : CaseItem → List Function → Type 0
BodyWrites i gs = WritesLocals i.body gs

items-held : (is : List CaseItem) (o : Option Stmt) (gs : List Function) (fs : ℕ → List Parameter) → Knows gs fs → AllHold BodyWrites is gs → PerhapsWrites o gs
    → AllHeld (flat_map (λ (d : Doing). d.targets fs) (map (λ (i : Item). i.does) (map item_of is) ++ none_or (perhaps o))) none_held
items-held [] o gs fs k h g = other-held o gs fs k g
items-held (i ∷ is) o gs fs k h g =
    let rest = flat_map (λ (d : Doing). d.targets fs) (map (λ (x : Item). x.does) (map item_of is) ++ none_or (perhaps o)) in
    let here = subst (λ (x : Item). AllHeld (x.does.targets fs) none_held) (sym (D.item-of i)) (h.0.held fs k) in
    held-append ((item_of i).does.targets fs) rest here (items-held is o gs fs k h.1 g)

pub case-writes : (kind : CaseKind) (on : Expr) (is : List CaseItem) (other : Option Stmt) (gs : List Function) → AllHold BodyWrites is gs → PerhapsWrites other gs → WritesLocals (V.Case kind on is other) gs
case-writes kind on is other gs h g =
    as-writes (V.Case kind on is other) (counted (selecting kind (meaning on) (map item_of is) (perhaps other))) gs (D.doing-Case kind on is other) (λ fs k. items-held is other gs fs k h g)

-- loops, whose variables are locals
pub loop-writes : (n : ℕ) (first test step : Expr) (body : Stmt) (spot : Spot) (gs : List Function) → WritesLocals body gs → WritesLocals (V.Loop n first test step body spot) gs
loop-writes n first test step body spot gs h =
    as-writes (V.Loop n first test step body spot) (looping n (meaning first) (meaning test) (meaning step) (doing body)) gs (D.doing-Loop n first test step body spot) (λ fs k. (local-held n, h.held fs k))

-- assignments
pub assign-writes : (to : List Expr) (value : Expr) (later : Bool) (spot : Spot) (gs : List Function) → AllHeld (roots_in to) none_held → WritesLocals (V.Assign to value later spot) gs
assign-writes to value later spot gs h =
    as-writes (V.Assign to value later spot) (counted (assigning (map meaning to) (meaning value) later)) gs (D.doing-Assign to value later spot) (λ fs k. h)

-- calls
abbrev pub AllPassedLocal : List Formal → List Expr → Type 0
AllPassedLocal [] es = Unit {0}
AllPassedLocal (f ∷ fs) [] = Unit {0}
AllPassedLocal (f ∷ fs) (e ∷ es) = AllHeld (roots_by_way f.way (meaning e)) none_held × AllPassedLocal fs es

passed-held : (fs : List Formal) (es : List Expr) → AllPassedLocal fs es → AllHeld (actual_roots (map parameter fs) (map meaning es)) none_held
passed-held [] es h = tt
passed-held (f ∷ fs) [] h = tt
passed-held (f ∷ fs) (e ∷ es) h = held-append (roots_by_way f.way (meaning e)) (actual_roots (map parameter fs) (map meaning es)) h.0 (passed-held fs es h.1)

pub call-writes : (c : Called) (es : List Expr) (spot : Spot) (gs : List Function) → slice_get gs c.place ≡ Some c.of → AllPassedLocal c.of.formals es → WritesLocals (V.Call c.place es spot) gs
call-writes c es spot gs known h =
    as-writes (V.Call c.place es spot) (counted (calling c.place (map meaning es))) gs (D.doing-Call c.place es spot)
    (λ fs k. subst (λ (ps : List Parameter). AllHeld (actual_roots ps (map meaning es)) none_held) (sym (k.formals c.place c.of known)) (passed-held c.of.formals es h))

-- jumps
pub break-writes : (gs : List Function) → WritesLocals V.Break gs
break-writes gs = as-writes V.Break (counted (jumping O.Break)) gs D.doing-Break (λ fs k. tt)

pub continue-writes : (gs : List Function) → WritesLocals V.Continue gs
continue-writes gs = as-writes V.Continue (counted (jumping O.Continue)) gs D.doing-Continue (λ fs k. tt)

pub return-writes : (gs : List Function) → WritesLocals V.Return gs
return-writes gs = as-writes V.Return (counted (jumping O.Return)) gs D.doing-Return (λ fs k. tt)

-- Turns of a loop, one after the other.
use Rattle.std.proofs.Common.{◌≡◌, ◌<◌, ◌≤◌, ◌+◌, ◌^◌, ℕ, zero, suc, Bool, true, false, ◌&&◌, ◌||◌, not, List, [], ◌∷◌, length, Option, Result, Ok, Err, inl, inr, refl, arith, ap, sym, ◌∙◌, subst}
use Rattle.std.proofs.Math.Path.{fun_ext}
use Rattle.b4_core.specs.declared.bit.Bit4.{Bit4}
use Rattle.row_machine.specs.Valuation.{Place, put}
use Rattle.sv_types.specs.declared.expression.Expr.{Expr}
use Rattle.sv_types.specs.declared.statement.Function.{Function}
use Rattle.sv_types.specs.declared.statement.Outcome.TheVariants as O
use Rattle.sv_types.specs.declared.statement.Stmt.{Stmt}
use Rattle.sv_types.specs.Layouts.{Layout, layout, width_of}
use Rattle.sv_types.specs.Surroundings.{Around, Sight, local_number}
use Rattle.sv_types.specs.Windows.{whole, written}
use Rattle.sv_types.specs.Operators.{assigned_to}
use Rattle.sv_types.specs.Expressions.{meaning}
use Rattle.sv_types.specs.Runs.{is_true}
use Rattle.sv_types.specs.Flows as F
use Rattle.sv_types.specs.Flows.{Flow, Flows, covers, knowing}
use Rattle.sv_types.specs.Functions.{callees}
use Rattle.sv_types.specs.Statements.{doing}
use Rattle.sv_types.proofs.Heads.{heads}
use Rattle.eval_parts.specs.Surroundings.{now_of}
use Rattle.eval_stmts.specs.declared.controls.Control.{Control}
use Rattle.flow_laws.proofs.Hanging.{hangs}
use Rattle.flow_sets.specs.declared.found.Found.{Found}
use Rattle.flow_sets.specs.Flows.{IsFlow}
use Rattle.expr_flows.specs.declared.known.Variable.{Variable}
use Rattle.expr_flows.specs.declared.fails.FlowFail.{FlowFail}
use Rattle.expr_flows.specs.declared.fails.FlowFail.TheVariants as X
use Rattle.expr_flows.specs.declared.known.Known.{Known}
use Rattle.expr_flows.specs.Reads.{IndexFails}
use Rattle.expr_flows.specs.Known.{sight, sight_in, sure_of, bits_of_variable}
use Rattle.part_flows.specs.Locals.{LocalHolds}
use Rattle.part_flows.proofs.Sequence as Q
use Rattle.stmt_flows.specs.declared.fails.StmtFail.{StmtFail}
use Rattle.stmt_flows.specs.declared.fails.StmtFail.TheVariants as S
use Rattle.stmt_flows.specs.declared.turns.Turned.{Turned}
use Rattle.stmt_flows.specs.Gives.{FoundGives, most_statements, no_token}
use Rattle.stmt_flows.specs.Long.{Loop, LongFrom, LongIn, TakesLong, Later, Makes, marks_in, entered, stepped}
use Rattle.stmt_flows.specs.declared.turns.Inside.{Inside}
use Rattle.stmt_flows.specs.Fails.{Fails, fail_of}
use Rattle.stmt_flows.specs.Turns.{EndsWithin, GoesOn, AreTurns, TurnsGive, IsAfter, AfterGives, IsInside, EnterGives, LastGives, FinalGives, turns_of, loop_of, variable_of, marks_of_control}
use Rattle.stmt_flows.specs.Statements.{loop_flow}
use Rattle.stmt_flows.proofs.Passing as P

-- what a constant reads
pub reads-nothing : (l : Loop) (h : Sight) → (meaning l.test).constant h ≡ true → F.reading ((meaning l.test).reads h) ≡ F.nothing
reads-nothing l h is = ap F.reading ((hangs l.test).constant h is)

abbrev again : Loop → ℕ → Flows
again l m j = F.and_then (F.and_then (F.reading ((meaning l.step).reads j)) (F.setting l.variable (marks_in l))) (turns_of l m (stepped l j))

abbrev turn : Loop → ℕ → Flows
turn l m j = F.and_then (F.reading ((meaning l.test).reads j)) (F.and_then (F.catching O.Continue ((doing l.body).flow j)) (F.only_if ((meaning l.step).constant j) (again l m) F.endless j))

turns-zero : (l : Loop) (h : Sight) → turns_of l zero h ≡ F.only_if ((meaning l.test).constant h && not (is_true (meaning l.test) h.around)) (λ j. F.reading ((meaning l.test).reads j)) F.endless h
unfolding F.turns
turns-zero l h = refl

turns-suc : (l : Loop) (m : ℕ) (h : Sight) → turns_of l (suc m) h ≡ F.only_if ((meaning l.test).constant h) (F.only_if (is_true (meaning l.test) h.around) (turn l m) (F.reading ((meaning l.test).reads h))) F.endless h
unfolding F.turns
turns-suc l m h = refl

-- no further turn
pub last-unknown : (l : Loop) (h : Sight) → (meaning l.test).constant h ≡ false → turns_of l zero h ≡ F.endless
last-unknown l h is = turns-zero l h ∙ ap (λ b. F.only_if (b && not (is_true (meaning l.test) h.around)) (λ j. F.reading ((meaning l.test).reads j)) F.endless h) is

pub last-true : (l : Loop) (h : Sight) → (meaning l.test).constant h ≡ true → is_true (meaning l.test) h.around ≡ true → turns_of l zero h ≡ F.endless
last-true l h is goes =
    turns-zero l h ∙ ap (λ b. F.only_if (b && not (is_true (meaning l.test) h.around)) (λ j. F.reading ((meaning l.test).reads j)) F.endless h) is
    ∙ ap (λ b. F.only_if (not b) (λ j. F.reading ((meaning l.test).reads j)) F.endless h) goes

pub last-false : (l : Loop) (h : Sight) → (meaning l.test).constant h ≡ true → is_true (meaning l.test) h.around ≡ false → turns_of l zero h ≡ F.nothing
last-false l h is ends =
    turns-zero l h ∙ ap (λ b. F.only_if (b && not (is_true (meaning l.test) h.around)) (λ j. F.reading ((meaning l.test).reads j)) F.endless h) is
    ∙ ap (λ b. F.only_if (not b) (λ j. F.reading ((meaning l.test).reads j)) F.endless h) ends ∙ reads-nothing l h is

-- a turn
pub turn-unknown : (l : Loop) (m : ℕ) (h : Sight) → (meaning l.test).constant h ≡ false → turns_of l (suc m) h ≡ F.endless
turn-unknown l m h is = turns-suc l m h ∙ ap (λ b. F.only_if b (F.only_if (is_true (meaning l.test) h.around) (turn l m) (F.reading ((meaning l.test).reads h))) F.endless h) is

pub turn-false : (l : Loop) (m : ℕ) (h : Sight) → (meaning l.test).constant h ≡ true → is_true (meaning l.test) h.around ≡ false → turns_of l (suc m) h ≡ F.nothing
turn-false l m h is ends =
    turns-suc l m h ∙ ap (λ b. F.only_if b (F.only_if (is_true (meaning l.test) h.around) (turn l m) (F.reading ((meaning l.test).reads h))) F.endless h) is
    ∙ ap (λ b. F.only_if b (turn l m) (F.reading ((meaning l.test).reads h)) h) ends ∙ reads-nothing l h is

turn-true : (l : Loop) (m : ℕ) (h : Sight) → Makes l h → turns_of l (suc m) h ≡ F.and_then (F.catching O.Continue ((doing l.body).flow h)) (F.only_if ((meaning l.step).constant h) (again l m) F.endless h)
turn-true l m h makes =
    let rest = F.and_then (F.catching O.Continue ((doing l.body).flow h)) (F.only_if ((meaning l.step).constant h) (again l m) F.endless h) in
    turns-suc l m h ∙ ap (λ b. F.only_if b (F.only_if (is_true (meaning l.test) h.around) (turn l m) (F.reading ((meaning l.test).reads h))) F.endless h) makes.constant
    ∙ ap (λ b. F.only_if b (turn l m) (F.reading ((meaning l.test).reads h)) h) makes.goes ∙ ap (λ f. F.and_then f rest) (reads-nothing l h makes.constant) ∙ Q.nothing-then rest

pub turn-ends : (l : Loop) (m : ℕ) (h : Sight) → Makes l h → (meaning l.step).constant h ≡ false → turns_of l (suc m) h ≡ F.and_then (F.catching O.Continue ((doing l.body).flow h)) F.endless
turn-ends l m h makes is = turn-true l m h makes ∙ ap (λ b. F.and_then (F.catching O.Continue ((doing l.body).flow h)) (F.only_if b (again l m) F.endless h)) is

pub turn-goes : (l : Loop) (m : ℕ) (h : Sight) → Makes l h → (meaning l.step).constant h ≡ true
    → turns_of l (suc m) h ≡ F.and_then (F.and_then (F.catching O.Continue ((doing l.body).flow h)) (F.setting l.variable (marks_in l))) (turns_of l m (stepped l h))
turn-goes l m h makes is =
    let body = F.catching O.Continue ((doing l.body).flow h) in
    let set = F.setting l.variable (marks_in l) in
    let rest = turns_of l m (stepped l h) in
    turn-true l m h makes ∙ ap (λ b. F.and_then body (F.only_if b (again l m) F.endless h)) is
    ∙ ap (λ us. F.and_then body (F.and_then (F.and_then (F.reading us) set) rest)) ((hangs l.step).constant h is)
    ∙ ap (λ f. F.and_then body (F.and_then f rest)) (Q.nothing-then set) ∙ sym (Q.in-a-row body set rest)

one-more : (m : ℕ) → 1 + m ≡ suc m
one-more m = omega arith

-- a turn that isn't made, by its test
pub unknown-ends : (r : Found) (l : Loop) (h : Sight) → (meaning l.test).constant h ≡ false → IsFlow r F.endless → EndsWithin r l 1 h
unknown-ends r l h is f = record { flow = F.endless; is = f; all = λ m. ap (λ n. turns_of l n h) (one-more m) ∙ turn-unknown l m h is }

pub false-ends : (r : Found) (l : Loop) (h : Sight) → (meaning l.test).constant h ≡ true → is_true (meaning l.test) h.around ≡ false → IsFlow r F.nothing → EndsWithin r l 1 h
false-ends r l h is ends f = record { flow = F.nothing; is = f; all = λ m. ap (λ n. turns_of l n h) (one-more m) ∙ turn-false l m h is ends }

-- the statements of a turn's body
body-counts : (l : Loop) (m : ℕ) (h : Sight) → Makes l h → ((doing l.body).flow h).statements ≤ (turns_of l (1 + m) h).statements
body-counts l m h makes =
    subst (λ (f : Flow). ((doing l.body).flow h).statements ≤ f.statements) (sym (ap (λ n. turns_of l n h) (one-more m) ∙ turn-true l m h makes))
    (let e : (F.catching O.Continue ((doing l.body).flow h)).statements ≡ ((doing l.body).flow h).statements = refl in omega arith)

-- a turn that is made
pub turn-done : (r : Result Turned StmtFail) (counting : Bool) (l : Loop) (h j : Sight) → Makes l h → AfterGives r l (F.catching O.Continue ((doing l.body).flow h)) h j → TurnsGive r counting l 1 h j
turn-done (Ok t) counting l h j makes g = (g.0, by t.ended g.1)
  where
    by : (b : Bool) → IsAfter b t.found l (F.catching O.Continue ((doing l.body).flow h)) h j → AreTurns b t.found l 1 h j
    by true a = record { flow = F.and_then (F.catching O.Continue ((doing l.body).flow h)) F.endless; is = a.1; all = λ m. ap (λ n. turns_of l n h) (one-more m) ∙ turn-ends l m h makes a.0 }
    by false a = record {
      flow = F.and_then (F.catching O.Continue ((doing l.body).flow h)) (F.setting l.variable (marks_in l));
      is = a.1;
      all = λ m.
          ap (λ n. turns_of l n h) (one-more m) ∙ turn-goes l m h makes a.0
          ∙ ap (λ k. F.and_then (F.and_then (F.catching O.Continue ((doing l.body).flow h)) (F.setting l.variable (marks_in l))) (turns_of l m k)) (sym a.2);
      later = Later.Next h j makes a.0 (subst (λ k. Later l k j) a.2 (Later.Now j));
    }
turn-done (Err S.Memory) counting l h j makes g = tt
turn-done (Err (S.TooLong at)) counting l h j makes g = record { turn = h; later = Later.Now h; long = inr (makes, inr g) }
turn-done (Err S.TooMany) counting l h j makes g = absurd g

pub body-fails : (r : Result Turned StmtFail) (x : StmtFail) (counting : Bool) (l : Loop) (h j : Sight) → r ≡ Err x → Makes l h → FoundGives (Err x) counting (LongIn h l.body) ((doing l.body).flow h) → TurnsGive r counting l 1 h j
body-fails r S.Memory counting l h j is makes g = subst (λ q. TurnsGive q counting l 1 h j) (sym is) tt
body-fails r (S.TooLong at) counting l h j is makes g = subst (λ q. TurnsGive q counting l 1 h j) (sym is) (record { turn = h; later = Later.Now h; long = inr (makes, inl g) })
body-fails r S.TooMany counting l h j is makes g = subst (λ q. TurnsGive q counting l 1 h j) (sym is) (g.0, λ m. omega (arith, g.1, body-counts l m h makes))

pub later-on : (l : Loop) (h i j : Sight) → Later l h i → Later l i j → Later l h j
later-on l h i j (Later.Now x) b = b
later-on l h i j (Later.Next x y makes is a) b = Later.Next h j makes is (later-on l (stepped l h) i j a b)

-- twice as many turns
abbrev Twice : ℕ → ℕ → Type 0
Twice n all = (m : ℕ) → all + m ≡ n + (n + m)

pub first-ends : (t : Turned) (counting : Bool) (l : Loop) (n all : ℕ) (h i j : Sight) → ((m : ℕ) → all + m ≡ n + (n + m)) → t.ended ≡ true → TurnsGive (Ok t) counting l n h i → TurnsGive (Ok t) counting l all h j
first-ends t counting l n all h i j twice is g =
    let e = subst (λ b. AreTurns b t.found l n h i) is g.1 in
    (g.0, subst (λ b. AreTurns b t.found l all h j) (sym is) (record { flow = e.flow; is = e.is; all = λ m. ap (λ k. turns_of l k h) (twice m) ∙ e.all (n + m) }))

pub first-fails : (r : Result Turned StmtFail) (x : StmtFail) (counting : Bool) (l : Loop) (n all : ℕ) (h i j : Sight) → r ≡ Err x → ((m : ℕ) → all + m ≡ n + (n + m)) → TurnsGive (Err x) counting l n h i → TurnsGive r counting l all h j
first-fails r S.Memory counting l n all h i j is twice g = subst (λ q. TurnsGive q counting l all h j) (sym is) tt
first-fails r (S.TooLong at) counting l n all h i j is twice g = subst (λ q. TurnsGive q counting l all h j) (sym is) g
first-fails r S.TooMany counting l n all h i j is twice g =
    subst (λ q. TurnsGive q counting l all h j) (sym is) (g.0, λ m. subst (λ k. most_statements < (turns_of l k h).statements) (sym (twice m)) (g.1 (n + m)))

goes : (t : Turned) (counting : Bool) (l : Loop) (n : ℕ) (h i : Sight) → t.ended ≡ false → TurnsGive (Ok t) counting l n h i → GoesOn t.found l n h i
goes t counting l n h i is g = subst (λ b. AreTurns b t.found l n h i) is g.1

pub then-fails : (r : Result Turned StmtFail) (x : StmtFail) (t : Turned) (counting : Bool) (l : Loop) (n all : ℕ) (h i j : Sight) → r ≡ Err x → ((m : ℕ) → all + m ≡ n + (n + m)) → t.ended ≡ false
    → TurnsGive (Ok t) counting l n h i → TurnsGive (Err x) counting l n i j → TurnsGive r counting l all h j
then-fails r S.Memory t counting l n all h i j is twice on f g = subst (λ q. TurnsGive q counting l all h j) (sym is) tt
then-fails r (S.TooLong at) t counting l n all h i j is twice on f g =
    subst (λ q. TurnsGive q counting l all h j) (sym is) (record { turn = g.turn; later = later-on l h i g.turn (goes t counting l n h i on f).later g.later; long = g.long })
then-fails r S.TooMany t counting l n all h i j is twice on f g =
    let e = goes t counting l n h i on f in
    subst (λ q. TurnsGive q counting l all h j) (sym is)
    (g.0, λ m. subst (λ (x : Flow). most_statements < x.statements) (sym (ap (λ k. turns_of l k h) (twice m) ∙ e.all (n + m))) (omega (arith, g.1 m)))

-- both halves
both-are : (a b r : Found) (l : Loop) (n all : ℕ) (h i j : Sight) (ended : Bool) → ((m : ℕ) → all + m ≡ n + (n + m)) → (e : GoesOn a l n h i) (g : AreTurns ended b l n i j) → ((f : Flow) → IsFlow b f → IsFlow r (F.and_then e.flow f)) → AreTurns ended r l all h j
both-are a b r l n all h i j true twice e g joins = record {
  flow = F.and_then e.flow g.flow;
  is = joins g.flow g.is;
  all = λ m. ap (λ k. turns_of l k h) (twice m) ∙ e.all (n + m) ∙ ap (F.and_then e.flow) (g.all m);
}
both-are a b r l n all h i j false twice e g joins = record {
  flow = F.and_then e.flow g.flow;
  is = joins g.flow g.is;
  all = λ m. ap (λ k. turns_of l k h) (twice m) ∙ e.all (n + m) ∙ ap (F.and_then e.flow) (g.all m) ∙ sym (Q.in-a-row e.flow g.flow (turns_of l m j));
  later = later-on l h i j e.later g.later;
}

flow-of-turns : (ended : Bool) (b : Found) (l : Loop) (n : ℕ) (i j : Sight) → AreTurns ended b l n i j → (f : Flow) × IsFlow b f × ((m : ℕ) → f.statements ≤ (turns_of l (n + m) i).statements)
flow-of-turns true b l n i j g = (g.flow, g.is, λ m. subst (λ (x : Flow). g.flow.statements ≤ x.statements) (sym (g.all m)) (omega arith))
flow-of-turns false b l n i j g = (g.flow, g.is, λ m. subst (λ (x : Flow). g.flow.statements ≤ x.statements) (sym (g.all m)) (omega arith))

pub both-done : (t u : Turned) (found : Found) (counting ended : Bool) (l : Loop) (n all : ℕ) (h i j : Sight) → ((m : ℕ) → all + m ≡ n + (n + m)) → t.ended ≡ false → ended ≡ u.ended → TurnsGive (Ok t) counting l n h i → TurnsGive (Ok u) counting l n i j
    → ((f g : Flow) → IsFlow t.found f → IsFlow u.found g → FoundGives (Ok found) counting no_token (F.and_then f g)) → TurnsGive (Ok (record { found = found; ended = ended })) counting l all h j
both-done t u found counting ended l n all h i j twice on is f g joins =
    let e = goes t counting l n h i on f in
    let k = flow-of-turns u.ended u.found l n i j g.1 in
    ((joins e.flow k.0 e.is k.1).0, subst (λ b. AreTurns b found l all h j) (sym is) (both-are t.found u.found found l n all h i j u.ended twice e g.1 (λ x y. (joins e.flow x e.is y).1)))

pub join-fails : (r : Result Turned StmtFail) (x : StmtFail) (t u : Turned) (counting : Bool) (l : Loop) (n all : ℕ) (h i j : Sight) → r ≡ Err x → ((m : ℕ) → all + m ≡ n + (n + m)) → t.ended ≡ false → TurnsGive (Ok t) counting l n h i → TurnsGive (Ok u) counting l n i j
    → ((f g : Flow) → IsFlow t.found f → IsFlow u.found g → FoundGives (Err x) counting no_token (F.and_then f g)) → TurnsGive r counting l all h j
join-fails r S.Memory t u counting l n all h i j is twice on f g joins = subst (λ q. TurnsGive q counting l all h j) (sym is) tt
join-fails r (S.TooLong at) t u counting l n all h i j is twice on f g joins =
    let e = goes t counting l n h i on f in
    let k = flow-of-turns u.ended u.found l n i j g.1 in absurd (joins e.flow k.0 e.is k.1)
join-fails r S.TooMany t u counting l n all h i j is twice on f g joins =
    let e = goes t counting l n h i on f in
    let k = flow-of-turns u.ended u.found l n i j g.1 in
    let many = joins e.flow k.0 e.is k.1 in
    subst (λ q. TurnsGive q counting l all h j) (sym is)
    (many.0, λ m. subst (λ (x : Flow). most_statements < x.statements) (sym (ap (λ k. turns_of l k h) (twice m) ∙ e.all (n + m))) (omega (arith, many.1, k.2 m)))

-- what is known once the variable holds bits
or-turned : (a b : Bool) → (a || b) ≡ (b || a)
or-turned true true = refl
or-turned true false = refl
or-turned false true = refl
or-turned false false = refl

same-sight : (fs : List Function) (new old : List (Option (List Bit4))) (vs ws : List Variable) (n : ℕ) (marks : List Bool) (bits : List Bit4) → now_of [] new ≡ put (written (local_number n) (whole (length marks)) bits) (now_of [] old)
    → ((q : Place) → sure_of vs q ≡ (sure_of ws q || covers (F.whole_local n marks) q)) → sight_in fs new vs ≡ knowing n marks bits (sight_in fs old ws)
same-sight fs new old vs ws n marks bits now sure =
    ap (λ v. record { around = record { now = v; holds = λ x. true; callee = callees fs }; sure = sure_of vs }) now
    ∙ ap (λ s. record { around = record { now = put (written (local_number n) (whole (length marks)) bits) (now_of [] old); holds = λ x. true; callee = callees fs }; sure = s }) (fun_ext (λ q. sure q))

-- the place of the variable, by its width
pub variable-bits : (v : Variable) (marks : List Bool) (q : Place) → length marks ≡ v.width → covers (bits_of_variable v) q ≡ covers (F.whole_local v.local marks) q
variable-bits v marks q is = ap (λ (n : ℕ). covers (record { number = local_number v.local; low = 0; high = n; at = 0 }) q) (sym is)

pub holds-first : (fs : List Function) (v : Variable) (vs ws : List Variable) (marks : List Bool) (bits : List Bit4) (old new : List (Option (List Bit4))) → length marks ≡ v.width → vs ≡ v ∷ ws → LocalHolds v bits old new
    → sight_in fs new vs ≡ knowing v.local marks bits (sight_in fs old ws)
holds-first fs v vs ws marks bits old new long is holds =
    same-sight fs new old vs ws v.local marks bits (subst (λ n. now_of [] new ≡ put (written (local_number v.local) (whole n) bits) (now_of [] old)) (sym long) (holds []))
    (λ q. ap (λ us. sure_of us q) is ∙ or-turned (covers (bits_of_variable v) q) (sure_of ws q) ∙ ap (λ b. sure_of ws q || b) (variable-bits v marks q long))

pub holds-next : (fs : List Function) (v : Variable) (vs : List Variable) (marks : List Bool) (bits : List Bit4) (old new : List (Option (List Bit4))) → length marks ≡ v.width → IsInside v vs → LocalHolds v bits old new
    → sight_in fs new vs ≡ knowing v.local marks bits (sight_in fs old vs)
holds-next fs v vs marks bits old new long inside holds =
    same-sight fs new old vs vs v.local marks bits (subst (λ n. now_of [] new ≡ put (written (local_number v.local) (whole n) bits) (now_of [] old)) (sym long) (holds []))
    (λ q. sym (inside q) ∙ ap (λ b. sure_of vs q || b) (variable-bits v marks q long))

absorbed : (a b : Bool) → ((a || b) || a) ≡ (a || b)
absorbed true b = refl
absorbed false true = refl
absorbed false false = refl

pub inside-first : (v : Variable) (vs ws : List Variable) → vs ≡ v ∷ ws → IsInside v vs
inside-first v vs ws is q =
    ap (λ us. sure_of us q || covers (bits_of_variable v) q) is ∙ absorbed (covers (bits_of_variable v) q) (sure_of ws q) ∙ ap (λ us. sure_of us q) (sym is)

-- the variable of a loop, as its control has it
pub control-long : (c : Control) → length (marks_of_control c) ≡ width_of c.first.now.of
control-long c = ap (λ (l : Layout). length l.two_state) (heads c.first.now).kind

control-value : (c : Control) (e : Expr) (a : Around) (bits : List Bit4) → bits ≡ assigned_to (layout c.first.now.of).two_state (meaning e) a → bits ≡ assigned_to (marks_of_control c) (meaning e) a
control-value c e a bits is = is ∙ ap (λ (l : Layout). assigned_to l.two_state (meaning e) a) (sym (heads c.first.now).kind)

pub entered-is : (fs : List Function) (c : Control) (b : Stmt) (v : Variable) (vs ws : List Variable) (bits : List Bit4) (old new : List (Option (List Bit4))) → v ≡ variable_of c → vs ≡ v ∷ ws → LocalHolds v bits old new
    → bits ≡ assigned_to (layout c.first.now.of).two_state (meaning c.first.now) (sight_in fs old ws).around → sight_in fs new vs ≡ entered (loop_of c b) (sight_in fs old ws)
entered-is fs c b v vs ws bits old new is list held value =
    holds-first fs (variable_of c) vs ws (marks_of_control c) bits old new (control-long c) (list ∙ ap (λ x. x ∷ ws) is) (subst (λ x. LocalHolds x bits old new) is held)
    ∙ ap (λ bs. knowing c.local (marks_of_control c) bs (sight_in fs old ws)) (control-value c c.first.now (sight_in fs old ws).around bits value)

pub stepped-is : (fs : List Function) (c : Control) (b : Stmt) (v : Variable) (vs : List Variable) (bits : List Bit4) (old new : List (Option (List Bit4))) → v ≡ variable_of c → IsInside (variable_of c) vs → LocalHolds v bits old new
    → bits ≡ assigned_to (layout c.first.now.of).two_state (meaning c.step.now) (sight_in fs old vs).around → sight_in fs new vs ≡ stepped (loop_of c b) (sight_in fs old vs)
stepped-is fs c b v vs bits old new is inside held value =
    holds-next fs (variable_of c) vs (marks_of_control c) bits old new (control-long c) inside (subst (λ x. LocalHolds x bits old new) is held)
    ∙ ap (λ bs. knowing c.local (marks_of_control c) bs (sight_in fs old vs)) (control-value c c.step.now (sight_in fs old vs).around bits value)

-- no further turn, where the test is known
pub last-known : (r : Found) (l : Loop) (h : Sight) (b : Bool) → (meaning l.test).constant h ≡ true → b ≡ is_true (meaning l.test) h.around → IsFlow r (record F.nothing { unrolls = not b }) → IsFlow r (turns_of l zero h)
last-known r l h true is goes f = subst (IsFlow r) (sym (last-true l h is (sym goes))) f
last-known r l h false is ends f = subst (IsFlow r) (sym (last-false l h is (sym ends))) f

-- what fails in bounds
pub enter-fails : (r : Result (Option Inside) StmtFail) (x : FlowFail) (y : StmtFail) (k : Known) (c : Control) → r ≡ Err y → y ≡ fail_of x → IndexFails x k c.first.now → EnterGives r k c
enter-fails r x y k c is from h = subst (λ q. EnterGives q k c) (sym is) (P.takes-long x y k c.first.now from h)

pub after-fails : (r : Result Turned StmtFail) (x : FlowFail) (y : StmtFail) (k : Known) (l : Loop) (g : Flow) (h j : Sight) → r ≡ Err y → y ≡ fail_of x → sight k ≡ h → IndexFails x k l.step → AfterGives r l g h j
after-fails r X.Memory y k l g h j is from sees f = subst (λ q. AfterGives q l g h j) (sym (is ∙ ap Err from)) tt
after-fails r (X.TooLong at) y k l g h j is from sees f = subst (λ q. AfterGives q l g h j) (sym (is ∙ ap Err from)) (record { known = k; sees = sees; long = f })

pub last-fails : (r : Result Found StmtFail) (x : FlowFail) (y : StmtFail) (k : Known) (l : Loop) → r ≡ Err y → y ≡ fail_of x → IndexFails x k l.test → LastGives r l (sight k)
last-fails r x y k l is from h = subst (λ q. LastGives q l (sight k)) (sym is) (P.takes-long x y k l.test from h)

pub final-fails : (r : Result Found StmtFail) (x : StmtFail) (l : Loop) (h j : Sight) → r ≡ Err x → Later l h j → Fails x (TakesLong j l.test) → FinalGives r l h
final-fails r x l h j is later f = subst (λ q. FinalGives q l h) (sym is) (P.fails-wider x (TakesLong j l.test) (LongFrom l h) (λ at t. record { turn = j; later = later; long = inl t }) f)

-- a turn whose test takes too long
pub test-fails : (r : Result Turned StmtFail) (x : FlowFail) (y : StmtFail) (k : Known) (counting : Bool) (l : Loop) (h j : Sight) → r ≡ Err y → y ≡ fail_of x → sight k ≡ h → IndexFails x k l.test → TurnsGive r counting l 1 h j
test-fails r X.Memory y k counting l h j is from sees f = subst (λ q. TurnsGive q counting l 1 h j) (sym (is ∙ ap Err from)) tt
test-fails r (X.TooLong at) y k counting l h j is from sees f =
    subst (λ q. TurnsGive q counting l 1 h j) (sym (is ∙ ap Err from)) (record { turn = h; later = Later.Now h; long = inl (record { known = k; sees = sees; long = f }) })

-- all turns
pub ends-all : (r : Found) (t : Turned) (l : Loop) (h j : Sight) → t.ended ≡ true → AreTurns t.ended t.found l 65536 h j → ((f : Flow) → IsFlow t.found f → IsFlow r (F.catching O.Break f)) → IsFlow r (F.catching O.Break (turns_of l 65536 h))
ends-all r t l h j is a caught =
    let e = subst (λ b. AreTurns b t.found l 65536 h j) is a in
    subst (λ f. IsFlow r (F.catching O.Break f)) (sym (e.all 0)) (caught e.flow e.is)

pub goes-all : (r last all : Found) (t : Turned) (l : Loop) (h j : Sight) → t.ended ≡ false → AreTurns t.ended t.found l 65536 h j → IsFlow last (turns_of l 0 j) → ((f g : Flow) → IsFlow t.found f → IsFlow last g → IsFlow all (F.and_then f g))
    → ((f : Flow) → IsFlow all f → IsFlow r (F.catching O.Break f)) → IsFlow r (F.catching O.Break (turns_of l 65536 h))
goes-all r last all t l h j is a ends both caught =
    let e = subst (λ b. AreTurns b t.found l 65536 h j) is a in
    subst (λ f. IsFlow r (F.catching O.Break f)) (sym (e.all 0)) (caught (F.and_then e.flow (turns_of l 0 j)) (both e.flow (turns_of l 0 j) e.is ends))

pub later-of : (t : Turned) (l : Loop) (h j : Sight) → t.ended ≡ false → AreTurns t.ended t.found l 65536 h j → Later l h j
later-of t l h j is a = let e = subst (λ b. AreTurns b t.found l 65536 h j) is a in e.later

-- a loop, once its first value is known or isn't

pub loop-unknown : (l : Loop) (h : Sight) → (meaning l.first).constant h ≡ false → F.and_then (F.and_then (F.reading ((meaning l.first).reads h)) (F.setting l.variable (marks_in l))) F.endless ≡ loop_flow l h
loop-unknown l h is =
    ap (λ b. F.and_then (F.and_then (F.reading ((meaning l.first).reads h)) (F.setting l.variable (marks_in l))) (F.only_if b (λ j. F.catching O.Break (turns_of l 65536 (entered l j))) F.endless h)) (sym is)

pub loop-known : (l : Loop) (h : Sight) → (meaning l.first).constant h ≡ true
    → F.and_then (F.and_then (F.reading ((meaning l.first).reads h)) (F.setting l.variable (marks_in l))) (F.catching O.Break (turns_of l 65536 (entered l h))) ≡ loop_flow l h
loop-known l h is =
    ap (λ b. F.and_then (F.and_then (F.reading ((meaning l.first).reads h)) (F.setting l.variable (marks_in l))) (F.only_if b (λ j. F.catching O.Break (turns_of l 65536 (entered l j))) F.endless h)) (sym is)

pub turned-fails : (r : Result Found StmtFail) (x : StmtFail) (counting : Bool) (l : Loop) (h j : Sight) → r ≡ Err x → TurnsGive (Err x) counting l 65536 h j → FoundGives r counting (LongFrom l h) (F.catching O.Break (turns_of l 65536 h))
turned-fails r S.Memory counting l h j is g = subst (λ q. FoundGives q counting (LongFrom l h) (F.catching O.Break (turns_of l 65536 h))) (sym is) tt
turned-fails r (S.TooLong at) counting l h j is g = subst (λ q. FoundGives q counting (LongFrom l h) (F.catching O.Break (turns_of l 65536 h))) (sym is) g
turned-fails r S.TooMany counting l h j is g = subst (λ q. FoundGives q counting (LongFrom l h) (F.catching O.Break (turns_of l 65536 h))) (sym is) (g.0, g.1 0)

pub final-gives : (r : Result Found StmtFail) (counting : Bool) (l : Loop) (h : Sight) → FinalGives r l h → FoundGives r counting (LongFrom l h) (F.catching O.Break (turns_of l 65536 h))
final-gives (Ok r) counting l h g = g
final-gives (Err S.Memory) counting l h g = tt
final-gives (Err (S.TooLong at)) counting l h g = g
final-gives (Err S.TooMany) counting l h g = absurd g

pub doubled : (d n : ℕ) → d ≡ suc n → (m : ℕ) → 2 ^ d + m ≡ 2 ^ n + (2 ^ n + m)
doubled d n is m = let e : 2 ^ d ≡ 2 ^ n + 2 ^ n = ap (λ k. 2 ^ k) is ∙ twice n in omega (arith, e)
  where
    twice : (n : ℕ) → 2 ^ suc n ≡ 2 ^ n + 2 ^ n
    twice n = omega arith

-- whether a known test stops a loop
pub stops-true : (b g : Bool) → b ≡ not g → b ≡ true → g ≡ false
stops-true b true is h = absurd (cc (sym is ∙ h))
stops-true b false is h = refl

pub stops-false : (b g : Bool) → b ≡ not g → b ≡ false → g ≡ true
stops-false b true is h = refl
stops-false b false is h = absurd (cc (sym is ∙ h))

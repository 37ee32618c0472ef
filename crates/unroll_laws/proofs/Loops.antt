-- Loops that are unrolled, turn by turn: what the rules on loops value, where no signal is held, is what is known.
use Rattle.std.proofs.Common.{◌≡◌, ℕ, zero, suc, ◌+◌, Bool, true, false, ◌&&◌, ◌||◌, ◌==◌, not, List, length, Option, Some, None, refl, arith, ap, sym, ◌∙◌, subst}
use Rattle.std.specs.List.{list_any}
use Rattle.std.proofs.lemmas.Bool.{and_parts, false≢true}
use Rattle.b4_core.specs.Bits.{is_one}
use Rattle.b4_core.specs.Bitwise.{truth_of}
use Rattle.row_machine.specs.Valuation.{Place}
use Rattle.sv_source.specs.declared.token.Spot.{Spot}
use Rattle.sv_types.specs.declared.expression.Expr.{Expr}
use Rattle.sv_types.specs.Layouts.{stored}
use Rattle.sv_types.specs.Surroundings.{Sight, local_number}
use Rattle.sv_types.specs.Meanings.{wide, signed}
use Rattle.sv_types.specs.Operators.{assigned_to}
use Rattle.sv_types.specs.Expressions.{meaning}
use Rattle.sv_types.specs.Runs.{is_true, most_turns}
use Rattle.sv_types.specs.Flows.{Flow, covers, whole_local, knowing}
use Rattle.sv_types.specs.Statements.{doing, is_bounded}
use Rattle.flow_laws.specs.Hangs.{Seen, Same}
use Rattle.flow_laws.proofs.Agreeing as A
use Rattle.flow_laws.proofs.Hanging.{hangs}
use Rattle.flow_laws.proofs.Selects.{sees-itself}
use Rattle.flow_laws.proofs.Naming.{tells}
use Rattle.flow_laws.proofs.Bounding.{bounded-same}
use Rattle.break_laws.specs.Laws.{formals_of}
use Rattle.break_laws.proofs.ActionLevels.{control_of}
use Rattle.break_laws.proofs.Bounds.{agrees}
use Rattle.stmt_flows.specs.Long.{Loop, Later, Makes, marks_in, entered, stepped}
use Rattle.stmt_flows.specs.Turns.{turns_of}
use Rattle.stmt_flows.proofs.Turning as T
use Rattle.design_breaks.specs.declared.Unrolled.{Unrolled}
use Rattle.design_breaks.specs.Indices.{unheld}
use Rattle.design_breaks.specs.Unrolling as U
use Rattle.design_breaks.specs.Unrolling.{Unrolls, onward, too_long_at, given, goes_on, lasting, turns, looping, is_past}
use Rattle.design_breaks.specs.Actions.{actions, is_counted}
use Rattle.loop_laws.specs.Walks.{unrolls_of}
use Rattle.loop_laws.proofs.Turns as R
use Rattle.unroll_laws.specs.Passing.{passes_few}
use Rattle.unroll_laws.specs.Whole.{Whole}
use Rattle.unroll_laws.proofs.Lists.{some-none, zero-more, whole-found, as-many}

abbrev pub control : Loop → Spot → U.Control
control l spot = control_of l.variable l.first l.test l.step spot

-- what is known is valued alike where no signal is held
same-unheld : (e : Expr) (h : Sight) → (meaning e).constant h ≡ true → Same (meaning e) (unheld h.around) h.around
same-unheld e h constant = (hangs e).same h (unheld h.around) h.around seen (sees-itself h) (A.agree-none ((meaning e).reads h) (unheld h.around) h.around ((hangs e).constant h constant))
  where
    seen : Seen h (unheld h.around)
    seen = record { sure = λ n j is. refl; callee = refl }

given-is : (l : Loop) (spot : Spot) (e : Expr) (h : Sight) → (meaning e).constant h ≡ true → given (control l spot) e h ≡ knowing l.variable (marks_in l) (assigned_to (marks_in l) (meaning e) h.around) h
given-is l spot e h constant = ap (λ v. knowing l.variable (marks_in l) (stored (marks_in l) v) h) ((same-unheld e h constant).given (length (marks_in l)))

goes-is : (l : Loop) (spot : Spot) (h : Sight) → (meaning l.test).constant h ≡ true → goes_on (control l spot) h ≡ is_true (meaning l.test) h.around
goes-is l spot h constant = ap (λ v. is_one (truth_of v)) ((same-unheld l.test h constant).value (wide (meaning l.test)) (signed (meaning l.test)))

-- In a turn the variable's bits are sure, so the bounds are known and the loops in it are bounded.
pub record InTurn (l : Loop) (j : Sight) : Type 0 where
  pub inside : (q : Place) → (j.sure q || covers (whole_local l.variable (marks_in l)) q) ≡ j.sure q
  pub test : (meaning l.test).constant j ≡ true
  pub step : (meaning l.step).constant j ≡ true
  pub body : (doing l.body).bounded j ≡ true

or-again : (a b : Bool) → ((a || b) || b) ≡ (a || b)
or-again true b = refl
or-again false true = refl
or-again false false = refl

step-turn : (l : Loop) (j : Sight) → InTurn l j → InTurn l (stepped l j)
step-turn l j t = record {
  inside = λ q. or-again (j.sure q) (covers (whole_local l.variable (marks_in l)) q);
  test = (tells l.test).constant (stepped l j) j t.inside ∙ t.test;
  step = (tells l.step).constant (stepped l j) j t.inside ∙ t.step;
  body = bounded-same l.body (stepped l j) j (record { sure = t.inside; callee = refl }) ∙ t.body;
}

-- a turn of a loop whose turns end
pub record EndingTurn (l : Loop) (spot : Spot) (m : ℕ) (j : Sight) : Type 0 where
  pub turn : InTurn l j
  pub ends : lasting m (control l spot) j ≡ None

pub test-short : (l : Loop) (spot : Spot) (m : ℕ) (j : Sight) → EndingTurn l spot m j → too_long_at l.test j ≡ None
test-short l spot m j t = by (too_long_at l.test j) refl
  where
    by : (o : Option ℕ) → too_long_at l.test j ≡ o → too_long_at l.test j ≡ None
    by None is = is
    by (Some at) is = some-none (lasting m (control l spot) j) at t.ends (R.test-long m (control l spot) j at is)

-- another turn
pub record NextTurn (l : Loop) (spot : Spot) (m : ℕ) (j : Sight) : Type 0 where
  pub rest : ℕ
  pub is : m ≡ suc rest
  pub short : too_long_at l.step j ≡ None
  pub lasts : EndingTurn l spot rest (stepped l j)
  pub next : given (control l spot) l.step j ≡ stepped l j

pub next-turn : (l : Loop) (spot : Spot) (m : ℕ) (j : Sight) → EndingTurn l spot m j → goes_on (control l spot) j ≡ true → NextTurn l spot m j
next-turn l spot zero j t on = some-none (lasting zero (control l spot) j) spot.at t.ends (R.never-ends (control l spot) j (test-short l spot zero j t) on)
next-turn l spot (suc m) j t on = by (too_long_at l.step j) refl
  where
    c : U.Control
    c = control l spot

    short : too_long_at l.test j ≡ None
    short = test-short l spot (suc m) j t

    next : given c l.step j ≡ stepped l j
    next = given-is l spot l.step j t.turn.step

    by : (o : Option ℕ) → too_long_at l.step j ≡ o → NextTurn l spot (suc m) j
    by (Some at) is = some-none (lasting (suc m) c j) at t.ends (R.step-long m c j at short on is)
    by None is = record {
      rest = m;
      is = refl;
      short = is;
      lasts = record { turn = step-turn l j t.turn; ends = ap (lasting m c) (sym next) ∙ sym (R.step-on m c j short on is) ∙ t.ends };
      next = next;
    }

-- what the body adds
abbrev pub adds : Loop → Sight → Unrolls
adds l h = unrolls_of (formals_of h) l.body

pub turned : (l : Loop) (spot : Spot) (m : ℕ) (j : Sight) (u : Unrolled) (n : ℕ) (g : NextTurn l spot m j) → goes_on (control l spot) j ≡ true → Whole (turns m (control l spot) (adds l j) j u) n
    → Whole (turns g.rest (control l spot) (adds l j) (stepped l j) (onward (adds l j) j u)) n
turned l spot m j u n g on w =
    let c = control l spot in
    let F = adds l j in
    subst (λ (v : Unrolled). Whole v n)
    (ap (λ k. turns k c F j u) g.is ∙ R.turn-goes g.rest c F j u on ∙ ap (λ i. turns g.rest c F i (onward F j u)) g.next) w

-- the statements of turns
zero-counts : (l : Loop) (j : Sight) → (meaning l.test).constant j ≡ true → (turns_of l zero j).statements ≡ 0
zero-counts l j constant = by (is_true (meaning l.test) j.around) refl
  where
    by : (b : Bool) → is_true (meaning l.test) j.around ≡ b → (turns_of l zero j).statements ≡ 0
    by true is = ap (λ (f : Flow). f.statements) (T.last-true l j constant is)
    by false is = ap (λ (f : Flow). f.statements) (T.last-false l j constant is)

turn-counts : (l : Loop) (m : ℕ) (j : Sight) → (meaning l.test).constant j ≡ true → (meaning l.step).constant j ≡ true → is_true (meaning l.test) j.around ≡ true
    → (turns_of l (suc m) j).statements ≡ ((doing l.body).flow j).statements + (turns_of l m (stepped l j)).statements
turn-counts l m j test step on = ap (λ (f : Flow). f.statements) (T.turn-goes l m j (record { constant = test; goes = on }) step) ∙ ap (λ n. n + (turns_of l m (stepped l j)).statements) (no-more ((doing l.body).flow j).statements)
  where
    no-more : (n : ℕ) → n + 0 ≡ n
    no-more n = omega arith

-- that a body counts its statements, where its loops are bounded
abbrev pub Counts : Loop → Type 0
Counts l = (j : Sight) (u : Unrolled) (n : ℕ) → (doing l.body).bounded j ≡ true → Whole (onward (adds l j) j u) n → Whole u (((doing l.body).flow j).statements + n)

suc-same : (a b : ℕ) → suc a ≡ suc b → a ≡ b
suc-same a b is = cc

add-assoc : (a b n : ℕ) → a + (b + n) ≡ (a + b) + n
add-assoc a b n = omega arith

pub turns-count : (l : Loop) (spot : Spot) → Counts l → (m : ℕ) (j : Sight) (u : Unrolled) (n : ℕ) → EndingTurn l spot m j → Whole (turns m (control l spot) (adds l j) j u) n → Whole u ((turns_of l m j).statements + n)
turns-count l spot claim zero j u n t w =
    as-many u n ((turns_of l zero j).statements + n) (sym (zero-more n) ∙ ap (λ k. k + n) (sym (zero-counts l j t.turn.test))) (subst (λ (v : Unrolled). Whole v n) (R.turns-zero (control l spot) (adds l j) j u) w)
turns-count l spot claim (suc m) j u n t w = by (λ lasts v. turns-count l spot claim m (stepped l j) (onward (adds l j) j u) n lasts v) (goes_on (control l spot) j) refl
  where
    c : U.Control
    c = control l spot

    rest : ℕ
    rest = (turns_of l m (stepped l j)).statements

    test : (meaning l.test).constant j ≡ true
    test = t.turn.test

    by : (EndingTurn l spot m (stepped l j) → Whole (turns m c (adds l j) (stepped l j) (onward (adds l j) j u)) n → Whole (onward (adds l j) j u) (rest + n)) → (b : Bool) → goes_on c j ≡ b → Whole u ((turns_of l (suc m) j).statements + n)
    by rec false stops =
        as-many u n ((turns_of l (suc m) j).statements + n)
        (sym (zero-more n) ∙ ap (λ (f : Flow). f.statements + n) (sym (T.turn-false l m j test (sym (goes-is l spot j test) ∙ stops))))
        (subst (λ (v : Unrolled). Whole v n) (R.turn-stops m c (adds l j) j u stops) w)
    by rec true on =
        let next = next-turn l spot (suc m) j t on in
        let same = suc-same m next.rest next.is in
        let later = rec (subst (λ k. EndingTurn l spot k (stepped l j)) (sym same) next.lasts)
        (subst (λ k. Whole (turns k c (adds l j) (stepped l j) (onward (adds l j) j u)) n) (sym same) (turned l spot (suc m) j u n next on w)) in
        as-many u (((doing l.body).flow j).statements + (rest + n)) ((turns_of l (suc m) j).statements + n)
        (add-assoc ((doing l.body).flow j).statements rest n ∙ ap (λ k. k + n) (sym (turn-counts l m j test t.turn.step (sym (goes-is l spot j test) ∙ on))))
        (claim j u (rest + n) t.turn.body later)

-- a whole loop
true-and : (a b : Bool) → a ≡ true → b ≡ true → (a && b) ≡ true
true-and a b h g = ap (λ x. x && b) h ∙ g

pub record WholeLoop (l : Loop) (spot : Spot) (h : Sight) (u : Unrolled) (n : ℕ) : Type 0 where
  pub constant : (meaning l.first).constant h ≡ true
  pub short : too_long_at l.first h ≡ None
  pub lasts : EndingTurn l spot most_turns (entered l h)
  pub whole : Whole (turns most_turns (control l spot) (adds l h) (entered l h) u) n

abbrev pub BoundedLoop : Loop → Sight → Type 0
BoundedLoop l h = is_bounded l.variable (meaning l.first) (meaning l.test) (meaning l.step) (doing l.body) h ≡ true

pub record KnownBounds (l : Loop) (h : Sight) : Type 0 where
  pub first : (meaning l.first).constant h ≡ true
  pub turn : InTurn l (entered l h)
  pub counted : (spot : Spot) → is_counted (control l spot) (actions l.body) (formals_of h) h ≡ true

pub bounds : (l : Loop) (h : Sight) → BoundedLoop l h → KnownBounds l h
bounds l h b =
    let j = entered l h in
    let spared = λ (ns : List ℕ). not (list_any (λ (m : ℕ). m == local_number l.variable) ns) in
    let inner = (meaning l.test).constant j && (meaning l.step).constant j in
    let known = (meaning l.first).constant h && inner in
    let free = spared ((doing l.body).targets (formals_of h)) in
    let p = and_parts known (free && (doing l.body).bounded j) b in
    let q = and_parts ((meaning l.first).constant h) inner p.0 in
    let r = and_parts ((meaning l.test).constant j) ((meaning l.step).constant j) q.1 in
    let s = and_parts free ((doing l.body).bounded j) p.1 in
    record {
      first = q.0;
      turn = record { inside = λ x. or-again (h.sure x) (covers (whole_local l.variable (marks_in l)) x); test = r.0; step = r.1; body = s.1 };
      counted = λ spot. ap (λ ns. known && spared ns) ((agrees l.body).targets (formals_of h)) ∙ true-and known free p.0 s.0;
    }

pub unrolled : (l : Loop) (spot : Spot) (h : Sight) (u : Unrolled) (n : ℕ) → BoundedLoop l h
    → Whole (looping (is_counted (control l spot) (actions l.body) (formals_of h) h) (control l spot) (adds l h) h u) n → WholeLoop l spot h u n
unrolled l spot h u n b w = past (is_past u.endless spot.at) refl
  where
    c : U.Control
    c = control l spot

    F : Unrolls
    F = adds l h

    k : KnownBounds l h
    k = bounds l h b

    counted : Bool
    counted = is_counted c (actions l.body) (formals_of h) h

    first : given c l.first h ≡ entered l h
    first = given-is l spot l.first h k.first

    ending : too_long_at l.first h ≡ None → Whole (U.all_turns c F h u) n → (o : Option ℕ) → lasting most_turns c (given c l.first h) ≡ o → WholeLoop l spot h u n
    ending short v (Some at) is = some-none (Some at) at (whole-found (Some at) u n (subst (λ (x : Unrolled). Whole x n) (R.loop-endless c F h u at short is) v)).0 refl
    ending short v None is = record {
      constant = k.first;
      short = short;
      lasts = record { turn = k.turn; ends = ap (lasting most_turns c) (sym first) ∙ is };
      whole = subst (λ (x : Unrolled). Whole x n) (R.loop-ends c F h u short is ∙ ap (λ i. turns most_turns c F i u) first) v;
    }

    starting : Whole (U.all_turns c F h u) n → (o : Option ℕ) → too_long_at l.first h ≡ o → WholeLoop l spot h u n
    starting v (Some at) is = some-none (Some at) at (whole-found (Some at) u n (subst (λ (x : Unrolled). Whole x n) (R.first-long c F h u at is) v)).0 refl
    starting v None is = ending is v (lasting most_turns c (given c l.first h)) refl

    past : (x : Bool) → is_past u.endless spot.at ≡ x → WholeLoop l spot h u n
    past true is =
        let v = subst (λ (x : Unrolled). Whole x n) (R.is-past counted c F h u is) w in
        absurd (false≢true (sym (ap (λ o. is_past o spot.at) v.none) ∙ is))
    past false is = starting (subst (λ (x : Unrolled). Whole x n) (R.is-unrolled counted c F h u (k.counted spot) is) w) (too_long_at l.first h) refl

-- a later turn
pub record Reached (l : Loop) (spot : Spot) (t : Sight) (F : Unrolls) : Type 0 where
  pub rest : ℕ
  pub list : Unrolled
  pub left : ℕ
  pub lasts : EndingTurn l spot rest t
  pub few : passes_few (formals_of t) l.body ≡ true
  pub whole : Whole (turns rest (control l spot) F t list) left

pub makes-goes : (l : Loop) (spot : Spot) (j : Sight) → Makes l j → goes_on (control l spot) j ≡ true
makes-goes l spot j m = goes-is l spot j m.constant ∙ m.goes

pub later : (l : Loop) (spot : Spot) (m : ℕ) (j t : Sight) (u : Unrolled) (n : ℕ) → Later l j t → EndingTurn l spot m j → passes_few (formals_of j) l.body ≡ true → Whole (turns m (control l spot) (adds l j) j u) n → Reached l spot t (adds l t)
later l spot m j t u n (Later.Now x) lasts few w = record { rest = m; list = u; left = n; lasts = lasts; few = few; whole = w }
later l spot m j t u n (Later.Next x y makes constant more) lasts few w =
    let on = makes-goes l spot j makes in
    let g = next-turn l spot m j lasts on in
    later l spot g.rest (stepped l j) t (onward (adds l j) j u) n more g.lasts few (turned l spot m j u n g on w)

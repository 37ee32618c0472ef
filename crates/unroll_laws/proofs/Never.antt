-- Where a process or function can be unrolled, no constant in it takes too long, and no more statements stand than may.
use Rattle.std.proofs.Common.{◌≡◌, ℕ, ◌+◌, ◌≤◌, true, not, cond, List, [], ◌∷◌, ◌++◌, length, Option, Some, None, inl, inr, refl, arith, ap, sym, ◌∙◌, subst}
use Rattle.std.specs.Prelude.{◌⊎◌, is_some, slice_get}
use Rattle.std.proofs.Math.Path.{fun_ext}
use Rattle.std.proofs.lemmas.Bool.{and_parts, leb-true, false≢true}
use Rattle.row_machine.specs.Valuation.{Member}
use Rattle.sv_source.specs.declared.token.Spot.{Spot}
use Rattle.sv_types.specs.declared.expression.Expr.{Expr}
use Rattle.sv_types.specs.declared.statement.Local.{Local}
use Rattle.sv_types.specs.declared.statement.Stmt.{Stmt}
use Rattle.sv_types.specs.declared.statement.Stmt.TheVariants as V
use Rattle.sv_types.specs.declared.statement.Function.{Function}
use Rattle.sv_types.specs.declared.design.Design.{Design}
use Rattle.sv_types.specs.Surroundings.{Parameter, Sight}
use Rattle.sv_types.specs.Functions.{parameters}
use Rattle.sv_types.specs.Machine.{parts, unseen}
use Rattle.sv_types.specs.Runs.{most_turns}
use Rattle.sv_types.specs.Expressions.{meaning}
use Rattle.sv_types.specs.Statements.{doing}
use Rattle.sv_types.proofs.DoingLevels as D
use Rattle.flow_laws.proofs.Terms.{Each}
use Rattle.break_laws.specs.Laws.{formals_of}
use Rattle.break_laws.proofs.Bounds.{are-bounded}
use Rattle.eval_forms.specs.Callees.{formals_in, formals_or_none}
use Rattle.eval_forms.proofs.Formals.{formals-within}
use Rattle.stmt_flows.specs.Long as G
use Rattle.stmt_flows.specs.Long.{Loop, LongIn, HasExprs, HasParts, SomeHoldLong, TakesLong, Later, Makes, those, entered, stepped}
use Rattle.stmt_flows.specs.Turns.{turns_of}
use Rattle.design_breaks.specs.declared.Unrolled.{Unrolled}
use Rattle.design_breaks.specs.Breaks as B
use Rattle.design_breaks.specs.Indices.{said, long_in, takes_too_long, lesser, first_of}
use Rattle.design_breaks.specs.Unrolling.{starts_of, too_long_at, onward, most_statements}
use Rattle.design_breaks.specs.Actions.{actions, passed_to}
use Rattle.loop_laws.specs.Walks.{one_more, see, walk, walk_all, walk_before}
use Rattle.loop_laws.proofs.Statements as W
use Rattle.unroll_laws.specs.Whole.{Whole}
use Rattle.unroll_laws.proofs.Longs.{IsThere, none-there, all-there, long-index, long-at}
use Rattle.unroll_laws.proofs.Lists.{some-none, some-same, whole-see}
use Rattle.unroll_laws.proofs.Shapes as S
use Rattle.unroll_laws.proofs.Shapes.{IsBounded, PassesFew, Shape, sum_of}
use Rattle.unroll_laws.proofs.Loops as O
use Rattle.unroll_laws.proofs.Loops.{adds, Reached}
use Rattle.unroll_laws.proofs.Counting as C
use Rattle.unroll_laws.proofs.Counting.{all-count, each-counts, counts}

-- one of some expressions takes too long, and nothing was found
some-long : (h : Sight) (held es : List Expr) (at : ℕ) → SomeHoldLong h held at → ((x : Expr) → Member held x → Member es x) → long_in es h ≡ None → ⊥
some-long h held es at l within none =
    none-there (long_in es h)
    (all-there es l.some.expr h (within l.some.expr l.some.stands) (subst (λ k. IsThere ((said l.some.expr).long k)) l.sees (long-index l.known l.some.expr at l.some.long))) none

takes-long : (h : Sight) (e : Expr) (at : ℕ) → TakesLong h e at → too_long_at e h ≡ None → ⊥
takes-long h e at l none = none-there (too_long_at e h) (subst (λ k. IsThere (too_long_at e k)) l.sees (long-at l.known e at l.long)) none

-- the expressions of a statement, and its parts
own : (s : Stmt) (es : List Expr) (ss : List Stmt) (h : Sight) (u : Unrolled) (n : ℕ) → Shape s h es ss → IsBounded h s → Whole (walk (formals_of h) s h u) n → long_in es h ≡ None
own s es ss h u n sh b w =
    (whole-see es h (one_more u) (sum_of ss h + n) (all-count ss (each-counts ss) h (see es h (one_more u)) n (sh.bounded b) (subst (λ (x : Unrolled). Whole x n) (sh.walks u) w))).0

record PartOf (t : Stmt) (h : Sight) : Type 0 where
  pub list : Unrolled
  pub left : ℕ
  pub few : PassesFew (formals_of h) t
  pub bounded : IsBounded h t
  pub whole : Whole (walk (formals_of h) t h list) left

among : (ss : List Stmt) (t : Stmt) (h : Sight) (u : Unrolled) (n : ℕ) → Member ss t → Each (PassesFew (formals_of h)) ss → Each (IsBounded h) ss → Whole (walk_all (formals_of h) ss h u) n → PartOf t h
among [] t h u n m f b w = elim m [ ]
among (s ∷ ss) t h u n (inl is) f b w =
    subst (λ x. PartOf x h) (sym is)
    (record { list = u; left = sum_of ss h + n; few = f.0; bounded = b.0; whole = all-count ss (each-counts ss) h (walk (formals_of h) s h u) n b.1 w })
among (s ∷ ss) t h u n (inr m) f b w = among ss t h (walk (formals_of h) s h u) n m f.1 b.1 w

part : (s : Stmt) (es : List Expr) (ss : List Stmt) (t : Stmt) (h : Sight) (u : Unrolled) (n : ℕ) → Shape s h es ss → Member ss t → PassesFew (formals_of h) s → IsBounded h s → Whole (walk (formals_of h) s h u) n → PartOf t h
part s es ss t h u n sh m f b w = among ss t h (see es h (one_more u)) n m (sh.few f) (sh.bounded b) (subst (λ (x : Unrolled). Whole x n) (sh.walks u) w)

-- what stands for a replaced call
record OfMade (ls : List Local) (ss : List Stmt) (h : Sight) : Type 0 where
  pub short : long_in (starts_of ls) h ≡ None
  pub each : (t : Stmt) → Member ss t → PartOf t h

of-before : (ls : List Local) (ss : List Stmt) (h : Sight) (u : Unrolled) (n : ℕ) → Each (PassesFew (formals_of h)) ss → Each (IsBounded h) ss → Whole (walk_before (formals_of h) ls ss h u) n → OfMade ls ss h
of-before ls ss h u n f b w =
    let p = C.before ls ss (each-counts ss) h u n b w in
    record {
      short = (whole-see (starts_of ls) h p.list (sum_of ss h + p.left) (all-count ss (each-counts ss) h (see (starts_of ls) h p.list) p.left b p.whole)).0;
      each = λ t m. among ss t h (see (starts_of ls) h p.list) p.left m f b p.whole;
    }

either : (ss : List Stmt) (t x : Stmt) → Member (ss ++ t ∷ []) x → Member ss x ⊎ (x ≡ t)
either [] t x (inl is) = inr is
either [] t x (inr m) = elim m [ ]
either (s ∷ ss) t x (inl is) = inl (inl is)
either (s ∷ ss) t x (inr m) = by (either ss t x m)
  where
    by : Member ss x ⊎ (x ≡ t) → Member (s ∷ ss) x ⊎ (x ≡ t)
    by (inl a) = inl (inr a)
    by (inr a) = inr a

nothing-more : (ss : List Stmt) → ss ++ [] ≡ ss
nothing-more [] = refl
nothing-more (s ∷ ss) = ap (λ ts. s ∷ ts) (nothing-more ss)

of-made : (s : Stmt) (ls : List Local) (ss : List Stmt) (body : Option Stmt) (h : Sight) (u : Unrolled) (n : ℕ) → s ≡ V.Made ls ss body → PassesFew (formals_of h) s → IsBounded h s → Whole (walk (formals_of h) s h u) n
    → OfMade ls (ss ++ those body) h
of-made s ls ss None h u n is f b w =
    let few = subst (Each (PassesFew (formals_of h))) (nothing-more ss) (S.few-made (formals_of h) s ls ss None is f) in
    let bounded = S.bounded-stmts h ss (S.bounded-level s (V.Made ls ss None) _ h is (D.doing-Made ls ss None) b) in
    let r = of-before ls ss h (one_more u) n few bounded (subst (λ (x : Unrolled). Whole x n) (W.walk-bare (formals_of h) s ls ss h u is) w) in
    record { short = r.short; each = λ t m. r.each t (subst (λ ts. Member ts t) (nothing-more ss) m) }
of-made s ls ss (Some t) h u n is f b w =
    let few = C.front (PassesFew (formals_of h)) ss t (S.few-made (formals_of h) s ls ss (Some t) is f) in
    let bounded = C.front (IsBounded h) ss t (S.bounded-more h ss t (S.bounded-level s (V.Made ls ss (Some t)) _ h is (D.doing-Made ls ss (Some t)) b)) in
    let v = subst (λ (x : Unrolled). Whole x n) (W.walk-Made (formals_of h) s ls ss t h u is) w in
    let at = walk_before (formals_of h) ls ss h u in
    let r = of-before ls ss h u (((doing t).flow h).statements + n) few.0 bounded.0 (counts t h at n bounded.1 v) in
    record {
      short = r.short;
      each = λ x m. elim (either ss t x m) [ inl a ↦ r.each x a | inr same ↦ subst (λ y. PartOf y h) (sym same) (record { list = at; left = n; few = few.1; bounded = bounded.1; whole = v }) ];
    }

-- the expressions of an assignment, and those that are passed
last-first : (to : List Expr) (value x : Expr) → Member (value ∷ to) x → Member (to ++ value ∷ []) x
last-first [] value x m = m
last-first (e ∷ to) value x (inl is) = inr (last-first to value x (inl is))
last-first (e ∷ to) value x (inr (inl is)) = inl is
last-first (e ∷ to) value x (inr (inr m)) = inr (last-first to value x (inr m))

passed-same : (ps : List Parameter) (es : List Expr) → length es ≤ length ps → passed_to ps es ≡ es
passed-same [] [] low = refl
passed-same [] (e ∷ es) low = absurd (omega (arith, low))
passed-same (p ∷ ps) [] low = refl
passed-same (p ∷ ps) (e ∷ es) low = ap (λ xs. e ∷ xs) (passed-same ps es (omega (arith, low)))

all-passed : (s : Stmt) (f : ℕ) (es : List Expr) (spot : Spot) (h : Sight) (x : Expr) → s ≡ V.Call f es spot → PassesFew (formals_of h) s → Member es x → Member (passed_to (formals_of h f) es) x
all-passed s f es spot h x is few m =
    subst (λ xs. Member xs x)
    (sym (passed-same (formals_of h f) es (leb-true (length es) (length (formals_of h f)) (S.few-level (formals_of h) s (V.Call f es spot) _ is (S.level-Call (formals_of h) f es spot) few)))) m

-- the turns of a loop
loop-few : (s : Stmt) (l : Loop) (spot : Spot) (h : Sight) → s ≡ V.Loop l.variable l.first l.test l.step l.body spot → PassesFew (formals_of h) s → PassesFew (formals_of h) l.body
loop-few s l spot h is few = S.few-level (formals_of h) s (V.Loop l.variable l.first l.test l.step l.body spot) _ is (S.level-Loop (formals_of h) l.variable l.first l.test l.step l.body spot) few

reached : (s : Stmt) (l : Loop) (spot : Spot) (h j : Sight) (u : Unrolled) (n : ℕ) → s ≡ V.Loop l.variable l.first l.test l.step l.body spot → PassesFew (formals_of h) s → IsBounded h s → Whole (walk (formals_of h) s h u) n
    → Later l (entered l h) j → Reached l spot j (adds l j)
reached s l spot h j u n is few b w later =
    let t = C.loop-turns s l spot h u n is b w in
    O.later l spot most_turns (entered l h) j u n later t.lasts (loop-few s l spot h is few) t.whole

in-turn : (l : Loop) (spot : Spot) (j : Sight) → Makes l j → Reached l spot j (adds l j) → PartOf l.body j
in-turn l spot j makes r =
    let on = O.makes-goes l spot j makes in
    let g = O.next-turn l spot r.rest j r.lasts on in
    record {
      list = r.list;
      left = (turns_of l g.rest (stepped l j)).statements + r.left;
      few = r.few;
      bounded = r.lasts.turn.body;
      whole = O.turns-count l spot (counts l.body) g.rest (stepped l j) (onward (adds l j) j r.list) r.left g.lasts (O.turned l spot r.rest j r.list r.left g on r.whole);
    }

none-first : (e : Expr) (h : Sight) → too_long_at e h ≡ None → long_in (e ∷ []) h ≡ None
none-first e h none = by ((said e).long h) refl
  where
    by : (o : Option ℕ) → (said e).long h ≡ o → long_in (e ∷ []) h ≡ None
    by None is = ap (λ x. lesser x None) is
    by (Some x) is = some-none (too_long_at e h) x none (ap (λ y. first_of y (cond (takes_too_long (meaning e) h) (Some e.spot.at) None)) is)

pub never : (h : Sight) (s : Stmt) (at : ℕ) → LongIn h s at → (u : Unrolled) (n : ℕ) → PassesFew (formals_of h) s → IsBounded h s → Whole (walk (formals_of h) s h u) n → ⊥
never h s at (LongIn.Own i t a es (HasExprs.OfBlock ls ss is) some) u n f b w = some-long h es (starts_of ls) at some (λ x m. m) (own s (starts_of ls) ss h u n (S.shape-Block s ls ss h is) b w)
never h s at (LongIn.Own i t a es (HasExprs.OfIf on body other is) some) u n f b w = some-long h es (on ∷ []) at some (λ x m. m) (own s _ _ h u n (S.shape-If s on body other h is) b w)
never h s at (LongIn.Own i t a es (HasExprs.OfCase kind on is other same) some) u n f b w = some-long h es (on ∷ G.item_values is) at some (λ x m. m) (own s _ _ h u n (S.shape-Case s kind on is other h same) b w)
never h s at (LongIn.Own i t a es (HasExprs.OfLoop k first test step body spot is) some) u n f b w =
    let l : Loop = record { variable = k; first = first; test = test; step = step; body = body } in
    let turns = C.loop-turns s l spot h u n is b w in
    some-long h es (first ∷ []) at some (λ x m. m) (none-first first h turns.short)
never h s at (LongIn.Own i t a es (HasExprs.OfAssign to value later spot is) some) u n f b w = some-long h es (to ++ value ∷ []) at some (last-first to value) (own s _ _ h u n (S.shape-Assign s to value later spot h is) b w)
never h s at (LongIn.Own i t a es (HasExprs.OfCall g args spot is) some) u n f b w =
    some-long h es (passed_to (formals_of h g) args) at some (λ x m. all-passed s g args spot h x is f m) (own s _ _ h u n (S.shape-Call s g args spot h is) b w)
never h s at (LongIn.Own i t a es (HasExprs.OfMade ls before body is) some) u n f b w = some-long h es (starts_of ls) at some (λ x m. m) (of-made s ls before body h u n is f b w).short
never h s at (LongIn.Part i t a ss x (HasParts.InBlock ls ys is) m long) u n f b w = let p = part s _ ss x h u n (S.shape-Block s ls ss h is) m f b w in never h x at long p.list p.left p.few p.bounded p.whole
never h s at (LongIn.Part i t a ss x (HasParts.InIf on body other is) m long) u n f b w = let p = part s _ ss x h u n (S.shape-If s on body other h is) m f b w in never h x at long p.list p.left p.few p.bounded p.whole
never h s at (LongIn.Part i t a ss x (HasParts.InCase kind on is other same) m long) u n f b w = let p = part s _ ss x h u n (S.shape-Case s kind on is other h same) m f b w in never h x at long p.list p.left p.few p.bounded p.whole
never h s at (LongIn.Part i t a ss x (HasParts.InMade ls before body is) m long) u n f b w = let p = (of-made s ls before body h u n is f b w).each x m in never h x at long p.list p.left p.few p.bounded p.whole
never h s at (LongIn.First i t a l is takes) u n f b w = takes-long h l.first at takes (C.loop-turns s l is.0 h u n is.1 b w).short
never h s at (LongIn.Test i t a l j is constant later takes) u n f b w =
    let r = reached s l is.0 h j u n is.1 f b w later in
    takes-long j l.test at takes (O.test-short l is.0 r.rest j r.lasts)
never h s at (LongIn.Body i t a l j is constant later makes long) u n f b w =
    let p = in-turn l is.0 j makes (reached s l is.0 h j u n is.1 f b w later) in
    never j l.body at long p.list p.left p.few p.bounded p.whole
never h s at (LongIn.Step i t a l j is constant later makes takes) u n f b w =
    let r = reached s l is.0 h j u n is.1 f b w later in
    takes-long j l.step at takes (O.next-turn l is.0 r.rest j r.lasts (O.makes-goes l is.0 j makes)).short

-- The formals of functions, as the rules have them, the code and a sight.
formals-seen : (d : Design) → formals_of (unseen (parts d)) ≡ formals_in d.functions
formals-seen d = fun_ext (λ n. formals-within (length d.functions) d.functions n)

formals-named : (d : Design) → B.formals d ≡ formals_in d.functions
formals-named d = fun_ext (λ n. by (slice_get d.functions n))
  where
    by : (o : Option Function) → elim o [ None ↦ [] | Some f ↦ parameters f ] ≡ formals_or_none o
    by None = refl
    by (Some f) = refl

-- bodies of processes and functions
abbrev pub first : Unrolled
first = record { left = Some most_statements; endless = None }

pub record WholeBody (d : Design) (s : Stmt) : Type 0 where
  pub bounded : IsBounded (unseen (parts d)) s
  pub left : ℕ
  pub whole : Whole (walk (formals_of (unseen (parts d))) s (unseen (parts d)) first) left

is-whole : (u : Unrolled) → B.is_whole u ≡ true → (n : ℕ) × Whole u n
is-whole u is = by u.left u.endless refl refl (and_parts (is_some u.left) (not (is_some u.endless)) is)
  where
    by : (o e : Option ℕ) → u.left ≡ o → u.endless ≡ e → (is_some u.left ≡ true) × (not (is_some u.endless) ≡ true) → (n : ℕ) × Whole u n
    by None e left endless p = absurd (false≢true (sym (ap is_some left) ∙ p.0))
    by (Some n) None left endless p = (n, record { left = left; none = endless })
    by (Some n) (Some x) left endless p = absurd (false≢true (sym (ap (λ y. not (is_some y)) endless) ∙ p.1))

none-is : (ns : List ℕ) → B.is_none ns ≡ true → ns ≡ []
none-is [] h = refl
none-is (n ∷ ns) h = absurd (false≢true h)

unrolls : (d : Design) (s : Stmt) → B.unrolls d s ≡ true → WholeBody d s
unrolls d s is =
    let p = and_parts (B.is_none (B.unbounded_of d s)) (B.is_whole (B.unrolled d s)) is in
    let same : B.formals d ≡ formals_of (unseen (parts d)) = formals-named d ∙ sym (formals-seen d) in
    let h = unseen (parts d) in
    let w = is-whole (B.unrolled d s) p.1 in
    record {
      bounded = (are-bounded s h).0 (ap (λ fs. (actions s).unbounded fs h) (sym same) ∙ none-is (B.unbounded_of d s) p.0);
      left = w.0;
      whole = subst (λ fs. Whole (walk fs s h first) w.0) same w.1;
    }

pub no-long : (d : Design) (s : Stmt) (at : ℕ) → B.unrolls d s ≡ true → PassesFew (formals_in d.functions) s → LongIn (unseen (parts d)) s at → ⊥
no-long d s at is few long =
    let r = unrolls d s is in
    never (unseen (parts d)) s at long first r.left (subst (λ fs. PassesFew fs s) (sym (formals-seen d)) few) r.bounded r.whole

no-more : (a b n : ℕ) → a ≡ b + n → b ≤ a
no-more a b n is = omega (arith, is)

pub few-statements : (d : Design) (s : Stmt) → B.unrolls d s ≡ true → ((doing s).flow (unseen (parts d))).statements ≤ most_statements
few-statements d s is =
    let r = unrolls d s is in
    let count = ((doing s).flow (unseen (parts d))).statements in
    no-more most_statements count r.left (some-same most_statements (count + r.left) (counts s (unseen (parts d)) first r.left r.bounded r.whole).left)

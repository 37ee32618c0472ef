-- Targets and actuals whose names find no signal stand on locals.
use Rattle.std.proofs.Common.{◌≡◌, ℕ, ◌+◌, ◌%◌, ◌^◌, Bool, true, false, ◌&&◌, ◌==◌, cond, not, ℤ, List, [], ◌∷◌, ◌++◌, map, flat_map, Option, Some, None, refl, arith, ap, sym, ◌∙◌, subst}
use Rattle.std.specs.Prelude.{is_none, pos, ◌-ℤ◌, nat_lt, unsigned_abs, Ok}
use Rattle.std.specs.List.{list_any}
use Rattle.std.proofs.lemmas.Bool.Decides.{nat_tests}
use Rattle.sv_tree.specs.Extents.{qualified_first}
use Rattle.sv_tree.specs.declared.names.QualifiedName.{QualifiedName}
use Rattle.sv_tree.specs.declared.statements.Lvalue.{Lvalue, Lvalue-F, roll-Lvalue, map-Lvalue, ind-Lvalue, fold-roll-Lvalue}
use Rattle.sv_types.specs.declared.expression.Expr.{Expr}
use Rattle.sv_types.specs.declared.expression.Form.{Form}
use Rattle.sv_types.specs.declared.expression.Form.TheVariants as F
use Rattle.sv_types.specs.declared.types.SvType.{SvType}
use Rattle.sv_types.specs.Layouts.{Layout, layout, width_of}
use Rattle.sv_types.specs.Meanings.{Meaning, roots_of}
use Rattle.sv_types.specs.Surroundings.{is_signal, local_number}
use Rattle.sv_types.specs.Operators as O
use Rattle.sv_types.specs.Paths as P
use Rattle.sv_types.specs.Expressions.{meaning}
use Rattle.sv_types.proofs.Levels as L
use Rattle.sv_types.proofs.Levels.{form_meaning}
use Rattle.eval_parts.specs.Steps.{can_read}
use Rattle.eval_parts.proofs.Steps.{at-form}
use Rattle.eval_stmts.specs.Environments.{AllHeld}
use Rattle.expr_type.specs.declared.operand.Valued.{Valued}
use Rattle.expr_type.specs.declared.step.Step.{Step}
use Rattle.expr_type.specs.declared.step.Step.TheVariants as T
use Rattle.expr_type.specs.Breaks.{At, Quiet}
use Rattle.expr_type.specs.Typings.{Checked, Typing, whole, broken, rule, checked, both, all, refused, where_whole}
use Rattle.expr_type.specs.Shapes.{vector, is_enum, is_unpacked, element_of, members_of, is_indexed}
use Rattle.expr_type.specs.Names.{Context, Source, Thing, Signal, Local, Constant, TypeName, Interface, Other, Nothing, or_thing, local_in, value_in, type_in, signal_in, found, thing, position, word}
use Rattle.expr_type.specs.Operators.{by_itself, concat_of, exprs, all_bits, not_too_long}
use Rattle.expr_type.specs.Selects as C
use Rattle.expr_type.specs.Selects.{stepped, path, named, member_or, part_type, goes_wrong}
use Rattle.expr_type.specs.Forms.{SelectMeaning, steps, stream_of, reverses}
use Rattle.expr_type.specs.Expressions.{select_meaning}
use Rattle.expr_type.specs.TargetNames.{named_target, thing_target, is_net_found, actual_target, is_net_thing}
use Rattle.expr_type.specs.Targets.{Target, ToPath, ToParts, ToStream, TargetPart, TargetMeaning, whole_of, is_target_part, joined_target, stream_target, slice_or_one, simple_name, target_step, target, parts_of}
use Rattle.typing_fits.proofs.Contexts.{refused-then, whole-part}
use Rattle.typing_fits.proofs.Full.{and-left, and-right}
use Rattle.typing_fits.proofs.Selects.{long-then}
use Rattle.typing_walks.specs.Written as W
use Rattle.routine_laws.specs.Names.{Signals, signals_of, is_no_signal, finds_no_signal, lvalue_step, lvalue_local}
use Rattle.routine_laws.proofs.Giving.{Gives, AllGive, Each, Anything, anything, one-whole, none-given, whole-gives, broken-gives, rule-gives, checked-gives, both-gives, all-gives}

-- no signal is written
abbrev pub none_held : ℕ → Bool
none_held n = false

pub held-append : (ms ns : List ℕ) → AllHeld ms none_held → AllHeld ns none_held → AllHeld (ms ++ ns) none_held
held-append [] ns h g = g
held-append (m ∷ ms) ns h g = (h.0, held-append ms ns h.1 g)

-- an expression that writes no signal as a target, and stands on none
pub record StandsLocal (m : Meaning) : Type 0 where
  pub root : can_read m.root none_held ≡ true
  pub roots : AllHeld m.roots none_held

abbrev pub LocalExpr : Expr → Type 0
LocalExpr e = StandsLocal (meaning e)

abbrev pub LocalValued : Valued → Type 0
LocalValued v = LocalExpr v.expr

root-held : (o : Option ℕ) → can_read o none_held ≡ true → AllHeld (roots_of o) none_held
root-held None h = tt
root-held (Some n) h = (h, tt)

local-read : (n : ℕ) (b : Bool) → is_signal (local_number n) ≡ b → b ≡ false → cond (is_signal (local_number n)) false true ≡ true
local-read n true is h = absurd (cc)
local-read n false is h = ap (λ c. cond c false true) is

above : (n m : ℕ) → nat_lt (m + n) m ≡ false
above n m = grind (arith, nat_tests)

pub local-held : (n : ℕ) → can_read (Some (local_number n)) none_held ≡ true
local-held n = local-read n (is_signal (local_number n)) refl (above n (2 ^ 32))

by-form : (e : Expr) (f : Form) (y : Layout → ℕ → Meaning) → e.form ≡ f → form_meaning f ≡ y → StandsLocal (y (layout e.of) e.spot.at) → LocalExpr e
by-form e f y is level h = subst StandsLocal (sym (at-form e f y is level)) h

in-local : (of : Layout) (at n : ℕ) → StandsLocal (P.local of at n)
unfolding P.local
in-local of at n = record { root = local-held n; roots = (local-held n, tt) }

in-member : (of : Layout) (at : ℕ) (m : Meaning) (i : ℕ) → StandsLocal m → StandsLocal (P.member of at m i)
unfolding P.member
in-member of at m i s = record { root = s.root; roots = root-held m.root s.root }

in-index : (of : Layout) (at : ℕ) (m i : Meaning) → StandsLocal m → StandsLocal (P.index of at m i)
unfolding P.index
in-index of at m i s = record { root = s.root; roots = root-held m.root s.root }

in-part : (of : Layout) (at : ℕ) (m : Meaning) (left right : ℤ) → StandsLocal m → StandsLocal (P.part_select of at m left right)
unfolding P.part_select
in-part of at m left right s = record { root = s.root; roots = root-held m.root s.root }

in-slide : (of : Layout) (at : ℕ) (m i : Meaning) (n : ℕ) (up : Bool) → StandsLocal m → StandsLocal (P.sliding of at m i n up)
unfolding P.sliding
in-slide of at m i n up s = record { root = s.root; roots = root-held m.root s.root }

-- several ones
abbrev pub roots_in : List Expr → List ℕ
roots_in es = flat_map (λ (m : Meaning). m.roots) (map meaning es)

pub all-roots : (vs : List Valued) → Each LocalValued vs → AllHeld (roots_in (exprs vs)) none_held
all-roots [] s = tt
all-roots (v ∷ vs) s = held-append (meaning v.expr).roots (roots_in (exprs vs)) s.0.roots (all-roots vs s.1)

in-concat : (of : Layout) (at : ℕ) (ms : List Meaning) → AllHeld (flat_map (λ (m : Meaning). m.roots) ms) none_held → StandsLocal (O.concat of at ms)
unfolding O.concat
in-concat of at ms s = record { root = refl; roots = s }

in-stream : (of : Layout) (at : ℕ) (reversed : Bool) (n : ℕ) (ms : List Meaning) → AllHeld (flat_map (λ (m : Meaning). m.roots) ms) none_held → StandsLocal (O.stream of at reversed n ms)
unfolding O.stream
in-stream of at reversed n ms s = record { root = refl; roots = s }

abbrev valued_ok : Valued → Checked Valued
valued_ok v = Ok v

as-local : (a v : Valued) → valued_ok a ≡ Ok v → LocalValued a → LocalValued v
as-local a v h s = one-whole LocalValued a v h s

pub concat-local : (k : Source) (opening : ℕ) (vs : List Valued) (v : Valued) → concat_of k opening (exprs vs) ≡ Ok v → Each LocalValued vs → LocalValued v
concat-local k opening vs v h s =
    let w = all_bits (exprs vs) in
    let a = by_itself k opening (vector w false) (F.Concat (exprs vs)) in
    as-local a v (long-then k opening w (Ok a) v h) (by-form a.expr (F.Concat (exprs vs)) _ refl (L.form-Concat (exprs vs)) (in-concat (layout a.expr.of) a.expr.spot.at (map meaning (exprs vs)) (all-roots vs s)))

stream-local : (k : Source) (opening : ℕ) (reversed : Bool) (n : ℕ) (vs : List Valued) (v : Valued) → stream_of k opening reversed n (exprs vs) ≡ Ok v → Each LocalValued vs → LocalValued v
stream-local k opening reversed n vs v h s =
    let w = all_bits (exprs vs) in
    let a = by_itself k opening (vector w false) (F.Stream reversed n (exprs vs)) in
    as-local a v (long-then k opening w (Ok a) v h)
    (by-form a.expr (F.Stream reversed n (exprs vs)) _ refl (L.form-Stream reversed n (exprs vs)) (in-stream (layout a.expr.of) a.expr.spot.at reversed n (map meaning (exprs vs)) (all-roots vs s)))

-- paths, step by step
pub local-itself : (k : Source) (first : ℕ) (t : SvType) (n : ℕ) → LocalValued (by_itself k first t (F.Local n))
local-itself k first t n = let a = by_itself k first t (F.Local n) in by-form a.expr (F.Local n) _ refl (L.form-Local n) (in-local (layout a.expr.of) a.expr.spot.at n)

member-steps : (k : Source) (at : ℕ) (v u : Valued) (o : Option C.Place) → member_or k at v o ≡ Ok u → LocalValued v → LocalValued u
member-steps k at v u None h s = none-given LocalValued _ u h
member-steps k at v u (Some m) h s =
    let a = by_itself k v.first m.of (F.Member v.expr m.number) in
    as-local a u (long-then k at (width_of m.of) (Ok a) u h) (by-form a.expr (F.Member v.expr m.number) _ refl (L.form-Member v.expr m.number) (in-member (layout m.of) a.expr.spot.at (meaning v.expr) m.number s))

stepped-local : (k : Source) (v u : Valued) (t : Step) → stepped k v t ≡ Ok u → LocalValued v → LocalValued u
stepped-local k v u (T.Member name) h s = member-steps k name v u (named 0 (members_of v.expr.of) (word k name)) h s
stepped-local k v u (T.Index opening i) h s =
    let of = element_of v.expr.of in
    let a = by_itself k v.first of (F.Index v.expr i.expr) in
    as-local a u (long-then k opening (width_of of) (Ok a) u (refused-then (not (is_indexed v.expr.of)) (position k opening) 508 (not_too_long k opening (width_of of) (Ok a)) u h))
    (by-form a.expr (F.Index v.expr i.expr) _ refl (L.form-Index v.expr i.expr) (in-index (layout of) a.expr.spot.at (meaning v.expr) (meaning i.expr) s))
stepped-local k v u (T.Part opening left right) h s =
    let of = part_type v.expr.of left.number right.number in
    let a = by_itself k v.first of (F.Part v.expr left.number right.number) in
    let inner = not_too_long k opening (width_of of) (Ok a) in
    let wrong = goes_wrong v.expr.of left.number right.number in
    as-local a u
    (long-then k opening (width_of of) (Ok a) u
    (refused-then wrong (position k left.first) 411 inner u (refused-then (is_unpacked v.expr.of) (position k opening) 508 (refused wrong (position k left.first) 411 inner) u h)))
    (by-form a.expr (F.Part v.expr left.number right.number) _ refl (L.form-Part v.expr left.number right.number) (in-part (layout of) a.expr.spot.at (meaning v.expr) left.number right.number s))
stepped-local k v u (T.Slide opening up i n) h s =
    let of = part_type v.expr.of (n.number -ℤ pos 1) (pos 0) in
    let w = unsigned_abs n.number in
    let a = by_itself k v.first of (F.Slide v.expr i.expr w up) in
    as-local a u (long-then k opening (width_of of) (Ok a) u (refused-then (is_unpacked v.expr.of) (position k opening) 508 (not_too_long k opening (width_of of) (Ok a)) u h))
    (by-form a.expr (F.Slide v.expr i.expr w up) _ refl (L.form-Slide v.expr i.expr w up) (in-slide (layout of) a.expr.spot.at (meaning v.expr) (meaning i.expr) w up s))

path-local : (k : Source) (x : Typing Valued) (ts : List (Typing Step)) → Gives LocalValued x → Gives LocalValued (path k x ts)
path-local k x [] h = h
path-local k x (t ∷ ts) h =
    path-local k (both x t (λ v u. rule (stepped k v u))) ts
    (both-gives LocalValued Anything LocalValued x t (λ v u. rule (stepped k v u)) h (anything t) (λ v u s a. rule-gives LocalValued (stepped k v u) (λ w e. stepped-local k v w u e s)))

-- what a name finds
abbrev NoSignal : Thing → Type 0
NoSignal (Signal n t) = ⊥
NoSignal (Local n t) = Unit {0}
NoSignal (Constant t v) = Unit {0}
NoSignal (TypeName t) = Unit {0}
NoSignal (Interface n) = ⊥
NoSignal (Other n) = Unit {0}
NoSignal Nothing = Unit {0}

abbrev NoSignalIf : Option Thing → Type 0
NoSignalIf None = Unit {0}
NoSignalIf (Some t) = NoSignal t

or-none : (o : Option Thing) (t : Thing) → NoSignalIf o → NoSignal t → NoSignal (or_thing o t)
or-none None t s r = r
or-none (Some u) t s r = s

chosen : (b : Bool) (t : Thing) (o : Option Thing) → NoSignal t → NoSignalIf o → NoSignalIf (cond b (Some t) o)
chosen true t o s r = s
chosen false t o s r = r

local-none : (n : ℕ) (ls : List _) → NoSignalIf (local_in n ls)
local-none n [] = tt
local-none n (l ∷ ls) = chosen (l.decl == n) (Local l.number l.of) (local_in n ls) tt (local-none n ls)

value-none : (n : ℕ) (vs : List _) → NoSignalIf (value_in n vs)
value-none n [] = tt
value-none n (v ∷ vs) = chosen (v.decl == n) (Constant v.of v.value) (value_in n vs) tt (value-none n vs)

type-none : (n : ℕ) (ts : List _) → NoSignalIf (type_in n ts)
type-none n [] = tt
type-none n (t ∷ ts) = chosen (t.decl == n) (TypeName t.of) (type_in n ts) tt (type-none n ts)

last-none : (o : Option Thing) (b : Bool) (n : ℕ) → (is_none o && not b) ≡ true → NoSignal (or_thing o (cond b (Interface n) (Other n)))
last-none None true n h = absurd (cc)
last-none None false n h = tt
last-none (Some t) b n h = absurd (cc)

found-none : (k : Context) (o : Option ℕ) → is_no_signal (signals_of k) o ≡ true → NoSignal (found k o)
found-none k None h = tt
found-none k (Some n) h =
    let last = or_thing (signal_in n k.signals) (cond (k.is_interface n) (Interface n) (Other n)) in
    or-none (local_in n k.locals) (or_thing (value_in n k.values) (or_thing (type_in n k.types) last)) (local-none n k.locals)
    (or-none (value_in n k.values) (or_thing (type_in n k.types) last) (value-none n k.values)
    (or-none (type_in n k.types) last (type-none n k.types) (last-none (signal_in n k.signals) (k.is_interface n) n h)))

thing-local : (k : Context) (inside : Bool) (first : ℕ) (net : Bool) (ss : List SelectMeaning) (t : Thing) → NoSignal t → Gives LocalValued (thing_target k inside first net ss t)
thing-local k inside first net ss (Signal n t) s = absurd s
thing-local k inside first net ss (Local n t) s = path-local k.source (whole (by_itself k.source first t (F.Local n))) (steps k ss) (whole-gives LocalValued (by_itself k.source first t (F.Local n)) (local-itself k.source first t n))
thing-local k inside first net ss (Constant t v) s = broken-gives LocalValued (At (position k.source first) 501)
thing-local k inside first net ss (TypeName t) s = broken-gives LocalValued Quiet
thing-local k inside first net ss (Interface n) s = absurd s
thing-local k inside first net ss (Other n) s = broken-gives LocalValued Quiet
thing-local k inside first net ss Nothing s = broken-gives LocalValued Quiet

pub named-local : (k : Context) (inside : Bool) (of : QualifiedName) (ss : List SelectMeaning) → finds_no_signal (signals_of k) of ≡ true → Gives LocalValued (named_target k inside of ss)
named-local k inside of ss h = thing-local k inside (qualified_first of) (is_net_found k (k.finds of)) ss (thing k of) (found-none k (k.finds of) h)

actual-by : (k : Context) (of : QualifiedName) (ss : List SelectMeaning) (b : Bool) → finds_no_signal (signals_of k) of ≡ true
    → Gives LocalValued (cond b (broken (At (position k.source (qualified_first of)) 501)) (named_target k true of ss))
actual-by k of ss true h = broken-gives LocalValued (At (position k.source (qualified_first of)) 501)
actual-by k of ss false h = named-local k true of ss h

pub actual-local : (k : Context) (of : QualifiedName) (ss : List SelectMeaning) → finds_no_signal (signals_of k) of ≡ true → Gives LocalValued (actual_target k of ss)
actual-local k of ss h = actual-by k of ss (is_net_thing k ss (thing k of)) h

-- targets
pub record LocalTarget (t : Target) : Type 0 where
  pub whole : LocalValued (whole_of t)
  pub parts : AllHeld (roots_in (parts_of t)) none_held

pub path-target : (v : Valued) → LocalValued v → LocalTarget (ToPath v)
path-target v s = record { whole = s; parts = held-append (meaning v.expr).roots [] s.roots tt }

abbrev a_target : Target → Checked Target
a_target t = Ok t

abbrev LocalPart : TargetPart → Type 0
LocalPart p = LocalValued p.of

part-local : (k : Context) (t : Target) (p : TargetPart) → is_target_part k t ≡ Ok p → LocalTarget t → LocalPart p
part-local k (ToPath v) p h s =
    let q : TargetPart = record { of = v; has_enum = is_enum v.expr.of } in
    one-whole LocalPart q p (refused-then (is_unpacked v.expr.of) (position k.source v.first) 508 (Ok q) p h) s.whole
part-local k (ToParts v vs e) p h s = one-whole LocalPart (record { of = v; has_enum = e }) p h s.whole
part-local k (ToStream v) p h s = none-given LocalPart _ p h

parts-of : (ps : List TargetPart) → Each LocalPart ps → Each LocalValued (map (λ (p : TargetPart). p.of) ps)
parts-of [] s = tt
parts-of (p ∷ ps) s = (s.0, parts-of ps s.1)

joined-local : (k : Context) (opening : ℕ) (ps : List TargetPart) (t : Target) → joined_target k opening ps ≡ Ok t → Each LocalPart ps → LocalTarget t
joined-local k opening ps t h s =
    let vs = map (λ (p : TargetPart). p.of) ps in
    let has = list_any (λ (p : TargetPart). p.has_enum) ps in
    let w = whole-part (concat_of k.source opening (exprs vs)) (λ v. a_target (ToParts v vs has)) t h in
    one-whole LocalTarget (ToParts w.part vs has) t w.made (record { whole = concat-local k.source opening vs w.part w.is (parts-of ps s); parts = all-roots vs (parts-of ps s) })

streamed-local : (k : Context) (opening : ℕ) (reversed : Bool) (n : ℕ) (vs : List Valued) (t : Target) → stream_target k opening reversed n vs ≡ Ok t → Each LocalValued vs → LocalTarget t
streamed-local k opening reversed n vs t h s =
    let made = where_whole (stream_of k.source opening reversed n (exprs vs)) (λ v. a_target (ToStream v)) in
    let rest = refused-then (reversed && not (all_bits (exprs vs) % n == 0)) (position k.source opening) 511 made t h in
    let w = whole-part (stream_of k.source opening reversed n (exprs vs)) (λ v. a_target (ToStream v)) t rest in
    let v = stream-local k.source opening reversed n vs w.part w.is s in
    one-whole LocalTarget (ToStream w.part) t w.made (record { whole = v; parts = held-append (meaning w.part.expr).roots [] v.roots tt })

module _ (s : Signals) where
  abbrev OfMeaning : TargetMeaning → Type 0
  OfMeaning m = (k : Context) (inside : Bool) → signals_of k ≡ s → Gives LocalTarget (m k inside)

  abbrev AllMeanings : List TargetMeaning → Type 0
  AllMeanings [] = Unit {0}
  AllMeanings (m ∷ ms) = OfMeaning m × AllMeanings ms

  abbrev part_by : Context → Bool → TargetMeaning → Typing TargetPart
  part_by k inside t = checked (t k inside) (λ u. rule (is_target_part k u))

  each-part : (k : Context) (inside : Bool) (ms : List TargetMeaning) → signals_of k ≡ s → AllMeanings ms → AllGive LocalPart (map (part_by k inside) ms)
  each-part k inside [] r h = tt
  each-part k inside (m ∷ ms) r h =
      (checked-gives LocalTarget LocalPart (m k inside) (λ u. rule (is_target_part k u)) (h.0 k inside r) (λ u x. rule-gives LocalPart (is_target_part k u) (λ p e. part-local k u p e x)), each-part k inside ms r h.1)

  abbrev whole_by : Context → Bool → TargetMeaning → Typing Valued
  whole_by k inside t = checked (t k inside) (λ u. whole (whole_of u))

  each-whole : (k : Context) (inside : Bool) (ms : List TargetMeaning) → signals_of k ≡ s → AllMeanings ms → AllGive LocalValued (map (whole_by k inside) ms)
  each-whole k inside [] r h = tt
  each-whole k inside (m ∷ ms) r h =
      (checked-gives LocalTarget LocalValued (m k inside) (λ u. whole (whole_of u)) (h.0 k inside r) (λ u x. whole-gives LocalValued (whole_of u) x.whole), each-whole k inside ms r h.1)

  abbrev OfLvalue : Lvalue → Type 0
  OfLvalue l = lvalue_local s l ≡ true → OfMeaning (target l)

  abbrev ALvalue : Type 0
  ALvalue = (l : Lvalue) × OfLvalue l

  abbrev lvalue_in : Lvalue-F ALvalue → Lvalue-F Lvalue
  lvalue_in = map-Lvalue ALvalue Lvalue (λ e. e.0)

  abbrev local_of : List ALvalue → List Bool
  local_of ys = map (lvalue_local s) (map (λ e. e.0) ys)

  each-lvalue : (ys : List ALvalue) → W.all (local_of ys) ≡ true → AllMeanings (map target (map (λ e. e.0) ys))
  each-lvalue [] w = tt
  each-lvalue (y ∷ ys) w = (y.1 (and-left (lvalue_local s y.0) (W.all (local_of ys)) w), each-lvalue ys (and-right (lvalue_local s y.0) (W.all (local_of ys)) w))

  lvalue-case : (y : Lvalue-F ALvalue) → lvalue_step s (map-Lvalue Lvalue Bool (lvalue_local s) (lvalue_in y)) ≡ true → OfMeaning (target_step (map-Lvalue Lvalue TargetMeaning target (lvalue_in y)))
  lvalue-case (Lvalue-F.Name name selects) w k inside r =
      checked-gives LocalValued LocalTarget (named_target k inside (simple_name name) (map select_meaning selects)) (λ v. whole (ToPath v))
      (named-local k inside (simple_name name) (map select_meaning selects) (ap (λ z. finds_no_signal z (simple_name name)) r ∙ w)) (λ v x. whole-gives LocalTarget (ToPath v) (path-target v x))
  lvalue-case (Lvalue-F.Concatenation opening ys closing) w k inside r =
      let ms = map target (map (λ (e : ALvalue). e.0) ys) in
      checked-gives (Each LocalPart) LocalTarget (all (map (part_by k inside) ms)) (λ ps. rule (joined_target k opening ps)) (all-gives LocalPart (map (part_by k inside) ms) (each-part k inside ms r (each-lvalue ys w)))
      (λ ps x. rule-gives LocalTarget (joined_target k opening ps) (λ t h. joined-local k opening ps t h x))
  lvalue-case (Lvalue-F.Stream opening op at size inner ys inner_closing closing) w k inside r =
      let ms = map target (map (λ (e : ALvalue). e.0) ys) in
      both-gives Anything (Each LocalValued) LocalTarget (slice_or_one k size) (all (map (whole_by k inside) ms)) (λ n vs. rule (stream_target k opening (reverses op) n vs)) (anything (slice_or_one k size))
      (all-gives LocalValued (map (whole_by k inside) ms) (each-whole k inside ms r (each-lvalue ys w)))
      (λ n vs a x. rule-gives LocalTarget (stream_target k opening (reverses op) n vs) (λ t h. streamed-local k opening (reverses op) n vs t h x))

  lvalue-level : (y : Lvalue-F ALvalue) → OfLvalue (roll-Lvalue (lvalue_in y))
  lvalue-level y w = subst OfMeaning (sym (fold-roll-Lvalue TargetMeaning target_step (lvalue_in y))) (lvalue-case y (sym (fold-roll-Lvalue Bool (lvalue_step s) (lvalue_in y)) ∙ w))

  pub target-local : (l : Lvalue) → lvalue_local s l ≡ true → (k : Context) (inside : Bool) → signals_of k ≡ s → Gives LocalTarget (target l k inside)
  target-local = ind-Lvalue OfLvalue (λ x y is. subst (λ z. OfLvalue (roll-Lvalue z)) is (lvalue-level y))

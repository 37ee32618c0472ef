-- What is made, step by step.
use Rattle.std.proofs.Common.{subst, ◌≡◌, ℕ, zero, suc, ◌%◌, max, Bool, true, false, not, cond, List, [], ◌∷◌, ◌++◌, length, map, Option, Some, None, refl, ap, sym, ◌∙◌, append_assoc, append-nil}
use Rattle.std.specs.Prelude.{Result, Ok, Err, slice_get}
use Rattle.sv_types.specs.declared.expression.Expr.{Expr}
use Rattle.sv_types.specs.declared.expression.Form.TheVariants as F
use Rattle.sv_types.specs.declared.types.SvType.{SvType}
use Rattle.sv_types.specs.Layouts.{width_of}
use Rattle.pattern_fit.specs.declared.pattern.PatternItem.{PatternItem}
use Rattle.pattern_fit.specs.declared.pattern.PatternItem.TheVariants as I
use Rattle.pattern_fit.specs.declared.pattern.Rest.{Rest}
use Rattle.pattern_fit.specs.declared.pattern.Rest.TheVariants.{Absent}
use Rattle.expr_type.specs.declared.operand.Valued.{Valued}
use Rattle.expr_type.specs.declared.halt.Halt.{Halt}
use Rattle.expr_type.specs.declared.halt.Halt.TheVariants as H
use Rattle.expr_type.specs.Answers.{Gives, HaltsBy, reason}
use Rattle.expr_type.specs.Breaks.{Breaks}
use Rattle.expr_type.specs.Names.{Source, position}
use Rattle.expr_type.specs.Operands.{Operand, is_given, passed, too_wide, width}
use Rattle.expr_type.specs.Operators.{expr_at}
use Rattle.expr_type.specs.Patterns.{Item, defaults, keyed, levels, made, rest_of, spread, takes_itself, types_in, value_of}
use Rattle.expr_type.specs.Shapes.{is_assignable, is_plain_to_enum}
use Rattle.expr_type.specs.Typings.{Checked, all_of, at_all, joined, lesser, refused, unless, where_whole}
use Rattle.expr_type.specs.Operands as V
use Rattle.pattern_types.specs.declared.operand.Operand as O
use Rattle.pattern_types.specs.declared.operand.Operand.TheVariants as OV
use Rattle.pattern_types.specs.declared.operand.Item as J
use Rattle.pattern_types.specs.Meaning.{Parts}
use Rattle.pattern_types.specs.declared.takes.Taking.{Taking}
use Rattle.pattern_types.specs.Filling.{at_place, Adds, Fills, Makes, MakesPattern, behind_made, item_number, spread_of}
use Rattle.pattern_types.specs.Meaning.{filled, fitted_in, item_keys, item_of, items_in, operand_of, pattern_of, tick_of, written_items}
use Rattle.pattern_types.specs.Places.{past}
use Rattle.pattern_laws.specs.Reasons.{IsWhole, Reason}
use Rattle.pattern_types.specs.Reasons.{break_at}
use Rattle.pattern_types.proofs.Levels.{operand-Pattern, operand-Plain, operand-Stream}
use Rattle.pattern_types.proofs.Leaves.{spread-level}
use Rattle.pattern_types.proofs.Numbers.{default-at, default-is, first_default, keyed-at}
use Rattle.pattern_laws.proofs.Reasons.{where-fine}
use Rattle.pattern_laws.proofs.Whole.{all-behind, all-first}

-- a value that is whole where it is given is given as it stands
given-by : (k : Source) (v : Valued) (b c : Bool) (o : Option Breaks)
    → IsWhole (refused b (position k v.first) 501 (where_whole (lesser (refused c (position k v.first) 503 (Ok v.expr)) (unless o v)) (λ (p : Expr × Valued). Ok p.0)))
    → refused b (position k v.first) 501 (where_whole (lesser (refused c (position k v.first) 503 (Ok v.expr)) (unless o v)) (λ (p : Expr × Valued). Ok p.0)) ≡ Ok v.expr
given-by k v true c o h = absurd (cc)
given-by k v false true None h = absurd (cc)
given-by k v false true (Some b) h = absurd (cc)
given-by k v false false None h = refl
given-by k v false false (Some b) h = absurd (cc)

pub given-whole : (k : Source) (t : SvType) (v : Valued) → IsWhole (is_given k t v) → is_given k t v ≡ Ok v.expr
given-whole k t v h =
    given-by k v (not (is_assignable t v.expr.of)) (is_plain_to_enum t v.expr.of) (at_all k.instance 502 (too_wide (max (width_of t) (width v)) v.arithmetic)) h

-- one more
behind-by : {A : Type 0} (done : List A) (e : A) (m : Checked (List A)) → behind_made (done ++ e ∷ []) m ≡ behind_made done (where_whole (joined (Ok e) m) (λ p. Ok (p.0 ∷ p.1)))
behind-by done e (Ok ys) = ap (λ xs. Ok xs) (append_assoc done (e ∷ []) ys)
behind-by done e (Err b) = refl

pub behind-step : {A : Type 0} (done : List A) (e : A) (x : Checked A) (xs : List (Checked A)) → x ≡ Ok e → behind_made (done ++ e ∷ []) (all_of xs) ≡ behind_made done (all_of (x ∷ xs))
behind-step done e x xs h = behind-by done e (all_of xs) ∙ sym (ap (λ y. behind_made done (where_whole (joined y (all_of xs)) (λ p. Ok (p.0 ∷ p.1)))) h)

pub behind-nothing : {A : Type 0} (m : Checked (List A)) → behind_made [] m ≡ m
behind-nothing (Ok ys) = refl
behind-nothing (Err b) = refl

pub behind-end : {A : Type 0} (done : List A) → behind_made done (Ok []) ≡ Ok done
behind-end done = ap (λ xs. Ok xs) (append-nil done)

-- what the code makes: nothing but want of memory comes between
pub only-memory : (h : Halt) (r : Reason) → r ≡ None → HaltsBy h r → HaltsBy h None
only-memory h r e w = subst (λ (x : Reason). HaltsBy h x) e w

pub any-reason : (h : Halt) (r : Reason) → HaltsBy h None → HaltsBy h r
any-reason H.Memory r w = tt
any-reason (H.Breaks at rule) r w = absurd (cc)
any-reason H.Quiet r w = absurd (cc)

pub makes-none : {A : Type 0} (m : Checked (List A)) → Makes (Ok []) m m
makes-none m = behind-nothing m

pub makes-next : {A : Type 0} (list : Result (List A) Halt) (last : Result A Halt) (r : Result (List A) Halt) (x : Checked A) (xs : List (Checked A)) (all : Checked (List A))
    → Makes list (all_of (x ∷ xs)) all → IsWhole x → Gives last x → Adds list last r → Makes r (all_of xs) all
makes-next {A = A} (Ok ys) (Ok y) (Ok zs) x xs all m w g a =
    let same : ys ++ y ∷ [] ≡ zs = cc in
    sym (ap (λ (us : List A). behind_made us (all_of xs)) same) ∙ behind-step ys y x xs g ∙ m
makes-next {A = A} (Ok ys) (Ok y) (Err h) x xs all m w g a = a
makes-next {A = A} (Ok ys) (Err h) r x xs all m w g a = subst (λ o. Makes o (all_of xs) all) (sym a) (only-memory h (reason x) w g)
makes-next {A = A} (Err h) last r x xs all m w g a = subst (λ o. Makes o (all_of xs) all) (sym a) m

pub makes-end : {A : Type 0} (r : Result (List A) Halt) (all : Checked (List A)) → Makes r (Ok []) all → Gives r all
makes-end (Ok xs) all m = sym m ∙ behind-end xs
makes-end (Err h) all m = any-reason h (reason all) m

-- one place more
pub record Next {A : Type 0} (x : Checked A) (xs : List (Checked A)) : Type 0 where
  pub here : IsWhole x
  pub rest : IsWhole (all_of xs)

pub next-whole : {A : Type 0} (x : Checked A) (xs : List (Checked A)) → IsWhole (all_of (x ∷ xs)) → Next x xs
next-whole x xs h = record { here = all-first x xs h; rest = all-behind x xs h }

pub step-whole : {A : Type 0} (x : Checked A) (now later : List (Checked A)) → now ≡ x ∷ later → IsWhole (all_of now) → Next x later
step-whole x now later e h = next-whole x later (subst (λ ms. IsWhole (all_of ms)) e h)

pub step-makes : {A : Type 0} (list : Result (List A) Halt) (last : Result A Halt) (r : Result (List A) Halt) (x : Checked A) (now later : List (Checked A)) (all : Checked (List A)) → now ≡ x ∷ later
    → IsWhole (all_of now) → Makes list (all_of now) all → Gives last x → Adds list last r → Makes r (all_of later) all
step-makes list last r x now later all e h m g a =
    let next = step-whole x now later e h in makes-next list last r x later all (subst (λ ms. Makes list (all_of ms) all) e m) next.here g a

pub step-ends : {A : Type 0} (r : Result (List A) Halt) (now : List (Checked A)) (all : Checked (List A)) → now ≡ [] → Makes r (all_of now) all → Gives r all
step-ends r now all e m = makes-end r all (subst (λ ms. Makes r (all_of ms) all) e m)

pub makes-start : {A : Type 0} (xs : List A) → xs ≡ [] → (m : Checked (List A)) → Makes (Ok xs) m m
makes-start xs e m = subst (λ ys. Makes (Ok ys) m m) (sym e) (makes-none m)

-- and so with a step f
pub place-whole : {A B : Type 0} (f : B → Checked A) (x : B) (now later : List B) → now ≡ x ∷ later → IsWhole (all_of (map f now)) → IsWhole (f x)
place-whole f x now later e h = let r = step-whole (f x) (map f now) (map f later) (ap (map f) e) h in r.here

pub place-rest : {A B : Type 0} (f : B → Checked A) (x : B) (now later : List B) → now ≡ x ∷ later → IsWhole (all_of (map f now)) → IsWhole (all_of (map f later))
place-rest f x now later e h = let r = step-whole (f x) (map f now) (map f later) (ap (map f) e) h in r.rest

pub place-makes : {A B : Type 0} (f : B → Checked A) (x : B) (now later : List B) (list : Result (List A) Halt) (last : Result A Halt) (r : Result (List A) Halt) (all : Checked (List A)) → now ≡ x ∷ later
    → IsWhole (all_of (map f now)) → Makes list (all_of (map f now)) all → Gives last (f x) → Adds list last r → Makes r (all_of (map f later)) all
place-makes f x now later list last r all e h m g a = step-makes list last r (f x) (map f now) (map f later) all (ap (map f) e) h m g a

pub place-ends : {A B : Type 0} (f : B → Checked A) (r : Result (List A) Halt) (now : List B) (all : Checked (List A)) → now ≡ [] → Makes r (all_of (map f now)) all → Gives r all
place-ends f r now all e m = step-ends r (map f now) all (ap (map f) e) m

pub ruleset behinds = (behind-nothing, behind-end)

-- what a member or element takes
get-map : {A B : Type 0} (f : A → B) (xs : List A) (n : ℕ) (x : A) → slice_get xs n ≡ Some x → slice_get (map f xs) n ≡ Some (f x)
get-map f [] n x h = absurd (cc)
get-map f (y ∷ xs) zero x h = let e : y ≡ x = cc in ap (λ z. Some (f z)) e
get-map f (y ∷ xs) (suc n) x h = get-map f xs n x h

get-none : {A B : Type 0} (f : A → B) (xs : List A) (n : ℕ) → slice_get xs n ≡ None → slice_get (map f xs) n ≡ None
get-none f [] n h = refl
get-none f (y ∷ xs) zero h = absurd (cc)
get-none f (y ∷ xs) (suc n) h = get-none f xs n h

item-found : (k : Source) (is : List J.Item) (n : ℕ) (i : J.Item) → slice_get is n ≡ Some i → slice_get (written_items k is) n ≡ Some (item_of (filled k i))
item-found k is n i h = get-map item_of (map (filled k) is) n (filled k i) (get-map (filled k) is n i h)

item-lost : (k : Source) (is : List J.Item) (n : ℕ) → slice_get is n ≡ None → slice_get (written_items k is) n ≡ None
item-lost k is n h = get-none item_of (map (filled k) is) n (get-none (filled k) is n h)

keyed-is : (k : Source) (p : Parts) (taking : Taking) (m : ℕ) → Fills k p taking
    → slice_get (keyed (written_items k (items_in p))) (m % length (keyed (written_items k (items_in p)))) ≡ slice_get (written_items k (items_in p)) (past taking.default (m % taking.count))
keyed-is k p taking m f =
    let d : taking.default ≡ first_default (item_keys (items_in p)) = f.default ∙ default-is (item_keys (items_in p)) in
    sym (ap (λ n. slice_get (keyed (written_items k (items_in p))) (m % n)) f.count) ∙ keyed-at k (items_in p) (m % taking.count) f.once
    ∙ sym (ap (λ o. slice_get (written_items k (items_in p)) (past o (m % taking.count))) d)

default-at-place : (k : Source) (p : Parts) (taking : Taking) → Fills k p taking → slice_get (defaults (written_items k (items_in p))) 0 ≡ at_place (written_items k (items_in p)) taking.default
default-at-place k p taking f =
    default-at k (items_in p) ∙ sym (ap (at_place (written_items k (items_in p))) (f.default ∙ default-is (item_keys (items_in p))))

default-found : (k : Source) (p : Parts) (taking : Taking) (t : SvType) (n : ℕ) (i : J.Item) → Fills k p taking → taking.default ≡ Some n → slice_get (items_in p) n ≡ Some i
    → spread k (tick_of p) (levels t) (rest_of (defaults (written_items k (items_in p)))) (value_of (slice_get (defaults (written_items k (items_in p))) 0) k) t ≡ spread_of k (tick_of p) taking.rest (operand_of k i.value) t
default-found k p taking t n i f d h =
    let W = written_items k (items_in p) in
    let at : slice_get (defaults W) 0 ≡ Some (item_of (filled k i)) = default-at-place k p taking f ∙ ap (at_place W) d ∙ item-found k (items_in p) n i h in
    ap (λ o. spread k (tick_of p) (levels t) (rest_of (defaults W)) (value_of o k) t) at
    ∙ sym (ap (λ r. spread_of k (tick_of p) r (operand_of k i.value) t) f.rest)

pub item-made : (k : Source) (p : Parts) (taking : Taking) (m : ℕ) (t : SvType) (n : ℕ) (i : J.Item) → Fills k p taking → item_number taking.default taking.count (I.Item m) ≡ Some n → slice_get (items_in p) n ≡ Some i
    → made k (tick_of p) (written_items k (items_in p)) (I.Item m, t) ≡ passed k t (operand_of k i.value)
item-made k p taking m t n i f is h =
    let W = written_items k (items_in p) in
    let e : past taking.default (m % taking.count) ≡ n = cc in
    ap (λ o. value_of o k t) (keyed-is k p taking m f ∙ ap (λ j. slice_get W j) e ∙ item-found k (items_in p) n i h)

pub default-made : (k : Source) (p : Parts) (taking : Taking) (t : SvType) (n : ℕ) (i : J.Item) → Fills k p taking → item_number taking.default taking.count I.Default ≡ Some n → slice_get (items_in p) n ≡ Some i
    → made k (tick_of p) (written_items k (items_in p)) (I.Default, t) ≡ spread_of k (tick_of p) taking.rest (operand_of k i.value) t
default-made k p taking t n i f is h = default-found k p taking t n i f is h

pub spread-made : (k : Source) (p : Parts) (taking : Taking) (t : SvType) (n : ℕ) (i : J.Item) → Fills k p taking → item_number taking.default taking.count I.Spread ≡ Some n → slice_get (items_in p) n ≡ Some i
    → made k (tick_of p) (written_items k (items_in p)) (I.Spread, t) ≡ spread_of k (tick_of p) taking.rest (operand_of k i.value) t
spread-made k p taking t n i f is h = default-found k p taking t n i f is h

-- what isn't there
nothing-left : (ds : List Item) → slice_get ds 0 ≡ None → rest_of ds ≡ Absent
nothing-left [] h = refl
nothing-left (d ∷ ds) h = absurd (cc)

absent-gives : (k : Source) (tick n : ℕ) (give : SvType → Checked Expr) (t : SvType) → spread k tick n Absent give t ≡ give t
absent-gives k tick zero give t = refl
absent-gives k tick (suc n) give t = refl

default-lost : (k : Source) (p : Parts) (taking : Taking) (t : SvType) → Fills k p taking → at_place (items_in p) taking.default ≡ None
    → reason (spread k (tick_of p) (levels t) (rest_of (defaults (written_items k (items_in p)))) (value_of (slice_get (defaults (written_items k (items_in p))) 0) k) t) ≡ Some None
default-lost k p taking t f h =
    let W = written_items k (items_in p) in
    let none : slice_get (defaults W) 0 ≡ None = default-at-place k p taking f ∙ lost taking.default h in
    ap (λ o. reason (spread k (tick_of p) (levels t) (rest_of (defaults W)) (value_of o k) t)) none
    ∙ ap (λ r. reason (spread k (tick_of p) (levels t) r (value_of None k) t)) (nothing-left (defaults W) none)
    ∙ ap reason (absent-gives k (tick_of p) (levels t) (value_of None k) t)
  where
    lost : (o : Option ℕ) → at_place (items_in p) o ≡ None → at_place (written_items k (items_in p)) o ≡ None
    lost None e = refl
    lost (Some n) e = item-lost k (items_in p) n e

pub made-lost : (k : Source) (p : Parts) (taking : Taking) (x : PatternItem) (t : SvType) → Fills k p taking → at_place (items_in p) (item_number taking.default taking.count x) ≡ None
    → reason (made k (tick_of p) (written_items k (items_in p)) (x, t)) ≡ Some None
made-lost k p taking (I.Item m) t f h =
    ap (λ o. reason (value_of o k t)) (keyed-is k p taking m f ∙ item-lost k (items_in p) (past taking.default (m % taking.count)) h)
made-lost k p taking I.Default t f h = default-lost k p taking t f h
made-lost k p taking I.Spread t f h = default-lost k p taking t f h

-- the same by what stands at the place that is taken
default-placed : (k : Source) (p : Parts) (taking : Taking) (t : SvType) (i : J.Item) → Fills k p taking → at_place (items_in p) taking.default ≡ Some i
    → spread k (tick_of p) (levels t) (rest_of (defaults (written_items k (items_in p)))) (value_of (slice_get (defaults (written_items k (items_in p))) 0) k) t ≡ spread_of k (tick_of p) taking.rest (operand_of k i.value) t
default-placed k p taking t i f h = by taking.default refl h
  where
    by : (o : Option ℕ) → taking.default ≡ o → at_place (items_in p) o ≡ Some i
        → spread k (tick_of p) (levels t) (rest_of (defaults (written_items k (items_in p)))) (value_of (slice_get (defaults (written_items k (items_in p))) 0) k) t ≡ spread_of k (tick_of p) taking.rest (operand_of k i.value) t
    by None e a = absurd (cc)
    by (Some n) e a = default-found k p taking t n i f e a

pub placed-item : (k : Source) (p : Parts) (taking : Taking) (x : PatternItem) (t : SvType) (m : ℕ) (i : J.Item) → Fills k p taking → x ≡ I.Item m → Some i ≡ at_place (items_in p) (item_number taking.default taking.count x)
    → made k (tick_of p) (written_items k (items_in p)) (x, t) ≡ passed k t (operand_of k i.value)
placed-item k p taking x t m i f is h =
    ap (λ y. made k (tick_of p) (written_items k (items_in p)) (y, t)) is
    ∙ item-made k p taking m t (past taking.default (m % taking.count)) i f refl (sym (h ∙ ap (λ y. at_place (items_in p) (item_number taking.default taking.count y)) is))

pub placed-default : (k : Source) (p : Parts) (taking : Taking) (x : PatternItem) (t : SvType) (i : J.Item) → Fills k p taking → x ≡ I.Default → Some i ≡ at_place (items_in p) (item_number taking.default taking.count x)
    → made k (tick_of p) (written_items k (items_in p)) (x, t) ≡ spread_of k (tick_of p) taking.rest (operand_of k i.value) t
placed-default k p taking x t i f is h =
    ap (λ y. made k (tick_of p) (written_items k (items_in p)) (y, t)) is
    ∙ default-placed k p taking t i f (sym (h ∙ ap (λ y. at_place (items_in p) (item_number taking.default taking.count y)) is))

pub placed-spread : (k : Source) (p : Parts) (taking : Taking) (x : PatternItem) (t : SvType) (i : J.Item) → Fills k p taking → x ≡ I.Spread → Some i ≡ at_place (items_in p) (item_number taking.default taking.count x)
    → made k (tick_of p) (written_items k (items_in p)) (x, t) ≡ spread_of k (tick_of p) taking.rest (operand_of k i.value) t
placed-spread k p taking x t i f is h =
    ap (λ y. made k (tick_of p) (written_items k (items_in p)) (y, t)) is
    ∙ default-placed k p taking t i f (sym (h ∙ ap (λ y. at_place (items_in p) (item_number taking.default taking.count y)) is))

pub whole-same : {A : Type 0} (m n : Checked A) → m ≡ n → IsWhole m → IsWhole n
whole-same m n e w = sym (ap reason e) ∙ w

-- what the value of `default` makes of a type that doesn't take it itself
pub spread-over : (k : Source) (tick : ℕ) (rest : Rest) (v : Operand) (t : SvType) → takes_itself rest t ≡ false
    → spread_of k tick rest v t ≡ where_whole (all_of (map (spread_of k tick rest v) (types_in t))) (λ es. Ok (expr_at k tick t (F.Pattern es)))
spread-over k tick rest v t off =
    spread-level k tick rest v t
    ∙ ap (λ b. cond b (passed k t v) (where_whole (all_of (map (spread_of k tick rest v) (types_in t))) (λ es. Ok (expr_at k tick t (F.Pattern es))))) off

pub spread-itself : (k : Source) (tick : ℕ) (rest : Rest) (v : Operand) (t : SvType) → takes_itself rest t ≡ true → spread_of k tick rest v t ≡ passed k t v
spread-itself k tick rest v t on =
    spread-level k tick rest v t
    ∙ ap (λ b. cond b (passed k t v) (where_whole (all_of (map (spread_of k tick rest v) (types_in t))) (λ es. Ok (expr_at k tick t (F.Pattern es))))) on

-- what is built of an operand
pub plain-built : (k : Source) (t : SvType) (v : O.Operand) (u : Valued) (e : Expr) → v ≡ OV.Plain u → e ≡ u.expr → IsWhole (passed k t (operand_of k v)) → passed k t (operand_of k v) ≡ Ok e
plain-built k t v u e is copy whole =
    let eq : operand_of k v ≡ V.Plain u = ap (operand_of k) is ∙ operand-Plain k u in
    ap (passed k t) eq ∙ given-whole k t u (sym (ap (λ x. reason (passed k t x)) eq) ∙ whole) ∙ sym (ap (λ (x : Expr). Ok x) copy)

pub pattern-same : (k : Source) (t : SvType) (v : O.Operand) (p : Parts) (at tick times : ℕ) (items : List J.Item) → v ≡ OV.Pattern tick times items → at ≡ tick → p ≡ record { tick = tick; times = times; items = items }
    → fitted_in k (pattern_of k p) at t ≡ passed k t (operand_of k v)
pattern-same k t v p at tick times items is token parts =
    ap (λ (q : Parts). fitted_in k (pattern_of k q) at t) parts
    ∙ ap (λ n. fitted_in k (pattern_of k (record { tick = tick; times = times; items = items })) n t) token
    ∙ sym (ap (passed k t) (ap (operand_of k) is ∙ operand-Pattern k tick times items))

pub stream-breaks : (k : Source) (t : SvType) (v : O.Operand) (u : Valued) → v ≡ OV.Stream u → reason (passed k t (operand_of k v)) ≡ Some (Some (break_at u.first 512))
stream-breaks k t v u is = ap (λ x. reason (passed k t x)) (ap (operand_of k) is ∙ operand-Stream k u)

pub gives-same : {A : Type 0} (r : Result A Halt) (m n : Checked A) → m ≡ n → Gives r m → Gives r n
gives-same r m n e g = subst (λ x. Gives r x) e g

-- a pattern of what its members or elements are given
pub pattern-made : (k : Source) (at : ℕ) (t : SvType) (items : Result (List Expr) Halt) (r : Result Expr Halt) (m : Checked (List Expr)) (all : Checked Expr) → MakesPattern k at t items r → Gives items m → IsWhole m
    → ((es : List Expr) → m ≡ Ok es → all ≡ Ok (expr_at k at t (F.Pattern es))) → Gives r all
pattern-made k at t (Ok es) r m all makes g w f = gives-same r (Ok (expr_at k at t (F.Pattern es))) all (sym (f es g)) makes
pattern-made k at t (Err h) r m all makes g w f = subst (λ o. Gives o all) (sym makes) (any-reason h (reason all) (only-memory h (reason m) w g))

pub spread-all : (k : Source) (tick : ℕ) (rest : Rest) (v : Operand) (t : SvType) (ts : List SvType) → takes_itself rest t ≡ false → types_in t ≡ ts → IsWhole (spread_of k tick rest v t) → IsWhole (all_of (map (spread_of k tick rest v) ts))
spread-all k tick rest v t ts off types w =
    sym (where-fine (all_of (map (spread_of k tick rest v) ts)) (λ es. expr_at k tick t (F.Pattern es)))
    ∙ sym (ap (λ us. reason (where_whole (all_of (map (spread_of k tick rest v) us)) (λ es. Ok (expr_at k tick t (F.Pattern es))))) types)
    ∙ sym (ap reason (spread-over k tick rest v t off)) ∙ w

pub spread-gives : (k : Source) (tick : ℕ) (rest : Rest) (v : Operand) (t : SvType) (ts : List SvType) (items : Result (List Expr) Halt) (r : Result Expr Halt) → takes_itself rest t ≡ false → types_in t ≡ ts
    → IsWhole (spread_of k tick rest v t) → Gives items (all_of (map (spread_of k tick rest v) ts)) → MakesPattern k tick t items r → Gives r (spread_of k tick rest v t)
spread-gives k tick rest v t ts items r off types w g makes =
    pattern-made k tick t items r (all_of (map (spread_of k tick rest v) ts)) (spread_of k tick rest v t) makes g (spread-all k tick rest v t ts off types w)
    (λ es e. spread-over k tick rest v t off
    ∙ ap (λ us. where_whole (all_of (map (spread_of k tick rest v) us)) (λ es. Ok (expr_at k tick t (F.Pattern es)))) types
    ∙ ap (λ m. where_whole m (λ es. Ok (expr_at k tick t (F.Pattern es)))) e)

pub nothing-gives : (k : Source) (tick : ℕ) (rest : Rest) (v : Operand) (t : SvType) (es : List Expr) (r : Result Expr Halt) → takes_itself rest t ≡ false → types_in t ≡ [] → es ≡ []
    → IsWhole (spread_of k tick rest v t) → MakesPattern k tick t (Ok es) r → Gives r (spread_of k tick rest v t)
nothing-gives k tick rest v t es r off types none w makes = spread-gives k tick rest v t [] (Ok es) r off types w (ap (λ (xs : List Expr). Ok xs) (sym none)) makes

pub ruleset making = (given-whole)

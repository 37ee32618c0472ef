-- Which of two breaks comes first where a value is given to a type.
use Rattle.std.proofs.Common.{◌≡◌, ◌<◌, ◌≤◌, ℕ, Bool, true, false, not, cond, max, List, [], ◌∷◌, Option, Some, None, refl, ap, ◌∙◌, subst, arith, ◌≢◌}
use Rattle.std.specs.Prelude.{Ok, nat_lt, slice_get, ◌&&◌, ◌||◌, ◌==◌}
use Rattle.std.proofs.lemmas.Bool.Decides.{nat_tests}
use Rattle.sv_types.specs.declared.expression.Expr.{Expr}
use Rattle.sv_types.specs.declared.types.SvType.{SvType}
use Rattle.sv_types.specs.Layouts.{width_of}
use Rattle.expr_type.specs.declared.operand.Valued.{Valued}
use Rattle.expr_type.specs.Answers.{first_break, reason}
use Rattle.expr_type.specs.Breaks.{Breaks, Key, Position, At, key_at, first}
use Rattle.expr_type.specs.Names.{Source, position}
use Rattle.expr_type.specs.Operands.{is_given, too_wide, width}
use Rattle.expr_type.specs.Shapes.{is_assignable, is_plain_to_enum}
use Rattle.expr_type.specs.Typings.{Checked, and_at, at_all, first_before, lesser, refused, unless, where_whole}
use Rattle.given_types.specs.Wide.{first_wide}

abbrev given_by : Source → ℕ → Bool → ℕ → List ℕ → Expr → Valued → Checked Expr
given_by k f plain w ats e v =
    where_whole (lesser (refused plain (position k f) 503 (Ok e)) (unless (at_all k.instance 502 (too_wide w ats)) v)) (λ (p : Expr × Valued). Ok p.0)

where_not : {A : Type 0} (b : Bool) (p : Position) (rule : ℕ) (x : Checked A) → b ≡ true → refused (not b) p rule x ≡ x
where_not true p rule x e = refl
where_not false p rule x e = cc

is-by : (k : Source) (t : SvType) (v : Valued) → is_assignable t v.expr.of ≡ true
    → is_given k t v ≡ given_by k v.first (is_plain_to_enum t v.expr.of) (max (width_of t) (width v)) v.arithmetic v.expr v
is-by k t v a =
    where_not (is_assignable t v.expr.of) (position k v.first) 501
    (given_by k v.first (is_plain_to_enum t v.expr.of) (max (width_of t) (width v)) v.arithmetic v.expr v) a

-- where no operator is too wide
none-wide : (i w : ℕ) (ats : List ℕ) → first_wide w ats ≡ None → at_all i 502 (too_wide w ats) ≡ None
none-wide i w [] n = refl
none-wide i w (a ∷ as') n = by (nat_lt 128 w) n
  where
    by : (b : Bool) → cond b (Some a) None ≡ None → at_all i 502 (cond b (a ∷ as') []) ≡ None
    by true e = cc
    by false e = refl

by-fine : (k : Source) (f : ℕ) (plain : Bool) (e : Expr) (v : Valued) (o : Option Breaks) → o ≡ None → plain ≡ false
    → where_whole (lesser (refused plain (position k f) 503 (Ok e)) (unless o v)) (λ (p : Expr × Valued). Ok p.0) ≡ Ok e
by-fine k f true e v o n q = cc
by-fine k f false e v None n q = refl
by-fine k f false e v (Some b) n q = cc

by-plain : (k : Source) (f : ℕ) (plain : Bool) (e : Expr) (v : Valued) (o : Option Breaks) → o ≡ None → plain ≡ true
    → reason (where_whole (lesser (refused plain (position k f) 503 (Ok e)) (unless o v)) (λ (p : Expr × Valued). Ok p.0)) ≡ Some (Some (record { at = f; rule = 503 }))
by-plain k f false e v o n q = cc
by-plain k f true e v None n q = refl
by-plain k f true e v (Some b) n q = cc

-- the first of breaks at tokens in a row
record Begins (i a : ℕ) (b : Breaks) : Type 0 where
  key : first b ≡ Some (key_at (record { instance = i; at = a }) 502)
  break : first_break b ≡ Some (record { at = a; rule = 502 })

begins-with : (i a : ℕ) (o : Option Breaks) → (b : Breaks) × (and_at (record { instance = i; at = a }) 502 o ≡ Some b) × Begins i a b
begins-with i a None = (At (record { instance = i; at = a }) 502, refl, record { key = refl; break = refl })
begins-with i a (Some c) = (_, refl, record { key = refl; break = refl })

wide-begins : (i w a : ℕ) (ats : List ℕ) → first_wide w ats ≡ Some a → (b : Breaks) × (at_all i 502 (too_wide w ats) ≡ Some b) × Begins i a b
wide-begins i w a [] s = cc
wide-begins i w a (c ∷ cs) s = by (nat_lt 128 w) s
  where
    by : (d : Bool) → cond d (Some c) None ≡ Some a → (b : Breaks) × (at_all i 502 (cond d (c ∷ cs) []) ≡ Some b) × Begins i a b
    by false e = cc
    by true e = let h : c ≡ a = cc in subst (λ (n : ℕ). (b : Breaks) × (at_all i 502 (c ∷ cs) ≡ Some b) × Begins i n b) h (begins-with i c (at_all i 502 cs))

-- of two tokens of one instance the first comes first, and at one token the lesser rule
self-lt : (n : ℕ) → nat_lt n n ≡ false
self-lt n = grind (arith, nat_tests)

self-eq : (n : ℕ) → (n == n) ≡ true
self-eq n = grind (arith, nat_tests)

order-by : (f a : ℕ) (x y z : Bool) → nat_lt a f ≡ x → (a == f) ≡ y → nat_lt f a ≡ z
    → (((false || (true && x)) || ((true && y) && false)) || (((true && y) && true) && true)) ≡ not z
order-by f a true y true e g h = absurd (let p : a < f = grind (arith, nat_tests) in let q : f < a = grind (arith, nat_tests) in omega arith)
order-by f a true y false e g h = refl
order-by f a false true true e g h = absurd (let p : a ≡ f = grind (arith, nat_tests) in let q : f < a = grind (arith, nat_tests) in omega arith)
order-by f a false true false e g h = refl
order-by f a false false true e g h = refl
order-by f a false false false e g h =
    absurd (let p : f ≤ a = grind (arith, nat_tests) in let q : a ≤ f = grind (arith, nat_tests) in let r : a ≢ f = grind (arith, nat_tests) in r (omega arith))

before : (i f a : ℕ) → first_before (Some (key_at (record { instance = i; at = a }) 502)) (Some (key_at (record { instance = i; at = f }) 503)) ≡ not (nat_lt f a)
before i f a =
    ap (λ (b : Bool). ((b || ((i == i) && nat_lt a f)) || (((i == i) && (a == f)) && false)) || ((((i == i) && (a == f)) && true) && true)) (self-lt i)
    ∙ ap (λ (b : Bool). ((false || (b && nat_lt a f)) || ((b && (a == f)) && false)) || (((b && (a == f)) && true) && true)) (self-eq i)
    ∙ order-by f a (nat_lt a f) (a == f) (nat_lt f a) refl refl refl

by-wide : (k : Source) (f a : ℕ) (plain : Bool) (e : Expr) (v : Valued) (b : Breaks) → Begins k.instance a b → (plain && nat_lt f a) ≡ false
    → reason (where_whole (lesser (refused plain (position k f) 503 (Ok e)) (unless (Some b) v)) (λ (p : Expr × Valued). Ok p.0)) ≡ Some (Some (record { at = a; rule = 502 }))
by-wide k f a false e v b g n = ap Some g.break
by-wide k f a true e v b g n =
    let key = ap (λ (o : Option Key). first_before o (Some (key_at (position k f) 503))) g.key ∙ before k.instance f a in
    let yes : first_before (first b) (Some (key_at (position k f) 503)) ≡ true = key ∙ ap not n in
    ap (λ (c : Bool). Some (first_break (cond c b (At (position k f) 503)))) yes ∙ ap Some g.break

by-sooner : (k : Source) (f a : ℕ) (plain : Bool) (e : Expr) (v : Valued) (b : Breaks) → Begins k.instance a b → plain ≡ true → nat_lt f a ≡ true
    → reason (where_whole (lesser (refused plain (position k f) 503 (Ok e)) (unless (Some b) v)) (λ (p : Expr × Valued). Ok p.0)) ≡ Some (Some (record { at = f; rule = 503 }))
by-sooner k f a false e v b g p n = cc
by-sooner k f a true e v b g p n =
    let key = ap (λ (o : Option Key). first_before o (Some (key_at (position k f) 503))) g.key ∙ before k.instance f a in
    let no : first_before (first b) (Some (key_at (position k f) 503)) ≡ false = key ∙ ap not n in
    ap (λ (c : Bool). Some (first_break (cond c b (At (position k f) 503)))) no

both-true : (a b : Bool) → (a && b) ≡ true → (a ≡ true) × (b ≡ true)
both-true true true e = (refl, refl)
both-true true false e = cc
both-true false b e = cc

pub given-fine : (k : Source) (t : SvType) (v : Valued) → is_assignable t v.expr.of ≡ true
    → first_wide (max (width_of t) (width v)) v.arithmetic ≡ None → is_plain_to_enum t v.expr.of ≡ false → is_given k t v ≡ Ok v.expr
given-fine k t v a n p =
    let w = max (width_of t) (width v) in
    is-by k t v a ∙ by-fine k v.first (is_plain_to_enum t v.expr.of) v.expr v (at_all k.instance 502 (too_wide w v.arithmetic)) (none-wide k.instance w v.arithmetic n) p

pub given-plain : (k : Source) (t : SvType) (v : Valued) → is_assignable t v.expr.of ≡ true
    → first_wide (max (width_of t) (width v)) v.arithmetic ≡ None → is_plain_to_enum t v.expr.of ≡ true
    → reason (is_given k t v) ≡ Some (Some (record { at = v.first; rule = 503 }))
given-plain k t v a n p =
    let w = max (width_of t) (width v) in
    ap reason (is-by k t v a)
    ∙ by-plain k v.first (is_plain_to_enum t v.expr.of) v.expr v (at_all k.instance 502 (too_wide w v.arithmetic)) (none-wide k.instance w v.arithmetic n) p

pub given-wide : (k : Source) (t : SvType) (v : Valued) (at : ℕ) → is_assignable t v.expr.of ≡ true
    → first_wide (max (width_of t) (width v)) v.arithmetic ≡ Some at → (is_plain_to_enum t v.expr.of && nat_lt v.first at) ≡ false
    → reason (is_given k t v) ≡ Some (Some (record { at = at; rule = 502 }))
given-wide k t v at a s p =
    let w = max (width_of t) (width v) in
    let g = wide-begins k.instance w at v.arithmetic s in
    ap reason (is-by k t v a)
    ∙ ap (λ (o : Option Breaks). reason (where_whole (lesser (refused (is_plain_to_enum t v.expr.of) (position k v.first) 503 (Ok v.expr)) (unless o v)) (λ (p : Expr × Valued). Ok p.0))) g.1
    ∙ by-wide k v.first at (is_plain_to_enum t v.expr.of) v.expr v g.0 g.2 p

pub given-sooner : (k : Source) (t : SvType) (v : Valued) (at : ℕ) → is_assignable t v.expr.of ≡ true
    → first_wide (max (width_of t) (width v)) v.arithmetic ≡ Some at → (is_plain_to_enum t v.expr.of && nat_lt v.first at) ≡ true
    → reason (is_given k t v) ≡ Some (Some (record { at = v.first; rule = 503 }))
given-sooner k t v at a s p =
    let w = max (width_of t) (width v) in
    let g = wide-begins k.instance w at v.arithmetic s in
    let tests = both-true (is_plain_to_enum t v.expr.of) (nat_lt v.first at) p in
    ap reason (is-by k t v a)
    ∙ ap (λ (o : Option Breaks). reason (where_whole (lesser (refused (is_plain_to_enum t v.expr.of) (position k v.first) 503 (Ok v.expr)) (unless o v)) (λ (p : Expr × Valued). Ok p.0))) g.1
    ∙ by-sooner k v.first at (is_plain_to_enum t v.expr.of) v.expr v g.0 g.2 tests.0 tests.1

pub ruleset giving = (given-fine, given-plain, given-sooner, given-wide)

-- the first operator, where one of two widths is too large
pub narrow-both : (a b : ℕ) (ats : List ℕ) → (nat_lt 128 a || nat_lt 128 b) ≡ false → first_wide (max a b) ats ≡ None
narrow-both a b [] e = refl
narrow-both a b (x ∷ xs) e = by (nat_lt 128 (max a b)) (max-by a b e)
  where
    by : (c : Bool) → c ≡ false → cond c (Some x) None ≡ None
    by true e = cc
    by false e = refl

    max-by : (a b : ℕ) → (nat_lt 128 a || nat_lt 128 b) ≡ false → nat_lt 128 (max a b) ≡ false
    max-by a b e = grind (arith, nat_tests)

pub wide-one : (a b : ℕ) (ats : List ℕ) → (nat_lt 128 a || nat_lt 128 b) ≡ true → first_wide (max a b) ats ≡ slice_get ats 0
wide-one a b [] e = refl
wide-one a b (x ∷ xs) e = by (nat_lt 128 (max a b)) (max-by a b e)
  where
    by : (c : Bool) → c ≡ true → cond c (Some x) None ≡ Some x
    by true e = refl
    by false e = cc

    max-by : (a b : ℕ) → (nat_lt 128 a || nat_lt 128 b) ≡ true → nat_lt 128 (max a b) ≡ true
    max-by a b e = grind (arith, nat_tests)

pub ruleset wides = (narrow-both, wide-one)

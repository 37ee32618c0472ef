-- The lesser of breaks of one text.
use Rattle.std.proofs.Common.{◌≡◌, ◌⊎◌, inl, inr, ◌<◌, ◌≤◌, ℕ, Bool, true, false, cond, Option, Some, None, refl, arith, ap, sym, ◌∙◌}
use Rattle.std.specs.Prelude.{Ok, Err, nat_lt, ◌&&◌, ◌||◌, ◌==◌}
use Rattle.std.proofs.lemmas.Bool.Decides.{nat_tests}
use Rattle.expr_type.specs.Answers.{Break, first_break, or_next, reason}
use Rattle.expr_type.specs.Breaks.{At, And, Behind, Breaks, Key, Position, Quiet, first, key_at}
use Rattle.expr_type.specs.Breaks as B
use Rattle.expr_type.specs.Names.{Source, position}
use Rattle.expr_type.specs.Typings.{Checked, first_before, lesser}
use Rattle.pattern_laws.specs.Reasons.{Reason, is_sooner, lesser_break, lesser_reason, lesser_tried}

-- breaks at tokens of one text
abbrev pub Here : Source → Breaks → Type 0
Here k (At p rule) = p.instance ≡ k.instance
Here k (And a b) = Here k a × Here k b
Here k (Behind p b) = ⊥
Here k Quiet = Unit {0}

abbrev pub HereIf : {A : Type 0} → Source → Checked A → Type 0
HereIf k (Ok a) = Unit {0}
HereIf k (Err b) = Here k b

-- what is left of them tells which one comes first
abbrev key_of_break : Source → Option Break → Option Key
key_of_break k None = None
key_of_break k (Some b) = Some (key_at (position k b.at) b.rule)

next-key : (k : Source) (a b : Option Break) → B.or_next (key_of_break k a) (key_of_break k b) ≡ key_of_break k (or_next a b)
next-key k None b = refl
next-key k (Some x) b = refl

first-here : (k : Source) (b : Breaks) → Here k b → first b ≡ key_of_break k (first_break b)
first-here k (At p rule) h = ap (λ i. Some (key_at (record { instance = i; at = p.at }) rule)) h
first-here k (And a b) h =
    ap (λ x. B.or_next x (first b)) (first-here k a h.0) ∙ ap (λ y. B.or_next (key_of_break k (first_break a)) y) (first-here k b h.1) ∙ next-key k (first_break a) (first_break b)
first-here k (Behind p b) h = elim h [ ]
first-here k Quiet h = refl

self-lt : (n : ℕ) → nat_lt n n ≡ false
self-lt n = grind (arith, nat_tests)

self-eq : (n : ℕ) → (n == n) ≡ true
self-eq n = grind (arith, nat_tests)

by-tests : (x y z : Bool) → (((false || (true && x)) || ((true && y) && false)) || (((true && y) && true) && z)) ≡ (x || (y && z))
by-tests true true z = refl
by-tests true false z = refl
by-tests false true true = refl
by-tests false true false = refl
by-tests false false z = refl

before : (i : ℕ) (a b : Break)
    → first_before (Some (key_at (record { instance = i; at = a.at }) a.rule)) (Some (key_at (record { instance = i; at = b.at }) b.rule)) ≡ is_sooner a b
before i a b =
    ap (λ (c : Bool). ((c || ((i == i) && nat_lt a.at b.at)) || (((i == i) && (a.at == b.at)) && false)) || ((((i == i) && (a.at == b.at)) && true) && nat_lt a.rule b.rule)) (self-lt i)
    ∙ ap (λ (c : Bool). ((false || (c && nat_lt a.at b.at)) || ((c && (a.at == b.at)) && false)) || (((c && (a.at == b.at)) && true) && nat_lt a.rule b.rule)) (self-eq i)
    ∙ by-tests (nat_lt a.at b.at) (a.at == b.at) (nat_lt a.rule b.rule)

abbrev sooner_than : Option Break → Option Break → Bool
sooner_than None b = false
sooner_than (Some a) None = true
sooner_than (Some a) (Some b) = is_sooner a b

before-is : (k : Source) (a b : Option Break) → first_before (key_of_break k a) (key_of_break k b) ≡ sooner_than a b
before-is k None b = refl
before-is k (Some x) None = refl
before-is k (Some x) (Some y) = before k.instance x y

pick : (c : Bool) (x y : Breaks) → first_break (cond c y x) ≡ cond c (first_break y) (first_break x)
pick true x y = refl
pick false x y = refl

some-cond : (c : Bool) (a b : Break) → cond {A = Option Break} c (Some b) (Some a) ≡ Some (cond c b a)
some-cond true a b = refl
some-cond false a b = refl

lesser-is : (a b : Option Break) → cond (sooner_than b a) b a ≡ lesser_break a b
lesser-is None None = refl
lesser-is None (Some y) = refl
lesser-is (Some x) None = refl
lesser-is (Some x) (Some y) = some-cond (is_sooner y x) x y

pub lesser-reason : {A B : Type 0} (k : Source) (x : Checked A) (y : Checked B) → HereIf k x → HereIf k y → reason (lesser x y) ≡ lesser_reason (reason x) (reason y)
lesser-reason k (Ok a) (Ok b) h g = refl
lesser-reason k (Ok a) (Err y) h g = refl
lesser-reason k (Err x) (Ok b) h g = refl
lesser-reason k (Err x) (Err y) h g =
    ap (λ o. Some (first_break (cond (first_before o (first x)) y x))) (first-here k y g)
    ∙ ap (λ o. Some (first_break (cond (first_before (key_of_break k (first_break y)) o) y x))) (first-here k x h)
    ∙ ap (λ c. Some (first_break (cond c y x))) (before-is k (first_break y) (first_break x))
    ∙ ap Some (pick (sooner_than (first_break y) (first_break x)) x y)
    ∙ ap Some (lesser-is (first_break x) (first_break y))

pub lesser-here : {A B : Type 0} (k : Source) (x : Checked A) (y : Checked B) → HereIf k x → HereIf k y → HereIf k (lesser x y)
lesser-here k (Ok a) (Ok b) h g = tt
lesser-here k (Ok a) (Err y) h g = g
lesser-here k (Err x) (Ok b) h g = h
lesser-here k (Err x) (Err y) h g = by (first_before (first y) (first x))
  where
    by : (c : Bool) → Here k (cond c y x)
    by true = g
    by false = h

lt-of : (n m : ℕ) → nat_lt n m ≡ true → n < m
lt-of n m h = grind (arith, nat_tests, h)

le-of : (n m : ℕ) → nat_lt n m ≡ false → m ≤ n
le-of n m h = grind (arith, nat_tests, h)

eq-of : (n m : ℕ) → (n == m) ≡ true → n ≡ m
eq-of n m h = grind (arith, nat_tests, h)

of-lt : (n m : ℕ) → n < m → nat_lt n m ≡ true
of-lt n m h = grind (arith, nat_tests, h)

of-eq : (n m : ℕ) → n ≡ m → (n == m) ≡ true
of-eq n m h = grind (arith, nat_tests, h)

-- the lesser one is the same in any order of steps

either-true : (x : Bool) → (x || true) ≡ true
either-true true = refl
either-true false = refl

abbrev Sooner : Break → Break → Type 0
Sooner a b = (a.at < b.at) ⊎ ((a.at ≡ b.at) × (a.rule < b.rule))

sooner-by : (a b : Break) (x y z : Bool) → nat_lt a.at b.at ≡ x → (a.at == b.at) ≡ y → nat_lt a.rule b.rule ≡ z → (x || (y && z)) ≡ true → Sooner a b
sooner-by a b true y z p q r h = inl (lt-of a.at b.at p)
sooner-by a b false true true p q r h = inr (eq-of a.at b.at q, lt-of a.rule b.rule r)
sooner-by a b false true false p q r h = absurd (cc)
sooner-by a b false false z p q r h = absurd (cc)

is-sooner : (a b : Break) → is_sooner a b ≡ true → Sooner a b
is-sooner a b h = sooner-by a b (nat_lt a.at b.at) (a.at == b.at) (nat_lt a.rule b.rule) refl refl refl h

from-sooner : (a b : Break) → Sooner a b → is_sooner a b ≡ true
from-sooner a b (inl h) = ap (λ x. x || ((a.at == b.at) && nat_lt a.rule b.rule)) (of-lt a.at b.at h)
from-sooner a b (inr h) =
    ap (λ y. nat_lt a.at b.at || (y && nat_lt a.rule b.rule)) (of-eq a.at b.at h.0) ∙ ap (λ z. nat_lt a.at b.at || (true && z)) (of-lt a.rule b.rule h.1) ∙ either-true (nat_lt a.at b.at)

join-sooner : (c b a : Break) → Sooner c b → Sooner b a → Sooner c a
join-sooner c b a (inl h) (inl g) = inl (omega (arith, h, g))
join-sooner c b a (inl h) (inr g) = inl (omega (arith, h, g.0))
join-sooner c b a (inr h) (inl g) = inl (omega (arith, h.0, g))
join-sooner c b a (inr h) (inr g) = inr (omega (arith, h.0, g.0), omega (arith, h.1, g.1))

sooner-trans : (c b a : Break) → is_sooner c b ≡ true → is_sooner b a ≡ true → is_sooner c a ≡ true
sooner-trans c b a h g = from-sooner c a (join-sooner c b a (is-sooner c b h) (is-sooner b a g))

-- what isn't before comes at the same place or later
later-at : (a b : Break) → is_sooner a b ≡ false → b.at ≤ a.at
later-at a b h = by (nat_lt a.at b.at) refl
  where
    by : (x : Bool) → nat_lt a.at b.at ≡ x → b.at ≤ a.at
    by true e = absurd (let y = from-sooner a b (inl (lt-of a.at b.at e)) in cc)
    by false e = le-of a.at b.at e

later-rule : (a b : Break) → is_sooner a b ≡ false → a.at ≡ b.at → b.rule ≤ a.rule
later-rule a b h same = by (nat_lt a.rule b.rule) refl
  where
    by : (x : Bool) → nat_lt a.rule b.rule ≡ x → b.rule ≤ a.rule
    by true e = absurd (let y = from-sooner a b (inr (same, lt-of a.rule b.rule e)) in cc)
    by false e = le-of a.rule b.rule e

not-sooner : (c b a : Break) → is_sooner c b ≡ false → is_sooner b a ≡ false → Sooner c a → ⊥
not-sooner c b a h g (inl s) = absurd (omega (arith, later-at c b h, later-at b a g, s))
not-sooner c b a h g (inr s) =
    let p = later-at c b h in
    let q = later-at b a g in
    let cb : c.at ≡ b.at = omega (arith, p, q, s.0) in
    let ba : b.at ≡ a.at = omega (arith, p, q, s.0) in
    absurd (omega (arith, later-rule c b h cb, later-rule b a g ba, s.1))

later-by : (c a : Break) (x : Bool) → is_sooner c a ≡ x → (Sooner c a → ⊥) → x ≡ false
later-by c a false e h = refl
later-by c a true e h = elim (h (is-sooner c a e)) [ ]

later-trans : (c b a : Break) → is_sooner c b ≡ false → is_sooner b a ≡ false → is_sooner c a ≡ false
later-trans c b a h g = later-by c a (is_sooner c a) refl (not-sooner c b a h g)

least-by : (a b c : Break) (p q : Bool) → is_sooner b a ≡ p → is_sooner c b ≡ q
    → cond (is_sooner c (cond p b a)) c (cond p b a) ≡ cond (is_sooner (cond q c b) a) (cond q c b) a
least-by a b c true true p q = ap (λ t. cond t c b) q ∙ sym (ap (λ t. cond t c a) (sooner-trans c b a q p))
least-by a b c true false p q = ap (λ t. cond t c b) q ∙ sym (ap (λ t. cond t b a) p)
least-by a b c false true p q = refl
least-by a b c false false p q = ap (λ t. cond t c a) (later-trans c b a q p) ∙ sym (ap (λ t. cond t b a) p)

least-assoc : (a b c : Option Break) → lesser_break (lesser_break a b) c ≡ lesser_break a (lesser_break b c)
least-assoc None b c = refl
least-assoc (Some x) None c = refl
least-assoc (Some x) (Some y) None = refl
least-assoc (Some x) (Some y) (Some z) = ap Some (least-by x y z (is_sooner y x) (is_sooner z y) refl refl)

reason-assoc : (a b c : Reason) → lesser_reason (lesser_reason a b) c ≡ lesser_reason a (lesser_reason b c)
reason-assoc None b c = refl
reason-assoc (Some x) None c = refl
reason-assoc (Some x) (Some y) None = refl
reason-assoc (Some x) (Some y) (Some z) = ap Some (least-assoc x y z)

pub tried-assoc : (a b c : Option Reason) → lesser_tried (lesser_tried a b) c ≡ lesser_tried a (lesser_tried b c)
tried-assoc None b c = refl
tried-assoc (Some x) None c = refl
tried-assoc (Some x) (Some y) None = refl
tried-assoc (Some x) (Some y) (Some z) = ap Some (reason-assoc x y z)

same-either : {A : Type 0} (c : Bool) (a : A) → cond c a a ≡ a
same-either true a = refl
same-either false a = refl

least-same : (a : Option Break) → lesser_break a a ≡ a
least-same None = refl
least-same (Some x) = ap Some (same-either (is_sooner x x) x)

reason-same : (a : Reason) → lesser_reason a a ≡ a
reason-same None = refl
reason-same (Some x) = ap Some (least-same x)

pub tried-same : (a : Option Reason) → lesser_tried a a ≡ a
tried-same None = refl
tried-same (Some x) = ap Some (reason-same x)

pub tried-none : (a : Option Reason) → lesser_tried a None ≡ a
tried-none None = refl
tried-none (Some x) = refl

pub reason-none : (a : Reason) → lesser_reason a None ≡ a
reason-none None = refl
reason-none (Some x) = refl

pub ruleset ordering = (tried-none)

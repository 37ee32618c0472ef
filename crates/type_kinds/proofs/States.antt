-- Which types are two-state, kind by kind.
use Rattle.std.proofs.Common.{◌≡◌, ℕ, zero, suc, ◌+◌, ◌<◌, ◌≤◌, ℤ, Bool, true, false, ◌&&◌, cond, List, [], ◌∷◌, ◌++◌, length, map, replicate, refl, sym, ap, ◌∙◌, rules, arith}
use Rattle.std.specs.Prelude.{nat_lt, not, unsigned_abs, ◌-ℤ◌}
use Rattle.std.specs.List.{list_all}
use Rattle.std.proofs.lemmas.Bool.{cases_lt}
use Rattle.std.proofs.lemmas.Bool.Decides.{nat_tests}
use Rattle.std.proofs.lemmas.List.Folds.{list_all-append}
use Rattle.sv_types.specs.declared.types.SvType.{SvType}
use Rattle.sv_types.specs.declared.types.SvType.TheVariants as V
use Rattle.sv_types.specs.declared.types.Member.{Member, the_lemmas}
use Rattle.sv_types.specs.declared.types.EnumName.{EnumName}
use Rattle.sv_types.specs.Layouts.{Layout, layout, member_layout, count_of, stacked, stacked_marks, widest_marks, union_marks, struct_marks, repeated, as_a_whole}
use Rattle.sv_types.proofs.Lengths.{layout-Scalar, layout-Enum}
use Rattle.sv_types.proofs.Marks.{marks-PackedArray, marks-UnpackedArray, marks-Struct, marks-Union}

abbrev all : List Bool → Bool
all bits = list_all (λ b. b) bits

and-true : (b : Bool) → (b && true) ≡ b
and-true true = refl
and-true false = refl

and-false : (b : Bool) → (b && false) ≡ false
and-false true = refl
and-false false = refl

-- many of the same
joins : (a b : Bool) → (a && b) ≡ b → ((a && b) && b) ≡ b
joins true true h = refl
joins true false h = refl
joins false true h = cc
joins false false h = refl

among : (n : ℕ) (x : List Bool) → (all (stacked (replicate n x)) && all x) ≡ all x
among zero x = refl
among (suc n) x = ap (λ b. b && all x) (list_all-append (λ b. b) (stacked (replicate n x)) x) ∙ joins (all (stacked (replicate n x))) (all x) (among n x)

many : (n : ℕ) (x : List Bool) → all (repeated (n + 1) x) ≡ all x
unfolding repeated
many n x =
    let e : n + 1 ≡ suc n = omega arith in
    ap (λ k. all (stacked (replicate k x))) e ∙ list_all-append (λ b. b) (stacked (replicate n x)) x ∙ among n x

none : (bits : List Bool) → all bits ≡ false → all (map (λ (b : Bool). false) bits) ≡ false
none [] h = cc
none (b ∷ bits) h = refl

whole-by : (bits : List Bool) (b : Bool) → all bits ≡ b → all (cond b bits (map (λ (c : Bool). false) bits)) ≡ b
whole-by bits true h = h
whole-by bits false h = none bits h

whole : (bits : List Bool) → all (as_a_whole bits) ≡ all bits
unfolding as_a_whole
whole bits = whole-by bits (all bits) refl

struct : (packed : Bool) (ls : List Layout) → all (struct_marks packed ls) ≡ all (stacked_marks ls)
struct true ls = whole (stacked_marks ls)
struct false ls = refl

-- a member is one of all
first-of : (a b : Bool) → (a && b) ≡ true → a ≡ true
first-of true b h = refl
first-of false b h = cc

second-of : (a b : Bool) → (a && b) ≡ true → b ≡ true
second-of true b h = h
second-of false b h = cc

widest-all : (ls : List Layout) → all (stacked_marks ls) ≡ true → all (widest_marks ls) ≡ true
widest-all [] h = refl
widest-all (m ∷ ms) h =
    let e : (all (stacked_marks ms) && all m.two_state) ≡ true = sym (list_all-append (λ b. b) (stacked_marks ms) m.two_state) ∙ h in
    by (nat_lt (length m.two_state) (length (widest_marks ms))) (widest-all ms (first-of (all (stacked_marks ms)) (all m.two_state) e)) (second-of (all (stacked_marks ms)) (all m.two_state) e)
  where
    by : (b : Bool) → all (widest_marks ms) ≡ true → all m.two_state ≡ true → all (cond b (widest_marks ms) m.two_state) ≡ true
    by true p q = p
    by false p q = q

nothing : (bits : List Bool) → length bits ≡ 0 → all bits ≡ true
nothing [] h = refl
nothing (b ∷ bits) h = cc

widest-none : (ls : List Layout) → length (widest_marks ls) ≡ 0 → all (stacked_marks ls) ≡ true
widest-none [] h = refl
widest-none (m ∷ ms) h = by (nat_lt (length m.two_state) (length (widest_marks ms))) refl h (widest-none ms)
  where
    by : (b : Bool) → nat_lt (length m.two_state) (length (widest_marks ms)) ≡ b → length (cond b (widest_marks ms) m.two_state) ≡ 0
        → (length (widest_marks ms) ≡ 0 → all (stacked_marks ms) ≡ true) → all (stacked_marks ms ++ m.two_state) ≡ true
    by true t p r = let f : length m.two_state < length (widest_marks ms) = grind (arith, nat_tests, t) in absurd (omega (arith, f, p))
    by false t p r =
        let f : length (widest_marks ms) ≤ length m.two_state = grind (arith, nat_tests, t) in
        let z : length (widest_marks ms) ≡ 0 = omega (arith, f, p) in
        list_all-append (λ b. b) (stacked_marks ms) m.two_state ∙ ap (λ c. c && all m.two_state) (r z) ∙ nothing m.two_state p

some-false : (bits : List Bool) → (length bits ≡ 0 → false ≡ true) → all (map (λ (b : Bool). false) bits) ≡ false
some-false [] h = sym (h refl)
some-false (b ∷ bits) h = refl

union-by : (ls : List Layout) (b : Bool) → all (stacked_marks ls) ≡ b → all (cond b (widest_marks ls) (map (λ (c : Bool). false) (widest_marks ls))) ≡ b
union-by ls true h = widest-all ls h
union-by ls false h = some-false (widest_marks ls) (λ e. sym h ∙ widest-none ls e)

union : (ls : List Layout) → all (union_marks ls) ≡ all (stacked_marks ls)
union ls = union-by ls (all (stacked_marks ls)) refl

-- the kinds of types
pub state-Scalar : (four s : Bool) → all (layout (V.Scalar four s)).two_state ≡ not four
state-Scalar four s = ap (λ (l : Layout). all l.two_state) (layout-Scalar four s) ∙ and-true (not four)

pub state-PackedArray : (left right : ℤ) (s : Bool) (item : SvType) → all (layout (V.PackedArray left right s item)).two_state ≡ all (layout item).two_state
state-PackedArray left right s item = ap all (marks-PackedArray left right s item) ∙ many (unsigned_abs (left -ℤ right)) (layout item).two_state

pub state-UnpackedArray : (left right : ℤ) (item : SvType) → all (layout (V.UnpackedArray left right item)).two_state ≡ all (layout item).two_state
state-UnpackedArray left right item = ap all (marks-UnpackedArray left right item) ∙ many (unsigned_abs (left -ℤ right)) (layout item).two_state

pub state-Struct : (id : ℕ) (packed s : Bool) (ms : List Member) → all (layout (V.Struct id packed s ms)).two_state ≡ all (stacked_marks (map member_layout ms))
state-Struct id packed s ms = ap all (marks-Struct id packed s ms) ∙ struct packed (map member_layout ms)

pub state-Union : (id : ℕ) (s : Bool) (ms : List Member) → all (layout (V.Union id s ms)).two_state ≡ all (stacked_marks (map member_layout ms))
state-Union id s ms = ap all (marks-Union id s ms) ∙ union (map member_layout ms)

pub state-Enum : (id : ℕ) (base : SvType) (names : List EnumName) → all (layout (V.Enum id base names)).two_state ≡ all (layout base).two_state
state-Enum id base names = ap (λ (l : Layout). all l.two_state) (layout-Enum id base names)

pub ruleset states = (state-Scalar, state-PackedArray, state-UnpackedArray, state-Struct, state-Union, state-Enum)

-- members one by one
member-is : (m : Member) → member_layout m ≡ layout m.of
member-is m = search (rules, the_lemmas)

member-all : (m : Member) (ls : List Layout) → all (stacked_marks (member_layout m ∷ ls)) ≡ (all (stacked_marks ls) && all (layout m.of).two_state)
member-all m ls =
    list_all-append (λ b. b) (stacked_marks ls) (member_layout m).two_state
    ∙ ap (λ (l : Layout). all (stacked_marks ls) && all l.two_state) (member-is m)

pub member-two : (m : Member) (ls : List Layout) → true ≡ all (layout m.of).two_state → all (stacked_marks (member_layout m ∷ ls)) ≡ all (stacked_marks ls)
member-two m ls e = member-all m ls ∙ ap (λ b. all (stacked_marks ls) && b) (sym e) ∙ and-true (all (stacked_marks ls))

pub member-four : (m : Member) (ls : List Layout) → false ≡ all (layout m.of).two_state → all (stacked_marks (member_layout m ∷ ls)) ≡ false
member-four m ls e = member-all m ls ∙ ap (λ b. all (stacked_marks ls) && b) (sym e) ∙ and-false (all (stacked_marks ls))

pub ruleset members = (member-two, member-four)

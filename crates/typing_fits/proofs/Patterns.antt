-- Patterns: each item is given to the members or elements that take it.
use Rattle.std.proofs.Common.{◌≡◌, ℕ, zero, suc, ◌+◌, ◌*◌, ◌%◌, ◌≤◌, max, ℤ, Bool, true, false, cond, not, List, [], ◌∷◌, length, map, zip, replicate, Option, Some, None, refl, arith, ap, sym, ◌∙◌, subst, rules, length-append}
use Rattle.std.specs.Prelude.{slice_get, filter, Ok}
use Rattle.std.specs.List.{list_all}
use Rattle.std.proofs.Math.Nat.{suc-mul}
use Rattle.sv_types.specs.declared.expression.Expr.{Expr}
use Rattle.sv_types.specs.declared.expression.Form.TheVariants as F
use Rattle.sv_types.specs.declared.statement.Function.{Function}
use Rattle.sv_types.specs.declared.types.SvType.{SvType, the_lemmas}
use Rattle.sv_types.specs.declared.types.SvType.TheVariants as V
use Rattle.sv_types.specs.declared.types.Member.{Member}
use Rattle.sv_types.specs.declared.types.EnumName.{EnumName}
use Rattle.sv_types.specs.Layouts.{Layout, Part, layout, member_layout, width_of, count_of, stacked_marks, above_the_next}
use Rattle.sv_types.specs.Surroundings.{Parameter}
use Rattle.sv_types.specs.Meanings.{Operand, at_width, most, total}
use Rattle.sv_types.specs.Operators as O
use Rattle.sv_types.specs.Operators.{assigned_width, parts_of}
use Rattle.sv_types.specs.Expressions.{meaning}
use Rattle.sv_types.proofs.Levels as L
use Rattle.sv_types.proofs.TypeShapes.{Kinds, by-type}
use Rattle.sv_types.proofs.Components.{member-layout}
use Rattle.sv_types.proofs.Lengths.{layout-PackedArray, layout-UnpackedArray, layout-Struct, width-PackedArray, width-UnpackedArray, width-Struct}
use Rattle.eval_parts.proofs.Steps.{at-form}
use Rattle.eval_parts.proofs.TypeKinds.{wide-is}
use Rattle.expr_type.specs.PatternFit.{PatternItem}
use Rattle.expr_type.specs.PatternFitPatternItem as I
use Rattle.expr_type.specs.PatternFit.{Rest}
use Rattle.expr_type.specs.Typings.{Checked, where_whole, all_of}
use Rattle.expr_type.specs.Names.{Context, Source}
use Rattle.expr_type.specs.Operators.{expr_at, not_too_long}
use Rattle.expr_type.specs.Patterns.{Item, Parts, is_default, keyed, defaults, rest_of, types_in, levels, takes_itself, spread, value_of, made, tries, key_in, all_keys, taken_by, fitted_by, fitted}
use Rattle.typing_fits.specs.Types.{is_full, is_full_member}
use Rattle.typing_fits.specs.Sound.{Knows, IsNarrowType, Limited, LimitedAt, SoundFor}
use Rattle.typing_fits.specs.Operands.{SoundPattern, SoundOperand, AllSoundFor}
use Rattle.typing_fits.specs.Patterns.{AllSoundItems}
use Rattle.typing_fits.proofs.Contexts.{whole-part}
use Rattle.typing_fits.proofs.Full.{and-left, and-right, full-PackedArray, full-UnpackedArray, full-Struct, full-member, members_full}
use Rattle.typing_fits.proofs.Vectors.{IsResult, result-of}
use Rattle.typing_fits.proofs.Selects.{long-no, long-then}
use Rattle.typing_fits.proofs.Given.{passed-sound, pattern-for}
use Rattle.typing_fits.proofs.Calls.{all-front, none-all}

-- the types that a pattern of a type covers: full, no wider than it, and of the marks of its parts
abbrev pub Narrow : ℕ → List SvType → Type 0
Narrow w [] = Unit {0}
Narrow w (t ∷ ts) = (is_full t ≡ true) × (width_of t ≤ w) × Narrow w ts

abbrev part_marks : List Part → List (List Bool)
part_marks ps = map (λ (p : Part). p.two_state) ps

abbrev type_marks : List SvType → List (List Bool)
type_marks ts = map (λ (t : SvType). (layout t).two_state) ts

pub record Covered (t : SvType) (ts : List SvType) : Type 0 where
  pub narrow : Narrow (width_of t) ts
  pub marks : (u : SvType) (us : List SvType) → ts ≡ u ∷ us → part_marks (parts_of (layout t)) ≡ type_marks ts

no-types : (t : SvType) (ts : List SvType) → ts ≡ [] → Covered t ts
no-types t ts is = subst (λ xs. Covered t xs) (sym is) (record { narrow = tt; marks = λ u us e. absurd (cc) })

types-Scalar : (four s : Bool) → types_in (V.Scalar four s) ≡ []
types-Scalar four s = search (rules, the_lemmas)

types-Union : (id : ℕ) (s : Bool) (ms : List Member) → types_in (V.Union id s ms) ≡ []
types-Union id s ms = search (rules, the_lemmas)

types-Enum : (id : ℕ) (base : SvType) (names : List EnumName) → types_in (V.Enum id base names) ≡ []
types-Enum id base names = search (rules, the_lemmas)

types-PackedArray : (l r : ℤ) (s : Bool) (item : SvType) → types_in (V.PackedArray l r s item) ≡ replicate (count_of l r) item
types-PackedArray l r s item = search (rules, the_lemmas)

types-UnpackedArray : (l r : ℤ) (item : SvType) → types_in (V.UnpackedArray l r item) ≡ replicate (count_of l r) item
types-UnpackedArray l r item = search (rules, the_lemmas)

types-Struct : (id : ℕ) (packed s : Bool) (ms : List Member) → types_in (V.Struct id packed s ms) ≡ map (λ (m : Member). m.of) ms
types-Struct id packed s ms = search (rules, the_lemmas)

-- arrays
same-types : (n w : ℕ) (item : SvType) → is_full item ≡ true → width_of item ≤ w → Narrow w (replicate n item)
same-types zero w item full short = tt
same-types (suc n) w item full short = (full, short, same-types n w item full short)

same-marks : (n : ℕ) (p : Part) (item : SvType) → p.two_state ≡ (layout item).two_state → part_marks (replicate n p) ≡ type_marks (replicate n item)
same-marks zero p item h = refl
same-marks (suc n) p item h = ap (λ x. x ∷ part_marks (replicate n p)) h ∙ ap (λ xs. (layout item).two_state ∷ xs) (same-marks n p item h)

one-of : (n w : ℕ) → w ≤ (n + 1) * w
one-of n w = let e : n + 1 ≡ suc n = omega arith in subst (λ k. w ≤ k * w) (sym e) (omega (arith, suc-mul n w))

array-covered : (t : SvType) (item : SvType) (n : ℕ) (of : Layout) → is_full item ≡ true → width_of t ≡ (n + 1) * width_of item → layout t ≡ of → parts_of of ≡ replicate (n + 1) of.element → of.element.two_state ≡ (layout item).two_state
    → types_in t ≡ replicate (n + 1) item → Covered t (types_in t)
array-covered t item n of full w is parts marks types = subst (λ ts. Covered t ts) (sym types) (record {
  narrow = same-types (n + 1) (width_of t) item full (omega (arith, w, one-of n (width_of item)));
  marks = λ u us e. ap (λ l. part_marks (parts_of l)) is ∙ ap part_marks parts ∙ same-marks (n + 1) of.element item marks;
})

-- structs
abbrev AllFull : List Member → Type 0
AllFull ms = list_all (λ b. b) (map is_full_member ms) ≡ true

struct-narrow : (ms : List Member) (w : ℕ) → AllFull ms → length (stacked_marks (map member_layout ms)) ≤ w → Narrow w (map (λ (m : Member). m.of) ms)
struct-narrow [] w full h = tt
struct-narrow (m ∷ ms) w full h =
    let n = length-append (stacked_marks (map member_layout ms)) (member_layout m).two_state in
    let e : length (member_layout m).two_state ≡ width_of m.of = ap (λ (l : Layout). length l.two_state) (member-layout m) in (
      sym (full-member m) ∙ and-left (is_full_member m) (list_all (λ b. b) (map is_full_member ms)) full,
      omega (arith, n, e, h),
      struct-narrow ms w (and-right (is_full_member m) (list_all (λ b. b) (map is_full_member ms)) full) (omega (arith, n, h)),
    )

struct-parts : (ms : List Member) → part_marks (above_the_next (map member_layout ms)) ≡ type_marks (map (λ (m : Member). m.of) ms)
struct-parts [] = refl
struct-parts (m ∷ ms) =
    ap (λ (l : Layout). l.two_state ∷ part_marks (above_the_next (map member_layout ms))) (member-layout m) ∙ ap (λ xs. (layout m.of).two_state ∷ xs) (struct-parts ms)

all-full : (ms : List Member) → members_full ms ≡ true → AllFull ms
all-full [] h = refl
all-full (m ∷ ms) h = h

some-parts : (ms : List Member) (u : SvType) (us : List SvType) (of : Layout) → map (λ (m : Member). m.of) ms ≡ u ∷ us → of.members ≡ above_the_next (map member_layout ms) → parts_of of ≡ above_the_next (map member_layout ms)
some-parts [] u us of e is = absurd (cc)
some-parts (m ∷ ms) u us of e is = ap (λ (ps : List Part). elim ps as (λ x. List Part) [ [] ↦ replicate (count_of of.left of.right) of.element | p ∷ qs ↦ p ∷ qs ]) is

abbrev CoveredType : SvType → Type 0
CoveredType t = is_full t ≡ true → Covered t (types_in t)

abbrev AnyMember : Member → Type 0
AnyMember m = Unit {0}

covers : Kinds CoveredType AnyMember
covers = record {
  member = λ m h. tt;
  scalar = λ four s full. no-types (V.Scalar four s) (types_in (V.Scalar four s)) (types-Scalar four s);
  packed = λ l r s item h full.
      array-covered (V.PackedArray l r s item) item _ _ (sym (full-PackedArray l r s item) ∙ full) (width-PackedArray l r s item) (layout-PackedArray l r s item) refl refl (types-PackedArray l r s item);
  structure = λ id packed s ms h full.
      let t = V.Struct id packed s ms in
      let w = width-Struct id packed s ms in
      subst (λ ts. Covered t ts) (sym (types-Struct id packed s ms)) (record {
        narrow = struct-narrow ms (width_of t) (all-full ms (sym (full-Struct id packed s ms) ∙ full)) (omega (arith, w));
        marks = λ u us e.
            ap part_marks (some-parts ms u us (layout t) e (ap (λ (l : Layout). l.members) (layout-Struct id packed s ms))) ∙ struct-parts ms;
      });
  union = λ id s ms h full. no-types (V.Union id s ms) (types_in (V.Union id s ms)) (types-Union id s ms);
  enumeration = λ id base names h full. no-types (V.Enum id base names) (types_in (V.Enum id base names)) (types-Enum id base names);
  unpacked = λ l r item h full.
      array-covered (V.UnpackedArray l r item) item _ _ (sym (full-UnpackedArray l r item) ∙ full) (width-UnpackedArray l r item) (layout-UnpackedArray l r item) refl refl (types-UnpackedArray l r item);
}

pub covered : (t : SvType) → is_full t ≡ true → Covered t (types_in t)
covered = by-type CoveredType AnyMember covers

-- sums over what is given to parts
record Sums (ps : List Part) (es : List Expr) (gs : List Function) : Type 0 where
  pub typed : total (map (λ (p : Operand). p.of.misfits) (map (λ p. at_width (assigned_width p.0.two_state p.1) p.1) (zip ps (map meaning es)))) ≡ 0
  pub narrow : most (map (λ (p : Operand). p.of.widest) (map (λ p. at_width (assigned_width p.0.two_state p.1) p.1) (zip ps (map meaning es)))) ≤ 4194304
  pub indexing : most (map (λ (p : Operand). p.of.indexing) (map (λ p. at_width (assigned_width p.0.two_state p.1) p.1) (zip ps (map meaning es)))) ≤ 64
  pub arithmetic : (fs : ℕ → List Parameter) → Knows gs fs → (w : ℕ) → most (map (λ (p : Operand). p.of.arithmetic fs (p.at w)) (map (λ p. at_width (assigned_width p.0.two_state p.1) p.1) (zip ps (map meaning es)))) ≤ 128

at-part : (e : Expr) (t : SvType) (bits : List Bool) (gs : List Function) → bits ≡ (layout t).two_state → SoundFor e t gs → LimitedAt (meaning e) (assigned_width bits (meaning e)) gs
at-part e t bits gs is s =
    subst (λ bs. LimitedAt (meaning e) (assigned_width bs (meaning e)) gs) (sym is) (subst (λ w. LimitedAt (meaning e) (max (width_of t) w) gs) (sym (wide-is e)) s.limits)

front-marks : (p : Part) (ps : List Part) (t : SvType) (ts : List SvType) → part_marks (p ∷ ps) ≡ type_marks (t ∷ ts) → p.two_state ≡ (layout t).two_state
front-marks p ps t ts h = cc

rest-marks : (p : Part) (ps : List Part) (t : SvType) (ts : List SvType) → part_marks (p ∷ ps) ≡ type_marks (t ∷ ts) → part_marks ps ≡ type_marks ts
rest-marks p ps t ts h = cc

sums : (ps : List Part) (ts : List SvType) (es : List Expr) (gs : List Function) → part_marks ps ≡ type_marks ts → AllSoundFor es ts gs → Sums ps es gs
sums [] ts es gs is s = record { typed = refl; narrow = omega arith; indexing = omega arith; arithmetic = λ fs k w. omega arith }
sums (p ∷ ps) ts [] gs is s = record { typed = refl; narrow = omega arith; indexing = omega arith; arithmetic = λ fs k w. omega arith }
sums (p ∷ ps) [] (e ∷ es) gs is s = absurd (cc)
sums (p ∷ ps) (t ∷ ts) (e ∷ es) gs is s =
    let r = sums ps ts es gs (rest-marks p ps t ts is) s.1 in
    let x = at-part e t p.two_state gs (front-marks p ps t ts is) s.0 in
    record {
      typed = omega (arith, x.typed, r.typed);
      narrow = omega (arith, x.narrow, r.narrow);
      indexing = omega (arith, x.indexing, r.indexing);
      arithmetic = λ fs k w. omega (arith, x.arithmetic fs k, r.arithmetic fs k w);
    }

pattern-limits : (of : Layout) (at : ℕ) (es : List Expr) (gs : List Function) → IsResult of (length of.two_state) of.signed → Sums (parts_of of) es gs → Limited (O.pattern of at (map meaning es)) [] gs
unfolding O.pattern
pattern-limits of at es gs v s = record {
  typed = omega (arith, v.some, v.same, s.typed);
  narrow = omega (arith, v.narrow, s.narrow);
  indexing = omega (arith, s.indexing);
  arithmetic = λ fs k w h. omega (arith, s.arithmetic fs k w);
}

-- a pattern of what is given to some types of those that its type covers, from the first one on
none-made : (of : Layout) (gs : List Function) → Sums (parts_of of) [] gs
none-made of gs = by (parts_of of)
  where
    by : (ps : List Part) → Sums ps [] gs
    by [] = record { typed = refl; narrow = omega arith; indexing = omega arith; arithmetic = λ fs k w. omega arith }
    by (p ∷ ps) = record { typed = refl; narrow = omega arith; indexing = omega arith; arithmetic = λ fs k w. omega arith }

made-sums : (t : SvType) (es : List Expr) (gs : List Function) → (ts : List SvType) → types_in t ≡ ts → length es ≤ length ts → Covered t ts → AllSoundFor es ts gs → Sums (parts_of (layout t)) es gs
made-sums t [] gs ts is few c s = none-made (layout t) gs
made-sums t (e ∷ es) gs [] is few c s = absurd (omega arith)
made-sums t (e ∷ es) gs (u ∷ us) is few c s = sums (parts_of (layout t)) (u ∷ us) (e ∷ es) gs (c.marks u us refl) s

pub pattern-expr : (k : Source) (at : ℕ) (t : SvType) (es : List Expr) (gs : List Function) → IsNarrowType t → length es ≤ length (types_in t) → AllSoundFor es (types_in t) gs → SoundPattern (expr_at k at t (F.Pattern es)) t gs
pattern-expr k at t es gs narrow few s =
    let r = made-sums t es gs (types_in t) refl few (covered t narrow.full) s in
    record {
      is = refl;
      sound = record {
        of = narrow;
        own = refl;
        limits = subst (λ m. Limited m [] gs) (sym (at-form (expr_at k at t (F.Pattern es)) (F.Pattern es) _ refl (L.form-Pattern es)))
            (pattern-limits (layout t) at es gs (result-of t (width_of t) (layout t).signed narrow refl refl) r);
      };
    }

-- what `default` gives, level by level
abbrev Gives : (SvType → Checked Expr) → List Function → Type 0
Gives give gs = (t : SvType) (e : Expr) → is_full t ≡ true → give t ≡ Ok e → SoundFor e t gs

all-given : (f : SvType → Checked Expr) (w : ℕ) (ts : List SvType) (es : List Expr) (gs : List Function) → Narrow w ts
    → ((t : SvType) (e : Expr) → is_full t ≡ true → width_of t ≤ w → f t ≡ Ok e → SoundFor e t gs) → all_of (map f ts) ≡ Ok es → AllSoundFor es ts gs
all-given f w [] es gs n s h = subst (λ xs. AllSoundFor xs [] gs) (sym (none-all es h)) tt
all-given f w (t ∷ ts) es gs n s h =
    let r = all-front (f t) (map f ts) es h in
    subst (λ xs. AllSoundFor xs (t ∷ ts) gs) (sym r.is) (s t r.first n.0 n.1 r.here, all-given f w ts r.rest gs n.2 s r.behind)

all-long : (f : SvType → Checked Expr) (ts : List SvType) (es : List Expr) → all_of (map f ts) ≡ Ok es → length es ≤ length ts
all-long f [] es h = subst (λ xs. length xs ≤ 0) (sym (none-all es h)) (omega arith)
all-long f (t ∷ ts) es h =
    let r = all-front (f t) (map f ts) es h in
    let n = all-long f ts r.rest r.behind in
    subst (λ xs. length xs ≤ length (t ∷ ts)) (sym r.is) (omega arith)

abbrev expr_ok : Expr → Checked Expr
expr_ok e = Ok e

for-is : (a e : Expr) (t : SvType) (gs : List Function) → expr_ok a ≡ Ok e → SoundFor a t gs → SoundFor e t gs
for-is a e t gs h s = let is : a ≡ e = cc in subst (λ x. SoundFor x t gs) is s

spread-by : (k : Source) (tick n : ℕ) (rest : Rest) (give : SvType → Checked Expr) (t : SvType) (e : Expr) (gs : List Function) (b : Bool)
    → cond b (give t) (where_whole (all_of (map (spread k tick n rest give) (types_in t))) (λ es. Ok (expr_at k tick t (F.Pattern es)))) ≡ Ok e
    → ((u : SvType) (x : Expr) → is_full u ≡ true → width_of u ≤ 4194304 → spread k tick n rest give u ≡ Ok x → SoundFor x u gs) → Gives give gs → is_full t ≡ true → width_of t ≤ 4194304 → SoundFor e t gs
spread-by k tick n rest give t e gs true h s g full short = g t e full h
spread-by k tick n rest give t e gs false h s g full short =
    let f = spread k tick n rest give in
    let parts = all_of (map f (types_in t)) in
    let p = whole-part parts (λ es. Ok (expr_at k tick t (F.Pattern es))) e h in
    let c = covered t full in
    let all = all-given f (width_of t) (types_in t) p.part gs c.narrow (λ u x uf us is. s u x uf (omega (arith, us, short)) is) p.is in
    for-is (expr_at k tick t (F.Pattern p.part)) e t gs p.made
    (pattern-for (expr_at k tick t (F.Pattern p.part)) t gs (pattern-expr k tick t p.part gs (record { full = full; narrow = short }) (all-long f (types_in t) p.part p.is) all))

pub spread-sound : (k : Source) (tick n : ℕ) (rest : Rest) (give : SvType → Checked Expr) (t : SvType) (e : Expr) (gs : List Function) → spread k tick n rest give t ≡ Ok e → Gives give gs → is_full t ≡ true → width_of t ≤ 4194304 → SoundFor e t gs
spread-sound k tick zero rest give t e gs h g full short = g t e full h
spread-sound k tick (suc n) rest give t e gs h g full short =
    spread-by k tick n rest give t e gs (takes_itself rest t) h (λ u x uf us is. spread-sound k tick n rest give u x gs is g uf us) g full short

-- items
abbrev ItemIf : Option Item → List Function → Type 0
ItemIf None gs = Unit {0}
ItemIf (Some i) gs = SoundOperand i.value gs

item-at : (is : List Item) (n : ℕ) (gs : List Function) → AllSoundItems is gs → ItemIf (slice_get is n) gs
item-at [] n gs s = tt
item-at (i ∷ is) zero gs s = s.0
item-at (i ∷ is) (suc n) gs s = item-at is n gs s.1

filtered-by : (f : Item → Bool) (i : Item) (is : List Item) (gs : List Function) (b : Bool) → SoundOperand i.value gs → AllSoundItems (filter f is) gs → AllSoundItems (cond b (i ∷ filter f is) (filter f is)) gs
filtered-by f i is gs true s r = (s, r)
filtered-by f i is gs false s r = r

filtered : (f : Item → Bool) (is : List Item) (gs : List Function) → AllSoundItems is gs → AllSoundItems (filter f is) gs
filtered f [] gs s = tt
filtered f (i ∷ is) gs s = filtered-by f i is gs (f i) s.0 (filtered f is gs s.1)

value-given : (o : Option Item) (k : Source) (gs : List Function) → ItemIf o gs → Gives (value_of o k) gs
value-given None k gs s t e full h = absurd (cc)
value-given (Some i) k gs s t e full h = passed-sound k t i.value e gs h full s

made-sound : (k : Source) (tick : ℕ) (is : List Item) (x : PatternItem) (t : SvType) (e : Expr) (gs : List Function) → AllSoundItems is gs → is_full t ≡ true → width_of t ≤ 4194304 → made k tick is (x, t) ≡ Ok e → SoundFor e t gs
made-sound k tick is (I.Item m) t e gs s full short h =
    value-given (slice_get (keyed is) (m % length (keyed is))) k gs (item-at (keyed is) (m % length (keyed is)) gs (filtered (λ (i : Item). not (is_default i.key)) is gs s)) t e full h
made-sound k tick is I.Default t e gs s full short h =
    spread-sound k tick (levels t) (rest_of (defaults is)) (value_of (slice_get (defaults is) 0) k) t e gs h
    (value-given (slice_get (defaults is) 0) k gs (item-at (defaults is) 0 gs (filtered (λ (i : Item). is_default i.key) is gs s))) full short
made-sound k tick is I.Spread t e gs s full short h =
    spread-sound k tick (levels t) (rest_of (defaults is)) (value_of (slice_get (defaults is) 0) k) t e gs h
    (value-given (slice_get (defaults is) 0) k gs (item-at (defaults is) 0 gs (filtered (λ (i : Item). is_default i.key) is gs s))) full short

all-made : (k : Source) (tick w : ℕ) (is : List Item) (xs : List PatternItem) (ts : List SvType) (es : List Expr) (gs : List Function) → AllSoundItems is gs → w ≤ 4194304 → Narrow w ts → all_of (map (made k tick is) (zip xs ts)) ≡ Ok es
    → AllSoundFor es ts gs × (length es ≤ length ts)
all-made k tick w is [] ts es gs s short n h = subst (λ ys. AllSoundFor ys ts gs × (length ys ≤ length ts)) (sym (none-all es h)) (tt, omega arith)
all-made k tick w is (x ∷ xs) [] es gs s short n h = subst (λ ys. AllSoundFor ys [] gs × (length ys ≤ 0)) (sym (none-all es h)) (tt, omega arith)
all-made k tick w is (x ∷ xs) (t ∷ ts) es gs s short n h =
    let r = all-front (made k tick is (x, t)) (map (made k tick is) (zip xs ts)) es h in
    let rest = all-made k tick w is xs ts r.rest gs s short n.2 r.behind in
    let few = rest.1 in
    subst (λ ys. AllSoundFor ys (t ∷ ts) gs × (length ys ≤ length (t ∷ ts))) (sym r.is)
    ((made-sound k tick is x t r.first gs s n.0 (omega (arith, n.1, short)) r.here, rest.0), omega arith)

by-takes : (k : Source) (tick at : ℕ) (t : SvType) (is : List Item) (o : Option (List PatternItem)) (e : Expr) (gs : List Function) → fitted_by k tick at t is o ≡ Ok e → is_full t ≡ true → AllSoundItems is gs → SoundPattern e t gs
by-takes k tick at t is None e gs h full s = absurd (cc)
by-takes k tick at t is (Some xs) e gs h full s =
    let ps = zip xs (types_in t) in
    let looked = all_of (tries k (length (keyed is)) (rest_of (defaults is)) ps 0 is) in
    let parts = all_of (map (made k tick is) ps) in
    let a = whole-part looked (λ x. where_whole parts (λ es. not_too_long k tick (width_of t) (Ok (expr_at k at t (F.Pattern es))))) e h in
    let b = whole-part parts (λ es. not_too_long k tick (width_of t) (Ok (expr_at k at t (F.Pattern es)))) e a.made in
    let x = expr_at k at t (F.Pattern b.part) in
    let short = long-no k tick (width_of t) (Ok x) e b.made in
    let all = all-made k tick (width_of t) is xs (types_in t) b.part gs s short (covered t full).narrow b.is in
    let is_e : expr_ok x ≡ Ok e = long-then k tick (width_of t) (Ok x) e b.made in
    let same : x ≡ e = cc in
    subst (λ y. SoundPattern y t gs) same (pattern-expr k at t b.part gs (record { full = full; narrow = short }) all.1 all.0)

pub fitted-sound : (k : Context) (tick : ℕ) (p : Parts) (at : ℕ) (t : SvType) (e : Expr) (gs : List Function) → fitted k tick p at t ≡ Ok e → is_full t ≡ true → AllSoundItems p.items gs → SoundPattern e t gs
fitted-sound k tick p at t e gs h full s =
    let keys = all_of (map (λ (i : Item). key_in k t i.key) (keyed p.items)) in
    let a = whole-part keys (λ ks. fitted_by k.source tick at t p.items (taken_by t p (all_keys ks))) e h in
    by-takes k.source tick at t p.items (taken_by t p (all_keys a.part)) e gs a.made full s

-- A select of a typed path gives a typed path.
use Rattle.std.proofs.Common.{◌≡◌, ℕ, ℤ, Bool, true, false, not, List, [], ◌∷◌, Option, Some, None, refl, sym, subst, true≢false}
use Rattle.std.specs.Prelude.{⊤, pos, ◌-ℤ◌, int_le, unsigned_abs, Ok}
use Rattle.sv_types.specs.declared.expression.Form.TheVariants as F
use Rattle.sv_types.specs.declared.types.SvType.{SvType}
use Rattle.sv_types.specs.Layouts.{width_of}
use Rattle.sv_types.specs.Surroundings.{local_number}
use Rattle.expr_type.specs.declared.operand.Number.{Number}
use Rattle.expr_type.specs.declared.operand.Valued.{Valued}
use Rattle.expr_type.specs.declared.step.Step.{Step}
use Rattle.expr_type.specs.declared.step.Step.TheVariants as T
use Rattle.expr_type.specs.Typings.{refused}
use Rattle.expr_type.specs.Shapes.{element_of, members_of, is_unpacked, is_indexed}
use Rattle.expr_type.specs.Names.{Source, position, word}
use Rattle.expr_type.specs.Operators.{by_itself, not_too_long}
use Rattle.expr_type.specs.Selects.{Place, named, member_or, part_type, goes_wrong, element, part, slide, stepped}
use Rattle.typing_fits.proofs.Contexts.{refused-no, refused-then}
use Rattle.typing_fits.proofs.Operators.{ok-is}
use Rattle.typing_fits.proofs.Selects.{long-then}
use Rattle.typed_paths.specs.Typed.{Indexing, IsTypedPath, of_signal, of_local, of_member, of_index, of_part, of_slide}
use Rattle.path_laws.specs.Bases.{has_plain_bases}
use Rattle.path_laws.specs.Names.{IsPathOn}
use Rattle.path_laws.proofs.Bases as B
use Rattle.path_laws.proofs.Elements as E

-- a typed path, of which no enum in its type has an unpacked base, and no part-select has members
pub record OnPath (number : ℕ) (t : SvType) (v : Valued) : Type 0 where
  pub indices : List Indexing
  pub part : Bool
  pub path : IsTypedPath number t v.expr indices part
  pub plain : has_plain_bases v.expr.of ≡ true
  pub none : part ≡ true → members_of v.expr.of ≡ []

pub path-on : (number : ℕ) (t : SvType) (v : Valued) → OnPath number t v → IsPathOn number t v.expr
path-on number t v p = record { indices = p.indices; part = p.part; path = p.path }

-- a select with a variable base has a bit
abbrev pub HasWidth : Step → Type 0
HasWidth (T.Member name) = ⊤
HasWidth (T.Index opening i) = ⊤
HasWidth (T.Part opening left right) = ⊤
HasWidth (T.Slide opening up i n) = int_le (pos 1) n.number ≡ true

-- what a path begins with
pub on-signal : (k : Source) (first n : ℕ) (t : SvType) → has_plain_bases t ≡ true → OnPath n t (by_itself k first t (F.Signal n))
on-signal k first n t plain = record { indices = []; part = false; path = of_signal _ n refl refl refl; plain = plain; none = λ e. absurd (true≢false (sym e)) }

pub on-local : (k : Source) (first n : ℕ) (t : SvType) → has_plain_bases t ≡ true → OnPath (local_number n) t (by_itself k first t (F.Local n))
on-local k first n t plain = record { indices = []; part = false; path = of_local _ n refl refl refl; plain = plain; none = λ e. absurd (true≢false (sym e)) }

module _ (number : ℕ) (t : SvType) where
  as-on : (a u : Valued) → a ≡ u → OnPath number t a → OnPath number t u
  as-on a u is p = subst (OnPath number t) is p

  -- a part-select has no members, so what has some is none
  whole-by : (v : Valued) (xs : List Indexing) (part : Bool) → IsTypedPath number t v.expr xs part → (part ≡ false) → IsTypedPath number t v.expr xs false
  whole-by v xs part path is = subst (IsTypedPath number t v.expr xs) is path

  no-part : (v : Valued) (part : Bool) (name : List ℕ) (m : Place) → (part ≡ true → members_of v.expr.of ≡ []) → named 0 (members_of v.expr.of) name ≡ Some m → part ≡ false
  no-part v true name m none is = absurd (B.none-named v.expr.of name m (none refl) is)
  no-part v false name m none is = refl

  member-by : (k : Source) (at : ℕ) (v u : Valued) (name : List ℕ) (o : Option Place) → named 0 (members_of v.expr.of) name ≡ o → member_or k at v o ≡ Ok u → OnPath number t v → OnPath number t u
  member-by k at v u name None is h p = absurd (cc)
  member-by k at v u name (Some m) is h p =
      let a = by_itself k v.first m.of (F.Member v.expr m.number) in
      as-on a u (ok-is a u (long-then k at (width_of m.of) (Ok a) u h)) (record {
        indices = p.indices;
        part = false;
        path = of_member _ v.expr m.number p.indices refl (whole-by v p.indices p.part p.path (no-part v p.part name m p.none is));
        plain = B.member-plain v.expr.of p.plain name m is;
        none = λ e. absurd (true≢false (sym e));
      })

  not-false : (b : Bool) → not b ≡ false → b ≡ true
  not-false true h = refl
  not-false false h = absurd (true≢false h)

  element-on : (k : Source) (opening : ℕ) (v i u : Valued) → element k opening v i ≡ Ok u → OnPath number t v → OnPath number t u
  element-on k opening v i u h p =
      let of = element_of v.expr.of in
      let a = by_itself k v.first of (F.Index v.expr i.expr) in
      let long = not_too_long k opening (width_of of) (Ok a) in
      let indexed = not-false (is_indexed v.expr.of) (refused-no (not (is_indexed v.expr.of)) (position k opening) 508 long u h) in
      as-on a u (ok-is a u (long-then k opening (width_of of) (Ok a) u (refused-then (not (is_indexed v.expr.of)) (position k opening) 508 long u h))) (record {
        indices = record { index = i.expr; in_part = p.part } ∷ p.indices;
        part = false;
        path = of_index _ v.expr i.expr p.indices p.part refl (B.indexed-elements v.expr.of p.plain indexed) p.path;
        plain = B.element-plain v.expr.of p.plain;
        none = λ e. absurd (true≢false (sym e));
      })

  part-plain : (of : SvType) (left right : ℤ) → has_plain_bases of ≡ true → has_plain_bases (part_type of left right) ≡ true
  part-plain of left right plain = B.plain-PackedArray left right false (element_of of) (B.element-plain of plain)

  part-on : (k : Source) (opening : ℕ) (v u : Valued) (left right : Number) → part k opening v left right ≡ Ok u → OnPath number t v → OnPath number t u
  part-on k opening v u left right h p =
      let of = part_type v.expr.of left.number right.number in
      let a = by_itself k v.first of (F.Part v.expr left.number right.number) in
      let long = not_too_long k opening (width_of of) (Ok a) in
      let wrong = goes_wrong v.expr.of left.number right.number in
      let turned = refused wrong (position k left.first) 411 long in
      let packed = refused-no (is_unpacked v.expr.of) (position k opening) 508 turned u h in
      let rest = refused-then (is_unpacked v.expr.of) (position k opening) 508 turned u h in
      as-on a u (ok-is a u (long-then k opening (width_of of) (Ok a) u (refused-then wrong (position k left.first) 411 long u rest))) (record {
        indices = p.indices;
        part = true;
        path = of_part _ v.expr left.number right.number p.indices p.part refl (B.packed-elements v.expr.of p.plain packed)
            (E.part-of v.expr.of left.number right.number (refused-no wrong (position k left.first) 411 long u rest)) p.path;
        plain = part-plain v.expr.of left.number right.number p.plain;
        none = λ e. B.members-PackedArray left.number right.number false (element_of v.expr.of);
      })

  slide-on : (k : Source) (opening : ℕ) (up : Bool) (v i u : Valued) (n : ℤ) → slide k opening up v i n ≡ Ok u → int_le (pos 1) n ≡ true → OnPath number t v → OnPath number t u
  slide-on k opening up v i u n h some p =
      let of = part_type v.expr.of (n -ℤ pos 1) (pos 0) in
      let a = by_itself k v.first of (F.Slide v.expr i.expr (unsigned_abs n) up) in
      let long = not_too_long k opening (width_of of) (Ok a) in
      let packed = refused-no (is_unpacked v.expr.of) (position k opening) 508 long u h in
      as-on a u (ok-is a u (long-then k opening (width_of of) (Ok a) u (refused-then (is_unpacked v.expr.of) (position k opening) 508 long u h))) (record {
        indices = record { index = i.expr; in_part = p.part } ∷ p.indices;
        part = true;
        path = of_slide _ v.expr i.expr (unsigned_abs n) up p.indices p.part refl (B.packed-elements v.expr.of p.plain packed) (E.slide-of v.expr.of n some) p.path;
        plain = part-plain v.expr.of (n -ℤ pos 1) (pos 0) p.plain;
        none = λ e. B.members-PackedArray (n -ℤ pos 1) (pos 0) false (element_of v.expr.of);
      })

  pub stepped-on : (k : Source) (v u : Valued) (s : Step) → stepped k v s ≡ Ok u → HasWidth s → OnPath number t v → OnPath number t u
  stepped-on k v u (T.Member name) h w p = member-by k name v u (word k name) (named 0 (members_of v.expr.of) (word k name)) refl h p
  stepped-on k v u (T.Index opening i) h w p = element-on k opening v i u h p
  stepped-on k v u (T.Part opening left right) h w p = part-on k opening v u left right h p
  stepped-on k v u (T.Slide opening up i n) h w p = slide-on k opening up v i u n.number h w p

-- What takes the value of `default`, level by level of a type.
use Rattle.std.proofs.Common.{◌≡◌, ◌≤◌, ℕ, zero, suc, ℤ, Bool, cond, List, [], ◌∷◌, ◌++◌, map, replicate, refl, arith, ap, sym, ◌∙◌, subst, rules}
use Rattle.std.specs.Prelude.{Ok, flat_map}
use Rattle.sv_types.specs.declared.expression.Expr.{Expr}
use Rattle.sv_types.specs.declared.expression.Form.TheVariants as F
use Rattle.sv_types.specs.declared.types.EnumName.{EnumName}
use Rattle.sv_types.specs.declared.types.Member.{Member}
use Rattle.sv_types.specs.declared.types.SvType.{SvType, the_lemmas}
use Rattle.sv_types.specs.declared.types.SvType.TheVariants as T
use Rattle.sv_types.specs.Layouts.{count_of}
use Rattle.sv_types.specs.Meanings.{most}
use Rattle.sv_types.proofs.TypeShapes.{Kinds, by-type}
use Rattle.pattern_fit.specs.declared.pattern.Rest.{Rest}
use Rattle.expr_type.specs.Names.{Source}
use Rattle.expr_type.specs.Operands.{Operand, passed}
use Rattle.expr_type.specs.Operators.{expr_at}
use Rattle.expr_type.specs.Patterns.{leaves, levels, spread, takes_itself, types_in}
use Rattle.expr_type.specs.Typings.{Checked, all_of, where_whole}
use Rattle.pattern_types.specs.Filling.{spread_of}
use Rattle.pattern_types.specs.Leaves.{leaves_of, member_types}
use Rattle.pattern_types.proofs.Levels.{types-Enum, types-PackedArray, types-Scalar, types-Struct, types-Union, types-UnpackedArray}

-- the types in a type have fewer levels
abbrev AllUnder : ℕ → List SvType → Type 0
AllUnder n [] = Unit {0}
AllUnder n (t ∷ ts) = (levels t ≤ n) × AllUnder n ts

record Deep (t : SvType) : Type 0 where
  under : ℕ
  levels : levels t ≡ suc under
  all : AllUnder under (types_in t)

abbrev member_levels : List Member → List ℕ
member_levels ms = map (λ (m : Member). levels m.of) ms

levels-Scalar : (four s : Bool) → levels (T.Scalar four s) ≡ 1
levels-Scalar four s = search (rules, the_lemmas)

levels-PackedArray : (l r : ℤ) (s : Bool) (item : SvType) → levels (T.PackedArray l r s item) ≡ suc (levels item)
levels-PackedArray l r s item = search (rules, the_lemmas)

levels-UnpackedArray : (l r : ℤ) (item : SvType) → levels (T.UnpackedArray l r item) ≡ suc (levels item)
levels-UnpackedArray l r item = search (rules, the_lemmas)

levels-Struct : (id : ℕ) (packed s : Bool) (ms : List Member) → levels (T.Struct id packed s ms) ≡ suc (most (member_levels ms))
levels-Struct id packed s ms = search (rules, the_lemmas)

levels-Union : (id : ℕ) (s : Bool) (ms : List Member) → levels (T.Union id s ms) ≡ 1
levels-Union id s ms = search (rules, the_lemmas)

levels-Enum : (id : ℕ) (base : SvType) (names : List EnumName) → levels (T.Enum id base names) ≡ 1
levels-Enum id base names = search (rules, the_lemmas)

no-types : (t : SvType) → levels t ≡ 1 → types_in t ≡ [] → Deep t
no-types t h none = record { under = 0; levels = h; all = subst (λ ts. AllUnder 0 ts) (sym none) tt }

copies-under : (n : ℕ) (t : SvType) → AllUnder (levels t) (replicate n t)
copies-under zero t = tt
copies-under (suc n) t = (omega arith, copies-under n t)

array-deep : (t item : SvType) (n : ℕ) → levels t ≡ suc (levels item) → types_in t ≡ replicate n item → Deep t
array-deep t item n h types = record { under = levels item; levels = h; all = subst (λ ts. AllUnder (levels item) ts) (sym types) (copies-under n item) }

more-under : (a b : ℕ) (ts : List SvType) → a ≤ b → AllUnder a ts → AllUnder b ts
more-under a b [] h all = tt
more-under a b (t ∷ ts) h all = (omega (arith, all.0), more-under a b ts h all.1)

members-under : (ms : List Member) → AllUnder (most (member_levels ms)) (member_types ms)
members-under [] = tt
members-under (m ∷ ms) = (omega arith, more-under (most (member_levels ms)) (most (member_levels (m ∷ ms))) (member_types ms) (omega arith) (members-under ms))

abbrev AnyMember : Member → Type 0
AnyMember m = Unit {0}

deep-kinds : Kinds Deep AnyMember
deep-kinds = record {
  member = λ m h. tt;
  scalar = λ four s. no-types (T.Scalar four s) (levels-Scalar four s) (types-Scalar four s);
  packed = λ l r s item h. array-deep (T.PackedArray l r s item) item (count_of l r) (levels-PackedArray l r s item) (types-PackedArray l r s item);
  structure = λ id packed s ms h.
      let t = T.Struct id packed s ms in
      record { under = most (member_levels ms); levels = levels-Struct id packed s ms; all = subst (λ ts. AllUnder (most (member_levels ms)) ts) (sym (types-Struct id packed s ms)) (members-under ms) };
  union = λ id s ms h. no-types (T.Union id s ms) (levels-Union id s ms) (types-Union id s ms);
  enumeration = λ id base names h. no-types (T.Enum id base names) (levels-Enum id base names) (types-Enum id base names);
  unpacked = λ l r item h. array-deep (T.UnpackedArray l r item) item (count_of l r) (levels-UnpackedArray l r item) (types-UnpackedArray l r item);
}

deep : (t : SvType) → Deep t
deep = by-type Deep AnyMember deep-kinds

-- so many levels or more give the same
same-all : {A : Type 0} (f g : SvType → A) (n : ℕ) (ts : List SvType) → AllUnder n ts → ((t : SvType) → levels t ≤ n → f t ≡ g t) → map f ts ≡ map g ts
same-all f g n [] all h = refl
same-all f g n (t ∷ ts) all h = ap (λ x. x ∷ map f ts) (h t all.0) ∙ ap (λ xs. g t ∷ xs) (same-all f g n ts all.1 h)

same-flat : (f g : SvType → List SvType) (n : ℕ) (ts : List SvType) → AllUnder n ts → ((t : SvType) → levels t ≤ n → f t ≡ g t) → flat_map f ts ≡ flat_map g ts
same-flat f g n [] all h = refl
same-flat f g n (t ∷ ts) all h = ap (λ xs. xs ++ flat_map f ts) (h t all.0) ∙ ap (λ ys. g t ++ ys) (same-flat f g n ts all.1 h)

leaves-same : (rest : Rest) (n m : ℕ) (t : SvType) → levels t ≤ n → levels t ≤ m → leaves n rest t ≡ leaves m rest t
leaves-same rest zero m t h g = absurd (let d = deep t in omega (arith, d.levels, h))
leaves-same rest (suc n) zero t h g = absurd (let d = deep t in omega (arith, d.levels, g))
leaves-same rest (suc n) (suc m) t h g =
    let d = deep t in
    let l : d.under ≤ n = omega (arith, d.levels, h) in
    let r : d.under ≤ m = omega (arith, d.levels, g) in
    ap (λ xs. cond (takes_itself rest t) (t ∷ []) xs)
    (same-flat (leaves n rest) (leaves m rest) d.under (types_in t) d.all (λ u k. leaves-same rest n m u (omega (arith, k, l)) (omega (arith, k, r))))

pub leaves-level : (rest : Rest) (t : SvType) → leaves_of rest t ≡ cond (takes_itself rest t) (t ∷ []) (flat_map (leaves_of rest) (types_in t))
leaves-level rest t =
    let d = deep t in
    ap (λ n. leaves n rest t) d.levels
    ∙ ap (λ xs. cond (takes_itself rest t) (t ∷ []) xs) (same-flat (leaves d.under rest) (leaves_of rest) d.under (types_in t) d.all (λ u k. leaves-same rest d.under (levels u) u k (omega arith)))

abbrev given_from : Source → Operand → SvType → Checked Expr
given_from k v u = passed k u v

abbrev spread_to : Source → ℕ → SvType → Checked (List Expr) → Checked Expr
spread_to k tick t m = where_whole m (λ es. Ok (expr_at k tick t (F.Pattern es)))

spread-same : (k : Source) (tick : ℕ) (rest : Rest) (v : Operand) (n m : ℕ) (t : SvType) → levels t ≤ n → levels t ≤ m
    → spread k tick n rest (λ u. passed k u v) t ≡ spread k tick m rest (λ u. passed k u v) t
spread-same k tick rest v zero m t h g = absurd (let d = deep t in omega (arith, d.levels, h))
spread-same k tick rest v (suc n) zero t h g = absurd (let d = deep t in omega (arith, d.levels, g))
spread-same k tick rest v (suc n) (suc m) t h g =
    let d = deep t in
    let l : d.under ≤ n = omega (arith, d.levels, h) in
    let r : d.under ≤ m = omega (arith, d.levels, g) in
    ap (λ xs. cond (takes_itself rest t) (passed k t v) (spread_to k tick t (all_of xs)))
    (same-all (spread k tick n rest (λ u. passed k u v)) (spread k tick m rest (λ u. passed k u v)) d.under (types_in t) d.all
    (λ u j. spread-same k tick rest v n m u (omega (arith, j, l)) (omega (arith, j, r))))

pub spread-level : (k : Source) (tick : ℕ) (rest : Rest) (v : Operand) (t : SvType)
    → spread_of k tick rest v t ≡ cond (takes_itself rest t) (passed k t v) (where_whole (all_of (map (spread_of k tick rest v) (types_in t))) (λ es. Ok (expr_at k tick t (F.Pattern es))))
spread-level k tick rest v t =
    let d = deep t in
    ap (λ n. spread k tick n rest (λ u. passed k u v) t) d.levels
    ∙ ap (λ xs. cond (takes_itself rest t) (passed k t v) (spread_to k tick t (all_of xs)))
    (same-all (spread k tick d.under rest (λ u. passed k u v)) (spread_of k tick rest v) d.under (types_in t) d.all
    (λ u j. spread-same k tick rest v d.under (levels u) u j (omega arith)))

pub ruleset leafing = (leaves-level)

-- Names in a row, one more after the other.
use Rattle.std.proofs.Common.{◌≡◌, ℕ, zero, suc, ℤ, ◌<◌, ◌≤◌, ◌+◌, Bool, true, false, ◌&&◌, not, cond, List, [], ◌∷◌, ◌++◌, map, length, drop, get_or, drop-cons, Option, Some, None, refl, sym, ap, ◌∙◌, subst, append_assoc, length-append, arith}
use Rattle.std.specs.Prelude.{Result, Ok, Err, slice_get, ◌-◌, is_some}
use Rattle.std.proofs.Math.Numerals.{add-one}
use Rattle.b4_core.specs.declared.bit.Bit4.{Bit4}
use Rattle.b4_core.specs.Vectors.{number}
use Rattle.sv_tree.specs.declared.types.EnumName as W
use Rattle.sv_types.specs.declared.statement.Function.{Function}
use Rattle.sv_types.specs.declared.types.SvType.{SvType}
use Rattle.sv_types.specs.Layouts.{width_of}
use Rattle.expr_type.specs.declared.halt.Halt.{Halt}
use Rattle.expr_type.specs.declared.halt.Halt.TheVariants as H
use Rattle.expr_type.specs.Breaks.{Quiet}
use Rattle.expr_type.specs.Names.{Context}
use Rattle.expr_type.specs.Shapes.{sign_of}
use Rattle.expr_type.specs.Types.{NameValue, goes_on_from, name_behind, name_value, name_values, unwritten}
use Rattle.expr_type.specs.Types as T
use Rattle.expr_type.specs.Typings.{Typed, Typing, broken}
use Rattle.typing_fits.proofs.Full.{and-left, and-right, full-bits}
use Rattle.typing_walks.specs.WrittenTypes.{initial_written, names_written}
use Rattle.enum_types.specs.Taken.{Holds}
use Rattle.enum_types.specs.declared.taken.Taken.{Taken}
use Rattle.enum_values.proofs.Unwritten.{value-inside}
use Rattle.enum_values.specs.Values.{IsInBase, last_number, named_by}
use Rattle.typing_scopes.specs.Ahead.{Ahead, AheadQuiet, AheadWhole}
use Rattle.typing_scopes.proofs.Turning.{ahead-alike, ahead-breaks, ahead-end, ahead-quiet, ahead-start, ahead-whole, behind-breaks, behind-end, behind-quiet, behind-whole}
use Rattle.typing_steps.specs.Steps.{StopsBy, TypesTo}
use Rattle.typing_declarations.specs.declared.enum_names.Met.{Met}
use Rattle.typing_declarations.specs.declared.enum_names.Named.{Named}
use Rattle.typing_declarations.specs.Naming.{AllInBase, AreMet, IsMet, NamesAhead, Reaches, as_values, bits_in, last_bits, name_of, so_far, value_by, values_of, with_name}

-- the first name of a row and the rest behind it
module _ (k : Context) (t : SvType) (lost : Bool) (before : List NameValue) (last : Option ℤ) (n : W.EnumName) (ns : List W.EnumName) where
  abbrev first_name : Typing NameValue
  first_name = cond (lost && unwritten n.value) (broken Quiet) (name_value k t before last n)

  abbrev rest_behind : Option NameValue → Typing (List NameValue)
  rest_behind o = name_values (name_behind k t o) t (not (is_some o)) (goes_on_from o before) (T.last_number o) ns

  abbrev put_first : NameValue → List NameValue → List NameValue
  put_first v vs = v ∷ vs

  abbrev row_from : Bool → Typed (List NameValue) → List Function → Type 0
  row_from quiet row fs = Ahead (so_far quiet) (λ (vs : List NameValue). before ++ vs) (name_values k t lost before last (n ∷ ns)) row fs

  whole-name : (quiet : Bool) (a : NameValue) (row : Typed (List NameValue)) (fs gs : List Function) → row_from quiet row fs → TypesTo (Ok a) (first_name fs) gs
      → Ahead (so_far quiet) (λ (vs : List NameValue). (before ++ a ∷ []) ++ vs) (name_values (with_name k t a) t false (before ++ a ∷ []) (Some a.number) ns) row gs
  whole-name false a row fs gs so p =
      ahead-alike (λ (vs : List NameValue). before ++ a ∷ vs) (λ (vs : List NameValue). (before ++ a ∷ []) ++ vs) (rest_behind (Some a)) row gs (λ vs. sym (append_assoc before (a ∷ []) vs))
      (ahead-whole first_name rest_behind put_first (λ (vs : List NameValue). before ++ vs) row fs gs a so p)
  whole-name true a row fs gs so p = behind-whole first_name rest_behind put_first row fs gs a so p

  quiet-name : (quiet : Bool) (row : Typed (List NameValue)) (fs gs : List Function) → row_from quiet row fs → TypesTo {A = NameValue} (Err H.Quiet) (first_name fs) gs
      → AheadQuiet (name_values k t true before None ns) row gs
  quiet-name false row fs gs so p = ahead-quiet first_name rest_behind put_first (λ (vs : List NameValue). before ++ vs) row fs gs so p
  quiet-name true row fs gs so p = behind-quiet first_name rest_behind put_first row fs gs so p

  broken-name : (quiet : Bool) (at rule : ℕ) (row : Typed (List NameValue)) (fs gs : List Function) → row_from quiet row fs → TypesTo {A = NameValue} (Err (H.Breaks at rule)) (first_name fs) gs
      → StopsBy (H.Breaks at rule) row gs
  broken-name false at rule row fs gs so p = ahead-breaks first_name rest_behind put_first (λ (vs : List NameValue). before ++ vs) row fs gs at rule so p gs
  broken-name true at rule row fs gs so p = behind-breaks first_name rest_behind put_first row fs gs at rule so p gs

-- the names that were met and one more
map-more : (t : SvType) (xs ys : List Named) → values_of t (xs ++ ys) ≡ values_of t xs ++ values_of t ys
map-more t [] ys = refl
map-more t (x ∷ xs) ys = ap (λ (vs : List NameValue). value_by t x ∷ vs) (map-more t xs ys)

behind-all : (xs : List Named) (x : Named) → slice_get (xs ++ x ∷ []) (length xs) ≡ Some x
behind-all [] x = refl
behind-all (y ∷ xs) x = behind-all xs x

one-less : (xs : List Named) (x : Named) → length (xs ++ x ∷ []) - 1 ≡ length xs
one-less xs x = (let e = length-append xs (x ∷ []) in omega arith)

last-at : (xs : List Named) (x : Named) → slice_get (xs ++ x ∷ []) (length (xs ++ x ∷ []) - 1) ≡ Some x
last-at xs x = ap (λ (n : ℕ). slice_get (xs ++ x ∷ []) n) (one-less xs x) ∙ behind-all xs x

last-by : (t : SvType) (lost : Bool) (vs xs : List Named) (x : Named) → lost ≡ false → vs ≡ xs ++ x ∷ []
    → last_number t (cond lost None (bits_in (slice_get vs (length vs - 1)))) ≡ Some (number (sign_of t) x.bits)
last-by t lost vs xs x e f =
    ap (λ (b : Bool). last_number t (cond b None (bits_in (slice_get vs (length vs - 1))))) e
    ∙ ap (λ (ws : List Named). last_number t (bits_in (slice_get ws (length ws - 1)))) f
    ∙ ap (λ (o : Option Named). last_number t (bits_in o)) (last-at xs x)

abbrev going : Context → SvType → Bool → Bool → List NameValue → Option ℤ → List W.EnumName → Typed (List NameValue) → List Function → Type 0
going k t quiet lost before last ns row fs = Ahead (so_far quiet) (λ (vs : List NameValue). before ++ vs) (name_values k t lost before last ns) row fs

pub put-reaches : (k j : Context) (t : SvType) (m o : Met) (n : W.EnumName) (bits : List Bit4) (x : Named) (ns : List W.EnumName) (row : Typed (List NameValue)) (fs gs : List Function)
    → x ≡ record { at = n.name; bits = bits } → j ≡ with_name k t (named_by t n.name bits) → o.names ≡ m.names ++ x ∷ [] → o.lost ≡ false → o.quiet ≡ m.quiet
    → TypesTo (Ok (named_by t n.name bits)) (name_of k t m n fs) gs → NamesAhead k t m (n ∷ ns) row fs → NamesAhead j t o ns row gs
put-reaches k j t m o n bits x ns row fs gs is context names lost quiet p so =
    let a = named_by t n.name bits in
    let before = values_of t m.names in
    let one : value_by t x ≡ a = ap (λ (y : Named). value_by t y) is in
    let after : values_of t o.names ≡ before ++ a ∷ [] = ap (values_of t) names ∙ map-more t m.names (x ∷ []) ∙ ap (λ (v : NameValue). before ++ v ∷ []) one in
    let last : last_number t (last_bits o) ≡ Some a.number = last-by t o.lost o.names m.names x lost names ∙ ap (λ (v : NameValue). Some v.number) one in
    let base : going (with_name k t a) t m.quiet false (before ++ a ∷ []) (Some a.number) ns row gs = whole-name k t m.lost before (last_number t (last_bits m)) n ns m.quiet a row fs gs so p in
    subst (λ (c : Context). going c t o.quiet o.lost (values_of t o.names) (last_number t (last_bits o)) ns row gs) (sym context)
    (subst (λ (q : Bool). going (with_name k t a) t q o.lost (values_of t o.names) (last_number t (last_bits o)) ns row gs) (sym quiet)
    (subst (λ (l : Bool). going (with_name k t a) t m.quiet l (values_of t o.names) (last_number t (last_bits o)) ns row gs) (sym lost)
    (subst (λ (vs : List NameValue). going (with_name k t a) t m.quiet false vs (last_number t (last_bits o)) ns row gs) (sym after)
    (subst (λ (l : Option ℤ). going (with_name k t a) t m.quiet false (before ++ a ∷ []) l ns row gs) (sym last) base))))

pub lost-reaches : (k : Context) (t : SvType) (m : Met) (n : W.EnumName) (ns : List W.EnumName) (row : Typed (List NameValue)) (fs gs : List Function) → TypesTo {A = NameValue} (Err H.Quiet) (name_of k t m n fs) gs
    → NamesAhead k t m (n ∷ ns) row fs → NamesAhead k t (record m { lost = true; quiet = true }) ns row gs
lost-reaches k t m n ns row fs gs p so = quiet-name k t m.lost (values_of t m.names) (last_number t (last_bits m)) n ns m.quiet row fs gs so p

pub breaks-reach : (k : Context) (t : SvType) (m : Met) (n : W.EnumName) (ns : List W.EnumName) (at rule : ℕ) (row : Typed (List NameValue)) (fs gs : List Function) → TypesTo {A = NameValue} (Err (H.Breaks at rule)) (name_of k t m n fs) gs
    → NamesAhead k t m (n ∷ ns) row fs → StopsBy (H.Breaks at rule) row gs
breaks-reach k t m n ns at rule row fs gs p so = broken-name k t m.lost (values_of t m.names) (last_number t (last_bits m)) n ns m.quiet at rule row fs gs so p

-- before the row and behind it
start-by : (j k : Context) (t : SvType) (quiet lost : Bool) (vs : List Named) (ns : List W.EnumName) (fs : List Function) → j ≡ k → vs ≡ [] → lost ≡ false → quiet ≡ false
    → going j t quiet lost (values_of t vs) (last_number t (cond lost None (bits_in (slice_get vs (length vs - 1))))) ns (name_values k t false [] None ns fs) fs
start-by j k t quiet lost vs ns fs e f g h =
    subst (λ (c : Context). going c t quiet lost (values_of t vs) (last_number t (cond lost None (bits_in (slice_get vs (length vs - 1))))) ns (name_values k t false [] None ns fs) fs) (sym e)
    (subst (λ (q : Bool). going k t q lost (values_of t vs) (last_number t (cond lost None (bits_in (slice_get vs (length vs - 1))))) ns (name_values k t false [] None ns fs) fs) (sym h)
    (subst (λ (l : Bool). going k t false l (values_of t vs) (last_number t (cond l None (bits_in (slice_get vs (length vs - 1))))) ns (name_values k t false [] None ns fs) fs) (sym g)
    (subst (λ (ws : List Named). going k t false false (values_of t ws) (last_number t (bits_in (slice_get ws (length ws - 1)))) ns (name_values k t false [] None ns fs) fs) (sym f)
    (ahead-start (name_values k t false [] None ns) fs))))

pub names-start : (j k : Context) (t : SvType) (m : Met) (ns : List W.EnumName) (fs : List Function) → j ≡ k → m.names ≡ [] → m.lost ≡ false → m.quiet ≡ false
    → NamesAhead j t m ns (name_values k t false [] None ns fs) fs
names-start j k t m ns fs e f g h = start-by j k t m.quiet m.lost m.names ns fs e f g h

append-none : (vs : List NameValue) → vs ++ [] ≡ vs
append-none [] = refl
append-none (v ∷ vs) = ap (λ (ws : List NameValue). v ∷ ws) (append-none vs)

end-by : (k : Context) (t : SvType) (quiet : Bool) (m : Met) (row : Typed (List NameValue)) (fs : List Function) → quiet ≡ false → going k t quiet m.lost (values_of t m.names) (last_number t (last_bits m)) [] row fs
    → TypesTo (Ok (values_of t m.names)) row fs
end-by k t false m row fs e so =
    subst (λ (vs : List NameValue). TypesTo (Ok vs) row fs) (append-none (values_of t m.names)) (ahead-end [] (λ (vs : List NameValue). values_of t m.names ++ vs) row fs so)
end-by k t true m row fs e so = absurd (cc)

quiet-by : (k : Context) (t : SvType) (quiet : Bool) (m : Met) (row : Typed (List NameValue)) (fs : List Function) → quiet ≡ true → going k t quiet m.lost (values_of t m.names) (last_number t (last_bits m)) [] row fs
    → TypesTo {A = List NameValue} (Err H.Quiet) row fs
quiet-by k t true m row fs e so = behind-end [] row fs so
quiet-by k t false m row fs e so = absurd (cc)

none-left : (ns : List W.EnumName) (i : ℕ) → length ns ≤ i → drop i ns ≡ []
none-left [] zero h = refl
none-left [] (suc i) h = refl
none-left (n ∷ ns) zero h = absurd (omega arith)
none-left (n ∷ ns) (suc i) h = none-left ns i (omega arith)

module _ (k : Context) (t : SvType) (m : Met) (ns : List W.EnumName) (i : ℕ) (row : Typed (List NameValue)) (fs : List Function) (h : length ns ≤ i) (so : NamesAhead k t m (drop i ns) row fs) where
  at-end : NamesAhead k t m [] row fs
  at-end = subst (λ (xs : List W.EnumName). NamesAhead k t m xs row fs) (none-left ns i h) so

  pub names-end : m.quiet ≡ false → TypesTo (as_values t (Ok m.names)) row fs
  names-end e = end-by k t m.quiet m row fs e at-end

  pub names-quiet : m.quiet ≡ true → TypesTo (as_values t (Err H.Quiet)) row fs
  names-quiet e = quiet-by k t m.quiet m row fs e at-end

-- the name at a place
pub from-place : (ns : List W.EnumName) (i : ℕ) (n d : W.EnumName) → i < length ns → n ≡ get_or ns i d → drop i ns ≡ n ∷ drop (i + 1) ns
from-place ns i n d h is =
    drop-cons ns i d h ∙ ap (λ (x : W.EnumName). x ∷ drop (suc i) ns) (sym is) ∙ ap (λ (j : ℕ). n ∷ drop j ns) (sym (add-one i))

pub name-written : (ns : List W.EnumName) (i : ℕ) (n d : W.EnumName) → i < length ns → n ≡ get_or ns i d → names_written ns ≡ true → initial_written n.value ≡ true
name-written [] i n d h is w = absurd (omega arith)
name-written (m ∷ ns) zero n d h is w = ap (λ (x : W.EnumName). initial_written x.value) is ∙ and-left (initial_written m.value) (names_written ns) w
name-written (m ∷ ns) (suc i) n d h is w = name-written ns i n d (omega arith) is (and-right (initial_written m.value) (names_written ns) w)

-- what was met stays in order
pub nothing-met : (m : Met) → m.names ≡ [] → ((t : SvType) → Holds t m.taken []) → (t : SvType) → IsMet t m
nothing-met m none held t = record {
  held = subst (λ (vs : List NameValue). Holds t m.taken vs) (sym (ap (values_of t) none)) (held t);
  names = record { bits = subst (λ (vs : List Named). AllInBase t vs) (sym none) tt; short = λ long. none };
}

in-base-more : (t : SvType) (vs : List Named) (v : Named) → AllInBase t vs → IsInBase t v.bits → AllInBase t (vs ++ v ∷ [])
in-base-more t [] v a b = (b, tt)
in-base-more t (w ∷ vs) v a b = (a.0, in-base-more t vs v a.1 b)

pub met-more : (t : SvType) (m o : Met) (x : Named) → o.names ≡ m.names ++ x ∷ [] → IsMet t m → width_of t ≤ 65536 → IsInBase t x.bits
    → Holds t o.taken (values_of t m.names ++ value_by t x ∷ []) → IsMet t o
met-more t m o x names met short bits held = record {
  held = subst (λ (vs : List NameValue). Holds t o.taken vs) (sym (ap (values_of t) names ∙ map-more t m.names (x ∷ []))) held;
  names = record {
    bits = subst (λ (vs : List Named). AllInBase t vs) (sym names) (in-base-more t m.names x met.names.bits bits);
    short = λ long. absurd (omega arith);
  };
}

pub ruleset meeting = (nothing-met)

pub ruleset putting = (met-more, value-inside)

pub ruleset reaching = (lost-reaches, breaks-reach, full-bits)

pub ruleset ending = (names-start, names-end, names-quiet)

-- Members, one text after the other.
use Rattle.std.proofs.Common.{◌≡◌, ℕ, zero, suc, ◌<◌, ◌≤◌, ◌+◌, Bool, true, false, List, [], ◌∷◌, ◌++◌, map, length, drop, get_or, drop-cons, Option, Some, None, refl, sym, ap, ◌∙◌, subst, append_assoc, arith}
use Rattle.std.specs.Prelude.{Result, Ok, Err}
use Rattle.std.proofs.Math.Numerals.{add-one}
use Rattle.sv_tree.specs.declared.types.Aggregate.{Aggregate}
use Rattle.sv_tree.specs.declared.types.DimensionedName.{DimensionedName}
use Rattle.sv_tree.specs.declared.types.Packing.{Packing}
use Rattle.sv_types.specs.declared.frame.ParamValue.{ParamValue}
use Rattle.sv_types.specs.declared.statement.Function.{Function}
use Rattle.sv_types.specs.declared.types.SvType.{SvType}
use Rattle.expr_type.specs.declared.halt.Halt.{Halt}
use Rattle.expr_type.specs.declared.halt.Halt.TheVariants as H
use Rattle.expr_type.specs.Answers.{Gives}
use Rattle.expr_type.specs.Names.{Context, Source, with_values}
use Rattle.expr_type.specs.Types.{Field, Fields, FieldsMeaning, TypeFound, aggregate, all_fields, names_behind}
use Rattle.expr_type.specs.Typings.{Typed, Typing, all, checked, rule, whole}
use Rattle.typing_scopes.specs.Ahead.{Ahead, AheadQuiet, mapped}
use Rattle.typing_scopes.proofs.Turning.{ahead-alike, ahead-breaks, ahead-end, ahead-quiet, ahead-start, ahead-whole, behind-breaks, behind-end, behind-quiet, behind-whole, broken-turn, quiet-turn, whole-turn}
use Rattle.typing_steps.specs.Steps.{StopsBy, TypesTo}
use Rattle.typing_steps.proofs.Combining.{checked-fine, checked-stops, rule-types}
use Rattle.typing_values.specs.Values.{behind}
use Rattle.typing_declarations.specs.Naming.{so_far}
use Rattle.typing_declarations.specs.declared.members.Made.{Made}
use Rattle.typing_declarations.specs.Texts.{FieldsAhead, field_found, fields_by, member_by, put_fields, struct_by}

-- members of one type
abbrev with_names : TypeFound → List Field → Fields
with_names f fs = record { fields = fs; names = f.names }

module _ (k : Context) (inside : Bool) (x : Typing TypeFound) (ns : List DimensionedName) (fs gs hs : List Function) where
  abbrev fields_behind : Option TypeFound → Typing (List Field)
  fields_behind o = all (map (field_found k inside o) ns)

  -- the names that the type declares stand for their values in the dimensions
  abbrev behind_type : TypeFound → Typing (List Field)
  behind_type f = fields_by (with_values f.names k) inside (Some f.of) ns

  whole-by : (f : TypeFound) (r : Result (List Field) Halt) → TypesTo (Ok f) (x fs) gs → TypesTo r (behind_type f gs) hs → TypesTo (mapped (with_names f) r) (member_by k inside x ns fs) hs
  whole-by f r p q = whole-turn x fields_behind with_names f r fs gs hs p q

  pub member-whole : (f : TypeFound) (ls : List Field) → TypesTo (Ok f) (x fs) gs → TypesTo (Ok ls) (behind_type f gs) hs → TypesTo (Ok (with_names f ls)) (member_by k inside x ns fs) hs
  member-whole f ls p q = whole-by f (Ok ls) p q

  pub member-stops : (f : TypeFound) (h : Halt) → TypesTo (Ok f) (x fs) gs → TypesTo {A = List Field} (Err h) (behind_type f gs) hs → TypesTo {A = Fields} (Err h) (member_by k inside x ns fs) hs
  member-stops f h p q = whole-by f (Err h) p q

  -- in a scope behind the names that the type declares
  module _ (t : SvType) (vs : List ParamValue) (found : TypeFound) (inner : Context) (there : inner ≡ with_values vs k) (view : record { of = t; names = vs } ≡ found) (p : TypesTo (Ok found) (x fs) gs) where
    seen : TypesTo (Ok (record { of = t; names = vs })) (x fs) gs
    seen = subst (λ (f : TypeFound). TypesTo (Ok f) (x fs) gs) (sym view) p

    behind-names : (r : Result (List Field) Halt) → TypesTo r (fields_by inner inside (Some t) ns gs) hs → TypesTo r (behind_type (record { of = t; names = vs }) gs) hs
    behind-names r q = subst (λ (c : Context). TypesTo r (fields_by c inside (Some t) ns gs) hs) there q

    pub scope-stops : (h : Halt) → TypesTo {A = List Field} (Err h) (fields_by inner inside (Some t) ns gs) hs → TypesTo {A = Fields} (Err h) (member_by k inside x ns fs) hs
    scope-stops h q = member-stops (record { of = t; names = vs }) h seen (behind-names (Err h) q)

    pub scope-whole : (ls : List Field) (us : List ParamValue) → us ≡ vs → TypesTo (Ok ls) (fields_by inner inside (Some t) ns gs) hs → TypesTo (Ok (record { fields = ls; names = us })) (member_by k inside x ns fs) hs
    scope-whole ls us e q =
        subst (λ (ws : List ParamValue). TypesTo (Ok (record { fields = ls; names = ws })) (member_by k inside x ns fs) hs) (sym e)
        (member-whole (record { of = t; names = vs }) ls seen (behind-names (Ok ls) q))

  quiet-by : (r : Result (List Field) Halt) → TypesTo {A = TypeFound} (Err H.Quiet) (x fs) gs → TypesTo r (fields_by k inside None ns gs) hs → TypesTo {A = Fields} (Err (behind r)) (member_by k inside x ns fs) hs
  quiet-by (Ok ls) p q = quiet-turn x fields_behind with_names (Ok ls) fs gs hs p q
  quiet-by (Err h) p q = quiet-turn x fields_behind with_names (Err h) fs gs hs p q

  pub member-quiet : (o : Result TypeFound Halt) (r : Result (List Field) Halt) (h : Halt) → o ≡ Err H.Quiet → h ≡ behind r → TypesTo o (x fs) gs → TypesTo r (fields_by k inside None ns gs) hs
      → TypesTo {A = Fields} (Err h) (member_by k inside x ns fs) hs
  member-quiet o r h is e p q =
      subst (λ (g : Halt). TypesTo {A = Fields} (Err g) (member_by k inside x ns fs) hs) (sym e) (quiet-by r (subst (λ (y : Result TypeFound Halt). TypesTo y (x fs) gs) is p) q)

  pub member-breaks : (o : Result TypeFound Halt) (at n : ℕ) → o ≡ Err (H.Breaks at n) → TypesTo o (x fs) gs → TypesTo {A = Fields} (Err (H.Breaks at n)) (member_by k inside x ns fs) hs
  member-breaks o at n is p = broken-turn x fields_behind with_names at n fs gs hs (subst (λ (y : Result TypeFound Halt). TypesTo y (x fs) gs) is p)

-- the first members of a row and the rest behind them
module _ (k : Context) (inside : Bool) (made : List Field) (vs : List ParamValue) (m : FieldsMeaning) (ms : List FieldsMeaning) where
  abbrev rest_behind : Option Fields → Typing Fields
  rest_behind o = all_fields (names_behind k o) inside ms

  abbrev join : Fields → Fields → Fields
  join f g = record { fields = f.fields ++ g.fields; names = g.names ++ f.names }

  abbrev row_from : Bool → Typed Fields → List Function → Type 0
  row_from quiet row fs = Ahead (so_far quiet) (put_fields made vs) (all_fields k inside (m ∷ ms)) row fs

  same-put : (f g : Fields) → put_fields made vs (join f g) ≡ put_fields (made ++ f.fields) (f.names ++ vs) g
  same-put f g =
      ap (λ (ls : List Field). the_fields ls ((g.names ++ f.names) ++ vs)) (sym (append_assoc made f.fields g.fields))
      ∙ ap (λ (ws : List ParamValue). the_fields ((made ++ f.fields) ++ g.fields) ws) (append_assoc g.names f.names vs)
    where
      the_fields : List Field → List ParamValue → Fields
      the_fields ls ws = record { fields = ls; names = ws }

  whole-next : (quiet : Bool) (f : Fields) (row : Typed Fields) (fs gs : List Function) → row_from quiet row fs → TypesTo (Ok f) (m k inside fs) gs
      → Ahead (so_far quiet) (put_fields (made ++ f.fields) (f.names ++ vs)) (all_fields (with_values f.names k) inside ms) row gs
  whole-next false f row fs gs so p =
      ahead-alike (λ (g : Fields). put_fields made vs (join f g)) (put_fields (made ++ f.fields) (f.names ++ vs)) (rest_behind (Some f)) row gs (same-put f)
      (ahead-whole (m k inside) rest_behind join (put_fields made vs) row fs gs f so p)
  whole-next true f row fs gs so p = behind-whole (m k inside) rest_behind join row fs gs f so p

  quiet-next : (quiet : Bool) (row : Typed Fields) (fs gs : List Function) → row_from quiet row fs → TypesTo {A = Fields} (Err H.Quiet) (m k inside fs) gs → AheadQuiet (all_fields k inside ms) row gs
  quiet-next false row fs gs so p = ahead-quiet (m k inside) rest_behind join (put_fields made vs) row fs gs so p
  quiet-next true row fs gs so p = behind-quiet (m k inside) rest_behind join row fs gs so p

  broken-next : (quiet : Bool) (at n : ℕ) (row : Typed Fields) (fs gs : List Function) → row_from quiet row fs → TypesTo {A = Fields} (Err (H.Breaks at n)) (m k inside fs) gs → StopsBy (H.Breaks at n) row gs
  broken-next false at n row fs gs so p = ahead-breaks (m k inside) rest_behind join (put_fields made vs) row fs gs at n so p gs
  broken-next true at n row fs gs so p = behind-breaks (m k inside) rest_behind join row fs gs at n so p gs

abbrev going : Context → Bool → Bool → List Field → List ParamValue → List FieldsMeaning → Typed Fields → List Function → Type 0
going k inside quiet made vs ms row fs = Ahead (so_far quiet) (put_fields made vs) (all_fields k inside ms) row fs

pub put-reaches : (k j : Context) (inside : Bool) (made after : Made) (vs ws : List ParamValue) (m : FieldsMeaning) (ms : List FieldsMeaning) (o : Result Fields Halt) (f : Fields) (row : Typed Fields) (fs gs : List Function)
    → o ≡ Ok f → j ≡ with_values f.names k → ws ≡ f.names ++ vs → after.fields ≡ made.fields ++ f.fields → after.quiet ≡ made.quiet
    → TypesTo o (m k inside fs) gs → FieldsAhead k inside made vs (m ∷ ms) row fs → FieldsAhead j inside after ws ms row gs
put-reaches k j inside made after vs ws m ms o f row fs gs is context own fields quiet p so =
    let base : going (with_values f.names k) inside made.quiet (made.fields ++ f.fields) (f.names ++ vs) ms row gs =
    whole-next k inside made.fields vs m ms made.quiet f row fs gs so (subst (λ (y : Result Fields Halt). TypesTo y (m k inside fs) gs) is p) in
    subst (λ (c : Context). going c inside after.quiet after.fields ws ms row gs) (sym context)
    (subst (λ (q : Bool). going (with_values f.names k) inside q after.fields ws ms row gs) (sym quiet)
    (subst (λ (ls : List Field). going (with_values f.names k) inside made.quiet ls ws ms row gs) (sym fields)
    (subst (λ (us : List ParamValue). going (with_values f.names k) inside made.quiet (made.fields ++ f.fields) us ms row gs) (sym own) base)))

pub lost-reaches : (k : Context) (inside : Bool) (made : Made) (vs : List ParamValue) (m : FieldsMeaning) (ms : List FieldsMeaning) (o : Result Fields Halt) (row : Typed Fields) (fs gs : List Function)
    → o ≡ Err H.Quiet → TypesTo o (m k inside fs) gs → FieldsAhead k inside made vs (m ∷ ms) row fs → FieldsAhead k inside (record made { quiet = true }) vs ms row gs
lost-reaches k inside made vs m ms o row fs gs is p so = quiet-next k inside made.fields vs m ms made.quiet row fs gs so (subst (λ (y : Result Fields Halt). TypesTo y (m k inside fs) gs) is p)

pub breaks-reach : (k : Context) (inside : Bool) (made : Made) (vs : List ParamValue) (m : FieldsMeaning) (ms : List FieldsMeaning) (o : Result Fields Halt) (at n : ℕ) (row : Typed Fields) (fs gs : List Function)
    → o ≡ Err (H.Breaks at n) → TypesTo o (m k inside fs) gs → FieldsAhead k inside made vs (m ∷ ms) row fs → StopsBy (H.Breaks at n) row gs
breaks-reach k inside made vs m ms o at n row fs gs is p so =
    broken-next k inside made.fields vs m ms made.quiet at n row fs gs so (subst (λ (y : Result Fields Halt). TypesTo y (m k inside fs) gs) is p)

-- before the row and behind it
abbrev found_of : List Field → List ParamValue → Fields
found_of ls vs = record { fields = ls; names = vs }

values-none : (ws : List ParamValue) → ws ++ [] ≡ ws
values-none [] = refl
values-none (w ∷ ws) = ap (λ (us : List ParamValue). w ∷ us) (values-none ws)

nothing-put : (g : Fields) → g ≡ put_fields [] [] g
nothing-put g = ap (λ (ws : List ParamValue). found_of g.fields ws) (sym (values-none g.names))

start-by : (j k : Context) (inside quiet : Bool) (ls : List Field) (vs : List ParamValue) (ms : List FieldsMeaning) (fs : List Function) → j ≡ k → ls ≡ [] → quiet ≡ false → vs ≡ []
    → going j inside quiet ls vs ms (all_fields k inside ms fs) fs
start-by j k inside quiet ls vs ms fs e f g h =
    subst (λ (c : Context). going c inside quiet ls vs ms (all_fields k inside ms fs) fs) (sym e)
    (subst (λ (q : Bool). going k inside q ls vs ms (all_fields k inside ms fs) fs) (sym g)
    (subst (λ (xs : List Field). going k inside false xs vs ms (all_fields k inside ms fs) fs) (sym f)
    (subst (λ (ws : List ParamValue). going k inside false [] ws ms (all_fields k inside ms fs) fs) (sym h)
    (ahead-alike (λ (g : Fields). g) (put_fields [] []) (all_fields k inside ms) (all_fields k inside ms fs) fs nothing-put (ahead-start (all_fields k inside ms) fs)))))

pub fields-start : (j k : Context) (inside : Bool) (made : Made) (vs : List ParamValue) (ms : List FieldsMeaning) (fs : List Function) → j ≡ k → made ≡ record { fields = []; quiet = false } → vs ≡ []
    → FieldsAhead j inside made vs ms (all_fields k inside ms fs) fs
fields-start j k inside made vs ms fs e f g = start-by j k inside made.quiet made.fields vs ms fs e (ap (λ (x : Made). x.fields) f) (ap (λ (x : Made). x.quiet) f) g

fields-none : (ls : List Field) → ls ++ [] ≡ ls
fields-none [] = refl
fields-none (l ∷ ls) = ap (λ (xs : List Field). l ∷ xs) (fields-none ls)

end-by : (k : Context) (inside quiet : Bool) (ls : List Field) (vs : List ParamValue) (row : Typed Fields) (fs : List Function) → quiet ≡ false → going k inside quiet ls vs [] row fs → TypesTo (Ok (found_of ls vs)) row fs
end-by k inside false ls vs row fs e so =
    subst (λ (xs : List Field). TypesTo (Ok (found_of xs vs)) row fs) (fields-none ls) (ahead-end (found_of [] []) (put_fields ls vs) row fs so)
end-by k inside true ls vs row fs e so = absurd (cc)

quiet-end : (k : Context) (inside quiet : Bool) (ls : List Field) (vs : List ParamValue) (row : Typed Fields) (fs : List Function) → quiet ≡ true → going k inside quiet ls vs [] row fs → TypesTo {A = Fields} (Err H.Quiet) row fs
quiet-end k inside true ls vs row fs e so = behind-end (found_of [] []) row fs so
quiet-end k inside false ls vs row fs e so = absurd (cc)

module _ {M : Type 0} (of : M → FieldsMeaning) where
  none-left : (ms : List M) (i : ℕ) → length ms ≤ i → map of (drop i ms) ≡ []
  none-left [] i h = none-of i
    where
      none-of : (j : ℕ) → map of (drop j []) ≡ []
      none-of zero = refl
      none-of (suc j) = refl
  none-left (m ∷ ms) zero h = absurd (omega arith)
  none-left (m ∷ ms) (suc i) h = none-left ms i (omega arith)

  pub from-place : (ms : List M) (i : ℕ) (m d : M) → i < length ms → m ≡ get_or ms i d → map of (drop i ms) ≡ of m ∷ map of (drop (i + 1) ms)
  from-place ms i m d h is =
      ap (map of) (drop-cons ms i d h ∙ ap (λ (x : M). x ∷ drop (suc i) ms) (sym is) ∙ ap (λ (j : ℕ). m ∷ drop j ms) (sym (add-one i)))

  module _ (k : Context) (inside : Bool) (made : Made) (vs : List ParamValue) (ms : List M) (i : ℕ) (row : Typed Fields) (fs : List Function) (h : length ms ≤ i) (so : FieldsAhead k inside made vs (map of (drop i ms)) row fs) where
    at-end : FieldsAhead k inside made vs [] row fs
    at-end = subst (λ (xs : List FieldsMeaning). FieldsAhead k inside made vs xs row fs) (none-left ms i h) so

    pub fields-end : made.quiet ≡ false → TypesTo (Ok (found_of made.fields vs)) row fs
    fields-end e = end-by k inside made.quiet made.fields vs row fs e at-end

    pub fields-quiet : made.quiet ≡ true → TypesTo {A = Fields} (Err H.Quiet) row fs
    fields-quiet e = quiet-end k inside made.quiet made.fields vs row fs e at-end

-- a struct or a union
abbrev typed_struct : Source → Aggregate → Option Packing → Fields → Typing TypeFound
typed_struct k of packing f = checked (rule (aggregate k of packing f.fields)) (λ t. whole (record { of = t; names = f.names }))

pub struct-stops : (k : Source) (of : Aggregate) (packing : Option Packing) (x : Typing Fields) (o : Result Fields Halt) (h : Halt) (fs gs : List Function) → o ≡ Err h → TypesTo o (x fs) gs
    → TypesTo {A = TypeFound} (Err h) (struct_by k of packing x fs) gs
struct-stops k of packing x o h fs gs is p = checked-stops x (typed_struct k of packing) fs gs h (subst (λ (y : Result Fields Halt). TypesTo y (x fs) gs) is p)

pub struct-types : (k : Source) (of : Aggregate) (packing : Option Packing) (x : Typing Fields) (o : Result Fields Halt) (f : Fields) (t : SvType) (fs gs : List Function) → o ≡ Ok f → TypesTo o (x fs) gs
    → Gives (Ok t) (aggregate k of packing f.fields) → TypesTo (Ok (record { of = t; names = f.names })) (struct_by k of packing x fs) gs
struct-types k of packing x o f t fs gs is p g =
    checked-fine x (typed_struct k of packing) fs gs gs f (Ok (record { of = t; names = f.names })) (subst (λ (y : Result Fields Halt). TypesTo y (x fs) gs) is p)
    (checked-fine (rule (aggregate k of packing f.fields)) (λ t. whole (record { of = t; names = f.names })) gs gs gs t (Ok (record { of = t; names = f.names })) (rule-types (Ok t) (aggregate k of packing f.fields) gs g) refl)

pub struct-breaks : (k : Source) (of : Aggregate) (packing : Option Packing) (x : Typing Fields) (o : Result Fields Halt) (f : Fields) (h : Halt) (fs gs : List Function) → o ≡ Ok f → TypesTo o (x fs) gs
    → Gives {A = SvType} (Err h) (aggregate k of packing f.fields) → TypesTo {A = TypeFound} (Err h) (struct_by k of packing x fs) gs
struct-breaks k of packing x o f h fs gs is p g =
    checked-fine x (typed_struct k of packing) fs gs gs f (Err h) (subst (λ (y : Result Fields Halt). TypesTo y (x fs) gs) is p)
    (checked-stops (rule (aggregate k of packing f.fields)) (λ t. whole (record { of = t; names = f.names })) gs gs h (rule-types {A = SvType} (Err h) (aggregate k of packing f.fields) gs g))

pub ruleset members = (member-whole, member-stops, member-quiet, member-breaks)

pub ruleset structures = (struct-stops, struct-types, struct-breaks)

pub ruleset joining = (lost-reaches, breaks-reach)

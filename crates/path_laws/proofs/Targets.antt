-- Targets of a text are typed paths, concatenations of such, and streams of these.
use Rattle.std.proofs.Common.{◌≡◌, ℕ, ◌%◌, Bool, true, false, ◌&&◌, ◌==◌, not, List, [], ◌∷◌, map, Option, ap, sym, subst}
use Rattle.std.specs.Prelude.{Ok}
use Rattle.std.specs.List.{list_any}
use Rattle.sv_tree.specs.declared.expressions.SliceSize.{SliceSize}
use Rattle.sv_tree.specs.declared.expressions.Select.{Select}
use Rattle.sv_tree.specs.declared.operators.StreamOperator.{StreamOperator}
use Rattle.sv_tree.specs.declared.statements.Lvalue.{Lvalue, Lvalue-F, roll-Lvalue, map-Lvalue, ind-Lvalue, fold-roll-Lvalue}
use Rattle.sv_types.specs.declared.expression.Expr.{Expr}
use Rattle.sv_types.specs.declared.expression.Form.TheVariants as F
use Rattle.expr_type.specs.declared.operand.Valued.{Valued}
use Rattle.expr_type.specs.Typings.{Checked, whole, rule, checked, all, where_whole}
use Rattle.expr_type.specs.Shapes.{is_enum, is_unpacked, vector}
use Rattle.expr_type.specs.Names.{Context, Source, position, thing}
use Rattle.expr_type.specs.Operators.{by_itself, concat_of, exprs, all_bits}
use Rattle.expr_type.specs.Forms.{reverses, stream_of}
use Rattle.expr_type.specs.Expressions.{select_meaning}
use Rattle.expr_type.specs.Targets.{Target, ToPath, ToParts, ToStream, TargetPart, TargetMeaning, whole_of, is_target_part, joined_target, stream_target, simple_name, slice_or_one, target_step, target, parts_of}
use Rattle.expr_type.specs.TargetNames.{named_target}
use Rattle.typing_fits.proofs.Contexts.{refused-then, whole-part}
use Rattle.typing_fits.proofs.Operators.{ok-is}
use Rattle.typing_fits.proofs.Selects.{long-then}
use Rattle.typed_paths.specs.Typed.{IsTyped}
use Rattle.path_laws.specs.Names.{PlainNames}
use Rattle.path_laws.specs.Targets.{AreTargets, none, path, concatenation, stream}
use Rattle.path_laws.proofs.Typings.{Gives, AllGive, Each, Anything, anything, whole-gives, rule-gives, checked-gives, both-gives, all-gives}
use Rattle.path_laws.proofs.Paths.{target-gives, typed-of}

-- where streams may stand, anything may
raised : (streams : Bool) (es : List Expr) → AreTargets streams es → AreTargets true es
raised streams es (none s) = none true
raised streams es (path s e ds is rest) = path true e ds is (raised s ds rest)
raised streams es (concatenation s e parts ds is these rest) = concatenation true e parts ds is these (raised s ds rest)
raised streams es (stream e reversed n parts ds is these rest) = stream e reversed n parts ds is these rest

-- what stands before others
abbrev pub Goes : Bool → Expr → Type 0
Goes streams e = (es : List Expr) → AreTargets streams es → AreTargets streams (e ∷ es)

abbrev pub GoesValued : Bool → Valued → Type 0
GoesValued streams v = Goes streams v.expr

pub joined : (streams : Bool) (vs : List Valued) → Each (GoesValued streams) vs → AreTargets streams (exprs vs)
joined streams [] h = none streams
joined streams (v ∷ vs) h = h.0 (exprs vs) (joined streams vs h.1)

-- targets
pub record IsConcat (e : Expr) (ds : List Expr) : Type 0 where
  pub is : e.form ≡ F.Concat ds
  pub parts : AreTargets false ds

pub record IsStream (e : Expr) : Type 0 where
  pub reversed : Bool
  pub size : ℕ
  pub of : List Expr
  pub is : e.form ≡ F.Stream reversed size of
  pub parts : AreTargets true of

abbrev pub IsTypedTarget : Target → Type 0
IsTypedTarget (ToPath v) = IsTyped v.expr
IsTypedTarget (ToParts v vs e) = IsConcat v.expr (exprs vs)
IsTypedTarget (ToStream v) = IsStream v.expr

pub path-goes : (streams : Bool) (e : Expr) → IsTyped e → Goes streams e
path-goes streams e is es rest = path streams e es is rest

pub concat-goes : (streams : Bool) (e : Expr) (ds : List Expr) → IsConcat e ds → Goes streams e
concat-goes streams e ds c es rest = concatenation streams e ds es c.is c.parts rest

whole-goes : (t : Target) → IsTypedTarget t → GoesValued true (whole_of t)
whole-goes (ToPath v) h = path-goes true v.expr h
whole-goes (ToParts v vs e) h = concat-goes true v.expr (exprs vs) h
whole-goes (ToStream v) h = λ es rest. stream v.expr h.reversed h.size h.of es h.is h.parts rest

pub parts-typed : (t : Target) → IsTypedTarget t → AreTargets true (parts_of t)
parts-typed (ToPath v) h = path true v.expr [] h (none true)
parts-typed (ToParts v vs e) h = raised false (exprs vs) h.parts
parts-typed (ToStream v) h = stream v.expr h.reversed h.size h.of [] h.is h.parts (none true)

-- parts of a concatenation
abbrev PartGoes : TargetPart → Type 0
PartGoes p = GoesValued false p.of

abbrev a_part : TargetPart → Checked TargetPart
a_part p = Ok p

as-part : (p q : TargetPart) → a_part p ≡ Ok q → PartGoes p → PartGoes q
as-part p q h g = let is : p ≡ q = cc in subst PartGoes is g

part-goes : (k : Context) (t : Target) (p : TargetPart) → is_target_part k t ≡ Ok p → IsTypedTarget t → PartGoes p
part-goes k (ToPath v) p h typed =
    let q : TargetPart = record { of = v; has_enum = is_enum v.expr.of } in
    as-part q p (refused-then (is_unpacked v.expr.of) (position k.source v.first) 508 (Ok q) p h) (path-goes false v.expr typed)
part-goes k (ToParts v vs e) p h typed = as-part (record { of = v; has_enum = e }) p h (concat-goes false v.expr (exprs vs) typed)
part-goes k (ToStream v) p h typed = absurd (cc)

abbrev values_of : List TargetPart → List Valued
values_of ps = map (λ (p : TargetPart). p.of) ps

each-goes : (ps : List TargetPart) → Each PartGoes ps → Each (GoesValued false) (values_of ps)
each-goes [] h = tt
each-goes (p ∷ ps) h = (h.0, each-goes ps h.1)

abbrev a_target : Target → Checked Target
a_target t = Ok t

as-target : (t u : Target) → a_target t ≡ Ok u → IsTypedTarget t → IsTypedTarget u
as-target t u h typed = let is : t ≡ u = cc in subst IsTypedTarget is typed

pub concat-is : (k : Source) (opening : ℕ) (es : List Expr) (v : Valued) → concat_of k opening es ≡ Ok v → v.expr.form ≡ F.Concat es
concat-is k opening es v h =
    let a = by_itself k opening (vector (all_bits es) false) (F.Concat es) in
    ap (λ (x : Valued). x.expr.form) (sym (ok-is a v (long-then k opening (all_bits es) (Ok a) v h)))

joined-gives : (k : Context) (opening : ℕ) (ps : List TargetPart) (t : Target) → joined_target k opening ps ≡ Ok t → Each PartGoes ps → IsTypedTarget t
joined-gives k opening ps t h goes =
    let vs = values_of ps in
    let has = list_any (λ (p : TargetPart). p.has_enum) ps in
    let w = whole-part (concat_of k.source opening (exprs vs)) (λ v. a_target (ToParts v vs has)) t h in
    as-target (ToParts w.part vs has) t w.made (record { is = concat-is k.source opening (exprs vs) w.part w.is; parts = joined false vs (each-goes ps goes) })

stream-is : (k : Source) (opening : ℕ) (reversed : Bool) (n : ℕ) (es : List Expr) (v : Valued) → stream_of k opening reversed n es ≡ Ok v → v.expr.form ≡ F.Stream reversed n es
stream-is k opening reversed n es v h =
    let a = by_itself k opening (vector (all_bits es) false) (F.Stream reversed n es) in
    ap (λ (x : Valued). x.expr.form) (sym (ok-is a v (long-then k opening (all_bits es) (Ok a) v h)))

stream-gives : (k : Context) (opening : ℕ) (reversed : Bool) (n : ℕ) (vs : List Valued) (t : Target) → stream_target k opening reversed n vs ≡ Ok t → Each (GoesValued true) vs → IsTypedTarget t
stream-gives k opening reversed n vs t h goes =
    let made = where_whole (stream_of k.source opening reversed n (exprs vs)) (λ v. a_target (ToStream v)) in
    let rest = refused-then (reversed && not (all_bits (exprs vs) % n == 0)) (position k.source opening) 511 made t h in
    let w = whole-part (stream_of k.source opening reversed n (exprs vs)) (λ v. a_target (ToStream v)) t rest in
    as-target (ToStream w.part) t w.made (record { reversed = reversed; size = n; of = exprs vs; is = stream-is k.source opening reversed n (exprs vs) w.part w.is; parts = joined true vs goes })

-- targets as they are written
abbrev OfMeaning : TargetMeaning → Type 0
OfMeaning m = (k : Context) (inside : Bool) → PlainNames k → Gives IsTypedTarget (m k inside)

abbrev AllMeanings : List TargetMeaning → Type 0
AllMeanings [] = Unit {0}
AllMeanings (m ∷ ms) = OfMeaning m × AllMeanings ms

abbrev TypedValued : Valued → Type 0
TypedValued v = IsTyped v.expr

name-form : (name : ℕ) (ss : List Select) → OfMeaning (target_step (Lvalue-F.Name name ss))
name-form name ss k inside p =
    checked-gives TypedValued IsTypedTarget (named_target k inside (simple_name name) (map select_meaning ss)) (λ v. whole (ToPath v))
    (λ fs v h. typed-of k.signals (thing k (simple_name name)) v.expr (target-gives k inside (simple_name name) ss p fs v h)) (λ v q. whole-gives IsTypedTarget (ToPath v) q)

each-part : (k : Context) (inside : Bool) (ms : List TargetMeaning) → PlainNames k → AllMeanings ms → AllGive PartGoes (map (λ (t : TargetMeaning). checked (t k inside) (λ u. rule (is_target_part k u))) ms)
each-part k inside [] p h = tt
each-part k inside (m ∷ ms) p h =
    (checked-gives IsTypedTarget PartGoes (m k inside) (λ u. rule (is_target_part k u)) (h.0 k inside p) (λ u q. rule-gives PartGoes (is_target_part k u) (λ a e. part-goes k u a e q)), each-part k inside ms p h.1)

concat-form : (opening : ℕ) (ms : List TargetMeaning) (closing : ℕ) → AllMeanings ms → OfMeaning (target_step (Lvalue-F.Concatenation opening ms closing))
concat-form opening ms closing h k inside p =
    checked-gives (Each PartGoes) IsTypedTarget (all (map (λ (t : TargetMeaning). checked (t k inside) (λ u. rule (is_target_part k u))) ms)) (λ ps. rule (joined_target k opening ps))
    (all-gives PartGoes (map (λ (t : TargetMeaning). checked (t k inside) (λ u. rule (is_target_part k u))) ms) (each-part k inside ms p h))
    (λ ps q. rule-gives IsTypedTarget (joined_target k opening ps) (λ t e. joined-gives k opening ps t e q))

each-whole : (k : Context) (inside : Bool) (ms : List TargetMeaning) → PlainNames k → AllMeanings ms → AllGive (GoesValued true) (map (λ (t : TargetMeaning). checked (t k inside) (λ u. whole (whole_of u))) ms)
each-whole k inside [] p h = tt
each-whole k inside (m ∷ ms) p h =
    (checked-gives IsTypedTarget (GoesValued true) (m k inside) (λ u. whole (whole_of u)) (h.0 k inside p) (λ u q. whole-gives (GoesValued true) (whole_of u) (whole-goes u q)), each-whole k inside ms p h.1)

stream-form : (opening : ℕ) (op : StreamOperator) (at : ℕ) (size : Option SliceSize) (inner : ℕ) (ms : List TargetMeaning) (inner_closing closing : ℕ) → AllMeanings ms
    → OfMeaning (target_step (Lvalue-F.Stream opening op at size inner ms inner_closing closing))
stream-form opening op at size inner ms inner_closing closing h k inside p =
    both-gives Anything (Each (GoesValued true)) IsTypedTarget (slice_or_one k size) (all (map (λ (t : TargetMeaning). checked (t k inside) (λ u. whole (whole_of u))) ms)) (λ n vs. rule (stream_target k opening (reverses op) n vs))
    (anything (slice_or_one k size)) (all-gives (GoesValued true) (map (λ (t : TargetMeaning). checked (t k inside) (λ u. whole (whole_of u))) ms) (each-whole k inside ms p h))
    (λ n vs q r. rule-gives IsTypedTarget (stream_target k opening (reverses op) n vs) (λ t e. stream-gives k opening (reverses op) n vs t e r))

abbrev OfLvalue : Lvalue → Type 0
OfLvalue l = OfMeaning (target l)

abbrev ALvalue : Type 0
ALvalue = (l : Lvalue) × OfLvalue l

abbrev lvalue_in : Lvalue-F ALvalue → Lvalue-F Lvalue
lvalue_in = map-Lvalue ALvalue Lvalue (λ e. e.0)

each-lvalue : (ys : List ALvalue) → AllMeanings (map target (map (λ e. e.0) ys))
each-lvalue [] = tt
each-lvalue (y ∷ ys) = (y.1, each-lvalue ys)

lvalue-case : (y : Lvalue-F ALvalue) → OfMeaning (target_step (map-Lvalue Lvalue TargetMeaning target (lvalue_in y)))
lvalue-case (Lvalue-F.Name name selects) = name-form name selects
lvalue-case (Lvalue-F.Concatenation opening ys closing) = concat-form opening (map target (map (λ e. e.0) ys)) closing (each-lvalue ys)
lvalue-case (Lvalue-F.Stream opening op at size inner ys inner_closing closing) = stream-form opening op at size inner (map target (map (λ e. e.0) ys)) inner_closing closing (each-lvalue ys)

lvalue-level : (y : Lvalue-F ALvalue) → OfLvalue (roll-Lvalue (lvalue_in y))
lvalue-level y = subst OfMeaning (sym (fold-roll-Lvalue TargetMeaning target_step (lvalue_in y))) (lvalue-case y)

-- each target of a text
pub target-typed : (l : Lvalue) (k : Context) (inside : Bool) → PlainNames k → Gives IsTypedTarget (target l k inside)
target-typed = ind-Lvalue OfLvalue (λ x y is. subst (λ z. OfLvalue (roll-Lvalue z)) is (lvalue-level y))

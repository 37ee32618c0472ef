-- Expressions that may be types, and `$bits` of them.
use Rattle.std.proofs.Common.{◌≡◌, List, Option, Some, None, ℕ, refl, sym, ap, ◌∙◌, subst}
use Rattle.std.specs.Prelude.{Result, Ok, Err}
use Rattle.std.specs.Option.{option_map}
use Rattle.sv_tree.specs.declared.expressions.Select.{Select}
use Rattle.sv_tree.specs.declared.names.QualifiedName.{QualifiedName}
use Rattle.sv_types.specs.declared.statement.Function.{Function}
use Rattle.sv_types.specs.declared.types.SvType.{SvType}
use Rattle.sv_types.specs.Layouts.{width_of}
use Rattle.expr_type.specs.declared.halt.Halt.{Halt}
use Rattle.expr_type.specs.declared.halt.Halt.TheVariants as H
use Rattle.expr_type.specs.declared.operand.Valued.{Valued}
use Rattle.expr_type.specs.Forms.{bits_number, bits_of, type_of_thing}
use Rattle.expr_type.specs.Names.{Context, Source, thing}
use Rattle.expr_type.specs.Operands.{Operand, value, width}
use Rattle.expr_type.specs.Typings.{Checked, Typed, Typing, applied, checked, maybe, whole}
use Rattle.typing_steps.specs.Steps.{StopsBy, TypesTo}
use Rattle.typing_paths.specs.TypingValuesParts as part
use Rattle.typing_paths.specs.System.{named_type_of}
use Rattle.typing_steps.proofs.Combining.{checked-fine, checked-stops}

-- what may be left out
pub maybe-fine : {A : Type 0} (x : Typing A) (fs gs : List Function) (a : A) → TypesTo (Ok a) (x fs) gs → TypesTo (Ok (Some a)) (maybe (Some x) fs) gs
maybe-fine x fs gs a h = checked-fine x (λ b. whole (Some b)) fs gs gs a (Ok (Some a)) h refl

pub maybe-stops : {A : Type 0} (x : Typing A) (fs gs : List Function) (h : Halt) → TypesTo {A = A} (Err h) (x fs) gs → TypesTo {A = Option A} (Err h) (maybe (Some x) fs) gs
maybe-stops x fs gs h s = checked-stops x (λ b. whole (Some b)) fs gs h s

pub ruleset types = (maybe-fine, maybe-stops)

-- what a name stands for
pub of-name : (k : Context) (of : QualifiedName) (ss : List Select) (t : SvType) (r : Result (Option SvType) Halt) (fs gs : List Function)
    → Some t ≡ type_of_thing (thing k of) → TypesTo r (maybe (Some (part.dimensioned k t ss)) fs) gs → TypesTo r (named_type_of k of ss fs) gs
of-name k of ss t r fs gs e h =
    subst (λ (o : Option SvType). TypesTo r (maybe (option_map (λ u. part.dimensioned k u ss) o) fs) gs) e h

pub of-no-type : (k : Context) (of : QualifiedName) (ss : List Select) (fs : List Function) → None ≡ type_of_thing (thing k of)
    → TypesTo {A = Option SvType} (Ok None) (named_type_of k of ss fs) fs
of-no-type k of ss fs e =
    subst (λ (o : Option SvType). TypesTo {A = Option SvType} (Ok None) (maybe (option_map (λ u. part.dimensioned k u ss) o) fs) fs) e refl

-- what an expression is, if it is a type
pub as-one : (o p : Option (Typing SvType)) (r : Result (Option SvType) Halt) (fs gs : List Function) → o ≡ p → TypesTo r (maybe p fs) gs → TypesTo r (maybe o fs) gs
as-one o p r fs gs e h = subst (λ (q : Option (Typing SvType)). TypesTo r (maybe q fs) gs) (sym e) h

abbrev of-option : {A : Type 0} → Checked (Option A) → Checked (Option A)
of-option c = c

-- what is whole as one that may be left out
some-applied : {A : Type 0} (r : Checked A) (fs gs : List Function) (a : A) → applied r (λ b. whole (Some b)) fs ≡ record { result = Ok (Some a); functions = gs }
    → TypesTo (Ok a) (record { result = r; functions = fs }) gs
some-applied {A = A} (Ok b) fs gs a e =
    let r : of-option (Ok (Some b)) ≡ of-option (Ok (Some a)) = ap (λ (t : Typed (Option A)). of-option t.result) e in
    let k : fs ≡ gs = ap (λ (t : Typed (Option A)). t.functions) e in
    let h : b ≡ a = cc in
    ap (λ (x : A). record { result = Ok x; functions = fs }) h ∙ ap (λ (zs : List Function). record { result = Ok a; functions = zs }) k
some-applied {A = A} (Err b) fs gs a e = let r : of-option (Err b) ≡ of-option (Ok (Some a)) = ap (λ (t : Typed (Option A)). of-option t.result) e in absurd (cc)

bits-type : (k : Source) (name : ℕ) (o : Option (Typing SvType)) (x : Typing Operand) (fs gs : List Function) (t : SvType)
    → TypesTo (Ok (Some t)) (maybe o fs) gs → TypesTo (Ok (bits_number k name (width_of t))) (bits_of k name o x fs) gs
bits-type k name None x fs gs t h = let r : of-option (Ok None) ≡ of-option (Ok (Some t)) = ap (λ (u : Typed (Option SvType)). of-option u.result) h in absurd (cc)
bits-type k name (Some y) x fs gs t h =
    checked-fine y (λ u. whole (bits_number k name (width_of u))) fs gs gs t (Ok (bits_number k name (width_of t))) (some-applied (y fs).result (y fs).functions gs t h) refl

pub bits-of-type : (k : Source) (name : ℕ) (o : Option (Typing SvType)) (x : Typing Operand) (fs gs : List Function) (t : SvType) (v : Valued)
    → TypesTo (Ok (Some t)) (maybe o fs) gs → v ≡ bits_number k name (width_of t) → TypesTo (Ok v) (bits_of k name o x fs) gs
bits-of-type k name o x fs gs t v h e = subst (λ (u : Valued). TypesTo (Ok u) (bits_of k name o x fs) gs) (sym e) (bits-type k name o x fs gs t h)

not-none : {A : Type 0} (r : Checked A) (fs gs : List Function) → applied r (λ b. whole (Some b)) fs ≡ record { result = Ok None; functions = gs } → ⊥
not-none {A = A} (Ok b) fs gs e = let r : of-option (Ok (Some b)) ≡ of-option (Ok None) = ap (λ (t : Typed (Option A)). of-option t.result) e in absurd (cc)
not-none {A = A} (Err b) fs gs e = let r : of-option (Err b) ≡ of-option (Ok None) = ap (λ (t : Typed (Option A)). of-option t.result) e in absurd (cc)

pub bits-of-value : (k : Source) (name : ℕ) (o : Option (Typing SvType)) (x : Typing Operand) (fs gs hs : List Function) (r : Result Valued Halt)
    → TypesTo {A = Option SvType} (Ok None) (maybe o fs) gs → TypesTo r (checked (value k x) (λ v. whole (bits_number k name (width v))) gs) hs
    → TypesTo r (bits_of k name o x fs) hs
bits-of-value k name None x fs gs hs r h p =
    let e : fs ≡ gs = ap (λ (t : Typed (Option SvType)). t.functions) h in
    subst (λ (z : List Function). TypesTo r (checked (value k x) (λ v. whole (bits_number k name (width v))) z) hs) (sym e) p
bits-of-value k name (Some y) x fs gs hs r h p = absurd (not-none (y fs).result (y fs).functions gs h)

stops-by : {A B : Type 0} (h : Halt) (r : Checked A) (f : A → Typing B) (fs gs : List Function) → StopsBy h (applied r (λ b. whole (Some b)) fs) gs
    → StopsBy h (applied r f fs) gs
stops-by H.Memory r f fs gs s = tt
stops-by (H.Breaks at n) (Ok a) f fs gs s = absurd (cc)
stops-by (H.Breaks at n) (Err b) f fs gs s = s
stops-by H.Quiet (Ok a) f fs gs s = let q = s.quiet in absurd (cc)
stops-by H.Quiet (Err b) f fs gs s = record { quiet = s.quiet; functions = s.functions }

pub bits-stops : (k : Source) (name : ℕ) (o : Option (Typing SvType)) (x : Typing Operand) (fs gs : List Function) (h : Halt)
    → TypesTo {A = Option SvType} (Err h) (maybe o fs) gs → TypesTo {A = Valued} (Err h) (bits_of k name o x fs) gs
bits-stops k name None x fs gs H.Memory s = tt
bits-stops k name None x fs gs (H.Breaks at n) s = absurd (cc)
bits-stops k name None x fs gs H.Quiet s = let q = s.quiet in absurd (cc)
bits-stops k name (Some y) x fs gs h s = stops-by h (y fs).result (λ u. whole (bits_number k name (width_of u))) (y fs).functions gs s

-- `$bits` of the type that was found
pub bits-found : (k s : Source) (name : ℕ) (o : Option (Typing SvType)) (x : Typing Operand) (fs gs : List Function) (r : Result (Option SvType) Halt) (t : SvType) (v : Valued)
    → s ≡ k → r ≡ Ok (Some t) → TypesTo r (maybe o fs) gs → v ≡ bits_number s name (width_of t) → TypesTo (Ok v) (bits_of k name o x fs) gs
bits-found k s name o x fs gs r t v d e h u =
    bits-of-type k name o x fs gs t v (subst (λ (q : Result (Option SvType) Halt). TypesTo q (maybe o fs) gs) e h) (u ∙ ap (λ (z : Source). bits_number z name (width_of t)) d)

pub ruleset calls = (bits-of-type, bits-of-value, bits-stops)

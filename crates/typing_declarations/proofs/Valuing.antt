-- The value of a name behind others.
use Rattle.std.proofs.Common.{◌≡◌, ℕ, zero, suc, ℤ, Bool, true, false, ◌&&◌, cond, List, [], ◌∷◌, ◌++◌, length, Option, Some, None, refl, sym, ap, ◌∙◌, subst}
use Rattle.std.specs.Prelude.{Result, Ok, Err, IfOk, slice_get, ◌-◌, ◌<◌, ◌≤◌}
use Rattle.b4_core.specs.declared.bit.Bit4.{Bit4}
use Rattle.sv_tree.specs.declared.declarations.Initializer.{Initializer}
use Rattle.sv_tree.specs.declared.expressions.Expr.{Expr}
use Rattle.sv_tree.specs.declared.types.EnumName as W
use Rattle.sv_types.specs.declared.statement.Function.{Function}
use Rattle.sv_types.specs.declared.types.SvType.{SvType}
use Rattle.sv_types.specs.Layouts.{width_of}
use Rattle.expr_type.specs.declared.halt.Halt.{Halt}
use Rattle.expr_type.specs.declared.halt.Halt.TheVariants as H
use Rattle.expr_type.specs.declared.operand.Number.{Number}
use Rattle.expr_type.specs.declared.operand.Valued.{Valued}
use Rattle.expr_type.specs.Breaks.{Quiet}
use Rattle.expr_type.specs.Expressions.{operand}
use Rattle.expr_type.specs.Names.{Context, Source}
use Rattle.expr_type.specs.Operands.{constant_in}
use Rattle.expr_type.specs.Types.{NameValue, is_name_number, least_value, most_value, name_value}
use Rattle.expr_type.specs.Types as T
use Rattle.expr_type.specs.Typings.{Checked, Typed, Typing, applied, broken, by_functions, checked, rule, whole, where_whole}
use Rattle.typing_steps.specs.Steps.{TypesTo}
use Rattle.typing_steps.proofs.Combining.{checked-is, checked-stops, rule-types}
use Rattle.enum_types.specs.Taken.{Holds}
use Rattle.enum_values.specs.Values.{AreInBase, IsInBase, Names, distinct, in_order, last_number, named_by, unwritten, written}
use Rattle.typing_declarations.specs.declared.enum_names.Met.{Met}
use Rattle.typing_declarations.specs.declared.enum_names.Named.{Named}
use Rattle.typing_declarations.specs.Naming.{AllInBase, IsMet, as_named, bits_in, last_bits, name_of, values_of, written_name}

-- the bits of a name are what the rules give
pub named-types : (t : SvType) (at : ℕ) (r : Result (List Bit4) Halt) (m : Checked NameValue) (fs : List Function) → Names t at r m → TypesTo (as_named t at r) (rule m fs) fs
named-types t at (Ok v) m fs n = rule-types (Ok (named_by t at v)) m fs n.value
named-types t at (Err h) m fs n = rule-types {A = NameValue} (Err h) m fs n

pub names-bits : (t : SvType) (at : ℕ) (r : Result (List Bit4) Halt) (m : Checked NameValue) → Names t at r m → IfOk r (IsInBase t)
names-bits t at (Ok v) m n = n.bits
names-bits t at (Err h) m n = tt

pub names-short : (t : SvType) (at : ℕ) (r : Result (List Bit4) Halt) (m : Checked NameValue) → Names t at r m → IfOk r (λ (v : List Bit4). width_of t ≤ 65536)
names-short t at (Ok v) m n = n.short
names-short t at (Err h) m n = tt

-- names that were met in a long base are none
pub none-met : (t : SvType) (m : Met) → IsMet t m → 65536 < width_of t → values_of t m.names ≡ []
none-met t m met h = ap (values_of t) (met.names.short h)

-- a value that is written
abbrev number_by : Context → SvType → Valued → Typing ℤ
number_by k t v = checked (by_functions (is_name_number k.source (least_value t) (most_value t) v)) (λ n. whole n.number)

abbrev put_name : Context → SvType → Met → ℕ → ℤ → Typing NameValue
put_name k t m at n = rule (distinct k.source t at (values_of t m.names) n)

by-number : (k : Context) (t : SvType) (m : Met) (at : ℕ) (x : Checked Number) (gs : List Function)
    → (let r = applied x (λ n. whole n.number) gs in applied r.result (put_name k t m at) r.functions) ≡ rule (where_whole x (λ n. distinct k.source t at (values_of t m.names) n.number)) gs
by-number k t m at (Ok n) gs = refl
by-number k t m at (Err b) gs = refl

written-is : (k : Context) (t : SvType) (m : Met) (at : ℕ) (e : Expr) (v : Valued) (fs gs : List Function) → TypesTo (Ok v) (constant_in k.source (operand k e) fs) gs
    → written_name k t m at e fs ≡ rule (written k.source t at (values_of t m.names) v gs) gs
written-is k t m at e v fs gs p =
    ap (λ (r : Typed ℤ). applied r.result (put_name k t m at) r.functions) (checked-is (constant_in k.source (operand k e)) (number_by k t) fs gs v p)
    ∙ by-number k t m at (is_name_number k.source (least_value t) (most_value t) v gs) gs

written-types : (k : Context) (t : SvType) (m : Met) (at : ℕ) (e : Expr) (v : Valued) (r : Result (List Bit4) Halt) (fs gs : List Function) → TypesTo (Ok v) (constant_in k.source (operand k e) fs) gs
    → Names t at r (written k.source t at (values_of t m.names) v gs) → TypesTo (as_named t at r) (written_name k t m at e fs) gs
written-types k t m at e v r fs gs p n =
    subst (λ (x : Typed NameValue). TypesTo (as_named t at r) x gs) (sym (written-is k t m at e v fs gs p)) (named-types t at r (written k.source t at (values_of t m.names) v gs) gs n)

abbrev pub Written : Source → SvType → Met → ℕ → Valued → Result (List Bit4) Halt → List Function → Type 0
Written s t m at v r gs = (before : List NameValue) → Holds t m.taken before → (65536 < width_of t → before ≡ []) → Names t at r (written s t at before v gs)

pub written-bits : (s : Source) (t : SvType) (m : Met) (at : ℕ) (v : Valued) (r : Result (List Bit4) Halt) (gs : List Function) → IsMet t m → Written s t m at v r gs → IfOk r (IsInBase t)
written-bits s t m at v r gs met told = names-bits t at r (written s t at (values_of t m.names) v gs) (told (values_of t m.names) met.held (none-met t m met))

pub written-short : (s : Source) (t : SvType) (m : Met) (at : ℕ) (v : Valued) (r : Result (List Bit4) Halt) (gs : List Function) → IsMet t m → Written s t m at v r gs → IfOk r (λ (v : List Bit4). width_of t ≤ 65536)
written-short s t m at v r gs met told = names-short t at r (written s t at (values_of t m.names) v gs) (told (values_of t m.names) met.held (none-met t m met))

-- where the rules are said of the source as the code has it
pub written-given : (k : Context) (s : Source) (t : SvType) (m : Met) (at : ℕ) (e : Expr) (v : Valued) (r : Result (List Bit4) Halt) (fs gs : List Function) → s ≡ k.source → IsMet t m → TypesTo (Ok v) (constant_in k.source (operand k e) fs) gs
    → Written s t m at v r gs → TypesTo (as_named t at r) (written_name k t m at e fs) gs
written-given k s t m at e v r fs gs is met p told =
    written-types k t m at e v r fs gs p
    (subst (λ (z : Source). Names t at r (written z t at (values_of t m.names) v gs)) is (told (values_of t m.names) met.held (none-met t m met)))

pub written-stops : (k : Context) (t : SvType) (m : Met) (at : ℕ) (e : Expr) (h : Halt) (fs gs : List Function) → TypesTo {A = Valued} (Err h) (constant_in k.source (operand k e) fs) gs
    → TypesTo {A = NameValue} (Err h) (written_name k t m at e fs) gs
written-stops k t m at e h fs gs p =
    checked-stops (checked (constant_in k.source (operand k e)) (number_by k t)) (put_name k t m at) fs gs h (checked-stops (constant_in k.source (operand k e)) (number_by k t) fs gs h p)

-- one that isn't
unwritten-by : (k : Context) (t : SvType) (m : Met) (at : ℕ) (x : Checked ℤ) (fs : List Function)
    → (let r = rule x fs in applied r.result (put_name k t m at) r.functions) ≡ rule (where_whole x (distinct k.source t at (values_of t m.names))) fs
unwritten-by k t m at (Ok n) fs = refl
unwritten-by k t m at (Err b) fs = refl

abbrev name_by : Context → SvType → Met → ℕ → Bool → Option Initializer → Typing NameValue
name_by k t m at lost i =
    cond (lost && T.unwritten i) (broken Quiet) (checked (T.written_value k t at (last_number t (last_bits m)) i) (put_name k t m at))

unwritten-name : (k : Context) (t : SvType) (m : Met) (n : W.EnumName) (r : Result (List Bit4) Halt) (fs : List Function) (lost : Bool) (i : Option Initializer) → lost ≡ false → i ≡ None
    → Names t n.name r (unwritten k.source t n.name (values_of t m.names) (last_number t (last_bits m))) → TypesTo (as_named t n.name r) (name_by k t m n.name lost i fs) fs
unwritten-name k t m n r fs false None e f g =
    subst (λ (x : Typed NameValue). TypesTo (as_named t n.name r) x fs)
    (sym (unwritten-by k t m n.name (in_order k.source t n.name (T.next_value (last_number t (last_bits m)))) fs))
    (named-types t n.name r (unwritten k.source t n.name (values_of t m.names) (last_number t (last_bits m))) fs g)
unwritten-name k t m n r fs false (Some i) e f g = absurd (cc)
unwritten-name k t m n r fs true i e f g = absurd (cc)

unwritten-types : (k : Context) (t : SvType) (m : Met) (n : W.EnumName) (r : Result (List Bit4) Halt) (fs : List Function) → m.lost ≡ false → n.value ≡ None
    → Names t n.name r (unwritten k.source t n.name (values_of t m.names) (last_number t (last_bits m))) → TypesTo (as_named t n.name r) (name_of k t m n fs) fs
unwritten-types k t m n r fs e f g = unwritten-name k t m n r fs m.lost n.value e f g

-- as the rules are told of each source
abbrev pub Unwritten : SvType → Met → ℕ → Result (List Bit4) Halt → Option (List Bit4) → Type 0
Unwritten t m at r last =
    (s : Source) (before : List NameValue) → Holds t m.taken before → (65536 < width_of t → before ≡ []) → Names t at r (unwritten s t at before (last_number t last))

of-met : (s : Source) (t : SvType) (m : Met) (at : ℕ) (r : Result (List Bit4) Halt) (last : Option (List Bit4)) → last ≡ last_bits m → IsMet t m → Unwritten t m at r last
    → Names t at r (unwritten s t at (values_of t m.names) (last_number t (last_bits m)))
of-met s t m at r last is met told =
    subst (λ (o : Option (List Bit4)). Names t at r (unwritten s t at (values_of t m.names) (last_number t o))) is (told s (values_of t m.names) met.held (none-met t m met))

pub unwritten-told : (k : Context) (t : SvType) (m : Met) (n : W.EnumName) (r : Result (List Bit4) Halt) (fs : List Function) (last : Option (List Bit4)) → m.lost ≡ false → n.value ≡ None → last ≡ last_bits m → IsMet t m
    → Unwritten t m n.name r last → TypesTo (as_named t n.name r) (name_of k t m n fs) fs
unwritten-told k t m n r fs last e f is met told = unwritten-types k t m n r fs e f (of-met k.source t m n.name r last is met told)

pub unwritten-bits : (k : Context) (t : SvType) (m : Met) (at : ℕ) (r : Result (List Bit4) Halt) (last : Option (List Bit4)) → last ≡ last_bits m → IsMet t m → Unwritten t m at r last → IfOk r (IsInBase t)
unwritten-bits k t m at r last is met told =
    names-bits t at r (unwritten k.source t at (values_of t m.names) (last_number t (last_bits m))) (of-met k.source t m at r last is met told)

pub unwritten-short : (k : Context) (t : SvType) (m : Met) (at : ℕ) (r : Result (List Bit4) Halt) (last : Option (List Bit4)) → last ≡ last_bits m → IsMet t m → Unwritten t m at r last
    → IfOk r (λ (v : List Bit4). width_of t ≤ 65536)
unwritten-short k t m at r last is met told =
    names-short t at r (unwritten k.source t at (values_of t m.names) (last_number t (last_bits m))) (of-met k.source t m at r last is met told)

lost-name : (k : Context) (t : SvType) (m : Met) (at : ℕ) (fs : List Function) (lost : Bool) (i : Option Initializer) → lost ≡ true → i ≡ None
    → TypesTo {A = NameValue} (Err H.Quiet) (name_by k t m at lost i fs) fs
lost-name k t m at fs true None e f = record { quiet = refl; functions = refl }
lost-name k t m at fs true (Some i) e f = absurd (cc)
lost-name k t m at fs false i e f = absurd (cc)

pub lost-types : (k : Context) (t : SvType) (m : Met) (n : W.EnumName) (fs : List Function) → m.lost ≡ true → n.value ≡ None → TypesTo {A = NameValue} (Err H.Quiet) (name_of k t m n fs) fs
lost-types k t m n fs e f = lost-name k t m n.name fs m.lost n.value e f

given-name : (k : Context) (t : SvType) (m : Met) (at : ℕ) (lost : Bool) (j : Option Initializer) (i : Initializer) → j ≡ Some i → name_by k t m at lost j ≡ written_name k t m at i.value
given-name k t m at lost None i e = absurd (cc)
given-name k t m at true (Some j) i e = (let is : j ≡ i = cc in ap (λ (x : Initializer). written_name k t m at x.value) is)
given-name k t m at false (Some j) i e = (let is : j ≡ i = cc in ap (λ (x : Initializer). written_name k t m at x.value) is)

pub given-types : (k : Context) (t : SvType) (m : Met) (n : W.EnumName) (i : Initializer) (r : Result (List Bit4) Halt) (fs gs : List Function) → n.value ≡ Some i
    → TypesTo (as_named t n.name r) (written_name k t m n.name i.value fs) gs → TypesTo (as_named t n.name r) (name_of k t m n fs) gs
given-types k t m n i r fs gs e p =
    subst (λ (x : Typing NameValue). TypesTo (as_named t n.name r) (x fs) gs) (sym (given-name k t m n.name m.lost n.value i e)) p

-- the bits of the last name
in-base-at : (t : SvType) (vs : List Named) (n : ℕ) → AllInBase t vs → AreInBase t (bits_in (slice_get vs n))
in-base-at t [] n a = tt
in-base-at t (v ∷ vs) zero a = a.0
in-base-at t (v ∷ vs) (suc n) a = in-base-at t vs n a.1

last-by : (t : SvType) (lost : Bool) (o : Option Named) → AreInBase t (bits_in o) → AreInBase t (cond lost None (bits_in o))
last-by t true o a = tt
last-by t false o a = a

pub last-in-base : (t : SvType) (m : Met) → AllInBase t m.names → AreInBase t (last_bits m)
last-in-base t m a = last-by t m.lost (slice_get m.names (length m.names - 1)) (in-base-at t m.names (length m.names - 1) a)

none-by : (lost : Bool) (vs : List Named) → vs ≡ [] → cond lost None (bits_in (slice_get vs (length vs - 1))) ≡ None
none-by true vs e = refl
none-by false [] e = refl
none-by false (v ∷ vs) e = absurd (cc)

pub last-none : (m : Met) → m.names ≡ [] → last_bits m ≡ None
last-none m e = none-by m.lost m.names e

pub last-known : (t : SvType) (m : Met) (o : Option (List Bit4)) → o ≡ last_bits m → IsMet t m → AreInBase t o
last-known t m o is met = subst (λ (x : Option (List Bit4)). AreInBase t x) (sym is) (last-in-base t m met.names.bits)

pub last-absent : (t : SvType) (m : Met) (o : Option (List Bit4)) → o ≡ last_bits m → IsMet t m → 65536 < width_of t → o ≡ None
last-absent t m o is met h = is ∙ last-none m (met.names.short h)

pub ruleset valuing = (written-given, written-stops, written-bits, written-short)

pub ruleset naming = (unwritten-told, unwritten-bits, unwritten-short, lost-types, given-types, last-known, last-absent)

-- Enums by the names that were met.
use Rattle.std.proofs.Common.{◌≡◌, ℕ, zero, suc, ◌<◌, ◌≤◌, ◌+◌, Bool, true, false, List, [], ◌∷◌, ◌++◌, map, length, take, get_or, Option, Some, None, refl, sym, ap, ◌∙◌, subst, arith}
use Rattle.std.specs.Prelude.{Result, Ok, Err, OnOk}
use Rattle.std.proofs.lemmas.List.{take_more}
use Rattle.b4_core.specs.declared.bit.Bit4.{Bit4}
use Rattle.b4_core.specs.Vectors.{number, vec}
use Rattle.sv_tree.specs.declared.expressions.Dimension.{Dimension}
use Rattle.sv_tree.specs.declared.names.QualifiedName.{QualifiedName}
use Rattle.sv_tree.specs.declared.types.EnumBase.{EnumBase}
use Rattle.sv_tree.specs.declared.types.EnumBase.TheVariants as B
use Rattle.sv_tree.specs.declared.types.EnumName as W
use Rattle.sv_types.specs.declared.frame.ParamValue.{ParamValue}
use Rattle.sv_types.specs.declared.statement.Function.{Function}
use Rattle.sv_types.specs.declared.types.EnumName.{EnumName}
use Rattle.sv_types.specs.declared.types.SvType.{SvType}
use Rattle.sv_types.specs.declared.types.SvType.TheVariants as V
use Rattle.sv_types.specs.Layouts.{Layout, width_of}
use Rattle.sv_types.specs.Values.{value_of_bits}
use Rattle.sv_types.proofs.Lengths.{layout-Enum}
use Rattle.sv_types.proofs.OperatorLengths.{length-vec}
use Rattle.expr_type.specs.declared.halt.Halt.{Halt}
use Rattle.expr_type.specs.declared.halt.Halt.TheVariants as H
use Rattle.expr_type.specs.Breaks.{Quiet}
use Rattle.expr_type.specs.Names.{Context, Source, with_values}
use Rattle.expr_type.specs.Shapes.{sign_of}
use Rattle.expr_type.specs.Types as T
use Rattle.expr_type.specs.Types.{NameValue, TypeFound, base_type, latest_first, name_values, value_in}
use Rattle.expr_type.specs.Typings.{Typed, Typing, whole}
use Rattle.typing_fits.specs.Types.{is_full}
use Rattle.typing_fits.specs.Operands.{AllValuesSound, SoundConstant}
use Rattle.typing_fits.proofs.Numbers.{value-long}
use Rattle.typing_walks.specs.Keeps.{AllHold, FullType, Keeps, Kept, Surrounded}
use Rattle.typing_walks.specs.WrittenTypes.{base_written, names_written}
use Rattle.typing_walks.proofs.Keeping as K
use Rattle.typing_walks.proofs.Knowing as N
use Rattle.typing_walks.proofs.Knowing.{IfKnown}
use Rattle.typing_walks.proofs.Lasting.{full-lasts}
use Rattle.typing_walks.proofs.Types as X
use Rattle.typing_walks.proofs.Types.{Short, SoundFound, enum-sound}
use Rattle.typing_scopes.specs.Ahead.{mapped}
use Rattle.typing_scopes.proofs.Turning.{broken-turn, quiet-turn, whole-turn}
use Rattle.typing_steps.specs.Steps.{TypesTo}
use Rattle.enum_values.specs.Values.{IsInBase, named_by}
use Rattle.typing_declarations.specs.declared.enum_names.Named.{Named}
use Rattle.typing_declarations.specs.Types.{base_named}
use Rattle.typing_declarations.specs.Naming.{AllInBase, AreMet, HaveWidth, as_values, enum_name, enum_of, values_by, value_by, valued, values_of, with_name}

abbrev pub the_constant : Context → SvType → ℕ → List Bit4 → ParamValue
the_constant k t at bits = record { decl = k.declared at; of = t; value = value_of_bits t bits }

abbrev pub the_found : SvType → List ParamValue → TypeFound
the_found t vs = record { of = t; names = vs }

-- a name as a constant of the base, in the text behind it
pub base-value : (k : Context) (t : SvType) (at : ℕ) (bits : List Bit4) → IsInBase t bits
    → the_constant k t at bits ≡ value_in k t (named_by t at bits)
base-value k t at bits b = ap (λ (v : List Bit4). the_constant k t at v) b.bits

constant-sound : (k : Context) (t : SvType) (v : NameValue) → is_full t ≡ true → width_of t ≤ 65536 → SoundConstant (value_in k t v).of (value_in k t v).value
constant-sound k t v full short = record {
  of = record { full = full; narrow = omega arith };
  long = value-long t (vec (width_of t) v.number) (length-vec (width_of t) v.number);
}

pub name-surrounded : (Q : List Function → Type 0) (j k : Context) (t : SvType) (v : NameValue) → j ≡ with_name k t v → is_full t ≡ true → width_of t ≤ 65536 → Surrounded Q k → Surrounded Q j
name-surrounded Q j k t v is full short s =
    subst (λ (c : Context). Surrounded Q c) (sym is) (X.names-known Q k (value_in k t v ∷ []) s (constant-sound k t v full short, tt))

pub bits-long : (t : SvType) (v : List Bit4) → IsInBase t v → length v ≡ width_of t
bits-long t v b = ap length b.bits ∙ length-vec (width_of t) (number (sign_of t) v)

-- as the code has made it, if there was memory
abbrev constant_with : SvType → List Bit4 → ℕ → ParamValue
constant_with t bits n = record { decl = n; of = t; value = value_of_bits t bits }

pub name-declared : (Q : List Function → Type 0) (j k : Context) (t : SvType) (at n : ℕ) (bits : List Bit4) (x : ParamValue) {A E : Type 0} (r : Result A E) → n ≡ k.declared at → x ≡ constant_with t bits n → IsInBase t bits
    → OnOk r (j ≡ with_values (x ∷ []) k) → is_full t ≡ true → width_of t ≤ 65536 → Surrounded Q k → OnOk r (Surrounded Q j)
name-declared Q j k t at n bits x (Ok u) d e b is full short s =
    let made : x ≡ value_in k t (named_by t at bits) = e ∙ ap (constant_with t bits) d ∙ base-value k t at bits b in
    name-surrounded Q j k t (named_by t at bits) (is ∙ ap (λ (y : ParamValue). with_values (y ∷ []) k) made) full short s
name-declared Q j k t at n bits x (Err h) d e b is full short s = tt

-- the enum's names
pub names-are : (k : Source) (t : SvType) (vs : List Named) → AllInBase t vs → map (enum_name k) vs ≡ map (T.enum_name k t) (values_of t vs)
names-are k t [] a = refl
names-are k t (v ∷ vs) a =
    ap (λ (n : EnumName). n ∷ map (enum_name k) vs) (ap (λ (b : List Bit4). the_name v b) a.0.bits)
    ∙ ap (λ (ns : List EnumName). T.enum_name k t (value_by t v) ∷ ns) (names-are k t vs a.1)
  where
    the_name : Named → List Bit4 → EnumName
    the_name w b = enum_name k (record w { bits = b })

pub enum-width : (id : ℕ) (base : SvType) (names : List EnumName) → width_of (V.Enum id base names) ≡ width_of base
enum-width id base names = ap (λ (l : Layout). length l.two_state) (layout-Enum id base names)

-- as constants of it
abbrev valued_by : Context → SvType → Named → List Bit4 → ParamValue
valued_by k t v b = record { decl = k.declared v.at; of = t; value = value_of_bits t b }

constants-by : (k : Context) (t base : SvType) (vs : List Named) → width_of t ≡ width_of base → AllInBase base vs → map (valued k t) vs ≡ map (value_in k t) (values_of base vs)
constants-by k t base [] w a = refl
constants-by k t base (v ∷ vs) w a =
    ap (λ (x : ParamValue). x ∷ map (valued k t) vs)
    (ap (valued_by k t v) a.0.bits ∙ ap (λ (n : ℕ). valued_by k t v (vec n (number (sign_of base) v.bits))) (sym w))
    ∙ ap (λ (xs : List ParamValue). value_in k t (value_by base v) ∷ xs) (constants-by k t base vs w a.1)

pub have-width : (w : ℕ) (base : SvType) (vs : List Named) → width_of base ≡ w → w ≤ 4194304 → AllInBase base vs → HaveWidth w vs
have-width w base [] e h a = tt
have-width w base (v ∷ vs) e h a = (bits-long base v.bits a.0 ∙ e, h, have-width w base vs e h a.1)

short-width : (w : ℕ) → (65536 < w → ⊥) → w ≤ 4194304
short-width w f = grind arith

short-by : (base t : SvType) (v : Named) (vs : List Named) → width_of t ≡ width_of base → (65536 < width_of base → v ∷ vs ≡ []) → width_of t ≤ 4194304
short-by base t v vs e f = short-width (width_of t) (λ h. let g : v ∷ vs ≡ [] = f (subst (λ (n : ℕ). 65536 < n) e h) in absurd (cc))

pub met-width : (base t : SvType) (vs : List Named) → width_of t ≡ width_of base → AreMet base vs → HaveWidth (width_of t) vs
met-width base t [] e a = tt
met-width base t (v ∷ vs) e a = have-width (width_of t) base (v ∷ vs) (sym e) (short-by base t v vs e a.short) a.bits

pub found-is : (k : Context) (id : ℕ) (base t : SvType) (list : List EnumName) (vs : List Named) (names : List ParamValue) → list ≡ map (enum_name k.source) vs → t ≡ V.Enum id base list
    → names ≡ latest_first (map (valued k t) vs) → AllInBase base vs → the_found t names ≡ T.enum_found k id base (values_of base vs)
found-is k id base t list vs names l is ns a =
    let typed : t ≡ V.Enum id base (map (T.enum_name k.source base) (values_of base vs)) = is ∙ ap (V.Enum id base) (l ∙ names-are k.source base vs a) in
    let wide : width_of t ≡ width_of base = ap width_of is ∙ enum-width id base list in
    ap (the_found t) (ns ∙ ap latest_first (constants-by k t base vs wide a))
    ∙ ap (λ (u : SvType). the_found u (latest_first (map (value_in k u) (values_of base vs)))) typed

-- the latest name first
pub latest-more : (f : Named → ParamValue) (vs : List Named) (v : Named) → latest_first (map f (vs ++ v ∷ [])) ≡ f v ∷ latest_first (map f vs)
latest-more f [] v = refl
latest-more f (w ∷ vs) v = ap (λ (xs : List ParamValue). xs ++ f w ∷ []) (latest-more f vs v)

pub constants-more : (k : Context) (t : SvType) (ms : List Named) (i : ℕ) (v : Named) (n : ℕ) (x : ParamValue) (before after : List ParamValue) → i < length ms → v ≡ get_or ms i v
    → before ≡ latest_first (map (valued k t) (take i ms)) → n ≡ k.declared v.at → x ≡ constant_with t v.bits n → after ≡ x ∷ before → after ≡ latest_first (map (valued k t) (take (i + 1) ms))
constants-more k t ms i v n x before after h is so d e p =
    p ∙ ap (λ (vs : List ParamValue). x ∷ vs) so ∙ ap (λ (y : ParamValue). y ∷ latest_first (map (valued k t) (take i ms))) (e ∙ ap (constant_with t v.bits) d)
    ∙ sym (latest-more (valued k t) (take i ms) v)
    ∙ ap (λ (vs : List Named). latest_first (map (valued k t) vs)) (ap (λ (y : Named). take i ms ++ y ∷ []) is ∙ sym (take_more ms i v h))

-- the bits of the name at a place
pub long-at : (w : ℕ) (ms : List Named) (i : ℕ) (v d : Named) → i < length ms → v ≡ get_or ms i d → HaveWidth w ms → length v.bits ≡ w
long-at w [] i v d h is a = absurd (omega arith)
long-at w (m ∷ ms) zero v d h is a = ap (λ (x : Named). length x.bits) is ∙ a.0
long-at w (m ∷ ms) (suc i) v d h is a = long-at w ms i v d (omega arith) is a.2

pub narrow-at : (w : ℕ) (ms : List Named) (i : ℕ) → i < length ms → HaveWidth w ms → w ≤ 4194304
narrow-at w [] i h a = absurd (omega arith)
narrow-at w (m ∷ ms) i h a = a.1

-- an enum as the code has made it
pub found-by : (k : Context) (s : Source) (id : ℕ) (base box : SvType) (list : List EnumName) (vs : List Named) (names : List ParamValue) → s ≡ k.source → box ≡ base → list ≡ map (enum_name s) vs
    → names ≡ latest_first (map (valued k (V.Enum id box list)) vs) → AllInBase base vs → the_found (V.Enum id box list) names ≡ T.enum_found k id base (values_of base vs)
found-by k s id base box list vs names is same l ns a =
    found-is k id base (V.Enum id box list) list vs names (l ∙ ap (λ (z : Source). map (enum_name z) vs) is) (ap (λ (t : SvType). V.Enum id t list) same) ns a

-- a base that is a named type
pub base-by-name : (k : Context) (o : Option EnumBase) (b : EnumBase) (of : QualifiedName) (ds es : List Dimension) (r : Result SvType Halt) (fs gs : List Function) → o ≡ Some b → b ≡ B.Named of ds → es ≡ ds
    → TypesTo r (base_named k of es fs) gs → TypesTo r (base_type k o fs) gs
base-by-name k o b of ds es r fs gs e f g p =
    subst (λ (x : Option EnumBase). TypesTo r (base_type k x fs) gs) (sym (e ∙ ap Some f)) (subst (λ (xs : List Dimension). TypesTo r (base_named k of xs fs) gs) g p)

-- a base and the names behind it
abbrev rest_by : Context → List W.EnumName → Option SvType → Typing (List NameValue)
rest_by k ns o = values_by k o ns

abbrev found_of : Context → ℕ → SvType → List NameValue → TypeFound
found_of k at b vs = T.enum_found k at b vs

pub base-stops : (k : Context) (at : ℕ) (base : Option EnumBase) (ns : List W.EnumName) (h : Halt) (fs gs : List Function) → TypesTo {A = SvType} (Err h) (base_type k base fs) gs
    → TypesTo {A = TypeFound} (Err h) (enum_of k at base ns fs) gs
base-stops k at base ns H.Memory fs gs p = tt
base-stops k at base ns (H.Breaks n r) fs gs p = broken-turn (base_type k base) (rest_by k ns) (found_of k at) n r fs gs gs p
base-stops k at base ns H.Quiet fs gs p = quiet-turn (base_type k base) (rest_by k ns) (found_of k at) (Err H.Quiet) fs gs gs p (record { quiet = refl; functions = refl })

pub names-stop : (k : Context) (at : ℕ) (base : Option EnumBase) (b : SvType) (ns : List W.EnumName) (h : Halt) (fs gs hs : List Function) → TypesTo (Ok b) (base_type k base fs) gs
    → TypesTo {A = List NameValue} (Err h) (name_values k b false [] None ns gs) hs → TypesTo {A = TypeFound} (Err h) (enum_of k at base ns fs) hs
names-stop k at base b ns h fs gs hs p q = whole-turn (base_type k base) (rest_by k ns) (found_of k at) b (Err h) fs gs hs p q

pub enum-types : (k : Context) (at : ℕ) (base : Option EnumBase) (b : SvType) (ns : List W.EnumName) (vs : List NameValue) (f : TypeFound) (fs gs hs : List Function) → TypesTo (Ok b) (base_type k base fs) gs
    → TypesTo (Ok vs) (name_values k b false [] None ns gs) hs → f ≡ T.enum_found k at b vs → TypesTo (Ok f) (enum_of k at base ns fs) hs
enum-types k at base b ns vs f fs gs hs p q is =
    subst (λ (x : TypeFound). TypesTo (Ok x) (enum_of k at base ns fs) hs) (sym is) (whole-turn (base_type k base) (rest_by k ns) (found_of k at) b (Ok vs) fs gs hs p q)

-- what is found of a sound text is sound
module _ (Q : List Function → Type 0) where
  abbrev AllShort : SvType → List NameValue → List Function → Type 0
  AllShort b vs gs = AllHold (Short b) vs gs

  names-kept : (k : Context) (ns : List W.EnumName) → Surrounded Q k → names_written ns ≡ true → (o : Option SvType) (gs : List Function) → Q gs → IfKnown FullType o gs
      → Kept (List NameValue) Q (N.KnownWith Q AllShort o) gs (values_by k o ns gs)
  names-kept k ns r w None gs q s = K.broken-keeps Q (N.KnownWith Q AllShort None) Quiet gs q
  names-kept k ns r w (Some b) gs q s = X.names-keep Q ns k b false [] None r s w gs q

  enum-keeps : (k : Context) (at : ℕ) (base : Option EnumBase) (ns : List W.EnumName) → Surrounded Q k → base_written base ≡ true → names_written ns ≡ true → Keeps Q SoundFound (enum_of k at base ns)
  enum-keeps k at base ns r v w =
      N.with-keeps Q FullType AllShort SoundFound (base_type k base) (rest_by k ns) (λ b vs. whole (T.enum_found k at b vs)) full-lasts (X.base-keeps Q k base r v) (names-kept k ns r w)
      (λ b vs js q full a. K.whole-kept Q SoundFound (T.enum_found k at b vs) js q (enum-sound k at b vs js full a))

  pub enum-sounds : (k : Context) (at : ℕ) (base : Option EnumBase) (ns : List W.EnumName) (f : TypeFound) (fs gs : List Function) → Surrounded Q k → base_written base ≡ true → names_written ns ≡ true → Q fs
      → TypesTo (Ok f) (enum_of k at base ns fs) gs → AllValuesSound f.names
  enum-sounds k at base ns f fs gs r v w q p = ((enum-keeps k at base ns r v w fs q).sound f (ap (λ (t : Typed TypeFound). t.result) p)).names

  pub base-full : (k : Context) (base : Option EnumBase) (b : SvType) (fs gs : List Function) → Surrounded Q k → base_written base ≡ true → Q fs → TypesTo (Ok b) (base_type k base fs) gs → is_full b ≡ true
  base-full k base b fs gs r w q p = (X.base-keeps Q k base r w fs q).sound b (ap (λ (t : Typed SvType). t.result) p)

pub ruleset declaring = (base-value, name-surrounded, bits-long)

pub ruleset founding = (found-by, met-width, enum-width, constants-more, long-at, narrow-at)

pub ruleset basing = (base-by-name)

pub ruleset enumerating = (base-full, base-stops, names-stop, enum-types, enum-sounds)

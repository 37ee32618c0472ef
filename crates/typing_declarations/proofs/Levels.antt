-- Types, one level at a time.
use Rattle.std.proofs.Common.{◌≡◌, ℕ, Bool, true, ◌&&◌, List, [], ◌∷◌, map, Option, refl, sym, ap, ◌∙◌, subst}
use Rattle.std.specs.Prelude.{Result, Ok, Err, is_some}
use Rattle.sv_tree.specs.declared.expressions.Dimension.{Dimension}
use Rattle.sv_tree.specs.declared.names.QualifiedName.{QualifiedName}
use Rattle.sv_tree.specs.declared.names.Signing.{Signing}
use Rattle.sv_tree.specs.declared.types.Aggregate.{Aggregate}
use Rattle.sv_tree.specs.declared.types.EnumBase.{EnumBase}
use Rattle.sv_tree.specs.declared.types.EnumName.{EnumName}
use Rattle.sv_tree.specs.declared.types.KeywordType.{KeywordType}
use Rattle.sv_tree.specs.declared.types.Member.{Member, fold_out-Member, out-Member}
use Rattle.sv_tree.specs.declared.types.Packing.{Packing}
use Rattle.sv_tree.specs.declared.types.TypeText.{TypeText, TypeText-F, fold-roll-TypeText, map-TypeText, roll-TypeText}
use Rattle.sv_tree.specs.declared.types.TypeText.TheVariants as X
use Rattle.sv_types.specs.declared.statement.Function.{Function}
use Rattle.sv_types.specs.declared.types.SvType.{SvType}
use Rattle.expr_type.specs.declared.halt.Halt.{Halt}
use Rattle.expr_type.specs.declared.halt.Halt.TheVariants as H
use Rattle.expr_type.specs.KeywordTypes.{implicit_type, keyword_type}
use Rattle.expr_type.specs.Names.{Context}
use Rattle.expr_type.specs.Types.{Fields, FieldsMeaning, TypeFound, TypeMeaning, all_fields, dims, member_step, named_with, only, type_step, typed_text}
use Rattle.expr_type.specs.Typings.{Checked, Typed, Typing, applied, checked, whole}
use Rattle.typing_fits.proofs.Full.{and-left, and-right}
use Rattle.typing_walks.specs.Written as W
use Rattle.typing_walks.specs.WrittenTypes as R
use Rattle.typing_walks.specs.WrittenTypes.{base_written, dims_written, name_written, names_written, type_written}
use Rattle.typing_scopes.specs.Ahead.{mapped}
use Rattle.typing_steps.specs.Steps.{TypesTo}
use Rattle.typing_steps.proofs.Combining.{checked-fine, checked-stops}
use Rattle.typing_declarations.specs.Naming.{enum_of}
use Rattle.typing_declarations.specs.Types.{implicit_of, keyword_of}
use Rattle.typing_declarations.specs.Texts.{fields_written, member_by, member_meaning, member_written, members_written, packed_by, struct_by}

-- a type whose text declares no names
abbrev lift : Checked SvType → Checked TypeFound
lift (Ok t) = Ok (only t)
lift (Err b) = Err b

abbrev lifted : Typed SvType → Typed TypeFound
lifted t = record { result = lift t.result; functions = t.functions }

only-by : {A : Type 0} (f : A → SvType) (c : Checked A) (r : Result SvType Halt) (hs gs : List Function) → TypesTo r (applied c (λ d. whole (f d)) hs) gs → TypesTo (mapped only r) (applied c (λ d. whole (only (f d))) hs) gs
only-by f (Ok d) (Ok t) hs gs p = ap lifted p
only-by f (Err b) (Ok t) hs gs p = ap lifted p
only-by f c (Err H.Memory) hs gs p = tt
only-by f (Ok d) (Err (H.Breaks at n)) hs gs p = p
only-by f (Err b) (Err (H.Breaks at n)) hs gs p = p
only-by f (Ok d) (Err H.Quiet) hs gs p = record { quiet = p.quiet; functions = p.functions }
only-by f (Err b) (Err H.Quiet) hs gs p = record { quiet = p.quiet; functions = p.functions }

only-types : {A : Type 0} (x : Typing A) (f : A → SvType) (r : Result SvType Halt) (fs gs : List Function) → TypesTo r (checked x (λ d. whole (f d)) fs) gs → TypesTo (mapped only r) (checked x (λ d. whole (only (f d))) fs) gs
only-types x f r fs gs p = only-by f (x fs).result r (x fs).functions gs p

-- each form
meant : (t : TypeText) (y : TypeText-F TypeText Member) → t ≡ roll-TypeText y → typed_text t ≡ type_step (map-TypeText TypeText Member TypeMeaning FieldsMeaning typed_text member_meaning y)
meant t y is = ap typed_text is ∙ fold-roll-TypeText TypeMeaning FieldsMeaning type_step member_step y

meant-by : (k : Context) (t : TypeText) (y : TypeText-F TypeText Member) (r : Result TypeFound Halt) (fs gs : List Function) → t ≡ roll-TypeText y
    → TypesTo r (type_step (map-TypeText TypeText Member TypeMeaning FieldsMeaning typed_text member_meaning y) k fs) gs → TypesTo r (typed_text t k fs) gs
meant-by k t y r fs gs is p = subst (λ (m : TypeMeaning). TypesTo r (m k fs) gs) (sym (meant t y is)) p

written-by : (t : TypeText) (y : TypeText-F TypeText Member) → t ≡ roll-TypeText y → type_written t ≡ true → R.type_step (map-TypeText TypeText Member Bool Bool type_written member_written y) ≡ true
written-by t y is w = sym (ap type_written is ∙ fold-roll-TypeText Bool Bool R.type_step R.member_step y) ∙ w

module _ (k : Context) (t : TypeText) (fs gs : List Function) where
  pub keyword-meant : (of : KeywordType) (ds : List Dimension) (r : Result SvType Halt) → t ≡ X.Keyword of ds → TypesTo r (keyword_of k of ds fs) gs → TypesTo (mapped only r) (typed_text t k fs) gs
  keyword-meant of ds r is p = meant-by k t (TypeText-F.Keyword of ds) (mapped only r) fs gs (is ∙ sym (X.rolls-Keyword of ds)) (only-types (dims k ds) (keyword_type of) r fs gs p)

  pub implicit-meant : (s : Option Signing) (ds : List Dimension) (r : Result SvType Halt) → t ≡ X.Implicit s ds → TypesTo r (implicit_of k s ds fs) gs → TypesTo (mapped only r) (typed_text t k fs) gs
  implicit-meant s ds r is p = meant-by k t (TypeText-F.Implicit s ds) (mapped only r) fs gs (is ∙ sym (X.rolls-Implicit s ds)) (only-types (dims k ds) (implicit_type s) r fs gs p)

  named-by : (of : QualifiedName) (ds : List Dimension) (r : Result SvType Halt) → TypesTo r (named_with k of ds fs) gs → TypesTo (mapped only r) (checked (named_with k of ds) (λ u. whole (only u)) fs) gs
  named-by of ds (Ok u) p = checked-fine (named_with k of ds) (λ u. whole (only u)) fs gs gs u (Ok (only u)) p refl
  named-by of ds (Err h) p = checked-stops (named_with k of ds) (λ u. whole (only u)) fs gs h p

  pub named-meant : (of : QualifiedName) (ds : List Dimension) (r : Result SvType Halt) → t ≡ X.Named of ds → TypesTo r (named_with k of ds fs) gs → TypesTo (mapped only r) (typed_text t k fs) gs
  named-meant of ds r is p = meant-by k t (TypeText-F.Named of ds) (mapped only r) fs gs (is ∙ sym (X.rolls-Named of ds)) (named-by of ds r p)

  pub structure-meant : (of : Aggregate) (packing : Option Packing) (opening : ℕ) (ms : List Member) (closing : ℕ) (ds : List Dimension) (r : Result TypeFound Halt) → t ≡ X.Structure of packing opening ms closing ds
      → TypesTo r (packed_by k (struct_by k.source of packing (all_fields k (is_some packing) (map member_meaning ms))) ds fs) gs → TypesTo r (typed_text t k fs) gs
  structure-meant of packing opening ms closing ds r is p =
      meant-by k t (TypeText-F.Structure of packing opening ms closing ds) r fs gs (is ∙ sym (X.rolls-Structure of packing opening ms closing ds)) p

  pub enumeration-meant : (keyword : ℕ) (base : Option EnumBase) (opening : ℕ) (ns : List EnumName) (closing : ℕ) (ds : List Dimension) (r : Result TypeFound Halt) → t ≡ X.Enumeration keyword base opening ns closing ds
      → TypesTo r (packed_by k (enum_of k keyword base ns) ds fs) gs → TypesTo r (typed_text t k fs) gs
  enumeration-meant keyword base opening ns closing ds r is p =
      meant-by k t (TypeText-F.Enumeration keyword base opening ns closing ds) r fs gs (is ∙ sym (X.rolls-Enumeration keyword base opening ns closing ds)) p

-- what is written in each form
module _ (t : TypeText) (w : type_written t ≡ true) where
  pub keyword-written : (of : KeywordType) (ds : List Dimension) → t ≡ X.Keyword of ds → dims_written ds ≡ true
  keyword-written of ds is = written-by t (TypeText-F.Keyword of ds) (is ∙ sym (X.rolls-Keyword of ds)) w

  pub implicit-written : (s : Option Signing) (ds : List Dimension) → t ≡ X.Implicit s ds → dims_written ds ≡ true
  implicit-written s ds is = written-by t (TypeText-F.Implicit s ds) (is ∙ sym (X.rolls-Implicit s ds)) w

  pub named-written : (of : QualifiedName) (ds : List Dimension) → t ≡ X.Named of ds → dims_written ds ≡ true
  named-written of ds is = written-by t (TypeText-F.Named of ds) (is ∙ sym (X.rolls-Named of ds)) w

  module _ (of : Aggregate) (packing : Option Packing) (opening : ℕ) (ms : List Member) (closing : ℕ) (ds : List Dimension) (is : t ≡ X.Structure of packing opening ms closing ds) where
    both-written : (W.some_and_all (map member_written ms) && dims_written ds) ≡ true
    both-written = written-by t (TypeText-F.Structure of packing opening ms closing ds) (is ∙ sym (X.rolls-Structure of packing opening ms closing ds)) w

    all-by : (bs : List Bool) → W.some_and_all bs ≡ true → W.all bs ≡ true
    all-by [] e = absurd (cc)
    all-by (b ∷ bs) e = e

    pub structure-written : members_written ms ≡ true
    structure-written = all-by (map member_written ms) (and-left (W.some_and_all (map member_written ms)) (dims_written ds) both-written)

    pub structure-dims : dims_written ds ≡ true
    structure-dims = and-right (W.some_and_all (map member_written ms)) (dims_written ds) both-written

  module _ (keyword : ℕ) (base : Option EnumBase) (opening : ℕ) (ns : List EnumName) (closing : ℕ) (ds : List Dimension) (is : t ≡ X.Enumeration keyword base opening ns closing ds) where
    parts-written : (base_written base && (names_written ns && dims_written ds)) ≡ true
    parts-written = written-by t (TypeText-F.Enumeration keyword base opening ns closing ds) (is ∙ sym (X.rolls-Enumeration keyword base opening ns closing ds)) w

    rest-written : (names_written ns && dims_written ds) ≡ true
    rest-written = and-right (base_written base) (names_written ns && dims_written ds) parts-written

    pub enumeration-base : base_written base ≡ true
    enumeration-base = and-left (base_written base) (names_written ns && dims_written ds) parts-written

    pub enumeration-names : names_written ns ≡ true
    enumeration-names = and-left (names_written ns) (dims_written ds) rest-written

    pub enumeration-dims : dims_written ds ≡ true
    enumeration-dims = and-right (names_written ns) (dims_written ds) rest-written

-- members
pub member-meant : (k : Context) (inside : Bool) (m : Member) (r : Result Fields Halt) (fs gs : List Function) → TypesTo r (member_by k inside (typed_text (out-Member m).of k) (out-Member m).names fs) gs
    → TypesTo r (member_meaning m k inside fs) gs
member-meant k inside m r fs gs p = subst (λ (x : FieldsMeaning). TypesTo r (x k inside fs) gs) (sym (fold_out-Member TypeMeaning FieldsMeaning type_step member_step m)) p

member-parts : (m : Member) → member_written m ≡ true → R.member_step (record { of = type_written (out-Member m).of; names = (out-Member m).names; semicolon = (out-Member m).semicolon }) ≡ true
member-parts m w = sym (fold_out-Member Bool Bool R.type_step R.member_step m) ∙ w

pub member-type : (m : Member) → member_written m ≡ true → type_written (out-Member m).of ≡ true
member-type m w = and-left (type_written (out-Member m).of) (W.some_and_all (map name_written (out-Member m).names)) (member-parts m w)

some-by : (bs : List Bool) → W.some_and_all bs ≡ true → W.all bs ≡ true
some-by [] e = absurd (cc)
some-by (b ∷ bs) e = e

pub member-names : (m : Member) → member_written m ≡ true → fields_written (out-Member m).names ≡ true
member-names m w =
    some-by (map name_written (out-Member m).names) (and-right (type_written (out-Member m).of) (W.some_and_all (map name_written (out-Member m).names)) (member-parts m w))

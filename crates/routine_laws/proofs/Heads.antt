-- Formals and results of functions in a sound text.
use Rattle.std.proofs.Common.{◌≡◌, ℕ, Bool, true, false, cond, List, [], ◌∷◌, map, Option, Some, None, refl, sym, subst}
use Rattle.std.specs.Prelude.{Ok}
use Rattle.sv_tree.specs.declared.expressions.Dimension.{Dimension}
use Rattle.sv_tree.specs.declared.functions.Formal as G
use Rattle.sv_tree.specs.declared.functions.FormalDirection.{FormalDirection}
use Rattle.sv_tree.specs.declared.functions.FunctionResult.{FunctionResult}
use Rattle.sv_tree.specs.declared.functions.FunctionResult.TheVariants as R
use Rattle.sv_tree.specs.declared.ports.PortText.{PortText}
use Rattle.sv_tree.specs.declared.ports.PortText.TheVariants as P
use Rattle.sv_types.specs.declared.frame.ParamValue.{ParamValue}
use Rattle.sv_types.specs.declared.statement.Formal.{Formal}
use Rattle.sv_types.specs.declared.statement.Function.{Function}
use Rattle.sv_types.specs.declared.statement.FunctionKind.{FunctionKind}
use Rattle.sv_types.specs.declared.statement.FunctionKind.TheVariants as K
use Rattle.sv_types.specs.declared.statement.Way.{Way}
use Rattle.sv_types.specs.declared.types.SvType.{SvType}
use Rattle.sv_types.specs.Layouts.{width_of}
use Rattle.expr_type.specs.Breaks.{Quiet}
use Rattle.expr_type.specs.Typings.{Checked, Typing, whole, broken, rule}
use Rattle.expr_type.specs.Shapes.{one_bit}
use Rattle.expr_type.specs.Names.{Context, LocalId, with_values, local_id, spot}
use Rattle.expr_type.specs.Operators.{not_too_long}
use Rattle.expr_type.specs.Types.{TypeFound, only, typed_text, declared_type}
use Rattle.expr_type.specs.Functions.{way_by, Before, at_first, FormalFound, formal_found, type_if, names_if, typed_formal, type_before, formal_text, before_if, behind_formal, formals, behind_formals, ResultFound, function_result, own_result, in_body, is_plain, output_bits, Head, head_of, head, behind_head}
use Rattle.typing_fits.specs.Types.{is_full}
use Rattle.typing_fits.specs.Sound.{Extends, IsNarrowType}
use Rattle.typing_fits.specs.Operands.{AllValuesSound, AllLocalsNarrow, AllFormalsFull}
use Rattle.typing_fits.proofs.Full.{and-left, and-right}
use Rattle.typing_fits.proofs.Names.{values-behind, locals-behind}
use Rattle.typing_fits.proofs.Selects.{long-no, long-then}
use Rattle.typing_fits.proofs.Vectors.{narrow-one_bit}
use Rattle.typing_walks.specs.Keeps.{Kept, Keeps, Lasts, FullType, Surrounded}
use Rattle.typing_walks.specs.WrittenTypes.{dims_written, type_written}
use Rattle.typing_walks.proofs.Keeping as Y
use Rattle.typing_walks.proofs.Knowing as N
use Rattle.typing_walks.proofs.Knowing.{IfKnown}
use Rattle.routine_fits.specs.Sound.{AllFormalsNarrow}
use Rattle.stmt_laws.specs.Sound.{SoundType, PerhapsFull, NarrowResult, AroundStatements}
use Rattle.stmt_laws.proofs.Declared.{type-lasts, text-keeps, perhaps-declared, names-sound}
use Rattle.routine_laws.specs.Texts.{port_written, formals_written, result_written}
use Rattle.routine_laws.specs.Sound.{PerhapsType, SoundFormal, AllSoundFormals, SoundResult, SoundHead}
use Rattle.routine_laws.proofs.Giving.{one-whole}

-- one `logic` bit
one-bit : (gs : List Function) → SoundType (only one_bit) gs
one-bit gs = record { full = narrow-one_bit.full; names = tt }

pub first-type : (gs : List Function) → PerhapsType at_first.of gs
first-type gs = one-bit gs

-- where more functions are known
perhaps-later : (o : Option TypeFound) (gs hs : List Function) → Extends gs hs → PerhapsType o gs → PerhapsType o hs
perhaps-later None gs hs e s = tt
perhaps-later (Some f) gs hs e s = type-lasts f gs hs e s

formal-lasts : Lasts SoundFormal
formal-lasts f gs hs e s = record { before = perhaps-later f.before.of gs hs e s.before; id = s.id; formal = s.formal; names = s.names }

pub formals-last : Lasts AllSoundFormals
formals-last [] gs hs e s = tt
formals-last (f ∷ fs) gs hs e s = (formal-lasts f gs hs e s.0, formals-last fs gs hs e s.1)

pub result-lasts : Lasts SoundResult
result-lasts r gs hs e s = record { of = s.of; names = s.names }

-- a formal
abbrev formal_ok : FormalFound → Checked FormalFound
formal_ok f = Ok f

found-sound : (k : Context) (way : Way) (f : TypeFound) (at : ℕ) (t : SvType) (names : List ParamValue) (x : FormalFound) (gs : List Function) → formal_found k way f at t names ≡ Ok x → SoundType f gs → is_full t ≡ true
    → AllValuesSound names → SoundFormal x gs
found-sound k way f at t names x gs h s full vs =
    let id : LocalId = local_id k at t in
    let made : FormalFound = record { before = record { way = way; of = Some f }; id = id; formal = record { local = record { number = id.number; of = t; initial = None }; way = way; spot = spot k.source at }; names = names } in
    let of : IsNarrowType t = record { full = full; narrow = long-no k.source at (width_of t) (formal_ok made) x h } in
    one-whole (λ (y : FormalFound). SoundFormal y gs) made x (long-then k.source at (width_of t) (formal_ok made) x h) (record { before = s; id = of; formal = of; names = vs })

names-if : (b : Bool) (f : TypeFound) (gs : List Function) → SoundType f gs → AllValuesSound (cond b f.names [])
names-if true f gs s = s.names
names-if false f gs s = tt

type-known : (o : Option TypeFound) (gs : List Function) → IfKnown SoundType o gs → PerhapsFull (type_if o)
type-known None gs s = tt
type-known (Some f) gs s = s.full

-- formals and results
abbrev pub formal_of : FormalFound → Formal
formal_of f = f.formal

pub formals-full : (fs : List FormalFound) (gs : List Function) → AllSoundFormals fs gs → AllFormalsFull (map formal_of fs)
formals-full [] gs s = tt
formals-full (f ∷ fs) gs s = (s.0.formal.full, formals-full fs gs s.1)

pub formals-narrow : (fs : List FormalFound) (gs : List Function) → AllSoundFormals fs gs → AllFormalsNarrow (map formal_of fs)
formals-narrow [] gs s = tt
formals-narrow (f ∷ fs) gs s = (s.0.formal.narrow, formals-narrow fs gs s.1)

own-narrow : (k : Context) (name : ℕ) (r : ResultFound) (b : Bool) → IsNarrowType r.of → AllLocalsNarrow (cond b (record { decl = k.declared name; number = 0; of = r.of } ∷ []) [])
own-narrow k name r true s = (s, tt)
own-narrow k name r false s = tt

result-narrow : (r : ResultFound) (b : Bool) → IsNarrowType r.of → NarrowResult (cond b (Some r.of) None)
result-narrow r true s = s
result-narrow r false s = tt

module _ (Q : List Function → Type 0) where
  names-known : (k : Context) (o : Option TypeFound) (gs : List Function) → Surrounded Q k → IfKnown SoundType o gs → Surrounded Q (names_if k o)
  names-known k None gs r s = r
  names-known k (Some f) gs r s = names-sound Q k f gs r s

  declared-known : (k : Context) (o : Option TypeFound) (ds : List Dimension) (gs : List Function) → Surrounded Q k → dims_written ds ≡ true → Q gs → IfKnown SoundType o gs
      → Kept SvType Q FullType gs (declared_type (names_if k o) (type_if o) ds gs)
  declared-known k o ds gs r w q s = perhaps-declared Q (names_if k o) (type_if o) ds (names-known k o gs r s) w (type-known o gs s) gs q

  typed-keeps : (k : Context) (way : Way) (x : Typing TypeFound) (at : ℕ) (ds : List Dimension) (declares : Bool) → Surrounded Q k → dims_written ds ≡ true → Keeps Q SoundType x → Keeps Q SoundFormal (typed_formal k way x at ds declares)
  typed-keeps k way x at ds declares r w h =
      N.by-keeps Q SoundType FullType SoundFormal x (λ o. declared_type (names_if k o) (type_if o) ds) (λ f t. rule (formal_found k way f at t (cond declares f.names []))) type-lasts h (λ o gs q s. declared-known k o ds gs r w q s)
      (λ f t js q s full.
      Y.rule-kept Q SoundFormal (formal_found k way f at t (cond declares f.names [])) js q (λ y e. found-sound k way f at t (cond declares f.names []) y js e s full (names-if declares f js s)))

  before-keeps : (b : Before) (d : Option FormalDirection) (gs : List Function) → PerhapsType b.of gs → Q gs → Kept TypeFound Q SoundType gs (type_before b d gs)
  before-keeps b (Some d) gs s q = Y.whole-kept Q SoundType (only one_bit) gs q (one-bit gs)
  before-keeps b None gs s q = before-by b.of gs s q
    where
      before-by : (o : Option TypeFound) (gs : List Function) → PerhapsType o gs → Q gs → Kept TypeFound Q SoundType gs (elim o as (λ x. Typing TypeFound) [ None ↦ broken Quiet | Some f ↦ whole f ] gs)
      before-by None gs s q = Y.broken-keeps Q SoundType Quiet gs q
      before-by (Some f) gs s q = Y.whole-kept Q SoundType f gs q s

  text-keeps-formal : (k : Context) (b : Before) (d : Option FormalDirection) (p : PortText) → Surrounded Q k → port_written p ≡ true → ((gs : List Function) → PerhapsType b.of gs) → Keeps Q SoundFormal (formal_text k b d p)
  text-keeps-formal k b d (P.Typed of name ds) r w s =
      typed-keeps k (way_by b.way d) (typed_text of k) name ds true r (and-right (type_written of) (dims_written ds) w) (text-keeps Q k of r (and-left (type_written of) (dims_written ds) w))
  text-keeps-formal k b d (P.Bare name ds) r w s = typed-keeps k (way_by b.way d) (type_before b d) name ds false r w (λ gs q. before-keeps b d gs (s gs) q)
  text-keeps-formal k b d (P.Modport of dot modport name) r w s = Y.broken-keeps Q SoundFormal Quiet

  -- each behind those before it
  pub behind-one : (k : Context) (f : FormalFound) (gs : List Function) → Surrounded Q k → SoundFormal f gs → Surrounded Q (behind_formal k (Some f))
  behind-one k f gs r s = record { context = locals-behind (f.id ∷ []) (with_values f.names k) (s.id, tt) (values-behind f.names k s.names r.context); routines = r.routines }

  behind-known : (k : Context) (o : Option FormalFound) (gs : List Function) → Surrounded Q k → IfKnown SoundFormal o gs → Surrounded Q (behind_formal k o)
  behind-known k None gs r s = r
  behind-known k (Some f) gs r s = behind-one k f gs r s

  -- a type holds whatever functions are known
  any-functions : (o : Option TypeFound) (gs : List Function) → PerhapsType o gs → (hs : List Function) → PerhapsType o hs
  any-functions None gs s hs = tt
  any-functions (Some f) gs s hs = record { full = s.full; names = s.names }

  before-known : (way : Way) (d : Option FormalDirection) (o : Option FormalFound) (gs : List Function) → IfKnown SoundFormal o gs → (hs : List Function) → PerhapsType (before_if way d o).of hs
  before-known way d None gs s hs = tt
  before-known way d (Some f) gs s hs = any-functions f.before.of gs s.before hs

  pub formals-keep : (k : Context) (b : Before) (fs : List G.Formal) → Surrounded Q k → formals_written fs ≡ true → ((gs : List Function) → PerhapsType b.of gs) → Keeps Q AllSoundFormals (formals k b fs)
  formals-keep k b [] r w s = Y.whole-keeps Q AllSoundFormals [] (λ gs. tt)
  formals-keep k b (f ∷ fs) r w s =
      N.by-keeps Q SoundFormal AllSoundFormals AllSoundFormals (formal_text k b f.direction f.text) (λ o. formals (behind_formal k o) (before_if b.way f.direction o) fs) (λ x xs. whole (x ∷ xs)) formal-lasts
      (text-keeps-formal k b f.direction f.text r (and-left (port_written f.text) (formals_written fs) w) s)
      (λ o gs q x. formals-keep (behind_formal k o) (before_if b.way f.direction o) fs (behind-known k o gs r x) (and-right (port_written f.text) (formals_written fs) w) (before-known b.way f.direction o gs x) gs q)
      (λ x xs js q y z. Y.whole-kept Q AllSoundFormals (x ∷ xs) js q (y, z))

  -- the text behind formals
  behind-all : (k : Context) (fs : List FormalFound) (gs : List Function) → Surrounded Q k → AllSoundFormals fs gs → Surrounded Q (behind_formals k fs)
  behind-all k [] gs r s = r
  behind-all k (f ∷ fs) gs r s = behind-all (behind_formal k (Some f)) fs gs (behind-one k f gs r s.0) s.1

  same-result : (k : Context) (fs : List FormalFound) → (behind_formals k fs).result ≡ k.result
  same-result k [] = refl
  same-result k (f ∷ fs) = same-result (behind_formal k (Some f)) fs

  pub body-sound : (k : Context) (name : ℕ) (x : ResultFound) (gs : List Function) → Surrounded Q k → SoundResult x gs → Surrounded Q (in_body k name (Some x))
  body-sound k name x gs r s =
      let c = locals-behind (own_result k name x) (with_values x.names k) (own-narrow k name x (is_plain x.kind) s.of) (values-behind x.names k s.names r.context) in
      record { context = record { values = c.values; types = c.types; signals = c.signals; locals = c.locals }; routines = r.routines }

  body-known : (k : Context) (name : ℕ) (o : Option ResultFound) (gs : List Function) → Surrounded Q k → IfKnown SoundResult o gs → Surrounded Q (in_body k name o)
  body-known k name None gs r s = r
  body-known k name (Some x) gs r s = body-sound k name x gs r s

  pub behind-sound : (k : Context) (name : ℕ) (h : Head) (gs : List Function) → Surrounded Q k → SoundHead h gs → AroundStatements Q (behind_head k name (Some h))
  behind-sound k name h gs r s =
      let inner = in_body k name (Some h.result) in
      record {
        around = behind-all inner h.formals gs (body-sound k name h.result gs r s.result) s.formals;
        result = subst NarrowResult (sym (same-result inner h.formals)) (result-narrow h.result (is_plain h.result.kind) s.result.of);
      }

  -- results
  abbrev result_ok : ResultFound → Checked ResultFound
  result_ok x = Ok x

  result-of : (k : Context) (name : ℕ) (f : TypeFound) (t : SvType) (x : ResultFound) (gs : List Function) → not_too_long k.source name (width_of t) (result_ok (record { kind = K.Plain; of = t; names = f.names })) ≡ Ok x → SoundType f gs → is_full t ≡ true
      → SoundResult x gs
  result-of k name f t x gs h s full =
      let made : ResultFound = record { kind = K.Plain; of = t; names = f.names } in
      let of : IsNarrowType t = record { full = full; narrow = long-no k.source name (width_of t) (result_ok made) x h } in
      one-whole (λ (y : ResultFound). SoundResult y gs) made x (long-then k.source name (width_of t) (result_ok made) x h) (record { of = of; names = s.names })

  pub no-result : (kind : FunctionKind) → Keeps Q SoundResult (whole (record { kind = kind; of = one_bit; names = [] }))
  no-result kind = Y.whole-keeps Q SoundResult (record { kind = kind; of = one_bit; names = [] }) (λ gs. record { of = narrow-one_bit; names = tt })

  pub result-keeps : (k : Context) (name : ℕ) (ds : List Dimension) (x : FunctionResult) → Surrounded Q k → result_written x ≡ true → dims_written ds ≡ true → Keeps Q SoundResult (function_result k name ds x)
  result-keeps k name ds (R.Void keyword) r w v = no-result K.Routine
  result-keeps k name ds (R.Value of) r w v =
      N.by-keeps Q SoundType FullType SoundResult (typed_text of k) (λ o. declared_type (names_if k o) (type_if o) ds) (λ f t. rule (not_too_long k.source name (width_of t) (result_ok (record { kind = K.Plain; of = t; names = f.names })))) type-lasts
      (text-keeps Q k of r w) (λ o gs q s. declared-known k o ds gs r v q s)
      (λ f t js q s full. Y.rule-kept Q SoundResult (not_too_long k.source name (width_of t) (result_ok (record { kind = K.Plain; of = t; names = f.names }))) js q (λ x h. result-of k name f t x js h s full))

  -- heads
  abbrev head_ok : Head → Checked Head
  head_ok h = Ok h

  head-of : (k : Context) (name : ℕ) (x : ResultFound) (fs : List FormalFound) (h : Head) (gs : List Function) → head_of k name x fs ≡ Ok h → SoundResult x gs → AllSoundFormals fs gs → SoundHead h gs
  head-of k name x fs h gs e s t =
      let made : Head = record { result = x; formals = fs } in
      one-whole (λ (y : Head). SoundHead y gs) made h (long-then k.source name (output_bits fs) (head_ok made) h e) (record { result = s; formals = t })

  pub head-keeps : (k : Context) (name : ℕ) (x : Typing ResultFound) (fs : List G.Formal) → Surrounded Q k → formals_written fs ≡ true → Keeps Q SoundResult x → Keeps Q SoundHead (head k name x fs)
  head-keeps k name x fs r w h =
      N.by-keeps Q SoundResult AllSoundFormals SoundHead x (λ o. formals (in_body k name o) at_first fs) (λ y ys. rule (head_of k name y ys)) result-lasts h
      (λ o gs q s. formals-keep (in_body k name o) at_first fs (body-known k name o gs r s) w first-type gs q) (λ y ys js q s t. Y.rule-kept Q SoundHead (head_of k name y ys) js q (λ z e. head-of k name y ys z js e s t))

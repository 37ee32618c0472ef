-- What is assigned to keeps the order of the text: names with selects behind them, concatenations and streams. No operator stands in it.
use Rattle.std.proofs.Common.{◌≡◌, ℕ, suc, ◌≤◌, ◌<◌, ◌&&◌, Bool, true, false, List, [], ◌∷◌, map, Option, Some, None, cond, refl, sym, subst, arith}
use Rattle.std.specs.Prelude.{◌%◌, ◌==◌, nat_lt, not, Ok, Err}
use Rattle.std.specs.List.{list_any}
use Rattle.std.specs.Option.{option_map}
use Rattle.sv_tree.specs.Extents.{qualified_first}
use Rattle.sv_tree.specs.declared.expressions.Select.{Select}
use Rattle.sv_tree.specs.declared.expressions.SliceSize.{SliceSize}
use Rattle.sv_tree.specs.declared.names.QualifiedName.{QualifiedName}
use Rattle.sv_tree.specs.declared.operators.StreamOperator.{StreamOperator}
use Rattle.sv_tree.specs.declared.statements.Lvalue.{Lvalue, Lvalue-F, roll-Lvalue, map-Lvalue, ind-Lvalue, fold-roll-Lvalue}
use Rattle.sv_types.specs.declared.expression.Form.{Form}
use Rattle.sv_types.specs.declared.expression.Form.TheVariants as T
use Rattle.sv_types.specs.declared.frame.SignalId.{SignalId}
use Rattle.sv_types.specs.declared.types.SvType.{SvType}
use Rattle.sv_types.specs.Layouts.{width_of}
use Rattle.expr_type.specs.Breaks.{Quiet}
use Rattle.expr_type.specs.Typings.{Checked, Typing, broken, both, checked, all, refused, rule, whole}
use Rattle.expr_type.specs.Shapes.{most_bits, is_enum, is_indexed, is_unpacked, element_of, members_of, vector}
use Rattle.expr_type.specs.Names as N
use Rattle.expr_type.specs.Names.{Context, Source, Thing, position, thing, word, member_in}
use Rattle.expr_type.specs.declared.operand.Valued.{Valued}
use Rattle.expr_type.specs.declared.step.Step.{Step}
use Rattle.expr_type.specs.declared.step.Step.TheVariants.{Member, Index, Part, Slide}
use Rattle.expr_type.specs.Operators.{all_bits, by_itself, concat_of, exprs, not_too_long}
use Rattle.expr_type.specs.Selects as L
use Rattle.expr_type.specs.Selects.{path, stepped}
use Rattle.expr_type.specs.Forms as F
use Rattle.expr_type.specs.Forms.{SelectMeaning, steps, reverses, stream_of}
use Rattle.expr_type.specs.Expressions.{select_meaning, slice_meaning}
use Rattle.expr_type.specs.TargetNames as R
use Rattle.expr_type.specs.TargetNames.{named_target}
use Rattle.expr_type.specs.Targets.{Target, ToPath, ToParts, ToStream, TargetMeaning, TargetPart, whole_of, is_target_part, joined_target, stream_target, slice_or_one, simple_name, target, target_step}
use Rattle.expr_type.specs.Placed.{Ascend, Stands, StepStands, StepIf, MemberStands, SelectsInOrder, RoutinesInOrder}
use Rattle.expr_type.proofs.Ordering.{ascend-wider, place}
use Rattle.order_laws.specs.Ordered.{Tokens, in_row, if_there, slice_tokens, lvalue_step, lvalue_tokens}
use Rattle.order_laws.proofs.Tokens.{split}
use Rattle.order_laws.proofs.Typings.{PlacedAs, TypedAs, Each, as-wider, as-refused, as-then, as-checked, as-both, as-all, any-from, any-typing}
use Rattle.order_laws.proofs.Parts.{Ordered, PartsInOrder, each-of, each-known}

-- a typed path of a part of a text, in which no operator stands
abbrev pub IsPath : ℕ → ℕ → Valued → Type 0
IsPath low high v = Stands low high v × (v.arithmetic ≡ [])

pub stands-wider : (v : Valued) (low high low' high' : ℕ) → low' ≤ low → high ≤ high' → Stands low high v → Stands low' high' v
stands-wider v low high low' high' h m s = record {
  begins = let a = s.begins in omega arith;
  inner = s.inner;
  from = let a = s.from in omega arith;
  before = let a = s.before in omega arith;
  operators = ascend-wider v.arithmetic low high low' high' h m s.operators;
}

pub path-wider : (v : Valued) (low high low' high' : ℕ) → low' ≤ low → high ≤ high' → IsPath low high v → IsPath low' high' v
path-wider v low high low' high' h m s = (stands-wider v low high low' high' h m s.0, s.1)

module _ (k : Source) where
  pub leaf-path : (at low high : ℕ) (of : SvType) (form : Form) → low ≤ at → at < high → IsPath low high (by_itself k at of form)
  leaf-path at low high of form h m = (record { begins = h; inner = omega arith; from = h; before = m; operators = tt }, refl)

  pub long-path : (at first low high w : ℕ) (of : SvType) (form : Form) → low ≤ at → at < high → low ≤ first → first < high
      → PlacedAs (IsPath low high) k.instance low high (not_too_long k at w (Ok (by_itself k first of form)))
  long-path at first low high w of form h m n l =
      as-refused k.instance (IsPath low high) (nat_lt most_bits w) (position k at) 701 (Ok (by_itself k first of form)) low high (place k at low high h m)
      (leaf-path first low high of form n l)

  pub refused-path : (b : Bool) (at rule low high : ℕ) (x : Checked Valued) → low ≤ at → at < high → PlacedAs (IsPath low high) k.instance low high x
      → PlacedAs (IsPath low high) k.instance low high (refused b (position k at) rule x)
  refused-path b at rule low high x h m p = as-refused k.instance (IsPath low high) b (position k at) rule x low high (place k at low high h m) p

  -- selects behind what they select from
  member-path : (at low high : ℕ) (v : Valued) (o : Option L.Place) → low ≤ at → at < high → low ≤ v.first → v.first < high
      → PlacedAs (IsPath low high) k.instance low high (L.member_or k at v o)
  member-path at low high v None h m n l = place k at low high h m
  member-path at low high v (Some m) h n l o = long-path at v.first low high (width_of m.of) m.of (T.Member v.expr m.number) h n l o

  stepped-path : (v : Valued) (t : Step) (low between high : ℕ) → low ≤ between → between ≤ high → IsPath low between v → StepStands between high t
      → PlacedAs (IsPath low high) k.instance low high (stepped k v t)
  stepped-path v (Member name) low between high h m s t =
      let from = s.0.from in let before = s.0.before in let named = t.0 in
      member-path name low high v (L.named 0 (members_of v.expr.of) (word k name)) (omega arith) t.1 from (omega arith)
  stepped-path v (Index opening i) low between high h m s t =
      let from = s.0.from in let before = s.0.before in let opened = t.0 in
      refused-path (not (is_indexed v.expr.of)) opening 508 low high _ (omega arith) t.1
      (long-path opening v.first low high (width_of (element_of v.expr.of)) (element_of v.expr.of) (T.Index v.expr i.expr) (omega arith) t.1 from (omega arith))
  stepped-path v (Part opening left right) low between high h m s t =
      let from = s.0.from in let before = s.0.before in let opened = t.0 in let first = t.1 in let last = t.2 in
      let of = L.part_type v.expr.of left.number right.number in
      refused-path (is_unpacked v.expr.of) opening 508 low high _ (omega arith) (omega arith)
      (refused-path (L.goes_wrong v.expr.of left.number right.number) left.first 411 low high _ (omega arith) last
      (long-path opening v.first low high (width_of of) of (T.Part v.expr left.number right.number) (omega arith) (omega arith) from (omega arith)))
  stepped-path v (Slide opening up i n) low between high h m s t =
      let from = s.0.from in let before = s.0.before in let opened = t.0 in
      refused-path (is_unpacked v.expr.of) opening 508 low high _ (omega arith) t.1
      (long-path opening v.first low high _ _ _ (omega arith) t.1 from (omega arith))

pub path-stands : (k : Context) (ss : List SelectMeaning) (x : Typing Valued) (low between high : ℕ) → RoutinesInOrder k → low ≤ between
    → TypedAs (IsPath low between) k.source.instance low between x → SelectsInOrder between high ss
    → TypedAs (IsPath low high) k.source.instance low high (path k.source x (steps k ss))
path-stands k [] x low between high rs h p q =
    λ fs. as-wider k.source.instance (IsPath low between) (IsPath low high) (x fs).result low between low high (omega arith) q
    (λ v s. path-wider v low between low high (omega arith) q s) (p fs)
path-stands k (s ∷ ss) x low between high rs h p q =
    path-stands k ss (both x (s.step k) (λ v t. rule (stepped k.source v t))) low q.0 high rs (let a = q.1 in omega arith)
    (as-both k.source.instance (IsPath low between) (StepStands between q.0) (IsPath low q.0) x (s.step k) (λ v t. rule (stepped k.source v t)) low between q.0 h q.1 p
    (λ fs. step-as (s.step k fs).result (q.3.step k rs fs)) (λ v t a b fs. stepped-path k.source v t low between q.0 h q.1 a b))
    q.4
  where
    step-as : (t : Checked Step) → StepIf k.source.instance between q.0 t → PlacedAs (StepStands between q.0) k.source.instance between q.0 t
    step-as (Ok t) s = s
    step-as (Err b) s = s

-- members of interfaces
signal-path : (k : Source) (first low high : ℕ) (s : SignalId) → low ≤ first → first < high → PlacedAs (IsPath low high) k.instance low high (F.member_signal k first s)
signal-path k first low high s h m = by (nat_lt F.most_of_signals (width_of s.of))
  where
    by : (b : Bool) → PlacedAs (IsPath low high) k.instance low high (cond b (Err Quiet) (Ok (by_itself k first s.of (T.Signal s.signal))))
    by true = tt
    by false = leaf-path k first low high s.of (T.Signal s.signal) h m

member-target : (k : Context) (b : Bool) (first n at : ℕ) (o : Option SignalId) (low high : ℕ) → low ≤ first → first < high → low ≤ at → at < high
    → PlacedAs (IsPath low high) k.source.instance low high (R.member_target k b first n at o)
member-target k b first n at None low high h m p q = place k.source at low high p q
member-target k b first n at (Some s) low high h m p q =
    refused-path k.source (b && k.is_net_member n (word k.source at)) at 404 low high _ p q
    (refused-path k.source s.input at 410 low high _ p q (signal-path k.source first low high s h m))

lower-member : (low low' high : ℕ) (o : Option ℕ) → low' ≤ low → MemberStands low high o → MemberStands low' high o
lower-member low low' high None h m = tt
lower-member low low' high (Some at) h m = (omega arith, m.1)

interface-by : (k : Context) (b : Bool) (first n : ℕ) (s : SelectMeaning) (ss : List SelectMeaning) (low between high : ℕ) → RoutinesInOrder k → low ≤ first → first < between
    → (o : Option ℕ) → MemberStands low between o → SelectsInOrder between high ss
    → TypedAs (IsPath low high) k.source.instance low high (elim o [
      | None ↦ broken Quiet
      | Some at ↦ path k.source (rule (R.member_target k b first n at (member_in n (word k.source at) k.signals))) (steps k ss)
    ])
interface-by k b first n s ss low between high rs h m None q r = λ fs. tt
interface-by k b first n s ss low between high rs h m (Some at) q r =
    path-stands k ss (rule (R.member_target k b first n at (member_in n (word k.source at) k.signals))) low between high rs (omega arith)
    (λ fs. member-target k b first n at (member_in n (word k.source at) k.signals) low between h m q.0 q.1) r

interface-target : (k : Context) (b : Bool) (first n : ℕ) (ss : List SelectMeaning) (low from high : ℕ) → RoutinesInOrder k → low ≤ first → first < from → SelectsInOrder from high ss
    → TypedAs (IsPath low high) k.source.instance low high (R.interface_target k b first n ss)
interface-target k b first n [] low from high rs h m q = λ fs. tt
interface-target k b first n (s ∷ ss) low from high rs h m q =
    interface-by k b first n s ss low q.0 high rs h (let a = q.1 in omega arith) s.member
    (lower-member from low q.0 s.member (omega arith) q.3.member) q.4

-- names
from-before : (ss : List SelectMeaning) (from high : ℕ) → SelectsInOrder from high ss → from ≤ high
from-before [] from high q = q
from-before (s ∷ ss) from high q = let a = q.1 in let b = q.2 in omega arith

thing-target : (k : Context) (b : Bool) (first : ℕ) (net : Bool) (ss : List SelectMeaning) (low from high : ℕ) (t : Thing) → RoutinesInOrder k → low ≤ first → first < from
    → SelectsInOrder from high ss → TypedAs (IsPath low high) k.source.instance low high (R.thing_target k b first net ss t)
thing-target k b first net ss low from high (N.Signal n t) rs h m q =
    path-stands k ss (rule (refused (b && net) (position k.source first) 501 (Ok (by_itself k.source first t (T.Signal n))))) low from high rs (omega arith)
    (λ fs. refused-path k.source (b && net) first 501 low from _ h m (leaf-path k.source first low from t (T.Signal n) h m)) q
thing-target k b first net ss low from high (N.Local n t) rs h m q =
    path-stands k ss (whole (by_itself k.source first t (T.Local n))) low from high rs (omega arith) (λ fs. leaf-path k.source first low from t (T.Local n) h m) q
thing-target k b first net ss low from high (N.Constant t v) rs h m q = λ fs. place k.source first low high h (let e = from-before ss from high q in omega arith)
thing-target k b first net ss low from high (N.TypeName t) rs h m q = λ fs. tt
thing-target k b first net ss low from high (N.Interface n) rs h m q = interface-target k b first n ss low from high rs h m q
thing-target k b first net ss low from high (N.Other n) rs h m q = λ fs. tt
thing-target k b first net ss low from high N.Nothing rs h m q = λ fs. tt

pub named-stands : (k : Context) (b : Bool) (of : QualifiedName) (ss : List SelectMeaning) (low from high : ℕ) → RoutinesInOrder k → low ≤ qualified_first of → qualified_first of < from
    → SelectsInOrder from high ss → TypedAs (IsPath low high) k.source.instance low high (named_target k b of ss)
named-stands k b of ss low from high rs h m q =
    thing-target k b (qualified_first of) (R.is_net_found k (k.finds of)) ss low from high (thing k of) rs h m q

-- targets, form by form
abbrev pub TargetStands : ℕ → ℕ → Target → Type 0
TargetStands low high t = IsPath low high (whole_of t)

abbrev pub TargetInOrder : ℕ → ℕ → TargetMeaning → Type 0
TargetInOrder low high m = (k : Context) → RoutinesInOrder k → (b : Bool) → TypedAs (TargetStands low high) k.source.instance low high (m k b)

name-target : (name : ℕ) (ss : List Select) (low high : ℕ) → low ≤ name → SelectsInOrder (suc name) high (map select_meaning ss) → TargetInOrder low high (target_step (Lvalue-F.Name name ss))
name-target name ss low high h q k rs b =
    as-checked k.source.instance (IsPath low high) (TargetStands low high) (named_target k b (simple_name name) (map select_meaning ss)) (λ v. whole (ToPath v)) low high
    (named-stands k b (simple_name name) (map select_meaning ss) low (suc name) high rs h (omega arith) q) (λ v s fs. s)

-- concatenations
abbrev part : Context → Bool → TargetMeaning → Typing TargetPart
part k b t = checked (t k b) (λ u. rule (is_target_part k u))

part-stands : (k : Context) (low high : ℕ) (t : Target) → TargetStands low high t → PlacedAs (λ p. Unit {0}) k.source.instance low high (is_target_part k t)
part-stands k low high (ToPath v) s =
    as-refused k.source.instance (λ p. Unit {0}) (is_unpacked v.expr.of) (position k.source v.first) 508 (Ok (record { of = v; has_enum = is_enum v.expr.of })) low high
    (place k.source v.first low high s.0.from s.0.before) tt
part-stands k low high (ToParts v vs e) s = tt
part-stands k low high (ToStream v) s = place k.source v.first low high s.0.from s.0.before

part-in-order : (k : Context) (b : Bool) → RoutinesInOrder k → (low high : ℕ) (t : TargetMeaning) → TargetInOrder low high t → TypedAs (λ p. Unit {0}) k.source.instance low high (part k b t)
part-in-order k b rs low high t p =
    as-checked k.source.instance (TargetStands low high) (λ p. Unit {0}) (t k b) (λ u. rule (is_target_part k u)) low high (p k rs b) (λ u s fs. part-stands k low high u s)

parts-stand : (k : Context) (b : Bool) (ts : List TargetMeaning) (low high low' : ℕ) → RoutinesInOrder k → low' ≤ low → Each TargetInOrder low high ts
    → TypedAs (λ ps. Unit {0}) k.source.instance low' high (all (map (part k b) ts))
parts-stand k b ts low high low' rs h p =
    any-from k.source.instance (Each (λ l h p. Unit {0}) low high) (all (map (part k b) ts)) low high low' high h (omega arith)
    (as-all k.source.instance (λ l h p. Unit {0}) (map (part k b) ts) low high
    (each-of (part k b) TargetInOrder (λ l h x. TypedAs (λ p. Unit {0}) k.source.instance l h x) (part-in-order k b rs) ts low high p))

joined-stands : (k : Context) (opening low high : ℕ) (ps : List TargetPart) → low ≤ opening → opening < high → PlacedAs (TargetStands low high) k.source.instance low high (joined_target k opening ps)
joined-stands k opening low high ps h m =
    let vs = map (λ (p : TargetPart). p.of) ps in
    let w = all_bits (exprs vs) in
    as-then k.source.instance (IsPath low high) (TargetStands low high) (concat_of k.source opening (exprs vs)) (λ v. Ok (ToParts v vs (list_any (λ (p : TargetPart). p.has_enum) ps))) low high
    (long-path k.source opening opening low high w (vector w false) (T.Concat (exprs vs)) h m h m) (λ v s. s)

concatenated-target : (opening : ℕ) (ts : List TargetMeaning) (closing low high : ℕ) → low ≤ opening → opening < high → Each TargetInOrder (suc opening) high ts
    → TargetInOrder low high (target_step (Lvalue-F.Concatenation opening ts closing))
concatenated-target opening ts closing low high h m p k rs b =
    as-checked k.source.instance (λ ps. Unit {0}) (TargetStands low high) (all (map (part k b) ts)) (λ ps. rule (joined_target k opening ps)) low high
    (parts-stand k b ts (suc opening) high low rs (omega arith) p) (λ ps s fs. joined-stands k opening low high ps h m)

-- streams
abbrev streamed : Context → Bool → TargetMeaning → Typing Valued
streamed k b t = checked (t k b) (λ u. whole (whole_of u))

streamed-in-order : (k : Context) (b : Bool) → RoutinesInOrder k → (low high : ℕ) (t : TargetMeaning) → TargetInOrder low high t → TypedAs (λ v. Unit {0}) k.source.instance low high (streamed k b t)
streamed-in-order k b rs low high t p =
    as-checked k.source.instance (TargetStands low high) (λ v. Unit {0}) (t k b) (λ u. whole (whole_of u)) low high (p k rs b) (λ u s fs. tt)

all-streamed : (k : Context) (b : Bool) (ts : List TargetMeaning) (low high : ℕ) → RoutinesInOrder k → Each TargetInOrder low high ts
    → TypedAs (λ vs. Unit {0}) k.source.instance low high (all (map (streamed k b) ts))
all-streamed k b ts low high rs p =
    any-from k.source.instance (Each (λ l h v. Unit {0}) low high) (all (map (streamed k b) ts)) low high low high (omega arith) (omega arith)
    (as-all k.source.instance (λ l h v. Unit {0}) (map (streamed k b) ts) low high
    (each-of (streamed k b) TargetInOrder (λ l h x. TypedAs (λ v. Unit {0}) k.source.instance l h x) (streamed-in-order k b rs) ts low high p))

stream-stands : (k : Context) (opening low high : ℕ) (reversed : Bool) (n : ℕ) (vs : List Valued) → low ≤ opening → opening < high
    → PlacedAs (TargetStands low high) k.source.instance low high (stream_target k opening reversed n vs)
stream-stands k opening low high reversed n vs h m =
    let w = all_bits (exprs vs) in
    as-refused k.source.instance (TargetStands low high) (reversed && not (all_bits (exprs vs) % n == 0)) (position k.source opening) 511 _ low high
    (place k.source opening low high h m)
    (as-then k.source.instance (IsPath low high) (TargetStands low high) (stream_of k.source opening reversed n (exprs vs)) (λ v. Ok (ToStream v)) low high
    (long-path k.source opening opening low high w (vector w false) (T.Stream reversed n (exprs vs)) h m h m) (λ v s. s))

abbrev SliceInOrder : ℕ → ℕ → Option SliceSize → Type 0
SliceInOrder low high z = (k : Context) → RoutinesInOrder k → TypedAs (λ n. Unit {0}) k.source.instance low high (slice_or_one k z)

stream-target : (opening : ℕ) (op : StreamOperator) (at : ℕ) (z : Option SliceSize) (inner : ℕ) (ts : List TargetMeaning) (inner_closing closing low between high : ℕ)
    → low ≤ opening → opening < between → between ≤ high → SliceInOrder (suc opening) between z → Each TargetInOrder between high ts
    → TargetInOrder low high (target_step (Lvalue-F.Stream opening op at z inner ts inner_closing closing))
stream-target opening op at z inner ts inner_closing closing low between high h m n p q k rs b =
    as-both k.source.instance (λ n. Unit {0}) (λ vs. Unit {0}) (TargetStands low high) (slice_or_one k z) (all (map (streamed k b) ts))
    (λ size vs. rule (stream_target k opening (reverses op) size vs)) low between high (omega arith) n
    (any-from k.source.instance (λ n. Unit {0}) (slice_or_one k z) (suc opening) between low between (omega arith) (omega arith) (p k rs)) (all-streamed k b ts between high rs q)
    (λ size vs s t fs. stream-stands k opening low high (reverses op) size vs h (omega arith))

module _ (parts : PartsInOrder) where
  slice-in-order : (z : Option SliceSize) (low high : ℕ) → low ≤ high → Ascend low high (if_there (option_map slice_tokens z)) → SliceInOrder low high z
  slice-in-order None low high h a k rs = λ fs. tt
  slice-in-order (Some z) low high h a k rs = any-typing k.source.instance (slice_meaning z k) low high (parts.slice z low high h a k rs)

  -- each target
  abbrev OfMeaning : ℕ → ℕ → Lvalue → Type 0
  OfMeaning low high l = TargetInOrder low high (target l)

  abbrev OfLvalue : Lvalue → Type 0
  OfLvalue l = Ordered lvalue_tokens OfMeaning l

  abbrev ALvalue : Type 0
  ALvalue = (l : Lvalue) × OfLvalue l

  abbrev lvalue_in : Lvalue-F ALvalue → Lvalue-F Lvalue
  lvalue_in = map-Lvalue ALvalue Lvalue (λ e. e.0)

  each-target : (ys : List ALvalue) (low high : ℕ) → low ≤ high → Ascend low high (in_row (map lvalue_tokens (map (λ e. e.0) ys))) → Each TargetInOrder low high (map target (map (λ e. e.0) ys))
  each-target ys low high h a = each-of target OfMeaning TargetInOrder (λ l h x p. p) (map (λ e. e.0) ys) low high (each-known lvalue_tokens OfMeaning ys low high h a)

  lvalue-case : (y : Lvalue-F ALvalue) (low high : ℕ) → low ≤ high → Ascend low high (lvalue_step (map-Lvalue Lvalue Tokens lvalue_tokens (lvalue_in y)))
      → TargetInOrder low high (target_step (map-Lvalue Lvalue TargetMeaning target (lvalue_in y)))
  lvalue-case (Lvalue-F.Name name ss) low high h a =
      name-target name ss low high a.0 (parts.selects ss (suc name) high (let b = a.1 in omega arith) a.2)
  lvalue-case (Lvalue-F.Concatenation opening ys closing) low high h a =
      concatenated-target opening (map target (map (λ e. e.0) ys)) closing low high a.0 a.1 (each-target ys (suc opening) high (let b = a.1 in omega arith) a.2)
  lvalue-case (Lvalue-F.Stream opening op at z inner ys inner_closing closing) low high h a =
      let s = split (if_there (option_map slice_tokens z)) (in_row (map lvalue_tokens (map (λ e. e.0) ys))) (suc opening) high (let b = a.1 in omega arith) a.2 in
      stream-target opening op at z inner (map target (map (λ e. e.0) ys)) inner_closing closing low s.between high a.0 (let b = s.from in omega arith) s.to
      (slice-in-order z (suc opening) s.between s.from s.before) (each-target ys s.between high s.to s.behind)

  lvalue-level : (y : Lvalue-F ALvalue) → OfLvalue (roll-Lvalue (lvalue_in y))
  lvalue-level y low high h a =
      subst (λ m. TargetInOrder low high m) (sym (fold-roll-Lvalue TargetMeaning target_step (lvalue_in y)))
      (lvalue-case y low high h (subst (λ ts. Ascend low high ts) (fold-roll-Lvalue Tokens lvalue_step (lvalue_in y)) a))

  pub target-in-order : (l : Lvalue) → Ordered lvalue_tokens (λ low high l. TargetInOrder low high (target l)) l
  target-in-order = ind-Lvalue OfLvalue (λ x y is. subst (λ z. OfLvalue (roll-Lvalue z)) is (lvalue-level y))

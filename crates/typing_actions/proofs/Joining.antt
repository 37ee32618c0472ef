-- Targets as parts of concatenations and streams.
use Rattle.std.proofs.Common.{◌≡◌, ℕ, Bool, true, false, List, map, Some, refl, sym, ap, ◌∙◌, subst}
use Rattle.std.specs.Prelude.{Result, Ok, Err, IfOk, Vec}
use Rattle.std.specs.declared.alloc.Global.{Global}
use Rattle.std.proofs.lemmas.List.{map-id}
use Rattle.sv_tree.specs.declared.operators.StreamOperator.{StreamOperator}
use Rattle.sv_types.specs.declared.statement.Function.{Function}
use Rattle.operand_types.specs.Allowed.{IsNarrow}
use Rattle.expr_type.specs.declared.halt.Halt.{Halt}
use Rattle.expr_type.specs.declared.operand.Valued.{Valued}
use Rattle.expr_type.specs.Answers.{Gives}
use Rattle.expr_type.specs.Breaks.{Position}
use Rattle.expr_type.specs.Forms.{reverses}
use Rattle.expr_type.specs.Names.{Context}
use Rattle.expr_type.specs.Shapes.{is_enum, is_unpacked}
use Rattle.expr_type.specs.Names as N
use Rattle.expr_type.specs.Targets as D
use Rattle.expr_type.specs.Targets.{ToPath, ToParts, ToStream, is_target_part}
use Rattle.expr_type.specs.Typings.{Checked, Typing, beside, checked, refused, rule, whole}
use Rattle.typing_steps.specs.Steps.{TypesTo}
use Rattle.typing_steps.proofs.Combining.{beside-fine, checked-fine, checked-stops, rule-types}
use Rattle.typing_calls.specs.Lists.{all_meant, as_meant}
use Rattle.typing_assigns.specs.declared.target.Target.{Target}
use Rattle.typing_assigns.specs.declared.target.Target.TheVariants as T
use Rattle.typing_assigns.specs.declared.target.TargetPart.{TargetPart}
use Rattle.typing_assigns.specs.Parts.{GivesTarget, IsNarrowTarget, part_meant, part_result}
use Rattle.typing_assigns.specs.Targets.{StandsFor, TargetsTo}
use Rattle.typing_sides.specs.Sides.{first_stop, stop}
use Rattle.typing_actions.specs.Walks as W
use Rattle.typing_actions.specs.Walks.{as_itself}
use Rattle.typing_sides.proofs.Together.{beside-stops}
use Rattle.typing_actions.proofs.Together.{meant-stop}

-- a part of a concatenation
meant-part : (r : Result TargetPart Halt) → part_result r ≡ as_meant part_meant r
meant-part (Ok p) = refl
meant-part (Err h) = refl

pub part-fine : (k : Context) (x : Typing D.Target) (fs gs : List Function) (c : Target) (r : Result TargetPart Halt) → ((d : D.Target) → StandsFor c d → Gives (part_result r) (is_target_part k d)) → TargetsTo (Ok c) (x fs) gs
    → TypesTo (as_meant part_meant r) (W.as_part k x fs) gs
part-fine k x fs gs c r h p =
    subst (λ (z : Result D.TargetPart Halt). TypesTo z (W.as_part k x fs) gs) (meant-part r)
    (checked-fine x (λ u. rule (is_target_part k u)) fs gs gs p.target (part_result r) p.gives (rule-types (part_result r) (is_target_part k p.target) gs (h p.target p.stands)))

pub part-stops : (k : Context) (x : Typing D.Target) (fs gs : List Function) (h : Halt) → TargetsTo (Err h) (x fs) gs → TypesTo {A = D.TargetPart} (Err h) (W.as_part k x fs) gs
part-stops k x fs gs h p = checked-stops x (λ u. rule (is_target_part k u)) fs gs h p

whole-narrow : (c : Target) (d : D.Target) → StandsFor c d → IsNarrowTarget c → IsNarrow (D.whole_of d)
whole-narrow (T.Path v) d s n = subst (λ (t : D.Target). IsNarrow (D.whole_of t)) (sym s) n
whole-narrow (T.Parts v e) d s n = subst (λ (t : D.Target). IsNarrow (D.whole_of t)) (sym s.is) n
whole-narrow (T.Stream v) d s n = subst (λ (t : D.Target). IsNarrow (D.whole_of t)) (sym s) n

kept : (p : Position) (n : ℕ) (b : Bool) (q s : D.TargetPart) → refused b p n (Ok q) ≡ Ok s → q ≡ s
kept p n true q s h = absurd (cc)
kept p n false q s h = cc

part-whole : (k : Context) (d : D.Target) (p : D.TargetPart) → is_target_part k d ≡ Ok p → p.of ≡ D.whole_of d
part-whole k (ToPath v) p h =
    ap (λ (q : D.TargetPart). q.of) (sym (kept (N.position k.source v.first) 508 (is_unpacked v.expr.of) (record { of = v; has_enum = is_enum v.expr.of }) p h))
part-whole k (ToParts v vs e) p h =
    let q : D.TargetPart = record { of = v; has_enum = e } in
    let is : q ≡ p = cc in
    ap (λ (z : D.TargetPart). z.of) (sym is)
part-whole k (ToStream v) p h = absurd (cc)

pub part-narrow : (k : Context) (x : Typing D.Target) (fs gs : List Function) (c : Target) (r : Result TargetPart Halt) → ((d : D.Target) → StandsFor c d → Gives (part_result r) (is_target_part k d)) → TargetsTo (Ok c) (x fs) gs
    → IsNarrowTarget c → IfOk r (λ p. IsNarrow p.of)
part-narrow k x fs gs c (Ok p) h t n = subst IsNarrow (sym (part-whole k t.target (part_meant p) (h t.target t.stands))) (whole-narrow c t.target t.stands n)
part-narrow k x fs gs c (Err e) h t n = tt

pub ruleset parts = (part-fine, part-stops, part-narrow)

-- a part of a stream
pub whole-fine : (x : Typing D.Target) (fs gs : List Function) (c : Target) (v : Valued) → ((d : D.Target) → StandsFor c d → v ≡ D.whole_of d) → TargetsTo (Ok c) (x fs) gs → TypesTo (Ok v) (W.as_whole x fs) gs
whole-fine x fs gs c v h p =
    subst (λ (u : Valued). TypesTo (Ok u) (W.as_whole x fs) gs) (sym (h p.target p.stands))
    (checked-fine x (λ u. whole (D.whole_of u)) fs gs gs p.target (Ok (D.whole_of p.target)) p.gives refl)

pub whole-stops : (x : Typing D.Target) (fs gs : List Function) (h : Halt) → TargetsTo (Err h) (x fs) gs → TypesTo {A = Valued} (Err h) (W.as_whole x fs) gs
whole-stops x fs gs h p = checked-stops x (λ u. whole (D.whole_of u)) fs gs h p

pub value-narrow : (x : Typing D.Target) (fs gs : List Function) (c : Target) (v : Valued) → ((d : D.Target) → StandsFor c d → v ≡ D.whole_of d) → TargetsTo (Ok c) (x fs) gs → IsNarrowTarget c → IsNarrow v
value-narrow x fs gs c v h p n = subst IsNarrow (sym (h p.target p.stands)) (whole-narrow c p.target p.stands n)

pub ruleset wholes = (whole-fine, whole-stops, value-narrow)

-- a rule that gives a target
then-target : {A : Type 0} (x : Typing A) (f : A → Checked D.Target) (fs gs : List Function) (a : A) (r : Result Target Halt) → TypesTo (Ok a) (x fs) gs → GivesTarget r (f a) → TargetsTo r (checked x (λ u. rule (f u)) fs) gs
then-target x f fs gs a (Ok c) p g = record {
  target = g.target;
  stands = g.stands;
  gives = checked-fine x (λ u. rule (f u)) fs gs gs a (Ok g.target) p (rule-types (Ok g.target) (f a) gs g.gives);
}
then-target x f fs gs a (Err h) p g = checked-fine x (λ u. rule (f u)) fs gs gs a (Err h) p (rule-types (Err h) (f a) gs g)

pub join-fine : (k : Context) (opening : ℕ) (x : Typing (List D.TargetPart)) (fs gs : List Function) (v : Vec TargetPart Global) (r : Result Target Halt) → GivesTarget r (D.joined_target k opening (map part_meant v.items))
    → TypesTo (Ok (map part_meant v.items)) (x fs) gs → TargetsTo r (W.joined k opening x fs) gs
join-fine k opening x fs gs v r g p = then-target x (D.joined_target k opening) fs gs (map part_meant v.items) r p g

pub join-stops : (k : Context) (opening : ℕ) (x : Typing (List D.TargetPart)) (fs gs : List Function) (h : Halt) → TypesTo {A = List D.TargetPart} (Err h) (x fs) gs → TargetsTo (Err h) (W.joined k opening x fs) gs
join-stops k opening x fs gs h p = checked-stops x (λ ps. rule (D.joined_target k opening ps)) fs gs h p

pub ruleset joins = (join-fine, join-stops)

-- a stream
abbrev stream_of : Context → ℕ → StreamOperator → ℕ × List Valued → Checked D.Target
stream_of k opening op p = D.stream_target k opening (reverses op) p.0 p.1

pub stream-fine : (k : Context) (opening : ℕ) (op : StreamOperator) (x : Typing ℕ) (y : Typing (List Valued)) (fs gs hs : List Function) (a : Result ℕ Halt) (b : Result (Vec Valued Global) Halt) (n : ℕ) (v : Vec Valued Global) (reversed : Bool)
    (r : Result Target Halt) → a ≡ Ok n → b ≡ Ok v → reversed ≡ reverses op → GivesTarget r (D.stream_target k opening reversed n v.items) → TypesTo a (x fs) gs → TypesTo (all_meant as_itself b) (y gs) hs
    → TargetsTo r (W.streamed k opening op x y fs) hs
stream-fine k opening op x y fs gs hs a b n v reversed r e f is g p q =
    let first : TypesTo (Ok n) (x fs) gs = subst (λ (z : Result ℕ Halt). TypesTo z (x fs) gs) e p in
    let meant : TypesTo (Ok (map as_itself v.items)) (y gs) hs = subst (λ (z : Result (Vec Valued Global) Halt). TypesTo (all_meant as_itself z) (y gs) hs) f q in
    let second : TypesTo (Ok v.items) (y gs) hs = subst (λ (vs : List Valued). TypesTo (Ok vs) (y gs) hs) (map-id v.items) meant in
    then-target (beside x y) (stream_of k opening op) fs hs (n, v.items) r (beside-fine x y fs gs hs n v.items first second)
    (subst (λ (c : Bool). GivesTarget r (D.stream_target k opening c n v.items)) is g)

pub stream-stops : (k : Context) (opening : ℕ) (op : StreamOperator) (x : Typing ℕ) (y : Typing (List Valued)) (fs gs hs : List Function) (a : Result ℕ Halt) (b : Result (Vec Valued Global) Halt) (h : Halt) → first_stop (stop a) (stop b) ≡ Some h
    → TypesTo a (x fs) gs → TypesTo (all_meant as_itself b) (y gs) hs → TargetsTo (Err h) (W.streamed k opening op x y fs) hs
stream-stops k opening op x y fs gs hs a b h s p q =
    checked-stops (beside x y) (λ z. rule (stream_of k opening op z)) fs hs h
    (beside-stops x y fs gs hs a (all_meant as_itself b) h (ap (first_stop (stop a)) (meant-stop as_itself b) ∙ s) p q)

pub ruleset streams = (stream-fine, stream-stops)

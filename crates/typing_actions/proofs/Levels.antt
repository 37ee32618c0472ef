-- Targets by their forms.
use Rattle.std.proofs.Common.{◌≡◌, Bool, true, ℕ, List, [], ◌∷◌, map, Option, refl, sym, ap, ◌∙◌, subst}
use Rattle.std.specs.Prelude.{Result, ◌&&◌}
use Rattle.std.specs.Option.{option_map}
use Rattle.sv_tree.specs.declared.expressions.Select.{Select}
use Rattle.sv_tree.specs.declared.expressions.SliceSize.{SliceSize}
use Rattle.sv_tree.specs.declared.operators.StreamOperator.{StreamOperator}
use Rattle.sv_tree.specs.declared.statements.Lvalue.{Lvalue, Lvalue-F, fold-roll-Lvalue}
use Rattle.sv_tree.specs.declared.statements.Lvalue.TheVariants as V
use Rattle.sv_types.specs.declared.statement.Function.{Function}
use Rattle.expr_type.specs.declared.halt.Halt.{Halt}
use Rattle.expr_type.specs.declared.operand.Valued.{Valued}
use Rattle.expr_type.specs.Names.{Context}
use Rattle.expr_type.specs.Targets as D
use Rattle.expr_type.specs.Targets.{TargetMeaning, is_target_part, slice_or_one, target, target_step, whole_of}
use Rattle.expr_type.specs.Typings as Y
use Rattle.expr_type.specs.Typings.{Typing, checked, rule, whole}
use Rattle.stmt_walks.specs.Written as S
use Rattle.stmt_walks.specs.Written.{lvalue_written}
use Rattle.typing_fits.proofs.Full.{and-left, and-right}
use Rattle.typing_walks.specs.Written.{all, if_there, select_written, slice_written, some_and_all}
use Rattle.typing_assigns.specs.declared.target.Target.{Target}
use Rattle.typing_assigns.specs.Targets.{TargetsTo}
use Rattle.typing_actions.specs.Walks as W

-- what each form means

name-level : (name : ℕ) (ss : List Select) → target (V.Name name ss) ≡ target_step (Lvalue-F.Name name ss)
name-level name ss = ap target (sym (V.rolls-Name name ss)) ∙ fold-roll-Lvalue TargetMeaning target_step (Lvalue-F.Name name ss)

parts-level : (opening : ℕ) (ts : List Lvalue) (closing : ℕ) → target (V.Concatenation opening ts closing) ≡ target_step (Lvalue-F.Concatenation opening (map target ts) closing)
parts-level opening ts closing =
    ap target (sym (V.rolls-Concatenation opening ts closing)) ∙ fold-roll-Lvalue TargetMeaning target_step (Lvalue-F.Concatenation opening ts closing)

stream-level : (opening : ℕ) (op : StreamOperator) (at : ℕ) (size : Option SliceSize) (inner : ℕ) (ts : List Lvalue) (inner_closing closing : ℕ)
    → target (V.Stream opening op at size inner ts inner_closing closing) ≡ target_step (Lvalue-F.Stream opening op at size inner (map target ts) inner_closing closing)
stream-level opening op at size inner ts inner_closing closing =
    ap target (sym (V.rolls-Stream opening op at size inner ts inner_closing closing)) ∙ fold-roll-Lvalue TargetMeaning target_step (Lvalue-F.Stream opening op at size inner ts inner_closing closing)

-- parts in a row
abbrev part_by : Context → Bool → TargetMeaning → Typing D.TargetPart
part_by k b t = checked (t k b) (λ u. rule (is_target_part k u))

part-rows : (k : Context) (b : Bool) (ts : List Lvalue) → map (part_by k b) (map target ts) ≡ map (W.part_of k b) ts
part-rows k b [] = refl
part-rows k b (t ∷ ts) = ap (λ (xs : List (Typing D.TargetPart)). W.part_of k b t ∷ xs) (part-rows k b ts)

abbrev whole_by : Context → Bool → TargetMeaning → Typing Valued
whole_by k b t = checked (t k b) (λ u. whole (whole_of u))

whole-rows : (k : Context) (b : Bool) (ts : List Lvalue) → map (whole_by k b) (map target ts) ≡ map (W.whole_at k b) ts
whole-rows k b [] = refl
whole-rows k b (t ∷ ts) = ap (λ (xs : List (Typing Valued)). W.whole_at k b t ∷ xs) (whole-rows k b ts)

-- so the forms are these
pub name-target : (k : Context) (b : Bool) (to : Lvalue) (name : ℕ) (ss : List Select) (fs gs : List Function) (r : Result Target Halt) → to ≡ V.Name name ss → TargetsTo r (W.path_of_name k b name ss fs) gs → TargetsTo r (target to k b fs) gs
name-target k b to name ss fs gs r is h = subst (λ (m : TargetMeaning). TargetsTo r (m k b fs) gs) (sym (ap target is ∙ name-level name ss)) h

pub parts-target : (k : Context) (b : Bool) (to : Lvalue) (opening : ℕ) (ts : List Lvalue) (closing : ℕ) (fs gs : List Function) (r : Result Target Halt) → to ≡ V.Concatenation opening ts closing
    → TargetsTo r (W.joined k opening (W.parts_of k b ts) fs) gs → TargetsTo r (target to k b fs) gs
parts-target k b to opening ts closing fs gs r is h =
    subst (λ (m : TargetMeaning). TargetsTo r (m k b fs) gs) (sym (ap target is ∙ parts-level opening ts closing))
    (subst (λ (xs : List (Typing D.TargetPart)). TargetsTo r (W.joined k opening (Y.all xs) fs) gs) (sym (part-rows k b ts)) h)

pub stream-target : (k : Context) (b : Bool) (to : Lvalue) (opening : ℕ) (op : StreamOperator) (at : ℕ) (size : Option SliceSize) (inner : ℕ) (ts : List Lvalue) (inner_closing closing : ℕ) (fs gs : List Function) (r : Result Target Halt)
    → to ≡ V.Stream opening op at size inner ts inner_closing closing → TargetsTo r (W.streamed k opening op (slice_or_one k size) (W.wholes_of k b ts) fs) gs → TargetsTo r (target to k b fs) gs
stream-target k b to opening op at size inner ts inner_closing closing fs gs r is h =
    subst (λ (m : TargetMeaning). TargetsTo r (m k b fs) gs) (sym (ap target is ∙ stream-level opening op at size inner ts inner_closing closing))
    (subst (λ (xs : List (Typing Valued)). TargetsTo r (W.streamed k opening op (slice_or_one k size) (Y.all xs) fs) gs) (sym (whole-rows k b ts)) h)

pub ruleset forms = (name-target, parts-target, stream-target)

-- what is written in them
some-all : (bs : List Bool) → some_and_all bs ≡ true → all bs ≡ true
some-all [] w = absurd (cc)
some-all (b ∷ bs) w = w

pub name-written : (to : Lvalue) (name : ℕ) (ss : List Select) → to ≡ V.Name name ss → lvalue_written to ≡ true → all (map select_written ss) ≡ true
name-written to name ss is w =
    sym (fold-roll-Lvalue Bool S.lvalue_step (Lvalue-F.Name name ss)) ∙ ap lvalue_written (V.rolls-Name name ss ∙ sym is) ∙ w

pub parts-written : (to : Lvalue) (opening : ℕ) (ts : List Lvalue) (closing : ℕ) → to ≡ V.Concatenation opening ts closing → lvalue_written to ≡ true → all (map lvalue_written ts) ≡ true
parts-written to opening ts closing is w =
    some-all (map lvalue_written ts)
    (sym (fold-roll-Lvalue Bool S.lvalue_step (Lvalue-F.Concatenation opening ts closing)) ∙ ap lvalue_written (V.rolls-Concatenation opening ts closing ∙ sym is) ∙ w)

stream-written : (to : Lvalue) (opening : ℕ) (op : StreamOperator) (at : ℕ) (size : Option SliceSize) (inner : ℕ) (ts : List Lvalue) (inner_closing closing : ℕ) → to ≡ V.Stream opening op at size inner ts inner_closing closing
    → lvalue_written to ≡ true → (if_there (option_map slice_written size) && some_and_all (map lvalue_written ts)) ≡ true
stream-written to opening op at size inner ts inner_closing closing is w =
    sym (fold-roll-Lvalue Bool S.lvalue_step (Lvalue-F.Stream opening op at size inner ts inner_closing closing)) ∙ ap lvalue_written (V.rolls-Stream opening op at size inner ts inner_closing closing ∙ sym is) ∙ w

pub size-written : (to : Lvalue) (opening : ℕ) (op : StreamOperator) (at : ℕ) (size : Option SliceSize) (inner : ℕ) (ts : List Lvalue) (inner_closing closing : ℕ) → to ≡ V.Stream opening op at size inner ts inner_closing closing
    → lvalue_written to ≡ true → if_there (option_map slice_written size) ≡ true
size-written to opening op at size inner ts inner_closing closing is w =
    and-left (if_there (option_map slice_written size)) (some_and_all (map lvalue_written ts)) (stream-written to opening op at size inner ts inner_closing closing is w)

pub wholes-written : (to : Lvalue) (opening : ℕ) (op : StreamOperator) (at : ℕ) (size : Option SliceSize) (inner : ℕ) (ts : List Lvalue) (inner_closing closing : ℕ) → to ≡ V.Stream opening op at size inner ts inner_closing closing
    → lvalue_written to ≡ true → all (map lvalue_written ts) ≡ true
wholes-written to opening op at size inner ts inner_closing closing is w =
    some-all (map lvalue_written ts)
    (and-right (if_there (option_map slice_written size)) (some_and_all (map lvalue_written ts)) (stream-written to opening op at size inner ts inner_closing closing is w))

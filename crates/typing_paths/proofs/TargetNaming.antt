-- Names that are assigned to, by what they stand for.
use Rattle.std.proofs.Common.{◌≡◌, ◌≤◌, ◌∙◌, ◌-◌, ℕ, List, [], ◌∷◌, Bool, arith, drop, get_or, length, map, rules, sym, ap, subst, take}
use Rattle.std.proofs.lemmas.List.{take_rest}
use Rattle.std.specs.Prelude.{Result}
use Rattle.sv_tree.specs.Extents.{qualified_first}
use Rattle.sv_tree.specs.declared.expressions.Select.{Select, Select-F, the_lemmas}
use Rattle.sv_tree.specs.declared.expressions.Select.TheVariants as V
use Rattle.sv_tree.specs.declared.names.QualifiedName.{QualifiedName}
use Rattle.sv_types.specs.declared.statement.Function.{Function}
use Rattle.sv_types.specs.declared.types.SvType.{SvType}
use Rattle.sv_types.specs.Layouts.{width_of}
use Rattle.expr_type.specs.declared.halt.Halt.{Halt}
use Rattle.expr_type.specs.declared.operand.Valued.{Valued}
use Rattle.expr_type.specs.Expressions as E
use Rattle.expr_type.specs.Expressions.{select_meaning}
use Rattle.expr_type.specs.Forms.{SelectMeaning}
use Rattle.expr_type.specs.Names.{Context, Thing, Signal, Local, thing}
use Rattle.expr_type.specs.TargetNames.{interface_target, is_net_found, thing_target}
use Rattle.expr_type.specs.Typings.{rule}
use Rattle.typing_fits.specs.Operands.{SoundContext, SoundThing}
use Rattle.typing_fits.specs.Sound.{IsNarrowType}
use Rattle.typing_fits.proofs.Names.{thing-sound}
use Rattle.sv_tree.specs.declared.expressions.Expr.{Expr}
use Rattle.pattern_types.specs.declared.operand.Operand as O
use Rattle.typing_parts.specs.declared.known.Known.{Known}
use Rattle.typing_parts.specs.Typists.{AllCanType}
use Rattle.typing_paths.specs.TypingValues.{in_select, in_selects}
use Rattle.typing_paths.proofs.Typable.{can-rest}
use Rattle.typing_steps.specs.Steps.{TypesTo}
use Rattle.typing_paths.specs.Paths.{path_of}
use Rattle.typing_paths.specs.Names.{local_path_of, member_path_of, member_target_of, named_target_of, signal_path_of}

-- signals and locals are narrow
pub signal-narrow : (k : Context) (of : QualifiedName) (n : ℕ) (t : SvType) → SoundContext k → thing k of ≡ Signal n t → width_of t ≤ 4194304
signal-narrow k of n t s e = let sound : IsNarrowType t = subst SoundThing e (thing-sound k of s) in sound.narrow

pub local-narrow : (k : Context) (of : QualifiedName) (n : ℕ) (t : SvType) → SoundContext k → thing k of ≡ Local n t → width_of t ≤ 4194304
local-narrow k of n t s e = let sound : IsNarrowType t = subst SoundThing e (thing-sound k of s) in sound.narrow

-- the first select names a member of an interface
front : (ss : List Select) (s : Select) → 1 ≤ length ss → s ≡ get_or ss 0 s → ss ≡ s ∷ drop 1 ss
front [] s l e = absurd (omega arith)
front (x ∷ ss) s l e = ap (λ (y : Select). y ∷ ss) (sym e)

member-level : (dot name : ℕ) → select_meaning (V.Member dot name) ≡ E.select_step (Select-F.Member dot name)
member-level dot name = search (rules, the_lemmas)

pub by-member : (k : Context) (in_statement : Bool) (first interface : ℕ) (ss : List Select) (s : Select) (dot name : ℕ) (r : Result Valued Halt) (fs gs : List Function)
    → 1 ≤ length ss → s ≡ get_or ss 0 s → s ≡ V.Member dot name → TypesTo r (path_of k (rule (member_target_of k in_statement first interface name)) (take (length ss - 1) (drop 1 ss)) fs) gs
    → TypesTo r (member_path_of k in_statement first interface ss fs) gs
by-member k in_statement first interface ss s dot name r fs gs l e is h =
    subst (λ (ts : List Select). TypesTo r (member_path_of k in_statement first interface ts fs) gs) (sym (front ss s l e))
    (subst (λ (m : SelectMeaning). TypesTo r (interface_target k in_statement first interface (m ∷ map select_meaning (drop 1 ss)) fs) gs) (sym (ap select_meaning is ∙ member-level dot name))
    (subst (λ (ts : List Select). TypesTo r (path_of k (rule (member_target_of k in_statement first interface name)) ts fs) gs) (take_rest ss 1) h))

-- what stands in the selects behind the first can be typed
pub can-behind : (R S : Type 0) (tree : R → Expr) (held : S → Known) (pre : R → S → Type 0) (post : R → S → Result O.Operand Halt → S → Type 0) (k : Context) (ss : List Select) (s : Select)
    → 1 ≤ length ss → s ≡ get_or ss 0 s → AllCanType R S tree held pre post k (in_selects ss) → AllCanType R S tree held pre post k (in_selects (take (length ss - 1) (drop 1 ss)))
can-behind R S tree held pre post k ss s l e c =
    subst (λ (ts : List Select). AllCanType R S tree held pre post k (in_selects ts)) (sym (take_rest ss 1))
    (can-rest R S tree held pre post k (in_select s) (in_selects (drop 1 ss)) (subst (λ (ts : List Select). AllCanType R S tree held pre post k (in_selects ts)) (front ss s l e) c))

-- the name of a signal and that of a local
pub by-signal : (k : Context) (in_statement : Bool) (of : QualifiedName) (ss : List Select) (n : ℕ) (t : SvType) (r : Result Valued Halt) (fs gs : List Function) → thing k of ≡ Signal n t
    → TypesTo r (signal_path_of k in_statement of n t ss fs) gs → TypesTo r (named_target_of k in_statement of ss fs) gs
by-signal k in_statement of ss n t r fs gs e h =
    subst (λ (x : Thing). TypesTo r (thing_target k in_statement (qualified_first of) (is_net_found k (k.finds of)) (map select_meaning ss) x fs) gs) (sym e) h

pub by-local : (k : Context) (in_statement : Bool) (of : QualifiedName) (ss : List Select) (n : ℕ) (t : SvType) (r : Result Valued Halt) (fs gs : List Function) → thing k of ≡ Local n t
    → TypesTo r (local_path_of k of n t ss fs) gs → TypesTo r (named_target_of k in_statement of ss fs) gs
by-local k in_statement of ss n t r fs gs e h =
    subst (λ (x : Thing). TypesTo r (thing_target k in_statement (qualified_first of) (is_net_found k (k.finds of)) (map select_meaning ss) x fs) gs) (sym e) h

-- What the indices of targets name, form by form.
use Rattle.std.proofs.Common.{◌≡◌, ℕ, List, ◌++◌, map, sym, ap, ◌∙◌, refl}
use Rattle.std.specs.Prelude.{flat_map}
use Rattle.v_tree.specs.Names.{Name}
use Rattle.v_tree.specs.declared.expressions.VSel.{VSel}
use Rattle.v_tree.specs.declared.statements.VLval.{VLval}
use Rattle.v_tree.specs.declared.statements.VLval.TheVariants as G
use Rattle.v_footprints.proofs.Levels as K
use Rattle.v_meaning.specs.Scopes.{Scope}
use Rattle.v_meaning.specs.Values.{sel_meaning, sel_names}
use Rattle.v_meaning.specs.Selects.{SelMeaning}
use Rattle.v_meaning.specs.Statements.{Target, target, lval_step, name_target, joined_target}

name-names : (n : Name) (ss : List SelMeaning) (sc : Scope) → (name_target n ss).names sc ≡ sel_names ss sc
unfolding name_target
name-names n ss sc = refl

joined-names : (ts : List Target) (sc : Scope) → (joined_target ts).names sc ≡ flat_map (λ (t : Target). t.names sc) ts
unfolding joined_target
joined-names ts sc = refl

pub name-added : (t : VLval) (n : Name) (ss : List VSel) (old new : List ℕ) (sc : Scope) → t ≡ G.Name n ss → new ≡ old ++ sel_names (map sel_meaning ss) sc → new ≡ old ++ (target t).names sc
name-added t n ss old new sc is e = e ∙ ap (λ l. old ++ l) (sym (ap (λ (x : Target). x.names sc) (ap target is ∙ K.at-name lval_step n ss) ∙ name-names n (map sel_meaning ss) sc))

pub concat-added : (t : VLval) (ts : List VLval) (old new : List ℕ) (sc : Scope) → t ≡ G.Concat ts → new ≡ old ++ flat_map (λ (u : Target). u.names sc) (map target ts) → new ≡ old ++ (target t).names sc
concat-added t ts old new sc is e = e ∙ ap (λ l. old ++ l) (sym (ap (λ (x : Target). x.names sc) (ap target is ∙ K.at-concat lval_step ts) ∙ joined-names (map target ts) sc))
